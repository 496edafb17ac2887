-- What the page table has once records are noted.
use Rattle.std.proofs.Common.{◌≡◌, ℕ, ◌/◌, Bool, true, false, cond, eqb, leb, ltb, List, [], ◌∷◌, length, sym, refl, ap, ◌∙◌}
use Rattle.journal.specs.declared.pages.PageTable.{PageTable}
use Rattle.journal.specs.Pages.{names, covers, named_in, covered_in, Agree, Told, Noted}
use Rattle.record.specs.Entry.{Entry}
use Rattle.durability.specs.Items.{Item, recorded}
use Rattle.image.specs.declared.run.Piece.{Piece}
use Rattle.image.specs.Cut.{FitsPage}
use Rattle.transactions.specs.Pages.{Gains}
use Rattle.transactions.specs.Parts.{part, parts}
use Rattle.transactions.specs.Truncation.{in_items}
use Rattle.transactions.proofs.Appending.{or_none}
use Rattle.transactions.proofs.Fitting.{long_part}

-- the record of a piece was noted, if the piece's page was

kinds : (b : Bool) → cond (leb 1 (cond b 2 1)) (ltb (cond b 2 1) 4) false ≡ true
kinds true = refl
kinds false = refl

or_cond : (a b c : Bool) → b ≡ true → cond a true c ≡ cond (cond a b false) true c
or_cond true b c h = ap (λ (x : Bool). cond x true c) (sym h)
or_cond false b c h = refl

pub noted_part : (o : ℕ) (m : List ℕ) (b : Bool) (p : Piece) (before after : PageTable) → length m ≡ 6144 → FitsPage p
    → Told (p.start / 96) (eqb p.size 96) before after → Noted (recorded 0 0 (part o m (cond b 2 1) p)) before after
noted_part o m b p before after whole fit told =
    record {
      named = λ q small. told.named q small ∙ or_cond (eqb (p.start / 96) q) (cond (leb 1 (cond b 2 1)) (ltb (cond b 2 1) 4) false) (named_in before q) (kinds b);
      covered =
          λ q small.
          told.covered q small
          ∙ ap (λ (n : ℕ). cond (cond (eqb (p.start / 96) q) (eqb n 96) false) true (covered_in before q)) (sym (long_part m p whole fit));
    }

-- nothing gained, and one record more

pub gains_none : (table : PageTable) → Gains [] table table
gains_none table =
    record { named = λ p small. sym (or_none (named_in table p)); covered = λ p small. sym (or_none (covered_in table p)) }

or_first : (a b c : Bool) → cond (cond a true b) true c ≡ cond b true (cond a true c)
or_first true true c = refl
or_first true false c = refl
or_first false b c = refl

flags_first : (says : Entry → ℕ → Bool) (x : Item) (xs : List Item) (start first after : ℕ → Bool) → Agree first (λ p. cond (says (recorded 0 0 x) p) true (start p))
    → Agree after (λ p. cond (first p) true (in_items says xs p)) → Agree after (λ p. cond (start p) true (in_items says (x ∷ xs) p))
flags_first says x xs start first after new rest p small =
    rest p small
    ∙ ap (λ (b : Bool). cond b true (in_items says xs p)) (new p small)
    ∙ or_first (says (recorded 0 0 x) p) (start p) (in_items says xs p)

pub gains_first : (x : Item) (xs : List Item) (start first after : PageTable) → Noted (recorded 0 0 x) start first → Gains xs first after → Gains (x ∷ xs) start after
gains_first x xs start first after new rest =
    record {
      named = flags_first names x xs (named_in start) (named_in first) (named_in after) new.named rest.named;
      covered = flags_first covers x xs (covered_in start) (covered_in first) (covered_in after) new.covered rest.covered;
    }

-- one piece of many, by whose part the others follow
pub noted_next : (o : ℕ) (m : List ℕ) (p : Piece) (ps : List Piece) (start first after : PageTable) → length m ≡ 6144 → FitsPage p
    → Told (p.start / 96) (eqb p.size 96) start first → Gains (parts o m ps) first after → Gains (parts o m (p ∷ ps)) start after
noted_next o m p [] start first after whole fit told rest = gains_first (part o m 2 p) [] start first after (noted_part o m true p start first whole fit told) rest
noted_next o m p (q ∷ ps) start first after whole fit told rest =
    gains_first (part o m 1 p) (parts o m (q ∷ ps)) start first after (noted_part o m false p start first whole fit told) rest
