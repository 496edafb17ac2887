-- The page table: a bit set, and records noted one after another.
use Rattle.std.proofs.Common.{◌≡◌, ℕ, zero, suc, ◌+◌, ◌*◌, ◌%◌, ◌^◌, ◌<◌, ◌≤◌, Bool, true, false, cond, eqb, length, sym, refl, ap, ◌∙◌, ⊎_elim, add-one, arith}
use Rattle.std.specs.Int.{w64, bit_at}
use Rattle.std.specs.Int.Bits.{bit_or}
use Rattle.std.proofs.lemmas.Bool.{cases_eq, cases_Bool, eq-eqb, ne_eqb}
use Rattle.std.proofs.lemmas.Bool.Decides.{nat_tests}
use Rattle.std.proofs.lemmas.Nat.Bits.{bit_at-zero, bit_at_above, bit_at_set_same, bit_at_set_other}
use Rattle.record.specs.Entry.{Entry}
use Rattle.journal.specs.declared.pages.PageTable.{PageTable}
use Rattle.journal.specs.Pages.{names, covers, in_log, named_in, covered_in, unsaid, Agree, Told, Noted, NotedFrom, Tabled}

or_none : (b : Bool) → cond b true false ≡ b
or_none true = refl
or_none false = refl

cond_none : (b : Bool) → cond b false false ≡ false
cond_none true = refl
cond_none false = refl

cond_same : (b : Bool) → cond b true true ≡ true
cond_same true = refl
cond_same false = refl

false-true : {A : Type 0} → false ≡ true → A
false-true h = let z : ◌≡◌ {A = Bool} false true = h in cc

-- a bit past the last says nothing
pub no_bit : (n p : ℕ) → n < 2 ^ 64 → 64 ≤ p → eqb (bit_at n p) 1 ≡ false
no_bit n p bound past = ap (λ (x : ℕ). eqb x 1) (bit_at_above n 64 p bound past)

-- the bit of a page, set
bit_set : (n k p : ℕ) → k < 64 → eqb (bit_at (bit_or n (1 * 2 ^ k % 2 ^ 64)) p) 1 ≡ cond (eqb k p) true (eqb (bit_at n p) 1)
bit_set n k p within =
    ⊎_elim
    (λ (e : k ≡ p).
    let t = eq-eqb k p e in
    rw t (ap (λ (x : ℕ). eqb x 1) (ap (bit_at (bit_or n (1 * 2 ^ k % 2 ^ 64))) (sym e) ∙ bit_at_set_same w64 n k within)))
    (λ ne.
    let t = ne_eqb k p ne in
    rw t (ap (λ (x : ℕ). eqb x 1) (bit_at_set_other w64 n k within p (λ e. ne (sym e)))))
    (cases_eq k p)

-- the table with a page's bits set

pub told_whole : (k n c : ℕ) (whole : Bool) → k < 64 → whole ≡ true
    → Told k whole (record { named = n; covered = c }) (record { named = bit_or n (1 * 2 ^ k % 2 ^ 64); covered = bit_or c (1 * 2 ^ k % 2 ^ 64) })
told_whole k n c whole within is =
    record {
      named = λ p small. bit_set n k p within;
      covered = λ p small. rw is (bit_set c k p within ∙ ap (λ (b : Bool). cond b true (eqb (bit_at c p) 1)) (sym (or_none (eqb k p))));
    }

pub told_part : (k n c : ℕ) (whole : Bool) → k < 64 → whole ≡ false
    → Told k whole (record { named = n; covered = c }) (record { named = bit_or n (1 * 2 ^ k % 2 ^ 64); covered = c })
told_part k n c whole within is =
    record {
      named = λ p small. bit_set n k p within;
      covered = λ p small. rw is (ap (λ (b : Bool). cond b true (eqb (bit_at c p) 1)) (sym (cond_none (eqb k p))));
    }

-- tests joined by `or`, in other groups
or_group : (a b c : Bool) → cond a true (cond b true c) ≡ cond (cond a true b) true c
or_group true b c = refl
or_group false b c = refl

-- the first of a log's records, and one more

pub in_log_none : (says : Entry → ℕ → Bool) (l : ℕ → Entry) (low p : ℕ) → in_log says l low 0 p ≡ false
unfolding in_log
in_log_none says l low p = refl

pub in_log_more : (says : Entry → ℕ → Bool) (l : ℕ → Entry) (low k p : ℕ) → in_log says l low (k + 1) p ≡ cond (says (l (low + k)) p) true (in_log says l low k p)
unfolding in_log
in_log_more says l low k p = rw add-one refl

flags_none : (says : Entry → ℕ → Bool) (l : ℕ → Entry) (low : ℕ) (flags : ℕ → Bool) → Agree flags (λ p. cond (in_log says l low 0 p) true (flags p))
flags_none says l low flags p small = ap (λ (b : Bool). cond b true (flags p)) (sym (in_log_none says l low p))

flags_more : (says : Entry → ℕ → Bool) (l : ℕ → Entry) (low k : ℕ) (start before after : ℕ → Bool)
    → Agree before (λ p. cond (in_log says l low k p) true (start p)) → Agree after (λ p. cond (says (l (low + k)) p) true (before p))
    → Agree after (λ p. cond (in_log says l low (k + 1) p) true (start p))
flags_more says l low k start before after old new p small =
    new p small
    ∙ ap (λ (b : Bool). cond (says (l (low + k)) p) true b) (old p small)
    ∙ or_group (says (l (low + k)) p) (in_log says l low k p) (start p)
    ∙ ap (λ (b : Bool). cond b true (start p)) (sym (in_log_more says l low k p))

pub noted_none : (l : ℕ → Entry) (low : ℕ) (table : PageTable) → NotedFrom l low 0 table table
noted_none l low table =
    record { named = flags_none names l low (named_in table); covered = flags_none covers l low (covered_in table) }

pub noted_more : (l : ℕ → Entry) (low k : ℕ) (start before after : PageTable) → NotedFrom l low k start before → Noted (l (low + k)) before after → NotedFrom l low (k + 1) start after
noted_more l low k start before after old new =
    record {
      named = flags_more names l low k (named_in start) (named_in before) (named_in after) old.named new.named;
      covered = flags_more covers l low k (covered_in start) (covered_in before) (covered_in after) old.covered new.covered;
    }

-- the table of records that were noted in one that said nothing

nowhere : (p : ℕ) → eqb (bit_at 0 p) 1 ≡ false
nowhere p = ap (λ (x : ℕ). eqb x 1) (bit_at-zero p)

flags_from : (test all : ℕ → Bool) → Agree all (λ p. cond (test p) true (eqb (bit_at 0 p) 1)) → Agree all test
flags_from test all h p small = h p small ∙ ap (λ (b : Bool). cond (test p) true b) (nowhere p) ∙ or_none (test p)

pub tabled : (l : ℕ → Entry) (low k : ℕ) (table : PageTable) → NotedFrom l low k unsaid table → Tabled l low k table
tabled l low k table h =
    record {
      named = flags_from (in_log names l low k) (named_in table) h.named;
      covered = flags_from (in_log covers l low k) (covered_in table) h.covered;
    }

pub tabled_none : (l : ℕ → Entry) (low : ℕ) → Tabled l low 0 unsaid
tabled_none l low = tabled l low 0 unsaid (noted_none l low unsaid)

pub tabled_more : (l : ℕ → Entry) (low k : ℕ) (before after : PageTable) → Tabled l low k before → Noted (l (low + k)) before after → Tabled l low (k + 1) after
tabled_more l low k before after old new =
    record {
      named = λ p small. new.named p small ∙ ap (λ (b : Bool). cond (names (l (low + k)) p) true b) (old.named p small) ∙ sym (in_log_more names l low k p);
      covered = λ p small. new.covered p small ∙ ap (λ (b : Bool). cond (covers (l (low + k)) p) true b) (old.covered p small) ∙ sym (in_log_more covers l low k p);
    }

-- a mark says nothing of a page

unnamed : (e : Entry) (p : ℕ) → e.kind ≡ 4 → names e p ≡ false
unnamed e p mark = grind (arith, nat_tests)

uncovered : (e : Entry) (p : ℕ) → length e.bytes ≡ 0 → covers e p ≡ false
uncovered e p bare = grind (arith, nat_tests)

pub mark_noted : (e : Entry) (table : PageTable) → e.kind ≡ 4 → length e.bytes ≡ 0 → Noted e table table
mark_noted e table mark bare =
    record {
      named = λ p small. ap (λ (b : Bool). cond b true (named_in table p)) (sym (unnamed e p mark));
      covered = λ p small. ap (λ (b : Bool). cond b true (covered_in table p)) (sym (uncovered e p bare));
    }

-- a page is covered in the table where a record covers it

pub covers_found : (l : ℕ → Entry) (low k p : ℕ) → in_log covers l low k p ≡ true → (s : ℕ) × (low ≤ s) × (s < low + k) × (covers (l s) p ≡ true)
unfolding in_log
covers_found l low zero p h = absurd (false-true h)
covers_found l low (suc k) p h =
    ⊎_elim
    (λ (t : covers (l (low + k)) p ≡ true). (low + k, omega arith, omega arith, t))
    (λ (f : covers (l (low + k)) p ≡ false).
    let r = covers_found l low k p (ap (λ (b : Bool). cond b true (in_log covers l low k p)) (sym f) ∙ h) in
    (r.0, r.1, omega (arith, r.2), r.3))
    (cases_Bool (covers (l (low + k)) p))

pub covers_there : (l : ℕ → Entry) (low k p s : ℕ) → low ≤ s → s < low + k → covers (l s) p ≡ true → in_log covers l low k p ≡ true
unfolding in_log
covers_there l low zero p s a b t = absurd (omega arith)
covers_there l low (suc k) p s a b t =
    ⊎_elim
    (λ (e : s ≡ low + k). let here : covers (l (low + k)) p ≡ true = ap (λ (j : ℕ). covers (l j) p) (sym e) ∙ t in ap (λ (c : Bool). cond c true (in_log covers l low k p)) here)
    (λ ne. let r = covers_there l low k p s a (omega arith) t in ap (λ (c : Bool). cond (covers (l (low + k)) p) true c) r ∙ cond_same (covers (l (low + k)) p))
    (cases_eq s (low + k))
