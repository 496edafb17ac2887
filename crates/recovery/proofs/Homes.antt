-- Pages started from their homes.
use Rattle.std.proofs.Common.{◌≡◌, ℕ, ◌+◌, ◌-◌, ◌*◌, ◌/◌, ◌%◌, ◌<◌, Bool, true, false, List, length, get_or, replicate, cond, eqb, sym, refl, ap, ◌∙◌, subst, ⊎_elim, arith, below_more}
use lib.ListN.{get_or-replicate}
use Rattle.std.proofs.lemmas.Bool.{cases_lt, cases_eq, eq-eqb, ne_eqb}
use Rattle.device.specs.Disk.{Disk, Shown, spoiled, holds}
use Rattle.journal.specs.declared.pages.PageTable.{PageTable}
use Rattle.journal.specs.Pages.{covered_in}
use Rattle.journal.specs.Memory.{overlaid, byte_of, from_home}
use Rattle.journal.proofs.Overlay.{overlaid_below, overlaid_within, overlaid_above}
use Rattle.recovery.specs.Reading.{Fetched, HomeLoaded}

-- a sector with what was fetched, or zeros where that is spoiled, is what is shown
shown_byte : (d : Disk) (s : ℕ) (bytes sector : List ℕ) (readable : Bool) → Fetched d s bytes readable → sector ≡ cond readable bytes (replicate 128 0) → (j : ℕ) → j < 128 → get_or sector j 0 ≡ byte_of (d.shows s) j
shown_byte d s bytes sector true h is j k = ap (λ (x : List ℕ). get_or x j 0) is ∙ ap (λ (x : Shown). byte_of x j) (sym h)
shown_byte d s bytes sector false h is j k = ap (λ (x : List ℕ). get_or x j 0) is ∙ get_or-replicate 128 j 0 0 k ∙ ap (λ (x : Shown). byte_of x j) (sym h)

fetched_told : (d : Disk) (s : ℕ) (bytes : List ℕ) (readable : Bool) → Fetched d s bytes readable → (d.shows s ≡ spoiled → readable ≡ false) × (readable ≡ false → d.shows s ≡ spoiled)
fetched_told d s bytes true h = ((λ e. let z : holds bytes ≡ spoiled = sym h ∙ e in cc), (λ e. let z : ◌≡◌ {A = Bool} true false = e in cc))
fetched_told d s bytes false h = ((λ _. refl), (λ _. h))

-- bytes that were put in from a page's first byte on, where they are the first of a sector
pub page_put : (p : ℕ) (before after sector bytes : List ℕ) → length bytes ≡ 96 → ((j : ℕ) → j < 96 → get_or bytes j 0 ≡ get_or sector j 0) → ((i : ℕ) → get_or after i 0 ≡ overlaid (p * 96) bytes i (get_or before i 0)) → (i : ℕ) → get_or after i 0 ≡ cond (eqb (i / 96) p) (get_or sector (i % 96) 0) (get_or before i 0)
page_put p before after sector bytes long same put i =
    ⊎_elim
    (λ e.
    let t = eq-eqb (i / 96) p e in
    rw t
    (put i
    ∙ overlaid_within (p * 96) bytes i (get_or before i 0) (omega arith) (omega arith)
    ∙ same (i - p * 96) (omega arith)
    ∙ ap (λ (j : ℕ). get_or sector j 0) (omega arith)))
    (λ ne.
    let t = ne_eqb (i / 96) p ne in
    rw t
    (put i
    ∙ ⊎_elim
    (λ h. overlaid_below (p * 96) bytes i (get_or before i 0) h)
    (λ h. ⊎_elim (λ k. absurd (ne (omega arith))) (λ k. overlaid_above (p * 96) bytes i (get_or before i 0) h (omega arith)) (cases_lt i (p * 96 + 96)))
    (cases_lt i (p * 96))))
    (cases_eq (i / 96) p)

pub home_loaded : (d : Disk) (n p : ℕ) (before after bytes sector : List ℕ) (readable : Bool) → Fetched d (n + p) bytes readable → sector ≡ cond readable bytes (replicate 128 0) → ((i : ℕ) → get_or after i 0 ≡ cond (eqb (i / 96) p) (get_or sector (i % 96) 0) (get_or before i 0)) → HomeLoaded d n p before after readable
home_loaded d n p before after bytes sector readable fetched is put =
    record {
      bytes =
          λ i.
          put i
          ∙ ⊎_elim
          (λ e.
          let t = eq-eqb (i / 96) p e in
          rw t (shown_byte d (n + p) bytes sector readable fetched is (i % 96) (omega arith) ∙ ap (λ (q : ℕ). byte_of (d.shows (n + q)) (i % 96)) (sym e)))
          (λ ne. let t = ne_eqb (i / 96) p ne in rw t refl)
          (cases_eq (i / 96) p);
      told = fetched_told d (n + p) bytes readable fetched;
    }

-- how far the loading has come
pub record LoadedTo (n : ℕ) (d m : Disk) (p : ℕ) (covered : PageTable) (memory : List ℕ) : Type 0 where
  pub same : m ≡ d
  pub bytes : (i : ℕ) → i < p * 96 → get_or memory i 0 ≡ from_home n d.shows i
  pub spoiled_covered : (q : ℕ) → q < p → d.shows (n + q) ≡ spoiled → covered_in covered q ≡ true

pub load_goes : (n : ℕ) (d m e : Disk) (p : ℕ) (covered : PageTable) (before after : List ℕ) (readable : Bool) → LoadedTo n d m p covered before → e ≡ m → HomeLoaded m n p before after readable → (readable ≡ false → covered_in covered p ≡ true) → LoadedTo n d e (p + 1) covered after
load_goes n d m e p covered before after readable old same new is_covered =
    let here = subst (λ (x : Disk). HomeLoaded x n p before after readable) old.same new in
    record {
      same = same ∙ old.same;
      bytes =
          λ i h.
          here.bytes i
          ∙ ⊎_elim
          (λ e. let t = eq-eqb (i / 96) p e in rw t refl)
          (λ ne. let t = ne_eqb (i / 96) p ne in rw t (old.bytes i (omega arith)))
          (cases_eq (i / 96) p);
      spoiled_covered = below_more _ _ old.spoiled_covered (λ gone. is_covered (here.told.0 gone));
    }
