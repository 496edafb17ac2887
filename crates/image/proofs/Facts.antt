-- The ghost facts of runs and pieces, and what they say of each run and each byte.
use Rattle.std.proofs.Common.{◌≡◌, ℕ, zero, suc, ◌+◌, ◌/◌, ◌%◌, ◌<◌, ◌≤◌, Bool, true, false, cond, ltb, leb, ◌⊎◌, List, [], ◌∷◌, length, get_or, drop, sym, refl, ap, ◌∙◌, subst, inl, inr, ⊎_elim, arith, add-one}
use mathlib.Core.Logic.{∥∥₁_elim, ∥∥₁_map}
use mathlib.Core.HLevel.{⊥_prop}
use Rattle.std.proofs.lemmas.Bool.{cases_lt, le-leb, lt-leb, lt-ltb, le-ltb}
use Rattle.image.specs.declared.run.Run.{Run}
use Rattle.image.specs.declared.run.Piece.{Piece}
use Rattle.image.specs.declared.runs.Runs.{Runs}
use Rattle.image.specs.Runs.{Declared, is_declared, Apart, Inside}
use Rattle.image.specs.Calls.{listed}
use Rattle.image.specs.Cut.{FitsPage, AllPieces}

-- an order is one fact, so it comes out of a truncation
pub le_out : (a b : ℕ) → ∥ a ≤ b ∥₁ → a ≤ b
le_out a b h = ⊎_elim (λ (k : b < a). absurd (∥∥₁_elim h ⊥_prop (λ (m : a ≤ b). omega arith))) (λ (k : a ≤ b). k) (cases_lt b a)

lt_out : (a b : ℕ) → ∥ a < b ∥₁ → a < b
lt_out a b h = ⊎_elim (λ (k : a < b). k) (λ (k : b ≤ a). absurd (∥∥₁_elim h ⊥_prop (λ (m : a < b). omega arith))) (cases_lt a b)

pub apart_out : (floor : ℕ) (rs : List Run) → ∥ Apart floor rs ∥₁ → Apart floor rs
apart_out floor [] h = tt
apart_out floor (r ∷ rs) h =
    (le_out floor r.from (∥∥₁_map h (λ a. a.0)), lt_out r.from r.to (∥∥₁_map h (λ a. a.1)), apart_out (r.to + 1) rs (∥∥₁_map h (λ a. a.2)))

pub inside_out : (rs : List Run) → ∥ Inside rs ∥₁ → Inside rs
inside_out [] h = tt
inside_out (r ∷ rs) h = (le_out r.to 6144 (∥∥₁_map h (λ a. a.0)), inside_out rs (∥∥₁_map h (λ a. a.1)))

-- runs that lie above a bound lie above a lower one
pub apart_lower : (x y : ℕ) (rs : List Run) → x ≤ y → Apart y rs → Apart x rs
apart_lower x y [] h apart = tt
apart_lower x y (r ∷ rs) h (a, b, rest) = (omega arith, b, rest)

-- a piece fits its page, and each of many does
fits_out : (p : Piece) → ∥ FitsPage p ∥₁ → FitsPage p
fits_out p h = record {
  page = lt_out (p.start / 96) 64 (∥∥₁_map h (λ f. f.page));
  some = le_out 1 p.size (∥∥₁_map h (λ f. f.some));
  within = le_out (p.start % 96 + p.size) 96 (∥∥₁_map h (λ f. f.within));
}

pub all_out : (ps : List Piece) → ∥ AllPieces ps ∥₁ → AllPieces ps
all_out [] h = tt
all_out (p ∷ ps) h = (fits_out p (∥∥₁_map h (λ a. a.0)), all_out ps (∥∥₁_map h (λ a. a.1)))

-- the run at place i
pub some_at : (floor : ℕ) (rs : List Run) (i : ℕ) (d : Run) → Apart floor rs → i < length rs → (get_or rs i d).from < (get_or rs i d).to
some_at floor [] i d h k = absurd (omega arith)
some_at floor (r ∷ rs) zero d h k = h.1
some_at floor (r ∷ rs) (suc i) d h k = some_at (r.to + 1) rs i d h.2 (omega arith)

pub inside_at : (rs : List Run) (i : ℕ) (d : Run) → Inside rs → i < length rs → (get_or rs i d).to ≤ 6144
inside_at [] i d h k = absurd (omega arith)
inside_at (r ∷ rs) zero d h k = h.0
inside_at (r ∷ rs) (suc i) d h k = inside_at rs i d h.1 (omega arith)

-- whether a byte is in a run
abbrev pub in_run : Run → ℕ → Bool
in_run r i = cond (leb r.from i) (ltb i r.to) false

pub within_run : (r : Run) (i : ℕ) → r.from ≤ i → i < r.to → in_run r i ≡ true
within_run r i h k = let e = le-leb r.from i h in let f = lt-ltb i r.to k in rw (e, f)

pub below_run : (r : Run) (i : ℕ) → i < r.from → in_run r i ≡ false
below_run r i h = let e = lt-leb r.from i h in rw e

pub above_run : (r : Run) (i : ℕ) → r.to ≤ i → in_run r i ≡ false
above_run r i h = let f = le-ltb i r.to h in rw f (both (leb r.from i))
  where
    both : (b : Bool) → cond b false false ≡ false
    both true = refl
    both false = refl

pub outside_run : (r : Run) (i : ℕ) → ((r.from ≤ i) × (i < r.to) → ⊥) → in_run r i ≡ false
outside_run r i h = ⊎_elim (λ k. below_run r i k) (λ k. ⊎_elim (λ m. absurd (h (k, m))) (λ m. above_run r i m) (cases_lt i r.to)) (cases_lt i r.from)

-- the test tells what is declared
pub declared_true : (rs : List Run) (i : ℕ) → Declared rs i → is_declared rs i ≡ true
declared_true [] i h = absurd h
declared_true (r ∷ rs) i (inl (h, k)) = let e = within_run r i h k in ap (λ b. cond b true (is_declared rs i)) e
declared_true (r ∷ rs) i (inr h) = let e = declared_true rs i h in rw e (both (in_run r i))
  where
    both : (b : Bool) → cond b true true ≡ true
    both true = refl
    both false = refl

pub declared_false : (rs : List Run) (i : ℕ) → (Declared rs i → ⊥) → is_declared rs i ≡ false
declared_false [] i h = refl
declared_false (r ∷ rs) i h =
    ap (λ b. cond b true (is_declared rs i)) (outside_run r i (λ k. h (inl k))) ∙ declared_false rs i (λ k. h (inr k))

pub cases_declared : (rs : List Run) (i : ℕ) → Declared rs i ⊎ (Declared rs i → ⊥)
cases_declared [] i = inr (λ h. h)
cases_declared (r ∷ rs) i =
    elim (cases_declared rs i) [
      | inl h ↦ inl (inr h)
      | inr h ↦
          ⊎_elim
          (λ (k : i < r.from). inr (⊎_elim (λ (p : (r.from ≤ i) × (i < r.to)). omega arith) h))
          (λ (k : r.from ≤ i).
          ⊎_elim
          (λ (m : i < r.to). inl (inl (k, m)))
          (λ (m : r.to ≤ i). inr (⊎_elim (λ (p : (r.from ≤ i) × (i < r.to)). omega arith) h))
          (cases_lt i r.to))
          (cases_lt i r.from)
    ]

-- the run at place k of xs, which are the runs of s
pub bounds : (s : Runs) (xs : List Run) (k : ℕ) (d : Run) → xs ≡ listed s → k < length xs → ((get_or xs k d).from < (get_or xs k d).to) × ((get_or xs k d).to ≤ 6144)
bounds s xs k d e h =
    (some_at 0 xs k d (subst (Apart 0) (sym e) (apart_out 0 (listed s) s.apart)) h, inside_at xs k d (subst Inside (sym e) (inside_out (listed s) s.inside)) h)

-- those after it lie above it
pub apart_after : (floor : ℕ) (rs : List Run) (k : ℕ) (d : Run) → Apart floor rs → k < length rs → Apart ((get_or rs k d).to + 1) (drop (k + 1) rs)
apart_after floor [] k d h l = absurd (omega arith)
apart_after floor (r ∷ rs) zero d h l = h.2
apart_after floor (r ∷ rs) (suc k) d h l = simp add-one (simp add-one at (apart_after (r.to + 1) rs k d h.2 (omega arith)))
