-- Ranges at the end of the memory, and one over the bound of two pages.
use Rattle.std.proofs.Common.{◌≡◌, ℕ, ◌+◌, ◌<◌, ◌≤◌, min, max, List, [], ◌∷◌, length, Some, None, Ok, Err, Option, Result, refl, ap, ◌∙◌, inl, inr, ⊎_elim, lit≤, arith}
use Rattle.std.proofs.lemmas.Bool.{cases_lt, lt-ltb, le-ltb}
use Rattle.image.specs.declared.run.Run.{Run}
use Rattle.image.specs.declared.run.ImageFault.{ImageFault}
use Rattle.image.specs.declared.run.ImageFault.TheVariants as image
use Rattle.image.specs.declared.state.Image.{Image}
use Rattle.image.specs.Calls.{declared, Declares}
use Rattle.image.specs.Cut.{cut, cut_runs}
use Rattle.image.specs.Runs.{run, joined}
use Rattle.image.specs.Stretch.{OutOfRange}
use Rattle.image.proofs.Alone.{runs_are_joined}
use Rattle.transactions.specs.declared.fault.StoreFault.{StoreFault}
use Rattle.transactions.specs.declared.fault.StoreFault.TheVariants.{Range}
use Rattle.transactions.specs.declared.state.State.{State}
use Rattle.transactions.specs.Calls.{SetsRange}
use Rattle.transactions.specs.Fault.{from_image}
use Rattle.transactions.specs.Parts.{parts}
use Rattle.transactions.specs.Rows.{first_fit, token_rows}
use Rattle.transactions.specs.State.{MadeOf}
use Rattle.transactions.specs.declared.log.Log.{Log}
use Rattle.edges.specs.Ranges.{Fitting, part_at, LastByteDeclared, RefusedAtTheEnd, CutInTwo}

-- a stretch joined in makes one run more at most
joined_more : (f t : ℕ) (rs : List Run) → length (joined f t rs) ≤ 1 + length rs
joined_more f t [] = omega arith
joined_more f t (r ∷ rs) =
    ⊎_elim
    (λ k. let e = lt-ltb t r.from k in rw e (omega arith))
    (λ k.
    ⊎_elim
    (λ m. let e = le-ltb t r.from k in let g = lt-ltb r.to f m in rw (e, g) (omega (arith, joined_more f t rs)))
    (λ m. let e = le-ltb t r.from k in let g = le-ltb r.to f m in rw (e, g) (omega (arith, joined_more (min f r.from) (max t r.to) rs)))
    (cases_lt r.to f))
    (cases_lt t r.from)

-- a refusal of a test that passed
pub not_both : (o : Option (ℕ × List ℕ)) (f : ℕ × List ℕ) → o ≡ None → o ≡ Some f → ⊥
not_both None f h k = let z : ◌≡◌ {A = ℕ} 0 1 = cc in omega (arith, z)
not_both (Some g) f h k = let z : ◌≡◌ {A = ℕ} 0 1 = cc in omega (arith, z)

-- what the memory may refuse a stretch for that lies in it
last_byte : (x y : Image) (g : ImageFault) → length (declared x) < 16 → Declares 6143 1 x (Err g) y → ⊥
last_byte x y (image.Range s) few h = ⊎_elim (λ none. omega (arith, none)) (λ past. omega (arith, past)) h.out
last_byte x y (image.Runs s) few h =
    let is = ap (λ (rs : List Run). length rs) (runs_are_joined 6143 6144 x.runs h.runs (lit≤ tt) h.declares) in
    omega (arith, few, h.many, is, joined_more 6143 6144 (declared x))
last_byte x y (image.Undeclared b) few h = h

pub last_byte_declared : LastByteDeclared
last_byte_declared s s' token (Ok tt) fits few h = refl
last_byte_declared s s' token (Err f) fits few (inl (row, same)) = absurd (not_both (first_fit (token_rows s token)) _ fits row)
last_byte_declared s s' token (Err f) fits few (inr (g, row, is, does, made)) = absurd (last_byte s.image s'.image g few does)

-- what it does with one that doesn't
past_the_end : (size : ℕ) (x y : Image) (g : ImageFault) → OutOfRange 6143 size → Declares 6143 size x (Err g) y → (g ≡ image.Range 6143) × (y ≡ x)
past_the_end size x y (image.Range s) out h = (ap image.Range h.told, h.same)
past_the_end size x y (image.Runs s) out h =
    absurd (⊎_elim (λ none. omega (arith, none, h.in_range.0)) (λ past. omega (arith, past, h.in_range.1)) out)
past_the_end size x y (image.Undeclared b) out h = absurd h

refused : (size : ℕ) → OutOfRange 6143 size → (s s' : State) (token : ℕ) (r : Result (Unit {0}) StoreFault) → Fitting s token → SetsRange s token 6143 size r s' → (r ≡ Err (Range 6143)) × MadeOf s' s.image s.spool s.log s.busy s.on
refused size out s s' token (Ok u) fits (row, does, made) =
    absurd (⊎_elim (λ none. omega (arith, none, does.in_range.0)) (λ past. omega (arith, past, does.in_range.1)) out)
refused size out s s' token (Err f) fits (inl (row, same)) = absurd (not_both (first_fit (token_rows s token)) _ fits row)
refused size out s s' token (Err f) fits (inr (g, row, is, does, made)) =
    let h = past_the_end size s.image s'.image g out does in (
      ap Err (is ∙ ap from_image h.0),
      record { image_is = h.1; spool_is = made.spool_is; log_is = made.log_is; busy_is = made.busy_is; on_is = made.on_is },
    )

pub refused_at_the_end : (size : ℕ) → OutOfRange 6143 size → RefusedAtTheEnd size
refused_at_the_end size out = record { row = refl; refused = refused size out }

-- the pieces of one run from 90 to 102
two_parts : (ordinal : ℕ) (memory : List ℕ) → parts ordinal memory (cut_runs (run 90 102 ∷ [])) ≡ part_at ordinal memory 1 0 90 90 6 ∷ part_at ordinal memory 2 1 0 96 6 ∷ []
unfolding cut
two_parts ordinal memory = refl

pub cut_in_two : CutInTwo
cut_in_two s s' token u none (row, does, made) =
    let runs : declared s'.image ≡ run 90 102 ∷ [] = runs_are_joined 90 102 s.image.runs (declared s'.image) (lit≤ tt) does.declares ∙ ap (joined 90 102) none in
    ap (λ (x : ℕ). parts (x + 1) s'.image.memory (cut_runs (declared s'.image))) (ap (λ (l : Log). l.ordinal) made.log_is)
    ∙ ap (λ (m : List ℕ). parts (s.log.ordinal + 1) m (cut_runs (declared s'.image))) does.memory
    ∙ ap (λ (rs : List Run). parts (s.log.ordinal + 1) s.image.memory (cut_runs rs)) runs
    ∙ two_parts (s.log.ordinal + 1) s.image.memory
