-- What is declared once a stretch is joined in, and that runs stay apart.
use Rattle.std.proofs.Common.{◌≡◌, ℕ, zero, suc, ◌+◌, ◌<◌, ◌≤◌, min, max, Bool, true, false, ◌⊎◌, List, [], ◌∷◌, ◌++◌, length, get_or, take, drop, insert, remove, sym, refl, ap, ap₂, ◌∙◌, subst, inl, inr, ⊎_elim, arith, length-append, length-drop, length-take-le}
use Rattle.std.proofs.lemmas.List.{drop_more, drop_all, drop-drop, drop_at, take_at}
use Rattle.std.proofs.lemmas.Bool.{cases_lt, lt-ltb, le-ltb}
use Rattle.image.specs.declared.run.Run.{Run}
use Rattle.image.specs.Runs.{run, Declared, Apart, Inside, joined}
use Rattle.image.specs.declared.runs.Runs.{Runs}
use Rattle.image.specs.Calls.{listed, JoinedIn, Below, Meets}
use Rattle.image.proofs.Facts.{apart_lower, apart_after, some_at}

-- the three ways a stretch meets the first run
before : (f t : ℕ) (r : Run) (rs : List Run) → t < r.from → joined f t (r ∷ rs) ≡ run f t ∷ r ∷ rs
before f t r rs h = let e = lt-ltb t r.from h in rw e

after : (f t : ℕ) (r : Run) (rs : List Run) → r.from ≤ t → r.to < f → joined f t (r ∷ rs) ≡ r ∷ joined f t rs
after f t r rs h k = let e = le-ltb t r.from h in let g = lt-ltb r.to f k in rw (e, g)

meets : (f t : ℕ) (r : Run) (rs : List Run) → r.from ≤ t → f ≤ r.to → joined f t (r ∷ rs) ≡ joined (min f r.from) (max t r.to) rs
meets f t r rs h k = let e = le-ltb t r.from h in let g = le-ltb r.to f k in rw (e, g)

-- runs stay apart
pub joined_apart : (floor f t : ℕ) (rs : List Run) → floor ≤ f → f < t → Apart floor rs → Apart floor (joined f t rs)
joined_apart floor f t [] low some apart = (low, some, tt)
joined_apart floor f t (r ∷ rs) low some (a, b, rest) =
    ⊎_elim
    (λ h. subst (λ (xs : List Run). Apart floor xs) (sym (before f t r rs h)) (low, some, (omega arith, b, rest)))
    (λ h.
    ⊎_elim
    (λ k. subst (λ (xs : List Run). Apart floor xs) (sym (after f t r rs h k)) (a, b, joined_apart (r.to + 1) f t rs (omega arith) some rest))
    (λ k.
    subst (λ (xs : List Run). Apart floor xs) (sym (meets f t r rs h k))
    (joined_apart floor (min f r.from) (max t r.to) rs (omega arith) (omega arith) (apart_lower floor (r.to + 1) rs (omega arith) rest)))
    (cases_lt r.to f))
    (cases_lt t r.from)

-- the bytes of the new stretch, or those declared before
abbrev pub Either : ℕ → ℕ → List Run → ℕ → Type 0
Either f t rs i = ((f ≤ i) × (i < t)) ⊎ Declared rs i

pub joined_covers : (f t : ℕ) (rs : List Run) (i : ℕ) → Either f t rs i → Declared (joined f t rs) i
joined_covers f t [] i (inl h) = inl h
joined_covers f t [] i (inr h) = absurd h
joined_covers f t (r ∷ rs) i h =
    ⊎_elim
    (λ k. subst (λ (xs : List Run). Declared xs i) (sym (before f t r rs k)) h)
    (λ k.
    ⊎_elim
    (λ m.
    subst (λ (xs : List Run). Declared xs i) (sym (after f t r rs k m))
    (elim h [ inl new ↦ inr (joined_covers f t rs i (inl new)) | inr (inl here) ↦ inl here | inr (inr old) ↦ inr (joined_covers f t rs i (inr old)) ]))
    (λ m.
    subst (λ (xs : List Run). Declared xs i) (sym (meets f t r rs k m))
    (joined_covers (min f r.from) (max t r.to) rs i
    (elim h [ inl new ↦ inl (omega arith, omega arith) | inr (inl here) ↦ inl (omega arith, omega arith) | inr (inr old) ↦ inr old ])))
    (cases_lt r.to f))
    (cases_lt t r.from)

-- two stretches that meet are one
one_stretch : (f t a b i : ℕ) → a ≤ t → f ≤ b → min f a ≤ i → i < max t b → ((f ≤ i) × (i < t)) ⊎ ((a ≤ i) × (i < b))
one_stretch f t a b i h k low high =
    ⊎_elim
    (λ (x : i < f). inr (omega arith, omega arith))
    (λ (x : f ≤ i). ⊎_elim (λ (y : i < t). inl (x, y)) (λ (y : t ≤ i). inr (omega arith, omega arith)) (cases_lt i t))
    (cases_lt i f)

pub joined_only : (f t : ℕ) (rs : List Run) (i : ℕ) → Declared (joined f t rs) i → Either f t rs i
joined_only f t [] i h = h
joined_only f t (r ∷ rs) i h =
    ⊎_elim
    (λ k. subst (λ (xs : List Run). Declared xs i) (before f t r rs k) h)
    (λ k.
    ⊎_elim
    (λ m.
    elim (subst (λ (xs : List Run). Declared xs i) (after f t r rs k m) h) [
      | inl here ↦ inr (inl here)
      | inr rest ↦ elim (joined_only f t rs i rest) [ inl new ↦ inl new | inr old ↦ inr (inr old) ]
    ])
    (λ m.
    elim (joined_only (min f r.from) (max t r.to) rs i (subst (λ (xs : List Run). Declared xs i) (meets f t r rs k m) h)) [
      | inl new ↦ elim (one_stretch f t r.from r.to i k m new.0 new.1) [ inl x ↦ inl x | inr y ↦ inr (inl y) ]
      | inr old ↦ inr (inr old)
    ])
    (cases_lt r.to f))
    (cases_lt t r.from)

-- runs stay inside the memory
pub joined_inside : (f t : ℕ) (rs : List Run) → t ≤ 6144 → Inside rs → Inside (joined f t rs)
joined_inside f t [] h inside = (h, tt)
joined_inside f t (r ∷ rs) h (a, rest) =
    ⊎_elim
    (λ k. subst (λ (xs : List Run). Inside xs) (sym (before f t r rs k)) (h, (a, rest)))
    (λ k.
    ⊎_elim
    (λ m. subst (λ (xs : List Run). Inside xs) (sym (after f t r rs k m)) (a, joined_inside f t rs h rest))
    (λ m. subst (λ (xs : List Run). Inside xs) (sym (meets f t r rs k m)) (joined_inside (min f r.from) (max t r.to) rs (omega arith) rest))
    (cases_lt r.to f))
    (cases_lt t r.from)

-- a stretch joined in makes at least one run
pub joined_some : (f t : ℕ) (rs : List Run) → 1 ≤ length (joined f t rs)
joined_some f t [] = omega arith
joined_some f t (r ∷ rs) =
    ⊎_elim
    (λ k. subst (λ (xs : List Run). 1 ≤ length xs) (sym (before f t r rs k)) (omega arith))
    (λ k.
    ⊎_elim
    (λ m. subst (λ (xs : List Run). 1 ≤ length xs) (sym (after f t r rs k m)) (omega arith))
    (λ m. subst (λ (xs : List Run). 1 ≤ length xs) (sym (meets f t r rs k m)) (joined_some (min f r.from) (max t r.to) rs))
    (cases_lt r.to f))
    (cases_lt t r.from)

-- behind runs that end below the stretch
joined_behind : (floor f t : ℕ) (rs : List Run) (k : ℕ) → f < t → Apart floor rs → k ≤ length rs
    → ((i : ℕ) → i < k → (get_or rs i (run 0 0)).to < f) → joined f t rs ≡ take k rs ++ joined f t (drop k rs)
joined_behind floor f t rs zero some apart h below = refl
joined_behind floor f t [] (suc k) some apart h below = absurd (omega arith)
joined_behind floor f t (r ∷ rs) (suc k) some (a, b, rest) h below =
    let here : r.to < f = below 0 (omega arith) in
    after f t r rs (omega arith) here
    ∙ ap (λ (xs : List Run). r ∷ xs) (joined_behind (r.to + 1) f t rs k some rest (omega arith) (λ i l. below (suc i) (omega arith)))

pub joined_below : (f t : ℕ) (rs : List Run) (k : ℕ) → f < t → Apart 0 rs → Below f rs k → joined f t rs ≡ take k rs ++ joined f t (drop k rs)
joined_below f t rs k some apart b = joined_behind 0 f t rs k some apart b.count b.below

-- the runs that are met give way to one
pub joined_whole : (f t : ℕ) (rs : List Run) (k n : ℕ) (r : Run) → f < t → Apart 0 rs → Below f rs k → Meets f t rs k n r
    → joined f t rs ≡ take k rs ++ r ∷ drop n rs
joined_whole f t rs k n r some apart b m = joined_below f t rs k some apart b ∙ ap (λ (xs : List Run). take k rs ++ xs) m.joins

-- the stretch has met one run more
pub meets_more : (f t g u k : ℕ) (rs ys : List Run) → Apart 0 rs → k < length rs → (get_or rs k (run 0 0)).from ≤ t → f ≤ (get_or rs k (run 0 0)).to
    → g ≡ min f (get_or rs k (run 0 0)).from → u ≡ max t (get_or rs k (run 0 0)).to → ys ≡ joined f t (drop k rs) → ys ≡ joined g u (drop (k + 1) rs)
meets_more f t g u k rs ys apart h low high left right was =
    was ∙ ap (λ (xs : List Run). joined f t xs) (drop_more rs k (run 0 0) h)
    ∙ meets f t (get_or rs k (run 0 0)) (drop (k + 1) rs) low high
    ∙ ap (λ (x : ℕ). joined x (max t (get_or rs k (run 0 0)).to) (drop (k + 1) rs)) (sym left)
    ∙ ap (λ (x : ℕ). joined g x (drop (k + 1) rs)) (sym right)

-- the run after lies above it
pub next_above : (rs : List Run) (k g : ℕ) → Apart 0 rs → k + 1 < length rs → g ≤ (get_or rs k (run 0 0)).from → g ≤ (get_or rs (k + 1) (run 0 0)).to
next_above rs k g apart h low =
    let here = some_at 0 rs k (run 0 0) apart (omega arith) in
    let rest = apart_after 0 rs k (run 0 0) apart (omega arith) in
    let more = drop_more rs (k + 1) (run 0 0) h in
    let first = subst (λ (xs : List Run). Apart ((get_or rs k (run 0 0)).to + 1) xs) more rest in
    omega (arith, first.0, first.1)

-- the stretch meets no further run
pub meets_end : (f t k : ℕ) (rs ys : List Run) → Apart 0 rs → (k < length rs → t < (get_or rs k (run 0 0)).from) → ys ≡ joined f t (drop k rs) → ys ≡ run f t ∷ drop k rs
meets_end f t k rs ys apart above was =
    ⊎_elim
    (λ (h : k < length rs).
    let more = drop_more rs k (run 0 0) h in
    was ∙ ap (λ (xs : List Run). joined f t xs) more
    ∙ before f t (get_or rs k (run 0 0)) (drop (k + 1) rs) (above h) ∙ ap (λ (xs : List Run). run f t ∷ xs) (sym more))
    (λ (h : length rs ≤ k). let none = drop_all k rs h in was ∙ ap (λ (xs : List Run). joined f t xs) none ∙ ap (λ (xs : List Run). run f t ∷ xs) (sym none))
    (cases_lt k (length rs))

-- a list without its part from f to i
cut_out : (f i : ℕ) (old now : List Run) → f ≤ length old → now ≡ take f old ++ drop i old → (take f now ≡ take f old) × (drop f now ≡ drop i old)
cut_out f i old now h was =
    let short = length-take-le f old h in
    (ap (take f) was ∙ take_at (take f old) (drop i old) f short, ap (drop f) was ∙ drop_at (take f old) (drop i old) f short)

-- one run more gives way
pub gives_way : (f i : ℕ) (old now new : List Run) → f ≤ length old → now ≡ take f old ++ drop i old → new ≡ remove now f → new ≡ take f old ++ drop (i + 1) old
gives_way f i old now new h was made =
    let parts = cut_out f i old now h was in
    let past : f + 1 ≡ suc f = omega arith in
    made
    ∙ ap₂ (λ (a b : List Run). a ++ b) parts.0
    (ap (λ (n : ℕ). drop n now) (sym past) ∙ sym (drop-drop 1 f now) ∙ ap (drop 1) parts.1 ∙ drop-drop 1 i old)

-- and another takes the place of all of them
pub takes_place : (f i : ℕ) (r : Run) (old now new : List Run) → f ≤ length old → now ≡ take f old ++ drop i old → new ≡ insert now f r → new ≡ take f old ++ r ∷ drop i old
takes_place f i r old now new h was made =
    let parts = cut_out f i old now h was in made ∙ ap₂ (λ (a b : List Run). a ++ r ∷ b) parts.0 parts.1

-- where the stretch meets none of sixteen runs, it makes them too many
pub too_many : (f t : ℕ) (rs : List Run) (k n : ℕ) (r : Run) → f < t → Apart 0 rs → Below f rs k → Meets f t rs k n r → k ≡ n → length rs ≡ 16
    → 16 < length (joined f t rs)
too_many f t rs k n r some apart b m same full =
    let e = ap length (joined_whole f t rs k n r some apart b m) in
    let l = length-append (take k rs) (r ∷ drop n rs) in
    omega (arith, length-take-le k rs b.count, length-drop n rs, b.count)

-- what was declared still is
pub still_declared : (f t : ℕ) (x : Runs) (b : Bool) (y : Runs) → JoinedIn f t x b y → (i : ℕ) → Declared (listed x) i → Declared (listed y) i
still_declared f t x true y e i h = subst (λ (rs : List Run). Declared rs i) (sym e) (joined_covers f t (listed x) i (inr h))
still_declared f t x false y (many, same) i h = subst (λ (z : Runs). Declared (listed z) i) (sym same) h
