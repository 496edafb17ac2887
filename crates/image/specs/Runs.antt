-- Declared bytes as runs: stretches that don't touch, in order.
use Rattle.std.specs.Prelude.{ℕ, ◌+◌, ◌<◌, ◌≤◌, min, max, Bool, true, false, cond, ◌⊎◌, List, [], ◌∷◌, nat_le, nat_lt}
use Rattle.image.specs.declared.run.Run.{Run}

abbrev pub run : ℕ → ℕ → Run
run f t = record { from = f; to = t }

-- Byte i is declared.
abbrev pub Declared : List Run → ℕ → Type 0
Declared [] i = ⊥
Declared (r ∷ rs) i = ((r.from ≤ i) × (i < r.to)) ⊎ Declared rs i

-- The same as a test.
abbrev pub is_declared : List Run → ℕ → Bool
is_declared [] i = false
is_declared (r ∷ rs) i = cond (cond (nat_le r.from i) (nat_lt i r.to) false) true (is_declared rs i)

-- Each run has bytes, and begins above `floor` and past the one before it with a gap between.
abbrev pub Apart : ℕ → List Run → Type 0
Apart floor [] = Unit {0}
Apart floor (r ∷ rs) = (floor ≤ r.from) × (r.from < r.to) × Apart (r.to + 1) rs

-- Each run ends inside the memory.
abbrev pub Inside : List Run → Type 0
Inside [] = Unit {0}
Inside (r ∷ rs) = (r.to ≤ 6144) × Inside rs

-- These runs lie apart, and declare the bytes from f to t and those of rs, and no others.
pub record DeclaresAlso (f t : ℕ) (rs rs' : List Run) : Type 0 where
  pub apart : Apart 0 rs'
  pub all : (i : ℕ) → ((f ≤ i) × (i < t)) ⊎ Declared rs i → Declared rs' i
  pub only : (i : ℕ) → Declared rs' i → ((f ≤ i) × (i < t)) ⊎ Declared rs i

-- The runs once the bytes from f to t are declared too: runs that they touch or overlap become one.
abbrev pub joined : ℕ → ℕ → List Run → List Run
joined f t [] = run f t ∷ []
joined f t (r ∷ rs) =
    cond (nat_lt t r.from) (run f t ∷ r ∷ rs)
    (cond (nat_lt r.to f) (r ∷ joined f t rs) (joined (min f r.from) (max t r.to) rs))

-- Joining a stretch in declares its bytes beside those declared before, and no others; and where runs lie
-- apart, they do so afterwards.
abbrev pub Joins : Type 0
Joins =
    (f t : ℕ) (rs : List Run) → f < t
    → ((i : ℕ) → ((f ≤ i) × (i < t)) ⊎ Declared rs i → Declared (joined f t rs) i)
    × ((i : ℕ) → Declared (joined f t rs) i → ((f ≤ i) × (i < t)) ⊎ Declared rs i)
    × ((floor : ℕ) → floor ≤ f → Apart floor rs → Apart floor (joined f t rs))
