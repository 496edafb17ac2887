-- The model of a device: all that the code above may rest on.
use Rattle.std.specs.Prelude.{◌≡◌, ℕ, Bool, ◌⊎◌, List, [], ◌∷◌}

-- What a sector shows when it is read: its bytes, or that it is spoiled.
pub data Shown : Type 0 where
  spoiled : Shown
  holds : List ℕ → Shown

-- What never changes about a device: how many sectors it has; the origin that it tells where it
-- refuses a call itself; the origins of the ends below it, in one of which power fails; and the
-- origin told where sector i is read and is spoiled.
pub record Plate : Type 0 where
  pub sectors : ℕ
  pub origin : ℕ
  pub ends : List ℕ
  pub blames : ℕ → ℕ

-- A device as the code above knows it. What a restart may find in sector i is what it shows or one
-- of `others i`: a finite list, since a sector has finitely many contents.
pub record Disk : Type 0 where
  pub plate : Plate
  pub on : Bool
  pub shows : ℕ → Shown
  pub others : ℕ → List Shown
  -- the origin told by the call in which power failed last
  pub told : ℕ

-- x is among xs
abbrev pub Among : {A : Type 0} → A → List A → Type 0
Among x [] = ⊥
Among x (y ∷ ys) = (x ≡ y) ⊎ Among x ys

-- x may stand in sector i: a restart may find it there
abbrev pub Stands : Disk → ℕ → Shown → Type 0
Stands d i x = Among x (d.shows i ∷ d.others i)
