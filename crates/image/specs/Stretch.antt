-- Which stretches lie in the memory.
use Rattle.std.specs.Prelude.{◌≡◌, ℕ, ◌+◌, ◌<◌, ◌≤◌, ◌⊎◌, Ok, Err, Result}
use Rattle.image.specs.declared.run.Run.{Run}
use Rattle.image.specs.declared.run.ImageFault.{ImageFault}
use Rattle.image.specs.declared.run.ImageFault.TheVariants.{Range, Runs as Too-many, Undeclared}
use Rattle.image.specs.Runs.{run}

abbrev pub InRange : ℕ → ℕ → Type 0
InRange start size = (1 ≤ size) × (start + size ≤ 6144)

abbrev pub OutOfRange : ℕ → ℕ → Type 0
OutOfRange start size = (size ≡ 0) ⊎ (6144 < start + size)

-- The stretch of so many bytes from `start` on, or that there is none.
abbrev pub Stretches : ℕ → ℕ → Result Run ImageFault → Type 0
Stretches start size (Ok r) = (r ≡ run start (start + size)) × InRange start size
Stretches start size (Err (Range s)) = (s ≡ start) × OutOfRange start size
Stretches start size (Err (Too-many _)) = ⊥
Stretches start size (Err (Undeclared _)) = ⊥
