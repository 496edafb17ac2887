-- A bench device as plain values, and its model.
use Rattle.std.specs.Prelude.{ℕ, ◌+◌, ◌*◌, Bool, cond, List, [], ◌∷◌, ◌++◌, length, take, drop, ◌==◌, slice_index, slice_range}
use Rattle.device.specs.Disk.{Disk, Shown, spoiled, holds}
use Rattle.bench.specs.declared.Bench.{Bench}
use Rattle.bench.specs.Plan.{first, later}

-- The bytes, sector after sector, and a flag for each sector (not 0: spoiled), the codes of the plan
-- that are not taken, whether it is on, and its origin.
pub record Card : Type 0 where
  pub bytes : List ℕ
  pub flags : List ℕ
  pub codes : List ℕ
  pub on : Bool
  pub origin : ℕ

abbrev pub card : Bench → Card
card b = record { bytes = b.bytes.now; flags = b.flags.now; codes = b.supply.codes.now; on = b.supply.on; origin = b.origin }

-- As many sectors as flags.
abbrev pub sectors : Card → ℕ
sectors c = length c.flags

-- The bytes of sector i.
abbrev pub cell : Card → ℕ → List ℕ
cell c i = slice_range c.bytes (128 * i) (128 * i + 128)

-- All the bytes, with these in sector s.
abbrev pub with_cell : Card → ℕ → List ℕ → List ℕ
with_cell c s new = take (128 * s) c.bytes ++ (new ++ drop (128 * s + 128) c.bytes)

-- The flag of sector i.
abbrev pub flag : Card → ℕ → ℕ
flag c i = slice_index c.flags i

-- What sector i shows.
abbrev pub shown : Card → ℕ → Shown
shown c i = cond (flag c i == 0) (holds (cell c i)) spoiled

-- The code that the next write takes, and those that are left then.
abbrev pub code : Card → ℕ
code c = first c.codes

abbrev pub next : Card → List ℕ
next c = later c.codes

-- The model: what a sector shows is all that may stand there, and power that fails tells its origin.
abbrev pub model : Card → Disk
model c = record {
  plate = record { sectors = sectors c; origin = c.origin; ends = c.origin ∷ []; blames = λ _. c.origin };
  on = c.on;
  shows = λ i. shown c i;
  others = λ _. [];
  told = c.origin;
}
