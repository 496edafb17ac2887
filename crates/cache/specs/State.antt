-- A cache over a device, and the disk that it shows.
use Rattle.std.specs.Prelude.{ℕ, Bool, cond, List, [], ◌∷◌, ◌==◌}
use Rattle.device.specs.Disk.{Disk, Plate, spoiled, holds}
use Rattle.device.specs.declared.Device.{Ghosts}
use Rattle.cache.specs.declared.Cache.{Cache}
use Rattle.cache.specs.declared.held.Slot.{Slot}

-- The disk below, the held sectors, the longest held first, whether the cache is on, and the origin
-- that it told last.
pub record State : Type 0 where
  pub below : Disk
  pub held : List Slot
  pub on : Bool
  pub told : ℕ

-- The state of a cache.
abbrev pub state : {D : Type 0} {d : Ghosts D} → Cache D d → State
state {d = d} c = record { below = d.disk c.below; held = c.held; on = c.power.on; told = c.power.told }

-- A disk with a held sector laid over it: the sector shows the held bytes, and spoiled or what may
-- stand below may stand there too, since the bytes are yet to be written.
abbrev pub laid : Disk → Slot → Disk
laid d l = record {
  plate = d.plate;
  on = d.on;
  shows = λ i. cond (i == l.sector) (holds l.bytes) (d.shows i);
  others = λ i. cond (i == l.sector) (spoiled ∷ d.shows i ∷ d.others i) (d.others i);
  told = d.told;
}

-- A disk with all the held sectors laid over it, the longest held first.
abbrev pub over : Disk → List Slot → Disk
over d [] = d
over d (l ∷ ls) = over (laid d l) ls

-- A cache refuses with origin 0; all else of its plate is that of the disk below.
abbrev pub plate_over : Plate → Plate
plate_over p = record { sectors = p.sectors; origin = 0; ends = p.ends; blames = p.blames }

-- The disk that a cache shows.
abbrev pub disk_of : State → Disk
disk_of c = record {
  plate = plate_over c.below.plate;
  on = c.on;
  shows = (over c.below c.held).shows;
  others = (over c.below c.held).others;
  told = c.told;
}
