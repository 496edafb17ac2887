-- The sectors that a cache holds, as a list, the longest held first.
use Rattle.std.specs.Prelude.{ℕ, Bool, cond, List, [], ◌∷◌, map, length, reverse, is_some, Option, ◌==◌}
use Rattle.std.specs.List.{find}
use Rattle.std.specs.Option.{option_map}
use Rattle.std.specs.Coded.{×_prop, Unit-prop}
use Rattle.std.proofs.Props.{props}
use Rattle.device.specs.Disk.{Disk}
use Rattle.device.specs.Meaning.{Addressed}
use Rattle.cache.specs.declared.held.Slot.{Slot}

abbrev pub slot : ℕ → List ℕ → Slot
slot s b = record { sector = s; bytes = b }

-- The bytes held for sector s, if it is held: those last taken in.
abbrev pub kept : ℕ → List Slot → Option (List ℕ)
kept s ls = option_map (λ l. l.bytes) (find (λ l. l.sector == s) (reverse ls))

abbrev pub is_held : ℕ → List Slot → Bool
is_held s ls = is_some (kept s ls)

-- Sector s is given new bytes where it is held, and keeps its turn.
abbrev pub rewritten : ℕ → List ℕ → List Slot → List Slot
rewritten s b ls = map (λ l. cond (s == l.sector) (slot s b) l) ls

-- Every held sector is one of the disk's.
abbrev pub Fits : Disk → List Slot → Type 0
Fits d [] = Unit {0}
Fits d (l ∷ ls) = Addressed d l.sector (length l.bytes) × Fits d ls

pub Fits-prop : (d : Disk) (ls : List Slot) → IsProp (Fits d ls)
Fits-prop d [] = Unit-prop
Fits-prop d (l ∷ ls) = ×_prop (Prim.hlevel props) (Fits-prop d ls)
