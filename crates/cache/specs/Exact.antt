-- What a cache does in each call, on every way out: what it holds after it, in which turn, and what it did below.
use Rattle.std.specs.Prelude.{◌≡◌, ℕ, ◌<◌, ◌≤◌, true, false, ◌≢◌, ◌⊎◌, List, [], ◌∷◌, ◌++◌, map, length, Some, Ok, Err}
use Rattle.device.specs.declared.fault.DeviceFault.TheVariants.{Power, Misaddressed, Unfit, Spoiled}
use Rattle.device.specs.Disk.{Disk}
use Rattle.device.specs.Meaning.{Answer, Addressed, Read, Restart, on_after, told_after}
use Rattle.device.specs.Trace.{Act, wrote, settled, Cut, Done, Tries}
use Rattle.cache.specs.declared.held.Slot.{Slot}
use Rattle.cache.specs.Held.{slot, kept, is_held, rewritten}
use Rattle.cache.specs.State.{State}

-- A held sector is sent down: it is written below.
abbrev pub sends : Slot → Act
sends l = wrote l.sector l.bytes

-- All held sectors are sent down in turn, and then a barrier is made below.
abbrev pub empties : List Slot → List Act
empties ls = map sends ls ++ settled ∷ []

-- The first of these calls.
abbrev pub next : List Slot → Act
next [] = settled
next (l ∷ _) = sends l

-- The cache was off, and did nothing.
pub record StayedOff (c : State) (o : ℕ) (c' : State) : Type 0 where
  pub off : c.on ≡ false
  pub origin : o ≡ 0
  pub same : c' ≡ c

-- The cache is on, sector s is there, and a buffer of n bytes fits it.
pub record Asked (c : State) (s n : ℕ) : Type 0 where
  pub on : c.on ≡ true
  pub addressed : Addressed c.below s n

-- The cache was on, and refused the sector s or the buffer of n bytes.
pub record Astray (c : State) (s n : ℕ) (t o : ℕ) (c' : State) : Type 0 where
  pub on : c.on ≡ true
  pub why : (c.below.plate.sectors ≤ s) ⊎ (n ≢ 128)
  pub sector : t ≡ s
  pub origin : o ≡ 0
  pub same : c' ≡ c

-- The held bytes were read, with no call below.
pub record FromHeld (c : State) (s : ℕ) (before : List ℕ) (c' : State) (after : List ℕ) : Type 0 where
  pub asked : Asked c s (length before)
  pub found : kept s c.held ≡ Some after
  pub same : c' ≡ c

-- The sector is not held, and was read below.
pub record FromBelow (c : State) (s : ℕ) (before : List ℕ) (r : Answer) (c' : State) (after : List ℕ) : Type 0 where
  pub asked : Asked c s (length before)
  pub absent : is_held s c.held ≡ false
  pub read : Read c.below s before r c'.below after
  pub turns : c'.held ≡ c.held
  pub on : c'.on ≡ on_after r
  pub told : c'.told ≡ told_after c.told r

abbrev pub Reads : State → ℕ → List ℕ → Answer → State → List ℕ → Type 0
Reads c s before (Ok u) c' after = FromHeld c s before c' after ⊎ FromBelow c s before (Ok u) c' after
Reads c s before (Err (Power o)) c' after = (StayedOff c o c' × (after ≡ before)) ⊎ FromBelow c s before (Err (Power o)) c' after
Reads c s before (Err (Misaddressed t o)) c' after = Astray c s (length before) t o c' × (after ≡ before)
Reads c s before (Err Unfit) c' after = ⊥
Reads c s before (Err (Spoiled t o)) c' after = FromBelow c s before (Err (Spoiled t o)) c' after

-- The sector was held already: it has the new bytes and its old turn, with no call below.
pub record Rewrote (c : State) (s : ℕ) (bytes : List ℕ) (c' : State) : Type 0 where
  pub asked : Asked c s (length bytes)
  pub found : is_held s c.held ≡ true
  pub below : c'.below ≡ c.below
  pub turns : c'.held ≡ rewritten s bytes c.held
  pub on : c'.on ≡ true
  pub told : c'.told ≡ c.told

-- There was room: the sector was taken in at the end, with no call below.
pub record Took (c : State) (s : ℕ) (bytes : List ℕ) (c' : State) : Type 0 where
  pub asked : Asked c s (length bytes)
  pub absent : is_held s c.held ≡ false
  pub room : length c.held < 8
  pub below : c'.below ≡ c.below
  pub turns : c'.held ≡ c.held ++ slot s bytes ∷ []
  pub on : c'.on ≡ true
  pub told : c'.told ≡ c.told

-- There was no room: first the longest held sector was sent down.
pub record Displaced (c : State) (s : ℕ) (bytes : List ℕ) (c' : State) : Type 0 where
  pub asked : Asked c s (length bytes)
  pub absent : is_held s c.held ≡ false
  pub full : 8 ≤ length c.held
  pub oldest : Slot
  pub rest : List Slot
  pub held : c.held ≡ oldest ∷ rest
  pub below : Tries c.below (sends oldest ∷ []) (Ok tt) c'.below
  pub turns : c'.held ≡ rest ++ slot s bytes ∷ []
  pub on : c'.on ≡ true
  pub told : c'.told ≡ c.told

-- There was no room, and power failed as the longest held sector was sent down.
pub record NotDisplaced (c : State) (s : ℕ) (bytes : List ℕ) (o : ℕ) (c' : State) : Type 0 where
  pub asked : Asked c s (length bytes)
  pub absent : is_held s c.held ≡ false
  pub full : 8 ≤ length c.held
  pub oldest : Slot
  pub rest : List Slot
  pub held : c.held ≡ oldest ∷ rest
  pub below : Tries c.below (sends oldest ∷ []) (Err (Power o)) c'.below
  pub turns : c'.held ≡ c.held
  pub off : c'.on ≡ false
  pub told : c'.told ≡ o

abbrev pub Writes : State → ℕ → List ℕ → Answer → State → Type 0
Writes c s bytes (Ok _) c' = Rewrote c s bytes c' ⊎ (Took c s bytes c' ⊎ Displaced c s bytes c')
Writes c s bytes (Err (Power o)) c' = StayedOff c o c' ⊎ NotDisplaced c s bytes o c'
Writes c s bytes (Err (Misaddressed t o)) c' = Astray c s (length bytes) t o c'
Writes c s bytes (Err Unfit) c' = ⊥
Writes c s bytes (Err (Spoiled _ _)) c' = ⊥

-- All held sectors were sent down in turn and settled below.
pub record Emptied (c : State) (c' : State) : Type 0 where
  pub was_on : c.on ≡ true
  pub below : Tries c.below (empties c.held) (Ok tt) c'.below
  pub turns : c'.held ≡ []
  pub on : c'.on ≡ true
  pub told : c'.told ≡ c.told

-- Some held sectors were sent down, and the next call below was cut by power: the others are left.
pub record CutOff (below : Disk) (held : List Slot) (o : ℕ) (below' : Disk) (left : List Slot) : Type 0 where
  pub sent : List Slot
  pub between : Disk
  pub split : held ≡ sent ++ left
  pub done : Done below (map sends sent) between
  pub cut : Cut (next left) between o below'

-- Power failed in a barrier: those not yet sent down are still held.
pub record NotEmptied (c : State) (o : ℕ) (c' : State) : Type 0 where
  pub was_on : c.on ≡ true
  pub below : Tries c.below (empties c.held) (Err (Power o)) c'.below
  pub turns : CutOff c.below c.held o c'.below c'.held
  pub off : c'.on ≡ false
  pub told : c'.told ≡ o

abbrev pub Barriers : State → Answer → State → Type 0
Barriers c (Ok _) c' = Emptied c c'
Barriers c (Err (Power o)) c' = StayedOff c o c' ⊎ NotEmptied c o c'
Barriers c (Err (Misaddressed _ _)) c' = ⊥
Barriers c (Err Unfit) c' = ⊥
Barriers c (Err (Spoiled _ _)) c' = ⊥

-- The held sectors are lost, and the device below was restarted.
pub record Restarts (c : State) (r : Answer) (c' : State) : Type 0 where
  pub below : Restart c.below r c'.below
  pub turns : c'.held ≡ []
  pub on : c'.on ≡ on_after r
  pub told : c'.told ≡ told_after c.told r
