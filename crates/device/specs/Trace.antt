-- Sequences of device calls: in which order something worked, and what power left of it.
use Rattle.std.specs.Prelude.{◌≡◌, ℕ, true, ◌⊎◌, List, [], ◌∷◌, Ok, Err}
use Rattle.device.specs.declared.fault.DeviceFault.TheVariants.{Power, Misaddressed, Unfit, Spoiled}
use Rattle.device.specs.Disk.{Disk}
use Rattle.device.specs.Meaning.{Answer, Failed, WasOff, Lost, Torn, Wrote, Settled, Restarted}

-- One device call: a sector was looked at, written, all was settled by a barrier, or restarted.
pub data Act : Type 0 where
  looked : Act
  wrote : ℕ → List ℕ → Act
  settled : Act
  restarted : Act

-- The call succeeded and took d to e.
abbrev pub Does : Act → Disk → Disk → Type 0
Does looked d e = (d.on ≡ true) × (e ≡ d)
Does (wrote s bytes) d e = Wrote d s bytes e
Does settled d e = Settled d e
Does restarted d e = Restarted d e

-- Power failed in the call, or before it, and the origin told is o: a torn write, or power lost.
abbrev pub Cut : Act → Disk → ℕ → Disk → Type 0
Cut looked d o e = Failed d o e
Cut (wrote s bytes) d o e = WasOff d o e ⊎ Torn d s bytes o e
Cut settled d o e = Failed d o e
Cut restarted d o e = Lost d o e

-- All the calls of a plan were made, in this order, and took d to e.
abbrev pub Done : Disk → List Act → Disk → Type 0
Done d [] e = e ≡ d
Done d (a ∷ more) e = (m : Disk) × (Does a d m) × Done m more e

-- Power cut one call of the plan; those before it were made, those after it were not begun.
abbrev pub CutShort : Disk → List Act → ℕ → Disk → Type 0
CutShort d [] o e = ⊥
CutShort d (a ∷ more) o e = Cut a d o e ⊎ ((m : Disk) × (Does a d m) × CutShort m more o e)

-- The calls of a plan were tried: all made where the answer is good, cut short where power failed.
abbrev pub Tries : Disk → List Act → Answer → Disk → Type 0
Tries d plan (Ok _) e = Done d plan e
Tries d plan (Err (Power o)) e = CutShort d plan o e
Tries d plan (Err (Misaddressed _ _)) e = ⊥
Tries d plan (Err Unfit) e = ⊥
Tries d plan (Err (Spoiled _ _)) e = ⊥

-- A plan was tried on the device c, and only when all of it was made another on the device d.
abbrev pub InTurn : Disk → List Act → Disk → List Act → Answer → Disk → Disk → Type 0
InTurn c first d second (Ok _) c' d' = Done c first c' × Done d second d'
InTurn c first d second (Err (Power o)) c' d' = (CutShort c first o c' × (d' ≡ d)) ⊎ (Done c first c' × CutShort d second o d')
InTurn c first d second (Err (Misaddressed _ _)) c' d' = ⊥
InTurn c first d second (Err Unfit) c' d' = ⊥
InTurn c first d second (Err (Spoiled _ _)) c' d' = ⊥
