-- What each device call means, on every way out.
use Rattle.std.specs.Prelude.{◌≡◌, ℕ, ◌<◌, ◌≤◌, Bool, true, false, ◌≢◌, ◌⊎◌, List, [], ◌∷◌, length, Ok, Err, Result}
use Rattle.device.specs.declared.fault.DeviceFault.{DeviceFault}
use Rattle.device.specs.declared.fault.DeviceFault.TheVariants.{Power, Misaddressed, Unfit, Spoiled}
use Rattle.device.specs.Fault.{Says}
use Rattle.device.specs.Disk.{Disk, Shown, spoiled, holds, Among, Stands}

-- The answer of a device call.
abbrev pub Answer : Type 0
Answer = Result (Unit {0}) DeviceFault

-- Sector s is there, and a buffer of n bytes fits it.
pub record Addressed (d : Disk) (s n : ℕ) : Type 0 where
  pub there : s < d.plate.sectors
  pub fits : n ≡ 128

-- In sector i of e nothing may stand that might not stand there in d.
abbrev pub NothingNew : Disk → Disk → ℕ → Type 0
NothingNew d e i = (x : Shown) → Stands e i x → Stands d i x

-- In each sector only what it shows may stand.
abbrev pub Quiet : Disk → Type 0
Quiet e = (i : ℕ) (x : Shown) → Stands e i x → x ≡ e.shows i

-- x may stand in sector s once these bytes are written there, or half written.
abbrev pub MayWrite : Disk → ℕ → List ℕ → Shown → Type 0
MayWrite d s bytes x = Stands d s x ⊎ (Addressed d s (length bytes) × ((x ≡ holds bytes) ⊎ (x ≡ spoiled)))

-- Power failed in a call, in the end with origin o, or 0 where a device below was off: the device
-- is off, and nothing new stands anywhere.
pub record Lost (d : Disk) (o : ℕ) (e : Disk) : Type 0 where
  pub off : e.on ≡ false
  pub plate : e.plate ≡ d.plate
  pub origin : Among o (0 ∷ d.plate.ends)
  pub told : e.told ≡ o
  pub old : (i : ℕ) → NothingNew d e i

-- Power failed in the writing of these bytes to sector s.
pub record Torn (d : Disk) (s : ℕ) (bytes : List ℕ) (o : ℕ) (e : Disk) : Type 0 where
  pub was_on : d.on ≡ true
  pub off : e.on ≡ false
  pub plate : e.plate ≡ d.plate
  pub origin : Among o (0 ∷ d.plate.ends)
  pub told : e.told ≡ o
  pub elsewhere : (i : ℕ) → i ≢ s → NothingNew d e i
  pub there : (x : Shown) → Stands e s x → MayWrite d s bytes x

-- The device was off already, and the call did nothing.
pub record WasOff (d : Disk) (o : ℕ) (e : Disk) : Type 0 where
  pub off : d.on ≡ false
  pub origin : o ≡ 0
  pub same : e ≡ d

-- Power failed in a call that writes nothing, or the device was off.
abbrev pub Failed : Disk → ℕ → Disk → Type 0
Failed d o e = WasOff d o e ⊎ ((d.on ≡ true) × Lost d o e)

-- Refused for its sector s, or for its buffer of n bytes.
pub record Refused (d : Disk) (s n : ℕ) (f : DeviceFault) (e : Disk) : Type 0 where
  pub on : d.on ≡ true
  pub why : (d.plate.sectors ≤ s) ⊎ (n ≢ 128)
  pub says : Says f 2 (s ∷ d.plate.origin ∷ [])
  pub same : e ≡ d

-- The bytes that the sector shows are in the buffer.
pub record ReadDone (d : Disk) (s : ℕ) (before : List ℕ) (e : Disk) (after : List ℕ) : Type 0 where
  pub on : d.on ≡ true
  pub asked : Addressed d s (length before)
  pub same : e ≡ d
  pub shown : d.shows s ≡ holds after

-- The sector is spoiled.
pub record ReadSpoiled (d : Disk) (s : ℕ) (before : List ℕ) (f : DeviceFault) (e : Disk) (after : List ℕ) : Type 0 where
  pub on : d.on ≡ true
  pub asked : Addressed d s (length before)
  pub same : e ≡ d
  pub shown : d.shows s ≡ spoiled
  pub says : Says f 4 (s ∷ d.plate.blames s ∷ [])
  pub untouched : after ≡ before

-- The bytes were written to sector s.
pub record Wrote (d : Disk) (s : ℕ) (bytes : List ℕ) (e : Disk) : Type 0 where
  pub was_on : d.on ≡ true
  pub on : e.on ≡ true
  pub plate : e.plate ≡ d.plate
  pub asked : Addressed d s (length bytes)
  pub shown : e.shows s ≡ holds bytes
  pub kept : (i : ℕ) → i ≢ s → e.shows i ≡ d.shows i
  pub elsewhere : (i : ℕ) → i ≢ s → NothingNew d e i
  pub there : (x : Shown) → Stands e s x → MayWrite d s bytes x

-- A barrier succeeded.
pub record Settled (d e : Disk) : Type 0 where
  pub was_on : d.on ≡ true
  pub on : e.on ≡ true
  pub plate : e.plate ≡ d.plate
  pub kept : (i : ℕ) → e.shows i ≡ d.shows i
  pub quiet : Quiet e

-- A restart succeeded, of a device on or off: each sector shows one thing that might stand there.
pub record Restarted (d e : Disk) : Type 0 where
  pub on : e.on ≡ true
  pub plate : e.plate ≡ d.plate
  pub chosen : (i : ℕ) → Stands d i (e.shows i)
  pub quiet : Quiet e

-- A read of sector s into a buffer: its answer, the device after it, and the buffer after it.
abbrev pub Read : Disk → ℕ → List ℕ → Answer → Disk → List ℕ → Type 0
Read d s before (Ok _) e after = ReadDone d s before e after
Read d s before (Err (Power o)) e after = Failed d o e × (after ≡ before)
Read d s before (Err (Misaddressed t o)) e after = Refused d s (length before) (Misaddressed t o) e × (after ≡ before)
Read d s before (Err Unfit) e after = ⊥
Read d s before (Err (Spoiled t o)) e after = ReadSpoiled d s before (Spoiled t o) e after

-- A write of these bytes to sector s.
abbrev pub Write : Disk → ℕ → List ℕ → Answer → Disk → Type 0
Write d s bytes (Ok _) e = Wrote d s bytes e
Write d s bytes (Err (Power o)) e = WasOff d o e ⊎ Torn d s bytes o e
Write d s bytes (Err (Misaddressed t o)) e = Refused d s (length bytes) (Misaddressed t o) e
Write d s bytes (Err Unfit) e = ⊥
Write d s bytes (Err (Spoiled _ _)) e = ⊥

abbrev pub Barrier : Disk → Answer → Disk → Type 0
Barrier d (Ok _) e = Settled d e
Barrier d (Err (Power o)) e = Failed d o e
Barrier d (Err (Misaddressed _ _)) e = ⊥
Barrier d (Err Unfit) e = ⊥
Barrier d (Err (Spoiled _ _)) e = ⊥

abbrev pub Restart : Disk → Answer → Disk → Type 0
Restart d (Ok _) e = Restarted d e
Restart d (Err (Power o)) e = Lost d o e
Restart d (Err (Misaddressed _ _)) e = ⊥
Restart d (Err Unfit) e = ⊥
Restart d (Err (Spoiled _ _)) e = ⊥

-- The origin told last, once a call has answered so, where t was told before it: only failing power
-- tells another.
abbrev pub told_after : ℕ → Answer → ℕ
told_after t (Ok _) = t
told_after t (Err (Power o)) = o
told_after t (Err (Misaddressed _ _)) = t
told_after t (Err Unfit) = t
told_after t (Err (Spoiled _ _)) = t

-- Whether a layer is on once a call below has answered so, and it hands the answer up: failing power turns it off.
abbrev pub on_after : Answer → Bool
on_after (Ok _) = true
on_after (Err (Power _)) = false
on_after (Err (Misaddressed _ _)) = true
on_after (Err Unfit) = true
on_after (Err (Spoiled _ _)) = true

-- The tests before any work on sector s with a buffer of n bytes, in their order.
abbrev pub Admitted : Bool → ℕ → ℕ → ℕ → ℕ → Answer → Type 0
Admitted on sectors origin s n (Ok _) = (on ≡ true) × (s < sectors) × (n ≡ 128)
Admitted on sectors origin s n (Err (Power o)) = (on ≡ false) × (o ≡ 0)
Admitted on sectors origin s n (Err (Misaddressed t o)) =
    (on ≡ true) × ((sectors ≤ s) ⊎ (n ≢ 128)) × Says (Misaddressed t o) 2 (s ∷ origin ∷ [])
Admitted on sectors origin s n (Err Unfit) = ⊥
Admitted on sectors origin s n (Err (Spoiled _ _)) = ⊥
