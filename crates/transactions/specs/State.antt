-- A store by its parts, and what format and opening make it.
use Rattle.std.specs.Prelude.{◌≡◌, ℕ, ◌+◌, ◌-◌, Bool, true, false, List, [], replicate, Ok, Err, Result}
use Rattle.arrayvec.specs.ArrayVec.{array_vec_len}
use Rattle.device.specs.Disk.{Disk}
use Rattle.device.specs.Meaning.{Restarted}
use Rattle.device.specs.Trace.{Done}
use Rattle.journal.specs.Opening.{Finds}
use Rattle.journal.specs.Pages.{unsaid}
use Rattle.durability.specs.Items.{Item}
use Rattle.image.specs.declared.state.Image.{Image}
use Rattle.image.specs.Calls.{declared}
use Rattle.image.specs.Cut.{cut_runs}
use Rattle.recovery.specs.declared.fault.RecoveryFault.{RecoveryFault}
use Rattle.recovery.specs.Clearing.{clearing}
use Rattle.recovery.specs.Opening.{Divides, Opens, Formats}
use Rattle.transactions.specs.declared.fault.StoreFault.{StoreFault}
use Rattle.transactions.specs.declared.log.Log.{Log}
use Rattle.transactions.specs.declared.state.State.{State}
use Rattle.transactions.specs.Fault.{from_recovery}
use Rattle.transactions.specs.Parts.{Spool, parts, waiting}

-- How many serials there are from low to the last one written.
abbrev pub live : State → ℕ
live s = s.log.last + 1 - s.log.low

-- The records that wait in the spool, and those that the open transaction would become.
abbrev pub spooled : State → List Item
spooled s = waiting s.spool

abbrev pub own : State → List Item
own s = parts (s.log.ordinal + 1) s.image.memory (cut_runs (declared s.image))

-- The store's log lies on this device, with the homes after it.
abbrev pub OnLog : State → Disk → Type 0
OnLog s d = s.log.places + 64 ≡ d.plate.sectors

-- So it does while the store is on.
abbrev pub LiesOn : State → Disk → Type 0
LiesOn s d = s.on ≡ true → OnLog s d

-- Nothing is declared, and the memory is as at begin.
pub record Untouched (s : State) : Type 0 where
  pub clean : declared s.image ≡ []
  pub before : s.image.before ≡ s.image.memory

-- So it is while the store is on and no transaction is open.
abbrev pub Rests : State → Type 0
Rests s = s.on ≡ true → s.busy ≡ false → Untouched s

-- The store consists of these.
pub record MadeOf (s : State) (image : Image) (spool : Spool) (log : Log) (busy on : Bool) : Type 0 where
  pub image_is : s.image ≡ image
  pub spool_is : s.spool ≡ spool
  pub log_is : s.log ≡ log
  pub busy_is : s.busy ≡ busy
  pub on_is : s.on ≡ on

-- The log stands here.
pub record StandsAt (log : Log) (places low last ordinal : ℕ) : Type 0 where
  pub places_is : log.places ≡ places
  pub low_is : log.low ≡ low
  pub last_is : log.last ≡ last
  pub ordinal_is : log.ordinal ≡ ordinal

-- No transaction is open, nothing is declared or waits, and the memory is as at begin.
pub record Idle (s : State) : Type 0 where
  pub free : s.busy ≡ false
  pub clean : declared s.image ≡ []
  pub empty : array_vec_len s.spool ≡ 0
  pub before : s.image.before ≡ s.image.memory

-- The store is off, and but for that as it was.
pub record TurnedOff (s s' : State) : Type 0 where
  pub off : s'.on ≡ false
  pub image : s'.image ≡ s.image
  pub spool : s'.spool ≡ s.spool
  pub log : s'.log ≡ s.log
  pub pages : s'.pages ≡ s.pages
  pub busy : s'.busy ≡ s.busy

-- A store that is off with nothing in it: zeros in its memory, and a log that was never set.
pub record Blank (s : State) : Type 0 where
  pub off : s.on ≡ false
  pub log : StandsAt s.log 160 0 0 0
  pub memory : s.image.memory ≡ replicate 6144 0
  pub pages : s.pages ≡ unsaid
  pub idle : Idle s

-- A store on zeros, with the first mark of a log of n sectors.
pub record Fresh (n : ℕ) (s : State) : Type 0 where
  pub on : s.on ≡ true
  pub log : StandsAt s.log n 1 1 0
  pub memory : s.image.memory ≡ replicate 6144 0
  pub idle : Idle s

-- A format answers what making the log answers, and where it succeeds the store is on zeros; else it is blank.
abbrev pub Formatted : Disk → Result (Unit {0}) StoreFault → Disk → State → Type 0
Formatted d (Ok _) e s = (n : ℕ) × Formats d (Ok n) e × Fresh n s
Formatted d (Err f) e s = (g : RecoveryFault) × (f ≡ from_recovery g) × Formats d (Err g) e × Blank s

-- A store that is open on what an opening found, after which the strays are cleared and settled.
pub record OpenOn (d : Disk) (ordinal count : ℕ) (e : Disk) (s : State) : Type 0 where
  pub places : ℕ
  pub divides : Divides d.plate.sectors places
  pub restarted : Disk
  pub restart : Restarted d restarted
  pub finds : Finds places restarted.shows ordinal count s.log.low s.log.last s.image.memory
  pub cleared : Done restarted (clearing places restarted.shows s.log.last) e
  pub on : s.on ≡ true
  pub log_of : s.log.places ≡ places
  pub number : s.log.ordinal ≡ ordinal
  pub idle : Idle s

-- An opening answers the number found and the count of strays, and the store is open on that; or it
-- refuses, or power cuts it, and the store is blank.
abbrev pub Opened : Disk → Result (ℕ × ℕ) StoreFault → Disk → State → Type 0
Opened d (Ok x) e s = OpenOn d x.0 x.1 e s
Opened d (Err f) e s = (g : RecoveryFault) × (memory : List ℕ) × (f ≡ from_recovery g) × Opens d (Err g) e memory × Blank s
