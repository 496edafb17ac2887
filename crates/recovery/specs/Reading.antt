-- What reading a sector tells, apart from failing power.
use Rattle.std.specs.Prelude.{◌≡◌, ℕ, ◌+◌, ◌-◌, ◌/◌, ◌<◌, Bool, true, false, cond, ◌⊎◌, List, length, Some, None, Ok, Err, Option, Result, ◌==◌, slice_index}
use Rattle.device.specs.declared.fault.DeviceFault.{DeviceFault}
use Rattle.device.specs.declared.fault.DeviceFault.TheVariants.{Power, Misaddressed, Unfit, Spoiled}
use Rattle.device.specs.Disk.{Disk, spoiled, holds}
use Rattle.device.specs.Meaning.{Failed}
use Rattle.record.specs.Entry.{Entry}
use Rattle.record.specs.Kind.{code_of}
use Rattle.journal.specs.declared.pages.PageTable.{PageTable}
use Rattle.journal.specs.Log.{nothing, log, said}
use Rattle.journal.specs.Memory.{applied, replayed, from_home}
use Rattle.journal.specs.Pages.{covered_in}
use Rattle.recovery.specs.declared.reading.Mention.{Mention}

-- A call that writes nothing: where power holds, the device is the same and `found` says what was seen.
abbrev pub Looks : {A : Type 0} → Disk → (A → Type 0) → Result A DeviceFault → Disk → Type 0
Looks d found (Ok x) e = (e ≡ d) × found x
Looks d found (Err (Power o)) e = Failed d o e
Looks d found (Err (Misaddressed _ _)) e = ⊥
Looks d found (Err Unfit) e = ⊥
Looks d found (Err (Spoiled _ _)) e = ⊥

-- What was read of a sector: its bytes, unless it is spoiled.
abbrev pub Fetched : Disk → ℕ → List ℕ → Bool → Type 0
Fetched d s bytes true = d.shows s ≡ holds bytes
Fetched d s bytes false = d.shows s ≡ spoiled

-- Page p was started from its home at sector n + p: zeros where that is spoiled.
pub record HomeLoaded (d : Disk) (n p : ℕ) (before after : List ℕ) (readable : Bool) : Type 0 where
  pub bytes : (i : ℕ) → slice_index after i ≡ cond (i / 96 == p) (from_home n d.shows i) (slice_index before i)
  pub told : (d.shows (n + p) ≡ spoiled → readable ≡ false) × (readable ≡ false → d.shows (n + p) ≡ spoiled)

-- All homes were loaded, and each page whose home is spoiled is covered.
abbrev pub HomesLoaded : Disk → ℕ → PageTable → List ℕ → Type 0
HomesLoaded d n pages after =
    ((i : ℕ) → i < 6144 → slice_index after i ≡ from_home n d.shows i)
    × ((p : ℕ) → p < 64 → d.shows (n + p) ≡ spoiled → covered_in pages p ≡ true)

-- What place p of a log of n sectors holds was applied; the buffer has its sector, unless that is spoiled.
pub record Replayed (d : Disk) (n p : ℕ) (buffer before after : List ℕ) : Type 0 where
  pub bytes : (i : ℕ) → slice_index after i ≡ applied (said n p (d.shows p)) i (slice_index before i)
  pub read : (d.shows p ≡ holds buffer) ⊎ (d.shows p ≡ spoiled)

-- The records from low to c were applied, and the last carries this ordinal.
pub record ReplayedAll (n : ℕ) (d : Disk) (low c : ℕ) (before after : List ℕ) (ordinal : ℕ) : Type 0 where
  pub bytes : (i : ℕ) → slice_index after i ≡ replayed (log n d.shows) low (c + 1 - low) (λ j. slice_index before j) i
  pub number : ordinal ≡ (log n d.shows c).ordinal

-- What is said of a page by a record, if there is one.
pub record Says (e : Entry) (x : Mention) : Type 0 where
  pub kind : code_of x.kind ≡ e.kind
  pub page : x.page ≡ e.page
  pub whole : x.whole ≡ (length e.bytes == 96)

abbrev pub Mentions : Entry → Option Mention → Type 0
Mentions e None = e ≡ nothing
Mentions e (Some x) = Says e x
