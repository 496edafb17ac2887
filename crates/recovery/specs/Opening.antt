-- What an opening answers and leaves, for every content of the device.
use Rattle.std.specs.Prelude.{◌≡◌, ℕ, ◌+◌, ◌-◌, ◌<◌, ◌≤◌, ◌⊎◌, List, Ok, Err, Result}
use Rattle.device.specs.declared.fault.DeviceFault.TheVariants.{Power, Misaddressed, Unfit, Spoiled}
use Rattle.device.specs.Disk.{Disk, Shown}
use Rattle.device.specs.Meaning.{Failed, Lost, Restarted}
use Rattle.device.specs.Trace.{Done, CutShort}
use Rattle.journal.specs.Log.{log}
use Rattle.journal.specs.Opening.{Names, Runs, Usable, Remembers, Finds, HasNoLog, HasNoMark, Uncovered as Bare}
use Rattle.journal.specs.Pages.{Tabled}
use Rattle.recovery.specs.declared.fault.RecoveryFault.{RecoveryFault}
use Rattle.recovery.specs.declared.opening.Recovery.{Recovery}
use Rattle.recovery.specs.declared.places.Places.{Places}
use Rattle.recovery.specs.declared.fault.RecoveryFault.TheVariants.{Device, Size, NoLog, NoMark, Uncovered}
use Rattle.recovery.specs.Clearing.{clearing}
use Rattle.recovery.specs.Format.{formatting}

-- The refusals that what the sectors show can bring about.
abbrev pub Refuses : ℕ → (ℕ → Shown) → RecoveryFault → Type 0
Refuses n shows (Device _) = ⊥
Refuses n shows (Size _) = ⊥
Refuses n shows NoLog = HasNoLog n shows
Refuses n shows (NoMark low) = HasNoMark n shows low
Refuses n shows (Uncovered page) = Bare n shows page

-- A step that reads and writes nothing: it finds something, or refuses and leaves all as it is, or power
-- fails in it.
abbrev pub Sees : {A : Type 0} → ℕ → Disk → (A → Type 0) → Result A RecoveryFault → Disk → Type 0
Sees n d found (Ok x) e = (e ≡ d) × found x
Sees n d found (Err (Device (Power o))) e = Failed d o e
Sees n d found (Err (Device (Misaddressed _ _))) e = ⊥
Sees n d found (Err (Device Unfit)) e = ⊥
Sees n d found (Err (Device (Spoiled _ _))) e = ⊥
Sees n d found (Err (Size count)) e = (e ≡ d) × Refuses n d.shows (Size count)
Sees n d found (Err NoLog) e = (e ≡ d) × Refuses n d.shows NoLog
Sees n d found (Err (NoMark low)) e = (e ≡ d) × Refuses n d.shows (NoMark low)
Sees n d found (Err (Uncovered page)) e = (e ≡ d) × Refuses n d.shows (Uncovered page)

-- The memory of a log was rebuilt from its homes and its records from low to c, which carries this ordinal.
pub record Rebuilt (n : ℕ) (shows : ℕ → Shown) (low c : ℕ) (memory : List ℕ) (ordinal : ℕ) : Type 0 where
  pub homes : (p : ℕ) → p < 64 → Usable n shows (log n shows) low c p
  pub bytes : Remembers n shows low c memory
  pub number : ordinal ≡ (log n shows c).ordinal

-- Power failed while the strays above c were cleared.
pub record CutClearing (n : ℕ) (d : Disk) (o : ℕ) (e : Disk) : Type 0 where
  pub low : ℕ
  pub c : ℕ
  pub names : Names (log n d.shows) low
  pub mark : (log n d.shows low).kind ≡ 4
  pub run : Runs (log n d.shows) low c
  pub homes : (p : ℕ) → p < 64 → Usable n d.shows (log n d.shows) low c p
  pub cut : CutShort d (clearing n d.shows c) o e

-- What an opening of a log of n sectors makes of a device that was just restarted. It answers what it
-- found, how many strays it cleared, and the table of the records from low on; or it refuses, with no sector written; or power fails, while it
-- reads or while it clears.
abbrev pub Recovers : ℕ → Disk → Result Recovery RecoveryFault → Disk → List ℕ → Type 0
Recovers n d (Ok x) e memory =
    Finds n d.shows x.ordinal x.strays x.low x.last memory
    × Done d (clearing n d.shows x.last) e
    × Tabled (log n d.shows) x.low (x.last + 1 - x.low) x.pages
Recovers n d (Err (Device (Power o))) e memory = Failed d o e ⊎ CutClearing n d o e
Recovers n d (Err (Device (Misaddressed _ _))) e memory = ⊥
Recovers n d (Err (Device Unfit)) e memory = ⊥
Recovers n d (Err (Device (Spoiled _ _))) e memory = ⊥
Recovers n d (Err (Size count)) e memory = (e ≡ d) × Refuses n d.shows (Size count)
Recovers n d (Err NoLog) e memory = (e ≡ d) × Refuses n d.shows NoLog
Recovers n d (Err (NoMark low)) e memory = (e ≡ d) × Refuses n d.shows (NoMark low)
Recovers n d (Err (Uncovered page)) e memory = (e ≡ d) × Refuses n d.shows (Uncovered page)

-- A device of this many sectors has a log of n, with the 64 homes after it.
pub record Divides (sectors n : ℕ) : Type 0 where
  pub homes : sectors ≡ n + 64
  pub least : 160 ≤ n
  pub most : n ≤ 1024

-- How a device of this many sectors is divided, or the refusal of one that is too small or too large.
abbrev pub Divided : ℕ → Result Places RecoveryFault → Type 0
Divided sectors (Ok p) = Divides sectors p.count
Divided sectors (Err (Device _)) = ⊥
Divided sectors (Err (Size count)) = (count ≡ sectors) × ((sectors < 224) ⊎ (1088 < sectors))
Divided sectors (Err NoLog) = ⊥
Divided sectors (Err (NoMark _)) = ⊥
Divided sectors (Err (Uncovered _)) = ⊥

-- Power failed in the restart.
abbrev pub NoRestart : {A : Type 0} → Disk → Result A RecoveryFault → Disk → Type 0
NoRestart d (Ok _) e = ⊥
NoRestart d (Err (Device (Power o))) e = Lost d o e
NoRestart d (Err (Device (Misaddressed _ _))) e = ⊥
NoRestart d (Err (Device Unfit)) e = ⊥
NoRestart d (Err (Device (Spoiled _ _))) e = ⊥
NoRestart d (Err (Size _)) e = ⊥
NoRestart d (Err NoLog) e = ⊥
NoRestart d (Err (NoMark _)) e = ⊥
NoRestart d (Err (Uncovered _)) e = ⊥

-- An opening of a device, on or off. The number of sectors is tested first, and leaves a device that is
-- refused for it as it was, on or off; then the device is restarted.
abbrev pub Opens : Disk → Result Recovery RecoveryFault → Disk → List ℕ → Type 0
Opens d r e memory =
    ((count : ℕ) × (r ≡ Err (Size count)) × Divided d.plate.sectors (Err (Size count)) × (e ≡ d))
    ⊎ ((n : ℕ) × Divides d.plate.sectors n × (NoRestart d r e ⊎ ((m : Disk) × Restarted d m × Recovers n m r e memory)))

-- An opening that is refused for the number of sectors, for a log without a record or without its mark leaves the
-- memory as it was: nothing was loaded yet.
abbrev pub Spares : {A : Type 0} → Result A RecoveryFault → List ℕ → List ℕ → Type 0
Spares (Ok _) before after = Unit {0}
Spares (Err (Device _)) before after = Unit {0}
Spares (Err (Size _)) before after = after ≡ before
Spares (Err NoLog) before after = after ≡ before
Spares (Err (NoMark _)) before after = after ≡ before
Spares (Err (Uncovered _)) before after = Unit {0}

-- A format tests the number of sectors first, and leaves a device that it refuses as it was. The plan of
-- device calls is then made whole, and answers how many sectors the log has; or power cuts it.
abbrev pub Formats : Disk → Result ℕ RecoveryFault → Disk → Type 0
Formats d (Ok n) e = Divides d.plate.sectors n × Done d (formatting n) e
Formats d (Err (Device (Power o))) e = (n : ℕ) × Divides d.plate.sectors n × CutShort d (formatting n) o e
Formats d (Err (Device (Misaddressed _ _))) e = ⊥
Formats d (Err (Device Unfit)) e = ⊥
Formats d (Err (Device (Spoiled _ _))) e = ⊥
Formats d (Err (Size count)) e = Divided d.plate.sectors (Err (Size count)) × (e ≡ d)
Formats d (Err NoLog) e = ⊥
Formats d (Err (NoMark _)) e = ⊥
Formats d (Err (Uncovered _)) e = ⊥
