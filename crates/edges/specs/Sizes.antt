-- Devices that are too small or too large for a store, and the smallest that is not.
use Rattle.std.specs.Prelude.{◌≡◌, ◌≢◌, ℕ, Ok, Err, Result}
use Rattle.device.specs.Disk.{Disk}
use Rattle.transactions.specs.declared.fault.StoreFault.{StoreFault}
use Rattle.transactions.specs.declared.fault.StoreFault.TheVariants.{Size}
use Rattle.transactions.specs.declared.state.State.{State}
use Rattle.transactions.specs.Fault.{number}
use Rattle.transactions.specs.State.{Formatted, Opened}

-- Every format and every opening of a device of so many sectors is refused by row 5, which tells the count, and
-- leaves the device as it was.
pub record RefusesSize (count : ℕ) : Type 0 where
  pub row : number (Size count) ≡ 5
  pub formats :
      (d e : Disk) (r : Result (Unit {0}) StoreFault) (s : State) → d.plate.sectors ≡ count → Formatted d r e s
      → (r ≡ Err (Size count)) × (e ≡ d)
  pub opens :
      (d e : Disk) (r : Result (ℕ × ℕ) StoreFault) (s : State) → d.plate.sectors ≡ count → Opened d r e s
      → (r ≡ Err (Size count)) × (e ≡ d)

-- Every format and every opening that succeeds on a device of so many sectors gives its log so many places; and none
-- is refused by row 5.
pub record TakesSize (count places : ℕ) : Type 0 where
  pub formats : (d e : Disk) (u : Unit {0}) (s : State) → d.plate.sectors ≡ count → Formatted d (Ok u) e s → s.log.places ≡ places
  pub opens : (d e : Disk) (x : ℕ × ℕ) (s : State) → d.plate.sectors ≡ count → Opened d (Ok x) e s → s.log.places ≡ places
  pub format_fits : (d e : Disk) (f : StoreFault) (s : State) → d.plate.sectors ≡ count → Formatted d (Err f) e s → number f ≢ 5
  pub opening_fits : (d e : Disk) (f : StoreFault) (s : State) → d.plate.sectors ≡ count → Opened d (Err f) e s → number f ≢ 5

-- There is a format of so many sectors that succeeds.
abbrev pub FormatsSize : ℕ → Type 0
FormatsSize count =
    (d : Disk) × (e : Disk) × (s : State) × (d.plate.sectors ≡ count) × Formatted d (Ok tt) e s
