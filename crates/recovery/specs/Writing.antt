-- What writing a record does.
use Rattle.std.specs.Prelude.{ℕ, ◌%◌, ◌≤◌, [], ◌∷◌, length}
use Rattle.device.specs.Disk.{Disk}
use Rattle.device.specs.Meaning.{Answer}
use Rattle.device.specs.Trace.{wrote, Tries}
use Rattle.record.specs.Entry.{Entry, laid_out}
use Rattle.record.specs.Good.{Fits}

-- The record keeps the rule of its kind.
abbrev pub Fitting : Entry → Type 0
Fitting e = Fits e.kind e.page e.offset (length e.bytes)

-- In a log of n sectors that lies on the device, a record that keeps its rule is written in its place.
abbrev pub Recorded : Disk → ℕ → Entry → Answer → Disk → Type 0
Recorded d n x r e =
    1 ≤ n → n ≤ d.plate.sectors → Fitting x → Tries d (wrote (x.serial % n) (laid_out x) ∷ []) r e
