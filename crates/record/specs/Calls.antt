-- What reading and writing a sector answer.
use Rattle.std.specs.Prelude.{◌≡◌, ◌≢◌, ℕ, List, length, Some, None, Option, Ok, Err, Result}
use Rattle.record.specs.declared.Record.{Record}
use Rattle.record.specs.declared.RecordFault.{RecordFault}
use Rattle.record.specs.declared.RecordFault.TheVariants.{Buffer, Rule}
use Rattle.record.specs.Entry.{Entry, entry, laid_out, reads_as}
use Rattle.record.specs.Good.{Fits, Good}

-- A record is answered just where the sector is good.
abbrev pub Answered : ℕ → ℕ → List ℕ → Option Record → Type 0
Answered places place sector (Some r) = Good places place sector
Answered places place sector None = Good places place sector → ⊥

-- The record that is answered is the one that the sector holds.
abbrev pub Told : List ℕ → Option Record → Type 0
Told sector (Some r) = entry r ≡ reads_as sector
Told sector None = Unit {0}

-- A record that keeps the rule of its kind, and a buffer that is a sector.
pub record Writable (e : Entry) (buffer : List ℕ) : Type 0 where
  pub fits : Fits e.kind e.page e.offset (length e.bytes)
  pub long : length buffer ≡ 128

-- Why a record was refused.
abbrev pub Refused : Entry → List ℕ → RecordFault → Type 0
Refused e buffer Buffer = length buffer ≢ 128
Refused e buffer Rule = (length buffer ≡ 128) × (Fits e.kind e.page e.offset (length e.bytes) → ⊥)

-- The record was laid out in the buffer, or refused with the buffer as it was.
abbrev pub Written : Entry → List ℕ → Result Unit RecordFault → List ℕ → Type 0
Written e before (Ok _) after = Writable e before × (after ≡ laid_out e)
Written e before (Err f) after = Refused e before f × (after ≡ before)
