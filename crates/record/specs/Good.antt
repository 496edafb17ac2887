-- Which sectors are good.
use Rattle.std.specs.Prelude.{◌≡◌, ℕ, ◌+◌, ◌-◌, ◌%◌, ◌^◌, ◌<◌, ◌≤◌, List, length, slice_index}
use Rattle.record.specs.Fields.{field}
use Rattle.record.specs.Entry.{Entry}

-- A record with these numbers may stand at this place of a log of so many sectors. That it is near its
-- low also says that there are any.
pub record Placed (places place serial low ordinal : ℕ) : Type 0 where
  pub serial_from : 1 ≤ serial
  pub serial_to : serial < 2 ^ 63
  pub here : serial % places ≡ place
  pub low_from : 1 ≤ low
  pub low_to : low ≤ serial
  pub near : serial - low < places
  pub ordinal_below : ordinal < serial

-- The rule of each kind: a piece of one of 64 pages of 96 bytes, a whole page, or a mark.
pub record Fits (kind page offset size : ℕ) : Type 0 where
  pub known : (1 ≤ kind) × (kind ≤ 4)
  pub piece : kind ≤ 3 → (page < 64) × (1 ≤ size) × (offset + size ≤ 96)
  pub whole : kind ≡ 3 → size ≡ 96
  pub mark : kind ≡ 4 → (page ≡ 0) × (offset ≡ 0) × (size ≡ 0)

-- A sector that is good at this place of a log of so many sectors.
pub record Good (places place : ℕ) (sector : List ℕ) : Type 0 where
  pub long : length sector ≡ 128
  pub blank : slice_index sector 31 ≡ 0
  pub placed : Placed places place (field 0 8 sector) (field 8 8 sector) (field 16 8 sector)
  pub fits : Fits (slice_index sector 30) (field 24 2 sector) (field 26 2 sector) (field 28 2 sector)

-- A record that has a good sector at this place.
pub record Sound (places place : ℕ) (e : Entry) : Type 0 where
  pub placed : Placed places place e.serial e.low e.ordinal
  pub fits : Fits e.kind e.page e.offset (length e.bytes)
