-- What a place of a log holds, as one value: a record, or a bad entry of kind 0.
use Rattle.std.specs.Prelude.{ℕ, ◌+◌, ◌-◌, ◌%◌, ◌^◌, Bool, cond, ◌&&◌, ◌||◌, List, [], length, Some, None, Option, ◌==◌, nat_le, nat_lt, slice_index}
use Rattle.record.specs.declared.Record.{Record}
use Rattle.record.specs.Fields.{field}
use Rattle.record.specs.Entry.{Entry, entry, reads_as}

-- What stands for a sector that is not good.
abbrev pub bad : Entry
bad = record { kind = 0; serial = 0; low = 0; ordinal = 0; page = 0; offset = 0; bytes = [] }

-- The rules of a good sector as a test. That it agrees with them is proved.
unfoldable pub is_placed : ℕ → ℕ → ℕ → ℕ → ℕ → Bool
is_placed places place serial low ordinal =
    nat_le 1 serial && nat_lt serial (2 ^ 63) && serial % places == place
    && nat_le 1 low && nat_le low serial && nat_lt (serial - low) places && nat_lt ordinal serial

unfoldable pub does_fit : ℕ → ℕ → ℕ → ℕ → Bool
does_fit kind page offset size =
    (nat_le 1 kind && nat_le kind 3 && nat_lt page 64 && nat_le 1 size && nat_le (offset + size) 96 && (nat_lt kind 3 || size == 96))
    || (kind == 4 && page == 0 && offset == 0 && size == 0)

unfoldable pub is_good : ℕ → ℕ → List ℕ → Bool
is_good places place sector =
    (length sector == 128) && slice_index sector 31 == 0
    && is_placed places place (field 0 8 sector) (field 8 8 sector) (field 16 8 sector)
    && does_fit (slice_index sector 30) (field 24 2 sector) (field 26 2 sector) (field 28 2 sector)

-- What a sector holds at this place of a log of so many sectors.
unfoldable pub found : ℕ → ℕ → List ℕ → Entry
found places place sector = cond (is_good places place sector) (reads_as sector) bad

-- The same of a reading's answer.
abbrev pub seen : Option Record → Entry
seen (Some r) = entry r
seen None = bad
