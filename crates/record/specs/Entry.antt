-- A record as numbers and bytes, how it lies in a sector, and what a sector says.
use Rattle.std.specs.Prelude.{ℕ, ◌-◌, cond, List, [], ◌∷◌, ◌++◌, length, take, drop, replicate, slice_index}
use Rattle.record.specs.declared.Record.{Record}
use Rattle.record.specs.declared.Record.TheVariants.{Part, Page, Mark}
use Rattle.record.specs.Fields.{digits, field}

-- Kind 1 is a part of a transaction with more parts to come, 2 its last part, 3 a page, 4 a mark.
pub record Entry : Type 0 where
  pub kind : ℕ
  pub serial : ℕ
  pub low : ℕ
  pub ordinal : ℕ
  pub page : ℕ
  pub offset : ℕ
  pub bytes : List ℕ

-- What a record of the code stands for.
abbrev pub entry : Record → Entry
entry (Part head page offset last bytes) =
    record { kind = cond last 2 1; serial = head.serial; low = head.low; ordinal = head.ordinal; page = page; offset = offset; bytes = bytes.now }
entry (Page head page bytes) =
    record { kind = 3; serial = head.serial; low = head.low; ordinal = head.ordinal; page = page; offset = 0; bytes = bytes.now }
entry (Mark head) =
    record { kind = 4; serial = head.serial; low = head.low; ordinal = head.ordinal; page = 0; offset = 0; bytes = [] }

-- The 32 bytes before a record's own bytes, of which there are `size`.
abbrev pub label : Entry → ℕ → List ℕ
label e size =
    digits 8 e.serial ++ digits 8 e.low ++ digits 8 e.ordinal
    ++ digits 2 e.page ++ digits 2 e.offset ++ digits 2 size ++ (e.kind ∷ 0 ∷ [])

-- The sector of a record: its label, its bytes, and zeros after them.
unfoldable pub laid_out : Entry → List ℕ
laid_out e = label e (length e.bytes) ++ e.bytes ++ replicate (96 - length e.bytes) 0

-- What a sector says, where it is good.
unfoldable pub reads_as : List ℕ → Entry
reads_as sector =
    record {
      kind = slice_index sector 30;
      serial = field 0 8 sector;
      low = field 8 8 sector;
      ordinal = field 16 8 sector;
      page = field 24 2 sector;
      offset = field 26 2 sector;
      bytes = take (field 28 2 sector) (drop 32 sector);
    }
