-- The label that the code keeps.
use Rattle.std.specs.Prelude.{◌≡◌, ℕ, List, length, Some, None, Option, slice_index}
use Rattle.record.specs.declared.Head.{Head}
use Rattle.record.specs.declared.label.Kind.{Kind}
use Rattle.record.specs.declared.label.Label.{Label}
use Rattle.record.specs.Fields.{field}
use Rattle.record.specs.Kind.{code_of}
use Rattle.record.specs.Entry.{Entry}
use Rattle.record.specs.Good.{Fits, Good}

-- This label stands in the sector.
pub record Says (sector : List ℕ) (l : Label) : Type 0 where
  pub serial : l.head.serial ≡ field 0 8 sector
  pub low : l.head.low ≡ field 8 8 sector
  pub ordinal : l.head.ordinal ≡ field 16 8 sector
  pub page : l.page ≡ field 24 2 sector
  pub offset : l.offset ≡ field 26 2 sector
  pub size : l.length ≡ field 28 2 sector
  pub kind : code_of l.kind ≡ slice_index sector 30

-- The record with this label and these bytes.
abbrev pub spelled : Label → List ℕ → Entry
spelled l bytes =
    record { kind = code_of l.kind; serial = l.head.serial; low = l.head.low; ordinal = l.head.ordinal; page = l.page; offset = l.offset; bytes = bytes }

-- A label is made of numbers just where they keep the rule of their kind,
abbrev pub Numbered : Head → Kind → ℕ → ℕ → ℕ → Option Label → Type 0
Numbered head kind page offset size (Some l) = (l.head ≡ head) × (l.kind ≡ kind) × (l.page ≡ page) × (l.offset ≡ offset) × (l.length ≡ size)
Numbered head kind page offset size None = Fits (code_of kind) page offset size → ⊥

-- of a record just where it does,
abbrev pub Labels : Entry → Option Label → Type 0
Labels e (Some l) = (spelled l e.bytes ≡ e) × (l.length ≡ length e.bytes)
Labels e None = Fits e.kind e.page e.offset (length e.bytes) → ⊥

-- and of a sector just where its numbers keep the rule of a kind.
abbrev pub Labelled : List ℕ → Option Label → Type 0
Labelled sector (Some l) = Says sector l
Labelled sector None = Fits (slice_index sector 30) (field 24 2 sector) (field 26 2 sector) (field 28 2 sector) → ⊥

-- This is the label of a good sector.
pub record Passed (places place : ℕ) (sector : List ℕ) (l : Label) : Type 0 where
  pub good : Good places place sector
  pub says : Says sector l

-- A label is answered just where the sector is good.
abbrev pub Judged : ℕ → ℕ → List ℕ → Option Label → Type 0
Judged places place sector (Some l) = Passed places place sector l
Judged places place sector None = Good places place sector → ⊥
