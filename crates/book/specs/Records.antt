-- The 20 bytes of each kind of record.
use Rattle.std.specs.Prelude.{◌≡◌, ℕ, ◌%◌, ◌^◌, ◌<◌, List, ◌++◌, length, replicate, Some, None, Option, sum}
use Rattle.record.specs.Fields.{digits}
use Rattle.book.specs.declared.records.Tag.{Tag}
use Rattle.book.specs.declared.records.Entry.{Entry}

-- A record is read from its own bytes, and nothing is read from bytes that are no record's.
abbrev pub ReadAs : {X : Type 0} → (X → List ℕ) → (X → Type 0) → List ℕ → Option X → Type 0
ReadAs content fits bytes (Some x) = (content x ≡ bytes) × fits x
ReadAs content fits bytes None = (x : _) → fits x → content x ≡ bytes → ⊥

-- Every kind has 8 bytes, an account in 2, and zeros.
abbrev pub laid : List ℕ → ℕ → List ℕ
laid front account = front ++ (digits 2 account ++ replicate 10 0)

-- The two that are laid out in these bytes, if they are such.
abbrev pub Parted : List ℕ → Option (List ℕ × ℕ) → Type 0
Parted bytes (Some (front, account)) = (laid front account ≡ bytes) × (length front ≡ 8) × (account < 2 ^ 16)
Parted bytes None = (front : List ℕ) (account : ℕ) → length front ≡ 8 → laid front account ≡ bytes → ⊥

-- A tag: its own 8 bytes, its account in 2, and zeros.
abbrev pub tag_kind : ℕ
tag_kind = 1

abbrev pub tag_content : Tag → List ℕ
tag_content t = t.id ++ (digits 2 t.account ++ replicate 10 0)

abbrev pub TagFits : Tag → Type 0
TagFits t = (length t.id ≡ 8) × (t.account < 2 ^ 16)

-- The bucket that a tag belongs to.
abbrev pub bucket_of : List ℕ → ℕ
bucket_of id = sum id % 16

-- An entry: the amount in 8 bytes, who was paid in 2, and zeros.
abbrev pub entry_kind : ℕ
entry_kind = 2

abbrev pub entry_content : Entry → List ℕ
entry_content e = digits 8 e.amount ++ (digits 2 e.payee ++ replicate 10 0)

abbrev pub EntryFits : Entry → Type 0
EntryFits e = (e.amount < 2 ^ 64) × (e.payee < 2 ^ 16)

-- A free cell: kind 0, and zeros.
abbrev pub blank_content : List ℕ
blank_content = replicate 20 0
