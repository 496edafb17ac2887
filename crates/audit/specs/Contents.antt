-- What lies in a cell, by the chain that it is on.
use Rattle.std.specs.Prelude.{◌≡◌, ℕ, ◌+◌, ◌-◌, ◌<◌, ◌≤◌, ◌⊎◌, List, Some, None, Option}
use Rattle.book.specs.declared.records.Tag.{Tag}
use Rattle.book.specs.declared.records.Entry.{Entry}
use Rattle.book.specs.Records.{bucket_of, tag_kind, tag_content, TagFits, entry_kind, entry_content, EntryFits, blank_content}
use Rattle.book.specs.Layout.{Stands, cell_at, InCells, cell, held}
use Rattle.book.specs.Book.{IsAccount}
use Rattle.audit.specs.Owners.{owner}

-- This kind and content stand in cell n.
abbrev pub HasBytes : (ℕ → ℕ) → ℕ → ℕ → List ℕ → Type 0
HasBytes f n kind content = Stands f (cell_at n + 2) (held (cell n kind content))

-- A record of a kind is read from a cell just where one of that kind lies there.
abbrev pub ReadFrom : {X : Type 0} → ℕ → (X → List ℕ) → (X → Type 0) → (ℕ → ℕ) → ℕ → Option X → Type 0
ReadFrom kind content fits f n (Some x) = HasBytes f n kind (content x) × fits x
ReadFrom kind content fits f n None = (x : _) → fits x → HasBytes f n kind (content x) → ⊥

-- A tag lies in the cell, or an entry.
pub record HasTag (f : ℕ → ℕ) (n : ℕ) (t : Tag) : Type 0 where
  pub stands : HasBytes f n tag_kind (tag_content t)
  pub fits : TagFits t

pub record HasEntry (f : ℕ → ℕ) (n : ℕ) (e : Entry) : Type 0 where
  pub stands : HasBytes f n entry_kind (entry_content e)
  pub fits : EntryFits e

-- One that a chain may have: an entry names an account, and so does a tag, which is in its bucket.
pub record GoodEntry (f : ℕ → ℕ) (n : ℕ) : Type 0 where
  pub item : Entry
  pub lies : HasEntry f n item
  pub account : IsAccount item.payee

pub record GoodTag (f : ℕ → ℕ) (n k : ℕ) : Type 0 where
  pub item : Tag
  pub lies : HasTag f n item
  pub account : IsAccount item.account
  pub bucket : bucket_of item.id ≡ k

abbrev pub IsFree : (ℕ → ℕ) → ℕ → Type 0
IsFree f n = HasBytes f n 0 blank_content

-- A cell has what its chain may have.
abbrev pub Fits : (ℕ → ℕ) → ℕ → ℕ → Type 0
Fits f n c = ((c ≡ 0) × IsFree f n) ⊎ (IsAccount c × GoodEntry f n) ⊎ ((65 ≤ c) × GoodTag f n (c - 65))

abbrev pub FitsOwner : (ℕ → ℕ) → ℕ → Option ℕ → Type 0
FitsOwner f n None = ⊥
FitsOwner f n (Some c) = Fits f n c

-- So does every cell.
abbrev pub AllFit : (ℕ → ℕ) → List (Option ℕ) → Type 0
AllFit f owners = (n : ℕ) → InCells n → FitsOwner f n (owner owners n)

-- A tag with these bytes lies in the cell.
pub record HasId (f : ℕ → ℕ) (n : ℕ) (id : List ℕ) : Type 0 where
  pub item : Tag
  pub lies : HasTag f n item
  pub is : item.id ≡ id

-- None lies in a cell after this one. So it is with the tag in a cell, if there is one, and with every tag.
abbrev pub NotAfter : (ℕ → ℕ) → ℕ → List ℕ → Type 0
NotAfter f n id = (m : ℕ) → n < m → m ≤ 200 → HasId f m id → ⊥

pub record OnceAt (f : ℕ → ℕ) (n : ℕ) : Type 0 where
  pub none : (t : Tag) → HasTag f n t → NotAfter f n t.id

abbrev pub Once : (ℕ → ℕ) → Type 0
Once f = (n : ℕ) → InCells n → OnceAt f n
