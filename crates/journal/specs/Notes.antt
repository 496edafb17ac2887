-- The notes that an opening keeps of a log's places, and what they tell of its records.
use Rattle.std.specs.Prelude.{◌≡◌, ℕ, ◌<◌, ◌≤◌, cond, List, length, Some, None, Option, nat_lt, slice_index_or}
use Rattle.device.specs.Disk.{Shown}
use Rattle.record.specs.Entry.{Entry}
use Rattle.record.specs.Kind.{code_of}
use Rattle.record.specs.declared.label.Kind.{Kind}
use Rattle.record.specs.declared.label.Label.{Label}
use Rattle.journal.specs.Log.{said}
use Rattle.journal.specs.declared.note.Note.{Note}
use Rattle.journal.specs.declared.note.Latest.{Latest}

-- The number of a kind in the format; 0 where there is none.
abbrev pub number_of : Option Kind → ℕ
number_of None = 0
number_of (Some k) = code_of k

-- The note tells of what a place holds: all but its low, its ordinal and the bytes themselves.
pub record Tells (e : Entry) (x : Note) : Type 0 where
  pub serial : x.serial ≡ e.serial
  pub kind : number_of x.kind ≡ e.kind
  pub page : x.page ≡ e.page
  pub offset : x.offset ≡ e.offset
  pub size : x.size ≡ length e.bytes

-- The same of a record by its label.
pub record TellsOf (l : Label) (x : Note) : Type 0 where
  pub serial : x.serial ≡ l.head.serial
  pub kind : x.kind ≡ Some l.kind
  pub page : x.page ≡ l.page
  pub offset : x.offset ≡ l.offset
  pub size : x.size ≡ l.length

-- The note of a place that holds no record.
abbrev pub blank : Note
blank = record { serial = 0; kind = None; page = 0; offset = 0; size = 0 }

-- The notes are those of the n places of a log, in their order.
pub record Noted (n : ℕ) (shows : ℕ → Shown) (notes : List Note) : Type 0 where
  pub count : length notes ≡ n
  pub each : (p : ℕ) → p < n → Tells (said n p (shows p)) (slice_index_or notes p blank)

-- The latest record, once one with these numbers is met; and once what a place holds is.
abbrev pub later : ℕ → ℕ → Latest → Latest
later serial low x = cond (nat_lt x.serial serial) (record { serial = serial; low = low }) x

abbrev pub met : Entry → Latest → Latest
met e x = later e.serial e.low x

-- Of the first k places of a log one holds this record.
pub record MetAt (n : ℕ) (shows : ℕ → Shown) (k : ℕ) (x : Latest) : Type 0 where
  pub place : ℕ
  pub below : place < k
  pub serial : (said n place (shows place)).serial ≡ x.serial
  pub low : (said n place (shows place)).low ≡ x.low

-- None of them holds one with a greater serial.
pub record Topped (n : ℕ) (shows : ℕ → Shown) (k : ℕ) (x : Latest) : Type 0 where
  pub greatest : (p : ℕ) → p < k → (said n p (shows p)).serial ≤ x.serial
  pub some : 1 ≤ x.serial → MetAt n shows k x
