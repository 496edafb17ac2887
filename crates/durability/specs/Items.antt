-- What is appended to a log, and what that makes of the memory.
use Rattle.std.specs.Prelude.{ℕ, ◌+◌, ◌*◌, ◌%◌, ◌≤◌, List, [], ◌∷◌, length}
use Rattle.device.specs.Trace.{Act, wrote}
use Rattle.record.specs.Entry.{Entry, laid_out}
use Rattle.record.specs.Good.{Fits}
use Rattle.journal.specs.Memory.{overlaid}

-- A record before it has its serial and its low: a part of a transaction (kind 1, or 2 for the last
-- one) or a page (kind 3).
pub record Item : Type 0 where
  pub kind : ℕ
  pub ordinal : ℕ
  pub page : ℕ
  pub offset : ℕ
  pub bytes : List ℕ

-- The record that an item becomes: it gets the low in force and the next serial.
abbrev pub recorded : ℕ → ℕ → Item → Entry
recorded low serial x =
    record { kind = x.kind; serial = serial; low = low; ordinal = x.ordinal; page = x.page; offset = x.offset; bytes = x.bytes }

-- The items are written in their order, each in its place of a log of n sectors whose last serial is `last`.
abbrev pub appending : ℕ → ℕ → ℕ → List Item → List Act
appending n low last [] = []
appending n low last (x ∷ xs) = wrote ((last + 1) % n) (laid_out (recorded low (last + 1) x)) ∷ appending n low (last + 1) xs

-- Byte i once the items are applied in their order, if it was v before.
abbrev pub put_in : List Item → ℕ → ℕ → ℕ
put_in [] i v = v
put_in (x ∷ xs) i v = put_in xs i (overlaid (x.page * 96 + x.offset) x.bytes i v)

-- The ordinal of the last item; o where there is none.
abbrev pub ordinal_after : ℕ → List Item → ℕ
ordinal_after o [] = o
ordinal_after o (x ∷ xs) = ordinal_after x.ordinal xs

-- The kind of the last item; k where there is none. From kind 2 up it ends a transaction or stands alone.
abbrev pub kind_after : ℕ → List Item → ℕ
kind_after k [] = k
kind_after k (x ∷ xs) = kind_after x.kind xs

-- The items may follow serial `last`: each keeps its kind's rule, is no mark, and has an ordinal below its serial.
abbrev pub Appendable : ℕ → List Item → Type 0
Appendable last [] = Unit {0}
Appendable last (x ∷ xs) =
    (x.kind ≤ 3) × Fits x.kind x.page x.offset (length x.bytes) × (x.ordinal ≤ last) × Appendable (last + 1) xs
