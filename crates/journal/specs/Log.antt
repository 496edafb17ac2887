-- The log, seen by serial: places in the ring of sectors are named here and nowhere above.
use Rattle.std.specs.Prelude.{ℕ, ◌%◌, cond, ◌==◌}
use Rattle.device.specs.Disk.{Shown, spoiled, holds}
use Rattle.record.specs.Entry.{Entry}
use Rattle.record.specs.Found.{bad, found}

-- What stands for a sector that holds no record: kind 0. So kind 1 and more is a record, 2 and more
-- ends a transaction or stands alone (a last part, a page, a mark), and 4 is a mark.
abbrev pub nothing : Entry
nothing = bad

-- The record in a sector at a place of a log of so many sectors; nothing where it is not good.
abbrev pub said : ℕ → ℕ → Shown → Entry
said places place spoiled = nothing
said places place (holds bytes) = found places place bytes

-- The record with serial s, where its place holds it; nothing where that holds another, or none.
abbrev pub if_serial : ℕ → Entry → Entry
if_serial s e = cond (e.serial == s) e nothing

abbrev pub log : ℕ → (ℕ → Shown) → ℕ → Entry
log places shows s = if_serial s (said places (s % places) (shows (s % places)))
