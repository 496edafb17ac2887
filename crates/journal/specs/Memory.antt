-- The memory that records make, byte by byte. It has 6,144 bytes, in 64 pages of 96.
use Rattle.std.specs.Prelude.{ℕ, zero, suc, ◌+◌, ◌-◌, ◌*◌, ◌/◌, ◌%◌, false, cond, List, length, nat_le, nat_lt, slice_index}
use Rattle.device.specs.Disk.{Shown, spoiled, holds}
use Rattle.record.specs.Entry.{Entry}

-- Where a record's bytes begin in the memory.
abbrev pub place_of : Entry → ℕ
place_of e = e.page * 96 + e.offset

-- Byte i once these bytes are put in from `place` on, if it was v before.
abbrev pub overlaid : ℕ → List ℕ → ℕ → ℕ → ℕ
overlaid place bytes i v = cond (cond (nat_le place i) (nat_lt i (place + length bytes)) false) (slice_index bytes (i - place)) v

-- Byte i once the record is applied, if it was v before.
abbrev pub applied : Entry → ℕ → ℕ → ℕ
applied e i v = overlaid (place_of e) e.bytes i v

-- Byte i once n records of a log are applied in order, from serial low on.
unfoldable pub replayed : (ℕ → Entry) → ℕ → ℕ → (ℕ → ℕ) → ℕ → ℕ
replayed log low zero base i = base i
replayed log low (suc n) base i = applied (log (low + n)) i (replayed log low n base i)

-- Byte j of what a sector shows; a spoiled one counts as zeros.
abbrev pub byte_of : Shown → ℕ → ℕ
byte_of spoiled j = 0
byte_of (holds bytes) j = slice_index bytes j

-- Byte i as its page's home has it, where homes begin at sector n.
abbrev pub from_home : ℕ → (ℕ → Shown) → ℕ → ℕ
from_home n shows i = byte_of (shows (n + i / 96)) (i % 96)
