-- The rules of a record, and records with equal parts.
use Rattle.std.proofs.Common.{◌≡◌, ℕ, ◌<◌, ◌≤◌, arith}
use Rattle.record.specs.Entry.{Entry}
use Rattle.record.specs.Good.{Fits}

-- no record has more than 96 bytes, or lies past the last page
pub fits_size : (k p o n : ℕ) → Fits k p o n → n ≤ 96
fits_size k p o n f = grind arith

pub fits_page : (k p o n : ℕ) → Fits k p o n → (p < 64) × (o ≤ 96)
fits_page k p o n f = grind arith

-- records with the same parts
pub same_entry : (d e : Entry) → d.kind ≡ e.kind → d.serial ≡ e.serial → d.low ≡ e.low → d.ordinal ≡ e.ordinal → d.page ≡ e.page → d.offset ≡ e.offset → d.bytes ≡ e.bytes → d ≡ e
same_entry d e ek es el en ep eo eb = grind arith
