-- What holds of every log.
use Rattle.std.specs.Prelude.{◌≡◌, ℕ, ◌+◌, ◌-◌, ◌%◌, ◌^◌, List, [], ◌∷◌, length, take, replicate}
use Rattle.record.specs.Fields.{field}
use Rattle.record.specs.Entry.{Entry, laid_out, reads_as}
use Rattle.record.specs.Good.{Good, Sound}
use Rattle.record.specs.Found.{bad, found}

-- A record that may stand at a place is good there once it is laid out, and is read as itself.
abbrev pub ReadsBack : Type 0
ReadsBack = (places place : ℕ) (e : Entry) → Sound places place e → Good places place (laid_out e) × (reads_as (laid_out e) ≡ e)

-- And only such a record is ever read.
abbrev pub ReadsSound : Type 0
ReadsSound = (places place : ℕ) (sector : List ℕ) → Good places place sector → Sound places place (reads_as sector)

-- Zeros are nowhere good.
abbrev pub ZerosBad : Type 0
ZerosBad = (places place : ℕ) → Good places place (replicate 128 0) → ⊥

-- Bytes past a record's length do not matter.
abbrev pub RestIgnored : Type 0
RestIgnored =
    (places place : ℕ) (a b : List ℕ) → Good places place a → length b ≡ 128
    → take (32 + field 28 2 a) b ≡ take (32 + field 28 2 a) a → Good places place b × (reads_as b ≡ reads_as a)

-- What is found is what a good sector says, and else bad.
pub record Finds (places place : ℕ) (sector : List ℕ) : Type 0 where
  pub good : Good places place sector → found places place sector ≡ reads_as sector
  pub else : (Good places place sector → ⊥) → found places place sector ≡ bad

-- Records at the ends of every range: the greatest serial and ordinal, the farthest low, the last byte
-- of the last page; the least mark; a whole page.
pub record Edges (places : ℕ) : Type 0 where
  pub greatest : Sound places ((2 ^ 63 - 1) % places) record { kind = 2; serial = 2 ^ 63 - 1; low = 2 ^ 63 - places; ordinal = 2 ^ 63 - 2; page = 63; offset = 95; bytes = 255 ∷ [] }
  pub least : Sound places (1 % places) record { kind = 4; serial = 1; low = 1; ordinal = 0; page = 0; offset = 0; bytes = [] }
  pub page : Sound places (1 % places) record { kind = 3; serial = 1; low = 1; ordinal = 0; page = 0; offset = 0; bytes = replicate 96 255 }
