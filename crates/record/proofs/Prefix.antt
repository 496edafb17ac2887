-- Sectors with the same first bytes.
use Rattle.std.proofs.Common.{◌≡◌, ℕ, ◌+◌, ◌<◌, ◌≤◌, List, get_or, take, drop, ap}
use Rattle.std.proofs.lemmas.List.{take-take, drop-take, get_or-take}
use Rattle.record.specs.Fields.{value, field}

pub same_part : (f n k : ℕ) (a b : List ℕ) → f + n ≤ k → take k b ≡ take k a → take n (drop f b) ≡ take n (drop f a)
same_part f n k a b within same =
    rw (← drop-take f n b, ← take-take (f + n) k b within, same, take-take (f + n) k a within) (drop-take f n a)

pub same_byte : (i k : ℕ) (a b : List ℕ) → i < k → take k b ≡ take k a → get_or b i 0 ≡ get_or a i 0
same_byte i k a b within same = rw (← get_or-take k b i 0 within, same) (get_or-take k a i 0 within)

pub same_field : (f n k : ℕ) (a b : List ℕ) → f + n ≤ k → take k b ≡ take k a → field f n b ≡ field f n a
same_field f n k a b within same = ap value (same_part f n k a b within same)
