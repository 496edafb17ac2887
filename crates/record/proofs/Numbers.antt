-- Numbers in bytes, the lowest byte first.
use Rattle.std.proofs.Common.{◌≡◌, ℕ, zero, suc, ◌+◌, ◌*◌, ◌/◌, ◌^◌, ◌<◌, List, [], ◌∷◌, get_or, take, drop, ap, pow-suc, mul_assoc, arith, rules}
use Rattle.std.proofs.lemmas.Nat.{div_below}
use Rattle.std.proofs.lemmas.List.{take-take}
use Rattle.std.specs.Int.{w16, w64, to_le_bytes, byte_worth, sum_through}
use Rattle.record.specs.Fields.{value, digits, field}

-- the code's bytes of a number, and its number in bytes, are those of the format
pub bytes_2 : (x : ℕ) → to_le_bytes w16 x ≡ digits 2 x
unfolding digits
bytes_2 x = search rules

pub bytes_8 : (x : ℕ) → to_le_bytes w64 x ≡ digits 8 x
unfolding digits
bytes_8 x = search rules

value_more : (n : ℕ) (bs : List ℕ) → value (take (suc n) bs) ≡ value (take n bs) + get_or bs n 0 * 256 ^ n
value_more zero [] = omega arith
value_more zero (b ∷ bs) = omega arith
value_more (suc n) [] = omega arith
value_more (suc n) (b ∷ bs) = grind (arith, value_more n bs, pow-suc 256 n, mul_assoc (get_or bs n 0) (256 ^ n) 256)

sum_value : (n : ℕ) (bs : List ℕ) → sum_through (λ i. byte_worth i (get_or bs i 0)) n ≡ value (take (suc n) bs)
sum_value zero bs = grind (arith, value_more 0 bs)
sum_value (suc n) bs = grind (arith, value_more (suc n) bs, sum_value n bs)

pub number_in : (k f n : ℕ) (sector bs : List ℕ) → bs ≡ take (suc k) (drop f sector) → n ≡ sum_through (λ i. byte_worth i (get_or bs i 0)) k → n ≡ field f (suc k) sector
number_in k f n sector bs part is = rw (is, sum_value k bs, part) (ap value (take-take (suc k) (suc k) (drop f sector) (omega arith)))

-- a number that fits its bytes is written in them
pub value_digits : (n x : ℕ) → x < 256 ^ n → value (digits n x) ≡ x
unfolding digits
value_digits zero x fits = omega arith
value_digits (suc n) x fits =
    omega (arith, value_digits n (x / 256) (div_below x 256 (256 ^ n) (omega arith) (rw (pow-suc 256 n) at fits)))
