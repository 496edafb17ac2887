-- Numbers in bytes.
use Rattle.std.proofs.Common.{◌≡◌, ℕ, zero, suc, ◌+◌, ◌*◌, ◌/◌, ◌%◌, ◌^◌, ◌<◌, List, [], ◌∷◌, length, get_or, take, drop, refl, sym, ap, ◌∙◌, arith}
use Rattle.std.proofs.lemmas.List.{take_all}
use Rattle.std.specs.Int.{byte_worth, sum_through}
use Rattle.record.specs.Fields.{value, digits}
use Rattle.record.proofs.Numbers.{number_in, value_digits}

-- bytes are the digits of the number that they write
pub digits_value : (n : ℕ) (bs : List ℕ) → length bs ≡ n → ((i : ℕ) → i < n → get_or bs i 0 < 256) → digits n (value bs) ≡ bs
unfolding digits
digits_value zero [] long small = refl
digits_value zero (b ∷ bs) long small = absurd (omega arith)
digits_value (suc n) [] long small = absurd (omega arith)
digits_value (suc n) (b ∷ bs) long small =
    let here : b < 256 = small 0 (omega arith) in
    let rest : digits n (value bs) ≡ bs = digits_value n bs (omega arith) (λ i h. small (suc i) (omega arith)) in
    let low : (b + 256 * value bs) % 256 ≡ b = omega arith in
    let high : (b + 256 * value bs) / 256 ≡ value bs = omega arith in
    rw (low, high, rest) refl

-- the digits of a number that was read
pub digits_read : (k n : ℕ) (bs : List ℕ) → length bs ≡ suc k → ((i : ℕ) → i < suc k → get_or bs i 0 < 256) → n ≡ sum_through (λ i. byte_worth i (get_or bs i 0)) k → digits (suc k) n ≡ bs
digits_read k n bs long small is =
    let whole : bs ≡ take (suc k) (drop 0 bs) = sym (take_all (suc k) bs (omega arith)) in
    let read : n ≡ value (take (suc k) (drop 0 bs)) = number_in k 0 n bs bs whole is in
    ap (digits (suc k)) (read ∙ ap value (sym whole)) ∙ digits_value (suc k) bs long small

-- numbers with the same digits are the same
pub digits_same : (n x y : ℕ) → x < 256 ^ n → y < 256 ^ n → digits n x ≡ digits n y → x ≡ y
digits_same n x y hx hy e = sym (value_digits n x hx) ∙ ap value e ∙ value_digits n y hy
