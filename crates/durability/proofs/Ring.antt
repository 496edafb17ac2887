-- Places in the ring of sectors: serials less than a round apart have places of their own.
use Rattle.std.proofs.Common.{◌≡◌, ℕ, ◌+◌, ◌/◌, ◌%◌, ◌<◌, ◌≤◌, ⊎_elim, mul-le-mul_left, mul-suc, arith}
use native.Mathlib.Nat.{div-add-mod}
use Rattle.std.proofs.lemmas.Bool.{cases_lt}

pub own_place : (n s t : ℕ) → s < t → t < s + n → t % n ≡ s % n → ⊥
own_place n s t h k e =
    let a = div-add-mod s n in
    let b = div-add-mod t n in
    ⊎_elim
    (λ (lt : s / n < t / n). omega (arith, mul-le-mul_left n lt, mul-suc n (s / n)))
    (λ (ge : t / n ≤ s / n). omega (arith, mul-le-mul_left n ge))
    (cases_lt (s / n) (t / n))
