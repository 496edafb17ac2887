-- The books that one memory holds have one total.
use Rattle.std.proofs.Common.{◌≡◌, ℕ, ◌^◌, ◌<◌, sym, ◌∙◌, ap, arith}
use Rattle.std.proofs.lemmas.List.{ext_get_or}
use Rattle.record.specs.Fields.{digits, value}
use Rattle.record.proofs.Numbers.{value_digits}
use Rattle.book.specs.Layout.{Stands}
use Rattle.book.specs.Book.{Book, Holds}
use Rattle.book.proofs.Standing.{digits_length}

-- a number in 8 bytes
pub same_amount : (f : ℕ → ℕ) (a x y : ℕ) → x < 2 ^ 64 → y < 2 ^ 64 → Stands f a (digits 8 x) → Stands f a (digits 8 y) → x ≡ y
same_amount f a x y fits fits' s t =
    let long = digits_length 8 x in
    let long' = digits_length 8 y in
    let same : digits 8 x ≡ digits 8 y =
    ext_get_or 0 (digits 8 x) (digits 8 y) (long ∙ sym long') (λ i k. sym (s i k) ∙ t i (omega (arith, long, long'))) in
    sym (value_digits 8 x fits) ∙ ap value same ∙ value_digits 8 y fits'

pub same_issued : (f : ℕ → ℕ) (b b' : Book) → Holds f b → Holds f b' → b.issued ≡ b'.issued
same_issued f b b' h h' =
    let low = h.money.bound in
    let low' = h'.money.bound in
    same_amount f 0 b.issued b'.issued (omega (arith, low)) (omega (arith, low')) h.money.issued h'.money.issued
