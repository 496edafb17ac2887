-- What stands at one place is one thing.
use Rattle.std.proofs.Common.{◌≡◌, ℕ, ◌^◌, ◌<◌, List, length, sym, ◌∙◌, subst}
use Rattle.std.proofs.lemmas.List.{ext_get_or}
use Rattle.record.specs.Fields.{digits}
use Rattle.book.specs.Layout.{Stands}
use Rattle.book.proofs.Standing.{digits_length}
use Rattle.audit.proofs.Numbers.{digits_same}

pub stands_same : (f : ℕ → ℕ) (a : ℕ) (bs cs : List ℕ) → length bs ≡ length cs → Stands f a bs → Stands f a cs → bs ≡ cs
stands_same f a bs cs long hb hc =
    ext_get_or 0 bs cs long (λ i h. sym (hb i h) ∙ hc i (subst (λ (n : ℕ). i < n) long h))

pub number_same : (n : ℕ) (f : ℕ → ℕ) (a x y : ℕ) → x < 256 ^ n → y < 256 ^ n → Stands f a (digits n x) → Stands f a (digits n y) → x ≡ y
number_same n f a x y hx hy sx sy =
    digits_same n x y hx hy (stands_same f a (digits n x) (digits n y) (digits_length n x ∙ sym (digits_length n y)) sx sy)
