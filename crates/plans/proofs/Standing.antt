-- What stands in the memory is what is read there.
use Rattle.std.proofs.Common.{◌≡◌, ℕ, suc, ◌+◌, ◌^◌, ◌<◌, ◌≤◌, List, [], ◌∷◌, length, get_or, take, drop, refl, sym, ap, ◌∙◌, arith, add-one, add-zero, drop-cons}
use Rattle.record.specs.Fields.{value, digits, field}
use Rattle.record.proofs.Numbers.{value_digits}
use Rattle.book.specs.Layout.{byte_in, Stands, balance_at, Cell, Chain, first_of}
use Rattle.book.specs.Book.{Book, IsAccount, Holds}
use Rattle.book.proofs.Standing.{digits_length}
use Rattle.book.proofs.Sums.{sum_least}

pub stands_rest : (f : ℕ → ℕ) (a x : ℕ) (xs : List ℕ) → Stands f a (x ∷ xs) → Stands f (a + 1) xs
stands_rest f a x xs h i k =
    let e : a + 1 + i ≡ a + suc i = omega arith in
    ap f e ∙ h (suc i) (omega arith)

-- bytes that stand in the memory are those read there
pub stands_part : (m xs : List ℕ) (a : ℕ) → Stands (byte_in m) a xs → a + length xs ≤ length m → take (length xs) (drop a m) ≡ xs
stands_part m [] a h k = refl
stands_part m (x ∷ xs) a h k =
    let lt : a < length m = omega arith in
    let first : get_or m a 0 ≡ x = ap (λ i. get_or m i 0) (sym (add-zero a)) ∙ h 0 (omega arith) in
    let rest : take (length xs) (drop (a + 1) m) ≡ xs = stands_part m xs (a + 1) (stands_rest (byte_in m) a x xs h) (omega arith) in
    let rest' : take (length xs) (drop (suc a) m) ≡ xs = rw add-one at rest in
    rw (drop-cons m a 0, first, rest')

-- and so are numbers
pub stands_field : (m : List ℕ) (n a x : ℕ) → Stands (byte_in m) a (digits n x) → a + n ≤ length m → x < 256 ^ n → field a n m ≡ x
stands_field m n a x h k l =
    let e = digits_length n x in
    let p = stands_part m (digits n x) a h (omega arith) in
    ap (λ i. value (take i (drop a m))) (sym e) ∙ ap value p ∙ value_digits n x l

-- the index that leads to a chain is that of its first cell
pub stands_index : (m : List ℕ) (a : ℕ) (cs : List Cell) → Chain (byte_in m) a cs → a + 2 ≤ length m → field a 2 m ≡ first_of cs
stands_index m a [] h k = stands_field m 2 a 0 h k (omega arith)
stands_index m a (c ∷ cs) h k = stands_field m 2 a c.number h.0 k (omega (arith, h.1))

-- in a ledger a balance and the total are read
pub held_total : (m : List ℕ) (b : Book) → Holds (byte_in m) b → length m ≡ 6144 → field 0 8 m ≡ b.issued
held_total m b h k =
    let bound = h.money.bound in
    stands_field m 8 0 b.issued h.money.issued (omega arith) (omega arith)

pub held_balance : (m : List ℕ) (b : Book) (a : ℕ) → Holds (byte_in m) b → length m ≡ 6144 → IsAccount a → field (balance_at a) 8 m ≡ b.balances a
held_balance m b a h k l =
    let bound = h.money.bound in
    let sum = h.money.sum in
    let below = sum_least 64 a b.balances l.0 l.1 in
    stands_field m 8 (balance_at a) (b.balances a) (h.money.balance a l) (omega arith) (omega arith)
