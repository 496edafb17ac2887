-- What keeps the money and the zeros of a ledger, and short ways to say what edits miss.
use Rattle.std.proofs.Common.{◌≡◌, ℕ, ◌+◌, List, ◌∷◌, length, replicate, subst, sym, inl, inr, arith}
use Rattle.record.specs.Fields.{digits}
use Rattle.book.specs.Layout.{Stands, balance_at}
use Rattle.book.specs.Book.{Book, IsAccount, Money, Zeros}
use Rattle.book.specs.Edits.{Edit, edit, after_edits}
use Rattle.book.proofs.Standing.{Kept, stands_kept, kept_shorter, Misses, AllMiss, first_stands, digits_length}
use Rattle.book.proofs.Places.{Apart}

-- an edit of m bytes is missed by what lies apart from it
pub misses : (a n s m : ℕ) (bytes : List ℕ) → length bytes ≡ m → Apart a n s m → Misses a n (edit s bytes)
misses a n s m bytes e (inl h) = inl h
misses a n s m bytes e (inr h) = inr (omega arith)

-- an edit of n bytes stands after others that miss them
pub stands_first : (a n : ℕ) (bytes : List ℕ) (xs : List Edit) (f : ℕ → ℕ) → length bytes ≡ n → AllMiss a n xs → Stands (after_edits (edit a bytes ∷ xs) f) a bytes
stands_first a n bytes xs f e h = first_stands (edit a bytes) xs f (subst (λ (m : ℕ). AllMiss a m xs) (sym e) h)

-- a number that stands in n bytes that are kept
pub number_kept : (f g : ℕ → ℕ) (a n x : ℕ) → Kept f g a n → Stands f a (digits n x) → Stands g a (digits n x)
number_kept f g a n x k s = stands_kept f g a (digits n x) (kept_shorter f g a n (length (digits n x)) (omega (arith, digits_length n x)) k) s

pub money_kept : (f g : ℕ → ℕ) (b : Book) → Kept f g 0 8 → ((a : ℕ) → IsAccount a → Kept f g (balance_at a) 8) → Money f b → Money g b
money_kept f g b total balances h =
    record {
      issued = number_kept f g 0 8 b.issued total h.issued;
      balance = λ a i. number_kept f g (balance_at a) 8 (b.balances a) (balances a i) (h.balance a i);
      bound = h.bound;
      sum = h.sum;
    }

pub zeros_kept : (f g : ℕ → ℕ) → Kept f g 10 6 → ((a : ℕ) → IsAccount a → Kept f g (balance_at a + 10) 6) → Kept f g 5872 272 → Zeros f → Zeros g
zeros_kept f g front accounts back z =
    record {
      front = stands_kept f g 10 (replicate 6 0) front z.front;
      accounts = λ a i. stands_kept f g (balance_at a + 10) (replicate 6 0) (accounts a i) (z.accounts a i);
      back = stands_kept f g 5872 (replicate 272 0) back z.back;
    }
