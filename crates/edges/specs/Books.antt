-- A tag's bucket, and a balance that is just enough.
use Rattle.std.specs.Prelude.{◌≡◌, ℕ, ◌+◌, Bool, true, ◌≢◌, List, [], ◌∷◌, Some, None, Ok, Err, Result}
use Rattle.transactions.specs.declared.fault.StoreFault.{StoreFault}
use Rattle.book.specs.declared.fault.LedgerFault.{LedgerFault}
use Rattle.book.specs.declared.fault.LedgerFault.TheVariants.{Store, Unknown, Short}
use Rattle.book.specs.Fault.{number}
use Rattle.book.specs.Records.{bucket_of}
use Rattle.book.specs.Book.{Book, IsAccount}
use Rattle.book.specs.Rows.{first_fit, drop_rows, account_of}
use Rattle.ledger.specs.Sound.{Held, HoldsBook, is_on}
use Rattle.ledger.specs.Calls.{Moves}

-- The tag of bytes 1 to 8 belongs to bucket 4, and where it is unknown that is told.
abbrev pub one_to_eight : List ℕ
one_to_eight = 1 ∷ 2 ∷ 3 ∷ 4 ∷ 5 ∷ 6 ∷ 7 ∷ 8 ∷ []

pub record InBucketFour : Type 0 where
  pub bucket : bucket_of one_to_eight ≡ 4
  pub told : (b : Book) → account_of b one_to_eight ≡ None → first_fit (drop_rows b one_to_eight) ≡ Some (Unknown 4)

-- A ledger is on; the payer, who is not the payee, has a balance of 20, and a cell is free.
pub record Twenty (h : Held) (b : Book) (payer payee : ℕ) : Type 0 where
  pub on : is_on h ≡ true
  pub holds : HoldsBook h.store.state b
  pub payer_is : IsAccount payer
  pub payee_is : IsAccount payee
  pub two : payer ≢ payee
  pub twenty : b.balances payer ≡ 20
  pub free : b.free ≢ []

-- Paying 20 passes: only the store may refuse it.
abbrev pub TwentyPass : Type 0
TwentyPass =
    (h k : Held) (b : Book) (payer payee : ℕ) (flush : Bool) (r : Result ℕ LedgerFault) → Twenty h b payer payee
    → Moves payer payee 20 flush h r k → (f : LedgerFault) → r ≡ Err f → (g : StoreFault) × (f ≡ Store g)

-- There is such a ledger.
abbrev pub TwentyStand : Type 0
TwentyStand = (h : Held) × (b : Book) × (payer : ℕ) × (payee : ℕ) × Twenty h b payer payee

-- Once 20 are paid the payer has none, and the payee 20 more.
abbrev pub TwentyPaid : Type 0
TwentyPaid =
    (h k : Held) (b : Book) (payer payee : ℕ) (flush : Bool) (ordinal : ℕ) → Twenty h b payer payee
    → Moves payer payee 20 flush h (Ok ordinal) k
    → (b' : Book) × HoldsBook k.store.state b' × (b'.balances payer ≡ 0)
    × (b'.balances payee ≡ b.balances payee + 20)

-- Paying 21 is refused by row 23, which tells the balance, and nothing moves.
pub record TwentyOneShort : Type 0 where
  pub row : number (Short 20) ≡ 23
  pub refused :
      (h k : Held) (b : Book) (payer payee : ℕ) (flush : Bool) (r : Result ℕ LedgerFault) → Twenty h b payer payee
      → Moves payer payee 21 flush h r k → (r ≡ Err (Short 20)) × (k ≡ h)
