-- The tests of each call, in their order: the first that fits answers.
use Rattle.std.specs.Prelude.{◌≡◌, ℕ, ◌+◌, ◌-◌, ◌^◌, Bool, false, cond, not, ◌&&◌, List, [], ◌∷◌, Some, None, Option, ◌==◌, nat_lt}
use Rattle.arrayvec.specs.ArrayVec.{array_vec_len}
use Rattle.transactions.specs.declared.fault.StoreFault.{StoreFault}
use Rattle.transactions.specs.declared.state.State.{State}
use Rattle.transactions.specs.Fault as fault
use Rattle.transactions.specs.State.{live}

-- A test, and the refusal where it fits: its number, and the values that it returns.
pub record Row : Type 0 where
  pub fits : Bool
  pub number : ℕ
  pub values : List ℕ

-- The number and the values of the first row that fits.
abbrev pub first_fit : List Row → Option (ℕ × List ℕ)
first_fit [] = None
first_fit (row ∷ rows) = cond row.fits (Some (row.number, row.values)) (first_fit rows)

-- The first row that fits is that of this refusal.
abbrev pub Refuses : List Row → StoreFault → Type 0
Refuses rows f = first_fit rows ≡ Some (fault.number f, fault.values f)

-- The store is off: power failed, with origin 0.
abbrev pub off : State → Row
off s = record { fits = not s.on; number = 1; values = 0 ∷ [] }

-- A transaction is open; it will have this ordinal.
abbrev pub busy : State → Row
busy s = record { fits = s.busy; number = 9; values = (s.log.ordinal + 1) ∷ [] }

-- The token with this number is not the open transaction's.
abbrev pub stranger : State → ℕ → Row
stranger s shown =
    record { fits = not (s.busy && shown == s.log.ordinal + 1); number = 10; values = shown ∷ [] }

-- For k records more there are too few serials after the last: 65 stay in reserve, for a truncation.
abbrev pub serials : State → ℕ → Row
serials s k =
    record { fits = nat_lt (2 ^ 63 - 1) (s.log.last + array_vec_len s.spool + k + 65); number = 14; values = s.log.last ∷ [] }

-- For k records more there is too little log, by so many: 65 places stay in reserve too.
abbrev pub full : State → ℕ → Row
full s k =
    record { fits = nat_lt (s.log.places - 65) (live s + array_vec_len s.spool + k); number = 15; values = (live s + array_vec_len s.spool + k - (s.log.places - 65)) ∷ [] }

-- For k records more there is too little spool, by so many, where they are not to be written.
abbrev pub spool_full : State → ℕ → Bool → Row
spool_full s k flush =
    record { fits = cond flush false (nat_lt 32 (array_vec_len s.spool + k)); number = 16; values = (array_vec_len s.spool + k - 32) ∷ [] }

-- The rows of a call that is shown a token, of a commit of k records, and of a begin.
abbrev pub token_rows : State → ℕ → List Row
token_rows s number = off s ∷ stranger s number ∷ []

abbrev pub commit_rows : State → ℕ → Bool → List Row
commit_rows s k flush = serials s k ∷ full s k ∷ spool_full s k flush ∷ []

abbrev pub begin_rows : State → List Row
begin_rows s = off s ∷ busy s ∷ []
