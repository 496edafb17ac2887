-- A log of 160 places in which 80 records live.
use Rattle.std.specs.Prelude.{◌≡◌, ℕ, ◌+◌, ◌^◌, ◌<◌, Bool, false, length, None, Ok, Err, Result}
use Rattle.arrayvec.specs.ArrayVec.{array_vec_len}
use Rattle.device.specs.Disk.{Disk}
use Rattle.transactions.specs.declared.fault.StoreFault.{StoreFault}
use Rattle.transactions.specs.declared.fault.StoreFault.TheVariants.{Full}
use Rattle.transactions.specs.declared.state.State.{State}
use Rattle.transactions.specs.Calls.{Commits, Undone}
use Rattle.transactions.specs.Fault.{number}
use Rattle.transactions.specs.Rows.{first_fit, commit_rows}
use Rattle.transactions.specs.State.{live, own}
use Rattle.edges.specs.Ranges.{Fitting}

-- Nothing waits, and serials are far from their end.
pub record Eighty (s : State) : Type 0 where
  pub places : s.log.places ≡ 160
  pub eighty : live s ≡ 80
  pub empty : array_vec_len s.spool ≡ 0
  pub serials : s.log.last + 81 < 2 ^ 63

-- A commit of 15 records passes all tests, with flush or without.
abbrev pub FifteenPass : Type 0
FifteenPass = (s : State) (flush : Bool) → Eighty s → first_fit (commit_rows s 15 flush) ≡ None

-- The store has the log and the spool of another, and its transaction would become one record.
pub record OneMore (t s : State) (token : ℕ) : Type 0 where
  pub log : t.log ≡ s.log
  pub spool : t.spool ≡ s.spool
  pub fits : Fitting t token
  pub one : length (own t) ≡ 1

-- After a commit of 15 records, flushed or not, a commit of one, flushed or not, is refused by row 15, which tells 1: the
-- transaction is undone, and the device as it was.
pub record ThenFull : Type 0 where
  pub row : number (Full 1) ≡ 15
  pub refused :
      (s s' t t' : State) (d d' e e' : Disk) (token next : ℕ) (flush again : Bool) (x : ℕ × ℕ) (r : Result (ℕ × ℕ) StoreFault)
      → Eighty s → length (own s) ≡ 15 → Commits s d token flush (Ok x) s' e
      → OneMore t s' next → Commits t d' next again r t' e'
      → (r ≡ Err (Full 1)) × Undone t t' × (e' ≡ d')

-- There is such a store: its commit of 15 records is made without flush, and then one of one record is refused.
pub record FifteenThenOne : Type 0 where
  pub disk : Disk
  pub before : State
  pub token : ℕ
  pub eighty : Eighty before
  pub fifteen : length (own before) ≡ 15
  pub after : State
  pub commits : Commits before disk token false (Ok (1, 15)) after disk
  pub again : State
  pub next : ℕ
  pub one : OneMore again after next
  pub undone : State
  pub refused : Commits again disk next false (Err (Full 1)) undone disk
