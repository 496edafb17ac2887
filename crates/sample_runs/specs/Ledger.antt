-- A run of a ledger in which power fails twice, and of which the conservation law speaks.
use Rattle.std.specs.Prelude.{◌≡◌, ℕ, false, List, [], ◌∷◌, map, Ok, Err}
use Rattle.device.specs.declared.fault.DeviceFault.TheVariants.{Power}
use Rattle.device.specs.Disk.{Disk}
use Rattle.transactions.specs.declared.fault.StoreFault.TheVariants.{Device}
use Rattle.book.specs.declared.fault.LedgerFault.{LedgerFault}
use Rattle.book.specs.declared.fault.LedgerFault.TheVariants.{Store}
use Rattle.ledger_law.specs.Events.{Moment, closed, Call, make, opening, close, issue, truncate, Event, Chain}

abbrev pub calls_of : List Event → List Call
calls_of es = map (λ (e : Event). e.call) es

abbrev pub failing : ℕ → LedgerFault
failing o = Store (Device (Power o))

-- A ledger is made, which is transaction 1. An issue of 20 to account 1 waits, as transaction 2. Power cuts the truncation
-- that would write it, and then the opening after it. The next one finds transaction 1 alone, and is a ledger.
abbrev pub cut_twice : (o p strays : ℕ) → List Call
cut_twice o p strays =
    make (Ok tt)
    ∷ issue 1 20 false (Ok 2)
    ∷ truncate (Err (failing o)) ∷ close
    ∷ opening (Err (failing p)) ∷ close
    ∷ opening (Ok (1, strays))
    ∷ []

-- There is a run that goes so.
pub record LedgerRun : Type 0 where
  pub device : Disk
  pub events : List Event
  pub last : Moment
  pub chain : Chain (closed device) events last
  pub origin : ℕ
  pub other : ℕ
  pub strays : ℕ
  pub calls : calls_of events ≡ cut_twice origin other strays
