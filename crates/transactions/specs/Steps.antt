-- What the inner steps of the calls do.
use Rattle.std.specs.Prelude.{◌≡◌, ℕ, Bool, false, ◌⊎◌, List, Some, None, Ok, Err, Option, Result}
use Rattle.image.specs.Calls.{Kept}
use Rattle.transactions.specs.declared.fault.StoreFault.{StoreFault}
use Rattle.transactions.specs.declared.state.State.{State}
use Rattle.transactions.specs.Fault.{number, values}
use Rattle.device.specs.Disk.{Disk}
use Rattle.transactions.specs.Calls.{CommitsParts, CommitRefused, CommitCut}

-- The tests pass just where no row fits, and else the refusal is that of the first that fits.
abbrev pub Passes : Option (ℕ × List ℕ) → Result (Unit {0}) StoreFault → Type 0
Passes fit (Ok _) = fit ≡ None
Passes fit (Err f) = fit ≡ Some (number f, values f)

-- The transaction is over and its bytes stay.
pub record Over (s s' : State) : Type 0 where
  pub image : Kept s.image s'.image
  pub free : s'.busy ≡ false

-- A commit of records that passed its tests: it answers, or power cuts it.
abbrev pub PartsAnswer : State → Disk → Bool → Result (ℕ × ℕ) StoreFault → State → Disk → Type 0
PartsAnswer s d flush (Ok x) s' e = CommitsParts s d flush x s' e
PartsAnswer s d flush (Err f) s' e = CommitCut s d flush f s' e

-- A commit of records: refused for want of room, or as above.
abbrev pub PiecesAnswer : State → Disk → Bool → Result (ℕ × ℕ) StoreFault → State → Disk → Type 0
PiecesAnswer s d flush (Ok x) s' e = CommitsParts s d flush x s' e
PiecesAnswer s d flush (Err f) s' e = CommitRefused s d flush f s' e ⊎ CommitCut s d flush f s' e
