-- What the inner calls of a script do, before that is told as an event.
use Rattle.std.specs.Prelude.{◌≡◌, ℕ, length, Option, Result}
use Rattle.device.specs.Disk.{Disk}
use Rattle.book.specs.declared.fault.LedgerFault.{LedgerFault}
use Rattle.book.specs.declared.records.Entry.{Entry}
use Rattle.ledger.specs.Sound.{Held}
use Rattle.ledger.specs.Calls.{Makes, Opens, Issues, Moves, Visits, Enrols, Drops, Collects, Finds, Balances, Flushes, Truncates}
use Rattle.ledger_law.specs.declared.script.Call.TheVariants as script
use Rattle.ledger_law.specs.declared.script.Call as scripts
use Rattle.ledger_law.specs.declared.script.Answer.{Answer}
use Rattle.ledger_law.specs.declared.script.Answer.TheVariants as told
use Rattle.ledger_law.specs.Events.{Moment, working, closed}

-- A call on a ledger that works: all but a close, which gives the ledger up.
abbrev pub Does : scripts.Call → Held → Answer → Held → Type 0
Does script.Make h a k = (a ≡ told.NotMade) × (k ≡ h)
Does script.Open h a k = (a ≡ told.NotMade) × (k ≡ h)
Does script.Close h a k = ⊥
Does (script.Issue account amount flushed) h a k = (r : Result ℕ LedgerFault) × (a ≡ told.Changed r) × Issues account amount flushed h r k
Does (script.Move payer payee amount flushed) h a k =
    (r : Result ℕ LedgerFault) × (a ≡ told.Changed r) × Moves payer payee amount flushed h r k
Does (script.Visit id guard flushed) h a k = (r : Result ℕ LedgerFault) × (a ≡ told.Changed r) × Visits id guard flushed h r k
Does (script.Enrol id account flushed) h a k =
    (length id ≡ 8) × (r : Result ℕ LedgerFault) × (a ≡ told.Changed r) × Enrols id account flushed h r k
Does (script.Drop id flushed) h a k = (r : Result ℕ LedgerFault) × (a ≡ told.Changed r) × Drops id flushed h r k
Does (script.Collect account flushed) h a k =
    (r : Result (ℕ × Entry) LedgerFault) × (a ≡ told.Collected r) × Collects account flushed h r k
Does (script.Find id) h a k = (r : Result (Option ℕ) LedgerFault) × (a ≡ told.Found r) × Finds id h r × (k ≡ h)
Does (script.Balance account) h a k = (r : Result ℕ LedgerFault) × (a ≡ told.Balance r) × Balances account h r × (k ≡ h)
Does script.Flush h a k = (r : Result ℕ LedgerFault) × (a ≡ told.Flushed r) × Flushes h r k
Does script.Truncate h a k = (r : Result ℕ LedgerFault) × (a ≡ told.Truncated r) × Truncates h r k

-- A ledger works then, and this holds of it.
abbrev pub WorksThen : Moment → (Held → Type 0) → Type 0
WorksThen (working k) holds = holds k
WorksThen (closed d) holds = ⊥

-- On a device that lies alone, only a make and an opening do something.
abbrev pub Starts : scripts.Call → Disk → Answer → Moment → Type 0
Starts script.Make d a m = (r : Result (Unit {0}) LedgerFault) × (a ≡ told.Made r) × WorksThen m (λ k. Makes d r k)
Starts script.Open d a m = (r : Result (ℕ × ℕ) LedgerFault) × (a ≡ told.Opened r) × WorksThen m (λ k. Opens d r k)
Starts _ d a m = (a ≡ told.NotMade) × (m ≡ closed d)
