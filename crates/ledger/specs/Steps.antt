-- What the steps of a ledger's calls do.
use Rattle.std.specs.Prelude.{◌≡◌, ℕ, Bool, true, false, List, Ok, Err, Result}
use Rattle.std.specs.Borrow.{Bor}
use Rattle.transactions.specs.declared.fault.StoreFault.{StoreFault}
use Rattle.transactions.specs.declared.state.State.{State}
use Rattle.transactions.specs.Held.{Held}
use Rattle.book.specs.declared.fault.LedgerFault.{LedgerFault}
use Rattle.book.specs.declared.fault.LedgerFault.TheVariants.{Store, NotLedger}
use Rattle.book.specs.Book.{Book}
use Rattle.book.specs.Edits.{Edit, make_edits}
use Rattle.changes.specs.Changes.{Changes}
use Rattle.changes.specs.Steps.{Performs}
use Rattle.ledger.specs.Sound.{HoldsBook, on}
use Rattle.ledger.specs.Calls.{power_off}

-- The memory of a ledger is lent where it is on.
abbrev pub Looks : Bool → State → Result (Bor (List ℕ)) LedgerFault → Type 0
Looks fit s (Ok memory) = (on fit s ≡ true) × (memory.now ≡ s.image.memory)
Looks fit s (Err f) = (on fit s ≡ false) × (f ≡ power_off)

-- A change as the ledger answers it: by its ordinal, or by the store's refusal.
abbrev pub ChangesTo : Held → List Edit → Bool → Result ℕ LedgerFault → Held → Type 0
ChangesTo h xs flush (Ok o) k = (records : ℕ) × Changes h xs flush (Ok (o, records)) k
ChangesTo h xs flush (Err f) k = (fault : StoreFault) × (f ≡ Store fault) × Changes h xs flush (Err fault) k

-- Where the format succeeded, the cells are linked; else its refusal is the answer, and nothing moves.
abbrev pub Links : Result (Unit {0}) StoreFault → Held → Result (Unit {0}) LedgerFault → Held → Type 0
Links (Err f) h r k = (r ≡ Err (Store f)) × (k ≡ h)
Links (Ok _) h (Ok _) k = (x : ℕ × ℕ) × Performs make_edits true h (Ok x) k
Links (Ok _) h (Err f) k = (fault : StoreFault) × (f ≡ Store fault) × Performs make_edits true h (Err fault) k

-- What was opened is a ledger just where its memory holds some book. A refusal of the store stays one.
abbrev pub Checks : Result (ℕ × ℕ) StoreFault → State → Result (ℕ × ℕ) LedgerFault → Type 0
Checks (Err f) s r = r ≡ Err (Store f)
Checks (Ok x) s (Ok y) = (y ≡ x) × (s.on ≡ true → (b : Book) × HoldsBook s b)
Checks (Ok x) s (Err f) = s.on ≡ true → (f ≡ NotLedger) × ((b : Book) → HoldsBook s b → ⊥)
