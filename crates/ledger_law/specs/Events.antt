-- What happens in a run of a ledger: each call, what it answered and left, and what it did on the store below.
use Rattle.std.specs.Prelude.{◌≡◌, ℕ, Bool, List, [], ◌∷◌, ◌++◌, length, true, Ok, Err, Option, Result}
use Rattle.std.proofs.Common.{inl, inr}
use Rattle.device.specs.Disk.{Disk}
use Rattle.transactions.specs.declared.fault.StoreFault.{StoreFault}
use Rattle.transactions.specs.Held as held
use Rattle.law.specs.Events as store
use Rattle.book.specs.declared.fault.LedgerFault.{LedgerFault}
use Rattle.book.specs.declared.records.Entry.{Entry}
use Rattle.book.specs.Edits.{make_edits}
use Rattle.ledger.specs.Sound.{Held}
use Rattle.ledger.specs.Calls.{Change, OnBook, ByOrdinal, WithFront, issuing, moving, visiting, enrolling, dropping, collecting, Makes, Opens, Issues, Moves, Visits, Enrols, Drops, Collects, Finds, Balances, OnStore, Flushes, Truncates}
use Rattle.ledger_law.specs.Below.{Does, One}

-- A run between two calls: a ledger works on its device, or the device lies alone.
pub data Moment : Type 0 where
  working : Held → Moment
  closed : Disk → Moment

-- What the store below is then.
abbrev pub below : Moment → store.Moment
below (working h) = store.working h.store
below (closed d) = store.closed d

-- A call with its arguments and its answer. A tag that is enrolled has 8 bytes.
pub data Call : Type 0 where
  make : Result (Unit {0}) LedgerFault → Call
  opening : Result (ℕ × ℕ) LedgerFault → Call
  close : Call
  issue : ℕ → ℕ → Bool → Result ℕ LedgerFault → Call
  move : ℕ → ℕ → ℕ → Bool → Result ℕ LedgerFault → Call
  visit : List ℕ → ℕ → Bool → Result ℕ LedgerFault → Call
  enrol : List ℕ → ℕ → Bool → Result ℕ LedgerFault → Call
  drop_tag : List ℕ → Bool → Result ℕ LedgerFault → Call
  collect : ℕ → Bool → Result (ℕ × Entry) LedgerFault → Call
  find : List ℕ → Result (Option ℕ) LedgerFault → Call
  balance : ℕ → Result ℕ LedgerFault → Call
  flush : Result ℕ LedgerFault → Call
  truncate : Result ℕ LedgerFault → Call

-- A call, the run before and after it, and what it did on the store below.
pub record Event : Type 0 where
  pub call : Call
  pub before : Moment
  pub did : List store.Event
  pub after : Moment

-- A make formats, and then makes its one change.
abbrev pub DidMake : (d : Disk) (r : Result (Unit {0}) LedgerFault) (k : Held) → Makes d r k → List store.Event → Type 0
DidMake d (Ok _) k (fit, linked, holds) did =
    (first rest : List store.Event) × (did ≡ first ++ rest)
    × One (store.format (Ok tt)) (store.closed d) first (store.working linked.formatted)
    × Does linked.formatted make_edits true (Ok (1, 52)) k.store linked.changes rest
DidMake d (Err f) k (off, (g, is, inl formatted)) did = One (store.format (Err g)) (store.closed d) did (store.working k.store)
DidMake d (Err f) k (off, (g, is, inr (power, linked))) did =
    (first rest : List store.Event) × (did ≡ first ++ rest)
    × One (store.format (Ok tt)) (store.closed d) first (store.working linked.formatted)
    × Does linked.formatted make_edits true (Err g) k.store linked.changes rest

-- An opening opens the store.
abbrev pub DidOpen : (d : Disk) (r : Result (ℕ × ℕ) LedgerFault) (k : Held) → Opens d r k → List store.Event → Type 0
DidOpen d (Ok x) k opens did = One (store.opening (Ok x)) (store.closed d) did (store.working k.store)
DidOpen d (Err f) k (off, inl (g, is, opened)) did = One (store.opening (Err g)) (store.closed d) did (store.working k.store)
DidOpen d (Err f) k (off, inr none) did = One (store.opening (Ok none.found)) (store.closed d) did (store.working k.store)

-- A changing call does nothing below where the ledger is off or a row of the book fits.
abbrev pub DidChange : {A : Type 0} (c : Change) (answers : Result (ℕ × ℕ) StoreFault → Result A LedgerFault → Type 0) (flushed : Bool) (h : Held) (r : Result A LedgerFault) (k : Held) → OnBook c answers flushed h r k → List store.Event → Type 0
DidChange c answers flushed h r k (inl asleep) did = did ≡ []
DidChange c answers flushed h r k (inr (inl refused)) did = did ≡ []
DidChange c answers flushed h r k (inr (inr (x, told, m))) did = Does h.store m.made flushed x k.store m.changes did

-- A flush and a truncation are the store's.
abbrev pub DidOnStore : {A : Type 0} (does : held.Held → Result A StoreFault → held.Held → Type 0) (call : Result A StoreFault → store.Call) (h : Held) (r : Result A LedgerFault) (k : Held) → OnStore does h r k → List store.Event → Type 0
DidOnStore does call h r k (inl asleep) did = did ≡ []
DidOnStore does call h r k (inr (on, fit, (x, told, done))) did = One (call x) (store.working h.store) did (store.working k.store)

-- The call answered so and led from one moment to the other, and did this below.
abbrev pub Happens : Call → Moment → List store.Event → Moment → Type 0
Happens (make r) (closed d) did (working k) = (m : Makes d r k) × DidMake d r k m did
Happens (opening r) (closed d) did (working k) = (m : Opens d r k) × DidOpen d r k m did
Happens close (working h) did (closed e) = (e ≡ h.store.disk) × One store.close (store.working h.store) did (store.closed e)
Happens (issue a amount flushed r) (working h) did (working k) =
    (m : Issues a amount flushed h r k) × DidChange (issuing a amount) ByOrdinal flushed h r k m did
Happens (move payer payee amount flushed r) (working h) did (working k) =
    (m : Moves payer payee amount flushed h r k) × DidChange (moving payer payee amount) ByOrdinal flushed h r k m did
Happens (visit id guard flushed r) (working h) did (working k) =
    (m : Visits id guard flushed h r k) × DidChange (visiting id guard) ByOrdinal flushed h r k m did
Happens (enrol id a flushed r) (working h) did (working k) =
    (length id ≡ 8) × (m : Enrols id a flushed h r k) × DidChange (enrolling id a) ByOrdinal flushed h r k m did
Happens (drop_tag id flushed r) (working h) did (working k) =
    (m : Drops id flushed h r k) × DidChange (dropping id) ByOrdinal flushed h r k m did
Happens (collect a flushed r) (working h) did (working k) =
    (m : Collects a flushed h r k) × DidChange (collecting a) (WithFront a h) flushed h r k m did
Happens (find id r) (working h) did (working k) = Finds id h r × (k ≡ h) × (did ≡ [])
Happens (balance a r) (working h) did (working k) = Balances a h r × (k ≡ h) × (did ≡ [])
Happens (flush r) (working h) did (working k) = (m : Flushes h r k) × DidOnStore held.Flushes store.flush h r k m did
Happens (truncate r) (working h) did (working k) = (m : Truncates h r k) × DidOnStore held.Truncates store.truncate h r k m did
Happens _ _ _ _ = ⊥

-- The events follow one another, from one moment to another.
abbrev pub Chain : Moment → List Event → Moment → Type 0
Chain m [] m' = m' ≡ m
Chain m (e ∷ es) m' = (e.before ≡ m) × Happens e.call e.before e.did e.after × Chain e.after es m'

-- All that was done below, in its order.
abbrev pub all_did : List Event → List store.Event
all_did [] = []
all_did (e ∷ es) = e.did ++ all_did es
