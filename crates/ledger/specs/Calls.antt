-- What each call of a ledger answers and leaves, on every way out.
use Rattle.std.specs.Prelude.{◌≡◌, ℕ, Bool, true, false, ◌⊎◌, List, Some, None, Ok, Err, Option, Result}
use Rattle.device.specs.Disk.{Disk}
use Rattle.device.specs.declared.fault.DeviceFault.TheVariants.{Power}
use Rattle.transactions.specs.declared.fault.StoreFault.{StoreFault}
use Rattle.transactions.specs.declared.fault.StoreFault.TheVariants.{Device}
use Rattle.transactions.specs.Held as store
use Rattle.book.specs.declared.fault.LedgerFault.{LedgerFault}
use Rattle.book.specs.declared.fault.LedgerFault.TheVariants.{Store, NotLedger}
use Rattle.book.specs.declared.records.Entry.{Entry}
use Rattle.book.specs.Fault.{number}
use Rattle.book.specs.Book.{Book, new_book}
use Rattle.book.specs.Rows.{Row, first_fit, issue_rows, move_rows, visit_rows, enrol_rows, drop_rows, collect_rows, balance_rows, account_of}
use Rattle.book.specs.Edits.{Edit, issue_edits, issued_to, move_edits, moved, visit_edits, visited, enrol_edits, enrolled, drop_edits, dropped, collect_edits, collected, front_of, make_edits}
use Rattle.changes.specs.Changes.{Changes}
use Rattle.ledger.specs.Sound.{Held, HoldsBook, is_on}

abbrev pub power_off : LedgerFault
power_off = Store (Device (Power 0))

-- A ledger that is off answers just that, and stays as it is.
pub record Asleep {A : Type 0} (h : Held) (r : Result A LedgerFault) (k : Held) : Type 0 where
  pub off : is_on h ≡ false
  pub answer : r ≡ Err power_off
  pub same : k ≡ h

-- A change of the book: its rows, what it writes, and the book after it.
pub record Change : Type 0 where
  pub rows : Book → List Row
  pub edits : Book → List Edit
  pub after : Book → Book

abbrev pub issuing : ℕ → ℕ → Change
issuing a amount = record { rows = λ b. issue_rows b a amount; edits = λ b. issue_edits b a amount; after = issued_to a amount }

abbrev pub moving : ℕ → ℕ → ℕ → Change
moving payer payee amount =
    record { rows = λ b. move_rows b payer payee amount; edits = λ b. move_edits b payer payee amount; after = moved payer payee amount }

abbrev pub visiting : List ℕ → ℕ → Change
visiting id guard = record { rows = λ b. visit_rows b id guard; edits = λ b. visit_edits b id guard; after = visited id guard }

abbrev pub enrolling : List ℕ → ℕ → Change
enrolling id a = record { rows = λ b. enrol_rows b id a; edits = λ b. enrol_edits b id a; after = enrolled id a }

abbrev pub dropping : List ℕ → Change
dropping id = record { rows = λ b. drop_rows b id; edits = λ b. drop_edits b id; after = dropped id }

abbrev pub collecting : ℕ → Change
collecting a = record { rows = λ b. collect_rows b a; edits = λ b. collect_edits b a; after = collected a }

-- A row of the book that the memory holds fits: it answers, and nothing moves.
pub record Refused (c : Change) (h : Held) (f : LedgerFault) (k : Held) : Type 0 where
  pub on : is_on h ≡ true
  pub fits : (b : Book) → HoldsBook h.store.state b → first_fit (c.rows b) ≡ Some f
  pub same : k ≡ h

-- A change that was committed leaves the book after it. One that the store refused leaves the memory as it was; where
-- power failed, the ledger is off.
abbrev pub Leaves : Change → Held → Result (ℕ × ℕ) StoreFault → Held → Type 0
Leaves c h (Ok _) k = (b : Book) → HoldsBook h.store.state b → HoldsBook k.store.state (c.after b)
Leaves c h (Err _) k = is_on k ≡ true → k.store.state.image.memory ≡ h.store.state.image.memory

-- No row fits: the book's edits are made and committed by one transaction of the store, which answers so.
pub record Made (c : Change) (flush : Bool) (h : Held) (x : Result (ℕ × ℕ) StoreFault) (k : Held) : Type 0 where
  pub on : is_on h ≡ true
  pub fits : (b : Book) → HoldsBook h.store.state b → first_fit (c.rows b) ≡ None
  pub made : List Edit
  pub are : (b : Book) → HoldsBook h.store.state b → made ≡ c.edits b
  pub changes : Changes h.store made flush x k.store
  pub leaves : Leaves c h x k
  pub fit : k.fit ≡ h.fit

-- A changing call, by its change, and by what it answers where the store answers so.
abbrev pub OnBook : {A : Type 0} → Change → (Result (ℕ × ℕ) StoreFault → Result A LedgerFault → Type 0) → Bool → Held → Result A LedgerFault → Held → Type 0
OnBook c answers flush h r k =
    Asleep h r k
    ⊎ ((f : LedgerFault) × (r ≡ Err f) × Refused c h f k)
    ⊎ ((x : Result (ℕ × ℕ) StoreFault) × answers x r × Made c flush h x k)

-- The ordinal, or the store's refusal.
abbrev pub by_ordinal : Result (ℕ × ℕ) StoreFault → Result ℕ LedgerFault
by_ordinal (Ok x) = Ok x.0
by_ordinal (Err f) = Err (Store f)

abbrev pub ByOrdinal : Result (ℕ × ℕ) StoreFault → Result ℕ LedgerFault → Type 0
ByOrdinal x r = r ≡ by_ordinal x

abbrev pub Issues : ℕ → ℕ → Bool → Held → Result ℕ LedgerFault → Held → Type 0
Issues a amount = OnBook (issuing a amount) ByOrdinal

abbrev pub Moves : ℕ → ℕ → ℕ → Bool → Held → Result ℕ LedgerFault → Held → Type 0
Moves payer payee amount = OnBook (moving payer payee amount) ByOrdinal

abbrev pub Visits : List ℕ → ℕ → Bool → Held → Result ℕ LedgerFault → Held → Type 0
Visits id guard = OnBook (visiting id guard) ByOrdinal

abbrev pub Enrols : List ℕ → ℕ → Bool → Held → Result ℕ LedgerFault → Held → Type 0
Enrols id a = OnBook (enrolling id a) ByOrdinal

abbrev pub Drops : List ℕ → Bool → Held → Result ℕ LedgerFault → Held → Type 0
Drops id = OnBook (dropping id) ByOrdinal

-- Collect answers the entry that it took off too: the front one of the account.
abbrev pub with_entry : Entry → Result (ℕ × ℕ) StoreFault → Result (ℕ × Entry) LedgerFault
with_entry entry (Ok x) = Ok (x.0, entry)
with_entry entry (Err f) = Err (Store f)

abbrev pub WithFront : ℕ → Held → Result (ℕ × ℕ) StoreFault → Result (ℕ × Entry) LedgerFault → Type 0
WithFront a h x r =
    (entry : Entry) × (r ≡ with_entry entry x) × ((b : Book) → HoldsBook h.store.state b → front_of (b.entries a) ≡ Some entry)

abbrev pub Collects : ℕ → Bool → Held → Result (ℕ × Entry) LedgerFault → Held → Type 0
Collects a flush h r k = OnBook (collecting a) (WithFront a h) flush h r k

-- Finding a tag answers its account, or nothing; nothing moves.
abbrev pub Finds : List ℕ → Held → Result (Option ℕ) LedgerFault → Type 0
Finds id h (Ok x) = (is_on h ≡ true) × ((b : Book) → HoldsBook h.store.state b → x ≡ account_of b id)
Finds id h (Err f) = (is_on h ≡ false) × (f ≡ power_off)

-- Balance answers an account's balance.
abbrev pub Balances : ℕ → Held → Result ℕ LedgerFault → Type 0
Balances a h (Ok x) =
    (is_on h ≡ true) × (first_fit (balance_rows a) ≡ None) × ((b : Book) → HoldsBook h.store.state b → x ≡ b.balances a)
Balances a h (Err f) =
    ((is_on h ≡ false) × (f ≡ power_off)) ⊎ ((is_on h ≡ true) × (first_fit (balance_rows a) ≡ Some f))

-- The store's refusal as the ledger's.
abbrev pub from_store : {A : Type 0} → Result A StoreFault → Result A LedgerFault
from_store (Ok x) = Ok x
from_store (Err f) = Err (Store f)

-- Flush and truncate are the store's.
abbrev pub OnStore : {A : Type 0} → (store.Held → Result A StoreFault → store.Held → Type 0) → Held → Result A LedgerFault → Held → Type 0
OnStore does h r k =
    Asleep h r k
    ⊎ ((is_on h ≡ true) × (k.fit ≡ h.fit) × ((x : Result _ StoreFault) × (r ≡ from_store x) × does h.store x k.store))

abbrev pub Flushes : Held → Result ℕ LedgerFault → Held → Type 0
Flushes = OnStore store.Flushes

abbrev pub Truncates : Held → Result ℕ LedgerFault → Held → Type 0
Truncates = OnStore store.Truncates

-- Make formats, and then flushes one transaction that links the free chain, which answers so.
pub record Linked (d : Disk) (x : Result (ℕ × ℕ) StoreFault) (h : Held) : Type 0 where
  pub formatted : store.Held
  pub format : store.Formatted d (Ok tt) formatted
  pub changes : Changes formatted make_edits true x h.store

-- It has 52 records and ordinal 1. Where the format is refused, or power cuts that transaction, the ledger is off.
abbrev pub Makes : Disk → Result (Unit {0}) LedgerFault → Held → Type 0
Makes d (Ok _) h = (h.fit ≡ true) × Linked d (Ok (1, 52)) h × HoldsBook h.store.state new_book
Makes d (Err f) h =
    (is_on h ≡ false)
    × ((g : StoreFault) × (f ≡ Store g) × (store.Formatted d (Err g) h.store ⊎ ((number f ≡ 1) × Linked d (Err g) h)))

-- An opening answers what the store's does, and refuses a memory that holds no book; the opening of the store is
-- then complete, and the ledger is off.
pub record NoBook (d : Disk) (f : LedgerFault) (h : Held) : Type 0 where
  pub is : f ≡ NotLedger
  pub found : ℕ × ℕ
  pub store : store.Opened d (Ok found) h.store
  pub none : (b : Book) → HoldsBook h.store.state b → ⊥

abbrev pub Opens : Disk → Result (ℕ × ℕ) LedgerFault → Held → Type 0
Opens d (Ok x) h = (h.fit ≡ true) × store.Opened d (Ok x) h.store × ((b : Book) × HoldsBook h.store.state b)
Opens d (Err f) h =
    (is_on h ≡ false) × (((g : StoreFault) × (f ≡ Store g) × store.Opened d (Err g) h.store) ⊎ NoBook d f h)
