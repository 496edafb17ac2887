-- What each call answers and leaves, on every way out.
use Rattle.std.specs.Prelude.{◌≡◌, ℕ, ◌+◌, ◌≤◌, Bool, true, false, ◌≢◌, ◌⊎◌, List, [], ◌∷◌, ◌++◌, length, Some, None, Ok, Err, Result}
use Rattle.std.specs.Borrow.{Bor}
use Rattle.arrayvec.specs.ArrayVec.{array_vec_len}
use Rattle.device.specs.declared.fault.DeviceFault.TheVariants.{Power}
use Rattle.device.specs.Disk.{Disk}
use Rattle.device.specs.Trace.{Act, settled, Done, CutShort}
use Rattle.durability.specs.Items.{Item, appending}
use Rattle.image.specs.declared.run.ImageFault.{ImageFault}
use Rattle.image.specs.declared.state.Image.{Image}
use Rattle.image.specs.Calls.{declared, Declares, Writes, Reads, Restored, Kept}
use Rattle.transactions.specs.declared.fault.StoreFault.{StoreFault}
use Rattle.transactions.specs.declared.fault.StoreFault.TheVariants.{Device}
use Rattle.transactions.specs.declared.state.State.{State}
use Rattle.transactions.specs.declared.token.Token.{Token}
use Rattle.transactions.specs.Fault.{from_image}
use Rattle.transactions.specs.Rows.{first_fit, Refuses, off, token_rows, commit_rows, begin_rows}
use Rattle.transactions.specs.State.{spooled, own, MadeOf, StandsAt, TurnedOff}

-- Begin: a token numbered one above the last ordinal, and a transaction is open; or a refusal, and nothing moved.
abbrev pub Begins : State → Result Token StoreFault → State → Type 0
Begins s (Ok t) s' =
    (first_fit (begin_rows s) ≡ None) × (t.number ≡ s.log.ordinal + 1) × MadeOf s' s.image s.spool s.log true s.on
Begins s (Err f) s' = Refuses (begin_rows s) f × (s' ≡ s)

-- A call that is shown a token and works on the memory alone: a row that fits refuses and nothing moves;
-- else the memory answers, and nothing but the memory moves.
abbrev pub OnImage : State → ℕ → (Result (Unit {0}) ImageFault → Image → Type 0) → Result (Unit {0}) StoreFault → State → Type 0
OnImage s number does (Ok u) s' =
    (first_fit (token_rows s number) ≡ None) × does (Ok u) s'.image × MadeOf s' s'.image s.spool s.log s.busy s.on
OnImage s number does (Err f) s' =
    (Refuses (token_rows s number) f × (s' ≡ s))
    ⊎ ((g : ImageFault) × (first_fit (token_rows s number) ≡ None) × (f ≡ from_image g) × does (Err g) s'.image
    × MadeOf s' s'.image s.spool s.log s.busy s.on)

-- Set-range declares bytes; write changes declared bytes.
abbrev pub SetsRange : State → ℕ → ℕ → ℕ → Result (Unit {0}) StoreFault → State → Type 0
SetsRange s number start size r s' = OnImage s number (Declares start size s.image) r s'

abbrev pub WritesRange : State → ℕ → ℕ → List ℕ → Result (Unit {0}) StoreFault → State → Type 0
WritesRange s number start bytes r s' = OnImage s number (Writes start bytes s.image) r s'

-- Read copies memory into the buffer, bytes that are not committed too.
abbrev pub ReadsRange : State → ℕ → List ℕ → Result (Unit {0}) StoreFault → List ℕ → Type 0
ReadsRange s start before (Ok u) after = (first_fit (off s ∷ []) ≡ None) × Reads start s.image before (Ok u) after
ReadsRange s start before (Err f) after =
    (Refuses (off s ∷ []) f × (after ≡ before))
    ⊎ ((g : ImageFault) × (first_fit (off s ∷ []) ≡ None) × (f ≡ from_image g) × Reads start s.image before (Err g) after)

-- The memory is lent as it is, bytes that are not committed too.
abbrev pub Lends : State → Result (Bor (List ℕ)) StoreFault → Type 0
Lends s (Ok memory) = (first_fit (off s ∷ []) ≡ None) × (memory.now ≡ s.image.memory)
Lends s (Err f) = Refuses (off s ∷ []) f

-- The transaction is over and the memory as at begin.
abbrev pub Undone : State → State → Type 0
Undone s s' = Restored s.image s'.image × MadeOf s' s'.image s.spool s.log false s.on

-- Abort puts back each declared byte as at begin.
abbrev pub Aborts : State → ℕ → Result (Unit {0}) StoreFault → State → Type 0
Aborts s number (Ok _) s' = (first_fit (token_rows s number) ≡ None) × Undone s s'
Aborts s number (Err f) s' = Refuses (token_rows s number) f × (s' ≡ s)

-- The records are written in their order, and then there is a barrier.
abbrev pub writing : State → List Item → List Act
writing s items = appending s.log.places s.log.low s.log.last items ++ (settled ∷ [])

-- The store has written these records, and nothing waits.
pub record Written (s : State) (items : List Item) (ordinal : ℕ) (s' : State) : Type 0 where
  pub log : StandsAt s'.log s.log.places s.log.low (s.log.last + length items) ordinal
  pub empty : array_vec_len s'.spool ≡ 0
  pub on : s'.on ≡ true

-- The log stands where it stood, and the spool has grown by these.
pub record SpooledUp (s : State) (items : List Item) (ordinal : ℕ) (s' : State) : Type 0 where
  pub log : StandsAt s'.log s.log.places s.log.low s.log.last ordinal
  pub waits : spooled s' ≡ spooled s ++ items
  pub on : s'.on ≡ true

-- Power failed while these records were written: the store is off, and all else of it as it was.
pub record CutWriting (s : State) (d : Disk) (items : List Item) (f : StoreFault) (s' : State) (e : Disk) : Type 0 where
  pub origin : ℕ
  pub fault : f ≡ Device (Power origin)
  pub cut : CutShort d (writing s items) origin e
  pub state : TurnedOff s s'

-- Flush writes the spool and answers how many records; an empty one writes nothing.
abbrev pub Flushes : State → Disk → Result ℕ StoreFault → State → Disk → Type 0
Flushes s d (Ok k) s' e =
    (first_fit (off s ∷ []) ≡ None) × (k ≡ array_vec_len s.spool)
    × (((k ≡ 0) × (s' ≡ s) × (e ≡ d))
    ⊎ ((1 ≤ k) × Done d (writing s (spooled s)) e × Written s (spooled s) s.log.ordinal s' × (s'.image ≡ s.image) × (s'.busy ≡ s.busy)))
Flushes s d (Err f) s' e =
    (Refuses (off s ∷ []) f × (s' ≡ s) × (e ≡ d))
    ⊎ ((first_fit (off s ∷ []) ≡ None) × (1 ≤ array_vec_len s.spool) × CutWriting s d (spooled s) f s' e)

-- A commit with nothing declared ends the transaction, and answers the last ordinal and 0.
pub record CommitsNothing (s : State) (d : Disk) (x : ℕ × ℕ) (s' : State) (e : Disk) : Type 0 where
  pub clean : declared s.image ≡ []
  pub answer : x ≡ (s.log.ordinal, 0)
  pub state : MadeOf s' s.image s.spool s.log false s.on
  pub device : e ≡ d

-- What a commit of records does where it passes: with flush, the spool and its own records are written;
-- else its own join the spool.
abbrev pub Enters : State → Disk → Bool → State → Disk → Type 0
Enters s d true s' e = Done d (writing s (spooled s ++ own s)) e × Written s (spooled s ++ own s) (s.log.ordinal + 1) s'
Enters s d false s' e = (e ≡ d) × SpooledUp s (own s) (s.log.ordinal + 1) s'

-- A commit of at least one record that passed: it answers its ordinal and how many records it became.
pub record CommitsParts (s : State) (d : Disk) (flush : Bool) (x : ℕ × ℕ) (s' : State) (e : Disk) : Type 0 where
  pub some : declared s.image ≢ []
  pub passes : first_fit (commit_rows s (length (own s)) flush) ≡ None
  pub answer : x ≡ (s.log.ordinal + 1, length (own s))
  pub enters : Enters s d flush s' e
  pub image : Kept s.image s'.image
  pub free : s'.busy ≡ false

-- A commit that is refused for want of serials, log or spool aborts.
pub record CommitRefused (s : State) (d : Disk) (flush : Bool) (f : StoreFault) (s' : State) (e : Disk) : Type 0 where
  pub some : declared s.image ≢ []
  pub refused : Refuses (commit_rows s (length (own s)) flush) f
  pub state : Undone s s'
  pub device : e ≡ d

-- A commit with flush in which power failed. The memory keeps the bytes of the transaction, which may be entered.
pub record CommitCut (s : State) (d : Disk) (flush : Bool) (f : StoreFault) (s' : State) (e : Disk) : Type 0 where
  pub some : declared s.image ≢ []
  pub passes : first_fit (commit_rows s (length (own s)) flush) ≡ None
  pub flushing : flush ≡ true
  pub cut : CutWriting s d (spooled s ++ own s) f s' e

abbrev pub Commits : State → Disk → ℕ → Bool → Result (ℕ × ℕ) StoreFault → State → Disk → Type 0
Commits s d number flush (Ok x) s' e =
    (first_fit (token_rows s number) ≡ None) × (CommitsNothing s d x s' e ⊎ CommitsParts s d flush x s' e)
Commits s d number flush (Err f) s' e =
    (Refuses (token_rows s number) f × (s' ≡ s) × (e ≡ d))
    ⊎ ((first_fit (token_rows s number) ≡ None) × (CommitRefused s d flush f s' e ⊎ CommitCut s d flush f s' e))
