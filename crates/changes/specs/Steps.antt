-- What the steps of a change do to a store whose transaction is open.
use Rattle.std.specs.Prelude.{◌≡◌, ℕ, ◌+◌, ◌<◌, Bool, true, ◌⊎◌, List, [], length, None, Some, Ok, Err, Result, slice_index}
use Rattle.image.specs.Calls.{declared}
use Rattle.transactions.specs.declared.fault.StoreFault.{StoreFault}
use Rattle.transactions.specs.declared.state.State.{State}
use Rattle.transactions.specs.Held.{Held, Aborts, Commits}
use Rattle.transactions.specs.Rows.{first_fit, Refuses, begin_rows}
use Rattle.book.specs.Edits.{Edit, edited, declaring, make_edits}
use Rattle.plans.specs.Plans.{edits_of}
use Rattle.changes.specs.declared.performing.Work.{Work}
use Rattle.changes.specs.declared.performing.Work.TheVariants.{Plan as Planned, Links}
use Rattle.changes.specs.Changes.{PutIn, Changes}

-- A transaction is open, and the token with this number is its own.
pub record Underway (s : State) (number : ℕ) : Type 0 where
  pub on : s.on ≡ true
  pub busy : s.busy ≡ true
  pub fits : number ≡ s.log.ordinal + 1

-- These edits are declared and written beside what was, and nothing else moved.
pub record Put (s : State) (xs : List Edit) (p : State) : Type 0 where
  pub on : p.on ≡ s.on
  pub busy : p.busy ≡ s.busy
  pub log : p.log ≡ s.log
  pub spool : p.spool ≡ s.spool
  pub before : p.image.before ≡ s.image.before
  pub runs : declared p.image ≡ declaring xs (declared s.image)
  pub memory : (i : ℕ) → slice_index p.image.memory i ≡ edited xs i (slice_index s.image.memory i)

-- What is put in for each kind of work.
abbrev pub edits_in : Work → List Edit
edits_in (Planned plan) = edits_of plan.now
edits_in Links = make_edits

-- Where so many runs more find room, the edits are made.
abbrev pub Puts : ℕ → ℕ → List Edit → Held → Result (Unit {0}) StoreFault → Held → Type 0
Puts number more xs h r k =
    Underway h.state number → length (declared h.state.image) + more < 17
    → (r ≡ Ok tt) × Put h.state xs k.state × PutIn number xs h k

-- Where all was put in, that is committed; else the transaction is aborted, and the refusal answered.
abbrev pub Finishes : Result (Unit {0}) StoreFault → ℕ → Bool → Held → Result (ℕ × ℕ) StoreFault → Held → Type 0
Finishes (Ok _) number flush h r k = Commits number flush h r k
Finishes (Err f) number flush h r k =
    (Aborts number h (Ok tt) k × (r ≡ Err f)) ⊎ ((g : StoreFault) × Aborts number h (Err g) k × (r ≡ Err g))

-- A change where no transaction may begin is refused, and nothing moves. On a store with nothing declared it is made.
abbrev pub Performs : List Edit → Bool → Held → Result (ℕ × ℕ) StoreFault → Held → Type 0
Performs xs flush h r k =
    ((f : StoreFault) × (Refuses (begin_rows h.state) f) × (r ≡ Err f) × (k ≡ h))
    ⊎ ((first_fit (begin_rows h.state) ≡ None) × (declared h.state.image ≡ [] → Changes h xs flush r k))
