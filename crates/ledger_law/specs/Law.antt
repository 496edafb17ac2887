-- The conservation law of ledgers: what stands, computed from the events of a run, and what holds of each event.
use Rattle.std.specs.Prelude.{◌≡◌, ℕ, true, List, [], ◌∷◌, ◌++◌, map, take, Some, None, Ok, Err, Option}
use Rattle.law.specs.Kept.{Entered}
use Rattle.law.specs.Events as store
use Rattle.law.specs.Law as law
use Rattle.book.specs.Fault.{number}
use Rattle.book.specs.Conserved.{Conserved}
use Rattle.ledger.specs.Sound.{is_on}
use Rattle.ledger_law.specs.Events.{Moment, working, below, Call, make, opening, issue, Event, Chain, all_did}

-- What stands: what is entered on the store below, by its law, and for each of those transactions the amount that its
-- issue call was given, or 0 where it was another call's. Nothing is known of a ledger until a make of it succeeds.
pub record Standing : Type 0 where
  pub history : law.History
  pub issued : Option (List ℕ)

abbrev pub nothing : Standing
nothing = record { history = None; issued = None }

-- What is entered after these events of the store, and what they newly enter.
abbrev pub entered_after : List store.Event → law.History → law.History
entered_after [] h = h
entered_after (e ∷ es) h = entered_after es (law.after e h)

abbrev pub newly : List store.Event → List Entered
newly [] = []
newly (e ∷ es) = law.newly e.call e.before e.done ++ newly es

-- The amount that an issue call was given.
abbrev pub amount_of : Call → ℕ
amount_of (issue a amount flushed r) = amount
amount_of _ = 0

-- What stood already: a make that succeeds begins anew, and one that fails leaves a ledger of which nothing is known. An
-- opening that finds so many transactions leaves the first that many.
abbrev pub stood : Call → Option (List ℕ) → Option (List ℕ)
stood (make (Ok _)) is = Some []
stood (make (Err _)) is = None
stood (opening (Ok x)) (Some is) = Some (take x.0 is)
stood _ is = is

-- And what the call newly enters.
abbrev pub with_new : ℕ → List Entered → Option (List ℕ) → Option (List ℕ)
with_new amount new None = None
with_new amount new (Some is) = Some (is ++ map (λ (x : Entered). amount) new)

abbrev pub after : Event → Standing → Standing
after e t =
    record { history = entered_after e.did t.history; issued = with_new (amount_of e.call) (newly e.did) (stood e.call t.issued) }

-- The memory of a ledger that is on conserves what was issued.
abbrev pub ConservedAt : Moment → Option (List ℕ) → Type 0
ConservedAt (working h) (Some issued) = is_on h ≡ true → Conserved h.store.state.image.memory issued
ConservedAt _ _ = Unit {0}

-- An opening that power does not cut succeeds.
abbrev pub OpensLawfully : Call → Option (List ℕ) → Type 0
OpensLawfully (opening (Err f)) (Some issued) = number f ≡ 1
OpensLawfully _ _ = Unit {0}

-- The law on one event, where t stood before it. What it did below keeps the law of stores.
pub record Lawful (e : Event) (t : Standing) : Type 0 where
  pub conserved : ConservedAt e.after (after e t).issued
  pub opens : OpensLawfully e.call t.issued
  pub below : law.AllLawful e.did t.history

abbrev pub AllLawful : List Event → Standing → Type 0
AllLawful [] t = Unit {0}
AllLawful (e ∷ es) t = Lawful e t × AllLawful es (after e t)

-- What is done below is a run of the store.
abbrev pub RunsBelow : Type 0
RunsBelow = (m : Moment) (es : List Event) (m' : Moment) → Chain m es m' → store.Chain (below m) (all_did es) (below m')

-- The conservation law of ledgers: it holds of every run.
abbrev pub Conserving : Type 0
Conserving = (m : Moment) (es : List Event) (m' : Moment) → Chain m es m' → AllLawful es nothing
