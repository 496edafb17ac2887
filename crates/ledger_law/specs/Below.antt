-- What a call of a ledger did on the store below, as events of a run of the store.
use Rattle.std.specs.Prelude.{◌≡◌, ℕ, Bool, List, [], ◌∷◌, ◌++◌, length, Ok, None, Option, Result}
use Rattle.device.specs.Trace.{Act}
use Rattle.transactions.specs.declared.fault.StoreFault.{StoreFault}
use Rattle.transactions.specs.Held.{Held}
use Rattle.law.specs.Events as store
use Rattle.book.specs.Edits.{Edit}
use Rattle.changes.specs.Changes.{PutIn, Changes}

-- One call of the store.
abbrev pub event : store.Call → store.Moment → List Act → Option Act → store.Moment → store.Event
event call m done cut m' = record { call = call; before = m; done = done; cut = cut; after = m' }

-- One that makes no call on the device.
abbrev pub silent : store.Call → Held → Held → store.Event
silent call h k = event call (store.working h) [] None (store.working k)

-- Each edit is declared, and then written.
abbrev pub putting : (number : ℕ) (xs : List Edit) (h k : Held) → PutIn number xs h k → List store.Event
putting number [] h k same = []
putting number (x ∷ xs) h k (set, put, declares, writes, rest) =
    silent (store.set_range number x.start (length x.bytes) (Ok tt)) h set
    ∷ silent (store.write number x.start x.bytes (Ok tt)) set put
    ∷ putting number xs put k rest

-- A change is begun, put in and committed, where the commit made these calls on the device.
abbrev pub changing : (h : Held) (xs : List Edit) (flush : Bool) (r : Result (ℕ × ℕ) StoreFault) (k : Held) → Changes h xs flush r k → List Act → Option Act → List store.Event
changing h xs flush r k c done cut =
    silent (store.begin (Ok c.token)) h c.begun
    ∷ (putting c.token.number xs c.begun c.prepared c.puts
    ++ event (store.commit c.token.number flush r) (store.working c.prepared) done cut (store.working k) ∷ [])

-- These are the store's events of a change.
pub record Does (h : Held) (xs : List Edit) (flush : Bool) (r : Result (ℕ × ℕ) StoreFault) (k : Held) (c : Changes h xs flush r k) (did : List store.Event) : Type 0 where
  pub done : List Act
  pub cut : Option Act
  pub events : did ≡ changing h xs flush r k c done cut
  pub commits : store.Happens (store.commit c.token.number flush r) (store.working c.prepared) done cut (store.working k)

-- This is the store's one event.
pub record One (call : store.Call) (m : store.Moment) (did : List store.Event) (m' : store.Moment) : Type 0 where
  pub done : List Act
  pub cut : Option Act
  pub event : did ≡ event call m done cut m' ∷ []
  pub happens : store.Happens call m done cut m'
