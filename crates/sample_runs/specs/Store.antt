-- A run of a store in which power fails twice, and of which the crash-safety law speaks.
use Rattle.std.specs.Prelude.{◌≡◌, ℕ, true, false, List, [], ◌∷◌, ◌++◌, map, length, take, Some, None, Ok, Err}
use Rattle.device.specs.declared.fault.DeviceFault.TheVariants.{Power}
use Rattle.device.specs.Disk.{Disk}
use Rattle.transactions.specs.declared.fault.StoreFault.TheVariants.{Device, Stranger}
use Rattle.transactions.specs.declared.token.Token.{Token}
use Rattle.law.specs.Events.{Moment, closed, Call, format, opening, close, begin, set_range, commit, truncate, Event, Chain}
use Rattle.law.specs.Kept.{Entered, AllKept}
use Rattle.law.specs.Law.{History, after, places_at}

abbrev pub calls_of : List Event → List Call
calls_of es = map (λ (e : Event). e.call) es

-- What is entered after these events.
abbrev pub history : List Event → History → History
history [] h = h
history (e ∷ es) h = history es (after e h)

-- A store is made. One transaction is committed with flush, another waits. Power cuts the truncation that would write
-- it, and then the opening after it.
abbrev pub cut_twice : Token → Token → (o p : ℕ) → List Call
cut_twice t u o p =
    format (Ok tt)
    ∷ begin (Ok t) ∷ set_range t.number 0 1 (Ok tt) ∷ commit t.number true (Ok (1, 1))
    ∷ begin (Ok u) ∷ set_range u.number 0 1 (Ok tt) ∷ commit u.number false (Ok (2, 1))
    ∷ truncate (Err (Device (Power o))) ∷ close
    ∷ opening (Err (Device (Power p))) ∷ close
    ∷ []

-- There is a run that goes so. By then two transactions are entered, and the first of them is kept; the next opening
-- finds that one alone, and a token that no begin gave is refused.
pub record StoreRun : Type 0 where
  pub device : Disk
  pub front : List Event
  pub found : Event
  pub foreign : Event
  pub last : Moment
  pub chain : Chain (closed device) (front ++ (found ∷ foreign ∷ [])) last
  pub first : Token
  pub second : Token
  pub origin : ℕ
  pub other : ℕ
  pub calls : calls_of front ≡ cut_twice first second origin other
  pub strays : ℕ
  pub finds : found.call ≡ opening (Ok (1, strays))
  pub refused : foreign.call ≡ commit 77 true (Err (Stranger 77))
  pub entered : List Entered
  pub were : history front None ≡ Some entered
  pub two : length entered ≡ 2
  pub kept : AllKept (places_at (closed device)) 0 (take 1 entered)
