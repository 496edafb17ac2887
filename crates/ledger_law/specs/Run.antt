-- What a run of a ledger's script does: its calls are events, one after another, over a device that it is given and
-- gives back.
use Rattle.std.specs.Prelude.{◌≡◌, ℕ, min, Bool, true, false, not, MatchBool, List, [], ◌∷◌, ◌++◌, length, take, drop, Option, Result}
use Rattle.device.specs.Disk.{Disk}
use Rattle.device.specs.declared.Device.{Ghosts}
use Rattle.law.specs.Events as store
use Rattle.book.specs.declared.fault.LedgerFault.{LedgerFault}
use Rattle.book.specs.declared.records.Entry.{Entry}
use Rattle.ledger.specs.Held.{held}
use Rattle.ledger_law.specs.declared.run.Run.{Run}
use Rattle.ledger_law.specs.declared.run.Run.TheVariants.{Working, Closed}
use Rattle.ledger_law.specs.declared.script.Call.TheVariants as script
use Rattle.ledger_law.specs.declared.script.Call as scripts
use Rattle.ledger_law.specs.declared.script.Answer.{Answer}
use Rattle.ledger_law.specs.declared.script.Answer.TheVariants as told
use Rattle.ledger_law.specs.Events.{Moment, working, closed, Call, make, opening, close, issue, move, visit, enrol, drop_tag, collect, find, balance, flush, truncate, Event, Happens, Chain}

-- Where a run stands.
abbrev pub moment_of : {D : Type 0} {d : Ghosts D} → Run D d → Moment
moment_of {d = d} (Working l) = working (held {d = d} l)
moment_of {d = d} (Closed device) = closed (d.disk device)

-- A call that does not fit is not made, and nothing moves.
abbrev pub NotMade : Moment → Answer → List Event → Moment → Type 0
NotMade m a es m' = (a ≡ told.NotMade) × (es ≡ []) × (m' ≡ m)

-- A call was made, and is the event.
pub record Made (call : Call) (m : Moment) (es : List Event) (m' : Moment) : Type 0 where
  pub did : List store.Event
  pub happens : Happens call m did m'
  pub event : es ≡ record { call = call; before = m; did = did; after = m' } ∷ []

-- Whether a call fits: a make and an opening fit a device that lies alone, the others a ledger that works on one.
abbrev pub is_closed : Moment → Bool
is_closed (working h) = false
is_closed (closed d) = true

abbrev pub fits : scripts.Call → Moment → Bool
fits script.Make m = is_closed m
fits script.Open m = is_closed m
fits script.Close m = not (is_closed m)
fits (script.Issue a amount flushed) m = not (is_closed m)
fits (script.Move payer payee amount flushed) m = not (is_closed m)
fits (script.Visit id guard flushed) m = not (is_closed m)
fits (script.Enrol id a flushed) m = not (is_closed m)
fits (script.Drop id flushed) m = not (is_closed m)
fits (script.Collect a flushed) m = not (is_closed m)
fits (script.Find id) m = not (is_closed m)
fits (script.Balance a) m = not (is_closed m)
fits script.Flush m = not (is_closed m)
fits script.Truncate m = not (is_closed m)

-- The event of a call that is made, and its answer.
abbrev pub MadeAs : scripts.Call → Moment → Answer → List Event → Moment → Type 0
MadeAs script.Make m a es m' = (r : Result (Unit {0}) LedgerFault) × (a ≡ told.Made r) × Made (make r) m es m'
MadeAs script.Open m a es m' = (r : Result (ℕ × ℕ) LedgerFault) × (a ≡ told.Opened r) × Made (opening r) m es m'
MadeAs script.Close m a es m' = (a ≡ told.Closed) × Made close m es m'
MadeAs (script.Issue account amount flushed) m a es m' =
    (r : Result ℕ LedgerFault) × (a ≡ told.Changed r) × Made (issue account amount flushed r) m es m'
MadeAs (script.Move payer payee amount flushed) m a es m' =
    (r : Result ℕ LedgerFault) × (a ≡ told.Changed r) × Made (move payer payee amount flushed r) m es m'
MadeAs (script.Visit id guard flushed) m a es m' =
    (r : Result ℕ LedgerFault) × (a ≡ told.Changed r) × Made (visit id guard flushed r) m es m'
MadeAs (script.Enrol id account flushed) m a es m' =
    (r : Result ℕ LedgerFault) × (a ≡ told.Changed r) × Made (enrol id account flushed r) m es m'
MadeAs (script.Drop id flushed) m a es m' = (r : Result ℕ LedgerFault) × (a ≡ told.Changed r) × Made (drop_tag id flushed r) m es m'
MadeAs (script.Collect account flushed) m a es m' =
    (r : Result (ℕ × Entry) LedgerFault) × (a ≡ told.Collected r) × Made (collect account flushed r) m es m'
MadeAs (script.Find id) m a es m' = (r : Result (Option ℕ) LedgerFault) × (a ≡ told.Found r) × Made (find id r) m es m'
MadeAs (script.Balance account) m a es m' = (r : Result ℕ LedgerFault) × (a ≡ told.Balance r) × Made (balance account r) m es m'
MadeAs script.Flush m a es m' = (r : Result ℕ LedgerFault) × (a ≡ told.Flushed r) × Made (flush r) m es m'
MadeAs script.Truncate m a es m' = (r : Result ℕ LedgerFault) × (a ≡ told.Truncated r) × Made (truncate r) m es m'

-- One call of a script: it is made, or not.
abbrev pub Plays : scripts.Call → Moment → Answer → List Event → Moment → Type 0
Plays call m a es m' = MatchBool (fits call m) (MadeAs call m a es m') (NotMade m a es m')

abbrev pub Steps : scripts.Call → Moment → Answer → Moment → Type 0
Steps call m a m' = (es : List Event) × Plays call m a es m'

-- The calls of a script with their answers, one after another, and their events.
abbrev pub Played : List scripts.Call → List Answer → Moment → List Event → Moment → Type 0
Played [] [] m es m' = (es ≡ []) × (m' ≡ m)
Played (call ∷ calls) (a ∷ answers) m es m' =
    (first more : List Event) × (mid : Moment) × (es ≡ first ++ more) × Plays call m a first mid × Played calls answers mid more m'
Played _ _ m es m' = ⊥

-- As many calls as there is room for answers were made; the other answers are as they were.
pub record Worked (m : Moment) (calls : List scripts.Call) (answers : List Answer) (count : ℕ) (answers' : List Answer) (m' : Moment) : Type 0 where
  pub number : count ≡ min (length calls) (length answers)
  pub rest : drop count answers' ≡ drop count answers
  pub events : List Event
  pub played : Played (take count calls) (take count answers') m events m'

-- At the end a ledger that still works is closed, and the device lies alone.
abbrev pub Ends : Moment → List Event → Disk → Type 0
Ends (working h) es e = Made close (working h) es (closed e)
Ends (closed d) es e = (es ≡ []) × (e ≡ d)

abbrev pub Ended : Moment → Disk → Type 0
Ended m e = (es : List Event) × Ends m es e

-- A run of a script over a device that it is given and gives back, whose events are a chain.
pub record Ran (d : Disk) (calls : List scripts.Call) (answers : List Answer) (e : Disk) (count : ℕ) (answers' : List Answer) : Type 0 where
  pub end : Moment
  pub worked : Worked (closed d) calls answers count answers' end
  pub last : List Event
  pub ends : Ends end last e
  pub chain : Chain (closed d) (worked.events ++ last) (closed e)
