-- What a run of a script does: its calls are events, one after another, over a device that it is given and gives back.
use Rattle.std.specs.Prelude.{◌≡◌, ℕ, ◌-◌, min, Bool, true, false, not, MatchBool, ◌&&◌, List, [], ◌∷◌, ◌++◌, length, take, drop, slice_get, slice_set, Some, None, Ok, Err, Option, Result, nat_le, is_some, is_none, option_and_then}
use Rattle.device.specs.Disk.{Disk}
use Rattle.device.specs.declared.Device.{Ghosts}
use Rattle.device.specs.Trace.{Act}
use Rattle.transactions.specs.declared.fault.StoreFault.{StoreFault}
use Rattle.transactions.specs.declared.token.Token.{Token}
use Rattle.transactions.specs.Held.{held}
use Rattle.law.specs.declared.run.Run.{Run}
use Rattle.law.specs.declared.run.Run.TheVariants.{Working, Closed}
use Rattle.law.specs.declared.script.Call.TheVariants as script
use Rattle.law.specs.declared.script.Call as scripts
use Rattle.law.specs.declared.script.Answer.{Answer}
use Rattle.law.specs.declared.script.Answer.TheVariants as told
use Rattle.law.specs.Events.{Moment, working, closed, Call, format, opening, close, begin, set_range, write, read, commit, abort, flush, truncate, Event, Happens, Chain}

-- Where a run stands.
abbrev pub moment_of : {D : Type 0} {d : Ghosts D} → Run D d → Moment
moment_of {d = d} (Working s) = working (held {d = d} s)
moment_of {d = d} (Closed device) = closed (d.disk device)

-- The places for tokens that a script lends, and the token in one: none where it is empty, or not there.
abbrev pub Places : Type 0
Places = List (Option Token)

abbrev pub token_at : Places → ℕ → Option Token
token_at places i = option_and_then (λ (x : Option Token). x) (slice_get places i)

-- A script between two calls: the run, the places for tokens and the buffer that it lends.
pub record Stage : Type 0 where
  pub moment : Moment
  pub places : Places
  pub buffer : List ℕ

abbrev pub stage : Moment → Places → List ℕ → Stage
stage m places buffer = record { moment = m; places = places; buffer = buffer }

-- A call that does not fit is not made, and nothing moves.
abbrev pub NotMade : Stage → Answer → List Event → Stage → Type 0
NotMade w a es w' = (a ≡ told.NotMade) × (es ≡ []) × (w' ≡ w)

-- A call was made, and is the event; the places and the buffer are then these.
pub record Made (call : Call) (w : Stage) (places : Places) (buffer : List ℕ) (es : List Event) (w' : Stage) : Type 0 where
  pub done : List Act
  pub cut : Option Act
  pub happens : Happens call w.moment done cut w'.moment
  pub event : es ≡ record { call = call; before = w.moment; done = done; cut = cut; after = w'.moment } ∷ []
  pub places_are : w'.places ≡ places
  pub buffer_is : w'.buffer ≡ buffer

-- The places after a begin that answers so, and what it is told as.
abbrev pub begun : Places → ℕ → Result Token StoreFault → Places
begun places i (Ok t) = slice_set places i (Some t)
begun places i (Err _) = places

abbrev pub told_begun : Result Token StoreFault → Answer
told_begun (Ok t) = told.Begun (Ok t.number)
told_begun (Err f) = told.Begun (Err f)

-- Whether a call fits: a format and an opening fit a device that lies alone, the others a store that works on one. A
-- place for a token that is given is there and empty, one of a token that is taken or shown holds it, and the bytes
-- that are read have their room in the buffer.
abbrev pub is_closed : Moment → Bool
is_closed (working h) = false
is_closed (closed d) = true

abbrev pub is_free : Places → ℕ → Bool
is_free places i = is_some (slice_get places i) && is_none (token_at places i)

abbrev pub fits : scripts.Call → Stage → Bool
fits script.Format w = is_closed w.moment
fits script.Open w = is_closed w.moment
fits script.Close w = not (is_closed w.moment)
fits (script.Begin i) w = not (is_closed w.moment) && is_free w.places i
fits (script.SetRange i start size) w = not (is_closed w.moment) && is_some (token_at w.places i)
fits (script.Write i start bytes) w = not (is_closed w.moment) && is_some (token_at w.places i)
fits (script.Read start first end) w = not (is_closed w.moment) && nat_le first end && nat_le end (length w.buffer)
fits (script.Commit i flushed) w = not (is_closed w.moment) && is_some (token_at w.places i)
fits (script.Abort i) w = not (is_closed w.moment) && is_some (token_at w.places i)
fits script.Flush w = not (is_closed w.moment)
fits script.Truncate w = not (is_closed w.moment)

-- The event of a call that is made, and its answer. A token that is given is then in its place, one that is taken is
-- gone from it. A reading fills its part of the buffer.
abbrev pub MadeAs : scripts.Call → Stage → Answer → List Event → Stage → Type 0
MadeAs script.Format w a es w' = (r : Result (Unit {0}) StoreFault) × (a ≡ told.Formatted r) × Made (format r) w w.places w.buffer es w'
MadeAs script.Open w a es w' = (r : Result (ℕ × ℕ) StoreFault) × (a ≡ told.Opened r) × Made (opening r) w w.places w.buffer es w'
MadeAs script.Close w a es w' = (a ≡ told.Closed) × Made close w w.places w.buffer es w'
MadeAs (script.Begin i) w a es w' =
    (r : Result Token StoreFault) × (a ≡ told_begun r) × Made (begin r) w (begun w.places i r) w.buffer es w'
MadeAs (script.SetRange i start size) w a es w' =
    (t : Token) × (token_at w.places i ≡ Some t)
    × ((r : Result (Unit {0}) StoreFault) × (a ≡ told.Declared r) × Made (set_range t.number start size r) w w.places w.buffer es w')
MadeAs (script.Write i start bytes) w a es w' =
    (t : Token) × (token_at w.places i ≡ Some t)
    × ((r : Result (Unit {0}) StoreFault) × (a ≡ told.Written r) × Made (write t.number start bytes.now r) w w.places w.buffer es w')
MadeAs (script.Read start first end) w a es w' =
    (r : Result (Unit {0}) StoreFault) × (bytes : List ℕ) × (a ≡ told.Read r)
    × Made (read start (take (end - first) (drop first w.buffer)) r bytes) w w.places (take first w.buffer ++ (bytes ++ drop end w.buffer)) es w'
MadeAs (script.Commit i flushed) w a es w' =
    (t : Token) × (token_at w.places i ≡ Some t)
    × ((r : Result (ℕ × ℕ) StoreFault) × (a ≡ told.Committed r) × Made (commit t.number flushed r) w (slice_set w.places i None) w.buffer es w')
MadeAs (script.Abort i) w a es w' =
    (t : Token) × (token_at w.places i ≡ Some t)
    × ((r : Result (Unit {0}) StoreFault) × (a ≡ told.Aborted r) × Made (abort t.number r) w (slice_set w.places i None) w.buffer es w')
MadeAs script.Flush w a es w' = (r : Result ℕ StoreFault) × (a ≡ told.Flushed r) × Made (flush r) w w.places w.buffer es w'
MadeAs script.Truncate w a es w' = (r : Result ℕ StoreFault) × (a ≡ told.Truncated r) × Made (truncate r) w w.places w.buffer es w'

-- One call of a script.
abbrev pub Plays : scripts.Call → Stage → Answer → List Event → Stage → Type 0
Plays call w a es w' = MatchBool (fits call w) (MadeAs call w a es w') (NotMade w a es w')

-- It is made, or not.
abbrev pub Steps : scripts.Call → Stage → Answer → Stage → Type 0
Steps call w a w' = (es : List Event) × Plays call w a es w'

-- The calls of a script with their answers, one after another, and their events.
abbrev pub Played : List scripts.Call → List Answer → Stage → List Event → Stage → Type 0
Played [] [] w es w' = (es ≡ []) × (w' ≡ w)
Played (call ∷ calls) (a ∷ answers) w es w' =
    (first more : List Event) × (mid : Stage) × (es ≡ first ++ more) × Plays call w a first mid × Played calls answers mid more w'
Played _ _ w es w' = ⊥

-- As many calls of a script as there is room for answers.
pub record Worked (w : Stage) (calls : List scripts.Call) (answers : List Answer) (count : ℕ) (answers' : List Answer) (w' : Stage) : Type 0 where
  pub number : count ≡ min (length calls) (length answers)
  pub rest : drop count answers' ≡ drop count answers
  pub events : List Event
  pub played : Played (take count calls) (take count answers') w events w'

-- At the end a store that still works is closed, and the device lies alone.
abbrev pub Ends : Moment → List Event → Disk → Type 0
Ends (working h) es e =
    (es ≡ record { call = close; before = working h; done = []; cut = None; after = closed e } ∷ []) × (e ≡ h.disk)
Ends (closed d) es e = (es ≡ []) × (e ≡ d)

abbrev pub Ended : Moment → Disk → Type 0
Ended m e = (es : List Event) × Ends m es e

-- A run of a script over a device that it is given and gives back: as many calls as there is room for answers, and
-- their events are a chain.
pub record Ran (d : Disk) (calls : List scripts.Call) (places : Places) (buffer : List ℕ) (answers : List Answer) (e : Disk)
    (count : ℕ) (places' : Places) (buffer' : List ℕ) (answers' : List Answer) : Type 0 where
  pub end : Moment
  pub worked : Worked (stage (closed d) places buffer) calls answers count answers' (stage end places' buffer')
  pub last : List Event
  pub ends : Ends end last e
  pub chain : Chain (closed d) (worked.events ++ last) (closed e)
