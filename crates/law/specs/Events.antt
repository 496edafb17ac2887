-- What happens in a run of a store: each call, what it answered and left, and the calls that it made on the device.
use Rattle.std.specs.Prelude.{◌≡◌, ℕ, Bool, true, false, cond, not, ◌&&◌, ◌⊎◌, List, [], ◌∷◌, ◌++◌, length, replicate, Some, None, Ok, Err, Option, Result, nat_le}
use Rattle.arrayvec.specs.ArrayVec.{array_vec_len}
use Rattle.device.specs.declared.fault.DeviceFault.TheVariants.{Power}
use Rattle.device.specs.Disk.{Disk, Shown}
use Rattle.device.specs.Meaning.{Restarted}
use Rattle.device.specs.Trace.{Act, looked, restarted, Done, Cut}
use Rattle.image.specs.Calls.{declared, none}
use Rattle.recovery.specs.Clearing.{clearing}
use Rattle.recovery.specs.Format.{formatting}
use Rattle.recovery.specs.Opening.{Divides}
use Rattle.transactions.specs.declared.fault.StoreFault.{StoreFault}
use Rattle.transactions.specs.declared.fault.StoreFault.TheVariants.{Device}
use Rattle.transactions.specs.declared.state.State.{State}
use Rattle.transactions.specs.declared.token.Token.{Token}
use Rattle.transactions.specs.Calls.{writing}
use Rattle.transactions.specs.Held.{Held, Formatted, Opened, Begins, SetsRange, WritesRange, ReadsRange, Commits, Aborts, Flushes, Truncates}
use Rattle.transactions.specs.Rows.{first_fit, token_rows, commit_rows}
use Rattle.transactions.specs.State.{spooled, own}
use Rattle.transactions.specs.Truncation.{dirty_pages, due_pages, truncate_rows, truncation}

-- A run between two calls: a store works on its device, or the device lies alone.
pub data Moment : Type 0 where
  working : Held → Moment
  closed : Disk → Moment

abbrev pub disk_at : Moment → Disk
disk_at (working h) = h.disk
disk_at (closed d) = d

-- A call with its arguments and its answer. A token is its number, and may be any number at all. A reading has its
-- buffer before it and after it.
pub data Call : Type 0 where
  format : Result (Unit {0}) StoreFault → Call
  opening : Result (ℕ × ℕ) StoreFault → Call
  close : Call
  begin : Result Token StoreFault → Call
  set_range : ℕ → ℕ → ℕ → Result (Unit {0}) StoreFault → Call
  write : ℕ → ℕ → List ℕ → Result (Unit {0}) StoreFault → Call
  read : ℕ → List ℕ → Result (Unit {0}) StoreFault → List ℕ → Call
  commit : ℕ → Bool → Result (ℕ × ℕ) StoreFault → Call
  abort : ℕ → Result (Unit {0}) StoreFault → Call
  flush : Result ℕ StoreFault → Call
  truncate : Result ℕ StoreFault → Call

-- A call, the run before and after it, and the calls that it made on the device: those that succeeded, in their
-- order, and the one that power cut, if any.
pub record Event : Type 0 where
  pub call : Call
  pub before : Moment
  pub done : List Act
  pub cut : Option Act
  pub after : Moment

-- Power cut this call of a plan, once those before it had succeeded.
pub record CutAt (d : Disk) (plan done : List Act) (act : Act) (o : ℕ) (e : Disk) : Type 0 where
  pub rest : List Act
  pub all : done ++ (act ∷ rest) ≡ plan
  pub reached : Disk
  pub did : Done d done reached
  pub cut : Cut act reached o e

-- The plan of a call that answers so: all of it succeeded where the call answers well. Where power failed, one call of it
-- was cut and those before that succeeded. A call that refuses has no plan.
abbrev pub Tried : {A : Type 0} → List Act → Disk → List Act → Option Act → Result A StoreFault → Disk → Type 0
Tried plan d done None (Ok _) e = (done ≡ plan) × Done d plan e
Tried plan d done (Some act) (Ok _) e = ⊥
Tried plan d done None (Err _) e = (plan ≡ []) × (done ≡ []) × (e ≡ d)
Tried plan d done (Some act) (Err f) e = (o : ℕ) × (f ≡ Device (Power o)) × CutAt d plan done act o e

-- No call was made on the device.
abbrev pub Silent : List Act → Option Act → Type 0
Silent done cut = (done ≡ []) × (cut ≡ None)

-- A format tries its plan on a device that has room for a log; else it makes no call.
abbrev pub FormatTried : Disk → List Act → Option Act → Result (Unit {0}) StoreFault → Disk → Type 0
FormatTried d done cut r e =
    ((n : ℕ) × Divides d.plate.sectors n × Tried (formatting n) d done cut r e) ⊎ (Silent done cut × (e ≡ d))

-- An opening restarts the device and looks at it as often as it needs. Where it finds a log, it clears the strays above
-- it. Power may cut the restart, or what follows it.
abbrev pub OpeningTried : Disk → List Act → Option Act → Result (ℕ × ℕ) StoreFault → Held → Type 0
OpeningTried d done None (Ok x) k =
    (o : Opened d (Ok x) k) × (looks : ℕ)
    × (done ≡ restarted ∷ (replicate looks looked ++ clearing o.places o.restarted.shows k.state.log.last))
OpeningTried d done (Some act) (Ok x) k = ⊥
OpeningTried d done None (Err f) k =
    ((done ≡ []) × (k.disk ≡ d)) ⊎ (Restarted d k.disk × (looks : ℕ) × (done ≡ restarted ∷ replicate looks looked))
OpeningTried d done (Some act) (Err f) k =
    (o : ℕ) × (f ≡ Device (Power o))
    × (((done ≡ []) × (act ≡ restarted))
    ⊎ ((m : Disk) × Restarted d m × (looks n c : ℕ) × (more : List Act) × (done ≡ restarted ∷ more)
    × CutAt m (replicate looks looked ++ clearing n m.shows c) more act o k.disk))

-- No row fits.
abbrev pub fits_none : Option (ℕ × List ℕ) → Bool
fits_none None = true
fits_none (Some _) = false

-- A commit with this token has at least one record and passes its checks: the transaction is entered, even if power
-- then fails.
abbrev pub does_enter : State → ℕ → Bool → Bool
does_enter s number flushed =
    fits_none (first_fit (token_rows s number)) && not (none (declared s.image)) && fits_none (first_fit (commit_rows s (length (own s)) flushed))

-- The plans of the calls that write.
abbrev pub commit_plan : State → ℕ → Bool → List Act
commit_plan s number flushed = cond (does_enter s number flushed && flushed) (writing s (spooled s ++ own s)) []

abbrev pub flush_plan : State → List Act
flush_plan s = cond (s.on && nat_le 1 (array_vec_len s.spool)) (writing s (spooled s)) []

-- A truncation that passes its tests writes, if some page is dirty.
abbrev pub does_truncate : State → (ℕ → Shown) → Bool
does_truncate s shows = fits_none (first_fit (truncate_rows s (length (due_pages s shows)))) && nat_le 1 (length (dirty_pages s shows))

abbrev pub truncate_plan : State → (ℕ → Shown) → List Act
truncate_plan s shows = cond (does_truncate s shows) (truncation s shows) []

-- The call answered so and led from one moment to the other, with these calls on the device.
abbrev pub Happens : Call → Moment → List Act → Option Act → Moment → Type 0
Happens (format r) (closed d) done cut (working k) = Formatted d r k × FormatTried d done cut r k.disk
Happens (opening r) (closed d) done cut (working k) = Opened d r k × OpeningTried d done cut r k
Happens close (working h) done cut (closed e) = (e ≡ h.disk) × Silent done cut
Happens (begin r) (working h) done cut (working k) = Begins h r k × Silent done cut
Happens (set_range number start size r) (working h) done cut (working k) = SetsRange number start size h r k × Silent done cut
Happens (write number start bytes r) (working h) done cut (working k) = WritesRange number start bytes h r k × Silent done cut
Happens (read start buffer r filled) (working h) done cut (working k) =
    ReadsRange start h buffer r filled × (k ≡ h) × Silent done cut
Happens (commit number flushed r) (working h) done cut (working k) =
    Commits number flushed h r k × Tried (commit_plan h.state number flushed) h.disk done cut r k.disk
Happens (abort number r) (working h) done cut (working k) = Aborts number h r k × Silent done cut
Happens (flush r) (working h) done cut (working k) = Flushes h r k × Tried (flush_plan h.state) h.disk done cut r k.disk
Happens (truncate r) (working h) done cut (working k) =
    Truncates h r k × Tried (truncate_plan h.state h.disk.shows) h.disk done cut r k.disk
Happens _ _ _ _ _ = ⊥

-- The events follow one another, from one moment to another.
abbrev pub Chain : Moment → List Event → Moment → Type 0
Chain m [] m' = m' ≡ m
Chain m (e ∷ es) m' = (e.before ≡ m) × Happens e.call e.before e.done e.cut e.after × Chain e.after es m'
