-- The crash-safety law of stores: what is entered, computed from the events of a run, and what holds of each event.
use Rattle.std.specs.Prelude.{◌≡◌, ℕ, ◌-◌, ◌<◌, ◌≤◌, true, false, cond, List, [], ◌∷◌, ◌++◌, map, length, take, drop, Some, None, Ok, Err, Option, Result, slice_index}
use Rattle.device.specs.Trace.{Act}
use Rattle.image.specs.Calls.{declared}
use Rattle.transactions.specs.declared.fault.StoreFault.{StoreFault}
use Rattle.transactions.specs.declared.state.State.{State}
use Rattle.transactions.specs.Fault.{number}
use Rattle.law.specs.Transactions.{Transaction, made_of}
use Rattle.law.specs.Kept.{Entered, AllKept, NoneKept}
use Rattle.law.specs.Events.{Moment, working, closed, disk_at, Call, format, opening, commit, flush, truncate, Event, does_enter, Chain}

-- What is entered, in the order of the commits. Nothing is known of a device until a format of it succeeds.
abbrev pub History : Type 0
History = Option (List Entered)

abbrev pub transactions : List Entered → List Transaction
transactions xs = map (λ (x : Entered). x.transaction) xs

-- The transaction that a commit enters: its declared bytes, and the memory at the commit.
abbrev pub own_transaction : State → Transaction
own_transaction s = record { runs = declared s.image; memory = s.image.memory }

-- These device calls came later. Those found at an opening are known from that.
abbrev pub later : List Act → Entered → Entered
later done x = record { transaction = x.transaction; since = x.since ++ done; found = x.found }

abbrev pub found_again : Entered → Entered
found_again x = record { transaction = x.transaction; since = []; found = true }

-- What a call newly enters, while these device calls succeed.
abbrev pub newly : Call → Moment → List Act → List Entered
newly (commit number flushed r) (working h) done =
    cond (does_enter h.state number flushed) (record { transaction = own_transaction h.state; since = done; found = false } ∷ []) []
newly _ _ _ = []

-- What is entered after an event. A format that succeeds begins anew, and one that fails leaves a device of which
-- nothing is known. An opening that finds so many transactions leaves the first that many.
abbrev pub entered_after : Call → Moment → List Act → List Entered → List Entered
entered_after (opening (Ok x)) m done xs = map found_again (take x.0 xs)
entered_after call m done xs = map (later done) xs ++ newly call m done

abbrev pub after_call : Call → Moment → List Act → History → History
after_call (format (Ok _)) m done h = Some []
after_call (format (Err _)) m done h = None
after_call call m done None = None
after_call call m done (Some xs) = Some (entered_after call m done xs)

abbrev pub after : Event → History → History
after e h = after_call e.call e.before e.done h

-- The log of the device has so many sectors.
abbrev pub places_at : Moment → ℕ
places_at m = (disk_at m).plate.sectors - 64

-- All that is entered is kept.
abbrev pub AllAreKept : Moment → History → Type 0
AllAreKept m None = Unit {0}
AllAreKept m (Some xs) = AllKept (places_at m) 0 xs

-- An opening that answers finds every transaction that is kept, and none that was not entered. Its memory is just what
-- the first that many make of zeros.
pub record Finds (m : Moment) (found : ℕ) (memory : List ℕ) (xs : List Entered) : Type 0 where
  pub kept : NoneKept (places_at m) found (drop found xs)
  pub entered : found ≤ length xs
  pub whole : length memory ≡ 6144
  pub memory_is : (i : ℕ) → i < 6144 → slice_index memory i ≡ made_of (transactions (take found xs)) i

-- The law on an opening: it finds what it should, or it is refused, and that for failing power alone.
abbrev pub OpensLawfully : Moment → Result (ℕ × ℕ) StoreFault → Moment → List Entered → Type 0
OpensLawfully m (Ok x) (working k) xs = Finds m x.0 k.state.image.memory xs
OpensLawfully m (Ok x) (closed e) xs = ⊥
OpensLawfully m (Err f) m' xs = number f ≡ 1

-- The law on a call, where xs are entered before it.
abbrev pub LawfulCall : Call → Event → List Entered → Type 0
LawfulCall (opening r) e xs = OpensLawfully e.before r e.after xs
LawfulCall (commit number flushed r) e xs =
    (ordinal k : ℕ) → r ≡ Ok (ordinal, k) → flushed ≡ true → 1 ≤ k → AllAreKept e.before (after e (Some xs))
LawfulCall (flush r) e xs = (k : ℕ) → r ≡ Ok k → AllAreKept e.before (after e (Some xs))
LawfulCall (truncate r) e xs = (k : ℕ) → r ≡ Ok k → AllAreKept e.before (after e (Some xs))
LawfulCall _ e xs = Unit {0}

abbrev pub Lawful : Event → History → Type 0
Lawful e None = Unit {0}
Lawful e (Some xs) = LawfulCall e.call e xs

-- The law on the events of a run.
abbrev pub AllLawful : List Event → History → Type 0
AllLawful [] h = Unit {0}
AllLawful (e ∷ es) h = Lawful e h × AllLawful es (after e h)

-- The crash-safety law of stores: it holds of every run.
abbrev pub CrashSafe : Type 0
CrashSafe = (m : Moment) (es : List Event) (m' : Moment) → Chain m es m' → AllLawful es None
