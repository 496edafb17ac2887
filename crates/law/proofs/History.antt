-- How a store and its device stand with what has been entered, where so many of the first are counted as kept.
use Rattle.std.specs.Prelude.{◌≡◌, ℕ, ◌+◌, ◌<◌, ◌≤◌, Bool, true, false, cond, ◌⊎◌, List, [], ◌∷◌, length, take, drop, slice_index}
use Rattle.arrayvec.specs.ArrayVec.{array_vec_len}
use Rattle.device.specs.Disk.{Disk, Shown}
use Rattle.device.specs.Meaning.{Quiet}
use Rattle.device.specs.Trace.{Act, looked, wrote, settled, restarted}
use Rattle.durability.specs.Standing.{Firm, OpensTo, Choice}
use Rattle.image.specs.Calls.{declared}
use Rattle.recovery.specs.Opening.{Divides}
use Rattle.transactions.specs.declared.state.State.{State}
use Rattle.transactions.specs.State.{live, spooled}
use Rattle.law.specs.Transactions.{Transaction, made_of, batch, AllProper}

-- The transactions entered, in the order of their commits, and how many of the first of them are kept.
pub record History : Type 0 where
  pub entered : List Transaction
  pub kept : ℕ

abbrev pub nothing_entered : History
nothing_entered = record { entered = []; kept = 0 }

-- A barrier succeeded. Each call that makes one writes before it all that is entered and not yet written.
abbrev pub settles : List Act → Bool
settles [] = false
settles (looked ∷ acts) = settles acts
settles (wrote _ _ ∷ acts) = settles acts
settles (settled ∷ acts) = true
settles (restarted ∷ acts) = settles acts

-- All of these count if a barrier succeeded, else as many as before.
abbrev pub with_barrier : List Act → List Transaction → ℕ → History
with_barrier made entered kept = record { entered = entered; kept = cond (settles made) (length entered) kept }

-- All that is entered counts.
abbrev pub AllCounted : History → Type 0
AllCounted h = h.kept ≡ length h.entered

-- The store is on: the kept transactions are in the log and settled, the others wait in the spool, and the
-- memory as at begin is what all of them make of zeros.
pub record Resting (n : ℕ) (d : Disk) (s : State) (h : History) : Type 0 where
  pub on : s.on ≡ true
  pub places : s.log.places ≡ n
  pub divides : Divides d.plate.sectors n
  pub quiet : Quiet d
  pub firm : Firm n d.shows s.log.low s.log.last h.kept (made_of (take h.kept h.entered))
  pub few : h.kept ≤ length h.entered
  pub proper : AllProper h.entered
  pub number : s.log.ordinal ≡ length h.entered
  pub waits : spooled s ≡ batch h.kept (drop h.kept h.entered)
  pub room : live s + array_vec_len s.spool ≤ n
  pub before : (i : ℕ) → i < 6144 → slice_index s.image.before i ≡ made_of h.entered i

-- These sectors open to some of the first transactions entered, all kept ones among them.
pub record Recoverable (n : ℕ) (shows : ℕ → Shown) (h : History) : Type 0 where
  pub low : ℕ
  pub c : ℕ
  pub found : ℕ
  pub at_least : h.kept ≤ found
  pub at_most : found ≤ length h.entered
  pub opens : OpensTo n shows low c found (made_of (take found h.entered))

-- Whatever a restart shows can be opened. So it is after power failed, wherever it did.
pub record Safe (n : ℕ) (d : Disk) (h : History) : Type 0 where
  pub divides : Divides d.plate.sectors n
  pub proper : AllProper h.entered
  pub opens : (shows : ℕ → Shown) → Choice d shows → Recoverable n shows h

-- How a store and its device stand with what is entered and kept: at rest while the store is on, else safe.
-- While it is on and no transaction is open, nothing is declared.
pub record Sound (n : ℕ) (s : State) (d : Disk) (h : History) : Type 0 where
  pub free : s.on ≡ true → s.busy ≡ false → declared s.image ≡ []
  pub stands : ((s.on ≡ true) × Resting n d s h) ⊎ ((s.on ≡ false) × Safe n d h)
