-- A log that stands firm, and one that may be opened.
use Rattle.std.specs.Prelude.{◌≡◌, ℕ, ◌+◌, ◌-◌, ◌<◌, ◌≤◌, List, slice_index}
use Rattle.device.specs.Disk.{Disk, Shown, Stands}
use Rattle.journal.specs.Log.{log}
use Rattle.journal.specs.Memory.{replayed, from_home}
use Rattle.journal.specs.Opening.{Here, Usable, Finds}

-- A log of n sectors that stands firm: it goes from a mark at low to `last` without a gap, ends there, has
-- nothing above, and makes this memory. The last ordinal is `ordinal`.
pub record Firm (n : ℕ) (shows : ℕ → Shown) (low last ordinal : ℕ) (memory : ℕ → ℕ) : Type 0 where
  pub some : 1 ≤ n
  pub from : low ≤ last
  pub near : last - low < n
  pub mark : (log n shows low).kind ≡ 4
  pub unbroken : (s : ℕ) → low ≤ s → s ≤ last → Here (log n shows) s
  pub ends : 2 ≤ (log n shows last).kind
  pub above : (s : ℕ) → Here (log n shows) s → s ≤ last
  pub named : (log n shows last).low ≡ low
  pub number : (log n shows last).ordinal ≡ ordinal
  pub homes : (p : ℕ) → p < 64 → Usable n shows (log n shows) low last p
  pub makes : (i : ℕ) → i < 6144 → replayed (log n shows) low (last + 1 - low) (from_home n shows) i ≡ memory i

-- An opening of these sectors finds the log from low to c with this ordinal and this memory, and every
-- record from c up names this low, so that clearing strays cannot make another low count.
pub record OpensTo (n : ℕ) (shows : ℕ → Shown) (low c ordinal : ℕ) (memory : ℕ → ℕ) : Type 0 where
  pub count : ℕ
  pub bytes : List ℕ
  pub finds : Finds n shows ordinal count low c bytes
  pub agrees : (i : ℕ) → i < 6144 → slice_index bytes i ≡ memory i
  pub named : (s : ℕ) → c ≤ s → Here (log n shows) s → (log n shows s).low ≡ low

-- One choice, sector by sector, of what may stand on the device: what a restart may show.
abbrev pub Choice : Disk → (ℕ → Shown) → Type 0
Choice d shows = (i : ℕ) → Stands d i (shows i)
