-- What an opening finds: a relation on what the sectors show once the device is restarted.
use Rattle.std.specs.Prelude.{◌≡◌, ℕ, zero, suc, ◌+◌, ◌-◌, ◌<◌, ◌≤◌, cond, List, length, nat_lt, slice_index}
use Rattle.device.specs.Disk.{Shown, spoiled}
use Rattle.record.specs.Entry.{Entry}
use Rattle.journal.specs.Log.{log, said}
use Rattle.journal.specs.Memory.{replayed, from_home}

-- There is a record with serial s.
abbrev pub Here : (ℕ → Entry) → ℕ → Type 0
Here log s = 1 ≤ (log s).kind

-- The record with the greatest serial of all names low.
pub record Names (log : ℕ → Entry) (low : ℕ) : Type 0 where
  pub top : ℕ
  pub here : Here log top
  pub greatest : (s : ℕ) → Here log s → s ≤ top
  pub named : (log top).low ≡ low

-- From low up, records follow one another without a gap as far as `last`; c is the greatest of these
-- serials that ends a transaction or stands alone.
pub record Runs (log : ℕ → Entry) (low c : ℕ) : Type 0 where
  pub last : ℕ
  pub from : low ≤ c
  pub to : c ≤ last
  pub unbroken : (s : ℕ) → low ≤ s → s ≤ last → Here log s
  pub gap : (log (last + 1)).kind ≡ 0
  pub ends : 2 ≤ (log c).kind
  pub greatest : (s : ℕ) → c < s → s ≤ last → (log s).kind ≤ 1

-- A record from low to c writes all of page p.
pub record Covers (log : ℕ → Entry) (low c p : ℕ) : Type 0 where
  pub serial : ℕ
  pub from : low ≤ serial
  pub to : serial ≤ c
  pub page : (log serial).page ≡ p
  pub whole : length (log serial).bytes ≡ 96

-- The home of page p may be used: it can be read, or what it held doesn't matter.
abbrev pub Usable : ℕ → (ℕ → Shown) → (ℕ → Entry) → ℕ → ℕ → ℕ → Type 0
Usable n shows log low c p = shows (n + p) ≡ spoiled → Covers log low c p

-- How many of the first k places hold a record with a serial above c: the strays.
unfoldable pub strays : ℕ → (ℕ → Shown) → ℕ → ℕ → ℕ
strays n shows c zero = 0
strays n shows c (suc k) = cond (nat_lt c (said n k (shows k)).serial) 1 0 + strays n shows c k

-- The memory that an opening makes: homes, then the records from low to c in order.
abbrev pub Remembers : ℕ → (ℕ → Shown) → ℕ → ℕ → List ℕ → Type 0
Remembers n shows low c memory =
    (i : ℕ) → i < 6144 → slice_index memory i ≡ replayed (log n shows) low (c + 1 - low) (from_home n shows) i

-- An opening of a log of n sectors finds this: the number of the last transaction, how many strays,
-- low, the last serial c, and the memory.
pub record Finds (n : ℕ) (shows : ℕ → Shown) (ordinal count low c : ℕ) (memory : List ℕ) : Type 0 where
  pub names : Names (log n shows) low
  pub mark : (log n shows low).kind ≡ 4
  pub run : Runs (log n shows) low c
  pub homes : (p : ℕ) → p < 64 → Usable n shows (log n shows) low c p
  pub number : ordinal ≡ (log n shows c).ordinal
  pub astray : count ≡ strays n shows c n
  pub bytes : length memory ≡ 6144
  pub memory_is : Remembers n shows low c memory

-- The three refusals that depend on what the sectors show: no record at all; what low names is no mark;
-- the lowest page whose home is spoiled and not covered.
abbrev pub HasNoLog : ℕ → (ℕ → Shown) → Type 0
HasNoLog n shows = (s : ℕ) → (log n shows s).kind ≡ 0

pub record HasNoMark (n : ℕ) (shows : ℕ → Shown) (low : ℕ) : Type 0 where
  pub names : Names (log n shows) low
  pub no_mark : (log n shows low).kind ≡ 4 → ⊥

pub record Uncovered (n : ℕ) (shows : ℕ → Shown) (p : ℕ) : Type 0 where
  pub low : ℕ
  pub c : ℕ
  pub names : Names (log n shows) low
  pub mark : (log n shows low).kind ≡ 4
  pub run : Runs (log n shows) low c
  pub page : p < 64
  pub gone : shows (n + p) ≡ spoiled
  pub bare : Covers (log n shows) low c p → ⊥
  pub lowest : (q : ℕ) → q < p → Usable n shows (log n shows) low c q

-- Two findings of the same sectors are one.
abbrev pub Determined : Type 0
Determined =
    (n : ℕ) (shows : ℕ → Shown) (ordinal count low c : ℕ) (memory : List ℕ) (ordinal' count' low' c' : ℕ) (memory' : List ℕ)
    → Finds n shows ordinal count low c memory
    → Finds n shows ordinal' count' low' c' memory'
    → (ordinal' ≡ ordinal) × (count' ≡ count) × (low' ≡ low) × (c' ≡ c) × (memory' ≡ memory)
