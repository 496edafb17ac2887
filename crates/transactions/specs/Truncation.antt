-- Truncation: which pages are dirty, its tests, its calls on the device, and what it answers and leaves.
use Rattle.std.specs.Prelude.{◌≡◌, ℕ, zero, suc, ◌+◌, ◌-◌, ◌*◌, Bool, true, false, cond, not, ◌≢◌, ◌⊎◌, List, [], ◌∷◌, ◌++◌, map, length, take, drop, Some, None, Ok, Err, Result, ◌==◌, nat_lt}
use Rattle.arrayvec.specs.ArrayVec.{array_vec_len}
use Rattle.device.specs.declared.fault.DeviceFault.TheVariants.{Power}
use Rattle.device.specs.Disk.{Disk, Shown}
use Rattle.device.specs.Trace.{Act, settled, Done, CutShort}
use Rattle.record.specs.Entry.{Entry}
use Rattle.journal.specs.Log.{log}
use Rattle.journal.specs.Pages.{names, covers, in_log, unsaid}
use Rattle.durability.specs.Items.{Item, appending, recorded}
use Rattle.durability.specs.Promises.{homing, marking}
use Rattle.transactions.specs.declared.fault.StoreFault.{StoreFault}
use Rattle.transactions.specs.declared.fault.StoreFault.TheVariants.{Device}
use Rattle.transactions.specs.declared.state.State.{State}
use Rattle.transactions.specs.Calls.{writing}
use Rattle.transactions.specs.Rows.{Row, first_fit, Refuses, off, busy, serials}
use Rattle.transactions.specs.State.{live, spooled, StandsAt, TurnedOff}

-- One of these items says so of page p; serials do not matter here.
abbrev pub in_items : (Entry → ℕ → Bool) → List Item → ℕ → Bool
in_items says [] p = false
in_items says (x ∷ xs) p = cond (says (recorded 0 0 x) p) true (in_items says xs p)

-- A live record on the device says so, or one that waits.
abbrev pub said_of : (Entry → ℕ → Bool) → State → (ℕ → Shown) → ℕ → Bool
said_of says s shows p = cond (in_log says (log s.log.places shows) s.log.low (live s) p) true (in_items says (spooled s) p)

-- A page is dirty if a record names it, and due if no record covers it too.
abbrev pub is_dirty : State → (ℕ → Shown) → ℕ → Bool
is_dirty s shows p = said_of names s shows p

abbrev pub is_due : State → (ℕ → Shown) → ℕ → Bool
is_due s shows p = cond (is_dirty s shows p) (not (said_of covers s shows p)) false

-- Of k pages from page i on, those that pass the test, the lowest first.
unfoldable pub chosen : (ℕ → Bool) → ℕ → ℕ → List ℕ
chosen test i zero = []
chosen test i (suc k) = cond (test i) (i ∷ chosen test (i + 1) k) (chosen test (i + 1) k)

abbrev pub dirty_pages : State → (ℕ → Shown) → List ℕ
dirty_pages s shows = chosen (is_dirty s shows) 0 64

abbrev pub due_pages : State → (ℕ → Shown) → List ℕ
due_pages s shows = chosen (is_due s shows) 0 64

-- There is too little log, by so many records, for what waits, so many page records and a mark.
abbrev pub crowded : State → ℕ → Row
crowded s due =
    record { fits = nat_lt s.log.places (live s + array_vec_len s.spool + due + 1); number = 15; values = (live s + array_vec_len s.spool + due + 1 - s.log.places) ∷ [] }

abbrev pub truncate_rows : State → ℕ → List Row
truncate_rows s due = off s ∷ busy s ∷ serials s 0 ∷ crowded s due ∷ []

-- The page record of page p of this memory.
abbrev pub page_item : ℕ → List ℕ → ℕ → Item
page_item ordinal memory p = record { kind = 3; ordinal = ordinal; page = p; offset = 0; bytes = take 96 (drop (p * 96) memory) }

-- What waits is written and settled; where nothing waits, nothing is done.
abbrev pub flushing : State → List Act
flushing s = cond (array_vec_len s.spool == 0) [] (writing s (spooled s))

-- Page records of these pages are written after all that waited, and settled.
abbrev pub covering : State → List ℕ → List Act
covering s ps =
    appending s.log.places s.log.low (s.log.last + array_vec_len s.spool) (map (page_item s.log.ordinal s.image.memory) ps) ++ (settled ∷ [])

-- The dirty pages are written home and settled.
abbrev pub going_home : State → List ℕ → List Act
going_home s ps = homing s.log.places s.image.memory ps ++ (settled ∷ [])

-- The serial of the last page record, if there are so many.
abbrev pub covered_to : State → ℕ → ℕ
covered_to s due = s.log.last + array_vec_len s.spool + due

-- All that a truncation of dirty pages does: flush, page records, homes, mark, each settled before the next.
abbrev pub truncating : State → List ℕ → List ℕ → List Act
truncating s due dirty =
    flushing s ++ (covering s due ++ (going_home s dirty ++ marking s.log.places (covered_to s (length due)) s.log.ordinal))

abbrev pub truncation : State → (ℕ → Shown) → List Act
truncation s shows = truncating s (due_pages s shows) (dirty_pages s shows)

-- No page is dirty: then nothing waits either, and nothing is done.
pub record TruncatesNothing (s : State) (d : Disk) (k : ℕ) (s' : State) (e : Disk) : Type 0 where
  pub clean : dirty_pages s d.shows ≡ []
  pub empty : array_vec_len s.spool ≡ 0
  pub answer : k ≡ 0
  pub state : s' ≡ s
  pub device : e ≡ d

-- Once so many page records and the mark are written: the log begins at the mark and ends there, nothing waits, and no
-- page is named.
pub record Truncated (s : State) (due : ℕ) (s' : State) : Type 0 where
  pub log : StandsAt s'.log s.log.places (covered_to s due + 1) (covered_to s due + 1) s.log.ordinal
  pub empty : array_vec_len s'.spool ≡ 0
  pub pages : s'.pages ≡ unsaid
  pub image : s'.image ≡ s.image
  pub busy : s'.busy ≡ s.busy
  pub on : s'.on ≡ true

-- Dirty pages are home, and the log begins anew. The answer is how many they were.
pub record TruncatesPages (s : State) (d : Disk) (k : ℕ) (s' : State) (e : Disk) : Type 0 where
  pub some : dirty_pages s d.shows ≢ []
  pub answer : k ≡ length (dirty_pages s d.shows)
  pub done : Done d (truncation s d.shows) e
  pub state : Truncated s (length (due_pages s d.shows)) s'

-- Power failed in a call of the plan, after all tests passed. The store is off, and all else of it as it was.
pub record TruncateCut (s : State) (d : Disk) (f : StoreFault) (s' : State) (e : Disk) : Type 0 where
  pub passes : first_fit (truncate_rows s (length (due_pages s d.shows))) ≡ None
  pub some : dirty_pages s d.shows ≢ []
  pub origin : ℕ
  pub fault : f ≡ Device (Power origin)
  pub cut : CutShort d (truncation s d.shows) origin e
  pub state : TurnedOff s s'

-- The last of the tests, and what follows: too little log refuses, and nothing moves; else dirty pages go home, or
-- power cuts that.
abbrev pub PagesAnswer : State → Disk → Result ℕ StoreFault → State → Disk → Type 0
PagesAnswer s d (Ok k) s' e =
    (first_fit (crowded s (length (due_pages s d.shows)) ∷ []) ≡ None) × (TruncatesNothing s d k s' e ⊎ TruncatesPages s d k s' e)
PagesAnswer s d (Err f) s' e =
    (Refuses (crowded s (length (due_pages s d.shows)) ∷ []) f × (s' ≡ s) × (e ≡ d))
    ⊎ ((first_fit (crowded s (length (due_pages s d.shows)) ∷ []) ≡ None)
    × (o : ℕ) × (f ≡ Device (Power o)) × (dirty_pages s d.shows ≢ []) × CutShort d (truncation s d.shows) o e × TurnedOff s s')

-- Truncate answers how many pages were dirty; a row that fits refuses, and nothing moves.
abbrev pub Truncates : State → Disk → Result ℕ StoreFault → State → Disk → Type 0
Truncates s d (Ok k) s' e =
    (first_fit (truncate_rows s (length (due_pages s d.shows))) ≡ None) × (TruncatesNothing s d k s' e ⊎ TruncatesPages s d k s' e)
Truncates s d (Err f) s' e =
    (Refuses (truncate_rows s (length (due_pages s d.shows))) f × (s' ≡ s) × (e ≡ d)) ⊎ TruncateCut s d f s' e
