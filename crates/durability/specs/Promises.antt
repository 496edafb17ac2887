-- What is promised of a log when power fails in each kind of writing.
use Rattle.std.specs.Prelude.{◌≡◌, ℕ, ◌+◌, ◌-◌, ◌*◌, ◌%◌, ◌^◌, ◌<◌, ◌≤◌, ◌⊎◌, List, [], ◌∷◌, ◌++◌, length, take, drop, replicate, ◌≢◌, slice_index}
use Rattle.device.specs.Disk.{Disk, Shown, spoiled, holds, Among}
use Rattle.device.specs.Meaning.{Quiet}
use Rattle.device.specs.Trace.{Act, wrote, settled, Done, CutShort}
use Rattle.record.specs.Entry.{laid_out}
use Rattle.journal.specs.Log.{log}
use Rattle.journal.specs.Memory.{from_home}
use Rattle.journal.specs.Opening.{Covers}
use Rattle.recovery.specs.declared.fault.RecoveryFault.{RecoveryFault}
use Rattle.recovery.specs.Format.{formatting, mark}
use Rattle.recovery.specs.Clearing.{clearing}
use Rattle.recovery.specs.Opening.{Refuses}
use Rattle.durability.specs.Items.{Item, appending, put_in, ordinal_after, kind_after, Appendable}
use Rattle.durability.specs.Standing.{Firm, OpensTo, Choice}

-- A device on which nothing is pending holds a firm log, with room for these items above `last`.
pub record BeforeItems (n : ℕ) (d : Disk) (low last ordinal : ℕ) (memory : ℕ → ℕ) (xs : List Item) : Type 0 where
  pub firm : Firm n d.shows low last ordinal memory
  pub quiet : Quiet d
  pub room : last + 1 - low + length xs ≤ n
  pub serials : last + length xs < 2 ^ 63
  pub appendable : Appendable last xs

-- The first of the items, up to one that ends a transaction or stands alone, and those after it.
pub record Split (xs first rest : List Item) : Type 0 where
  pub all : first ++ rest ≡ xs
  pub whole : 2 ≤ kind_after 4 first

-- Items that were appended and settled are part of the log, if the last of them ends a transaction.
abbrev pub Appended : Type 0
Appended =
    (n : ℕ) (d e : Disk) (low last ordinal : ℕ) (memory : ℕ → ℕ) (xs : List Item) → BeforeItems n d low last ordinal memory xs
    → 2 ≤ kind_after 4 xs → Done d (appending n low last xs ++ (settled ∷ [])) e
    → Firm n e.shows low (last + length xs) (ordinal_after ordinal xs) (λ i. put_in xs i (memory i)) × Quiet e

-- Where power cuts that, an opening finds the first of them, up to one that ends a transaction.
abbrev pub AppendCut : Type 0
AppendCut =
    (n : ℕ) (d e : Disk) (o low last ordinal : ℕ) (memory : ℕ → ℕ) (xs : List Item) → BeforeItems n d low last ordinal memory xs
    → CutShort d (appending n low last xs ++ (settled ∷ [])) o e
    → (shows : ℕ → Shown) → Choice e shows
    → (first : List Item) × (rest : List Item) × Split xs first rest
    × OpensTo n shows low (last + length first) (ordinal_after ordinal first) (λ i. put_in first i (memory i))

-- A new log stands firm on zeros.
abbrev pub Formatted : Type 0
Formatted = (n : ℕ) (d e : Disk) → 1 ≤ n → Done d (formatting n) e → Firm n e.shows 1 1 0 (λ _. 0) × Quiet e

-- A firm log opens to itself.
abbrev pub FirmOpens : Type 0
FirmOpens =
    (n : ℕ) (shows : ℕ → Shown) (low last ordinal : ℕ) (memory : ℕ → ℕ) → Firm n shows low last ordinal memory
    → OpensTo n shows low last ordinal memory

-- Once its strays are cleared and settled, what an opening found stands firm.
abbrev pub Cleared : Type 0
Cleared =
    (n : ℕ) (d e : Disk) (low c ordinal : ℕ) (memory : ℕ → ℕ) → 1 ≤ n → OpensTo n d.shows low c ordinal memory → Quiet d
    → Done d (clearing n d.shows c) e → Firm n e.shows low c ordinal memory × Quiet e

-- Where power cuts the clearing, the next opening finds the same.
abbrev pub ClearCut : Type 0
ClearCut =
    (n : ℕ) (d e : Disk) (o low c ordinal : ℕ) (memory : ℕ → ℕ) → 1 ≤ n → OpensTo n d.shows low c ordinal memory → Quiet d
    → CutShort d (clearing n d.shows c) o e
    → (shows : ℕ → Shown) → Choice e shows → OpensTo n shows low c ordinal memory

-- An opening that finds a log does not refuse it.
abbrev pub NotRefused : Type 0
NotRefused =
    (n : ℕ) (shows : ℕ → Shown) (low c ordinal : ℕ) (memory : ℕ → ℕ) (f : RecoveryFault) → OpensTo n shows low c ordinal memory
    → Refuses n shows f → ⊥

-- Page p of the memory as its home holds it: 96 bytes, then 32 zeros.
abbrev pub home_of : List ℕ → ℕ → List ℕ
home_of memory p = take 96 (drop (p * 96) memory) ++ replicate 32 0

-- The homes of these pages are written, where homes begin at sector n.
abbrev pub homing : ℕ → List ℕ → List ℕ → List Act
homing n memory [] = []
homing n memory (p ∷ ps) = wrote (n + p) (home_of memory p) ∷ homing n memory ps

-- Each of these pages is a page that a record of the log covers whole.
abbrev pub Covered : ℕ → (ℕ → Shown) → ℕ → ℕ → List ℕ → Type 0
Covered n shows low last [] = Unit {0}
Covered n shows low last (p ∷ ps) = (p < 64) × Covers (log n shows) low last p × Covered n shows low last ps

-- A device on which nothing is pending holds a firm log that makes this memory and covers these pages.
pub record BeforeHomes (n : ℕ) (d : Disk) (low last ordinal : ℕ) (memory : List ℕ) (ps : List ℕ) : Type 0 where
  pub firm : Firm n d.shows low last ordinal (λ i. slice_index memory i)
  pub quiet : Quiet d
  pub whole : length memory ≡ 6144
  pub covered : Covered n d.shows low last ps

-- The home of page p holds what the memory has there.
abbrev pub AtHome : ℕ → (ℕ → Shown) → List ℕ → ℕ → Type 0
AtHome n shows memory p = shows (n + p) ≡ holds (home_of memory p)

-- Homes of covered pages may be written without a loss: done, the log stands as before.
abbrev pub Homed : Type 0
Homed =
    (n : ℕ) (d e : Disk) (low last ordinal : ℕ) (memory : List ℕ) (ps : List ℕ) → BeforeHomes n d low last ordinal memory ps
    → Done d (homing n memory ps ++ (settled ∷ [])) e
    → Firm n e.shows low last ordinal (λ i. slice_index memory i) × Quiet e
    × ((p : ℕ) → p < 64 → Among p ps → AtHome n e.shows memory p)
    × ((p : ℕ) → p < 64 → (Among p ps → ⊥) → e.shows (n + p) ≡ d.shows (n + p))
    × ((s : ℕ) → log n e.shows s ≡ log n d.shows s)

-- And cut, an opening finds the same.
abbrev pub HomeCut : Type 0
HomeCut =
    (n : ℕ) (d e : Disk) (o low last ordinal : ℕ) (memory : List ℕ) (ps : List ℕ) → BeforeHomes n d low last ordinal memory ps
    → CutShort d (homing n memory ps ++ (settled ∷ [])) o e
    → (shows : ℕ → Shown) → Choice e shows → OpensTo n shows low last ordinal (λ i. slice_index memory i)

-- A device on which nothing is pending holds a firm log whose homes alone make the memory.
pub record BeforeMark (n : ℕ) (d : Disk) (low last ordinal : ℕ) (memory : ℕ → ℕ) : Type 0 where
  pub firm : Firm n d.shows low last ordinal memory
  pub quiet : Quiet d
  pub room : last + 1 - low + 1 ≤ n
  pub serials : last + 1 < 2 ^ 63
  pub homes : (i : ℕ) → i < 6144 → from_home n d.shows i ≡ memory i
  pub readable : (p : ℕ) → p < 64 → d.shows (n + p) ≢ spoiled

-- The mark from which the log may then be read anew: its low is its own serial.
abbrev pub marking : ℕ → ℕ → ℕ → List Act
marking n last ordinal =
    wrote ((last + 1) % n) (laid_out (mark (record { serial = last + 1; low = last + 1; ordinal = ordinal }))) ∷ settled ∷ []

abbrev pub Marked : Type 0
Marked =
    (n : ℕ) (d e : Disk) (low last ordinal : ℕ) (memory : ℕ → ℕ) → BeforeMark n d low last ordinal memory
    → Done d (marking n last ordinal) e → Firm n e.shows (last + 1) (last + 1) ordinal memory × Quiet e

abbrev pub MarkCut : Type 0
MarkCut =
    (n : ℕ) (d e : Disk) (o low last ordinal : ℕ) (memory : ℕ → ℕ) → BeforeMark n d low last ordinal memory
    → CutShort d (marking n last ordinal) o e
    → (shows : ℕ → Shown) → Choice e shows
    → OpensTo n shows low last ordinal memory ⊎ OpensTo n shows (last + 1) (last + 1) ordinal memory
