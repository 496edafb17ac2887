-- Which pages are dirty and which are due, by the records that say so.
use Rattle.std.specs.Prelude.{◌≡◌, ℕ, ◌≤◌, ◌↔◌, ◌⊎◌, length}
use Rattle.std.specs.List.Sorted.{IsStrictlyIncreasing}
use Rattle.device.specs.Disk.{Shown, Among}
use Rattle.record.specs.Entry.{Entry}
use Rattle.journal.specs.Log.{log}
use Rattle.durability.specs.Items.{Item, recorded}
use Rattle.transactions.specs.declared.state.State.{State}
use Rattle.transactions.specs.State.{spooled}
use Rattle.transactions.specs.Truncation.{dirty_pages, due_pages}

-- The record is live, or a part that waits will be this record, but for its serial and low.
abbrev pub OfStore : State → (ℕ → Shown) → Entry → Type 0
OfStore s shows e =
    ((t : ℕ) × (s.log.low ≤ t) × (t ≤ s.log.last) × (e ≡ log s.log.places shows t))
    ⊎ ((x : Item) × Among x (spooled s) × (e ≡ recorded 0 0 x))

-- The record is a part or a page record of page p.
pub record NamesPage (e : Entry) (p : ℕ) : Type 0 where
  pub page : e.page ≡ p
  pub some : 1 ≤ e.kind
  pub piece : e.kind ≤ 3

-- It has all the bytes of page p.
pub record CoversPage (e : Entry) (p : ℕ) : Type 0 where
  pub page : e.page ≡ p
  pub whole : length e.bytes ≡ 96

-- A page is dirty where a record names it, and due where no record covers it too.
abbrev pub IsDirty : State → (ℕ → Shown) → ℕ → Type 0
IsDirty s shows p = (e : Entry) × OfStore s shows e × NamesPage e p

abbrev pub IsDue : State → (ℕ → Shown) → ℕ → Type 0
IsDue s shows p = IsDirty s shows p × ((e : Entry) → OfStore s shows e → CoversPage e p → ⊥)

-- The pages that a truncation writes home are the dirty ones, and those that it writes records of are the due ones,
-- each once and in ascending order.
abbrev pub PagesByRule : Type 0
PagesByRule =
    (s : State) (shows : ℕ → Shown)
    → IsStrictlyIncreasing (dirty_pages s shows) × IsStrictlyIncreasing (due_pages s shows)
    × ((p : ℕ) → (Among p (dirty_pages s shows)) ↔ (IsDirty s shows p))
    × ((p : ℕ) → (Among p (due_pages s shows)) ↔ (IsDue s shows p))
