-- Sets of pages, and what the page table of a store says.
use Rattle.std.specs.Prelude.{◌≡◌, ℕ, ◌+◌, ◌<◌, ◌≤◌, true, false, cond, not, List, ◌==◌}
use Rattle.std.specs.Int.{bit_at}
use Rattle.arrayvec.specs.ArrayVec.{array_vec_len}
use Rattle.device.specs.Disk.{Disk, Shown}
use Rattle.journal.specs.declared.pages.PageTable.{PageTable}
use Rattle.journal.specs.Pages.{names, covers, named_in, covered_in, Agree}
use Rattle.durability.specs.Items.{Item, Appendable}
use Rattle.transactions.specs.declared.state.State.{State}
use Rattle.transactions.specs.State.{live, spooled}
use Rattle.transactions.specs.Truncation.{in_items, said_of, chosen}

-- The pages of a set, one bit for each, the lowest first.
abbrev pub members : ℕ → List ℕ
members bits = chosen (λ p. bit_at bits p == 1) 0 64

-- The pages that a table has as named and not as covered.
abbrev pub due_of : PageTable → List ℕ
due_of table = chosen (λ p. cond (named_in table p) (not (covered_in table p)) false) 0 64

-- The table has what these records say, beside what it had.
pub record Gains (xs : List Item) (before after : PageTable) : Type 0 where
  pub named : Agree (named_in after) (λ p. cond (named_in before p) true (in_items names xs p))
  pub covered : Agree (covered_in after) (λ p. cond (covered_in before p) true (in_items covers xs p))

-- The table of a store says of each page what its live log and its spool say.
pub record Tabulates (s : State) (shows : ℕ → Shown) : Type 0 where
  pub named : Agree (named_in s.pages) (said_of names s shows)
  pub covered : Agree (covered_in s.pages) (said_of covers s shows)

-- What waits fits in the log, and will be read there as it was written.
pub record Writable (s : State) : Type 0 where
  pub begun : 1 ≤ s.log.low
  pub from : s.log.low ≤ s.log.last
  pub room : live s + array_vec_len s.spool ≤ s.log.places
  pub number : s.log.ordinal < s.log.last + array_vec_len s.spool
  pub waits : ∥ Appendable s.log.last (spooled s) ∥₁

-- So it is while the store is on.
abbrev pub TableStands : State → Disk → Type 0
TableStands s d = s.on ≡ true → Writable s × Tabulates s d.shows
