-- What records say of the pages of the memory, and the page table that keeps it.
use Rattle.std.specs.Prelude.{◌≡◌, ℕ, zero, suc, ◌+◌, ◌<◌, Bool, true, false, cond, length, ◌==◌, nat_le, nat_lt}
use Rattle.std.specs.Int.{bit_at}
use Rattle.record.specs.Entry.{Entry}
use Rattle.journal.specs.declared.pages.PageTable.{PageTable}

-- The record is a part or a page record of page p; it has all the bytes of page p.
abbrev pub names : Entry → ℕ → Bool
names e p = cond (e.page == p) (cond (nat_le 1 e.kind) (nat_lt e.kind 4) false) false

abbrev pub covers : Entry → ℕ → Bool
covers e p = cond (e.page == p) (length e.bytes == 96) false

-- One of k records of a log, from serial low on, says so of page p.
unfoldable pub in_log : (Entry → ℕ → Bool) → (ℕ → Entry) → ℕ → ℕ → ℕ → Bool
in_log says log low zero p = false
in_log says log low (suc k) p = cond (says (log (low + k)) p) true (in_log says log low k p)

-- The table says that page p is named, or covered.
abbrev pub named_in : PageTable → ℕ → Bool
named_in table p = bit_at table.named p == 1

abbrev pub covered_in : PageTable → ℕ → Bool
covered_in table p = bit_at table.covered p == 1

-- Nothing is said of any page.
abbrev pub unsaid : PageTable
unsaid = record { named = 0; covered = 0 }

-- Two tests agree on the 64 pages.
abbrev pub Agree : (ℕ → Bool) → (ℕ → Bool) → Type 0
Agree test test' = (p : ℕ) → p < 64 → test p ≡ test' p

-- The page was noted as named, and as covered if whole; the others are as they were.
pub record Told (page : ℕ) (whole : Bool) (before after : PageTable) : Type 0 where
  pub named : Agree (named_in after) (λ p. cond (page == p) true (named_in before p))
  pub covered : Agree (covered_in after) (λ p. cond (cond (page == p) whole false) true (covered_in before p))

-- What this record says was noted.
pub record Noted (e : Entry) (before after : PageTable) : Type 0 where
  pub named : Agree (named_in after) (λ p. cond (names e p) true (named_in before p))
  pub covered : Agree (covered_in after) (λ p. cond (covers e p) true (covered_in before p))

-- What k records of a log say, from serial low on, was noted.
pub record NotedFrom (log : ℕ → Entry) (low k : ℕ) (before after : PageTable) : Type 0 where
  pub named : Agree (named_in after) (λ p. cond (in_log names log low k p) true (named_in before p))
  pub covered : Agree (covered_in after) (λ p. cond (in_log covers log low k p) true (covered_in before p))

-- The table says what k records of a log say, from serial low on, and nothing else.
pub record Tabled (log : ℕ → Entry) (low k : ℕ) (table : PageTable) : Type 0 where
  pub named : Agree (named_in table) (in_log names log low k)
  pub covered : Agree (covered_in table) (in_log covers log low k)
