-- What a ledger conserves, said of the bytes of its memory alone. Numbers have their lowest byte first.
use Rattle.std.specs.Prelude.{◌≡◌, ℕ, zero, suc, ◌+◌, ◌*◌, ◌<◌, ◌≤◌, ◌⊎◌, List, sum}
use Rattle.record.specs.Fields.{field}
use Rattle.book.specs.Layout.{sum_to, InCells}

-- The 81 chains, by the places of their heads: of the free cells, of the entries of each account from 1 to 64, and of
-- the tags of each of the 16 buckets.
abbrev pub IsHead : ℕ → Type 0
IsHead h = (h ≡ 8) ⊎ ((a : ℕ) × (1 ≤ a) × (a ≤ 64) × (h ≡ 16 * a + 8)) ⊎ ((k : ℕ) × (k < 16) × (h ≡ 1040 + 2 * k))

-- The index in the 2 bytes from `link` on leads to n, once k cells are followed from it, each by the index at its front.
abbrev pub LeadsTo : List ℕ → ℕ → ℕ → ℕ → Type 0
LeadsTo memory link zero n = field link 2 memory ≡ n
LeadsTo memory link (suc k) n =
    InCells (field link 2 memory) × LeadsTo memory (1048 + 24 * field link 2 memory) k n

-- Cell n is met on just one of the chains, and there once: behind so many cells.
pub record MetOnce (memory : List ℕ) (n : ℕ) : Type 0 where
  pub head : ℕ
  pub is_head : IsHead head
  pub behind : ℕ
  pub met : LeadsTo memory head behind n
  pub once : (h k : ℕ) → IsHead h → LeadsTo memory h k n → (h ≡ head) × (k ≡ behind)

-- Each chain ends: behind so many cells it leads to none.
abbrev pub Ends : List ℕ → ℕ → Type 0
Ends memory h = (k : ℕ) × LeadsTo memory h k 0

-- The balances of the 64 accounts sum to these amounts that were issued, as the total says, and each of the 200 cells
-- is met on one chain, once.
pub record Conserved (memory issued : List ℕ) : Type 0 where
  pub total : field 0 8 memory ≡ sum issued
  pub balances : sum_to 64 (λ a. field (16 * a) 8 memory) ≡ sum issued
  pub cells : (n : ℕ) → InCells n → MetOnce memory n
  pub ends : (h : ℕ) → IsHead h → Ends memory h
