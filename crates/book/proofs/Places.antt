-- Where things stand in the memory, and that no two have a byte in common.
use Rattle.std.proofs.Common.{◌≡◌, ℕ, ◌+◌, ◌-◌, ◌*◌, ◌<◌, ◌≤◌, ◌≢◌, cond, ◌⊎◌, ap, inl, inr, ⊎_elim, arith}
use Rattle.std.proofs.lemmas.Bool.{cases_lt, le-leb, lt-leb}
use Rattle.book.specs.Layout.{balance_at, head_at, cell_at, InCells}
use Rattle.book.specs.Book.{IsAccount}

-- The n bytes from a on, and the m bytes from b on, have none in common.
abbrev pub Apart : ℕ → ℕ → ℕ → ℕ → Type 0
Apart a n b m = (a + n ≤ b) ⊎ (b + m ≤ a)

pub head_low : (c : ℕ) → c ≤ 64 → head_at c ≡ 16 * c + 8
head_low c h = ap (λ t. cond t (16 * c + 8) (1040 + 2 * (c - 65))) (le-leb c 64 h)

pub head_high : (c : ℕ) → 65 ≤ c → head_at c ≡ 1040 + 2 * (c - 65)
head_high c h = ap (λ t. cond t (16 * c + 8) (1040 + 2 * (c - 65))) (lt-leb c 64 (omega arith))

pub head_cases : (c : ℕ) → ((c ≤ 64) × (head_at c ≡ 16 * c + 8)) ⊎ ((65 ≤ c) × (head_at c ≡ 1040 + 2 * (c - 65)))
head_cases c =
    ⊎_elim
    (λ (h : c < 65). inl (omega arith, head_low c (omega arith)))
    (λ (h : 65 ≤ c). inr (h, head_high c h))
    (cases_lt c 65)

-- the heads lie between the total and the cells
pub head_within : (c : ℕ) → c < 81 → (8 ≤ head_at c) × (head_at c + 2 ≤ 1072)
head_within c h =
    elim (head_cases c) [
      | inl (l, e) ↦ (omega arith, omega arith)
      | inr (l, e) ↦ (omega arith, omega arith)
    ]

-- two numbers that differ
apart_ways : (x y : ℕ) → x ≢ y → (x < y) ⊎ (y < x)
apart_ways x y ne = ⊎_elim (λ (h : x < y). inl h) (λ (h : y ≤ x). inr (omega arith)) (cases_lt x y)

pub heads_apart : (c d : ℕ) → c ≢ d → Apart (head_at c) 2 (head_at d) 2
heads_apart c d ne =
    elim (head_cases c) [
      | inl (l, e) ↦
          elim (head_cases d) [
            | inl (m, k) ↦ ⊎_elim (λ (h : c < d). inl (omega arith)) (λ (h : d < c). inr (omega arith)) (apart_ways c d ne)
            | inr (m, k) ↦ inl (omega arith)
          ]
      | inr (l, e) ↦
          elim (head_cases d) [
            | inl (m, k) ↦ inr (omega arith)
            | inr (m, k) ↦ ⊎_elim (λ (h : c < d). inl (omega arith)) (λ (h : d < c). inr (omega arith)) (apart_ways c d ne)
          ]
    ]

pub cells_apart : (m n : ℕ) → m ≢ n → Apart (cell_at m) 24 (cell_at n) 24
cells_apart m n ne = ⊎_elim (λ (h : m < n). inl (omega arith)) (λ (h : n < m). inr (omega arith)) (apart_ways m n ne)

pub head_cell : (c n : ℕ) → c < 81 → InCells n → head_at c + 2 ≤ cell_at n
head_cell c n h k = let w = head_within c h in omega arith

pub total_head : (c : ℕ) → c < 81 → 8 ≤ head_at c
total_head c h = let w = head_within c h in omega arith

pub balances_apart : (a b : ℕ) → a ≢ b → Apart (balance_at a) 8 (balance_at b) 8
balances_apart a b ne = ⊎_elim (λ (h : a < b). inl (omega arith)) (λ (h : b < a). inr (omega arith)) (apart_ways a b ne)

pub total_balance : (a : ℕ) → IsAccount a → 8 ≤ balance_at a
total_balance a h = omega arith

pub balance_cell : (a n : ℕ) → IsAccount a → InCells n → balance_at a + 16 ≤ cell_at n
balance_cell a n h k = omega arith

-- a balance and its zeros, with a head between
pub balance_head : (a c : ℕ) → IsAccount a → c < 81 → Apart (balance_at a) 8 (head_at c) 2
balance_head a c h l =
    elim (head_cases c) [
      | inl (m, e) ↦ ⊎_elim (λ (k : c < a). inr (omega arith)) (λ (k : a ≤ c). inl (omega arith)) (cases_lt c a)
      | inr (m, e) ↦ inl (omega arith)
    ]

pub zeros_head : (a c : ℕ) → a ≤ 64 → c < 81 → Apart (balance_at a + 10) 6 (head_at c) 2
zeros_head a c h l =
    elim (head_cases c) [
      | inl (m, e) ↦ ⊎_elim (λ (k : a < c). inl (omega arith)) (λ (k : c ≤ a). inr (omega arith)) (cases_lt a c)
      | inr (m, e) ↦ inl (omega arith)
    ]

pub zeros_balance : (a b : ℕ) → Apart (balance_at a + 10) 6 (balance_at b) 8
zeros_balance a b = ⊎_elim (λ (k : a < b). inl (omega arith)) (λ (k : b ≤ a). inr (omega arith)) (cases_lt a b)
