-- Where everything stands in the memory of a ledger, and chains of cells in it.
use Rattle.std.specs.Prelude.{◌≡◌, ℕ, zero, suc, ◌+◌, ◌-◌, ◌*◌, ◌<◌, ◌≤◌, cond, ◌⊎◌, List, [], ◌∷◌, ◌++◌, length, nat_le, slice_index}
use Rattle.record.specs.Fields.{digits}

-- The memory byte by byte.
abbrev pub byte_in : List ℕ → ℕ → ℕ
byte_in memory i = slice_index memory i

-- These bytes stand in the memory from a on.
abbrev pub Stands : (ℕ → ℕ) → ℕ → List ℕ → Type 0
Stands f a bytes = (i : ℕ) → i < length bytes → f (a + i) ≡ slice_index bytes i

-- The total stands at the front, in 8 bytes. Account a, from 1 to 64, has its balance in 8 bytes here.
abbrev pub balance_at : ℕ → ℕ
balance_at a = 16 * a

-- The sum of the balances of accounts 1 to n.
unfoldable pub sum_to : ℕ → (ℕ → ℕ) → ℕ
sum_to zero balances = 0
sum_to (suc n) balances = sum_to n balances + balances (suc n)

-- Chains by number: 0 is the free one, 1 to 64 have the entries of those accounts, 65 to 80 are the 16 buckets.
-- Each has its head, an index in 2 bytes, here.
abbrev pub head_at : ℕ → ℕ
head_at c = cond (nat_le c 64) (16 * c + 8) (1040 + 2 * (c - 65))

abbrev pub bucket_chain : ℕ → ℕ
bucket_chain k = 65 + k

-- Cell n, from 1 to 200, has its 24 bytes here: the index of the next one in 2 bytes, its kind, a zero, its content.
abbrev pub cell_at : ℕ → ℕ
cell_at n = 1048 + 24 * n

-- A cell by its number, with its kind and its content.
pub record Cell : Type 0 where
  pub number : ℕ
  pub kind : ℕ
  pub content : List ℕ

abbrev pub cell : ℕ → ℕ → List ℕ → Cell
cell n kind content = record { number = n; kind = kind; content = content }

-- What stands in a cell after the index of the next one, and all of the cell.
abbrev pub held : Cell → List ℕ
held c = c.kind ∷ 0 ∷ c.content

abbrev pub whole : ℕ → Cell → List ℕ
whole next c = digits 2 next ++ held c

-- A cell's number.
abbrev pub InCells : ℕ → Type 0
InCells n = (1 ≤ n) × (n ≤ 200)

-- The index that leads to these cells: the first one's number, or 0 where there is none.
abbrev pub first_of : List Cell → ℕ
first_of [] = 0
first_of (c ∷ cs) = c.number

-- From the index at a on, these cells follow one another, and then there is none.
abbrev pub Chain : (ℕ → ℕ) → ℕ → List Cell → Type 0
Chain f a [] = Stands f a (digits 2 0)
Chain f a (c ∷ cs) = Stands f a (digits 2 c.number) × InCells c.number × Stands f (cell_at c.number + 2) (held c) × Chain f (cell_at c.number) cs

-- The cell with this number is one of these.
abbrev pub Lies : ℕ → List Cell → Type 0
Lies n [] = ⊥
Lies n (c ∷ cs) = (c.number ≡ n) ⊎ Lies n cs
