-- The book that a memory holds: money, the free cells, the entries of each account and the tags of each bucket.
use Rattle.std.specs.Prelude.{◌≡◌, ℕ, zero, suc, ◌+◌, ◌-◌, ◌^◌, ◌<◌, ◌≤◌, ◌≢◌, cond, List, [], ◌∷◌, map, replicate, nat_le, ◌==◌}
use Rattle.record.specs.Fields.{digits}
use Rattle.book.specs.declared.records.Tag.{Tag}
use Rattle.book.specs.declared.records.Entry.{Entry}
use Rattle.book.specs.Records.{tag_kind, tag_content, TagFits, bucket_of, entry_kind, entry_content, EntryFits, blank_content}
use Rattle.book.specs.Layout.{Stands, balance_at, sum_to, head_at, Cell, cell, Chain, InCells, Lies}

-- A record and the number of the cell that it lies in.
pub record At (X : Type 0) : Type 0 where
  pub number : ℕ
  pub item : X

abbrev pub at : {X : Type 0} → ℕ → X → At X
at n x = record { number = n; item = x }

-- The book. The entries of an account, and the tags of a bucket, are in the order of their chain.
pub record Book : Type 0 where
  pub issued : ℕ
  pub balances : ℕ → ℕ
  pub free : List ℕ
  pub entries : ℕ → List (At Entry)
  pub tags : ℕ → List (At Tag)

abbrev pub free_cell : ℕ → Cell
free_cell n = cell n 0 blank_content

abbrev pub entry_cell : At Entry → Cell
entry_cell x = cell x.number entry_kind (entry_content x.item)

abbrev pub tag_cell : At Tag → Cell
tag_cell x = cell x.number tag_kind (tag_content x.item)

-- The cells of each chain, by the chain's number.
abbrev pub cells_of : Book → ℕ → List Cell
cells_of b c = cond (c == 0) (map free_cell b.free) (cond (nat_le c 64) (map entry_cell (b.entries c)) (map tag_cell (b.tags (c - 65))))

abbrev pub IsAccount : ℕ → Type 0
IsAccount a = (1 ≤ a) × (a ≤ 64)

-- What is issued is the sum of the balances, and the memory has the numbers, with zeros after them.
pub record Money (f : ℕ → ℕ) (b : Book) : Type 0 where
  pub issued : Stands f 0 (digits 8 b.issued)
  pub balance : (a : ℕ) → IsAccount a → Stands f (balance_at a) (digits 8 (b.balances a))
  pub bound : b.issued < 2 ^ 63
  pub sum : sum_to 64 b.balances ≡ b.issued

-- Each chain is in the memory, and each cell lies on just one chain.
pub record Chains (f : ℕ → ℕ) (b : Book) : Type 0 where
  pub chain : (c : ℕ) → c < 81 → Chain f (head_at c) (cells_of b c)
  pub some : (n : ℕ) → InCells n → (c : ℕ) × (c < 81) × Lies n (cells_of b c)
  pub one : (n c c' : ℕ) → c < 81 → c' < 81 → Lies n (cells_of b c) → Lies n (cells_of b c') → c ≡ c'

-- Entries name accounts.
abbrev pub GoodEntries : List (At Entry) → Type 0
GoodEntries [] = Unit {0}
GoodEntries (x ∷ xs) = EntryFits x.item × IsAccount x.item.payee × GoodEntries xs

-- The tag with these bytes is none of these.
abbrev pub NoTag : List ℕ → List (At Tag) → Type 0
NoTag id [] = Unit {0}
NoTag id (x ∷ xs) = (x.item.id ≢ id) × NoTag id xs

-- Tags are in their bucket, once each, and name accounts.
abbrev pub GoodTags : ℕ → List (At Tag) → Type 0
GoodTags k [] = Unit {0}
GoodTags k (x ∷ xs) = TagFits x.item × IsAccount x.item.account × (bucket_of x.item.id ≡ k) × NoTag x.item.id xs × GoodTags k xs

pub record Records (b : Book) : Type 0 where
  pub entries : (a : ℕ) → IsAccount a → GoodEntries (b.entries a)
  pub tags : (k : ℕ) → k < 16 → GoodTags k (b.tags k)

-- The bytes that nothing has a place in are zeros.
pub record Zeros (f : ℕ → ℕ) : Type 0 where
  pub front : Stands f 10 (replicate 6 0)
  pub accounts : (a : ℕ) → IsAccount a → Stands f (balance_at a + 10) (replicate 6 0)
  pub back : Stands f 5872 (replicate 272 0)

-- The memory holds this book: it is a ledger.
pub record Holds (f : ℕ → ℕ) (b : Book) : Type 0 where
  pub money : Money f b
  pub chains : Chains f b
  pub records : Records b
  pub zeros : Zeros f

-- The book of a new ledger: nothing is issued, and cells 1 to 200 are free, in their order.
unfoldable pub numbers_from : ℕ → ℕ → List ℕ
numbers_from i zero = []
numbers_from i (suc k) = i ∷ numbers_from (i + 1) k

abbrev pub new_book : Book
new_book = record { issued = 0; balances = λ _. 0; free = numbers_from 1 200; entries = λ _. []; tags = λ _. [] }
