-- Which cells lie on which chain, by their numbers.
use Rattle.std.specs.Prelude.{◌≡◌, ℕ, ◌+◌, ◌-◌, ◌*◌, ◌<◌, Bool, true, false, ◌⊎◌, List, [], ◌∷◌, Some, None, Option, slice_index_or}
use Rattle.book.specs.declared.layout.Chain.{Chain}
use Rattle.book.specs.declared.layout.Chain.TheVariants.{Free, Account, Bucket}
use Rattle.book.specs.Layout.{head_at, bucket_chain, cell_at, InCells}
use Rattle.book.specs.Book.{Book, Chains, IsAccount}

-- The chain that has this number: after the free one come the accounts, each by its own, and then the buckets.
abbrev pub Numbered : ℕ → Chain → Type 0
Numbered c Free = c ≡ 0
Numbered c (Account a) = IsAccount a × (c ≡ a)
Numbered c (Bucket k) = c ≡ bucket_chain k

-- The index in the two bytes from a on.
abbrev pub index_at : (ℕ → ℕ) → ℕ → ℕ
index_at f a = f a + 256 * f (a + 1)

-- From cell n on these cells follow one another, and then there is none; where n is 0 there is none.
abbrev pub Walk : (ℕ → ℕ) → ℕ → List ℕ → Type 0
Walk f n [] = n ≡ 0
Walk f n (m ∷ ms) = (n ≡ m) × InCells m × Walk f (index_at f (cell_at m)) ms

-- The number is one of these.
abbrev pub Among : ℕ → List ℕ → Type 0
Among n [] = ⊥
Among n (m ∷ ms) = (m ≡ n) ⊎ Among n ms

-- The chain that a cell was met on, if it was.
abbrev pub owner : List (Option ℕ) → ℕ → Option ℕ
owner owners n = slice_index_or owners (n - 1) None

-- None of these was met.
abbrev pub Fresh : List (Option ℕ) → List ℕ → Type 0
Fresh owners ns = (n : ℕ) → Among n ns → owner owners n ≡ None

-- These, which had not been met, are met on chain c, and no others.
pub record Marked (before after : List (Option ℕ)) (c : ℕ) (ns : List ℕ) : Type 0 where
  pub fresh : Fresh before ns
  pub here : (n : ℕ) → Among n ns → owner after n ≡ Some c
  pub only : (n : ℕ) → InCells n → (Among n ns × (owner after n ≡ Some c)) ⊎ (owner after n ≡ owner before n)

-- A chain is followed to its end just where it meets only cells that had not been met.
pub record Followed (f : ℕ → ℕ) (before after : List (Option ℕ)) (c : ℕ) : Type 0 where
  pub cells : List ℕ
  pub walk : Walk f (index_at f (head_at c)) cells
  pub marked : Marked before after c cells

abbrev pub Follows : (ℕ → ℕ) → List (Option ℕ) → List (Option ℕ) → ℕ → Bool → Type 0
Follows f before after c true = Followed f before after c
Follows f before after c false = (ns : List ℕ) → Walk f (index_at f (head_at c)) ns → Fresh before ns → ⊥

-- The cells of a chain, each of which was met on it,
pub record Listed (f : ℕ → ℕ) (owners : List (Option ℕ)) (c : ℕ) : Type 0 where
  pub cells : List ℕ
  pub walk : Walk f (index_at f (head_at c)) cells
  pub here : (n : ℕ) → Among n cells → owner owners n ≡ Some c

-- and a cell that was met on a chain lies there.
pub record Met (f : ℕ → ℕ) (n c : ℕ) : Type 0 where
  pub cells : List ℕ
  pub walk : Walk f (index_at f (head_at c)) cells
  pub among : Among n cells

-- The cells of the chains below number k, each with its one owner.
pub record Owned (f : ℕ → ℕ) (owners : List (Option ℕ)) (k : ℕ) : Type 0 where
  pub listed : (c : ℕ) → c < k → Listed f owners c
  pub met : (n c : ℕ) → InCells n → owner owners n ≡ Some c → (c < k) × Met f n c

-- Owners are found just where no cell is on two chains, and each chain ends.
abbrev pub Finds : (ℕ → ℕ) → Option (List (Option ℕ)) → Type 0
Finds f (Some owners) = Owned f owners 81
Finds f None = (b : Book) → Chains f b → ⊥
