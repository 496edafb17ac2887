-- What a transaction applies, and the records that carry it.
use Rattle.std.specs.Prelude.{◌≡◌, ℕ, ◌+◌, cond, ◌≢◌, List, [], ◌∷◌, ◌++◌, length, slice_index}
use Rattle.durability.specs.Items.{Item}
use Rattle.image.specs.declared.run.Run.{Run}
use Rattle.image.specs.Cut.{cut_runs}
use Rattle.image.specs.Runs.{is_declared, Apart, Inside}
use Rattle.transactions.specs.Parts.{parts}

-- A transaction that was entered: the bytes that it declared, and the memory at its commit.
pub record Transaction : Type 0 where
  pub runs : List Run
  pub memory : List ℕ

-- It applies its declared bytes as memory held them at commit: byte i, if it was v before.
abbrev pub changed : Transaction → ℕ → ℕ → ℕ
changed t i v = cond (is_declared t.runs i) (slice_index t.memory i) v

-- Byte i once these transactions are applied in their order, if it was v before.
abbrev pub applied_all : List Transaction → ℕ → ℕ → ℕ
applied_all [] i v = v
applied_all (t ∷ ts) i v = applied_all ts i (changed t i v)

-- The memory that transactions make of zeros.
abbrev pub made_of : List Transaction → ℕ → ℕ
made_of ts i = applied_all ts i 0

-- The records of a transaction with this ordinal, and of transactions that follow ordinal o.
abbrev pub records_of : ℕ → Transaction → List Item
records_of o t = parts o t.memory (cut_runs t.runs)

abbrev pub batch : ℕ → List Transaction → List Item
batch o [] = []
batch o (t ∷ ts) = records_of (o + 1) t ++ batch (o + 1) ts

-- A transaction as a store can enter it: something is declared, in runs that lie apart inside the memory.
pub record Proper (t : Transaction) : Type 0 where
  pub some : t.runs ≢ []
  pub apart : Apart 0 t.runs
  pub inside : Inside t.runs
  pub whole : length t.memory ≡ 6144

abbrev pub AllProper : List Transaction → Type 0
AllProper [] = Unit {0}
AllProper (t ∷ ts) = Proper t × AllProper ts
