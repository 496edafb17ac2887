-- Whether a memory is a ledger.
use Rattle.std.specs.Prelude.{ℕ, Bool, true, false}
use Rattle.book.specs.Book.{Book, Money, Chains, Records, Holds}

-- A memory is called a ledger just where it holds some book.
abbrev pub Judged : (ℕ → ℕ) → Bool → Type 0
Judged f true = (b : Book) × Holds f b
Judged f false = (b : Book) → Holds f b → ⊥

-- Its money adds up just where some book has it.
abbrev pub MoneyJudged : (ℕ → ℕ) → Bool → Type 0
MoneyJudged f true = (b : Book) × Money f b
MoneyJudged f false = (b : Book) → Money f b → ⊥

-- Its cells are kept just where some book has them.
abbrev pub CellsJudged : (ℕ → ℕ) → Bool → Type 0
CellsJudged f true = (b : Book) × Chains f b × Records b
CellsJudged f false = (b : Book) → Chains f b → Records b → ⊥
