-- What is written where a cell changes its chain.
use Rattle.std.specs.Prelude.{ℕ, List, [], ◌∷◌}
use Rattle.record.specs.Fields.{digits}
use Rattle.book.specs.Layout.{head_at, cell_at, cell, whole}
use Rattle.book.specs.Book.{free_cell}
use Rattle.book.specs.Edits.{Edit, edit}

-- Free cell n, before which there is none and after which comes `next`, goes before the cell to which the index at
-- `head` leads.
abbrev pub putting : ℕ → ℕ → ℕ → ℕ → ℕ → List ℕ → List Edit
putting head first n next kind content =
    edit head (digits 2 n) ∷ edit (cell_at n) (whole first (cell n kind content)) ∷ edit (head_at 0) (digits 2 next) ∷ []

-- Cell n, to which the index at `link` leads and after which comes `next`, becomes the free cell before `front`.
abbrev pub taking : ℕ → ℕ → ℕ → ℕ → List Edit
taking link n next front = edit link (digits 2 next) ∷ edit (cell_at n) (whole front (free_cell n)) ∷ edit (head_at 0) (digits 2 n) ∷ []
