-- In which order the tests of a call come: that of the numbers of their refusals.
use Rattle.std.specs.Prelude.{◌≡◌, ℕ, ◌<◌, Bool, true, ◌&&◌, List, [], ◌∷◌, ◌++◌, nat_lt}
use Rattle.image.specs.declared.run.ImageFault.{ImageFault}
use Rattle.transactions.specs.declared.state.State.{State}
use Rattle.transactions.specs.Fault.{number, from_image}
use Rattle.transactions.specs.Rows.{Row, off, token_rows, commit_rows, begin_rows}
use Rattle.transactions.specs.Truncation.{truncate_rows}

-- The refusals of these rows have ascending numbers, all above this one.
abbrev pub ascends : ℕ → List Row → Bool
ascends above [] = true
ascends above (row ∷ rows) = nat_lt above row.number && ascends row.number rows

-- Each call tests its rows in ascending number. What the memory refuses, it refuses after all rows of a call that is
-- shown a token, and of one that only reads.
pub record RowsAscend : Type 0 where
  pub read : (s : State) → ascends 0 (off s ∷ []) ≡ true
  pub begin : (s : State) → ascends 0 (begin_rows s) ≡ true
  pub token : (s : State) (shown : ℕ) → ascends 0 (token_rows s shown) ≡ true
  pub memory : (f : ImageFault) → 10 < number (from_image f)
  pub commit : (s : State) (shown k : ℕ) (flush : Bool) → ascends 0 (token_rows s shown ++ commit_rows s k flush) ≡ true
  pub truncate : (s : State) (due : ℕ) → ascends 0 (truncate_rows s due) ≡ true
