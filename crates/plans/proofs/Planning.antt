-- Rows that pass, one after the other, and rows that refuse.
use Rattle.std.proofs.Common.{◌≡◌, ℕ, true, false, List, [], ◌∷◌, Some, refl, ◌∙◌}
use Rattle.book.specs.declared.fault.LedgerFault.{LedgerFault}
use Rattle.book.specs.Book.{Book}
use Rattle.book.specs.Rows.{Row, first_fit, same, nothing, short, no_cell}
use Rattle.plans.specs.Plans.{pay_rows}

-- a row that passes leaves it to those after it
pub passed : (row : Row) (rows : List Row) → row.0 ≡ false → first_fit (row ∷ rows) ≡ first_fit rows
passed row rows h = rw h refl

-- a row that fits answers
pub refuses : (row : Row) (rows : List Row) (f : LedgerFault) → (row.0 ≡ true) × (f ≡ row.1) → first_fit (row ∷ rows) ≡ Some f
refuses row rows f h = rw (h.0, h.1) refl

-- a payment that passes its first three tests
pub pay_to_cell : (b : Book) (payer payee amount : ℕ) → (same payer payee).0 ≡ false → (nothing payer amount).0 ≡ false → (short b payer amount).0 ≡ false
    → first_fit (pay_rows b payer payee amount) ≡ first_fit (no_cell b payer ∷ [])
pay_to_cell b payer payee amount h k l =
    passed (same payer payee) (nothing payer amount ∷ short b payer amount ∷ no_cell b payer ∷ []) h
    ∙ passed (nothing payer amount) (short b payer amount ∷ no_cell b payer ∷ []) k
    ∙ passed (short b payer amount) (no_cell b payer ∷ []) l
