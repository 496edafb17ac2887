-- What a plan puts into the memory, and what the plan of a change is.
use Rattle.std.specs.Prelude.{◌≡◌, ℕ, ◌^◌, ◌≤◌, true, false, List, [], ◌∷◌, Some, None, Ok, Err, Option, Result}
use Rattle.record.specs.Fields.{digits}
use Rattle.book.specs.declared.records.Entry.{Entry}
use Rattle.book.specs.declared.fault.LedgerFault.{LedgerFault}
use Rattle.book.specs.Layout.{balance_at, head_at, cell_at, cell, whole}
use Rattle.book.specs.Book.{Book, Holds}
use Rattle.book.specs.Rows.{Row, first_fit, same, nothing, short, no_cell}
use Rattle.book.specs.Edits.{Edit, edit}
use Rattle.plans.specs.declared.plan.Relink.{Relink}
use Rattle.plans.specs.declared.plan.Plan.{Plan}
use Rattle.plans.specs.declared.plan.Plan.TheVariants.{Issue, Payment, Relink as Relinks}

-- The index, the cell and the head of the free chain.
abbrev pub relinking : Relink → List Edit
relinking x = edit x.link (digits 2 x.to) ∷ edit (cell_at x.number) (whole x.next (cell x.number x.kind x.content)) ∷ edit (head_at 0) (digits 2 x.free) ∷ []

-- What a plan puts into the memory, in this order.
abbrev pub edits_of : Plan → List Edit
edits_of (Issue i) = edit 0 (digits 8 i.total) ∷ edit (balance_at i.account) (digits 8 i.balance) ∷ []
edits_of (Payment p) = edit (balance_at p.payer) (digits 8 p.left) ∷ edit (balance_at p.payee) (digits 8 p.grown) ∷ relinking p.entry
edits_of (Relinks x) = relinking x

-- A test is passed, or refuses.
abbrev pub Passes : {A : Type 0} → Row → Result A LedgerFault → Type 0
Passes row (Ok _) = row.0 ≡ false
Passes row (Err f) = (row.0 ≡ true) × (f ≡ row.1)

-- The first row that fits refuses; where none does, the plan is these edits.
abbrev pub Planned : List Row → List Edit → Result Plan LedgerFault → Type 0
Planned rows edits (Ok plan) = (first_fit rows ≡ None) × (edits_of plan ≡ edits)
Planned rows edits (Err f) = first_fit rows ≡ Some f

-- And where the answer is a number, it is this one of any book that the memory holds.
abbrev pub Told : List Row → (ℕ → ℕ) → (Book → ℕ) → Result ℕ LedgerFault → Type 0
Told rows memory number (Ok x) = (first_fit rows ≡ None) × ((b : Book) → Holds memory b → x ≡ number b)
Told rows memory number (Err f) = first_fit rows ≡ Some f

-- A balance becomes this, or does not fit its field.
abbrev pub Grown : ℕ → Result ℕ LedgerFault → Type 0
Grown n (Ok x) = x ≡ n
Grown n (Err f) = 2 ^ 64 ≤ n

-- The rows of a payment between two that are accounts.
abbrev pub pay_rows : Book → ℕ → ℕ → ℕ → List Row
pay_rows b payer payee amount = same payer payee ∷ nothing payer amount ∷ short b payer amount ∷ no_cell b payer ∷ []

-- The plan of a collection, and the entry that it takes off.
abbrev pub Collected : List Row → List Edit → Option Entry → Result (Plan × Entry) LedgerFault → Type 0
Collected rows edits front (Ok (plan, entry)) = (first_fit rows ≡ None) × (edits_of plan ≡ edits) × (front ≡ Some entry)
Collected rows edits front (Err f) = first_fit rows ≡ Some f
