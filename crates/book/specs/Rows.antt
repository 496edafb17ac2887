-- The tests of each call on the book, in their order: the first that fits answers.
use Rattle.std.specs.Prelude.{ℕ, ◌+◌, ◌-◌, ◌^◌, Bool, true, false, cond, not, ◌&&◌, List, [], ◌∷◌, Some, None, Option, ◌==◌, nat_le, nat_lt, bytes_eq}
use Rattle.book.specs.declared.fault.LedgerFault.{LedgerFault}
use Rattle.book.specs.declared.fault.LedgerFault.TheVariants.{Account, Unknown, Present, Same, Nothing, Short, Total, NoCell, NoEntry}
use Rattle.book.specs.declared.records.Tag.{Tag}
use Rattle.book.specs.Records.{bucket_of}
use Rattle.book.specs.Book.{Book, At}

-- A test, and the refusal where it fits.
abbrev pub Row : Type 0
Row = Bool × LedgerFault

abbrev pub first_fit : List Row → Option LedgerFault
first_fit [] = None
first_fit (row ∷ rows) = cond row.0 (Some row.1) (first_fit rows)

-- The account that a tag among these has, if it is there.
abbrev pub account_in : List ℕ → List (At Tag) → Option ℕ
account_in id [] = None
account_in id (x ∷ xs) = cond (bytes_eq x.item.id id) (Some x.item.account) (account_in id xs)

-- And in the book: a tag is looked for in its bucket.
abbrev pub account_of : Book → List ℕ → Option ℕ
account_of b id = account_in id (b.tags (bucket_of id))

abbrev pub is_account : ℕ → Bool
is_account a = nat_le 1 a && nat_le a 64

abbrev pub is_empty : {X : Type 0} → List X → Bool
is_empty [] = true
is_empty (x ∷ xs) = false

abbrev pub no_account : ℕ → Row
no_account a = (not (is_account a), Account a)

abbrev pub same : ℕ → ℕ → Row
same payer payee = (payer == payee, Same payer)

abbrev pub nothing : ℕ → ℕ → Row
nothing a amount = (amount == 0, Nothing a)

abbrev pub short : Book → ℕ → ℕ → Row
short b payer amount = (nat_lt (b.balances payer) amount, Short (b.balances payer))

abbrev pub no_cell : Book → ℕ → Row
no_cell b a = (is_empty b.free, NoCell a)

abbrev pub too_much : Book → ℕ → Row
too_much b amount = (nat_lt (2 ^ 63 - 1) (b.issued + amount), Total b.issued)

abbrev pub no_entry : Book → ℕ → Row
no_entry b a = (is_empty (b.entries a), NoEntry a)

-- A tag that is not there, and one that is.
abbrev pub unknown : Option ℕ → List ℕ → Row
unknown (Some a) id = (false, Unknown (bucket_of id))
unknown None id = (true, Unknown (bucket_of id))

abbrev pub present : Option ℕ → Row
present (Some a) = (true, Present a)
present None = (false, Present 0)

abbrev pub issue_rows : Book → ℕ → ℕ → List Row
issue_rows b a amount = no_account a ∷ nothing a amount ∷ too_much b amount ∷ []

abbrev pub move_rows : Book → ℕ → ℕ → ℕ → List Row
move_rows b payer payee amount =
    no_account payer ∷ no_account payee ∷ same payer payee ∷ nothing payer amount ∷ short b payer amount ∷ no_cell b payer ∷ []

-- The tag's account pays the guard's 1.
abbrev pub paying_rows : Book → Option ℕ → List ℕ → ℕ → List Row
paying_rows b None id guard = unknown None id ∷ []
paying_rows b (Some payer) id guard = same payer guard ∷ short b payer 1 ∷ no_cell b payer ∷ []

abbrev pub visit_rows : Book → List ℕ → ℕ → List Row
visit_rows b id guard = no_account guard ∷ paying_rows b (account_of b id) id guard

abbrev pub enrol_rows : Book → List ℕ → ℕ → List Row
enrol_rows b id a = no_account a ∷ present (account_of b id) ∷ no_cell b a ∷ []

abbrev pub drop_rows : Book → List ℕ → List Row
drop_rows b id = unknown (account_of b id) id ∷ []

abbrev pub collect_rows : Book → ℕ → List Row
collect_rows b a = no_account a ∷ no_entry b a ∷ []

abbrev pub balance_rows : ℕ → List Row
balance_rows a = no_account a ∷ []
