-- Small examples, which show that the definitions say what they should.
use Rattle.std.proofs.Common.{◌≡◌, [], ◌∷◌, Some, refl}
use Rattle.book.specs.Records.{bucket_of}
use Rattle.book.specs.Book.{new_book}
use Rattle.book.specs.Rows.{first_fit, issue_rows, move_rows}
use Rattle.book.specs.declared.fault.LedgerFault.TheVariants.{Account, Short}

-- bytes 1 to 8 belong to bucket 4
bucket_4 : bucket_of (1 ∷ 2 ∷ 3 ∷ 4 ∷ 5 ∷ 6 ∷ 7 ∷ 8 ∷ []) ≡ 4
bucket_4 = refl

account_0 : first_fit (issue_rows new_book 0 5) ≡ Some (Account 0)
account_0 = refl

short_of_5 : first_fit (move_rows new_book 1 2 5) ≡ Some (Short 0)
short_of_5 = refl
