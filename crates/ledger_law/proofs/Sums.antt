-- Each change takes each book to the next one, whose total is larger by what the change issues.
use Rattle.std.proofs.Common.{◌≡◌, ℕ, ◌+◌, List, length, Some, None, Option, refl, ◌∙◌, arith}
use Rattle.book.specs.Book.{Book}
use Rattle.book.specs.Edits.{paid}
use Rattle.book.proofs.Changes.{issue_holds, move_holds, visit_holds, enrol_holds}
use Rattle.book.proofs.Unlinking.{drop_holds, collect_holds}
use Rattle.ledger.specs.Calls.{Change, issuing, moving, visiting, enrolling, dropping, collecting}
use Rattle.ledger.proofs.Booking.{Lawful}

pub record Sums (c : Change) (amount : ℕ) : Type 0 where
  pub lawful : Lawful c
  pub total : (b : Book) → (c.after b).issued ≡ b.issued + amount

paid_issued : (payer : Option ℕ) (guard : ℕ) (b : Book) → (paid payer guard b).issued ≡ b.issued
paid_issued None guard b = refl
paid_issued (Some payer) guard b = refl

pub issuing_sums : (a amount : ℕ) → Sums (issuing a amount) amount
issuing_sums a amount = record { lawful = λ f b. issue_holds f b a amount; total = λ b. refl }

pub moving_sums : (payer payee amount : ℕ) → Sums (moving payer payee amount) 0
moving_sums payer payee amount = record { lawful = λ f b. move_holds f b payer payee amount; total = λ b. omega arith }

pub visiting_sums : (id : List ℕ) (guard : ℕ) → Sums (visiting id guard) 0
visiting_sums id guard = record { lawful = λ f b. visit_holds f b id guard; total = λ b. paid_issued _ guard b ∙ omega arith }

pub enrolling_sums : (id : List ℕ) (a : ℕ) → length id ≡ 8 → Sums (enrolling id a) 0
enrolling_sums id a eight = record { lawful = λ f b. enrol_holds f b id a eight; total = λ b. omega arith }

pub dropping_sums : (id : List ℕ) → Sums (dropping id) 0
dropping_sums id = record { lawful = λ f b. drop_holds f b id; total = λ b. omega arith }

pub collecting_sums : (a : ℕ) → Sums (collecting a) 0
collecting_sums a = record { lawful = λ f b. collect_holds f b a; total = λ b. omega arith }
