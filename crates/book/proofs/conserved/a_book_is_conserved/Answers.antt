use Rattle.book.proofs.Conserving.{conserving}
use Rattle.book.proofs.conserved.a_book_is_conserved.Goals as goal

pub returns : goal.returns
returns c = conserving
