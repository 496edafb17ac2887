-- The runs lie apart, so they share few pages.
use Rattle.image.proofs.Cutting.{runs_few}
use Rattle.image.proofs.pieces_are_few.Goals as goal

pub returns : goal.returns
returns c = runs_few
