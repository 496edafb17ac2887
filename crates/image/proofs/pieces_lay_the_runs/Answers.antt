-- Piece by piece.
use Rattle.image.proofs.Cutting.{runs_lay}
use Rattle.image.proofs.pieces_lay_the_runs.Goals as goal

pub returns : goal.returns
returns c = runs_lay
