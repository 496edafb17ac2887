-- A run has bytes, and so a piece.
use Rattle.image.proofs.Cutting.{runs_none}
use Rattle.image.proofs.no_pieces_of_no_runs.Goals as goal

pub returns : goal.returns
returns c = runs_none
