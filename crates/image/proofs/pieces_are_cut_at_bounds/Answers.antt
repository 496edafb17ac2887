-- The pieces of runs are those that the rule asks for.
use Rattle.image.proofs.Bounds.{runs_cut}
use Rattle.image.proofs.pieces_are_cut_at_bounds.Goals as goal

pub returns : goal.returns
returns c = runs_cut
