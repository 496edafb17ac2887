-- Each piece of each run.
use Rattle.image.proofs.Cutting.{runs_fit}
use Rattle.image.proofs.pieces_fit_pages.Goals as goal

pub returns : goal.returns
returns c = runs_fit
