-- It is computed.
use Rattle.std.proofs.Common.{refl}
use Rattle.image.specs.Cut.{cut}
use Rattle.image.proofs.run_over_a_bound.Goals as goal

pub returns : goal.returns
unfolding cut
returns c = (refl, refl, refl, refl, refl)
