-- The run's pieces fit their pages, and so do those of the runs after it.
use Rattle.std.proofs.Common.{◌+◌, ◌∷◌, arith}
use Rattle.image.proofs.Facts.{apart_lower}
use Rattle.image.proofs.Cutting.{runs_fit}
use Rattle.image.proofs.runs.Pieces.from_run.Goals as goal

pub invariant_of-result : goal.invariant_of-result
invariant_of-result c =
    let r = c.args.run in
    let rs = c.args.runs.now in
    record {
      inside = c.requires.inside.0;
      apart = ∣ apart_lower 0 (r.to + 1) rs (omega arith) c.requires.apart.2 ∣₁;
      all_inside = ∣ c.requires.inside.1 ∣₁;
      fit = ∣ runs_fit (r ∷ rs) c.requires.inside ∣₁;
    }
