-- No run is being cut up.
use Rattle.std.proofs.Common.{sym, subst, arith}
use Rattle.image.specs.Cut.{cut_runs, AllPieces}
use Rattle.image.proofs.Cutting.{cut_up, runs_fit}
use Rattle.image.proofs.runs.Pieces.of.Goals as goal

pub invariant_of-result : goal.invariant_of-result
invariant_of-result c =
    let rs = c.args.runs.now in
    record {
      inside = omega arith;
      apart = ∣ c.requires.apart ∣₁;
      all_inside = ∣ c.requires.inside ∣₁;
      fit = ∣ subst AllPieces (sym (cut_up 0 0 (cut_runs rs) (omega arith))) (runs_fit rs c.requires.inside) ∣₁;
    }

pub returns : goal.returns
returns c = cut_up 0 0 (cut_runs c.args.runs.now) (omega arith)
