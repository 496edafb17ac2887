-- A piece is cut off, and those that are left fit their pages as they did.
use Rattle.std.proofs.Common.{length, sym, ap, ◌∙◌, subst, arith}
use mathlib.Core.Logic.{∥∥₁_map}
use Rattle.image.specs.Cut.{cut_runs, AllPieces}
use Rattle.image.proofs.Cutting.{cut_off}
use Rattle.image.proofs.runs.cutting.PiecesIterator.next.Goals as goal

pub invariant_of-self : goal.invariant_of-self
invariant_of-self c =
    let p = c.go_on.new.self in
    let cut = cut_off p.from p.to c.end_of-end.result (cut_runs p.runs.now) c.if-not-go_on.ensures.some p.inside c.end_of-end.ensures in
    record {
      inside = p.inside;
      apart = p.apart;
      all_inside = p.all_inside;
      fit = ∥∥₁_map p.fit (λ h. (subst AllPieces cut h).1);
    }

pub returns-clause-steps : goal.returns-clause-steps
returns-clause-steps c =
    let p = c.go_on.new.self in
    sym c.go_on.ensures.same ∙ cut_off p.from p.to c.end_of-end.result (cut_runs p.runs.now) c.if-not-go_on.ensures.some p.inside c.end_of-end.ensures

pub returns-clause-goes : goal.returns-clause-goes
returns-clause-goes c =
    let p = c.go_on.new.self in
    let cut = sym c.go_on.ensures.same ∙ cut_off p.from p.to c.end_of-end.result (cut_runs p.runs.now) c.if-not-go_on.ensures.some p.inside c.end_of-end.ensures in
    let less = ap length cut in
    record { on = λ _. (tt, tt, omega arith); keeps = tt; rests = λ _. tt }
