-- The run is cut up, so what is left is of those after it.
use Rattle.std.proofs.Common.{sym, ap, ◌∙◌, subst}
use Rattle.image.specs.Runs.{Apart, Inside}
use Rattle.image.specs.Cut.{cut_runs}
use Rattle.image.proofs.Facts.{apart_out, inside_out}
use Rattle.image.proofs.Cutting.{cut_up}
use Rattle.image.proofs.runs.Pieces.go_on.Goals as goal

pub returns-in-None-clause-some : goal.returns-in-None-clause-some
returns-in-None-clause-some c =
    let p = c.args.self.now in cut_up p.from p.to (cut_runs p.runs.now) c.if-self.false ∙ ap cut_runs c.in-None.ensures

pub from_run-requires-clause-apart : goal.from_run-requires-clause-apart
from_run-requires-clause-apart c = let p = c.args.self.now in subst (Apart 0) c.in-Some.ensures (apart_out 0 p.runs.now p.apart)

pub from_run-requires-clause-inside : goal.from_run-requires-clause-inside
from_run-requires-clause-inside c = let p = c.args.self.now in subst Inside c.in-Some.ensures (inside_out p.runs.now p.all_inside)

pub returns-in-Some-clause-same : goal.returns-in-Some-clause-same
returns-in-Some-clause-same c =
    let p = c.args.self.now in
    c.from_run.ensures.same ∙ sym (cut_up p.from p.to (cut_runs p.runs.now) c.if-self.false ∙ ap cut_runs c.in-Some.ensures)
