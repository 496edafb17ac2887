-- The runs are those in use.
use Rattle.std.proofs.Common.{subst, sym}
use Rattle.image.specs.Runs.{Apart, Inside}
use Rattle.image.specs.Calls.{listed}
use Rattle.image.proofs.Facts.{apart_out, inside_out}
use Rattle.image.proofs.runs.Runs.pieces.Goals as goal

pub of-requires-clause-apart : goal.of-requires-clause-apart
of-requires-clause-apart c = let s = c.args.self.now in subst (Apart 0) (sym c.deref.ensures.0) (apart_out 0 (listed s) s.apart)

pub of-requires-clause-inside : goal.of-requires-clause-inside
of-requires-clause-inside c = let s = c.args.self.now in subst Inside (sym c.deref.ensures.0) (inside_out (listed s) s.inside)
