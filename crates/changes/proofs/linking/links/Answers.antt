-- Each turn links one cell more.
use Rattle.std.proofs.Common.{refl, arith}
use Rattle.changes.proofs.Cells.{linking_starts, linking_goes, linking_ends}
use Rattle.changes.proofs.linking.links.Goals as goal

pub loop-i-init : goal.loop-i-init
loop-i-init c = linking_starts _ refl

pub loop-i-preserved : goal.loop-i-preserved
loop-i-preserved c = linking_goes c.loop-i.i _ _ c.loop-i.bytes c.loop-i-test.true refl refl c.loop-i.invariant

pub returns : goal.returns
returns c = linking_ends c.loop-i.i c.loop-i.bytes (omega (arith, c.loop-i-test.false, c.loop-i.auto.i-end)) c.loop-i.invariant
