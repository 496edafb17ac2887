-- The homes of the pages that are left are still to be written.
use Rattle.durability.specs.Promises.{homing}
use Rattle.device.proofs.Plans.{Working}
use Rattle.transactions.specs.Pages.{members}
use Rattle.transactions.proofs.homes.write_homes.Given as goal

abbrev pub invariant-loop-page : goal.invariant-loop-page
invariant-loop-page g l = record {
  can : (goal.iterator-loop-page g).can_next l.page-iterator;
  ends : (goal.iterator-loop-page g).is_finite l.page-iterator;
  work :
      Working (g.D.Device.disk l.initial.device) (homing l.places l.memory (members l.fn.pages.bits))
      (g.D.Device.disk l.device) (homing l.places l.memory (members l.page-iterator.left));
}
