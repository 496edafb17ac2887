-- The records of the pages that are left are still to be written, with the next serials.
use Rattle.std.proofs.Common.{◌≡◌, ◌+◌, map, length}
use Rattle.device.proofs.Plans.{Working}
use Rattle.durability.specs.Items.{appending}
use Rattle.transactions.specs.Pages.{members}
use Rattle.transactions.specs.Truncation.{page_item}
use Rattle.transactions.proofs.homes.write_pages.Given as goal

abbrev pub invariant-loop-page : goal.invariant-loop-page
invariant-loop-page g l = record {
  can : (goal.iterator-loop-page g).can_next l.page-iterator;
  ends : (goal.iterator-loop-page g).is_finite l.page-iterator;
  count : l.serial + length (members l.page-iterator.left) ≡ l.last + length (members l.fn.pages.bits);
  work :
      Working (g.D.Device.disk l.initial.device)
      (appending l.log.places l.log.low l.last (map (page_item l.log.ordinal l.memory) (members l.fn.pages.bits)))
      (g.D.Device.disk l.device)
      (appending l.log.places l.log.low l.serial (map (page_item l.log.ordinal l.memory) (members l.page-iterator.left)));
}
