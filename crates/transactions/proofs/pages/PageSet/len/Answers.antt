-- A set has as many pages as bits.
use Rattle.std.proofs.Common.{sym, arith}
use Rattle.transactions.proofs.Sets.{members_count, members_few}
use Rattle.transactions.proofs.pages.PageSet.len.Goals as goal

pub returns : goal.returns
returns c =
    let count = sym (members_count c.args.self.now.bits (omega arith)) in
    record { count = count; few = omega (arith, members_few c.args.self.now.bits) }
