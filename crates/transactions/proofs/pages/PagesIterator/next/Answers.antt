-- The lowest page is given, and the others are left.
use Rattle.std.proofs.Common.{◌≡◌, ◌<◌, [], length, ap, ◌∙◌, arith, rules}
use Rattle.transactions.specs.Pages.{members}
use Rattle.transactions.proofs.Sets.{members_none, members_first}
use Rattle.transactions.proofs.pages.PagesIterator.next.Goals as goal

pub returns-then-self-eq0-clause-steps : goal.returns-then-self-eq0-clause-steps
returns-then-self-eq0-clause-steps c = let none : members c.args.self.now.left ≡ [] = ap members c.if-self-eq0.true ∙ members_none in (none, none)

pub returns-clause-steps : goal.returns-clause-steps
returns-clause-steps c = let some : 0 < c.args.self.now.left = omega arith in members_first c.args.self.now.left some (omega arith)

pub returns-clause-goes : goal.returns-clause-goes
returns-clause-goes c =
    let some : 0 < c.args.self.now.left = omega arith in
    let fewer = ap length (members_first c.args.self.now.left some (omega arith)) in
    record { on = λ f. (search rules, search rules, omega (arith, fewer)); keeps = search rules; rests = search rules }
