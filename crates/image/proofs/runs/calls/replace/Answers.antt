-- The runs are taken out one by one, and the new one goes in where they were.
use Rattle.std.proofs.Common.{◌≡◌, ℕ, ◌++◌, take, drop, subst, arith}
use Rattle.image.proofs.Joining.{gives_way, takes_place}
use Rattle.image.proofs.runs.calls.replace.Goals as goal

pub loop-i-preserved : goal.loop-i-preserved
loop-i-preserved c =
    gives_way c.args.first c.loop-i._i c.args.items.now.items c.loop-i.items.items c.remove.new.self.items (omega arith) c.loop-i.invariant c.remove.ensures.items

pub returns : goal.returns
returns c =
    let old = c.args.items.now.items in
    let here : c.loop-i._i ≡ c.args.past = omega arith in
    takes_place c.args.first c.args.past c.args.run old c.loop-i.items.items c.insert.new.self.items (omega arith)
    (subst (λ (i : ℕ). c.loop-i.items.items ≡ take c.args.first old ++ drop i old) here c.loop-i.invariant) c.insert.ensures.items
