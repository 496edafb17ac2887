-- Each turn makes one call more.
use Rattle.std.proofs.Common.{◌≡◌, ◌<◌, min, length, arith, ◌∙◌, subst}
use Rattle.std.proofs.lemmas.List.{get_or_default, get_or-take, length-take}
use Rattle.ledger_law.specs.Events.{closed}
use Rattle.ledger_law.specs.Run.{moment_of}
use Rattle.ledger_law.proofs.Working.{SoFar, so_far_goes, so_far_ends}
use Rattle.ledger_law.proofs.run.work_through.Goals as goal

pub loop-i-preserved : goal.loop-i-preserved
loop-i-preserved g c =
    let start = closed (g.D.Device.disk c.args.device) in
    let run = c.loop-i.run in
    let after = c.step-next.result.0 in
    let i = c.loop-i.i in
    let count = c.min-count.result in
    let calls = c.args.calls.now in
    let under : i < min count (length calls) = subst (λ n. i < n) (length-take count calls) c.loop-i-test.true in
    let made : i < count = omega (arith, under) in
    let there : i < length calls = omega (arith, under) in
    let room : i < length c.loop-i.answers = omega (arith, under, c.min-count.ensures, c.loop-i.auto.answers) in
    so_far_goes start calls c.args.answers.now i c.loop-i.answers
    (moment_of run)
    (moment_of after)
    _ c.step-next.result.1 there room (get_or-take count calls i _ made ∙ get_or_default calls i _ _ there) c.step-next.ensures c.loop-i.invariant

pub returns : goal.returns
returns g c =
    let start = closed (g.D.Device.disk c.args.device) in
    let now = moment_of c.loop-i.run in
    let calls = c.args.calls.now in
    let before = c.args.answers.now in
    let count = c.min-count.result in
    let long = length-take count calls in
    let all : c.loop-i.i ≡ count = omega (arith, c.loop-i-test.false, c.loop-i.auto.i-end, long, c.min-count.ensures) in
    so_far_ends start calls before count c.loop-i.answers now c.min-count.ensures (subst (λ k. SoFar start calls before k c.loop-i.answers now) all c.loop-i.invariant)
