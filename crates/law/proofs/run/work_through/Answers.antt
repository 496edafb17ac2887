-- Each turn makes one call more.
use Rattle.std.proofs.Common.{◌<◌, min, length, arith, ◌∙◌, subst}
use Rattle.std.proofs.lemmas.List.{get_or_default, get_or-take, length-take}
use Rattle.law.specs.Events.{closed}
use Rattle.law.specs.Run.{moment_of, stage}
use Rattle.law.proofs.Working.{so_far_goes}
use Rattle.law.proofs.run.work_through.Goals as goal

pub loop-i-preserved : goal.loop-i-preserved
loop-i-preserved g c =
    let d = g.D.Device.disk c.args.device in
    let i = c.loop-i.i in
    let count = c.min-count.result in
    let calls = c.args.calls.now in
    let under : i < min count (length calls) = subst (λ n. i < n) (length-take count calls) c.loop-i-test.true in
    let made : i < count = omega (arith, under) in
    let there : i < length calls = omega (arith, under) in
    let room : i < length c.loop-i.answers = omega (arith, under, c.min-count.ensures, c.loop-i.auto.answers) in
    so_far_goes (stage (closed d) c.args.places.now c.args.buffer.now) calls c.args.answers.now i c.loop-i.answers
    (stage (moment_of {d = g.D.Device} c.loop-i.run) c.loop-i.places c.loop-i.buffer)
    (stage (moment_of {d = g.D.Device} c.step-next.result.0) c.step-next.new.places c.step-next.new.buffer)
    _ c.step-next.result.1 there room (get_or-take count calls i _ made ∙ get_or_default calls i _ _ there) c.step-next.ensures c.loop-i.invariant
