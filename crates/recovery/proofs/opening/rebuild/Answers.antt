-- Homes first, then the records.
use Rattle.std.proofs.Common.{ℕ, ◌∙◌, subst}
use Rattle.device.specs.Disk.{Disk}
use Rattle.recovery.specs.Reading.{ReplayedAll}
use Rattle.recovery.proofs.Rebuilding.{rebuilt}
use Rattle.recovery.proofs.opening.rebuild.Goals as goal

pub returns-clause-rebuilt : goal.returns-clause-rebuilt
returns-clause-rebuilt g c =
    let d = g.D.Device.disk c.args.device.now in
    let s = c.args.survey.now in
    let n = c.args.places.count in
    let h = c.in_ok-load_homes.ensures.loaded in
    let k = c.in_ok-replay.ensures in
    let all = subst (λ (x : Disk). ReplayedAll n x s.low s.last c.load_homes.new.memory c.replay.new.memory c.in_ok-replay.field-0) h.0
    (subst (λ (j : ℕ). ReplayedAll j (g.D.Device.disk c.load_homes.new.device) s.low s.last c.load_homes.new.memory c.replay.new.memory c.in_ok-replay.field-0) c.requires.sized k.1) in
    (k.0 ∙ h.0, rebuilt n d s c.load_homes.new.memory c.replay.new.memory c.in_ok-replay.field-0 c.requires.seen h.1 all)
