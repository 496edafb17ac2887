-- The places below are noted, and the latest record of them is known.
use Rattle.std.proofs.Common.{◌≡◌, ℕ, ◌<◌, get_or}
use Rattle.journal.specs.Log.{said}
use Rattle.journal.specs.Notes.{Tells, Topped, blank}
use Rattle.recovery.proofs.reading.scan.Given as goal

abbrev pub invariant-loop-place : goal.invariant-loop-place
invariant-loop-place g l =
    record {
      same : g.D.Device.disk l.device ≡ g.D.Device.disk l.initial.device;
      noted : (p : ℕ) → p < l.place → Tells (said l.places p ((g.D.Device.disk l.initial.device).shows p)) (get_or l.notes p blank);
      top : Topped l.places (g.D.Device.disk l.initial.device).shows l.place l.latest;
    }
