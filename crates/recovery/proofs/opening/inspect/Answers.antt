-- The log that was noted is the one that was surveyed.
use Rattle.std.proofs.Common.{length}
use Rattle.std.proofs.lemmas.Result.{err_from_is_err_and}
use Rattle.journal.specs.Notes.{Noted}
use Rattle.journal.specs.Survey.{Surveyed}
use Rattle.recovery.proofs.Rebuilding.{no_survey}
use Rattle.recovery.proofs.opening.inspect.Goals as goal

pub returns-in_err-survey_of : goal.returns-in_err-survey_of
returns-in_err-survey_of g c =
    let d = g.D.Device.disk c.args.device.now in
    let e = g.D.Device.disk c.scan.new.device in
    let notes = c.scan.new.notes in
    let h = c.in_ok-latest.ensures in
    let p = err_from_is_err_and c.from_residual-in_err-survey_of.result c.from_residual-in_err-survey_of.ensures.1 in
    rw (p.1, p.2)
    (no_survey (length notes) d e (λ s. Noted (length notes) d.shows notes × Surveyed (length notes) d.shows s) c.in_err-survey_of.field-0.0 h.0 (c.in_err-survey_of.ensures d.shows h.1.0 h.1.1))
