-- What the label says is what the sector says.
use Rattle.std.proofs.Common.{◌∙◌}
use Rattle.journal.proofs.Telling.{bad_noted, bad_met, good_noted, good_met}
use Rattle.journal.proofs.note.note_of.Goals as goal

pub returns-in_default-clause-notes : goal.returns-in_default-clause-notes
returns-in_default-clause-notes c = bad_noted c.args.places c.args.place c.args.sector.now c.in_default.ensures

pub returns-in_default-clause-meets : goal.returns-in_default-clause-meets
returns-in_default-clause-meets c = bad_met c.args.places c.args.place c.args.sector.now c.args.latest.now c.in_default.ensures

pub returns-clause-notes : goal.returns-clause-notes
returns-clause-notes c = good_noted c.args.places c.args.place c.args.sector.now c.in-Some.label c.from.result c.in-Some.ensures c.from.ensures

pub returns-clause-meets : goal.returns-clause-meets
returns-clause-meets c = c.meet.ensures ∙ good_met c.args.places c.args.place c.args.sector.now c.in-Some.label c.args.latest.now c.in-Some.ensures
