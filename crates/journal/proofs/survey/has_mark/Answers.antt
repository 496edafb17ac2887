-- A log with no places has no record, and none has a serial past the last.
use Rattle.std.proofs.Common.{ℕ, ◌^◌, eqb, length, sym, ap, ◌∙◌, arith}
use Rattle.std.proofs.lemmas.Bool.{le-ltb}
use Rattle.record.specs.Entry.{Entry}
use Rattle.journal.proofs.Places.{empty_log}
use Rattle.journal.proofs.Telling.{no_serial}
use Rattle.journal.proofs.survey.has_mark.Goals as goal

pub returns-in_default-clause-mark : goal.returns-in_default-clause-mark
returns-in_default-clause-mark c shows noted =
    sym (ap (λ (e : Entry). eqb e.kind 4) (empty_log (length c.args.notes.now) shows c.args.serial (omega arith)))

pub returns-else-serial-lt-SERIALS-clause-mark : goal.returns-else-serial-lt-SERIALS-clause-mark
returns-else-serial-lt-SERIALS-clause-mark c shows noted =
    le-ltb c.args.serial (2 ^ 63) (omega arith) ∙ sym (ap (λ (k : ℕ). eqb k 4) (no_serial (length c.args.notes.now) shows c.args.serial (omega arith)))
