-- What is found of the notes holds of the log that they are of.
use Rattle.std.proofs.Common.{◌≡◌, ℕ, ◌≤◌, length, sym, ◌∙◌, subst, arith}
use Rattle.std.proofs.lemmas.Bool.{eqb-true, eq-eqb, both_ways}
use Rattle.journal.specs.Log.{log}
use Rattle.journal.specs.Opening.{Names}
use Rattle.journal.proofs.Telling.{no_log, names_low}
use Rattle.journal.proofs.survey.survey_of.Goals as goal

pub returns-then-latest-eq0 : goal.returns-then-latest-eq0
returns-then-latest-eq0 c shows noted top = no_log (length c.args.notes.now) shows c.args.latest top c.if-latest-eq0.true

pub returns-then-not-has_mark : goal.returns-then-not-has_mark
returns-then-not-has_mark c shows noted top =
    let n = length c.args.notes.now in
    let x = c.args.latest in
    let some : 1 ≤ x.serial = omega (arith, c.if-latest-eq0.false) in
    record {
      names = names_low n shows x top some;
      no_mark = λ k. both_ways c.has_mark.result c.if-not-has_mark.true (c.has_mark.ensures.mark shows noted ∙ eq-eqb (log n shows x.low).kind 4 k);
    }

pub returns : goal.returns
returns c shows noted top =
    let n = length c.args.notes.now in
    let x = c.args.latest in
    let some : 1 ≤ x.serial = omega (arith, c.if-latest-eq0.false) in
    let low : c.run_from.result.low ≡ x.low = c.run_from.ensures.low in
    let mark : (log n shows x.low).kind ≡ 4 = eqb-true (log n shows x.low).kind 4 (sym (c.has_mark.ensures.mark shows noted) ∙ c.if-not-has_mark.false) in
    record {
      names = subst (λ (k : ℕ). Names (log n shows) k) (sym low) (names_low n shows x top some);
      mark = subst (λ (k : ℕ). (log n shows k).kind ≡ 4) (sym low) mark;
      runs = c.run_from.ensures.runs shows noted mark;
    }
