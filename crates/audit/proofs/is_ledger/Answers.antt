-- What each test decides.
use Rattle.std.proofs.Common.{◌≡◌, Bool, true, refl, sym, subst, ◌∙◌}
use Rattle.std.proofs.lemmas.Bool.{false≢true}
use Rattle.book.specs.Layout.{byte_in}
use Rattle.audit.specs.Judging.{MoneyJudged}
use Rattle.audit.proofs.Whole.{cells_decide}
use Rattle.audit.proofs.is_ledger.Goals as goal
use Rattle.audit.proofs.is_ledger.Goals.{then-zeros_stand, else-zeros_stand}

pub returns-then-money_adds_up : goal.returns-then-money_adds_up
returns-then-money_adds_up c =
    let f = byte_in c.args.memory.now in
    elim c.if-zeros_stand.branch [
      | then-zeros_stand w ↦
          let adds : w.money_adds_up.result ≡ true = sym w.value-is ∙ c.if-money_adds_up.true in
          cells_decide f c.cells_are_kept.result (w.if-zeros_stand.ensures.0 refl) (subst (λ (r : Bool). MoneyJudged f r) adds w.money_adds_up.ensures) c.cells_are_kept.ensures
      | else-zeros_stand w ↦ absurd (false≢true (sym w.if-zeros_stand.false ∙ sym w.value-is ∙ c.if-money_adds_up.true))
    ]
