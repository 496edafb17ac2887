-- Nothing was declared, so the change that passed is made.
use Rattle.transactions.specs.Held.{held}
use Rattle.plans.specs.Plans.{edits_of}
use Rattle.ledger.proofs.Standing.{made_on_clean}
use Rattle.ledger.proofs.changing.change.Goals as goal

pub returns : goal.returns
returns g c = (
  c.in_ok-ordinal.field-0-1,
  made_on_clean (held c.args.store.now) (held c.perform.new.store) (edits_of c.args.plan.now) c.args.flush (c.in_ok-ordinal.ordinal, c.in_ok-ordinal.field-0-1)
      (c.requires.sound.clean c.requires.on) c.in_ok-ordinal.ensures,
)
