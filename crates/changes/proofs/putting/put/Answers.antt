-- Neither call is refused.
use Rattle.transactions.specs.Held.{held}
use Rattle.changes.proofs.Patches.{not_set, put_done}
use Rattle.changes.proofs.putting.put.Goals as goal

pub returns-in_err-set_range-clause-done : goal.returns-in_err-set_range-clause-done
returns-in_err-set_range-clause-done g c underway few =
    absurd (not_set c.args.store.now.state c.set_range.new.self.state c.args.token.now.number c.args.start c.args.bytes.now c.in_err-set_range.field-0.0 underway few c.requires.some c.requires.within c.in_err-set_range.ensures.declares.0)

pub returns-clause-done : goal.returns-clause-done
returns-clause-done g c underway few =
    put_done (held c.args.store.now) (held c.set_range.new.self) (held c.write.new.self) c.args.token.now.number c.args.start c.args.bytes.now c.in_ok-set_range.field-0 c.write.result underway few c.requires.some c.requires.within c.in_ok-set_range.ensures.declares c.write.ensures.writes
