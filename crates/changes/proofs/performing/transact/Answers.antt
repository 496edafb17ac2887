-- It was begun, put in and committed.
use Rattle.transactions.specs.Held.{held}
use Rattle.changes.specs.Steps.{edits_in}
use Rattle.changes.proofs.Patches.{performed}
use Rattle.changes.proofs.performing.transact.Goals as goal

pub returns : goal.returns
returns g c =
    performed
    (held c.args.store.now)
    (held c.begin.new.self)
    (held c.put_work-put.new.store)
    (held c.finish.new.store) c.in_ok-token.token (edits_in c.args.work) c.args.flush c.put_work-put.result c.finish.result
    c.in_ok-token.ensures.begins c.put_work-put.ensures.done c.finish.ensures
