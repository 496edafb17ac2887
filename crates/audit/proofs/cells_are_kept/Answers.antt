-- What each test decides.
use Rattle.std.proofs.Common.{refl}
use Rattle.std.proofs.lemmas.Bool.{false≢true}
use Rattle.book.specs.Layout.{byte_in}
use Rattle.audit.proofs.Whole.{tags_decide, none_fits}
use Rattle.audit.proofs.cells_are_kept.Goals as goal

pub returns-then-all_fit : goal.returns-then-all_fit
returns-then-all_fit c =
    tags_decide (byte_in c.args.memory.now) c.in-Some.owners c.tags_are_once.result c.fits-memory c.in-Some.ensures (c.if-all_fit.ensures.0 refl) c.tags_are_once.ensures

pub returns-else-all_fit : goal.returns-else-all_fit
returns-else-all_fit c =
    rw c.if-all_fit.false
    (none_fits (byte_in c.args.memory.now) c.in-Some.owners c.in-Some.ensures (λ all. false≢true (c.if-all_fit.ensures.1 all)))
