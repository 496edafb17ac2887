-- The bits of the page are set.
use Rattle.journal.proofs.Tables.{told_whole, told_part}
use Rattle.journal.proofs.pages.PageTable.note.Goals as goal

pub returns-then-whole : goal.returns-then-whole
returns-then-whole c =
    told_whole c.args.page c.args.self.now.named c.args.self.now.covered c.args.whole c.if-page-ge-PAGES.false c.if-whole.true

pub returns-else-whole : goal.returns-else-whole
returns-else-whole c =
    told_part c.args.page c.args.self.now.named c.args.self.now.covered c.args.whole c.if-page-ge-PAGES.false c.if-whole.false
