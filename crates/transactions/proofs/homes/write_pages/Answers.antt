-- The pages of a set are pages.
use Rattle.transactions.proofs.Sets.{first_small}
use Rattle.transactions.proofs.homes.write_pages.Goals as goal

pub write_page-requires-clause-page : goal.write_page-requires-clause-page
write_page-requires-clause-page g c = first_small c.loop-page.page-iterator.left c.in-Some.page _ c.in-Some.ensures.steps
