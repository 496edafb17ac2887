-- The pages of a set are pages.
use Rattle.transactions.proofs.Sets.{first_small}
use Rattle.transactions.proofs.homes.write_homes.Goals as goal

pub write_home-requires-clause-page : goal.write_home-requires-clause-page
write_home-requires-clause-page g c = first_small c.loop-page.page-iterator.left c.in-Some.page _ c.in-Some.ensures.steps
