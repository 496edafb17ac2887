-- The entries of an account are the records of its chain.
use Rattle.std.proofs.Common.{◌≡◌, ℕ, true, sym, subst}
use Rattle.book.specs.Records.{entry_kind, entry_content, EntryFits}
use Rattle.book.specs.Layout.{byte_in, head_at}
use Rattle.plans.specs.Walks.{Leads, seen, first_such}
use Rattle.plans.proofs.Fronts.{leads_entries}
use Rattle.plans.proofs.Written.{fronts}
use Rattle.plans.proofs.walking.front_entry.Goals as goal

pub returns : goal.returns
returns c b h =
    let f = byte_in c.args.memory.now in
    let a = c.args.account in
    let head : head_at a ≡ c.head.result = sym (c.head.ensures c.requires.1) in
    fronts b a c.first.result c.requires
    (subst (λ (k : ℕ). seen c.first.result ≡ first_such (λ _. true) k (b.entries a)) (sym head)
    (c.first.ensures (b.entries a) (subst (λ (k : ℕ). Leads entry_kind entry_content EntryFits f k (b.entries a)) head (leads_entries f b a h c.requires))))
