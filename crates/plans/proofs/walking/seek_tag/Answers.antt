-- A tag is looked for in its own bucket.
use Rattle.std.proofs.Common.{◌≡◌, ℕ, sym, ap, ◌∙◌, subst, rules}
use Rattle.book.specs.Records.{bucket_of, tag_kind, tag_content, TagFits}
use Rattle.book.specs.Layout.{byte_in, head_at, bucket_chain}
use Rattle.plans.specs.Walks.{Leads, seen, first_such}
use Rattle.plans.proofs.Fronts.{is_id, leads_tags, bucket_below, own_first, sought}
use Rattle.plans.proofs.walking.seek_tag.Goals as goal

pub returns : goal.returns
returns c b h =
    let f = byte_in c.args.memory.now in
    let id = c.args.id.now in
    let k = bucket_of id in
    let head : head_at (bucket_chain k) ≡ c.head-head.result = sym (c.head-head.ensures (rw c.bucket_of.ensures (bucket_below id)) ∙ ap (λ (j : ℕ). head_at (bucket_chain j)) c.bucket_of.ensures) in
    sought b id c.seek.result
    (subst (λ (a : ℕ). seen c.seek.result ≡ first_such (is_id id) a (b.tags k)) (sym head)
    (c.seek.ensures (is_id id) (λ x r p item fit stands. let own = own_first item x.now fit stands in search (rules, own)) (b.tags k) (subst (λ (a : ℕ). Leads tag_kind tag_content TagFits f a (b.tags k)) head (leads_tags f b k h (bucket_below id)))))
