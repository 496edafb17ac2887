-- The list is empty where the count is none.
use Rattle.std.proofs.Common.{ℕ, eqb, length, sym, ap, ◌∙◌}
use Rattle.cache.proofs.Rings.{length_taken}
use Rattle.cache.proofs.held.Held.is_empty.Goals as goal

pub returns : goal.returns
returns c =
    let h = c.self.inside in
    ap (λ (n : ℕ). eqb n 0) (sym (length_taken h.first h.count h.slots c.self.invariant.0 c.self.invariant.1 c.self.invariant.2) ∙ ap length c.self.view_is)
