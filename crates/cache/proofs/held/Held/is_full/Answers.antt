-- The list is full where the count is eight, and has no more.
use Rattle.std.proofs.Common.{◌≡◌, ℕ, eqb, length, sym, ap, ◌∙◌, arith}
use Rattle.cache.proofs.Rings.{length_taken}
use Rattle.cache.proofs.held.Held.is_full.Goals as goal

pub returns : goal.returns
returns c =
    let h = c.self.inside in
    let long : h.count ≡ length c.args.self.now = sym (length_taken h.first h.count h.slots c.self.invariant.0 c.self.invariant.1 c.self.invariant.2) ∙ ap length c.self.view_is in
    record { full = ap (λ (n : ℕ). eqb n 8) long; few = omega (arith, long, c.self.invariant.2) }
