-- The list is as long as the count says.
use Rattle.std.proofs.Common.{length, sym, ap, ◌∙◌}
use Rattle.cache.proofs.Rings.{length_taken}
use Rattle.cache.proofs.held.Held.len.Goals as goal

pub returns : goal.returns
returns c =
    let h = c.self.inside in
    sym (length_taken h.first h.count h.slots c.self.invariant.0 c.self.invariant.1 c.self.invariant.2) ∙ ap length c.self.view_is
