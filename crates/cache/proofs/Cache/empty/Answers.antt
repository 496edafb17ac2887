-- A barrier: all sent down and settled, or cut in either part.
use Rattle.std.proofs.Common.{length, sym, ◌∙◌}
use Rattle.std.proofs.lemmas.Bool.{eqb-true}
use Rattle.std.proofs.lemmas.List.{nil_from_length}
use Rattle.std.proofs.lemmas.Result.{err_from_is_err_and}
use Rattle.cache.specs.State.{state}
use Rattle.cache.proofs.Calls.{made}
use Rattle.cache.proofs.Sending.{sent_more, stopped, finished}
use Rattle.cache.proofs.Cache.empty.Goals as goal

pub loop-self-preserved : goal.loop-self-preserved
loop-self-preserved g c = sent_more _ _ _ c.loop-self.invariant c.in_ok-send_one.ensures

pub returns-in_err-send_one : goal.returns-in_err-send_one
returns-in_err-send_one g c =
    let s = state c.args.self.now in
    let both = stopped s (state c.loop-self.self) (state c.send_one.new.self) c.in_err-send_one.field-0.0 c.loop-self.invariant c.in_err-send_one.ensures in
    let p = err_from_is_err_and c.from_residual.result c.from_residual.ensures.1 in
    rw (p.1, p.2) (record { meaning = both.0; exact = both.1 })

pub returns : goal.returns
returns g c =
    let s = state c.args.self.now in
    let m = state c.loop-self.self in
    let t = made (g.D.Device.disk c.barrier.new.self) m.held c.hand_up.new.self in
    let none = nil_from_length m.held (eqb-true (length m.held) 0 (sym c.is_empty.ensures ∙ c.loop-self-test.false)) in
    let both = finished s m t c.barrier.result c.loop-self.invariant none c.barrier.ensures none c.hand_up.ensures.on c.hand_up.ensures.told in
    rw c.hand_up.ensures.answer (record { meaning = both.0; exact = both.1 })
