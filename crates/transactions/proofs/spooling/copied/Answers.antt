-- The bytes that were copied stand in front.
use Rattle.std.proofs.Common.{◌≡◌, ℕ, ◌+◌, ◌-◌, ◌≤◌, length, take, drop, ap, ◌∙◌, arith}
use Rattle.std.proofs.lemmas.List.{length-take, length-drop, take-append-le, take_all}
use Rattle.transactions.proofs.spooling.copied.Goals as goal

pub returns : goal.returns
returns c =
    let start = c.args.start in
    let size = c.args.size in
    let memory = c.args.memory.now in
    let copy = c.copy_from_slice.new.self in
    let e : start + size - start ≡ size = omega arith in
    let same : copy ≡ take size (drop start memory) = c.copy_from_slice.ensures.after ∙ ap (λ (k : ℕ). take k (drop start memory)) e in
    let long : length copy ≡ size = ap length same ∙ omega (arith, length-take size (drop start memory), length-drop start memory, c.told-memory, c.requires.inside) in
    let most : size ≤ length copy = omega arith in
    let least : length copy ≤ size = omega arith in
    take-append-le size copy _ most ∙ take_all size copy least ∙ same
