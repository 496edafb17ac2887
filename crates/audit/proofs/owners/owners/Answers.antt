-- One chain after the other; where one cannot be followed there is no book.
use Rattle.std.proofs.Common.{◌≡◌, arith, ◌-◌, ℕ, zero, suc, Option, get_or, refl, replicate, None}
use Rattle.book.specs.Layout.{byte_in}
use Rattle.audit.proofs.Owning.{nothing_owned, one_owned, no_book}
use Rattle.audit.proofs.owners.owners.Goals as goal

unowned : (k i : ℕ) → let none : Option ℕ = None in get_or (replicate k none) i none ≡ none
unowned zero i = refl
unowned (suc k) zero = refl
unowned (suc k) (suc i) = unowned k i

pub loop-chain-init : goal.loop-chain-init
loop-chain-init c = nothing_owned (byte_in c.args.memory.now) (replicate 200 None) (λ n. unowned 200 (n - 1))

pub loop-chain-preserved : goal.loop-chain-preserved
loop-chain-preserved c = one_owned (byte_in c.args.memory.now) c.loop-chain.owners c.follow.new.owners c.loop-chain.chain c.loop-chain.invariant c.if-not-follow.ensures

pub returns-then-not-follow : goal.returns-then-not-follow
returns-then-not-follow c =
    no_book (byte_in c.args.memory.now) c.loop-chain.owners c.loop-chain.chain c.loop-chain.invariant (omega arith) c.if-not-follow.ensures
