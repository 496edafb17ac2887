-- Each cell in its turn; it fails at one that is none, or that has an owner.
use Rattle.std.proofs.Common.{◌-◌, ◌∙◌, ℕ, List, Some, set, refl, subst, sym, arith}
use Rattle.std.proofs.lemmas.List.{length-set}
use Rattle.std.proofs.lemmas.Bool.{false≢true}
use Rattle.book.specs.Layout.{byte_in, InCells}
use Rattle.audit.specs.Owners.{Walk, Fresh}
use Rattle.audit.proofs.Marking.{nothing_walked, one_walked, none_on, none_new, fewer_unmet, Walked}
use Rattle.audit.proofs.owners.follow.Goals as goal

pub returns-then-not-is_new : goal.returns-then-not-is_new
returns-then-not-is_new c ns walk =
    let f = byte_in c.args.memory.now in
    let l = c.loop-number in
    l.invariant.fails
    (none_new f l.owners l.number c.loop-number-test.true (λ new. false≢true (c.if-not-is_new.ensures.1 new)))
    ns
    (subst (λ (n : ℕ). Walk f n ns) (sym c.head-number.ensures) walk)

pub loop-number-preserved : goal.loop-number-preserved
loop-number-preserved c =
    let f = byte_in c.args.memory.now in
    let l = c.loop-number in
    let new = c.if-not-is_new.ensures.0 refl in
    let i : InCells l.number = (omega arith, new.0) in
    rw c.give.ensures
    (record {
      size = length-set l.owners (l.number - 1) (Some c.args.chain) ∙ l.invariant.size;
      ends = λ after w.
          l.invariant.ends after
          (one_walked f l.owners after c.args.chain l.number l.invariant.size i new.1
          (subst (λ (n : ℕ). Walked f (set l.owners (l.number - 1) (Some c.args.chain)) after c.args.chain n) c.next-number.ensures w));
      fails = λ none.
          l.invariant.fails
          (none_on f l.owners c.args.chain l.number i
          (subst (λ (n : ℕ). (ns : List ℕ) → Walk f n ns → Fresh (set l.owners (l.number - 1) (Some c.args.chain)) ns → ⊥) c.next-number.ensures none));
    })

pub loop-number-smaller : goal.loop-number-smaller
loop-number-smaller c =
    let l = c.loop-number in
    let new = c.if-not-is_new.ensures.0 refl in
    rw c.give.ensures (fewer_unmet l.owners l.number c.args.chain l.invariant.size (omega arith, new.0) new.1)

pub returns : goal.returns
returns c =
    let f = byte_in c.args.memory.now in
    let l = c.loop-number in
    let w = l.invariant.ends l.owners (nothing_walked f l.owners c.args.chain l.number c.loop-number-test.false) in
    record { cells = w.cells; walk = subst (λ (n : ℕ). Walk f n w.cells) c.head-number.ensures w.walk; marked = w.marked }
