-- The runs are as the structural joining makes them.
use Rattle.std.proofs.Common.{◌≡◌, List, length, sym, refl, ◌∙◌, subst, arith}
use Rattle.std.proofs.lemmas.Bool.{eqb-true}
use mathlib.Core.Logic.{∥∥₁_map}
use Rattle.image.specs.declared.run.Run.{Run}
use Rattle.image.specs.Runs.{Apart, Inside, joined}
use Rattle.image.specs.Calls.{listed}
use Rattle.image.proofs.Facts.{apart_out}
use Rattle.image.proofs.Joining.{joined_apart, joined_inside, joined_whole, too_many}
use Rattle.image.proofs.runs.Runs.join.Goals as goal

pub invariant_of-self : goal.invariant_of-self
invariant_of-self c =
    let s = c.args.self.now in
    let r = c.args.stretch in
    let made : c.replace.new.items.items ≡ joined r.from r.to (listed s) =
    c.replace.ensures
    ∙ sym
    (joined_whole r.from r.to (listed s) c.below-first.result c.met-past.result.0 c.met-past.result.1 c.requires.some (apart_out 0 (listed s) s.apart)
    c.below-first.ensures c.met-past.ensures) in
    record {
      apart = subst (λ (xs : List Run). ∥ Apart 0 xs ∥₁) (sym made) (∥∥₁_map s.apart (joined_apart 0 r.from r.to (listed s) (omega arith) c.requires.some));
      inside = subst (λ (xs : List Run). ∥ Inside xs ∥₁) (sym made) (∥∥₁_map s.inside (joined_inside r.from r.to (listed s) c.requires.inside));
    }

pub returns-then-is_full : goal.returns-then-is_full
returns-then-is_full c =
    let s = c.args.self.now in
    let r = c.args.stretch in (
      too_many r.from r.to (listed s) c.below-first.result c.met-past.result.0 c.met-past.result.1 c.requires.some (apart_out 0 (listed s) s.apart)
          c.below-first.ensures c.met-past.ensures c.if-first-past.true
          (eqb-true (length (listed s)) 16 (sym c.is_full.ensures.value ∙ c.if-is_full.true)),
      refl,
    )

pub returns : goal.returns
returns c =
    let s = c.args.self.now in
    let r = c.args.stretch in
    c.replace.ensures
    ∙ sym
    (joined_whole r.from r.to (listed s) c.below-first.result c.met-past.result.0 c.met-past.result.1 c.requires.some (apart_out 0 (listed s) s.apart)
    c.below-first.ensures c.met-past.ensures)
