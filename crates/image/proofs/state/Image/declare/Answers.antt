-- What was the same still is, since every declared byte stays declared.
use Rattle.std.proofs.Common.{◌≡◌, refl}
use Rattle.image.proofs.Alone.{image_stays, runs_stay, runs_refused, runs_declare}
use Rattle.image.proofs.Joining.{still_declared}
use Rattle.image.proofs.state.Image.declare.Goals as goal

pub invariant_of-self : goal.invariant_of-self
invariant_of-self c =
    let x = c.args.self.now in
    let r = c.in_ok-stretch.stretch in
    record {
      whole = x.whole;
      kept = x.kept;
      same = λ i h. x.same i (λ d. h (still_declared r.from r.to x.runs c.join.result c.join.new.self c.join.ensures i d));
    }

pub returns-then-not-join : goal.returns-then-not-join
returns-then-not-join c =
    let r = c.in_ok-stretch.ensures in
    let x = c.args.self.now in
    let as_before : c.join.new.self ≡ x.runs = runs_stay c.in_ok-stretch.stretch x.runs c.join.new.self c.join.result c.if-not-join.true c.join.ensures in
    runs_refused c.args.start c.args.size c.in_ok-stretch.stretch x _ c.join.result c.join.new.self r.0 r.1 c.if-not-join.true c.join.ensures (image_stays x c.join.new.self as_before _ _ _)

pub returns : goal.returns
returns c =
    let r = c.in_ok-stretch.ensures in
    record {
      in_range = r.1;
      declares = runs_declare c.args.start c.args.size c.in_ok-stretch.stretch c.args.self.now.runs c.join.new.self c.join.result r.0 r.1 c.if-not-join.false c.join.ensures;
      memory = refl;
      before = refl;
    }
