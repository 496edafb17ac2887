-- The bytes are written over declared ones alone.
use Rattle.std.proofs.Common.{◌≡◌, ◌+◌, ◌-◌, ◌≤◌, length, get_or, refl, ap, ◌∙◌, arith}
use Rattle.image.specs.declared.run.Run.{Run}
use Rattle.image.proofs.Copying.{written_byte, written_length, unwritten}
use Rattle.image.proofs.state.Image.write.Goals as goal

pub invariant_of-self : goal.invariant_of-self
invariant_of-self c =
    let x = c.args.self.now in
    let f = c.args.start in
    let bytes = c.args.bytes.now in
    let e = ap (λ (r : Run). r.to) c.in_ok-end.ensures.0 in
    let n : c.in_ok-end.field-0.to - f ≡ length bytes = omega arith in
    let h : f + length bytes ≤ length x.memory = omega (arith, c.in_ok-end.ensures.1) in
    let got = c.copy_from_slice.ensures.after in
    record {
      whole = written_length f (c.in_ok-end.field-0.to - f) bytes _ x.memory n got h ∙ x.whole;
      kept = x.kept;
      same = λ i k.
          written_byte f (c.in_ok-end.field-0.to - f) bytes _ x.memory n got h i
          ∙ unwritten f bytes i (get_or x.memory i 0) (λ low high. k (c.reached-reached.ensures.before i low (omega arith))) ∙ x.same i k;
    }

pub returns : goal.returns
returns c =
    let x = c.args.self.now in
    let f = c.args.start in
    let bytes = c.args.bytes.now in
    let e = ap (λ (r : Run). r.to) c.in_ok-end.ensures.0 in
    let n : c.in_ok-end.field-0.to - f ≡ length bytes = omega arith in
    let h : f + length bytes ≤ length x.memory = omega (arith, c.in_ok-end.ensures.1) in
    record {
      in_range = c.in_ok-end.ensures.1;
      all = λ i low high. c.reached-reached.ensures.before i low (omega arith);
      runs = refl;
      before = refl;
      memory = written_byte f (c.in_ok-end.field-0.to - f) bytes _ x.memory n c.copy_from_slice.ensures.after h;
    }
