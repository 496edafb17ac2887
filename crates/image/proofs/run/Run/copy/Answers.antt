-- A part copied to its place.
use Rattle.std.proofs.Common.{◌-◌, List, ℕ, get_or, sym, ap, ◌∙◌, arith}
use borrow.Rule.Slice.PartMut.{put_mid}
use Rattle.image.proofs.Copying.{copied_part, over_is}
use Rattle.image.proofs.run.Run.copy.Goals as goal

pub returns : goal.returns
returns c i =
    let r = c.args.self.now in
    let s = c.args.source.now in
    let m = c.args.target.now in
    ap (λ (ys : List ℕ). get_or (put_mid r.from (r.to - r.from) m ys) i 0) c.copy_from_slice.ensures.after
    ∙ copied_part r s m i c.requires.some (omega arith) (omega arith) ∙ sym (over_is r s i (get_or m i 0))
