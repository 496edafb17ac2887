-- The note tells where the bytes are and where they go.
use Rattle.std.proofs.Common.{get_or, ◌∙◌, arith}
use Rattle.recovery.proofs.Replaying.{told_inside, applied_told}
use Rattle.recovery.proofs.reading.apply.Goals as goal

pub put_part-requires : goal.put_part-requires
put_part-requires c =
    let t = told_inside c.args.places c.args.place c.args.sector.now c.args.note c.requires in
    (omega (arith, t.1), omega (arith, t.0, t.1))

pub returns : goal.returns
returns c i =
    c.put_part.ensures i ∙ applied_told c.args.places c.args.place c.args.sector.now c.args.note c.requires i (get_or c.args.memory.now i 0)
