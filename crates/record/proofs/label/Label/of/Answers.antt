-- Each number is the one that its bytes write.
use Rattle.std.proofs.Common.{arith}
use Rattle.std.proofs.lemmas.Grind.{common_steps}
use Rattle.record.proofs.Numbers.{number_in}
use Rattle.record.proofs.label.Label.of.Goals as goal

pub returns : goal.returns
returns c =
    let sector = c.args.sector.now in
    grind (
      arith,
      common_steps,
      number_in 1 24 _ sector c.part.result c.part.ensures c.from_le_bytes-page.ensures,
      number_in 1 26 _ sector c.part-2.result c.part-2.ensures c.from_le_bytes-offset.ensures,
      number_in 1 28 _ sector c.part-3.result c.part-3.ensures c.from_le_bytes-length.ensures,
    )
