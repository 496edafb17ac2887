-- The number is the one that its bytes write.
use Rattle.record.proofs.Numbers.{number_in}
use Rattle.record.proofs.label.number.Goals as goal

pub returns : goal.returns
returns c =
    number_in 7 c.args.at c.from_le_bytes.result c.args.sector.now c.part.result c.part.ensures c.from_le_bytes.ensures
