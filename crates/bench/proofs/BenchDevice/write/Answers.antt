-- What a write does is what a write of the model may do.
use Rattle.std.proofs.Common.{rules}
use Rattle.bench.specs.Card.{card}
use Rattle.bench.proofs.Sectors.{stored_means}
use Rattle.bench.proofs.BenchDevice.write.Goals as goal

pub returns-clause-meaning : goal.returns-clause-meaning
returns-clause-meaning c =
    stored_means (card c.args.self.now) (card c.store.new.self) c.args.sector c.args.bytes.now c.store.result (search rules) (search rules) c.store.ensures.stored
