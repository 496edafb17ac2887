-- The end of a record's bytes is compared with zeros, and the rest is its two fields.
use Rattle.std.proofs.Common.{rules}
use Rattle.book.proofs.Contents.{zeros_told, nothing_laid, read_laid}
use Rattle.book.proofs.records.parts.Goals as goal

pub returns-then-ne : goal.returns-then-ne
returns-then-ne c = nothing_laid c.args.bytes.now c.if-ne.ensures

pub returns : goal.returns
returns c = (
  read_laid c.args.bytes.now c.part.result c.part-2.result c.from_le_bytes.result c.told-bytes c.fits-bytes c.part.ensures c.part-2.ensures
      c.from_le_bytes.ensures (zeros_told c.args.bytes.now c.if-ne.ensures),
  search rules,
  search rules,
)
