-- Bytes that are read as a number are those that it is written in.
use Rattle.book.proofs.Contents.{eight_read}
use Rattle.book.proofs.records.number.Goals as goal

pub returns : goal.returns
returns c = eight_read c.args.bytes.now c.from_le_bytes.result c.told-bytes c.fits-bytes c.from_le_bytes.ensures
