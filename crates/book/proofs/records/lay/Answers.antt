-- Each field is written over zeros.
use Rattle.std.proofs.Common.{rules}
use Rattle.record.proofs.Numbers.{bytes_2}
use Rattle.book.proofs.Contents.{put_laid}
use Rattle.book.proofs.records.lay.Goals as goal

pub returns : goal.returns
returns c = put_laid c.args.front c.copy_from_slice.new.self c.copy_from_slice-2.new.self c.args.account (search rules) (search rules) (search (rules, bytes_2))
