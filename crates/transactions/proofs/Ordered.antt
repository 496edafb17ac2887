-- The tests of each call come in ascending number.
use Rattle.std.proofs.Common.{◌<◌, refl, arith}
use Rattle.image.specs.declared.run.ImageFault.{ImageFault}
use Rattle.image.specs.declared.run.ImageFault.TheVariants.{Range, Runs, Undeclared}
use Rattle.transactions.specs.Fault.{number, from_image}
use Rattle.transactions.specs.Order.{RowsAscend}

above_tokens : (f : ImageFault) → 10 < number (from_image f)
above_tokens (Range start) = omega arith
above_tokens (Runs start) = omega arith
above_tokens (Undeclared byte) = omega arith

pub rows_ascend : RowsAscend
rows_ascend =
    record {
      read = λ s. refl;
      begin = λ s. refl;
      token = λ s shown. refl;
      memory = above_tokens;
      commit = λ s shown k flush. refl;
      truncate = λ s due. refl;
    }
