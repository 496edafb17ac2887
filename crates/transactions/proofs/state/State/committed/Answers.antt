-- The last serial goes up by what waited and by the transaction's own records.
use Rattle.std.proofs.Common.{ℕ, ◌+◌, length, refl, ap, arith}
use Rattle.transactions.proofs.Loops.{length_all}
use Rattle.transactions.proofs.state.State.committed.Goals as goal

pub returns : goal.returns
returns c =
    let s = c.args.self.now in
    record {
      answer = ap (λ (k : ℕ). (s.log.ordinal + 1, k)) c.requires.own;
      written =
          record {
            log = record { places_is = refl; low_is = refl; last_is = omega (arith, length_all s, c.requires.own); ordinal_is = refl };
            empty = ap length c.clear.ensures;
            on = refl;
          };
      over = record { image = c.keep.ensures; free = refl };
      pages = c.note_pieces.ensures (s.log.ordinal + 1);
    }
