-- The spool grows by the transaction's own records.
use Rattle.std.proofs.Common.{ℕ, ◌+◌, refl, ap, arith}
use Rattle.transactions.proofs.Loops.{length_own}
use Rattle.transactions.proofs.state.State.spooled_up.Goals as goal

pub returns : goal.returns
returns c =
    let s = c.args.self.now in
    record {
      answer = ap (λ (k : ℕ). (s.log.ordinal + 1, k)) c.requires.own;
      spooled =
          record {
            log = record { places_is = refl; low_is = refl; last_is = refl; ordinal_is = refl };
            waits = c.take_in.ensures.waits;
            on = c.requires.on;
          };
      over = record { image = record { memory = c.keep.ensures.memory; before = c.keep.ensures.before; clean = c.keep.ensures.clean }; free = refl };
      pages = c.note_pieces.ensures (s.log.ordinal + 1);
    }

pub take_in-requires : goal.take_in-requires
take_in-requires c = record { room = omega (arith, length_own c.args.self.now) }
