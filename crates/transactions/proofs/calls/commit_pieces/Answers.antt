-- There is room, or the transaction is undone.
use Rattle.std.proofs.Common.{◌≡◌, ℕ, Bool, length, Some, None, sym, refl, ◌∙◌, subst, inl, arith}
use Rattle.transactions.specs.Calls.{Enters}
use Rattle.image.specs.Calls.{declared}
use Rattle.image.specs.Cut.{cut_runs}
use Rattle.transactions.specs.declared.state.State.{State}
use Rattle.transactions.specs.Rows.{first_fit, Refuses, commit_rows}
use Rattle.transactions.specs.State as state
use Rattle.transactions.proofs.Loops.{length_own}
use Rattle.transactions.proofs.Plans.{roomy, some_records}
use Rattle.transactions.proofs.Tabling.{fitted, spooled_stands, same_stands}
use Rattle.transactions.proofs.calls.commit_pieces.Goals as goal

-- the count of pieces is that of records
counted : (s : State) (k : ℕ) → k ≡ length (cut_runs (declared s.image)) → k ≡ length (state.own s)
counted s k e = e ∙ sym (length_own s)

pub returns-in-Err : goal.returns-in-Err
returns-in-Err g c =
    let s = c.args.state.now in
    let d = g.D.Device.disk c.args.device.now in
    let made = c.undo.ensures.undone.1 in
    record {
      answer = inl
          record {
            some = c.requires.some;
            refused = subst (λ (k : ℕ). Refuses (commit_rows s k c.args.flush) c.in-Err.fault) (counted s c.piece_count-records.result c.piece_count-records.ensures.count) c.in-Err.ensures;
            state = c.undo.ensures.undone;
            device = refl;
          };
      table = same_stands s c.undo.new.self d made.log_is made.spool_is c.undo.ensures.pages (λ on. sym made.on_is ∙ on) c.requires.table;
    }

pub spooled_up-requires : goal.spooled_up-requires
spooled_up-requires g c =
    let s = c.args.state.now in
    let k = c.piece_count-records.result in
    let own = counted s k c.piece_count-records.ensures.count in
    let room = roomy s k c.args.flush c.in_default.ensures in
    record {
      room = room.spool c.if-flush.false;
      bounded = omega (arith, room.serials);
      some = some_records s k own c.requires.some;
      own = own;
      on = c.requires.on;
    }

pub returns-else-flush : goal.returns-else-flush
returns-else-flush g c =
    let s = c.args.state.now in
    let d = g.D.Device.disk c.args.device.now in
    let done = c.spooled_up.ensures in
    let k = c.piece_count-records.result in
    let own = counted s k c.piece_count-records.ensures.count in
    let stands = c.requires.table c.requires.on in
    let fit = fitted s k c.args.flush own (some_records s k own c.requires.some) (roomy s k c.args.flush c.in_default.ensures) in
    record {
      answer = record {
        some = c.requires.some;
        passes = subst (λ (k : ℕ). first_fit (commit_rows s k c.args.flush) ≡ None) own c.in_default.ensures;
        answer = done.answer;
        enters = subst (λ (flush : Bool). Enters s d flush c.spooled_up.new.self d) (sym c.if-flush.false) (refl, done.spooled);
        image = done.over.image;
        free = done.over.free;
      };
      table = λ _. spooled_stands s c.spooled_up.new.self d stands.0 stands.1 fit done.spooled done.pages;
    }

pub commit_flushed-requires-clause-own : goal.commit_flushed-requires-clause-own
commit_flushed-requires-clause-own g c = counted c.args.state.now c.piece_count-records.result c.piece_count-records.ensures.count
