-- The records are written, and the state says so.
use Rattle.std.proofs.Common.{◌≡◌, ℕ, ◌+◌, true, ◌++◌, None, refl, subst, arith}
use Rattle.std.proofs.lemmas.Result.{err_from_is_err_and}
use Rattle.transactions.specs.Calls.{Written}
use Rattle.transactions.specs.State.{spooled, own}
use Rattle.transactions.specs.Rows.{first_fit, commit_rows}
use Rattle.transactions.proofs.Plans.{roomy, writing_cut, some_records}
use Rattle.transactions.proofs.Tabling.{off_stands, fitted, committed_stands}
use Rattle.transactions.proofs.calls.commit_flushed.Goals as goal

pub returns-in_err-commit_out : goal.returns-in_err-commit_out
returns-in_err-commit_out g c =
    let s = c.args.state.now in
    let p = err_from_is_err_and c.from_residual.result c.from_residual.ensures.1 in
    rw (p.1, p.2)
    record {
      answer = record {
        some = c.requires.some;
        passes = subst (λ (k : ℕ). first_fit (commit_rows s k true) ≡ None) c.requires.own c.requires.passes;
        flushing = refl;
        cut = writing_cut s _ (g.D.Device.disk c.args.device.now) (g.D.Device.disk c.commit_out.new.device) (spooled s ++ own s) c.in_err-commit_out.field-0.0 c.in_err-commit_out.ensures record { off = refl; image = refl; spool = refl; log = refl; pages = refl; busy = refl };
      };
      table = off_stands _ (g.D.Device.disk c.commit_out.new.device) refl;
    }

pub committed-requires : goal.committed-requires
committed-requires g c =
    let s = c.args.state.now in
    record {
      bounded = omega (arith, (roomy s c.args.records true c.requires.passes).serials);
      some = some_records s c.args.records c.requires.own c.requires.some;
      own = c.requires.own;
    }

pub returns : goal.returns
returns g c =
    let s = c.args.state.now in
    let d = g.D.Device.disk c.args.device.now in
    let e = g.D.Device.disk c.commit_out.new.device in
    let done = c.committed.ensures in
    let at = done.written.log in
    let image = done.over.image in
    let stands = c.requires.table c.requires.on in
    let written : Written s (spooled s ++ own s) (s.log.ordinal + 1) c.committed.new.self =
    record {
      log = record { places_is = at.places_is; low_is = at.low_is; last_is = at.last_is; ordinal_is = at.ordinal_is };
      empty = done.written.empty;
      on = done.written.on;
    } in
    let k = c.args.records in
    let fit = fitted s k true c.requires.own (some_records s k c.requires.own c.requires.some) (roomy s k true c.requires.passes) in
    record {
      answer = record {
        some = c.requires.some;
        passes = subst (λ (k : ℕ). first_fit (commit_rows s k true) ≡ None) c.requires.own c.requires.passes;
        answer = done.answer;
        enters = (c.in_ok-commit_out.ensures, written);
        image = record { memory = image.memory; before = image.before; clean = image.clean };
        free = done.over.free;
      };
      table = λ _. committed_stands s c.committed.new.self d e stands.0 stands.1 fit c.in_ok-commit_out.ensures written done.pages;
    }
