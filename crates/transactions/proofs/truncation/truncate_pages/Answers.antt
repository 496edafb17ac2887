-- There is too little log, or nothing is dirty, or all is written.
use Rattle.std.proofs.Common.{◌≡◌, ℕ, List, [], ◌∷◌, length, Some, None, Err, sym, refl, ap, ◌∙◌, subst, inl, inr}
use Rattle.std.proofs.lemmas.Result.{err_from_is_err_and}
use Rattle.device.specs.Trace.{Act, Done, Tries}
use Rattle.transactions.specs.Pages.{members}
use Rattle.transactions.specs.Rows.{first_fit, Refuses}
use Rattle.transactions.specs.Truncation.{crowded, Truncated}
use Rattle.transactions.proofs.Sets.{members_few}
use Rattle.transactions.proofs.Tabling.{off_stands, truncated_stands}
use Rattle.transactions.proofs.Truncating.{dirty_is, due_is, plan_is, some_dirty, none_dirty, nothing_waits, pages_cut}
use Rattle.transactions.proofs.truncation.truncate_pages.Goals as goal

pub returns-in_err-has_log : goal.returns-in_err-has_log
returns-in_err-has_log g c =
    let s = c.args.state.now in
    let shows = (g.D.Device.disk c.args.device.now).shows in
    let count = c.len.ensures.count ∙ ap length (c.due-due.ensures ∙ due_is s shows c.requires.table) in
    let p = err_from_is_err_and c.from_residual.result c.from_residual.ensures.1 in
    rw (p.1, p.2)
    record {
      answer = inl (subst (λ (n : ℕ). Refuses (crowded s n ∷ []) c.in_err-has_log.field-0.0) count c.in_err-has_log.ensures, refl, refl);
      table = λ _. (c.requires.writable, c.requires.table);
    }

pub returns-then-is_empty : goal.returns-then-is_empty
returns-then-is_empty g c =
    let s = c.args.state.now in
    let shows = (g.D.Device.disk c.args.device.now).shows in
    let count = c.len.ensures.count ∙ ap length (c.due-due.ensures ∙ due_is s shows c.requires.table) in
    let dirty = ap members c.dirty-dirty.ensures ∙ dirty_is s shows c.requires.table in
    let clean = none_dirty s shows (members c.dirty-dirty.result.bits) dirty (sym c.is_empty.ensures ∙ c.if-is_empty.true) in
    record {
      answer = (
        subst (λ (n : ℕ). first_fit (crowded s n ∷ []) ≡ None) count c.in_ok-has_log.ensures,
        inl record { clean = clean; empty = nothing_waits s shows clean; answer = refl; state = refl; device = refl },
      );
      table = λ _. (c.requires.writable, c.requires.table);
    }

pub returns-in_err-truncate_out : goal.returns-in_err-truncate_out
returns-in_err-truncate_out g c =
    let s = c.args.state.now in
    let d = g.D.Device.disk c.args.device.now in
    let e = g.D.Device.disk c.truncate_out.new.device in
    let f = c.in_err-truncate_out.field-0.0 in
    let due = c.due-due.ensures ∙ due_is s d.shows c.requires.table in
    let count = c.len.ensures.count ∙ ap length due in
    let dirty = ap members c.dirty-dirty.ensures ∙ dirty_is s d.shows c.requires.table in
    let p = err_from_is_err_and c.from_residual-in_err-truncate_out.result c.from_residual-in_err-truncate_out.ensures.1 in
    rw (p.1, p.2)
    record {
      answer = pages_cut s _ d e f (subst (λ (n : ℕ). first_fit (crowded s n ∷ []) ≡ None) count c.in_ok-has_log.ensures)
          (some_dirty s d.shows (members c.dirty-dirty.result.bits) dirty (sym c.is_empty.ensures ∙ c.if-is_empty.false))
          (subst (λ (plan : List Act). Tries d plan (Err f) e)
          (plan_is s d.shows (members c.due-due.result.bits) (members c.dirty-dirty.result.bits) due dirty)
          c.in_err-truncate_out.ensures)
          record { off = refl; image = refl; spool = refl; log = refl; pages = refl; busy = refl };
      table = off_stands _ e refl;
    }

pub returns : goal.returns
returns g c =
    let s = c.args.state.now in
    let d = g.D.Device.disk c.args.device.now in
    let e = g.D.Device.disk c.truncate_out.new.device in
    let due = c.due-due.ensures ∙ due_is s d.shows c.requires.table in
    let dirty = ap members c.dirty-dirty.ensures ∙ dirty_is s d.shows c.requires.table in
    let new = c.truncated.ensures in
    let first : Truncated s c.len-2.result c.truncated.new.self =
    record { log = new.log; empty = new.empty; pages = new.pages; image = new.image; busy = new.busy; on = new.on } in
    record {
      answer = (
        subst (λ (n : ℕ). first_fit (crowded s n ∷ []) ≡ None) (c.len.ensures.count ∙ ap length due) c.in_ok-has_log.ensures,
        inr
            record {
              some = some_dirty s d.shows (members c.dirty-dirty.result.bits) dirty (sym c.is_empty.ensures ∙ c.if-is_empty.false);
              answer = c.len-3.ensures.count ∙ ap length dirty;
              done =
                  subst (λ (plan : List Act). Done d plan e)
                  (plan_is s d.shows (members c.due-due.result.bits) (members c.dirty-dirty.result.bits) due dirty)
                  c.in_ok-truncate_out.ensures;
              state = subst (λ (n : ℕ). Truncated s n c.truncated.new.self) (c.len-2.ensures.count ∙ ap length due) first;
            },
      );
      table = λ _.
          truncated_stands s c.truncated.new.self d e (members c.due-due.result.bits) (members c.dirty-dirty.result.bits) c.requires.bounded
          (members_few c.due-due.result.bits) c.in_ok-truncate_out.ensures
          (subst (λ (n : ℕ). Truncated s n c.truncated.new.self) c.len-2.ensures.count first);
    }
