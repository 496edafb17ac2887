-- Each record that follows carries the run on.
use Rattle.std.proofs.Common.{◌≡◌, ℕ, ◌+◌, ◌-◌, ◌%◌, ◌<◌, ◌≤◌, cond, eqb, length, get_or, sym, refl, ap, ◌∙◌, subst, ⊎_elim, mod-lt, arith}
use Rattle.std.proofs.lemmas.Bool.{cases_lt, cases_eq, ne_eqb, cond-false}
use Rattle.device.specs.Disk.{Shown}
use Rattle.record.specs.Kind.{code_of}
use Rattle.journal.specs.declared.note.Note.{Note}
use Rattle.journal.specs.declared.pages.PageTable.{PageTable}
use Rattle.journal.specs.declared.survey.Survey.{Survey}
use Rattle.journal.specs.Log.{log}
use Rattle.journal.specs.Notes.{number_of, blank}
use Rattle.journal.specs.Opening.{Here}
use Rattle.journal.specs.Pages.{Noted}
use Rattle.journal.proofs.Places.{kept}
use Rattle.journal.proofs.Telling.{kind_told, tells_log, kind_some, no_serial}
use Rattle.journal.proofs.Running.{RunningTo, run_begins, run_closes, run_goes, run_ends}
use Rattle.journal.proofs.survey.run_from.Goals as goal

pub loop-serial-init : goal.loop-serial-init
loop-serial-init c =
    let notes = c.args.notes.now in
    let same : c.args.low + 1 - 1 ≡ c.args.low = omega arith in
    record {
      low_is = refl;
      at = ap (λ (k : ℕ). k % length notes) same;
      runs =
          λ shows noted mark.
          subst (λ (t : PageTable). RunningTo (length notes) shows c.args.low (c.args.low + 1) (record { low = c.args.low; last = c.args.low; pages = t }) t)
          (sym c.new.ensures) (run_begins (length notes) shows c.args.low mark);
    }

-- the place of the serial that comes next
next : (n s p q : ℕ) → 1 ≤ s → (s - 1) % n ≡ p → q ≡ (s - 1 + 1) % n → s % n ≡ q
next n s p q some at is = let e : s - 1 + 1 ≡ s = omega arith in sym (is ∙ ap (λ (k : ℕ). k % n) e)

-- the note of a record that was found by its serial has that serial
same_serial : (x : Note) (s k : ℕ) → 1 ≤ k → cond (eqb x.serial s) (number_of x.kind) 0 ≡ k → x.serial ≡ s
same_serial x s k some e =
    ⊎_elim (λ h. h) (λ other. absurd (omega (arith, sym (cond-false (eqb x.serial s) (number_of x.kind) 0 (ne_eqb x.serial s other)) ∙ e))) (cases_eq x.serial s)

pub loop-serial-preserved : goal.loop-serial-preserved
loop-serial-preserved c =
    let notes = c.args.notes.now in
    let n = length notes in
    let l = c.loop-serial in
    let s = l.serial in
    let q = c.next_place-place.result in
    let some : 1 ≤ s = omega (arith, l.auto.serial) in
    let at : s % n ≡ q = next n s l.place q some l.invariant.at (c.next_place-place.ensures (s - 1) c.requires.1 l.invariant.at) in
    let inside : q < n = subst (λ (k : ℕ). k < n) at (mod-lt s c.requires.1) in
    let same : s + 1 - 1 ≡ s = omega arith in
    let k = c.in-Some.kind in
    let v = c.take_in.new.survey in
    let P = λ (shows : ℕ → Shown) (w : Survey). RunningTo n shows c.args.low (s + 1) w c.take_in.new.pages in
    let x : Note = get_or notes q blank in
    let is : x.serial ≡ s = same_serial x s (code_of k) (kind_some k) (sym c.kind_of.ensures ∙ ap number_of c.in-Some.is) in
    record {
      low_is = c.take_in.ensures.low ∙ l.invariant.low_is;
      at = ap (λ (j : ℕ). j % n) same ∙ at;
      runs =
          λ shows noted mark.
          let t = noted.each q inside in
          let kind : (log n shows s).kind ≡ code_of k = kind_told n shows s q x at t ∙ sym c.kind_of.ensures ∙ ap number_of c.in-Some.is in
          let here : Here (log n shows) s = omega (arith, kind, kind_some k) in
          let told : Noted (log n shows s) l.pages c.take_in.new.pages = c.take_in.ensures.told (log n shows s) (tells_log n shows s q x at t here) (sym kind) (kept n shows s here).bare in
          let old = l.invariant.runs shows noted mark in
          ⊎_elim
          (λ (part : code_of k < 2). subst (P shows) (sym (c.take_in.ensures.goes (omega arith))) (run_goes n shows c.args.low s l.survey l.pages c.take_in.new.pages old here told (omega (arith, kind))))
          (λ (ends : 2 ≤ code_of k).
          let made = c.take_in.ensures.closes ends ∙ ap (λ (j : ℕ). record { low = l.survey.low; last = j; pages = c.take_in.new.pages }) is in
          subst (P shows) (sym made) (run_closes n shows c.args.low s l.survey l.pages c.take_in.new.pages old here told (omega (arith, kind))))
          (cases_lt (code_of k) 2);
    }

pub returns-after-loop-serial-clause-runs : goal.returns-after-loop-serial-clause-runs
returns-after-loop-serial-clause-runs c shows noted mark =
    let n = length c.args.notes.now in
    let l = c.loop-serial in
    run_ends n shows c.args.low l.serial l.survey l.pages l.invariant.low_is (l.invariant.runs shows noted mark) (no_serial n shows l.serial c.loop-serial-test.false)

pub returns-in_default-clause-runs : goal.returns-in_default-clause-runs
returns-in_default-clause-runs c shows noted mark =
    let notes = c.args.notes.now in
    let n = length notes in
    let l = c.loop-serial in
    let s = l.serial in
    let q = c.next_place-place.result in
    let some : 1 ≤ s = omega (arith, l.auto.serial) in
    let at : s % n ≡ q = next n s l.place q some l.invariant.at (c.next_place-place.ensures (s - 1) c.requires.1 l.invariant.at) in
    let inside : q < n = subst (λ (k : ℕ). k < n) at (mod-lt s c.requires.1) in
    let gap : (log n shows s).kind ≡ 0 = kind_told n shows s q (get_or notes q blank) at (noted.each q inside) ∙ sym c.kind_of.ensures ∙ ap number_of c.in_default.is in
    run_ends n shows c.args.low s l.survey l.pages l.invariant.low_is (l.invariant.runs shows noted mark) gap
