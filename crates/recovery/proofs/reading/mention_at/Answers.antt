-- What the label says is what the record says.
use Rattle.std.proofs.Common.{◌≡◌, ℕ, List, eqb, sym, ap, ◌∙◌, subst, rules}
use Rattle.record.specs.Entry.{Entry, reads_as}
use Rattle.record.specs.Label.{Passed}
use Rattle.record.specs.declared.label.Label.{Label}
use Rattle.record.proofs.Laws.{good_size}
use Rattle.device.specs.Disk.{holds}
use Rattle.journal.specs.Log.{said}
use Rattle.journal.proofs.Places.{said_good, said_bad, serial_here, serial_else, serial_nothing}
use Rattle.recovery.specs.Reading.{Says}
use Rattle.recovery.proofs.reading.mention_at.Goals as goal

label_serial : (n p : ℕ) (bytes : List ℕ) (l : Label) → Passed n p bytes l → (reads_as bytes).serial ≡ l.head.serial
unfolding reads_as
label_serial n p bytes l h = sym h.says.serial

label_says : (n p : ℕ) (bytes : List ℕ) (l : Label) → Passed n p bytes l → Says (reads_as bytes) (record { kind = l.kind; page = l.page; whole = eqb l.length 96 })
unfolding reads_as
label_says n p bytes l h =
    record { kind = h.says.kind; page = h.says.page; whole = ap (λ (k : ℕ). eqb k 96) (h.says.size ∙ sym (good_size n p bytes h.good)) }

pub returns-in_err-label : goal.returns-in_err-label
returns-in_err-label c =
    let none = serial_nothing c.args.serial (said c.args.places c.args.place (holds c.args.sector.now)) (said_bad c.args.places c.args.place c.args.sector.now c.in_err-label.ensures) in
    search rules

pub returns-then-label-serial : goal.returns-then-label-serial
returns-then-label-serial c =
    let n = c.args.places in
    let p = c.args.place in
    let b = c.args.sector.now in
    let h = c.in_ok-label.ensures in
    serial_else c.args.serial (reads_as b) (said n p (holds b)) (said_good n p b h.good)
    (λ e. c.if-label-serial.true (sym (label_serial n p b c.in_ok-label.label h) ∙ e))

pub returns : goal.returns
returns c =
    let n = c.args.places in
    let p = c.args.place in
    let b = c.args.sector.now in
    let l = c.in_ok-label.label in
    let h = c.in_ok-label.ensures in
    let here = serial_here c.args.serial (reads_as b) (said n p (holds b)) (said_good n p b h.good) (label_serial n p b l h ∙ c.if-label-serial.false) in
    subst (λ (e : Entry). Says e (record { kind = l.kind; page = l.page; whole = eqb l.length 96 })) (sym here) (label_says n p b l h)
