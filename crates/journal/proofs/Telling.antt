-- What the notes of a log's places tell of the log.
use Rattle.std.proofs.Common.{◌≡◌, ℕ, ◌%◌, ◌^◌, ◌≤◌, cond, eqb, ltb, List, sym, refl, ap, ◌∙◌, subst, ⊎_elim, mod-lt, lit≤, arith}
use Rattle.std.proofs.lemmas.Bool.{cases_lt, cases_eq, eq-eqb, ne_eqb, le-ltb, cond-true, cond-false}
use Rattle.device.specs.Disk.{Shown, spoiled, holds}
use Rattle.record.specs.Entry.{Entry, reads_as}
use Rattle.record.specs.Found.{found}
use Rattle.record.specs.Good.{Good, Sound}
use Rattle.record.specs.Kind.{code_of}
use Rattle.record.specs.Label.{Passed, Says}
use Rattle.record.specs.declared.label.Kind.{Kind}
use Rattle.record.specs.declared.label.Kind.TheVariants as kinds
use Rattle.record.specs.declared.label.Label.{Label}
use Rattle.record.proofs.Laws.{good_size, found_cases}
use Rattle.journal.specs.declared.note.Note.{Note}
use Rattle.journal.specs.declared.note.Latest.{Latest}
use Rattle.journal.specs.Log.{nothing, said, if_serial, log}
use Rattle.journal.specs.Notes.{number_of, Tells, TellsOf, blank, later, met, Topped}
use Rattle.journal.specs.Opening.{Here, Names, HasNoLog}
use Rattle.journal.proofs.Places.{sound, said_good, said_bad, at_place, in_log, kept}

-- the note of a sector

pub bad_noted : (n p : ℕ) (bytes : List ℕ) → (Good n p bytes → ⊥) → Tells (said n p (holds bytes)) blank
bad_noted n p bytes b =
    subst (λ (e : Entry). Tells e blank) (sym (said_bad n p bytes b)) (record { serial = refl; kind = refl; page = refl; offset = refl; size = refl })

pub bad_met : (n p : ℕ) (bytes : List ℕ) (x : Latest) → (Good n p bytes → ⊥) → x ≡ met (said n p (holds bytes)) x
bad_met n p bytes x b =
    subst (λ (e : Entry). x ≡ met e x) (sym (said_bad n p bytes b)) (sym (cond-false (ltb x.serial 0) (record { serial = 0; low = 0 }) x (le-ltb x.serial 0 (omega arith))))

label_noted : (n p : ℕ) (bytes : List ℕ) (l : Label) (x : Note) → Passed n p bytes l → TellsOf l x → Tells (reads_as bytes) x
unfolding reads_as
label_noted n p bytes l x h t =
    record {
      serial = t.serial ∙ h.says.serial;
      kind = ap number_of t.kind ∙ h.says.kind;
      page = t.page ∙ h.says.page;
      offset = t.offset ∙ h.says.offset;
      size = t.size ∙ h.says.size ∙ sym (good_size n p bytes h.good);
    }

pub good_noted : (n p : ℕ) (bytes : List ℕ) (l : Label) (x : Note) → Passed n p bytes l → TellsOf l x → Tells (said n p (holds bytes)) x
good_noted n p bytes l x h t = subst (λ (e : Entry). Tells e x) (sym (said_good n p bytes h.good)) (label_noted n p bytes l x h t)

label_met : (bytes : List ℕ) (l : Label) (x : Latest) → Says bytes l → later l.head.serial l.head.low x ≡ met (reads_as bytes) x
unfolding reads_as
label_met bytes l x says = let s = says.serial in let w = says.low in rw (s, w) refl

pub good_met : (n p : ℕ) (bytes : List ℕ) (l : Label) (x : Latest) → Passed n p bytes l → later l.head.serial l.head.low x ≡ met (said n p (holds bytes)) x
good_met n p bytes l x h = label_met bytes l x h.says ∙ ap (λ (e : Entry). met e x) (sym (said_good n p bytes h.good))

-- the kind of the record with a serial, by the note of its place
pub kind_told : (n : ℕ) (shows : ℕ → Shown) (s p : ℕ) (x : Note) → s % n ≡ p → Tells (said n p (shows p)) x → (log n shows s).kind ≡ cond (eqb x.serial s) (number_of x.kind) 0
kind_told n shows s p x at t =
    ap (λ (q : ℕ). (if_serial s (said n q (shows q))).kind) at
    ∙ ⊎_elim
    (λ (same : x.serial ≡ s).
    let a = cond-true (eqb (said n p (shows p)).serial s) (said n p (shows p)) nothing (eq-eqb _ s (sym t.serial ∙ same)) in
    let b = cond-true (eqb x.serial s) (number_of x.kind) 0 (eq-eqb x.serial s same) in
    ap (λ (e : Entry). e.kind) a ∙ sym t.kind ∙ sym b)
    (λ other.
    let a = cond-false (eqb (said n p (shows p)).serial s) (said n p (shows p)) nothing (ne_eqb _ s (λ e. other (t.serial ∙ e))) in
    let b = cond-false (eqb x.serial s) (number_of x.kind) 0 (ne_eqb x.serial s other) in
    ap (λ (e : Entry). e.kind) a ∙ sym b)
    (cases_eq x.serial s)

-- a record with a serial is what its place's note tells of
pub tells_log : (n : ℕ) (shows : ℕ → Shown) (s p : ℕ) (x : Note) → s % n ≡ p → Tells (said n p (shows p)) x → Here (log n shows) s → Tells (log n shows s) x
tells_log n shows s p x at t here =
    subst (λ (e : Entry). Tells e x) (ap (λ (q : ℕ). said n q (shows q)) (sym at) ∙ sym (in_log n shows s here).1) t

pub kind_some : (k : Kind) → 1 ≤ code_of k
kind_some kinds.More = lit≤ tt
kind_some kinds.Last = lit≤ tt
kind_some kinds.Whole = lit≤ tt
kind_some kinds.Mark = lit≤ tt

-- no record has a serial past the last
pub no_serial : (n : ℕ) (shows : ℕ → Shown) (s : ℕ) → 2 ^ 63 ≤ s → (log n shows s).kind ≡ 0
no_serial n shows s past =
    ⊎_elim (λ here. absurd (omega (arith, (kept n shows s here).to))) (λ none. omega arith) (cases_lt 0 (log n shows s).kind)

-- the latest record of all

some_serial : (n p : ℕ) (x : Shown) → 1 ≤ (said n p x).serial → 1 ≤ (said n p x).kind
some_serial n p spoiled h = absurd (omega arith)
some_serial n p (holds bytes) h =
    ⊎_elim (λ none. absurd (omega (arith, ap (λ (e : Entry). e.serial) none))) (λ (s : Sound n p (found n p bytes)). s.fits.known.0) (found_cases n p bytes)

serial_none : (n : ℕ) (shows : ℕ → Shown) (p : ℕ) → (said n p (shows p)).serial ≤ 0 → (said n p (shows p)).kind ≡ 0
serial_none n shows p h =
    ⊎_elim
    (λ some. absurd (omega (arith, (sound n p (shows p) some).placed.serial_from)))
    (λ none. omega arith)
    (cases_lt 0 (said n p (shows p)).kind)

pub no_log : (n : ℕ) (shows : ℕ → Shown) (x : Latest) → Topped n shows n x → x.serial ≡ 0 → HasNoLog n shows
no_log n shows x top none s =
    ⊎_elim
    (λ here.
    let is = in_log n shows s here in
    let some : 1 ≤ n = omega (arith, (kept n shows s here).near) in
    let kind = serial_none n shows (s % n) (omega (arith, top.greatest (s % n) (mod-lt s some))) in
    absurd (omega (arith, ap (λ (e : Entry). e.kind) is.1, here)))
    (λ none. omega arith)
    (cases_lt 0 (log n shows s).kind)

pub names_low : (n : ℕ) (shows : ℕ → Shown) (x : Latest) → Topped n shows n x → 1 ≤ x.serial → Names (log n shows) x.low
names_low n shows x top some =
    let m = top.some some in
    let e = said n m.place (shows m.place) in
    let here : 1 ≤ e.kind = some_serial n m.place (shows m.place) (omega (arith, m.serial)) in
    let is : log n shows x.serial ≡ e = subst (λ (s : ℕ). log n shows s ≡ e) m.serial (at_place n shows m.place here).1 in
    record {
      top = x.serial;
      here = subst (λ (d : Entry). 1 ≤ d.kind) (sym is) here;
      greatest = λ s h. let i = in_log n shows s h in let n1 : 1 ≤ n = omega (arith, (kept n shows s h).near) in omega (arith, i.0, top.greatest (s % n) (mod-lt s n1));
      named = ap (λ (d : Entry). d.low) is ∙ m.low;
    }
