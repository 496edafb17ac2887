-- What is known of the record at a place of the log, and of the record with a serial.
use Rattle.std.proofs.Common.{◌≡◌, ℕ, zero, suc, ◌+◌, ◌-◌, ◌%◌, ◌^◌, ◌<◌, ◌≤◌, eqb, ◌⊎◌, List, length, replicate, sym, refl, ap, ◌∙◌, subst, inl, inr, ⊎_elim, mod-lt, arith}
use Rattle.std.proofs.lemmas.Bool.{cases_lt, cases_Bool, eqb-true, eq-eqb, ne_eqb, cond-true, cond-false, cond_both}
use Rattle.device.specs.Disk.{Shown, spoiled, holds}
use Rattle.record.specs.Entry.{Entry, reads_as}
use Rattle.record.specs.Good.{Good, Sound}
use Rattle.record.proofs.Laws.{found_good, found_bad, kind_good, good_sound, zeros_bad}
use Rattle.journal.specs.Log.{nothing, said, if_serial, log}
use Rattle.journal.specs.Opening.{Here}

-- a sector that is good says what it reads as, and any other says nothing

pub said_good : (n p : ℕ) (bytes : List ℕ) → Good n p bytes → said n p (holds bytes) ≡ reads_as bytes
said_good n p bytes g = found_good n p bytes g

pub said_bad : (n p : ℕ) (bytes : List ℕ) → (Good n p bytes → ⊥) → said n p (holds bytes) ≡ nothing
said_bad n p bytes b = found_bad n p bytes b

pub said_zeros : (n p : ℕ) → said n p (holds (replicate 128 0)) ≡ nothing
said_zeros n p = said_bad n p (replicate 128 0) (zeros_bad n p)

-- a record at a place keeps the rules of the place and of its kind

pub sound : (n p : ℕ) (x : Shown) → 1 ≤ (said n p x).kind → Sound n p (said n p x)
sound n p spoiled h = absurd (omega arith)
sound n p (holds bytes) h =
    let g = kind_good n p bytes h in
    subst (λ (e : Entry). Sound n p e) (sym (found_good n p bytes g)) (good_sound n p bytes g)

-- a log with no places holds nothing
pub no_places : (p : ℕ) (x : Shown) → said 0 p x ≡ nothing
no_places p spoiled = refl
no_places p (holds bytes) = said_bad 0 p bytes (λ g. omega (arith, g.placed.near))

-- the record with a serial is the one at its place, if that has this serial

pub serial_here : (s : ℕ) (e e' : Entry) → e' ≡ e → e.serial ≡ s → if_serial s e' ≡ e
serial_here s e e' same h = ap (if_serial s) same ∙ cond-true (eqb e.serial s) e nothing (eq-eqb e.serial s h)

pub serial_else : (s : ℕ) (e e' : Entry) → e' ≡ e → (e.serial ≡ s → ⊥) → if_serial s e' ≡ nothing
serial_else s e e' same h = ap (if_serial s) same ∙ cond-false (eqb e.serial s) e nothing (ne_eqb e.serial s h)

pub serial_nothing : (s : ℕ) (e : Entry) → e ≡ nothing → if_serial s e ≡ nothing
serial_nothing s e same = ap (if_serial s) same ∙ cond_both (eqb 0 s) nothing nothing (λ (x : Entry). x ≡ nothing) (λ _. refl) (λ _. refl)

-- a log with no places has no record
pub empty_log : (n : ℕ) (shows : ℕ → Shown) (s : ℕ) → n ≡ 0 → log n shows s ≡ nothing
empty_log n shows s h =
    subst (λ (k : ℕ). log k shows s ≡ nothing) (sym h) (serial_nothing s (said 0 (s % 0) (shows (s % 0))) (no_places (s % 0) (shows (s % 0))))

found_serial : (s : ℕ) (e : Entry) → 1 ≤ (if_serial s e).kind → e.serial ≡ s
found_serial s e h =
    ⊎_elim
    (λ t. eqb-true e.serial s t)
    (λ t. absurd (omega (arith, h, ap (λ (x : Entry). x.kind) (cond-false (eqb e.serial s) e nothing t))))
    (cases_Bool (eqb e.serial s))

-- what a place holds is the log's record with its serial
pub at_place : (n : ℕ) (shows : ℕ → Shown) (p : ℕ) → 1 ≤ (said n p (shows p)).kind → ((said n p (shows p)).serial % n ≡ p) × (log n shows (said n p (shows p)).serial ≡ said n p (shows p))
at_place n shows p h =
    let here = (sound n p (shows p) h).placed.here in (
      here,
      ap (λ (q : ℕ). if_serial (said n p (shows p)).serial (said n q (shows q))) here
          ∙ serial_here (said n p (shows p)).serial (said n p (shows p)) (said n p (shows p)) refl refl,
    )

-- and the log's record with a serial is what its place holds
pub in_log : (n : ℕ) (shows : ℕ → Shown) (s : ℕ) → Here (log n shows) s → ((said n (s % n) (shows (s % n))).serial ≡ s) × (log n shows s ≡ said n (s % n) (shows (s % n)))
in_log n shows s h =
    let e = said n (s % n) (shows (s % n)) in
    let same = found_serial s e h in
    (same, serial_here s e e refl same)

-- All that is known of the record with serial s in a log of n places.
pub record Kept (n s : ℕ) (e : Entry) : Type 0 where
  pub serial : e.serial ≡ s
  pub from : 1 ≤ s
  pub to : s < 2 ^ 63
  pub low_from : 1 ≤ e.low
  pub low_to : e.low ≤ s
  pub near : s - e.low < n
  pub ordinal : e.ordinal < s
  pub known : (1 ≤ e.kind) × (e.kind ≤ 4)
  pub page : e.page < 64
  pub some : e.kind ≤ 3 → 1 ≤ length e.bytes
  pub within : e.offset + length e.bytes ≤ 96
  pub whole : e.kind ≡ 3 → length e.bytes ≡ 96
  pub start : length e.bytes ≡ 96 → e.offset ≡ 0
  pub bare : e.kind ≡ 4 → length e.bytes ≡ 0

kept_sound : (n p s : ℕ) (e : Entry) → e.serial ≡ s → Sound n p e → Kept n s e
kept_sound n p s e same h =
    let placed = h.placed in
    let fits = h.fits in
    let mark-or-piece : (e.kind ≡ 4) ⊎ (e.kind ≤ 3) = ⊎_elim (λ k. inl (omega (arith, fits.known))) inr (cases_lt 3 e.kind) in
    record {
      serial = same;
      from = omega (arith, placed.serial_from);
      to = omega (arith, placed.serial_to);
      low_from = placed.low_from;
      low_to = omega (arith, placed.low_to);
      near = omega (arith, placed.near);
      ordinal = omega (arith, placed.ordinal_below);
      known = fits.known;
      page = ⊎_elim (λ k. omega (arith, (fits.mark k).0)) (λ k. (fits.piece k).0) mark-or-piece;
      some = λ k. (fits.piece k).1;
      within = ⊎_elim (λ k. omega (arith, (fits.mark k).1, (fits.mark k).2)) (λ k. (fits.piece k).2) mark-or-piece;
      whole = fits.whole;
      start = λ l. ⊎_elim (λ k. (fits.mark k).1) (λ k. omega (arith, (fits.piece k).2)) mark-or-piece;
      bare = λ k. (fits.mark k).2;
    }

pub kept : (n : ℕ) (shows : ℕ → Shown) (s : ℕ) → Here (log n shows) s → Kept n s (log n shows s)
kept n shows s h =
    let e = said n (s % n) (shows (s % n)) in
    let is = in_log n shows s h in
    let here : 1 ≤ e.kind = subst (λ (x : Entry). 1 ≤ x.kind) is.1 h in
    subst (λ (x : Entry). Kept n s x) (sym is.1) (kept_sound n (s % n) s e is.0 (sound n (s % n) (shows (s % n)) here))

-- the log depends on what its own places show, and on nothing else

same_said : (n p : ℕ) (shows shows' : ℕ → Shown) → ((q : ℕ) → q < n → shows' q ≡ shows q) → p < n → said n p (shows' p) ≡ said n p (shows p)
same_said n p shows shows' same h = ap (λ (x : Shown). said n p x) (same p h)

pub same_log : (n : ℕ) (shows shows' : ℕ → Shown) → ((p : ℕ) → p < n → shows' p ≡ shows p) → (s : ℕ) → log n shows' s ≡ log n shows s
same_log zero shows shows' same s =
    ap (λ (e : Entry). if_serial s e) (no_places (s % 0) (shows' (s % 0)) ∙ sym (no_places (s % 0) (shows (s % 0))))
same_log (suc n) shows shows' same s =
    ap (λ (e : Entry). if_serial s e) (same_said (suc n) (s % suc n) shows shows' same (mod-lt s (omega arith)))
