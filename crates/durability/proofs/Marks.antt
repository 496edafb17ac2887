-- A mark whose low is its own serial is appended: an opening finds the log as it was, or the mark alone over its homes.
use Rattle.std.proofs.Common.{◌≡◌, ℕ, suc, ◌+◌, ◌-◌, ◌/◌, ◌%◌, ◌^◌, ◌<◌, ◌≤◌, ◌⊎◌, List, [], ◌∷◌, sym, refl, ap, ◌∙◌, subst, inl, inr, ⊎_elim, mod-lt, arith}
use Rattle.std.proofs.lemmas.Bool.{cases_eq}
use Rattle.device.specs.Disk.{Shown, spoiled, holds, Among}
use Rattle.device.specs.Trace.{wrote, settled}
use Rattle.record.specs.Entry.{Entry, laid_out}
use Rattle.record.specs.Good.{Sound}
use Rattle.record.proofs.Laws.{found_laid_out}
use Rattle.journal.specs.Log.{said, if_serial, log}
use Rattle.journal.specs.Memory.{applied, replayed, byte_of, from_home}
use Rattle.journal.specs.Opening.{Here}
use Rattle.journal.proofs.Overlay.{overlaid_above}
use Rattle.journal.proofs.Places.{kept, in_log, serial_here, serial_nothing}
use Rattle.recovery.specs.Format.{mark}
use Rattle.durability.specs.Standing.{Firm}
use Rattle.durability.specs.Promises.{marking, Marked, MarkCut}
use Rattle.durability.proofs.Writes.{Written, Spares, left_short, chosen, unwritten, shown_spared, shown_last, quiet_settled, settling_writes}
use Rattle.durability.proofs.Ring.{own_place}
use Rattle.durability.proofs.Opening.{firm_opens}
use Rattle.durability.proofs.Carried.{firm_kept}

abbrev new_mark : ℕ → ℕ → Entry
new_mark last ordinal = mark (record { serial = last + 1; low = last + 1; ordinal = ordinal })

-- the log's record with a serial depends on its place alone
same_there : (n : ℕ) (shows shows' : ℕ → Shown) (s : ℕ) → shows' (s % n) ≡ shows (s % n) → log n shows' s ≡ log n shows s
same_there n shows shows' s e = ap (λ (x : Shown). if_serial s (said n (s % n) x)) e

-- Another sector than the mark's shows what it showed.
abbrev Elsewhere : ℕ → ℕ → (ℕ → Shown) → (ℕ → Shown) → Type 0
Elsewhere n last shows shows' = (i : ℕ) → (i ≡ (last + 1) % n → ⊥) → shows' i ≡ shows i

module _ (n : ℕ) (shows shows' : ℕ → Shown) (low last ordinal : ℕ) (memory : ℕ → ℕ) (f : Firm n shows low last ordinal memory) (else : Elsewhere n last shows shows') where
  place : (last + 1) % n < n
  place = mod-lt (last + 1) (omega (arith, f.some))

  -- homes are no places of the log
  home_same : (p : ℕ) → shows' (n + p) ≡ shows (n + p)
  home_same p = else (n + p) (λ e. omega (arith, place, e))

  -- without the mark the log stands as it did
  unmarked_firm : last + 1 - low + 1 ≤ n → (shows' ((last + 1) % n) ≡ shows ((last + 1) % n)) ⊎ (shows' ((last + 1) % n) ≡ spoiled) → Firm n shows' low last ordinal memory
  unmarked_firm room there =
      firm_kept n shows shows' low last ordinal memory f
      (λ s a b. same_there n shows shows' s (else (s % n) (λ e. own_place n s (last + 1) (omega arith) (omega arith) (sym e))))
      (λ s h.
      let old : shows' (s % n) ≡ shows (s % n) → s ≤ last =
      λ e. f.above s (subst (λ (x : Entry). 1 ≤ x.kind) (same_there n shows shows' s e) h) in
      ⊎_elim
      (λ (at : s % n ≡ (last + 1) % n).
      ⊎_elim
      (λ e. old (ap shows' at ∙ e ∙ ap shows (sym at)))
      (λ (gone : shows' ((last + 1) % n) ≡ spoiled).
      let none = serial_nothing s (said n (s % n) (shows' (s % n))) (ap (λ (x : Shown). said n (s % n) x) (ap shows' at ∙ gone)) in
      absurd (omega (arith, h, ap (λ (x : Entry). x.kind) none)))
      there)
      (λ ne. old (else (s % n) ne))
      (cases_eq (s % n) ((last + 1) % n)))
      (λ p _. inl (home_same p))

  -- with it the log is the mark alone
  module _ (serials : last + 1 < 2 ^ 63) (there : shows' ((last + 1) % n) ≡ holds (laid_out (new_mark last ordinal))) where
    mark_sound : Sound n ((last + 1) % n) (new_mark last ordinal)
    mark_sound =
        let here = f.unbroken last f.from (omega arith) in
        let number = f.number in
        let k = (kept n shows last here).ordinal in
        let some = f.some in
        record {
          placed = record {
            serial_from = omega arith;
            serial_to = serials;
            here = refl;
            low_from = omega arith;
            low_to = omega arith;
            near = omega arith;
            ordinal_below = omega arith;
          };
          fits = record {
            known = (omega arith, omega arith);
            piece = λ h. absurd (omega arith);
            whole = λ h. absurd (omega arith);
            mark = λ _. (refl, refl, refl);
          };
        }

    said_mark : said n ((last + 1) % n) (shows' ((last + 1) % n)) ≡ new_mark last ordinal
    said_mark =
        ap (λ (x : Shown). said n ((last + 1) % n) x) there
        ∙ found_laid_out n ((last + 1) % n) (new_mark last ordinal) mark_sound

    is_mark : log n shows' (last + 1) ≡ new_mark last ordinal
    is_mark = serial_here (last + 1) (new_mark last ordinal) (said n ((last + 1) % n) (shows' ((last + 1) % n))) said_mark refl

    above_mark : (s : ℕ) → Here (log n shows') s → s ≤ last + 1
    above_mark s h =
        ⊎_elim
        (λ (at : s % n ≡ (last + 1) % n).
        let serial = (in_log n shows' s h).0 in
        let marked : (said n (s % n) (shows' (s % n))).serial ≡ last + 1 =
        ap (λ (q : ℕ). (said n q (shows' q)).serial) at ∙ ap (λ (x : Entry). x.serial) said_mark in
        omega arith)
        (λ ne.
        omega (arith, f.above s (subst (λ (x : Entry). 1 ≤ x.kind) (same_there n shows shows' s (else (s % n) ne)) h)))
        (cases_eq (s % n) ((last + 1) % n))

    -- a mark changes no byte
    replayed_mark : (base : ℕ → ℕ) (i : ℕ) → replayed (log n shows') (last + 1) (last + 1 + 1 - (last + 1)) base i ≡ base i
    unfolding replayed
    replayed_mark base i =
        let one : last + 1 + 1 - (last + 1) ≡ suc 0 = omega arith in
        let at : last + 1 + 0 ≡ last + 1 = omega arith in
        ap (λ (k : ℕ). replayed (log n shows') (last + 1) k base i) one
        ∙ ap (λ (s : ℕ). applied (log n shows' s) i (base i)) at
        ∙ ap (λ (x : Entry). applied x i (base i)) is_mark
        ∙ overlaid_above 0 [] i (base i) (omega arith) (omega arith)

    marked_firm : ((i : ℕ) → i < 6144 → from_home n shows i ≡ memory i) → ((p : ℕ) → p < 64 → shows (n + p) ≡ spoiled → ⊥) → Firm n shows' (last + 1) (last + 1) ordinal memory
    marked_firm homes readable =
        let kind : (log n shows' (last + 1)).kind ≡ 4 = ap (λ (x : Entry). x.kind) is_mark in
        let some = f.some in
        record {
          some = some;
          from = omega arith;
          near = omega arith;
          mark = kind;
          unbroken = λ s a b. let e : last + 1 ≡ s = omega arith in subst (λ (x : ℕ). Here (log n shows') x) e (omega arith);
          ends = omega arith;
          above = above_mark;
          named = ap (λ (x : Entry). x.low) is_mark;
          number = ap (λ (x : Entry). x.ordinal) is_mark;
          homes = λ p small gone. absurd (readable p small (sym (home_same p) ∙ gone));
          makes = λ i small.
              replayed_mark (from_home n shows') i ∙ ap (λ (x : Shown). byte_of x (i % 96)) (home_same (i / 96)) ∙ homes i small;
        }

-- the plan's only write is of the mark
marking_only : (n last ordinal i : ℕ) (bytes : List ℕ) → Among (wrote i bytes) (marking n last ordinal) → (i ≡ (last + 1) % n) × (bytes ≡ laid_out (new_mark last ordinal))
marking_only n last ordinal i bytes (inl e) = (cc, cc)
marking_only n last ordinal i bytes (inr h) = absurd (settling_writes i bytes h)

marking_spares : (n last ordinal i : ℕ) → (i ≡ (last + 1) % n → ⊥) → Spares (marking n last ordinal) i
marking_spares n last ordinal i ne bytes h = ne (marking_only n last ordinal i bytes h).0

pub marked : Marked
marked n d e low last ordinal memory b done =
    let acts = marking n last ordinal in
    let bytes = laid_out (new_mark last ordinal) in (
      marked_firm n d.shows e.shows low last ordinal memory b.firm
          (λ i ne. shown_spared d e acts tt done i (marking_spares n last ordinal i ne))
          b.serials
          (shown_last d e [] (settled ∷ []) ((last + 1) % n) bytes tt (settling_writes ((last + 1) % n)) done)
          b.homes
          b.readable,
      quiet_settled d e (wrote ((last + 1) % n) bytes ∷ []) done,
    )

pub mark_cut : MarkCut
mark_cut n d e o low last ordinal memory b short shows choice =
    let acts = marking n last ordinal in
    let p : ℕ = (last + 1) % n in
    let left = left_short d e acts o tt short in
    let else : Elsewhere n last d.shows shows =
    λ i ne. unwritten d e acts b.quiet left shows choice i (marking_spares n last ordinal i ne) in
    let as_before : (shows p ≡ d.shows p) ⊎ (shows p ≡ spoiled) → _ =
    λ there. firm_opens n shows low last ordinal memory (unmarked_firm n d.shows shows low last ordinal memory b.firm else b.room there) in
    ⊎_elim
    (λ same. inl (as_before (inl same)))
    (λ (w : Written acts p (shows p)).
    ⊎_elim
    (λ (new : shows p ≡ holds w.0).
    let there = new ∙ ap holds (marking_only n last ordinal p w.0 w.1).1 in
    inr (firm_opens n shows (last + 1) (last + 1) ordinal memory
    (marked_firm n d.shows shows low last ordinal memory b.firm else b.serials there b.homes b.readable)))
    (λ gone. inl (as_before (inr gone)))
    w.2)
    (chosen d e acts b.quiet left shows choice p)
