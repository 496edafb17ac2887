-- What the sectors show once items were appended, or once power cut that.
use Rattle.std.proofs.Common.{◌≡◌, ℕ, ◌+◌, ◌%◌, ◌<◌, ◌≤◌, ◌⊎◌, List, [], ◌∷◌, ◌++◌, sym, refl, ap, ◌∙◌, subst, inl, inr, ⊎_elim, mod-lt, arith}
use Rattle.std.proofs.lemmas.Bool.{cases_lt, cases_eq, cases_order}
use Rattle.device.specs.Disk.{Disk, Shown, spoiled, holds, Among}
use Rattle.device.specs.Trace.{Act, wrote, settled, Done}
use Rattle.device.proofs.Membership.{among_left, among_split}
use Rattle.record.specs.Entry.{Entry, laid_out}
use Rattle.record.specs.Good.{Sound}
use Rattle.record.proofs.Laws.{found_laid_out}
use Rattle.journal.specs.Log.{nothing, said, if_serial, log}
use Rattle.journal.proofs.Places.{kept, serial_here, serial_else, serial_nothing}
use Rattle.durability.specs.Items.{Item, recorded, appending}
use Rattle.durability.specs.Promises.{BeforeItems, Appended, AppendCut}
use Rattle.durability.proofs.Writes.{Steady, Written, left_done, left_short, chosen, shown_written, quiet_settled}
use Rattle.durability.proofs.Ring.{own_place}
use Rattle.durability.proofs.Growth.{At, Maybe, Present, at_bounds, at_fits, at_same, reaches}
use Rattle.durability.proofs.Grown.{Grown, grown_opens, grown_firm}

-- the plan of an append
abbrev plan : ℕ → ℕ → ℕ → List Item → List Act
plan n low last xs = appending n low last xs ++ (settled ∷ [])

steady : (n low last : ℕ) (xs : List Item) → Steady (plan n low last xs)
steady n low last [] = tt
steady n low last (x ∷ xs) = steady n low (last + 1) xs

-- These bytes are those of the item that gets serial s, whose place is sector p.
record ItemOf (n low last : ℕ) (xs : List Item) (p : ℕ) (bytes : List ℕ) : Type 0 where
  serial : ℕ
  item : Item
  at : At last xs serial item
  place : serial % n ≡ p
  bytes_are : bytes ≡ laid_out (recorded low serial item)

same_sector : (p q : ℕ) (b c : List ℕ) → wrote p b ≡ wrote q c → (p ≡ q) × (b ≡ c)
same_sector p q b c e = (cc, cc)

-- a write of the plan is one item's, and each item has its write
written_item : (n low last : ℕ) (xs : List Item) (p : ℕ) (bytes : List ℕ) → Among (wrote p bytes) (appending n low last xs) → ItemOf n low last xs p bytes
written_item n low last [] p bytes h = absurd h
written_item n low last (x ∷ xs) p bytes (inl e) =
    let same = same_sector p ((last + 1) % n) bytes (laid_out (recorded low (last + 1) x)) e in
    record { serial = last + 1; item = x; at = inl (refl, refl); place = sym same.0; bytes_are = same.1 }
written_item n low last (x ∷ xs) p bytes (inr h) =
    let w = written_item n low (last + 1) xs p bytes h in
    record { serial = w.serial; item = w.item; at = inr w.at; place = w.place; bytes_are = w.bytes_are }

item_written : (n low last : ℕ) (xs : List Item) (s : ℕ) (x : Item) → At last xs s x → Among (wrote (s % n) (laid_out (recorded low s x))) (appending n low last xs)
item_written n low last [] s x h = absurd h
item_written n low last (y ∷ ys) s x (inl h) =
    inl (ap (λ (t : ℕ). wrote (t % n) (laid_out (recorded low t x))) h.0 ∙ ap (λ (z : Item). wrote ((last + 1) % n) (laid_out (recorded low (last + 1) z))) h.1)
item_written n low last (y ∷ ys) s x (inr h) = inr (item_written n low (last + 1) ys s x h)

planned : (n low last : ℕ) (xs : List Item) (p : ℕ) (bytes : List ℕ) → Among (wrote p bytes) (plan n low last xs) → ItemOf n low last xs p bytes
planned n low last xs p bytes h =
    ⊎_elim
    (λ a. written_item n low last xs p bytes a)
    (λ (b : (wrote p bytes ≡ settled) ⊎ ⊥). ⊎_elim (λ e. absurd (let z : ◌≡◌ {A = ℕ} 0 1 = cc in omega arith)) (λ c. absurd c) b)
    (among_split (wrote p bytes) (appending n low last xs) (settled ∷ []) h)

module _ (n : ℕ) (d : Disk) (low last ordinal : ℕ) (memory : ℕ → ℕ) (xs : List Item) (b : BeforeItems n d low last ordinal memory xs) where
  -- an item's record may stand at its place
  sound_item : (s : ℕ) (x : Item) → At last xs s x → Sound n (s % n) (recorded low s x)
  sound_item s x h =
      let f = b.firm in
      let k = kept n d.shows last (f.unbroken last f.from (omega arith)) in
      let fit = at_fits last xs s x b.appendable h in
      record {
        placed =
            record {
              serial_from = omega (arith, fit.after);
              serial_to = omega (arith, fit.within, b.serials);
              here = refl;
              low_from = omega (arith, k.low_from, f.named);
              low_to = omega (arith, fit.after, f.from);
              near = omega (arith, fit.after, fit.within, f.from, b.room);
              ordinal_below = fit.ordinal;
            };
        fits = fit.fits;
      }

  said_item : (s : ℕ) (x : Item) → At last xs s x → said n (s % n) (holds (laid_out (recorded low s x))) ≡ recorded low s x
  said_item s x h = found_laid_out n (s % n) (recorded low s x) (sound_item s x h)

  -- what a write of the plan leaves in its sector: the item's record, or nothing
  said_written : (p : ℕ) (shown : Shown) → Written (plan n low last xs) p shown → (s : ℕ) × (x : Item) × At last xs s x × (s % n ≡ p) × ((said n p shown ≡ recorded low s x) ⊎ (said n p shown ≡ nothing))
  said_written p shown w =
      let i = planned n low last xs p w.0 w.1 in (
        i.serial,
        i.item,
        i.at,
        i.place,
        ⊎_elim
            (λ (e : shown ≡ holds w.0).
            inl (ap (λ (z : Shown). said n p z) (e ∙ ap holds i.bytes_are)
            ∙ subst (λ (q : ℕ). said n q (holds (laid_out (recorded low i.serial i.item))) ≡ recorded low i.serial i.item) i.place (said_item i.serial i.item i.at)))
            (λ (e : shown ≡ spoiled). inr (ap (λ (z : Shown). said n p z) e))
            w.2,
      )

  module _ (shows : ℕ → Shown) (each : (i : ℕ) → (shows i ≡ d.shows i) ⊎ Written (plan n low last xs) i (shows i)) where
    -- a place that was not written says what it said
    same_there : (s : ℕ) → shows (s % n) ≡ d.shows (s % n) → log n shows s ≡ log n d.shows s
    same_there s e = ap (λ (z : Shown). if_serial s (said n (s % n) z)) e

    old_kept : (s : ℕ) → low ≤ s → s ≤ last → log n shows s ≡ log n d.shows s
    old_kept s a k =
        ⊎_elim
        (λ e. same_there s e)
        (λ (w : Written (plan n low last xs) (s % n) (shows (s % n))).
        let i = planned n low last xs (s % n) w.0 w.1 in
        let bounds = at_bounds last xs i.serial i.item i.at in
        absurd (own_place n s i.serial (omega (arith, bounds)) (omega (arith, bounds, b.room, b.firm.from)) i.place))
        (each (s % n))

    none_above : (s : ℕ) → last < s → (log n d.shows s).kind ≡ 0
    none_above s h = ⊎_elim (λ k. absurd (omega (arith, b.firm.above s k))) (λ k. omega arith) (cases_lt 0 (log n d.shows s).kind)

    new_there : Maybe low (log n shows) last xs
    new_there s h =
        ⊎_elim
        (λ e. inl (ap (λ (y : Entry). y.kind) (same_there s e) ∙ none_above s h))
        (λ (w : Written (plan n low last xs) (s % n) (shows (s % n))).
        let i = said_written (s % n) (shows (s % n)) w in
        let t = i.0 in
        let there = said n (s % n) (shows (s % n)) in
        ⊎_elim
        (λ (is : there ≡ recorded low t i.1).
        ⊎_elim
        (λ (e : t ≡ s).
        inr (i.1, subst (λ (z : ℕ). At last xs z i.1) e i.2, serial_here s (recorded low t i.1) there is e ∙ ap (λ (z : ℕ). recorded low z i.1) e))
        (λ ne. inl (ap (λ (y : Entry). y.kind) (serial_else s (recorded low t i.1) there is ne)))
        (cases_eq t s))
        (λ (is : there ≡ nothing). inl (ap (λ (y : Entry). y.kind) (serial_nothing s there is)))
        i.4)
        (each (s % n))

    homes_kept : (p : ℕ) → shows (n + p) ≡ d.shows (n + p)
    homes_kept p =
        ⊎_elim
        (λ e. e)
        (λ (w : Written (plan n low last xs) (n + p) (shows (n + p))).
        let i = planned n low last xs (n + p) w.0 w.1 in
        absurd (omega (arith, i.place, mod-lt i.serial b.firm.some)))
        (each (n + p))

    grown : Grown n d.shows shows low last xs
    grown = record { old = old_kept; new = new_there; homes = homes_kept }

  -- each item's own write is the only one to its place
  only_write : (s : ℕ) (x : Item) → At last xs s x → (other : List ℕ) → Among (wrote (s % n) other) (plan n low last xs) → other ≡ laid_out (recorded low s x)
  only_write s x h other a =
      let i = planned n low last xs (s % n) other a in
      let t = i.serial in
      let mine = at_bounds last xs s x h in
      let its = at_bounds last xs t i.item i.at in
      ⊎_elim
      (λ (e : t ≡ s).
      i.bytes_are
      ∙ ap (λ (z : ℕ). laid_out (recorded low z i.item)) e
      ∙ ap (λ (z : Item). laid_out (recorded low s z)) (at_same last xs s i.item x (subst (λ (z : ℕ). At last xs z i.item) e i.at) h))
      (λ (ne : (t < s) ⊎ (s < t)).
      absurd
      (⊎_elim
      (λ lt. own_place n t s lt (omega (arith, mine, its, b.room, b.firm.from)) (sym i.place))
      (λ gt. own_place n s t gt (omega (arith, mine, its, b.room, b.firm.from)) i.place)
      ne))
      (cases_order t s)

  all_there : (e : Disk) → Done d (plan n low last xs) e → Present low (log n e.shows) last xs
  all_there e done s x h =
      let one = among_left (wrote (s % n) (laid_out (recorded low s x))) (appending n low last xs) (settled ∷ []) (item_written n low last xs s x h) in
      let shown = shown_written d e (plan n low last xs) (s % n) (laid_out (recorded low s x)) (steady n low last xs) one (only_write s x h) done in
      serial_here s (recorded low s x) (said n (s % n) (e.shows (s % n))) (ap (λ (z : Shown). said n (s % n) z) shown ∙ said_item s x h) refl

pub appended : Appended
appended n d e low last ordinal memory xs b whole done =
    let left = left_done d e (plan n low last xs) (steady n low last xs) done in
    let each = chosen d e (plan n low last xs) b.quiet left e.shows (λ i. inl refl) in (
      grown_firm n d.shows e.shows low last ordinal memory xs b.firm (grown n d low last ordinal memory xs b e.shows each) b.room b.appendable (all_there n d low last ordinal memory xs b e done) whole,
      quiet_settled d e (appending n low last xs) done,
    )

-- then the log says what it said, and after that the items
pub appended_says : (n : ℕ) (d e : Disk) (low last ordinal : ℕ) (memory : ℕ → ℕ) (xs : List Item) → BeforeItems n d low last ordinal memory xs
    → Done d (appending n low last xs ++ (settled ∷ [])) e
    → ((s : ℕ) → low ≤ s → s ≤ last → log n e.shows s ≡ log n d.shows s) × Present low (log n e.shows) last xs
appended_says n d e low last ordinal memory xs b done =
    let left = left_done d e (plan n low last xs) (steady n low last xs) done in
    let each = chosen d e (plan n low last xs) b.quiet left e.shows (λ i. inl refl) in
    ((grown n d low last ordinal memory xs b e.shows each).old, all_there n d low last ordinal memory xs b e done)

pub append_cut : AppendCut
append_cut n d e o low last ordinal memory xs b cut shows choice =
    let left = left_short d e (plan n low last xs) o (steady n low last xs) cut in
    let g = grown n d low last ordinal memory xs b shows (chosen d e (plan n low last xs) b.quiet left shows choice) in
    let r = reaches low (log n shows) last xs b.appendable g.new in (
      r.0,
      r.1,
      record { all = r.2.all; whole = r.2.whole },
      grown_opens n d.shows shows low last ordinal memory xs b.firm g r.0 r.1 r.2,
    )
