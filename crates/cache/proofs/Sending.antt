-- Held sectors sent down one after another: what was done below, and what the cache shows after it.
use Rattle.std.proofs.Common.{◌≡◌, ℕ, true, false, List, [], ◌∷◌, ◌++◌, map, Ok, Err, sym, refl, ap, ◌∙◌, subst, inl, inr}
use Rattle.std.proofs.lemmas.List.{append-nil, append_assoc, map-append}
use Rattle.device.specs.declared.fault.DeviceFault.{DeviceFault}
use Rattle.device.specs.declared.fault.DeviceFault.TheVariants.{Power, Misaddressed, Unfit, Spoiled}
use Rattle.device.specs.Disk.{Disk, Plate, Among, Stands}
use Rattle.device.specs.Meaning.{Answer, NothingNew, Settled, Failed, Barrier, on_after, told_after}
use Rattle.device.specs.Trace.{Act, settled, Cut, Done, CutShort}
use Rattle.device.proofs.Changes.{changed_cut, cut_origin, faded_failed}
use Rattle.device.proofs.Plans.{done_append, cut_after, done_plate}
use Rattle.cache.specs.declared.held.Slot.{Slot}
use Rattle.cache.specs.State.{State, laid, over, plate_over, disk_of}
use Rattle.cache.specs.Exact.{sends, empties, next, Emptied, CutOff, NotEmptied, Barriers}
use Rattle.cache.specs.Steps.{SentOne, SendsOne}
use Rattle.cache.proofs.Calls.{one_shows, one_old}
use Rattle.cache.proofs.Overlay as lay

-- Some held sectors were sent down, and nothing else was done.
pub record Sent (c c' : State) : Type 0 where
  pub sent : List Slot
  pub split : c.held ≡ sent ++ c'.held
  pub done : Done c.below (map sends sent) c'.below
  pub was_on : c.on ≡ true
  pub on : c'.on ≡ true
  pub told : c'.told ≡ c.told

pub sent_more : (c m c' : State) → Sent c m → SentOne m c' → Sent c c'
sent_more c m c' w one =
    record {
      sent = w.sent ++ one.oldest ∷ [];
      split = w.split ∙ ap (λ (h : List Slot). w.sent ++ h) one.held ∙ sym (append_assoc w.sent (one.oldest ∷ []) c'.held);
      done =
          subst (λ (plan : List Act). Done c.below plan c'.below) (sym (map-append sends w.sent (one.oldest ∷ [])))
          (done_append c.below m.below c'.below (map sends w.sent) (sends one.oldest ∷ []) w.done (c'.below, one.below, refl));
      was_on = w.was_on;
      on = one.on;
      told = one.told ∙ w.told;
    }

-- a disk to which slots were written shows what it showed with them laid over
sent_shows : (d : Disk) (ls : List Slot) (e : Disk) → Done d (map sends ls) e → (i : ℕ) → e.shows i ≡ (over d ls).shows i
sent_shows d [] e q i = ap (λ (x : Disk). x.shows i) q
sent_shows d (l ∷ ls) e (m, w, more) i = sent_shows m ls e more i ∙ one_shows d m l ls w i

sent_old : (d : Disk) (ls : List Slot) (e : Disk) → Done d (map sends ls) e → (i : ℕ) → NothingNew (over d ls) e i
sent_old d [] e q i x st = subst (λ (y : Disk). Stands y i x) q st
sent_old d (l ∷ ls) e (m, w, more) i x st = one_old d m l ls w i x (sent_old m ls e more i x st)

-- all were sent down, and settled
emptied : (c m c' : State) → Sent c m → m.held ≡ [] → Settled m.below c'.below → c'.held ≡ [] → c'.on ≡ true → c'.told ≡ m.told
    → Settled (disk_of c) (disk_of c') × Emptied c c'
emptied c m c' w none s left on told =
    let all : c.held ≡ w.sent = w.split ∙ ap (λ (h : List Slot). w.sent ++ h) none ∙ append-nil w.sent in
    let done : Done c.below (map sends c.held) m.below = rw all w.done in (
      rw left
          (record {
            was_on = w.was_on;
            on = on;
            plate = ap plate_over (s.plate ∙ done_plate c.below m.below (map sends c.held) done);
            kept = λ i. s.kept i ∙ sent_shows c.below c.held m.below done i;
            quiet = s.quiet;
          }),
      record {
        was_on = w.was_on;
        below = done_append c.below m.below c'.below (map sends c.held) (settled ∷ []) done (c'.below, s, refl);
        turns = left;
        on = on;
        told = told ∙ w.told;
      },
    )

-- the next call was cut
cut_next : (d e : Disk) (left : List Slot) (o : ℕ) → Cut (next left) d o e → CutShort d (empties left) o e
cut_next d e [] o h = inl h
cut_next d e (l ∷ left) o h = inl h

cut_tries : (d e : Disk) (held left : List Slot) (o : ℕ) → CutOff d held o e left → CutShort d (empties held) o e
cut_tries d e held left o w =
    let plan : empties held ≡ map sends w.sent ++ empties left =
    ap empties w.split ∙ ap (λ (p : List Act). p ++ settled ∷ []) (map-append sends w.sent left) ∙ append_assoc (map sends w.sent) (map sends left) (settled ∷ []) in
    rw plan (cut_after d w.between e (map sends w.sent) (empties left) o w.done (cut_next w.between e left o w.cut))

-- Power failed in a call below, with these held sectors laid over.
record Fading (d : Disk) (left : List Slot) (o : ℕ) (e : Disk) : Type 0 where
  plate : e.plate ≡ d.plate
  origin : Among o (0 ∷ d.plate.ends)
  old : (i : ℕ) → NothingNew (over d left) (over e left) i

fading : (d e : Disk) (left : List Slot) (o : ℕ) → Cut (next left) d o e → Fading d left o e
fading d e [] o h = let w = faded_failed d e o h in record { plate = w.plate; origin = w.origin; old = w.old }
fading d e (l ∷ left) o h =
    record {
      plate = (changed_cut d e l.sector l.bytes o h).plate;
      origin = cut_origin d e l.sector l.bytes o h;
      old = λ i. lay.over_old (laid d l) (laid e l) left i (lay.cut_old d l o e h i);
    }

cut_failed : (c c' : State) (o : ℕ) → NotEmptied c o c' → Failed (disk_of c) o (disk_of c')
cut_failed c c' o w =
    let t = w.turns in
    let f = fading t.between c'.below c'.held o t.cut in
    let plate = done_plate c.below t.between (map sends t.sent) t.done in
    inr (
      w.was_on,
      record {
        off = w.off;
        plate = ap plate_over (f.plate ∙ plate);
        origin = subst (λ (q : Plate). Among o (0 ∷ q.ends)) plate f.origin;
        told = w.told;
        old = λ i x st.
            subst (λ (d : Disk). Stands d i x) (sym (ap (over c.below) t.split ∙ lay.over_append c.below t.sent c'.held))
            (lay.over_old (over c.below t.sent) t.between c'.held i (sent_old c.below t.sent t.between t.done i) x (f.old i x st));
      },
    )

cut_off : (c m c' : State) (o : ℕ) → Sent c m → Cut (next c'.held) m.below o c'.below → c'.held ≡ m.held → c'.on ≡ false → c'.told ≡ o
    → Failed (disk_of c) o (disk_of c') × NotEmptied c o c'
cut_off c m c' o w cut left off told =
    let turns : CutOff c.below c.held o c'.below c'.held =
    record { sent = w.sent; between = m.below; split = rw left w.split; done = w.done; cut = cut } in
    let n : NotEmptied c o c' = record { was_on = w.was_on; below = cut_tries c.below c'.below c.held c'.held o turns; turns = turns; off = off; told = told } in
    (cut_failed c c' o n, n)

-- some were sent down, and then one could not be
pub stopped : (c m c' : State) (f : DeviceFault) → Sent c m → SendsOne m (Err f) c' → Barrier (disk_of c) (Err f) (disk_of c') × Barriers c (Err f) c'
stopped c m c' (Power o) w n =
    let cut : Cut (next c'.held) m.below o c'.below = rw (n.turns, n.held) n.below in
    let both = cut_off c m c' o w cut n.turns n.off n.told in
    (both.0, inr both.1)
stopped c m c' (Misaddressed _ _) w n = absurd n
stopped c m c' Unfit w n = absurd n
stopped c m c' (Spoiled _ _) w n = absurd n

-- all were sent down, and so the barrier below answered
pub finished : (c m c' : State) (r : Answer) → Sent c m → m.held ≡ [] → Barrier m.below r c'.below → c'.held ≡ [] → c'.on ≡ on_after r → c'.told ≡ told_after m.told r
    → Barrier (disk_of c) r (disk_of c') × Barriers c r c'
finished c m c' (Ok u) w none s left on told = emptied c m c' w none s left on told
finished c m c' (Err (Power o)) w none f left off told =
    let cut : Cut (next c'.held) m.below o c'.below = rw left f in
    let both = cut_off c m c' o w cut (left ∙ sym none) off told in
    (both.0, inr both.1)
finished c m c' (Err (Misaddressed _ _)) w none s left on told = absurd s
finished c m c' (Err Unfit) w none s left on told = absurd s
finished c m c' (Err (Spoiled _ _)) w none s left on told = absurd s
