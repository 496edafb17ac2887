-- What each call on a sector means, from what was done in it exactly; and a restart.
use Rattle.std.proofs.Common.{◌≡◌, ℕ, ◌<◌, true, false, is_some, List, [], ◌∷◌, ◌++◌, length, Some, None, Ok, Err, Option, sym, refl, ap, ◌∙◌, subst, inl, inr}
use Rattle.std.proofs.lemmas.Bool.{both_ways}
use Rattle.device.specs.declared.fault.DeviceFault.{DeviceFault}
use Rattle.device.specs.declared.fault.DeviceFault.TheVariants.{Power, Misaddressed, Unfit, Spoiled}
use Rattle.device.specs.Disk.{Disk, Shown, Stands}
use Rattle.device.specs.Meaning.{Answer, Addressed, NothingNew, Torn, Write, Wrote, Read, ReadDone, Restart, on_after, told_after}
use Rattle.device.proofs.Changes.{not_astray, faded_failed, changed_cut, cut_origin, done_one, cut_one}
use Rattle.device.specs.declared.power.Power.{Power as Known}
use Rattle.cache.specs.declared.held.Slot.{Slot}
use Rattle.cache.specs.Held.{slot, kept, is_held}
use Rattle.cache.specs.State.{State, laid, over, plate_over, disk_of}
use Rattle.cache.specs.Exact.{sends, Asked, FromHeld, FromBelow, Reads, Rewrote, Took, Displaced, NotDisplaced, Writes, Restarts}
use Rattle.cache.specs.Steps.{Room, MakesRoom}
use Rattle.cache.proofs.Overlay as lay

-- a cache by its parts
abbrev pub made : Disk → List Slot → Known → State
made d h p = record { below = d; held = h; on = p.on; told = p.told }

-- what the tests of a call say
pub asked : (c : State) (sectors s n : ℕ) → sectors ≡ c.below.plate.sectors → (c.on ≡ true) × (s < sectors) × (n ≡ 128) → Asked c s n
asked c sectors s n e a = record { on = a.0; addressed = record { there = subst (λ m. s < m) e a.1; fits = a.2 } }

-- a sector of the disk below is one of the cache's
asked_above : (c : State) (s n : ℕ) → Asked c s n → Addressed (disk_of c) s n
asked_above c s n a = record { there = a.addressed.there; fits = a.addressed.fits }

-- a held sector is read
pub read_held : (c : State) (s : ℕ) (before after : List ℕ) → FromHeld c s before c after → ReadDone (disk_of c) s before (disk_of c) after
read_held c s before after w =
    record { on = w.asked.on; asked = asked_above c s (length before) w.asked; same = refl; shown = lay.shows_kept c.below c.held s after w.found }

-- a sector that is not held is read below
none_since : (k : Option (List ℕ)) → is_some k ≡ false → k ≡ None
none_since None e = refl
none_since (Some b) e = absurd (both_ways true e refl)

same_disk : (c c' : State) → c'.below ≡ c.below → c'.held ≡ c.held → c'.on ≡ c.on → c'.told ≡ c.told → disk_of c' ≡ disk_of c
same_disk c c' below held on told = rw (below, held, on, told) refl

shown_below : (c c' : State) (s : ℕ) (before : List ℕ) (r : Answer) (after : List ℕ) → FromBelow c s before r c' after → (disk_of c).shows s ≡ c.below.shows s
shown_below c c' s before r after w = lay.shows_below c.below c.held s (none_since (kept s c.held) w.absent)

pub read_below : (c c' : State) (s : ℕ) (before : List ℕ) (r : Answer) (after : List ℕ) → FromBelow c s before r c' after
    → Read (disk_of c) s before r (disk_of c') after × Reads c s before r c' after
read_below c c' s before (Ok u) after w = (
  record {
    on = w.asked.on;
    asked = asked_above c s (length before) w.asked;
    same = same_disk c c' w.read.same w.turns (w.on ∙ sym w.asked.on) w.told;
    shown = shown_below c c' s before (Ok u) after w ∙ w.read.shown;
  },
  inr w,
)
read_below c c' s before (Err (Power o)) after w =
    let f = faded_failed c.below c'.below o w.read.0 in
    let old : (i : ℕ) → NothingNew (over c.below c.held) (over c'.below c'.held) i = λ i. rw w.turns (lay.over_old c.below c'.below c.held i (f.old i)) in (
      (inr (w.asked.on, record { off = w.on; plate = ap plate_over f.plate; origin = f.origin; told = w.told; old = old }), w.read.1),
      inr w,
    )
read_below c c' s before (Err (Misaddressed t o)) after w = absurd (not_astray c.below s (length before) w.asked.addressed w.read.0.why)
read_below c c' s before (Err Unfit) after w = absurd w.read
read_below c c' s before (Err (Spoiled t o)) after w = (
  record {
    on = w.asked.on;
    asked = asked_above c s (length before) w.asked;
    same = same_disk c c' w.read.same w.turns (w.on ∙ sym w.asked.on) w.told;
    shown = shown_below c c' s before (Err (Spoiled t o)) after w ∙ w.read.shown;
    says = w.read.says;
    untouched = w.read.untouched;
  },
  w,
)

-- a held sector is given new bytes
pub rewrote : (c c' : State) (s : ℕ) (b : List ℕ) → Rewrote c s b c' → Wrote (disk_of c) s b (disk_of c')
rewrote c c' s b w =
    rw (w.below, w.turns)
    (record {
      was_on = w.asked.on;
      on = w.on;
      plate = refl;
      asked = asked_above c s (length b) w.asked;
      shown = lay.rewritten_shows c.below c.held s b w.found;
      kept = λ i ne. lay.rewritten_shows_else c.below c.below c.held s b i ne refl;
      elsewhere = λ i ne. lay.rewritten_old_else c.below c.below c.held s b i ne (λ x st. st);
      there = λ x st.
          elim (lay.rewritten_there c.below c.below c.held s b (λ y old. inl old) x st)
          [ inl old ↦ inl old | inr new ↦ inr (asked_above c s (length b) w.asked, new) ];
    })

-- a sector is taken in at the end, over slots that show what was shown
taken : (c c' : State) (s : ℕ) (b : List ℕ) (ls : List Slot) → Asked c s (length b) → c'.held ≡ ls ++ slot s b ∷ [] → c'.on ≡ true
    → c'.below.plate ≡ c.below.plate
    → ((i : ℕ) → (over c'.below ls).shows i ≡ (over c.below c.held).shows i)
    → ((i : ℕ) → NothingNew (over c.below c.held) (over c'.below ls) i)
    → Wrote (disk_of c) s b (disk_of c')
taken c c' s b ls a e on p shows old =
    let l = slot s b in
    let m = c'.below in
    let top : over m c'.held ≡ laid (over m ls) l = ap (over m) e ∙ lay.over_push m ls l in
    let up : (i : ℕ) (x : Shown) → Stands (over m c'.held) i x → Stands (laid (over m ls) l) i x = λ i x st. subst (λ (d : Disk). Stands d i x) top st in
    record {
      was_on = a.on;
      on = on;
      plate = ap plate_over p;
      asked = asked_above c s (length b) a;
      shown = ap (λ (d : Disk). d.shows s) top ∙ lay.laid_shows (over m ls) l;
      kept = λ i ne. ap (λ (d : Disk). d.shows i) top ∙ lay.unlaid_shows (over m ls) l i ne ∙ shows i;
      elsewhere = λ i ne x st. old i x (lay.unlaid (over m ls) l i ne x (up i x st));
      there = λ x st.
          elim (lay.laid_there (over m ls) l x (up s x st)) [ inl was ↦ inl (old s x was) | inr new ↦ inr (asked_above c s (length b) a, new) ];
    }

took : (c c' : State) (s : ℕ) (b : List ℕ) → Took c s b c' → Wrote (disk_of c) s b (disk_of c')
took c c' s b w = taken c c' s b c.held w.asked w.turns w.on (ap (λ (d : Disk). d.plate) w.below) (λ i. rw w.below refl) (λ i. rw w.below (λ x st. st))

-- a slot written below stands for the slot laid over, with others over both
pub one_shows : (d e : Disk) (l : Slot) (rest : List Slot) → Wrote d l.sector l.bytes e → (i : ℕ) → (over e rest).shows i ≡ (over d (l ∷ rest)).shows i
one_shows d e l rest w i = lay.over_shows (laid d l) e rest i (lay.wrote_shows d l e w i)

pub one_old : (d e : Disk) (l : Slot) (rest : List Slot) → Wrote d l.sector l.bytes e → (i : ℕ) → NothingNew (over d (l ∷ rest)) (over e rest) i
one_old d e l rest w i = lay.over_old (laid d l) e rest i (lay.wrote_old d l e w i)

-- a sector displaced the longest held one, or could not
displaced : (c c' : State) (s : ℕ) (b : List ℕ) → Displaced c s b c' → Wrote (disk_of c) s b (disk_of c')
displaced c c' s b w =
    let one : Wrote c.below w.oldest.sector w.oldest.bytes c'.below = done_one c.below c'.below (sends w.oldest) w.below in
    taken c c' s b w.rest w.asked w.turns w.on one.plate (λ i. rw w.held (one_shows c.below c'.below w.oldest w.rest one i))
    (λ i. rw w.held (one_old c.below c'.below w.oldest w.rest one i))

not_displaced : (c c' : State) (s : ℕ) (b : List ℕ) (o : ℕ) → NotDisplaced c s b o c' → Torn (disk_of c) s b o (disk_of c')
not_displaced c c' s b o w =
    let cut = cut_one c.below c'.below (sends w.oldest) o w.below in
    let laid_old = lay.cut_old c.below w.oldest o c'.below cut in
    let old : (i : ℕ) → NothingNew (over c.below c.held) (over c'.below c'.held) i =
    λ i. rw (w.turns, w.held) (lay.over_old (laid c.below w.oldest) (laid c'.below w.oldest) w.rest i (laid_old i)) in
    record {
      was_on = w.asked.on;
      off = w.off;
      plate = ap plate_over (changed_cut c.below c'.below w.oldest.sector w.oldest.bytes o cut).plate;
      origin = cut_origin c.below c'.below w.oldest.sector w.oldest.bytes o cut;
      told = w.told;
      elsewhere = λ i ne. old i;
      there = λ x st. inl (old s x st);
    }

-- a sector is taken in, once there is room for it, or could not be
pub room_plate : (c m : State) → Room c m → m.below.plate ≡ c.below.plate
room_plate c m (inl (room, same)) = ap (λ (x : State). x.below.plate) same
room_plate c m (inr (full, one)) = one.below.plate

pub pushed : (c m : State) (s : ℕ) (b : List ℕ) (h : List Slot) → Asked c s (length b) → is_held s c.held ≡ false → Room c m → h ≡ m.held ++ slot s b ∷ []
    → Wrote (disk_of c) s b (disk_of (record m { held = h })) × Writes c s b (Ok tt) (record m { held = h })
pushed c m s b h a k (inl (room, same)) e =
    let w : Took c s b (record m { held = h }) =
    record {
      asked = a;
      absent = k;
      room = room;
      below = ap (λ (x : State). x.below) same;
      turns = e ∙ ap (λ (x : State). x.held ++ slot s b ∷ []) same;
      on = ap (λ (x : State). x.on) same ∙ a.on;
      told = ap (λ (x : State). x.told) same;
    } in
    (took c (record m { held = h }) s b w, inr (inl w))
pushed c m s b h a k (inr (full, one)) e =
    let w : Displaced c s b (record m { held = h }) =
    record {
      asked = a;
      absent = k;
      full = full;
      oldest = one.oldest;
      rest = m.held;
      held = one.held;
      below = (m.below, one.below, refl);
      turns = e;
      on = one.on;
      told = one.told;
    } in
    (displaced c (record m { held = h }) s b w, inr (inr w))

pub not_pushed : (c c' : State) (s : ℕ) (b : List ℕ) (f : DeviceFault) → Asked c s (length b) → is_held s c.held ≡ false → MakesRoom c (Err f) c'
    → Write (disk_of c) s b (Err f) (disk_of c') × Writes c s b (Err f) c'
not_pushed c c' s b (Power o) a k (full, n) =
    let w : NotDisplaced c s b o c' =
    record {
      asked = a;
      absent = k;
      full = full;
      oldest = n.oldest;
      rest = n.rest;
      held = n.held;
      below = inl n.below;
      turns = n.turns;
      off = n.off;
      told = n.told;
    } in
    (inr (not_displaced c c' s b o w), inr w)
not_pushed c c' s b (Misaddressed _ _) a k n = absurd n
not_pushed c c' s b Unfit a k n = absurd n
not_pushed c c' s b (Spoiled _ _) a k n = absurd n

-- a restart below, whatever was held
restarted : (c c' : State) (r : Answer) → Restarts c r c' → Restart (disk_of c) r (disk_of c')
restarted c c' (Ok u) w =
    rw w.turns
    (record {
      on = w.on;
      plate = ap plate_over w.below.plate;
      chosen = λ i. lay.over_under c.below c.held i (c'.below.shows i) (w.below.chosen i);
      quiet = w.below.quiet;
    })
restarted c c' (Err (Power o)) w =
    rw w.turns
    (record {
      off = w.on;
      plate = ap plate_over w.below.plate;
      origin = w.below.origin;
      told = w.told;
      old = λ i x st. lay.over_under c.below c.held i x (w.below.old i x st);
    })
restarted c c' (Err (Misaddressed _ _)) w = absurd w.below
restarted c c' (Err Unfit) w = absurd w.below
restarted c c' (Err (Spoiled _ _)) w = absurd w.below

pub restarts : (d e : Disk) (h h' : List Slot) (p p' : Known) (r s : Answer) → Restart d r e → h' ≡ [] → p'.on ≡ on_after r → p'.told ≡ told_after p.told r → s ≡ r
    → Restart (disk_of (made d h p)) s (disk_of (made e h' p'))
restarts d e h h' p p' r s w none on told same = rw same (restarted (made d h p) (made e h' p') r (record { below = w; turns = none; on = on; told = told }))
