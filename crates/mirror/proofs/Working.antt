-- Work on the sides in the mirror's order keeps the device meaning.
use Rattle.std.proofs.Common.{◌≡◌, ℕ, ◌<◌, Bool, true, List, ◌∷◌, length, Ok, Err, sym, refl, ap, ◌∙◌, subst, inl, inr, ⊎_elim, arith}
use Rattle.device.specs.declared.fault.DeviceFault.TheVariants.{Power, Misaddressed, Unfit, Spoiled}
use Rattle.device.specs.Disk.{Plate, Disk, Shown, spoiled, holds, Among, Stands}
use Rattle.device.specs.Meaning.{Answer, Addressed, NothingNew, Lost, Wrote, Settled, Restarted, Read, Write, Barrier, Restart, on_after, told_after}
use Rattle.device.specs.Trace.{wrote, settled, restarted}
use Rattle.device.proofs.Membership.{among_left, among_right}
use Rattle.device.proofs.Changes.{Changed, Faded, done_one, done_two, cut_one, cut_two, faded_lost, faded_failed, not_astray, changed_wrote, changed_cut, changed_more, settled_old, cut_origin, nothing_new_same}
use Rattle.mirror.specs.Sides.{Sides, sides, either, mirrored, joined, Writes, Settles, Restarts, Reads}
use Rattle.mirror.proofs.Merging.{both, stands_found, found_stands, nothing_new, quiet_both}

-- the mirror m' has handed up the answer a of the sides of m
pub record Handed (m : Sides) (a : Answer) (m' : Sides) : Type 0 where
  pub on : m'.on ≡ on_after a
  pub told : m'.told ≡ told_after m.told a

plates : (m m' : Sides) → m'.left.plate ≡ m.left.plate → m'.right.plate ≡ m.right.plate → (mirrored m').plate ≡ (mirrored m).plate
plates m m' p q = ap (λ v. joined v m'.right.plate) p ∙ ap (λ v. joined m.left.plate v) q

same_plate : (d e : Disk) → e ≡ d → e.plate ≡ d.plate
same_plate d e same = ap (λ (v : Disk). v.plate) same

origin_left : (m : Sides) (o : ℕ) → Among o (0 ∷ m.left.plate.ends) → Among o (0 ∷ (mirrored m).plate.ends)
origin_left m o (inl e) = inl e
origin_left m o (inr h) = inr (among_left o m.left.plate.ends m.right.plate.ends h)

origin_right : (m : Sides) (o : ℕ) → Among o (0 ∷ m.right.plate.ends) → Among o (0 ∷ (mirrored m).plate.ends)
origin_right m o (inl e) = inl e
origin_right m o (inr h) = inr (among_right o m.left.plate.ends m.right.plate.ends h)

-- the right side alone was changed
changed_right : (m m' : Sides) (s : ℕ) (bytes : List ℕ) → Addressed (mirrored m) s (length bytes) → m'.left ≡ m.left → Changed m.right s bytes m'.right → Changed (mirrored m) s bytes (mirrored m')
changed_right m m' s bytes asked same w =
    let kept : (i : ℕ) → NothingNew m.left m'.left i = nothing_new_same m.left m'.left same in
    record {
      plate = plates m m' (same_plate m.left m'.left same) w.plate;
      elsewhere = λ i ne. nothing_new m.left m.right m'.left m'.right i (kept i) (w.elsewhere i ne);
      there =
          λ x h.
          elim (stands_found m'.left m'.right s x h) [
            | inl a ↦ inl (found_stands m.left m.right s x (inl (a.0, a.1, kept s x a.2)))
            | inr a ↦
                ⊎_elim
                (λ old. inl (found_stands m.left m.right s x (inr (kept s spoiled a.0, old))))
                (λ new. inr (asked, new.1))
                (w.there x a.1)
          ];
    }

-- both were changed, the right side so that only the new bytes may stand there
changed_both : (m m' : Sides) (s : ℕ) (bytes : List ℕ) → Addressed (mirrored m) s (length bytes) → Changed m.left s bytes m'.left → Changed m.right s bytes m'.right → ((x : Shown) → Stands m'.right s x → x ≡ holds bytes) → Changed (mirrored m) s bytes (mirrored m')
changed_both m m' s bytes asked v w sure =
    record {
      plate = plates m m' v.plate w.plate;
      elsewhere = λ i ne. nothing_new m.left m.right m'.left m'.right i (v.elsewhere i ne) (w.elsewhere i ne);
      there =
          λ x h.
          elim (stands_found m'.left m'.right s x h) [
            | inl a ↦
                ⊎_elim
                (λ old. inl (found_stands m.left m.right s x (inl (a.0, a.1, old))))
                (λ new. inr (asked, new.1))
                (v.there x a.2)
            | inr a ↦ inr (asked, inl (sure x a.1))
          ];
    }

-- the right side once written and settled
settled_right : (r m r' : Disk) (s : ℕ) (bytes : List ℕ) → Wrote r s bytes m → Settled m r' → Changed r s bytes r'
settled_right r m r' s bytes w q = changed_more r m r' s bytes (changed_wrote r m s bytes w) q.plate (settled_old m r' q)

sure_right : (r m r' : Disk) (s : ℕ) (bytes : List ℕ) → Wrote r s bytes m → Settled m r' → (x : Shown) → Stands r' s x → x ≡ holds bytes
sure_right r m r' s bytes w q x h = q.quiet s x h ∙ q.kept s ∙ w.shown

torn_mirror : (m m' : Sides) (s : ℕ) (bytes : List ℕ) (o : ℕ) → m.on ≡ true → Handed m (Err (Power o)) m' → Among o (0 ∷ (mirrored m).plate.ends) → Changed (mirrored m) s bytes (mirrored m') → Write (mirrored m) s bytes (Err (Power o)) (mirrored m')
torn_mirror m m' s bytes o on h end w =
    inr (record { was_on = on; off = h.on; plate = w.plate; origin = end; told = h.told; elsewhere = w.elsewhere; there = w.there })

kept_both : (l r l' r' : Shown) → l' ≡ l → r' ≡ r → either l' r' ≡ either l r
kept_both l r l' r' p q = ap (λ v. either v r') p ∙ ap (λ v. either l v) q

pub write_means : (m m' : Sides) (s : ℕ) (bytes : List ℕ) (a : Answer) → m.on ≡ true → Addressed (mirrored m) s (length bytes) → Writes s bytes m a m' → Handed m a m' → Write (mirrored m) s bytes a (mirrored m')
write_means m m' s bytes (Ok u) on asked (right, left) h =
    let two = done_two m.right m'.right (wrote s bytes) settled right in
    let v : Wrote m.left s bytes m'.left = done_one m.left m'.left (wrote s bytes) left in
    let w = changed_both m m' s bytes asked (changed_wrote m.left m'.left s bytes v) (settled_right m.right two.0 m'.right s bytes two.1 two.2) (sure_right m.right two.0 m'.right s bytes two.1 two.2) in
    record {
      was_on = on;
      on = h.on;
      plate = w.plate;
      asked = asked;
      shown = ap (λ x. either x (m'.right.shows s)) v.shown;
      kept = λ i ne. kept_both (m.left.shows i) (m.right.shows i) (m'.left.shows i) (m'.right.shows i) (v.kept i ne) (two.2.kept i ∙ two.1.kept i ne);
      elsewhere = w.elsewhere;
      there = w.there;
    }
write_means m m' s bytes (Err (Power o)) on asked (inl (right, same)) h =
    elim (cut_two m.right m'.right (wrote s bytes) settled o right) [
      | inl torn ↦
          torn_mirror m m' s bytes o on h
          (origin_right m o (cut_origin m.right m'.right s bytes o torn))
          (changed_right m m' s bytes asked same (changed_cut m.right m'.right s bytes o torn))
      | inr t ↦
          let lost = faded_failed t.0 m'.right o t.2 in
          torn_mirror m m' s bytes o on h
          (origin_right m o (subst (λ (p : Plate). Among o (0 ∷ p.ends)) t.1.plate lost.origin))
          (changed_right m m' s bytes asked same (changed_more m.right t.0 m'.right s bytes (changed_wrote m.right t.0 s bytes t.1) lost.plate lost.old))
    ]
write_means m m' s bytes (Err (Power o)) on asked (inr (right, left)) h =
    let two = done_two m.right m'.right (wrote s bytes) settled right in
    let torn = cut_one m.left m'.left (wrote s bytes) o left in
    torn_mirror m m' s bytes o on h
    (origin_left m o (cut_origin m.left m'.left s bytes o torn))
    (changed_both m m' s bytes asked (changed_cut m.left m'.left s bytes o torn) (settled_right m.right two.0 m'.right s bytes two.1 two.2) (sure_right m.right two.0 m'.right s bytes two.1 two.2))
write_means m m' s bytes (Err (Misaddressed t o)) on asked w h = absurd w
write_means m m' s bytes (Err Unfit) on asked w h = absurd w
write_means m m' s bytes (Err (Spoiled t o)) on asked w h = absurd w

lost_mirror : (m m' : Sides) (o : ℕ) → Handed m (Err (Power o)) m' → Among o (0 ∷ (mirrored m).plate.ends) → m'.left.plate ≡ m.left.plate → m'.right.plate ≡ m.right.plate → ((i : ℕ) → NothingNew m.left m'.left i) → ((i : ℕ) → NothingNew m.right m'.right i) → Lost (mirrored m) o (mirrored m')
lost_mirror m m' o h end p q left right =
    record {
      off = h.on;
      plate = plates m m' p q;
      origin = end;
      told = h.told;
      old = λ i. nothing_new m.left m.right m'.left m'.right i (left i) (right i);
    }

-- power failed on one side, and the other is as it was
lost_left : (m m' : Sides) (o : ℕ) → Handed m (Err (Power o)) m' → Faded m.left o m'.left → m'.right ≡ m.right → Lost (mirrored m) o (mirrored m')
lost_left m m' o h w same =
    lost_mirror m m' o h (origin_left m o w.origin) w.plate (same_plate m.right m'.right same) w.old (nothing_new_same m.right m'.right same)

lost_right : (m m' : Sides) (o : ℕ) → Handed m (Err (Power o)) m' → m'.left ≡ m.left → Faded m.right o m'.right → Lost (mirrored m) o (mirrored m')
lost_right m m' o h same w =
    lost_mirror m m' o h (origin_right m o w.origin) (same_plate m.left m'.left same) w.plate (nothing_new_same m.left m'.left same) w.old

pub settle_means : (m m' : Sides) (a : Answer) → m.on ≡ true → Settles m a m' → Handed m a m' → Barrier (mirrored m) a (mirrored m')
settle_means m m' (Ok u) on (right, left) h =
    let v : Settled m.right m'.right = done_one m.right m'.right settled right in
    let w : Settled m.left m'.left = done_one m.left m'.left settled left in
    record {
      was_on = on;
      on = h.on;
      plate = plates m m' w.plate v.plate;
      kept = λ i. kept_both (m.left.shows i) (m.right.shows i) (m'.left.shows i) (m'.right.shows i) (w.kept i) (v.kept i);
      quiet = quiet_both m'.left m'.right w.quiet v.quiet;
    }
settle_means m m' (Err (Power o)) on (inl (right, same)) h =
    inr (on, lost_right m m' o h same (faded_failed m.right m'.right o (cut_one m.right m'.right settled o right)))
settle_means m m' (Err (Power o)) on (inr (right, left)) h =
    let v : Settled m.right m'.right = done_one m.right m'.right settled right in
    let w = faded_failed m.left m'.left o (cut_one m.left m'.left settled o left) in
    inr (on, lost_mirror m m' o h (origin_left m o w.origin) w.plate v.plate w.old (settled_old m.right m'.right v))
settle_means m m' (Err (Misaddressed t o)) on w h = absurd w
settle_means m m' (Err Unfit) on w h = absurd w
settle_means m m' (Err (Spoiled t o)) on w h = absurd w

restarted_old : (d e : Disk) → Restarted d e → (i : ℕ) → NothingNew d e i
restarted_old d e w i x h = subst (λ (y : Shown). Stands d i y) (sym (w.quiet i x h)) (w.chosen i)

-- what each side shows after a restart, taken together, might stand in the mirror
chosen_both : (l r : Disk) (i : ℕ) (x y : Shown) → Stands l i x → Stands r i y → Stands (both l r) i (either x y)
chosen_both l r i spoiled y h k = found_stands l r i y (inr (h, k))
chosen_both l r i (holds bytes) y h k = found_stands l r i (holds bytes) (inl (bytes, refl, h))

pub restart_means : (m m' : Sides) (a : Answer) → Restarts m a m' → Handed m a m' → Restart (mirrored m) a (mirrored m')
restart_means m m' (Ok u) (right, left) h =
    let v : Restarted m.right m'.right = done_one m.right m'.right restarted right in
    let w : Restarted m.left m'.left = done_one m.left m'.left restarted left in
    record {
      on = h.on;
      plate = plates m m' w.plate v.plate;
      chosen = λ i. chosen_both m.left m.right i (m'.left.shows i) (m'.right.shows i) (w.chosen i) (v.chosen i);
      quiet = quiet_both m'.left m'.right w.quiet v.quiet;
    }
restart_means m m' (Err (Power o)) (inl (right, same)) h =
    lost_right m m' o h same (faded_lost m.right m'.right o (cut_one m.right m'.right restarted o right))
restart_means m m' (Err (Power o)) (inr (right, left)) h =
    let v : Restarted m.right m'.right = done_one m.right m'.right restarted right in
    let w : Lost m.left o m'.left = cut_one m.left m'.left restarted o left in
    lost_mirror m m' o h (origin_left m o w.origin) w.plate v.plate w.old (restarted_old m.right m'.right v)
restart_means m m' (Err (Misaddressed t o)) w h = absurd w
restart_means m m' (Err Unfit) w h = absurd w
restart_means m m' (Err (Spoiled t o)) w h = absurd w

same_mirror : (m m' : Sides) → m'.on ≡ m.on → m'.told ≡ m.told → m'.left ≡ m.left → m'.right ≡ m.right → mirrored m' ≡ mirrored m
same_mirror m m' on told left right =
    ap (λ v. mirrored (sides v m'.told m'.left m'.right)) on
    ∙ ap (λ v. mirrored (sides m.on v m'.left m'.right)) told
    ∙ ap (λ v. mirrored (sides m.on m.told v m'.right)) left
    ∙ ap (λ v. mirrored (sides m.on m.told m.left v)) right

spoiled_left : (l r y : Shown) → l ≡ spoiled → r ≡ y → either l r ≡ y
spoiled_left l r y e h = ap (λ v. either v r) e ∙ h

-- the right side answers for the mirror where the left is spoiled
second_means : (m m' : Sides) (s : ℕ) (before after : List ℕ) (a : Answer) → m.on ≡ true → Addressed (mirrored m) s (length before) → m'.left ≡ m.left → m.left.shows s ≡ spoiled → Read m.right s before a m'.right after → Handed m a m' → Read (mirrored m) s before a (mirrored m') after
second_means m m' s before after (Ok u) on asked same gone w h =
    record {
      on = on;
      asked = asked;
      same = same_mirror m m' (h.on ∙ sym on) h.told same w.same;
      shown = spoiled_left (m.left.shows s) (m.right.shows s) (holds after) gone w.shown;
    }
second_means m m' s before after (Err (Power o)) on asked same gone (w, untouched) h =
    (inr (on, lost_right m m' o h same (faded_failed m.right m'.right o w)), untouched)
second_means m m' s before after (Err (Misaddressed t o)) on asked same gone (w, untouched) h =
    let there : s < m.right.plate.sectors = let all = asked.there in omega arith in
    absurd (not_astray m.right s (length before) (record { there = there; fits = asked.fits }) w.why)
second_means m m' s before after (Err Unfit) on asked same gone w h = absurd w
second_means m m' s before after (Err (Spoiled t o)) on asked same gone w h =
    record {
      on = on;
      asked = asked;
      same = same_mirror m m' (h.on ∙ sym on) h.told same w.same;
      shown = spoiled_left (m.left.shows s) (m.right.shows s) spoiled gone w.shown;
      says = w.says;
      untouched = w.untouched;
    }

-- n is the mirror before it has handed the answer up
pub read_means : (m n : Sides) (on' : Bool) (told' : ℕ) (s : ℕ) (before after : List ℕ) (a : Answer) → m.on ≡ true → Addressed (mirrored m) s (length before) → Reads s before after m a n → Handed m a (sides on' told' n.left n.right) → Read (mirrored m) s before a (mirrored (sides on' told' n.left n.right)) after
read_means m n on' told' s before after a on asked (Ok u, (w, e, same)) h =
    let done = rw e at h in
    rw e
    (record {
      on = on;
      asked = asked;
      same = same_mirror m (sides on' told' n.left n.right) (done.on ∙ sym on) done.told w.same same;
      shown = ap (λ x. either x (m.right.shows s)) w.shown;
    })
read_means m n on' told' s before after a on asked (Err (Power o), ((w, untouched), e, same)) h =
    rw e (inr (on, lost_left m (sides on' told' n.left n.right) o (rw e at h) (faded_failed m.left n.left o w) same), untouched)
read_means m n on' told' s before after a on asked (Err (Misaddressed t o), w) h = absurd w
read_means m n on' told' s before after a on asked (Err Unfit, w) h = absurd w
read_means m n on' told' s before after a on asked (Err (Spoiled t o), (w, v)) h =
    second_means m (sides on' told' n.left n.right) s before after a on asked w.same w.shown v h
