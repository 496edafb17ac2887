-- Strays cleared one after another.
use Rattle.std.proofs.Common.{◌≡◌, ℕ, suc, ◌+◌, ◌-◌, ◌<◌, ◌≤◌, Bool, true, false, cond, ltb, List, ◌∷◌, Err, sym, refl, ap, ◌∙◌, subst, add-one, arith}
use Rattle.device.specs.declared.fault.DeviceFault.{DeviceFault}
use Rattle.device.specs.declared.fault.DeviceFault.TheVariants.{Power, Misaddressed, Unfit, Spoiled}
use Rattle.device.specs.Disk.{Disk, Plate, Shown}
use Rattle.device.specs.Meaning.{Wrote, Write}
use Rattle.device.specs.Trace.{Act, wrote, Done, Tries}
use Rattle.device.proofs.Plans.{Working, work_begins, work_goes, work_ends, work_cut, write_tried}
use Rattle.journal.specs.declared.note.Note.{Note}
use Rattle.journal.specs.Log.{said}
use Rattle.journal.specs.Notes.{Tells}
use Rattle.journal.specs.Opening.{strays}
use Rattle.recovery.specs.Format.{blank}
use Rattle.recovery.specs.Clearing.{Yields, astray, blanking}

-- a plan that was cut answers no value, whatever the value would have been
pub yields_cut : {A : Type 0} (d e : Disk) (plan : List Act) (answered : A → Type 0) (f : DeviceFault) → Tries d plan (Err f) e → Yields d plan answered (Err f) e
yields_cut d e plan answered (Power o) h = h
yields_cut d e plan answered (Misaddressed s o) h = absurd h
yields_cut d e plan answered Unfit h = absurd h
yields_cut d e plan answered (Spoiled s o) h = absurd h

pub cut_yields : {A : Type 0} (d e : Disk) (plan : List Act) (answered : A → Type 0) (f : DeviceFault) → Yields d plan answered (Err f) e → Tries d plan (Err f) e
cut_yields d e plan answered (Power o) h = h
cut_yields d e plan answered (Misaddressed s o) h = absurd h
cut_yields d e plan answered Unfit h = absurd h
cut_yields d e plan answered (Spoiled s o) h = absurd h

next : (ℕ → Bool) → ℕ → ℕ → List Act
next test i n = blanking test (i + 1) (n - (i + 1))

blanking_more : (test : ℕ → Bool) (i n : ℕ) → i < n → blanking test i (n - i) ≡ cond (test i) (wrote i blank ∷ next test i n) (next test i n)
unfolding blanking next
blanking_more test i n h = let e : n - i ≡ suc (n - (i + 1)) = omega arith in rw e refl

blanking_one : (test : ℕ → Bool) (i n : ℕ) → i < n → test i ≡ true → blanking test i (n - i) ≡ wrote i blank ∷ next test i n
blanking_one test i n h t = blanking_more test i n h ∙ ap (λ (b : Bool). cond b (wrote i blank ∷ next test i n) (next test i n)) t

blanking_none : (test : ℕ → Bool) (i n : ℕ) → i < n → test i ≡ false → blanking test i (n - i) ≡ next test i n
blanking_none test i n h t = blanking_more test i n h ∙ ap (λ (b : Bool). cond b (wrote i blank ∷ next test i n) (next test i n)) t

strays_more : (n : ℕ) (shows : ℕ → Shown) (c i : ℕ) → strays n shows c (i + 1) ≡ cond (astray n shows c i) 1 0 + strays n shows c i
unfolding strays
strays_more n shows c i = rw add-one refl

-- what a note tells of its place
pub noted_astray : (n : ℕ) (shows : ℕ → Shown) (c p : ℕ) (x : Note) (b : Bool) → Tells (said n p (shows p)) x → b ≡ ltb c x.serial → astray n shows c p ≡ b
noted_astray n shows c p x b h k = ap (ltb c) (sym h.serial) ∙ sym k

-- how far the clearing has come
pub record ClearedTo (d m : Disk) (n c i count : ℕ) : Type 0 where
  pub left : Working d (blanking (astray n d.shows c) 0 n) m (blanking (astray n d.shows c) i (n - i))
  pub counted : count ≡ strays n d.shows c i
  pub few : count ≤ i

pub clear_begins : (d : Disk) (n c : ℕ) → ClearedTo d d n c 0 0
unfolding strays
clear_begins d n c =
    let e : n - 0 ≡ n = omega arith in
    record {
      left = rw e (work_begins d (blanking (astray n d.shows c) 0 n));
      counted = refl;
      few = omega arith;
    }

pub clear_writes : (d m e : Disk) (n c i count : ℕ) → i < n → astray n d.shows c i ≡ true → ClearedTo d m n c i count → Wrote m i blank e → ClearedTo d e n c (i + 1) (count + 1)
unfolding next
clear_writes d m e n c i count h t w k =
    let test = astray n d.shows c in
    let more = strays_more n d.shows c i ∙ ap (λ (b : Bool). cond b 1 0 + strays n d.shows c i) t in
    record {
      left = work_goes d m e (blanking test 0 n) (next test i n) (wrote i blank) (subst (λ (p : List Act). Working d (blanking test 0 n) m p) (blanking_one test i n h t) w.left) k k.plate;
      counted = omega (arith, w.counted, more);
      few = omega (arith, w.few);
    }

pub clear_passes : (d m : Disk) (n c i count : ℕ) → i < n → astray n d.shows c i ≡ false → ClearedTo d m n c i count → ClearedTo d m n c (i + 1) count
unfolding next
clear_passes d m n c i count h t w =
    let test = astray n d.shows c in
    let more = strays_more n d.shows c i ∙ ap (λ (b : Bool). cond b 1 0 + strays n d.shows c i) t in
    record {
      left = subst (λ (p : List Act). Working d (blanking test 0 n) m p) (blanking_none test i n h t) w.left;
      counted = omega (arith, w.counted, more);
      few = omega (arith, w.few);
    }

pub clear_cut : (d m e : Disk) (n c i count : ℕ) (f : DeviceFault) → i < n → n ≤ d.plate.sectors → astray n d.shows c i ≡ true → ClearedTo d m n c i count → Write m i blank (Err f) e → Tries d (blanking (astray n d.shows c) 0 n) (Err f) e
clear_cut d m e n c i count f h room t w k =
    let test = astray n d.shows c in
    let there : i < m.plate.sectors = subst (λ (p : Plate). i < p.sectors) (sym w.left.plate) (omega arith) in
    work_cut d m e (blanking test 0 n) (next test i n) (wrote i blank) f (subst (λ (p : List Act). Working d (blanking test 0 n) m p) (blanking_one test i n h t) w.left) (write_tried m e i blank (Err f) there refl k)

pub clear_ends : (d m : Disk) (n c i count : ℕ) → n ≤ i → i ≤ n → ClearedTo d m n c i count → Done d (blanking (astray n d.shows c) 0 n) m × (count ≡ strays n d.shows c n)
unfolding blanking
clear_ends d m n c i count h k w =
    let e : n - i ≡ 0 = omega arith in
    let same : i ≡ n = omega arith in
    let test = astray n d.shows c in (
      work_ends d m (blanking test 0 n) (subst (λ (x : ℕ). Working d (blanking test 0 n) m (blanking test i x)) e w.left),
      w.counted ∙ ap (λ (x : ℕ). strays n d.shows c x) same,
    )
