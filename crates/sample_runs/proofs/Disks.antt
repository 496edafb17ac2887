-- A device that does what it is asked.
use Rattle.std.proofs.Common.{◌≡◌, ℕ, zero, suc, ◌+◌, ◌-◌, ◌<◌, ◌≤◌, Bool, true, false, cond, eqb, ◌≢◌, List, [], ◌∷◌, ◌++◌, length, replicate, sym, refl, ◌∙◌, subst, inl, inr, ⊎_elim, mod-lt, arith}
use Rattle.std.proofs.lemmas.Bool.{cases_Bool, cond-true, cond-false, eq-eqb, ne_eqb}
use Rattle.std.proofs.lemmas.List.{length-append, length-replicate}
use Rattle.device.specs.Disk.{Disk, Shown, holds, Among, Stands}
use Rattle.device.specs.Meaning.{Lost, Torn, Restarted}
use Rattle.device.specs.Trace.{Act, looked, wrote, settled, restarted, Does, Done}
use Rattle.record.specs.Entry.{Entry, laid_out}
use Rattle.record.specs.Fields.{digits}
use Rattle.recovery.specs.Format.{blank, zeroing}
use Rattle.recovery.specs.Clearing.{blanking}
use Rattle.durability.specs.Items.{Item, recorded, appending, Appendable}

-- It is on, with so many sectors, and nothing is pending.
pub record Willing (n : ℕ) (d : Disk) : Type 0 where
  pub on : d.on ≡ true
  pub sectors : d.plate.sectors ≡ n
  pub quiet : (i : ℕ) → d.others i ≡ []

-- What a call leaves.
abbrev pub acted : Act → Disk → Disk
acted looked d = d
acted (wrote s bytes) d =
    record { plate = d.plate; on = true; shows = λ i. cond (eqb i s) (holds bytes) (d.shows i); others = λ _. []; told = d.told }
acted settled d = d
acted restarted d = d

abbrev pub all_acted : List Act → Disk → Disk
all_acted [] d = d
all_acted (a ∷ acts) d = all_acted acts (acted a d)

-- A call that the device can't refuse.
abbrev pub Fits : ℕ → Act → Type 0
Fits n looked = Unit {0}
Fits n (wrote s bytes) = (s < n) × (length bytes ≡ 128)
Fits n settled = Unit {0}
Fits n restarted = Unit {0}

abbrev pub AllFit : ℕ → List Act → Type 0
AllFit n [] = Unit {0}
AllFit n (a ∷ acts) = Fits n a × AllFit n acts

pub shown_alone : (d : Disk) (i : ℕ) (x : Shown) → d.others i ≡ [] → Stands d i x → x ≡ d.shows i
shown_alone d i x none (inl e) = e
shown_alone d i x none (inr among) = absurd (subst (λ (ys : List Shown). Among x ys) none among)

does : (n : ℕ) (a : Act) (d : Disk) → Willing n d → Fits n a → Does a d (acted a d) × Willing n (acted a d) × ((acted a d).plate ≡ d.plate)
does n looked d w f = ((w.on, refl), w, refl)
does n (wrote s bytes) d w (inside, size) =
    let e = acted (wrote s bytes) d in
    let here : e.shows s ≡ holds bytes = cond-true (eqb s s) (holds bytes) (d.shows s) (eq-eqb s s refl) in
    let kept : (i : ℕ) → i ≢ s → e.shows i ≡ d.shows i = λ i other. cond-false (eqb i s) (holds bytes) (d.shows i) (ne_eqb i s other) in
    let there : s < d.plate.sectors = subst (λ (k : ℕ). s < k) (sym w.sectors) inside in (
      record {
        was_on = w.on;
        on = refl;
        plate = refl;
        asked = record { there = there; fits = size };
        shown = here;
        kept = kept;
        elsewhere = λ i other x st. inl (shown_alone e i x refl st ∙ kept i other);
        there = λ x st. inr (record { there = there; fits = size }, inl (shown_alone e s x refl st ∙ here));
      },
      record { on = refl; sectors = w.sectors; quiet = λ _. refl },
      refl,
    )
does n settled d w f =
    (record { was_on = w.on; on = w.on; plate = refl; kept = λ _. refl; quiet = λ i x st. shown_alone d i x (w.quiet i) st }, w, refl)
does n restarted d w f =
    (record { on = w.on; plate = refl; chosen = λ _. inl refl; quiet = λ i x st. shown_alone d i x (w.quiet i) st }, w, refl)

-- Such a device makes a whole plan.
pub done_all : (n : ℕ) (acts : List Act) (d : Disk) → Willing n d → AllFit n acts
    → Done d acts (all_acted acts d) × Willing n (all_acted acts d) × ((all_acted acts d).plate ≡ d.plate)
done_all n [] d w f = (refl, w, refl)
done_all n (a ∷ acts) d w (first, rest) =
    let one = does n a d w first in
    let more = done_all n acts (acted a d) one.1 rest in
    ((acted a d, one.0, more.0), more.1, more.2 ∙ one.2)

-- plans that fit

pub fits_both : (n : ℕ) (xs ys : List Act) → AllFit n xs → AllFit n ys → AllFit n (xs ++ ys)
fits_both n [] ys f g = g
fits_both n (a ∷ xs) ys (first, rest) g = (first, fits_both n xs ys rest g)

pub fits_zeroing : (n i k : ℕ) → i + k ≤ n → AllFit n (zeroing i k)
unfolding zeroing
fits_zeroing n i zero h = tt
fits_zeroing n i (suc k) h = ((omega (arith, h), length-replicate {A = ℕ} 128 0), fits_zeroing n (i + 1) k (omega (arith, h)))

pub fits_blanking : (n : ℕ) (test : ℕ → Bool) (i k : ℕ) → i + k ≤ n → AllFit n (blanking test i k)
unfolding blanking
fits_blanking n test i zero h = tt
fits_blanking n test i (suc k) h =
    let rest = fits_blanking n test (i + 1) k (omega (arith, h)) in
    ⊎_elim
    (λ (e : test i ≡ true). subst (λ (acts : List Act). AllFit n acts) (sym (cond-true (test i) (wrote i blank ∷ blanking test (i + 1) k) (blanking test (i + 1) k) e)) ((omega (arith, h), length-replicate {A = ℕ} 128 0), rest))
    (λ (e : test i ≡ false). subst (λ (acts : List Act). AllFit n acts) (sym (cond-false (test i) (wrote i blank ∷ blanking test (i + 1) k) (blanking test (i + 1) k) e)) rest)
    (cases_Bool (test i))

-- a record's sector has 128 bytes
pub long : (e : Entry) → length e.bytes ≤ 96 → length (laid_out e) ≡ 128
unfolding laid_out digits
long e small =
    let rest : length (e.bytes ++ replicate (96 - length e.bytes) 0) ≡ 96 = simp (length-append, length-replicate) (omega arith) in
    omega arith

pub fits_one : (k n low last : ℕ) (x : Item) → 1 ≤ n → n ≤ k → length x.bytes ≤ 96 → AllFit k (appending n low last (x ∷ []))
fits_one k n low last x some room size =
    let inside = mod-lt (last + 1) some in
    ((omega (arith, inside, room), long (recorded low (last + 1) x) size), tt)

pub fits_items : (k n low last from : ℕ) (xs : List Item) → 1 ≤ n → n ≤ k → Appendable from xs → AllFit k (appending n low last xs)
fits_items k n low last from [] some room all = tt
fits_items k n low last from (x ∷ xs) some room (kind, fits, number, all) =
    let inside = mod-lt (last + 1) some in
    let size = (fits.piece kind).2 in
    ((omega (arith, inside, room), long (recorded low (last + 1) x) (omega (arith, size))), fits_items k n low (last + 1) (from + 1) xs some room all)

-- What a plan leaves of such a device.
pub record Made (n : ℕ) (d : Disk) (acts : List Act) : Type 0 where
  pub disk : Disk
  pub done : Done d acts disk
  pub willing : Willing n disk
  pub plate : disk.plate ≡ d.plate

pub made : (n : ℕ) (d : Disk) (acts : List Act) → Willing n d → AllFit n acts → Made n d acts
made n d acts w f =
    let all = done_all n acts d w f in
    record { disk = all_acted acts d; done = all.0; willing = all.1; plate = all.2 }

-- The device once power has failed, with nothing else changed.
abbrev pub turned_off : Disk → Disk
turned_off d = record { plate = d.plate; on = false; shows = d.shows; others = d.others; told = 0 }

pub torn : (d : Disk) (s : ℕ) (bytes : List ℕ) → d.on ≡ true → Torn d s bytes 0 (turned_off d)
torn d s bytes on =
    record { was_on = on; off = refl; plate = refl; origin = inl refl; told = refl; elsewhere = λ i other x st. st; there = λ x st. inl st }

pub lost_again : (d : Disk) → Lost (turned_off d) 0 (turned_off d)
lost_again d = record { off = refl; plate = refl; origin = inl refl; told = refl; old = λ i x st. st }

-- A restart finds what it showed.
pub restarts : (n : ℕ) (d : Disk) → Willing n d → Restarted (turned_off d) d
restarts n d w = record { on = w.on; plate = refl; chosen = λ i. inl refl; quiet = λ i x st. shown_alone d i x (w.quiet i) st }
