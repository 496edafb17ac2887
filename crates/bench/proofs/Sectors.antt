-- What the sectors show once one of them is written.
use Rattle.std.proofs.Common.{◌≡◌, ◌≢◌, ℕ, zero, suc, ◌+◌, ◌*◌, ◌-◌, ◌<◌, ◌≤◌, Bool, true, false, cond, ◌==◌, ◌⊎◌, List, [], ◌∷◌, ◌++◌, length, take, drop, Ok, Err, refl, sym, ap, ◌∙◌, inl, inr, ⊎_elim, arith, rules, subst}
use Rattle.std.specs.List.{slice_index, slice_index_or, slice_set, slice_range}
use Rattle.std.proofs.lemmas.List.{get_or-set_same, get_or-set_other, drop-drop, length-set}
use Rattle.std.proofs.lemmas.Slice.{between_is, between-put_mid, take-put_mid_below, drop-put_mid}
use Rattle.std.proofs.lemmas.Bool.{cases_lt}
use borrow.Rule.Slice.PartMut.{put_mid}
use Rattle.device.specs.declared.fault.DeviceFault.TheVariants.{Power}
use Rattle.device.specs.Disk.{Disk, Shown, spoiled, holds, Stands}
use Rattle.device.specs.Meaning.{Answer, Addressed, MayWrite, NothingNew, Write, Wrote, Torn}
use Rattle.bench.specs.Card.{Card, sectors, cell, with_cell, flag, shown, model, code, next}
use Rattle.bench.specs.Calls.{Ready, Left, Stored}

-- these bytes in place of as many from a on
abbrev put : List ℕ → ℕ → List ℕ → List ℕ
put bs a new = take a bs ++ (new ++ drop (a + 128) bs)

in_middle : (bs new : List ℕ) (a : ℕ) → put bs a new ≡ put_mid a 128 bs new
in_middle bs new a = ap (λ rest. take a bs ++ (new ++ rest)) (sym (drop-drop 128 a bs))

put_there : (bs new : List ℕ) (a : ℕ) → a ≤ length bs → length new ≡ 128 → slice_range (put bs a new) a (a + 128) ≡ new
put_there bs new a le fits =
    ap (λ xs. slice_range xs a (a + 128)) (in_middle bs new a)
    ∙ between-put_mid a 128 bs new (a + 128) le (omega arith)

put_before : (bs new : List ℕ) (a b : ℕ) → a ≤ length bs → b + 128 ≤ a → slice_range (put bs a new) b (b + 128) ≡ slice_range bs b (b + 128)
put_before bs new a b le before =
    ap (λ xs. slice_range xs b (b + 128)) (in_middle bs new a)
    ∙ between_is (put_mid a 128 bs new) b (b + 128)
    ∙ ap (drop b) (take-put_mid_below a 128 bs new (b + 128) before le)
    ∙ sym (between_is bs b (b + 128))

put_after : (bs new : List ℕ) (a b : ℕ) → a ≤ length bs → length new ≡ 128 → a + 128 ≤ b → slice_range (put bs a new) b (b + 128) ≡ slice_range bs b (b + 128)
put_after bs new a b le fits after =
    ap (λ xs. slice_range xs b (b + 128)) (in_middle bs new a)
    ∙ ap (take (b + 128 - b)) (drop-put_mid a 128 bs new b after le fits)

apart : (i s : ℕ) → i ≢ s → (i < s) ⊎ (s < i)
apart i s other = elim (cases_lt i s) [ inl below ↦ inl below | inr above ↦ inr (omega arith) ]

code_cases : (n : ℕ) → (n ≡ 0) ⊎ ((n ≡ 1) ⊎ ((n ≡ 2) ⊎ (3 ≤ n)))
code_cases zero = inl refl
code_cases (suc zero) = inr (inl refl)
code_cases (suc (suc zero)) = inr (inr (inl refl))
code_cases (suc (suc (suc n))) = inr (inr (inr (omega arith)))

put_else : (bs new : List ℕ) (s i : ℕ) → 128 * s ≤ length bs → length new ≡ 128 → i ≢ s → slice_range (put bs (128 * s) new) (128 * i) (128 * i + 128) ≡ slice_range bs (128 * i) (128 * i + 128)
put_else bs new s i le fits other =
    ⊎_elim (λ below. put_before bs new (128 * s) (128 * i) le (omega arith)) (λ above. put_after bs new (128 * s) (128 * i) le fits (omega arith)) (apart i s other)

-- The card c after a call: sector s shows x, and the others what they showed.
record Showing (c e : Card) (s : ℕ) (x : Shown) : Type 0 where
  there : shown e s ≡ x
  elsewhere : (i : ℕ) → i ≢ s → shown e i ≡ shown c i

filled_shows : (c e : Card) (s : ℕ) (new : List ℕ) → length c.bytes ≡ 128 * sectors c → s < sectors c → length new ≡ 128 → e.bytes ≡ with_cell c s new → e.flags ≡ slice_set c.flags s 0 → Showing c e s (holds new)
filled_shows c e s new whole within fits bytes flags =
    let le : 128 * s ≤ length c.bytes = omega arith in
    record {
      there =
          ap (λ fs. cond (slice_index fs s == 0) (holds (cell e s)) spoiled) flags
          ∙ ap (λ f. cond (f == 0) (holds (cell e s)) spoiled) (get_or-set_same c.flags s 0 0 within)
          ∙ ap holds (ap (λ bs. slice_range bs (128 * s) (128 * s + 128)) bytes ∙ put_there c.bytes new (128 * s) le fits);
      elsewhere = λ i other.
          ap (λ fs. cond (slice_index fs i == 0) (holds (cell e i)) spoiled) flags
          ∙ ap (λ f. cond (f == 0) (holds (cell e i)) spoiled) (get_or-set_other c.flags s i 0 0 other)
          ∙ ap (λ b. cond (flag c i == 0) (holds b) spoiled) (ap (λ bs. slice_range bs (128 * i) (128 * i + 128)) bytes ∙ put_else c.bytes new s i le fits other);
    }

spoilt_shows : (c e : Card) (s : ℕ) → s < sectors c → e.bytes ≡ c.bytes → e.flags ≡ slice_set c.flags s 1 → Showing c e s spoiled
spoilt_shows c e s within bytes flags =
    record {
      there =
          ap (λ fs. cond (slice_index fs s == 0) (holds (cell e s)) spoiled) flags
          ∙ ap (λ f. cond (f == 0) (holds (cell e s)) spoiled) (get_or-set_same c.flags s 1 0 within);
      elsewhere = λ i other.
          ap (λ fs. cond (slice_index fs i == 0) (holds (cell e i)) spoiled) flags
          ∙ ap (λ f. cond (f == 0) (holds (cell e i)) spoiled) (get_or-set_other c.flags s i 1 0 other)
          ∙ ap (λ bs. cond (flag c i == 0) (holds (slice_range bs (128 * i) (128 * i + 128))) spoiled) bytes;
    }

old_shows : (c e : Card) (s : ℕ) → e.bytes ≡ c.bytes → e.flags ≡ c.flags → Showing c e s (shown c s)
old_shows c e s bytes flags =
    let all : (i : ℕ) → shown e i ≡ shown c i =
    λ i. ap (λ fs. cond (slice_index fs i == 0) (holds (cell e i)) spoiled) flags ∙ ap (λ bs. cond (flag c i == 0) (holds (slice_range bs (128 * i) (128 * i + 128))) spoiled) bytes in
    record { there = all s; elsewhere = λ i other. all i }

-- Nothing else may stand in a sector than what it shows.
stands : (e : Card) (i : ℕ) (x : Shown) → Stands (model e) i x → x ≡ shown e i
stands e i x (inl same) = same
stands e i x (inr h) = absurd h

nothing_new : (c e : Card) (s : ℕ) (y : Shown) → Showing c e s y → (i : ℕ) → i ≢ s → NothingNew (model c) (model e) i
nothing_new c e s y w i other x st = inl (stands e i x st ∙ w.elsewhere i other)

same_sectors : (c e : Card) (bs fs plan : List ℕ) (on : Bool) → Left c bs fs plan on e → length fs ≡ length c.flags → (model e).plate ≡ (model c).plate
same_sectors c e bs fs plan on left same =
    ap (λ n. record { sectors = n; origin = e.origin; ends = e.origin ∷ []; blames = λ _. e.origin }) (ap length left.flags ∙ same)
    ∙ ap (λ o. record { sectors = length c.flags; origin = o; ends = o ∷ []; blames = λ _. o }) left.origin

wrote : (c e : Card) (s : ℕ) (new bs fs plan : List ℕ) → Ready c s (length new) → Left c bs fs plan true e → length fs ≡ length c.flags → Showing c e s (holds new) → Wrote (model c) s new (model e)
wrote c e s new bs fs plan ready left same w =
    record {
      was_on = ready.on;
      on = left.on;
      plate = same_sectors c e bs fs plan true left same;
      asked = record { there = ready.there; fits = ready.fits };
      shown = w.there;
      kept = w.elsewhere;
      elsewhere = nothing_new c e s (holds new) w;
      there = λ x st. inr (record { there = ready.there; fits = ready.fits }, inl (stands e s x st ∙ w.there));
    }

-- what a write may leave in its sector
abbrev MayShow : Card → ℕ → List ℕ → Shown → Type 0
MayShow c s new x = (x ≡ shown c s) ⊎ ((x ≡ holds new) ⊎ (x ≡ spoiled))

may_write : (c : Card) (s : ℕ) (new : List ℕ) (x : Shown) → Ready c s (length new) → MayShow c s new x → MayWrite (model c) s new x
may_write c s new x ready (inl old) = inl (inl old)
may_write c s new x ready (inr h) = inr (record { there = ready.there; fits = ready.fits }, h)

torn : (c e : Card) (s : ℕ) (new bs fs plan : List ℕ) (y : Shown) → Ready c s (length new) → Left c bs fs plan false e → length fs ≡ length c.flags → Showing c e s y → MayShow c s new y → Torn (model c) s new c.origin (model e)
torn c e s new bs fs plan y ready left same w may =
    record {
      was_on = ready.on;
      off = left.on;
      plate = same_sectors c e bs fs plan false left same;
      origin = inr (inl refl);
      told = left.origin;
      elsewhere = nothing_new c e s y w;
      there = λ x st. may_write c s new x ready (subst (λ (z : Shown). MayShow c s new z) (sym (stands e s x st ∙ w.there)) may);
    }

-- A write that does what it must is a write of the model.
pub stored_means : (c e : Card) (s : ℕ) (new : List ℕ) (r : Answer) → length c.bytes ≡ 128 * sectors c → Ready c s (length new) → Stored c s new r e → Write (model c) s new r (model e)
stored_means c e s new r whole ready w =
    elim (code_cases (code c)) [
      | inl done ↦
          let d = w.done ready done in
          subst (λ (a : Answer). Write (model c) s new a (model e)) (sym d.0)
          (wrote c e s new (with_cell c s new) (slice_set c.flags s 0) (next c) ready d.1 (length-set c.flags s 0) (filled_shows c e s new whole ready.there ready.fits d.1.bytes d.1.flags))
      | inr (inl old) ↦
          let d = w.old ready old in
          subst (λ (a : Answer). Write (model c) s new a (model e)) (sym d.0)
          (inr (torn c e s new c.bytes c.flags (next c) (shown c s) ready d.1 refl (old_shows c e s d.1.bytes d.1.flags) (inl refl)))
      | inr (inr (inl fresh)) ↦
          let d = w.new ready fresh in
          subst (λ (a : Answer). Write (model c) s new a (model e)) (sym d.0)
          (inr (torn c e s new (with_cell c s new) (slice_set c.flags s 0) (next c) (holds new) ready d.1 (length-set c.flags s 0) (filled_shows c e s new whole ready.there ready.fits d.1.bytes d.1.flags) (inr (inl refl))))
      | inr (inr (inr spoilt)) ↦
          let d = w.spoiled ready spoilt in
          subst (λ (a : Answer). Write (model c) s new a (model e)) (sym d.0)
          (inr (torn c e s new c.bytes (slice_set c.flags s 1) (next c) spoiled ready d.1 (length-set c.flags s 1) (spoilt_shows c e s ready.there d.1.bytes d.1.flags) (inr (inr refl))))
    ]
