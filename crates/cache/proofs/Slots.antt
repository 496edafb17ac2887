-- Lists of held sectors: one looked for from the end, and each of a sector given new bytes.
use Rattle.std.proofs.Common.{◌≡◌, ℕ, zero, suc, ◌+◌, ◌-◌, ◌%◌, ◌<◌, ◌≤◌, Bool, true, false, cond, ◌==◌, eqb, List, [], ◌∷◌, ◌++◌, map, length, get_or, take, drop, set, reverse, Some, None, Ok, Err, Option, inl, inr, sym, refl, ap, ◌∙◌}
use Rattle.std.specs.List.{find}
use Rattle.std.specs.Option.{option_map, option_or}
use Rattle.std.proofs.lemmas.Bool.{eq-eqb, ne_eqb, cases_eq}
use Rattle.std.proofs.lemmas.List.{append-nil, drop_all, get_or_default, reverse-append, take_all}
use Rattle.std.proofs.lemmas.List.Folds.{find-append}
use Rattle.std.proofs.lemmas.List.Edits.{map_over_more}
use Rattle.device.specs.declared.fault.DeviceFault.TheVariants.{Power, Misaddressed, Unfit, Spoiled}
use Rattle.device.specs.Disk.{Disk}
use Rattle.device.specs.Meaning.{Answer, Addressed, Read, Write}
use Rattle.device.proofs.Changes.{still_addressed, changed_cut, read_plate}
use Rattle.cache.specs.declared.held.Slot.{Slot}
use Rattle.cache.specs.Held.{slot, kept, rewritten, Fits}
use Rattle.cache.specs.Ring.{ring}
use Rattle.cache.proofs.Rings.{ring_at}

-- The later of two finds, if there is one.
abbrev pub later : Option (List ℕ) → Option (List ℕ) → Option (List ℕ)
later x (Some b) = Some b
later x None = x

later_or : (x y : Option Slot) → option_map (λ l. l.bytes) (option_or y x) ≡ later (option_map (λ l. l.bytes) x) (option_map (λ l. l.bytes) y)
later_or x (Some l) = refl
later_or x None = refl

one : (s : ℕ) (l : Slot) → option_map (λ k. k.bytes) (find (λ k. eqb k.sector s) (l ∷ [])) ≡ cond (eqb s l.sector) (Some l.bytes) None
one s l =
    elim (cases_eq s l.sector) [
      | inl same ↦ rw (eq-eqb s l.sector same, eq-eqb l.sector s (sym same)) refl
      | inr other ↦ rw (ne_eqb s l.sector other, ne_eqb l.sector s (λ q. other (sym q))) refl
    ]

-- what is kept once a slot stands in front
pub kept-cons : (s : ℕ) (l : Slot) (ls : List Slot) → kept s (l ∷ ls) ≡ later (cond (eqb s l.sector) (Some l.bytes) None) (kept s ls)
kept-cons s l ls =
    ap (λ xs. option_map (λ k. k.bytes) (find (λ k. eqb k.sector s) xs)) (reverse-append (l ∷ []) ls)
    ∙ ap (option_map (λ k. k.bytes)) (find-append (λ k. eqb k.sector s) (reverse ls) (l ∷ []))
    ∙ later_or (find (λ k. eqb k.sector s) (l ∷ [])) (find (λ k. eqb k.sector s) (reverse ls))
    ∙ ap (λ x. later x (kept s ls)) (one s l)

-- the last of the slots that is of this sector
abbrev pub last_of : ℕ → List Slot → Option Slot
last_of s ls = find (λ l. l.sector == s) (reverse ls)

pub last_of-append : (s : ℕ) (xs ys : List Slot) → last_of s (xs ++ ys) ≡ option_or (last_of s ys) (last_of s xs)
last_of-append s xs ys =
    ap (find (λ l. l.sector == s)) (reverse-append xs ys) ∙ find-append (λ l. l.sector == s) (reverse ys) (reverse xs)

last_here : (s : ℕ) (l : Slot) (ls : List Slot) → last_of s ls ≡ None → l.sector ≡ s → last_of s (l ∷ ls) ≡ Some l
last_here s l ls none same =
    last_of-append s (l ∷ []) ls ∙ ap (λ w. option_or w (last_of s (l ∷ []))) none ∙ rw (eq-eqb l.sector s same) refl

last_not_here : (s : ℕ) (l : Slot) (ls : List Slot) → last_of s ls ≡ None → (l.sector ≡ s → ⊥) → last_of s (l ∷ ls) ≡ None
last_not_here s l ls none other =
    last_of-append s (l ∷ []) ls ∙ ap (λ w. option_or w (last_of s (l ∷ []))) none ∙ rw (ne_eqb l.sector s other) refl

-- the last of a later part is the last
last_from : (s k : ℕ) (ls : List Slot) (x : Slot) → last_of s (drop k ls) ≡ Some x → last_of s ls ≡ Some x
last_from s zero ls x e = e
last_from s (suc k) [] x e = e
last_from s (suc k) (l ∷ ls) x e = last_of-append s (l ∷ []) ls ∙ ap (λ w. option_or w (last_of s (l ∷ []))) (last_from s k ls x e)

-- where the slot before place a of a ring is of the sector, and none from a on is, it is the last
pub ring_last : (s n c a : ℕ) (xs ls : List Slot) (d : Slot) → take c (ring n xs) ≡ ls → length xs ≡ 8 → n < 8 → c ≤ 8 → n < a → a ≤ n + c
    → last_of s (drop (a - n) ls) ≡ None → (get_or xs ((a - 1) % 8) d).sector ≡ s → Some (get_or xs ((a - 1) % 8) d) ≡ last_of s ls
ring_last s n c a xs ls d is eight ln lc after within none same =
    let x = get_or xs ((a - 1) % 8) d in
    let there : drop (a - 1 - n) ls ≡ x ∷ drop (a - n) ls = ring_at n c a xs ls d is eight ln lc after within in
    sym (last_from s (a - 1 - n) ls x (ap (last_of s) there ∙ last_here s x (drop (a - n) ls) none same))

-- where it is of another sector, none from it on is of this one
pub ring_none : (s n c a : ℕ) (xs ls : List Slot) (d : Slot) → take c (ring n xs) ≡ ls → length xs ≡ 8 → n < 8 → c ≤ 8 → n < a → a ≤ n + c
    → last_of s (drop (a - n) ls) ≡ None → ((get_or xs ((a - 1) % 8) d).sector ≡ s → ⊥) → last_of s (drop (a - 1 - n) ls) ≡ None
ring_none s n c a xs ls d is eight ln lc after within none other =
    let x = get_or xs ((a - 1) % 8) d in
    ap (last_of s) (ring_at n c a xs ls d is eight ln lc after within) ∙ last_not_here s x (drop (a - n) ls) none other

-- a slot of the sector gets its bytes
abbrev pub renewed : Slot → Slot → Slot
renewed x l = cond (eqb x.sector l.sector) x l

renewed_this : (x l : Slot) → l.sector ≡ x.sector → x ≡ renewed x l
renewed_this x l same = ap (λ b. cond b x l) (sym (eq-eqb x.sector l.sector (sym same)))

renewed_other : (x l : Slot) → (l.sector ≡ x.sector → ⊥) → l ≡ renewed x l
renewed_other x l other = ap (λ b. cond b x l) (sym (ne_eqb x.sector l.sector (λ q. other (sym q))))

-- one slot more is gone through
renew_more : (x : Slot) (xs ys : List Slot) (i : ℕ) (d y : Slot) → i < length xs → i < length ys → ys ≡ map (renewed x) (take i xs) ++ drop i xs
    → y ≡ renewed x (get_or ys i d) → set ys i y ≡ map (renewed x) (take (i + 1) xs) ++ drop (i + 1) xs
renew_more x xs ys i d y lx ly e f = ap (set ys i) f ∙ map_over_more (renewed x) xs ys i (get_or ys i d) lx e (get_or_default ys i d (get_or ys i d) ly)

pub renew_this : (x : Slot) (xs ys : List Slot) (i : ℕ) (d : Slot) → i < length xs → i < length ys → ys ≡ map (renewed x) (take i xs) ++ drop i xs
    → (get_or ys i d).sector ≡ x.sector → set ys i x ≡ map (renewed x) (take (i + 1) xs) ++ drop (i + 1) xs
renew_this x xs ys i d lx ly e same = renew_more x xs ys i d x lx ly e (renewed_this x (get_or ys i d) same)

pub renew_other : (x : Slot) (xs ys : List Slot) (i : ℕ) (d : Slot) → i < length xs → i < length ys → ys ≡ map (renewed x) (take i xs) ++ drop i xs
    → ((get_or ys i d).sector ≡ x.sector → ⊥) → set ys i (get_or ys i d) ≡ map (renewed x) (take (i + 1) xs) ++ drop (i + 1) xs
renew_other x xs ys i d lx ly e other = renew_more x xs ys i d (get_or ys i d) lx ly e (renewed_other x (get_or ys i d) other)

-- all are
pub renew_all : (x : Slot) (xs ys : List Slot) (i : ℕ) → length xs ≤ i → ys ≡ map (renewed x) (take i xs) ++ drop i xs → ys ≡ map (renewed x) xs
renew_all x xs ys i h e = e ∙ rw (take_all i xs h, drop_all i xs h) (append-nil (map (renewed x) xs))

-- held sectors stay sectors of the disk
pub fits_still : (d e : Disk) (ls : List Slot) → e.plate ≡ d.plate → Fits d ls → Fits e ls
fits_still d e [] p f = tt
fits_still d e (l ∷ ls) p f = (still_addressed d e l.sector (length l.bytes) p f.0, fits_still d e ls p f.1)

pub fits_rest : (d : Disk) (ls : List Slot) → Fits d ls → Fits d (drop 1 ls)
fits_rest d [] f = tt
fits_rest d (l ∷ ls) f = f.1

pub fits_push : (d : Disk) (ls : List Slot) (l : Slot) → Addressed d l.sector (length l.bytes) → Fits d ls → Fits d (ls ++ l ∷ [])
fits_push d [] l a f = (a, tt)
fits_push d (k ∷ ls) l a f = (f.0, fits_push d ls l a f.1)

pub fits_rewritten : (d : Disk) (ls : List Slot) (s : ℕ) (b : List ℕ) → Addressed d s (length b) → Fits d ls → Fits d (rewritten s b ls)
fits_rewritten d [] s b a f = tt
fits_rewritten d (l ∷ ls) s b a f = (
  elim (eqb s l.sector) as (λ (q : Bool). Addressed d (cond q (slot s b) l).sector (length (cond q (slot s b) l).bytes)) [ true ↦ a | false ↦ f.0 ],
  fits_rewritten d ls s b a f.1,
)

-- a write leaves the plate
write_plate : (d e : Disk) (s : ℕ) (b : List ℕ) (r : Answer) → Write d s b r e → e.plate ≡ d.plate
write_plate d e s b (Ok u) w = w.plate
write_plate d e s b (Err (Power o)) w = (changed_cut d e s b o w).plate
write_plate d e s b (Err (Misaddressed t o)) w = ap (λ (x : Disk). x.plate) w.same
write_plate d e s b (Err Unfit) w = absurd w
write_plate d e s b (Err (Spoiled t o)) w = absurd w

-- so held sectors stay sectors of the disk below in a read and a write of it
pub fits_wrote : (d e : Disk) (s : ℕ) (b : List ℕ) (r : Answer) (ls : List Slot) → Write d s b r e → Fits d ls → Fits e ls
fits_wrote d e s b r ls w f = fits_still d e ls (write_plate d e s b r w) f

pub fits_read : (d e : Disk) (s : ℕ) (before after : List ℕ) (r : Answer) (ls : List Slot) → Read d s before r e after → Fits d ls → Fits e ls
fits_read d e s before after r ls w f = fits_still d e ls (read_plate d e s before after r w) f
