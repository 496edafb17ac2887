-- Held sectors laid over a disk: what shows, what may stand, and what a write below leaves of it.
use Rattle.std.proofs.Common.{◌≡◌, ℕ, Bool, true, false, cond, eqb, ◌≢◌, ◌⊎◌, List, [], ◌∷◌, ◌++◌, is_some, Some, None, Option, sym, refl, ap, ◌∙◌, subst, inl, inr}
use Rattle.std.proofs.lemmas.Bool.{eq-eqb, ne_eqb, cases_eq, both_ways}
use Rattle.device.specs.Disk.{Disk, Shown, spoiled, holds, Among, Stands}
use Rattle.device.specs.Meaning.{NothingNew, Wrote, MayWrite}
use Rattle.device.specs.Trace.{Cut, wrote}
use Rattle.cache.specs.declared.held.Slot.{Slot}
use Rattle.cache.specs.Held.{slot, kept, rewritten}
use Rattle.cache.proofs.Slots.{later, kept-cons}
use Rattle.cache.specs.State.{laid, over}

-- what may stand in a sector that shows s and has these others, with a slot laid over it or not
abbrev StandsIf : Bool → Shown → Shown → List Shown → Shown → Type 0
StandsIf q b s os x = Among x (cond q b s ∷ cond q (spoiled ∷ s ∷ os) os)

-- more may stand with a slot laid over
laid_under_if : (q : Bool) (b s : Shown) (os : List Shown) (x : Shown) → Among x (s ∷ os) → StandsIf q b s os x
laid_under_if true b s os x st = inr (inr st)
laid_under_if false b s os x st = st

pub laid_under : (d : Disk) (l : Slot) (i : ℕ) → NothingNew (laid d l) d i
laid_under d l i x st = laid_under_if (eqb i l.sector) (holds l.bytes) (d.shows i) (d.others i) x st

pub over_under : (d : Disk) (ls : List Slot) (i : ℕ) → NothingNew (over d ls) d i
over_under d [] i x st = st
over_under d (l ∷ ls) i x st = over_under (laid d l) ls i x (laid_under d l i x st)

-- where nothing new stands below, nothing new stands with the same slots laid over
laid_old_if : (q : Bool) (b s s' : Shown) (os os' : List Shown) (x : Shown) → (Among x (s' ∷ os') → Among x (s ∷ os)) → StandsIf q b s' os' x → StandsIf q b s os x
laid_old_if true b s s' os os' x h (inl e) = inl e
laid_old_if true b s s' os os' x h (inr (inl e)) = inr (inl e)
laid_old_if true b s s' os os' x h (inr (inr st)) = inr (inr (h st))
laid_old_if false b s s' os os' x h st = h st

pub laid_old : (d e : Disk) (l : Slot) (i : ℕ) → NothingNew d e i → NothingNew (laid d l) (laid e l) i
laid_old d e l i h x st = laid_old_if (eqb i l.sector) (holds l.bytes) (d.shows i) (e.shows i) (d.others i) (e.others i) x (h x) st

pub over_old : (d e : Disk) (ls : List Slot) (i : ℕ) → NothingNew d e i → NothingNew (over d ls) (over e ls) i
over_old d e [] i h = h
over_old d e (l ∷ ls) i h = over_old (laid d l) (laid e l) ls i (laid_old d e l i h)

-- what shows alike below shows alike with the same slots laid over
pub over_shows : (d e : Disk) (ls : List Slot) (i : ℕ) → e.shows i ≡ d.shows i → (over e ls).shows i ≡ (over d ls).shows i
over_shows d e [] i h = h
over_shows d e (l ∷ ls) i h = over_shows (laid d l) (laid e l) ls i (ap (cond (eqb i l.sector) (holds l.bytes)) h)

-- a slot written below stands for the slot laid over
pub wrote_shows : (d : Disk) (l : Slot) (e : Disk) → Wrote d l.sector l.bytes e → (i : ℕ) → e.shows i ≡ (laid d l).shows i
wrote_shows d l e w i =
    elim (cases_eq i l.sector) [
      | inl same ↦ ap e.shows same ∙ w.shown ∙ sym (ap (λ q. cond q (holds l.bytes) (d.shows i)) (eq-eqb i l.sector same))
      | inr other ↦ w.kept i other ∙ sym (ap (λ q. cond q (holds l.bytes) (d.shows i)) (ne_eqb i l.sector other))
    ]

-- what a write below may leave may stand with the slot laid over
may_laid : (d : Disk) (l : Slot) (x : Shown) → MayWrite d l.sector l.bytes x → Stands (laid d l) l.sector x
may_laid d l x m =
    let e = eq-eqb l.sector l.sector refl in
    subst (λ (q : Bool). StandsIf q (holds l.bytes) (d.shows l.sector) (d.others l.sector) x) (sym e)
    (elim m [ inl st ↦ inr (inr st) | inr (a, inl h) ↦ inl h | inr (a, inr s) ↦ inr (inl s) ])

new_laid : (d : Disk) (l : Slot) (e : Disk)
    → ((i : ℕ) → i ≢ l.sector → NothingNew d e i) → ((x : Shown) → Stands e l.sector x → MayWrite d l.sector l.bytes x)
    → (i : ℕ) → NothingNew (laid d l) e i
new_laid d l e elsewhere there i x st =
    elim (cases_eq i l.sector) [
      | inl same ↦ subst (λ j. Stands (laid d l) j x) (sym same) (may_laid d l x (there x (subst (λ j. Stands e j x) same st)))
      | inr other ↦ laid_under d l i x (elsewhere i other x st)
    ]

pub wrote_old : (d : Disk) (l : Slot) (e : Disk) → Wrote d l.sector l.bytes e → (i : ℕ) → NothingNew (laid d l) e i
wrote_old d l e w = new_laid d l e w.elsewhere w.there

-- laid over twice is as once
laid_twice_if : (q : Bool) (b s : Shown) (os : List Shown) (x : Shown) → StandsIf q b (cond q b s) (cond q (spoiled ∷ s ∷ os) os) x → StandsIf q b s os x
laid_twice_if true b s os x (inl e) = inl e
laid_twice_if true b s os x (inr (inl e)) = inr (inl e)
laid_twice_if true b s os x (inr (inr st)) = st
laid_twice_if false b s os x st = st

pub laid_twice : (d : Disk) (l : Slot) (i : ℕ) → NothingNew (laid d l) (laid (laid d l) l) i
laid_twice d l i x st = laid_twice_if (eqb i l.sector) (holds l.bytes) (d.shows i) (d.others i) x st

-- a slot whose writing below was cut, and that is still laid over
pub cut_old : (d : Disk) (l : Slot) (o : ℕ) (e : Disk) → Cut (wrote l.sector l.bytes) d o e → (i : ℕ) → NothingNew (laid d l) (laid e l) i
cut_old d l o e (inl w) i x st = subst (λ (y : Disk). Stands (laid y l) i x) w.same st
cut_old d l o e (inr t) i x st = laid_twice d l i x (laid_old (laid d l) e l i (new_laid d l e t.elsewhere t.there i) x st)

-- one more slot at the end lies on top
pub over_push : (d : Disk) (ls : List Slot) (l : Slot) → over d (ls ++ l ∷ []) ≡ laid (over d ls) l
over_push d [] l = refl
over_push d (k ∷ ls) l = over_push (laid d k) ls l

-- what shows under the slots is what is kept, or else what shows below
abbrev shown_by : Option (List ℕ) → Shown → Shown
shown_by (Some b) s = holds b
shown_by None s = s

shown_later : (q : Bool) (b : List ℕ) (k : Option (List ℕ)) (s : Shown) → shown_by k (cond q (holds b) s) ≡ shown_by (later (cond q (Some b) None) k) s
shown_later true b (Some c) s = refl
shown_later true b None s = refl
shown_later false b (Some c) s = refl
shown_later false b None s = refl

pub over_kept : (d : Disk) (ls : List Slot) (i : ℕ) → (over d ls).shows i ≡ shown_by (kept i ls) (d.shows i)
over_kept d [] i = refl
over_kept d (l ∷ ls) i =
    over_kept (laid d l) ls i ∙ shown_later (eqb i l.sector) l.bytes (kept i ls) (d.shows i)
    ∙ ap (λ k. shown_by k (d.shows i)) (sym (kept-cons i l ls))

pub shows_kept : (d : Disk) (ls : List Slot) (i : ℕ) (b : List ℕ) → kept i ls ≡ Some b → (over d ls).shows i ≡ holds b
shows_kept d ls i b e = over_kept d ls i ∙ ap (λ k. shown_by k (d.shows i)) e

pub shows_below : (d : Disk) (ls : List Slot) (i : ℕ) → kept i ls ≡ None → (over d ls).shows i ≡ d.shows i
shows_below d ls i e = over_kept d ls i ∙ ap (λ k. shown_by k (d.shows i)) e

-- elsewhere a slot laid over changes nothing
pub unlaid : (d : Disk) (l : Slot) (i : ℕ) → i ≢ l.sector → NothingNew d (laid d l) i
unlaid d l i other x st =
    subst (λ (q : Bool). StandsIf q (holds l.bytes) (d.shows i) (d.others i) x) (ne_eqb i l.sector other) st

pub unlaid_shows : (d : Disk) (l : Slot) (i : ℕ) → i ≢ l.sector → (laid d l).shows i ≡ d.shows i
unlaid_shows d l i other = ap (λ q. cond q (holds l.bytes) (d.shows i)) (ne_eqb i l.sector other)

pub laid_shows : (d : Disk) (l : Slot) → (laid d l).shows l.sector ≡ holds l.bytes
laid_shows d l = ap (λ q. cond q (holds l.bytes) (d.shows l.sector)) (eq-eqb l.sector l.sector refl)

-- what may stand once a slot is laid over
pub laid_there : (d : Disk) (l : Slot) (x : Shown) → Stands (laid d l) l.sector x → Stands d l.sector x ⊎ ((x ≡ holds l.bytes) ⊎ (x ≡ spoiled))
laid_there d l x st =
    elim (subst (λ (q : Bool). StandsIf q (holds l.bytes) (d.shows l.sector) (d.others l.sector) x) (eq-eqb l.sector l.sector refl) st)
    [ inl h ↦ inr (inl h) | inr (inl s) ↦ inr (inr s) | inr (inr old) ↦ inl old ]

-- one slot, with new bytes where it is of sector s
abbrev renew : ℕ → List ℕ → Slot → Slot
renew s b l = cond (eqb s l.sector) (slot s b) l

renew_same : (s : ℕ) (b : List ℕ) (l : Slot) → s ≡ l.sector → renew s b l ≡ slot s b
renew_same s b l same = ap (λ q. cond q (slot s b) l) (eq-eqb s l.sector same)

renew_other : (s : ℕ) (b : List ℕ) (l : Slot) → s ≢ l.sector → renew s b l ≡ l
renew_other s b l other = ap (λ q. cond q (slot s b) l) (ne_eqb s l.sector other)

renew_shows_else : (d e : Disk) (l : Slot) (s : ℕ) (b : List ℕ) (i : ℕ) → i ≢ s → e.shows i ≡ d.shows i → (laid e (renew s b l)).shows i ≡ (laid d l).shows i
renew_shows_else d e l s b i ne h =
    elim (cases_eq s l.sector) [
      | inl same ↦ ap (λ (k : Slot). (laid e k).shows i) (renew_same s b l same) ∙ unlaid_shows e (slot s b) i ne ∙ h ∙ sym (unlaid_shows d l i (λ q. ne (q ∙ sym same)))
      | inr other ↦ ap (λ (k : Slot). (laid e k).shows i) (renew_other s b l other) ∙ over_shows d e (l ∷ []) i h
    ]

renew_old_else : (d e : Disk) (l : Slot) (s : ℕ) (b : List ℕ) (i : ℕ) → i ≢ s → NothingNew d e i → NothingNew (laid d l) (laid e (renew s b l)) i
renew_old_else d e l s b i ne h x st =
    elim (cases_eq s l.sector) [
      | inl same ↦ laid_under d l i x (h x (unlaid e (slot s b) i ne x (subst (λ (k : Slot). Stands (laid e k) i x) (renew_same s b l same) st)))
      | inr other ↦ laid_old d e l i h x (subst (λ (k : Slot). Stands (laid e k) i x) (renew_other s b l other) st)
    ]

-- in sector s of e may stand what may in d, the bytes b, or spoiled
abbrev WrittenAt : Disk → ℕ → List ℕ → Disk → Type 0
WrittenAt d s b e = (x : Shown) → Stands e s x → Stands d s x ⊎ ((x ≡ holds b) ⊎ (x ≡ spoiled))

renew_there : (d e : Disk) (l : Slot) (s : ℕ) (b : List ℕ) → WrittenAt d s b e → WrittenAt (laid d l) s b (laid e (renew s b l))
renew_there d e l s b h x st =
    let up : Stands d s x ⊎ ((x ≡ holds b) ⊎ (x ≡ spoiled)) → Stands (laid d l) s x ⊎ ((x ≡ holds b) ⊎ (x ≡ spoiled)) =
    λ m. elim m [ inl old ↦ inl (laid_under d l s x old) | inr new ↦ inr new ] in
    elim (cases_eq s l.sector) [
      | inl same ↦
          elim (laid_there e (slot s b) x (subst (λ (k : Slot). Stands (laid e k) s x) (renew_same s b l same) st))
          [ inl old ↦ up (h x old) | inr new ↦ inr new ]
      | inr other ↦ up (h x (unlaid e l s other x (subst (λ (k : Slot). Stands (laid e k) s x) (renew_other s b l other) st)))
    ]

renew_shows : (e : Disk) (l : Slot) (s : ℕ) (b : List ℕ) → e.shows s ≡ holds b → (laid e (renew s b l)).shows s ≡ holds b
renew_shows e l s b h =
    elim (cases_eq s l.sector) [
      | inl same ↦ ap (λ (k : Slot). (laid e k).shows s) (renew_same s b l same) ∙ laid_shows e (slot s b)
      | inr other ↦ ap (λ (k : Slot). (laid e k).shows s) (renew_other s b l other) ∙ unlaid_shows e l s other ∙ h
    ]

pub rewritten_shows_else : (d e : Disk) (ls : List Slot) (s : ℕ) (b : List ℕ) (i : ℕ) → i ≢ s → e.shows i ≡ d.shows i → (over e (rewritten s b ls)).shows i ≡ (over d ls).shows i
rewritten_shows_else d e [] s b i ne h = h
rewritten_shows_else d e (l ∷ ls) s b i ne h = rewritten_shows_else (laid d l) (laid e (renew s b l)) ls s b i ne (renew_shows_else d e l s b i ne h)

pub rewritten_old_else : (d e : Disk) (ls : List Slot) (s : ℕ) (b : List ℕ) (i : ℕ) → i ≢ s → NothingNew d e i → NothingNew (over d ls) (over e (rewritten s b ls)) i
rewritten_old_else d e [] s b i ne h = h
rewritten_old_else d e (l ∷ ls) s b i ne h = rewritten_old_else (laid d l) (laid e (renew s b l)) ls s b i ne (renew_old_else d e l s b i ne h)

pub rewritten_there : (d e : Disk) (ls : List Slot) (s : ℕ) (b : List ℕ) → WrittenAt d s b e → WrittenAt (over d ls) s b (over e (rewritten s b ls))
rewritten_there d e [] s b h = h
rewritten_there d e (l ∷ ls) s b h = rewritten_there (laid d l) (laid e (renew s b l)) ls s b (renew_there d e l s b h)

rewritten_still : (e : Disk) (ls : List Slot) (s : ℕ) (b : List ℕ) → e.shows s ≡ holds b → (over e (rewritten s b ls)).shows s ≡ holds b
rewritten_still e [] s b h = h
rewritten_still e (l ∷ ls) s b h = rewritten_still (laid e (renew s b l)) ls s b (renew_shows e l s b h)

later_none : (k : Option (List ℕ)) → is_some (later None k) ≡ is_some k
later_none (Some b) = refl
later_none None = refl

pub rewritten_shows : (e : Disk) (ls : List Slot) (s : ℕ) (b : List ℕ) → is_some (kept s ls) ≡ true → (over e (rewritten s b ls)).shows s ≡ holds b
rewritten_shows e [] s b h = absurd (both_ways false refl h)
rewritten_shows e (l ∷ ls) s b h =
    elim (cases_eq s l.sector) [
      | inl same ↦ rewritten_still (laid e (renew s b l)) ls s b (ap (λ (k : Slot). (laid e k).shows s) (renew_same s b l same) ∙ laid_shows e (slot s b))
      | inr other ↦
          rewritten_shows (laid e (renew s b l)) ls s b
          (sym (later_none (kept s ls)) ∙ ap (λ q. is_some (later (cond q (Some l.bytes) None) (kept s ls))) (sym (ne_eqb s l.sector other)) ∙ ap (λ k. is_some k) (sym (kept-cons s l ls)) ∙ h)
    ]

-- the slots in front lie under the others
pub over_append : (d : Disk) (ks ls : List Slot) → over d (ks ++ ls) ≡ over (over d ks) ls
over_append d [] ls = refl
over_append d (k ∷ ks) ls = over_append (laid d k) ks ls
