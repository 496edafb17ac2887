-- Plans that end in a barrier: all of them made, or cut by power, and never both.
use Rattle.std.proofs.Common.{◌≡◌, ℕ, ◌+◌, true, false, ◌⊎◌, List, [], ◌∷◌, ◌++◌, length, Some, None, Ok, Err, Option, Result, sym, refl, ap, ◌∙◌, subst, inl, inr, ⊎_elim, arith}
use Rattle.std.proofs.lemmas.List.{length-append}
use Rattle.std.proofs.lemmas.Bool.{both_ways}
use Rattle.device.specs.Disk.{Disk}
use Rattle.device.specs.Meaning.{Failed}
use Rattle.device.specs.Trace.{Act, looked, wrote, settled, restarted, Does, Cut, Done, CutShort}
use Rattle.device.proofs.Plans.{cut_after}
use Rattle.durability.specs.Items.{Item, appending}
use Rattle.transactions.specs.declared.fault.StoreFault.{StoreFault}
use Rattle.law.specs.Events.{Tried}
use Rattle.law.proofs.History.{settles}

-- Power cut a call of the plan, once these were made.
pub record CutAt (d : Disk) (plan made : List Act) (o : ℕ) (e : Disk) : Type 0 where
  pub act : Act
  pub rest : List Act
  pub all : made ++ (act ∷ rest) ≡ plan
  pub reached : Disk
  pub done : Done d made reached
  pub cut : Cut act reached o e

-- All the calls of the plan were made, or those before the one that power cut.
abbrev pub Traced : List Act → Disk → List Act → Disk → Type 0
Traced plan d made e = ((made ≡ plan) × Done d plan e) ⊎ ((o : ℕ) × CutAt d plan made o e)

-- so it is with what an event says that was tried
pub traced : {A : Type 0} (plan : List Act) (d : Disk) (done : List Act) (cut : Option Act) (r : Result A StoreFault) (e : Disk) → Tried plan d done cut r e → Traced plan d done e
traced plan d done None (Ok _) e (same, all) = inl (same, all)
traced plan d done (Some act) (Ok _) e t = absurd t
traced plan d done None (Err _) e (plan_is, same, device) =
    inl (same ∙ sym plan_is, subst (λ (p : List Act). Done d p e) (sym plan_is) device)
traced plan d done (Some act) (Err _) e (o, _, c) =
    inr (o, record { act = act; rest = c.rest; all = c.all; reached = c.reached; done = c.did; cut = c.cut })

-- Plans that were made, or cut, were tried.
pub tried_done : {A : Type 0} (plan : List Act) (d e : Disk) (x : A) → Done d plan e → Tried plan d plan None (Ok x) e
tried_done plan d e x all = (refl, all)

-- power that fails leaves the device off

pub failed_off : (d e : Disk) (o : ℕ) → Failed d o e → e.on ≡ false
failed_off d e o (inl h) = ap (λ (x : Disk). x.on) h.same ∙ h.off
failed_off d e o (inr (_, h)) = h.off

pub cut_off : (a : Act) (d e : Disk) (o : ℕ) → Cut a d o e → e.on ≡ false
cut_off looked d e o h = failed_off d e o h
cut_off (wrote s bytes) d e o (inl h) = failed_off d e o (inl h)
cut_off (wrote s bytes) d e o (inr h) = h.off
cut_off settled d e o h = failed_off d e o h
cut_off restarted d e o h = h.off

short_off : (d e : Disk) (plan : List Act) (o : ℕ) → CutShort d plan o e → e.on ≡ false
short_off d e [] o h = absurd h
short_off d e (a ∷ plan) o (inl h) = cut_off a d e o h
short_off d e (a ∷ plan) o (inr (m, _, rest)) = short_off m e plan o rest

-- The calls that were made before the one that power cut.
pub cut_at : (d e : Disk) (plan : List Act) (o : ℕ) → CutShort d plan o e → (made : List Act) × CutAt d plan made o e
cut_at d e [] o h = absurd h
cut_at d e (a ∷ plan) o (inl h) = ([], record { act = a; rest = plan; all = refl; reached = d; done = refl; cut = h })
cut_at d e (a ∷ plan) o (inr (m, does, rest)) =
    let r = cut_at m e plan o rest in
    let c = r.1 in (
      a ∷ r.0,
      record { act = c.act; rest = c.rest; all = ap (λ (xs : List Act). a ∷ xs) c.all; reached = c.reached; done = (m, does, c.done); cut = c.cut },
    )

pub short_at : (d e : Disk) (plan made : List Act) (o : ℕ) → CutAt d plan made o e → CutShort d plan o e
short_at d e plan made o c =
    subst (λ (p : List Act). CutShort d p o e) c.all (cut_after d c.reached e made (c.act ∷ c.rest) o c.done (inl c.cut))

-- Power cut the first of two plans, or the second after all of the first.
pub record CutLater (d : Disk) (first second made : List Act) (o : ℕ) (e : Disk) : Type 0 where
  pub between : Disk
  pub before : Done d first between
  pub more : List Act
  pub made_are : made ≡ first ++ more
  pub cut : CutAt between second more o e

pub cut_parts : (d e : Disk) (first second made : List Act) (o : ℕ) → CutAt d (first ++ second) made o e → CutAt d first made o e ⊎ CutLater d first second made o e
cut_parts d e [] second made o c = inr (record { between = d; before = refl; more = made; made_are = refl; cut = c })
cut_parts d e (a ∷ first) second [] o c =
    inl (record { act = c.act; rest = first; all = cc_head c.all; reached = c.reached; done = c.done; cut = c.cut })
  where
    cc_head : c.act ∷ c.rest ≡ a ∷ (first ++ second) → c.act ∷ first ≡ a ∷ first
    cc_head same = cc
cut_parts d e (a ∷ first) second (x ∷ made) o c =
    let all = c.all in
    let same : x ≡ a = cc in
    let tail : made ++ (c.act ∷ c.rest) ≡ first ++ second = cc in
    let done = c.done in
    let m = done.0 in
    let does = subst (λ (y : Act). Does y d m) same done.1 in
    ⊎_elim
    (λ (k : CutAt m first made o e).
    inl (record { act = k.act; rest = k.rest; all = two x a (made ++ (k.act ∷ k.rest)) first same k.all; reached = k.reached; done = (m, done.1, k.done); cut = k.cut }))
    (λ (k : CutLater m first second made o e).
    inr (record { between = k.between; before = (m, does, k.before); more = k.more; made_are = two x a made (first ++ k.more) same k.made_are; cut = k.cut }))
    (cut_parts m e first second made o (record { act = c.act; rest = c.rest; all = tail; reached = c.reached; done = done.2; cut = c.cut }))
  where
    two : (x y : Act) (xs ys : List Act) → x ≡ y → xs ≡ ys → x ∷ xs ≡ y ∷ ys
    two x y xs ys p q = cc

-- Nothing is made of a plan of nothing.
pub none_made : (d e : Disk) (made : List Act) → Traced [] d made e → made ≡ []
none_made d e made (inl (same, _)) = same
none_made d e made (inr (o, c)) = absurd (omega (arith, length-append made (c.act ∷ c.rest), ap length c.all))

-- Once a barrier ends a plan, the device is on, and so it was not cut.
pub done_on : (d e : Disk) (acts : List Act) → Done d (acts ++ (settled ∷ [])) e → e.on ≡ true
done_on d e [] (m, does, same) = ap (λ (x : Disk). x.on) same ∙ does.on
done_on d e (a ∷ acts) (m, _, rest) = done_on m e acts rest

pub settles_all : (acts : List Act) → settles (acts ++ (settled ∷ [])) ≡ true
settles_all [] = refl
settles_all (looked ∷ acts) = settles_all acts
settles_all (wrote _ _ ∷ acts) = settles_all acts
settles_all (settled ∷ acts) = refl
settles_all (restarted ∷ acts) = settles_all acts

pub settles_left : (acts more : List Act) → settles acts ≡ true → settles (acts ++ more) ≡ true
settles_left [] more h = absurd (both_ways false refl h)
settles_left (looked ∷ acts) more h = settles_left acts more h
settles_left (wrote _ _ ∷ acts) more h = settles_left acts more h
settles_left (settled ∷ acts) more h = refl
settles_left (restarted ∷ acts) more h = settles_left acts more h

-- records that are appended have no barrier before their end
settles_first : (n low last : ℕ) (items : List Item) (made rest : List Act) (act : Act) → made ++ (act ∷ rest) ≡ appending n low last items ++ (settled ∷ []) → settles made ≡ false
settles_first n low last items [] rest act e = refl
settles_first n low last [] (a ∷ made) rest act e = absurd (omega (arith, length-append made (act ∷ rest), ap length e))
settles_first n low last (x ∷ items) (wrote _ _ ∷ made) rest act e = settles_first n low (last + 1) items made rest act cc
settles_first n low last (x ∷ items) (looked ∷ made) rest act e = settles_first n low (last + 1) items made rest act cc
settles_first n low last (x ∷ items) (restarted ∷ made) rest act e = settles_first n low (last + 1) items made rest act cc
settles_first n low last (x ∷ items) (settled ∷ made) rest act e = absurd (let z : ◌≡◌ {A = ℕ} 0 1 = cc in omega arith)

-- Where records were appended and settled, a barrier succeeded; where power cut that, none did.
module _ (n low last : ℕ) (items : List Item) (d e : Disk) (made : List Act) where
  abbrev plan : List Act
  plan = appending n low last items ++ (settled ∷ [])

  pub done_settles : Done d plan e → Traced plan d made e → settles made ≡ true
  done_settles done (inl (same, _)) = ap settles same ∙ settles_all (appending n low last items)
  done_settles done (inr (o, c)) = absurd (both_ways e.on (cut_off c.act c.reached e o c.cut) (done_on d e (appending n low last items) done))

  pub cut_settles : (o : ℕ) → CutShort d plan o e → Traced plan d made e → settles made ≡ false
  cut_settles o cut (inl (_, done)) = absurd (both_ways e.on (short_off d e plan o cut) (done_on d e (appending n low last items) done))
  cut_settles o cut (inr (_, c)) = settles_first n low last items made c.rest c.act c.all
