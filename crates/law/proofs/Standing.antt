-- How a store and its device stand with what is entered and kept, and what keeps that.
use Rattle.std.proofs.Common.{◌≡◌, ℕ, ◌+◌, Bool, true, false, cond, not, ◌&&◌, eqb, ◌⊎◌, List, [], ◌∷◌, get_or, take, Some, None, Ok, sym, refl, ap, ◌∙◌, subst, inl, inr, arith}
use Rattle.arrayvec.specs.ArrayVec.{array_vec_len}
use Rattle.std.proofs.lemmas.Bool.{both_ways, not-false, and_parts}
use Rattle.device.specs.Disk.{Disk}
use Rattle.durability.specs.Standing.{Firm}
use Rattle.image.specs.declared.state.Image.{Image}
use Rattle.image.specs.Calls.{declared}
use Rattle.transactions.specs.declared.fault.StoreFault.{StoreFault}
use Rattle.transactions.specs.declared.log.Log.{Log}
use Rattle.transactions.specs.declared.state.State.{State}
use Rattle.transactions.specs.Parts.{Spool, waiting}
use Rattle.transactions.specs.Fault.{number, values}
use Rattle.transactions.specs.Rows.{Row, first_fit, Refuses, off, busy, stranger, token_rows}
use Rattle.transactions.specs.State.{Formatted, MadeOf}
use Rattle.law.specs.Transactions.{made_of}
use Rattle.law.proofs.History.{History, Resting, Safe, Sound, nothing_entered}
use Rattle.law.proofs.Openings.{rest_safe, new_rests}
use Rattle.law.proofs.Committing.{no_fit}

-- from how it stands

pub rests : (n : ℕ) (s : State) (d : Disk) (h : History) → Sound n s d h → s.on ≡ true → Resting n d s h
rests n s d h w on = go w.stands
  where
    go : ((s.on ≡ true) × Resting n d s h) ⊎ ((s.on ≡ false) × Safe n d h) → Resting n d s h
    go (inl (_, r)) = r
    go (inr (off, _)) = absurd (both_ways s.on off on)

pub safe : (n : ℕ) (s : State) (d : Disk) (h : History) → Sound n s d h → Safe n d h
safe n s d h w = go w.stands
  where
    go : ((s.on ≡ true) × Resting n d s h) ⊎ ((s.on ≡ false) × Safe n d h) → Safe n d h
    go (inl (_, r)) = rest_safe n d s h r
    go (inr (_, r)) = r

-- to how it stands

pub same_stands : (n : ℕ) (s s' : State) (d e : Disk) (h : History) → Sound n s d h → s' ≡ s → e ≡ d → Sound n s' e h
same_stands n s s' d e h w state device =
    subst (λ (x : State). Sound n x e h) (sym state) (subst (λ (x : Disk). Sound n s x h) (sym device) w)

pub on_stands : (n : ℕ) (s : State) (d : Disk) (h : History) → Resting n d s h → (s.busy ≡ false → declared s.image ≡ []) → Sound n s d h
on_stands n s d h r free = record { free = λ _. free; stands = inl (r.on, r) }

pub off_stands : (n : ℕ) (s : State) (d : Disk) (h : History) → s.on ≡ false → Safe n d h → Sound n s d h
off_stands n s d h off r = record { free = λ on. absurd (both_ways s.on off on); stands = inr (off, r) }

-- A store that has moved only its memory and whether it is busy, and not the memory as at begin, rests as before.
pub moved : (n : ℕ) (s s' : State) (d : Disk) (h : History) (image : Image) (busy : Bool) → Resting n d s h → MadeOf s' image s.spool s.log busy s.on → image.before ≡ s.image.before → Resting n d s' h
moved n s s' d h image busy r m before =
    let log = m.log_is in
    let spool = m.spool_is in
    record {
      on = m.on_is ∙ r.on;
      places = ap (λ (x : Log). x.places) log ∙ r.places;
      divides = r.divides;
      quiet = r.quiet;
      firm = subst (λ (x : Log). Firm n d.shows x.low x.last h.kept (made_of (take h.kept h.entered))) (sym log) r.firm;
      few = r.few;
      proper = r.proper;
      number = ap (λ (x : Log). x.ordinal) log ∙ r.number;
      waits = ap (λ (x : Spool). waiting x) spool ∙ r.waits;
      room = omega (arith, r.room, ap (λ (x : Log). x.low) log, ap (λ (x : Log). x.last) log, ap (λ (x : Spool). array_vec_len x) spool);
      before = λ i small. ap (λ (x : Image). get_or x.before i 0) m.image_is ∙ ap (λ (x : List ℕ). get_or x i 0) before ∙ r.before i small;
    }

-- what the rows say

pub awake : (s : State) (rows : List Row) → first_fit (off s ∷ rows) ≡ None → s.on ≡ true
awake s rows e = not-false s.on (no_fit (off s) rows e).0

pub shown : (s : State) (k : ℕ) → first_fit (token_rows s k) ≡ None → (s.on ≡ true) × (s.busy ≡ true)
shown s k e =
    let a = no_fit (off s) (stranger s k ∷ []) e in
    let b = no_fit (stranger s k) [] a.1 in
    let fit = s.busy && eqb k (s.log.ordinal + 1) in
    (not-false s.on a.0, (and_parts s.busy (eqb k (s.log.ordinal + 1)) (not-false fit b.0)).0)

pub asleep : (s : State) (f : StoreFault) → Refuses (off s ∷ []) f → s.on ≡ false
asleep s f e = go ((off s).number, (off s).values) (number f, values f) s.on e
  where
    go : (x y : ℕ × List ℕ) (b : Bool) → cond (not b) (Some x) None ≡ Some y → b ≡ false
    go x y true k = absurd (let z : ◌≡◌ {A = ℕ} 0 1 = cc in omega arith)
    go x y false k = refl

-- a new store

pub begins : (d e : Disk) (s : State) (u : Unit {0}) (f : Formatted d (Ok u) e s) → Sound f.0 s e nothing_entered
begins d e s u f = on_stands f.0 s e nothing_entered (new_rests d e s u f) (λ _. f.2.idle.clean)
