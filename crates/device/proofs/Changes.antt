-- What short sequences of device calls leave, done or cut.
use Rattle.std.proofs.Common.{◌≡◌, ℕ, ◌<◌, ◌≤◌, false, ◌≢◌, ◌⊎◌, List, [], ◌∷◌, Ok, Err, sym, ap, ◌∙◌, subst, inl, inr, arith}
use Rattle.device.specs.declared.fault.DeviceFault.TheVariants.{Power, Misaddressed, Unfit, Spoiled}
use Rattle.device.specs.Disk.{Disk, Plate, Shown, Among, Stands}
use Rattle.device.specs.Meaning.{Answer, Addressed, NothingNew, MayWrite, Lost, Failed, Wrote, Settled, Read}
use Rattle.device.specs.Trace.{Act, Does, Cut, Done, CutShort, wrote}

-- plans of one and of two calls, without the ends of their recursion
pub done_one : (d e : Disk) (a : Act) → Done d (a ∷ []) e → Does a d e
done_one d e a (m, h, same) = subst (λ x. Does a d x) (sym same) h

pub done_two : (d e : Disk) (a b : Act) → Done d (a ∷ b ∷ []) e → (m : Disk) × Does a d m × Does b m e
done_two d e a b (m, h, rest) = (m, h, done_one m e b rest)

pub cut_one : (d e : Disk) (a : Act) (o : ℕ) → CutShort d (a ∷ []) o e → Cut a d o e
cut_one d e a o (inl h) = h
cut_one d e a o (inr (m, h, none)) = absurd none

pub cut_two : (d e : Disk) (a b : Act) (o : ℕ) → CutShort d (a ∷ b ∷ []) o e → Cut a d o e ⊎ ((m : Disk) × Does a d m × Cut b m o e)
cut_two d e a b o (inl h) = inl h
cut_two d e a b o (inr (m, h, rest)) = inr (m, h, cut_one m e b o rest)

pub nothing_new_same : (d e : Disk) → e ≡ d → (i : ℕ) → NothingNew d e i
nothing_new_same d e same i x h = subst (λ (v : Disk). Stands v i x) same h

-- What a layer rests on where power failed below it. A device that was off already is off so too,
-- but what it told last need not be the 0 that it answers now, so this says nothing of that.
pub record Faded (d : Disk) (o : ℕ) (e : Disk) : Type 0 where
  pub off : e.on ≡ false
  pub plate : e.plate ≡ d.plate
  pub origin : Among o (0 ∷ d.plate.ends)
  pub old : (i : ℕ) → NothingNew d e i

pub faded_lost : (d e : Disk) (o : ℕ) → Lost d o e → Faded d o e
faded_lost d e o w = record { off = w.off; plate = w.plate; origin = w.origin; old = w.old }

pub faded_failed : (d e : Disk) (o : ℕ) → Failed d o e → Faded d o e
faded_failed d e o (inl w) =
    record {
      off = ap (λ (v : Disk). v.on) w.same ∙ w.off;
      plate = ap (λ (v : Disk). v.plate) w.same;
      origin = inl w.origin;
      old = nothing_new_same d e w.same;
    }
faded_failed d e o (inr (_, lost)) = faded_lost d e o lost

-- e may differ from d only in sector s, where these bytes were written, or half written
pub record Changed (d : Disk) (s : ℕ) (bytes : List ℕ) (e : Disk) : Type 0 where
  pub plate : e.plate ≡ d.plate
  pub elsewhere : (i : ℕ) → i ≢ s → NothingNew d e i
  pub there : (x : Shown) → Stands e s x → MayWrite d s bytes x

pub changed_wrote : (d e : Disk) (s : ℕ) (bytes : List ℕ) → Wrote d s bytes e → Changed d s bytes e
changed_wrote d e s bytes w = record { plate = w.plate; elsewhere = w.elsewhere; there = w.there }

pub changed_same : (d e : Disk) (s : ℕ) (bytes : List ℕ) → e ≡ d → Changed d s bytes e
changed_same d e s bytes same =
    record {
      plate = ap (λ (v : Disk). v.plate) same;
      elsewhere = λ i _. nothing_new_same d e same i;
      there = λ x h. inl (nothing_new_same d e same s x h);
    }

pub changed_cut : (d e : Disk) (s : ℕ) (bytes : List ℕ) (o : ℕ) → Cut (wrote s bytes) d o e → Changed d s bytes e
changed_cut d e s bytes o (inl w) = changed_same d e s bytes w.same
changed_cut d e s bytes o (inr w) = record { plate = w.plate; elsewhere = w.elsewhere; there = w.there }

pub changed_more : (d m e : Disk) (s : ℕ) (bytes : List ℕ) → Changed d s bytes m → e.plate ≡ m.plate → ((i : ℕ) → NothingNew m e i) → Changed d s bytes e
changed_more d m e s bytes w same old =
    record {
      plate = same ∙ w.plate;
      elsewhere = λ i ne x h. w.elsewhere i ne x (old i x h);
      there = λ x h. w.there x (old s x h);
    }

pub settled_old : (d e : Disk) → Settled d e → (i : ℕ) → NothingNew d e i
settled_old d e w i x h = inl (w.quiet i x h ∙ w.kept i)

-- the origin told when power cuts a write
pub cut_origin : (d e : Disk) (s : ℕ) (bytes : List ℕ) (o : ℕ) → Cut (wrote s bytes) d o e → Among o (0 ∷ d.plate.ends)
cut_origin d e s bytes o (inl w) = inl w.origin
cut_origin d e s bytes o (inr w) = w.origin

-- a sector that is there, and a buffer that fits, are not refused
pub not_astray : (d : Disk) (s n : ℕ) → Addressed d s n → (d.plate.sectors ≤ s) ⊎ (n ≢ 128) → ⊥
not_astray d s n a (inl le) = omega (arith, a.there, le)
not_astray d s n a (inr ne) = ne a.fits

-- what is there stays there while the plate does
pub still_addressed : (d e : Disk) (s n : ℕ) → e.plate ≡ d.plate → Addressed d s n → Addressed e s n
still_addressed d e s n p a = record { there = subst (λ (q : Plate). s < q.sectors) (sym p) a.there; fits = a.fits }

-- a read leaves the plate
pub read_plate : (d e : Disk) (s : ℕ) (before after : List ℕ) (r : Answer) → Read d s before r e after → e.plate ≡ d.plate
read_plate d e s before after (Ok _) w = ap (λ (x : Disk). x.plate) w.same
read_plate d e s before after (Err (Power o)) w = (faded_failed d e o w.0).plate
read_plate d e s before after (Err (Misaddressed t o)) w = ap (λ (x : Disk). x.plate) w.0.same
read_plate d e s before after (Err Unfit) w = absurd w
read_plate d e s before after (Err (Spoiled t o)) w = ap (λ (x : Disk). x.plate) w.same
