-- Records applied to the memory in the order of their serials.
use Rattle.std.proofs.Common.{◌≡◌, ℕ, suc, ◌+◌, ◌-◌, ◌*◌, ◌%◌, ◌<◌, ◌≤◌, ◌⊎◌, List, length, get_or, take, drop, Err, sym, refl, ap, ◌∙◌, subst, ⊎_elim, mod-lt, arith}
use Rattle.std.proofs.lemmas.Bool.{cases_lt}
use Rattle.device.specs.declared.fault.DeviceFault.{DeviceFault}
use Rattle.device.specs.declared.fault.DeviceFault.TheVariants.{Power, Misaddressed, Unfit, Spoiled}
use Rattle.device.specs.Meaning.{Failed}
use Rattle.device.specs.Disk.{Disk, Shown, spoiled, holds}
use Rattle.record.specs.Entry.{Entry, reads_as}
use Rattle.record.specs.Fields.{field}
use Rattle.record.specs.Found.{found}
use Rattle.record.specs.Good.{Fits, Good, Sound}
use Rattle.record.proofs.Laws.{found_cases, good_or_not, good_size, kind_good}
use Rattle.journal.specs.declared.note.Note.{Note}
use Rattle.journal.specs.Log.{nothing, log, said}
use Rattle.journal.specs.Memory.{overlaid, place_of, applied, replayed}
use Rattle.journal.specs.Notes.{Tells, Noted, blank}
use Rattle.journal.specs.Opening.{Here}
use Rattle.journal.proofs.Places.{said_good, said_bad, in_log, kept}
use Rattle.recovery.specs.Reading.{Looks, Replayed}

-- a place's note tells where in the memory its bytes go, and how many they are

told_size : (e : Entry) (x : Note) → Tells e x → Fits e.kind e.page e.offset (length e.bytes) → (x.page < 64) × (x.offset + x.size ≤ 96)
told_size e x t f =
    let p = t.page in
    let o = t.offset in
    let s = t.size in
    ⊎_elim
    (λ (h : e.kind < 4). let q = f.piece (omega arith) in (omega (arith, q.0), omega (arith, q.2)))
    (λ (h : 4 ≤ e.kind). let q = f.mark (omega (arith, f.known)) in (omega (arith, q.0), omega (arith, q.1, q.2)))
    (cases_lt e.kind 4)

pub told_inside : (n p : ℕ) (sector : List ℕ) (x : Note) → Tells (said n p (holds sector)) x → (x.page < 64) × (x.offset + x.size ≤ 96)
told_inside n p sector x t =
    ⊎_elim
    (λ (none : found n p sector ≡ nothing). let u = subst (λ (e : Entry). Tells e x) none t in (omega (arith, u.page), omega (arith, u.offset, u.size)))
    (λ (h : Sound n p (found n p sector)). told_size (found n p sector) x t h.fits)
    (found_cases n p sector)

same_bytes : (n p : ℕ) (sector : List ℕ) (x : Note) → Tells (said n p (holds sector)) x → take x.size (drop 32 sector) ≡ (said n p (holds sector)).bytes
unfolding reads_as
same_bytes n p sector x t =
    ⊎_elim
    (λ (g : Good n p sector).
    let is = said_good n p sector g in
    let size : x.size ≡ field 28 2 sector = t.size ∙ ap (λ (e : Entry). length e.bytes) is ∙ good_size n p sector g in
    ap (λ (k : ℕ). take k (drop 32 sector)) size ∙ ap (λ (e : Entry). e.bytes) (sym is))
    (λ bad.
    let is = said_bad n p sector bad in
    let size : x.size ≡ 0 = t.size ∙ ap (λ (e : Entry). length e.bytes) is in
    ap (λ (k : ℕ). take k (drop 32 sector)) size ∙ ap (λ (e : Entry). e.bytes) (sym is))
    (good_or_not n p sector)

pub applied_told : (n p : ℕ) (sector : List ℕ) (x : Note) → Tells (said n p (holds sector)) x
    → (i v : ℕ) → overlaid (x.page * 96 + x.offset) (take x.size (drop 32 sector)) i v ≡ applied (said n p (holds sector)) i v
applied_told n p sector x t i v =
    let place : x.page * 96 + x.offset ≡ place_of (said n p (holds sector)) = omega (arith, t.page, t.offset) in
    ap (λ (k : ℕ). overlaid k (take x.size (drop 32 sector)) i v) place
    ∙ ap (λ (bytes : List ℕ). overlaid (place_of (said n p (holds sector))) bytes i v) (same_bytes n p sector x t)

-- the record with a serial, by its place
pub at_serial : (n : ℕ) (shows : ℕ → Shown) (s p : ℕ) → s % n ≡ p → Here (log n shows) s → log n shows s ≡ said n p (shows p)
at_serial n shows s p at here = (in_log n shows s here).1 ∙ ap (λ (q : ℕ). said n q (shows q)) at

-- and its ordinal, by the sector that was read
read_ordinal : (n p : ℕ) (sector : List ℕ) → 1 ≤ (said n p (holds sector)).kind → (said n p (holds sector)).ordinal ≡ field 16 8 sector
unfolding reads_as
read_ordinal n p sector h = ap (λ (e : Entry). e.ordinal) (said_good n p sector (kind_good n p sector h))

pub ordinal_told : (n : ℕ) (shows : ℕ → Shown) (s p : ℕ) (buffer : List ℕ) → s % n ≡ p → Here (log n shows) s → (shows p ≡ holds buffer) ⊎ (shows p ≡ spoiled) → field 16 8 buffer ≡ (log n shows s).ordinal
ordinal_told n shows s p buffer at here read =
    let is = at_serial n shows s p at here in
    let some : 1 ≤ (said n p (shows p)).kind = subst (λ (e : Entry). 1 ≤ e.kind) is here in
    ⊎_elim
    (λ (h : shows p ≡ holds buffer).
    let kind : 1 ≤ (said n p (holds buffer)).kind = subst (λ (x : Shown). 1 ≤ (said n p x).kind) h some in
    sym (ap (λ (e : Entry). e.ordinal) is ∙ ap (λ (x : Shown). (said n p x).ordinal) h ∙ read_ordinal n p buffer kind))
    (λ (h : shows p ≡ spoiled). let kind : 1 ≤ (said n p spoiled).kind = subst (λ (x : Shown). 1 ≤ (said n p x).kind) h some in absurd (omega (arith, kind)))
    read

replayed_none : (log : ℕ → Entry) (low k : ℕ) (base : ℕ → ℕ) (i : ℕ) → k ≡ 0 → base i ≡ replayed log low k base i
unfolding replayed
replayed_none log low k base i e = rw e refl

replayed_more : (log : ℕ → Entry) (low s : ℕ) (base : ℕ → ℕ) (i : ℕ) → low ≤ s → replayed log low (s + 1 - low) base i ≡ applied (log s) i (replayed log low (s - low) base i)
unfolding replayed
replayed_more log low s base i h =
    let e : s + 1 - low ≡ suc (s - low) = omega arith in
    let f : low + (s - low) ≡ s = omega arith in
    rw e (ap (λ (x : ℕ). applied (log x) i (replayed log low (s - low) base i)) f)

-- the state of a replay that has come to serial s
pub record ReplayedTo (n : ℕ) (d m : Disk) (low s : ℕ) (start memory : List ℕ) : Type 0 where
  pub same : m ≡ d
  pub bytes : (i : ℕ) → get_or memory i 0 ≡ replayed (log n d.shows) low (s - low) (λ j. get_or start j 0) i

pub replay_begins : (n : ℕ) (d : Disk) (low : ℕ) (start : List ℕ) → ReplayedTo n d d low low start start
replay_begins n d low start =
    record { same = refl; bytes = λ i. replayed_none (log n d.shows) low (low - low) (λ j. get_or start j 0) i (omega arith) }

pub replay_goes : (n : ℕ) (d m e : Disk) (low s : ℕ) (start before after : List ℕ) → low ≤ s → ReplayedTo n d m low s start before → e ≡ m → ((i : ℕ) → get_or after i 0 ≡ applied (log n m.shows s) i (get_or before i 0)) → ReplayedTo n d e low (s + 1) start after
replay_goes n d m e low s start before after h r same put =
    record {
      same = same ∙ r.same;
      bytes =
          λ i.
          put i
          ∙ ap (λ (x : Disk). applied (log n x.shows s) i (get_or before i 0)) r.same
          ∙ ap (λ (v : ℕ). applied (log n d.shows s) i v) (r.bytes i)
          ∙ sym (replayed_more (log n d.shows) low s (λ j. get_or start j 0) i h);
    }

-- how far a replay has come that goes from place to place
module _ (n : ℕ) (d m : Disk) (low s p : ℕ) (start memory : List ℕ) (r : ReplayedTo n d m low s start memory) (at : s % n ≡ p) (here : Here (log n d.shows) s) where
  pub at_inside : p < n
  at_inside = let some : 0 < n = omega (arith, (kept n d.shows s here).near) in subst (λ (q : ℕ). q < n) at (mod-lt s some)

  pub place_there : n ≤ d.plate.sectors → p < m.plate.sectors
  place_there room = subst (λ (x : Disk). p < x.plate.sectors) (sym r.same) (omega (arith, at_inside))

  pub place_tells : (notes : List Note) → Noted n d.shows notes → Tells (said n p (m.shows p)) (get_or notes p blank)
  place_tells notes noted = subst (λ (x : Disk). Tells (said n p (x.shows p)) (get_or notes p blank)) (sym r.same) (noted.each p at_inside)

  pub place_goes : (e : Disk) (buffer after : List ℕ) → low ≤ s → e ≡ m → Replayed m n p buffer memory after → ReplayedTo n d e low (s + 1) start after
  place_goes e buffer after order same one =
      replay_goes n d m e low s start memory after order r same
      (λ i. one.bytes i ∙ ap (λ (x : Entry). applied x i (get_or memory i 0)) (sym (at_serial n m.shows s p at (subst (λ (x : Disk). Here (log n x.shows) s) (sym r.same) here))))

  pub place_ordinal : (buffer after : List ℕ) → Replayed m n p buffer memory after → field 16 8 buffer ≡ (log n d.shows s).ordinal
  place_ordinal buffer after one =
      ordinal_told n d.shows s p buffer at here (subst (λ (x : Disk). (x.shows p ≡ holds buffer) ⊎ (x.shows p ≡ spoiled)) r.same one.read)

-- power that fails in looking, on a device that is as it was
pub looked_on : {A B : Type 0} (d m e : Disk) (found : A → Type 0) (found' : B → Type 0) (f : DeviceFault) → m ≡ d → Looks m found (Err f) e → Looks d found' (Err f) e
looked_on d m e found found' (Power o) same h = subst (λ (x : Disk). Failed x o e) same h
looked_on d m e found found' (Misaddressed s o) same h = absurd h
looked_on d m e found found' Unfit same h = absurd h
looked_on d m e found found' (Spoiled s o) same h = absurd h
