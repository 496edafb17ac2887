-- What a flush and a commit write, and what their tests let through.
use Rattle.std.proofs.Common.{◌≡◌, ℕ, suc, ◌+◌, ◌-◌, ◌^◌, ◌<◌, ◌≤◌, Bool, true, false, cond, not, ltb, ◌≢◌, List, [], ◌∷◌, ◌++◌, map, length, Some, None, Err, Option, sym, refl, ap, ◌∙◌, subst, ⊎_elim, add-zero, arith}
use Rattle.std.proofs.lemmas.Bool.{cases_lt, ltb-false}
use Rattle.std.proofs.lemmas.List.{nil_from_length}
use Rattle.arrayvec.specs.ArrayVec.{array_vec_len}
use Rattle.device.specs.declared.fault.DeviceFault.{DeviceFault}
use Rattle.device.specs.declared.fault.DeviceFault.TheVariants.{Power, Misaddressed, Unfit, Spoiled}
use Rattle.device.specs.Disk.{Disk}
use Rattle.device.specs.Meaning.{Answer, Barrier}
use Rattle.device.specs.Trace.{Act, settled, Done, Tries}
use Rattle.device.proofs.Plans.{work_begins, plan_cut, tries_after, barrier_tried, done_plate}
use Rattle.durability.specs.Items.{Item, appending}
use Rattle.image.proofs.Cutting.{runs_none}
use Rattle.image.proofs.Facts.{apart_out}
use Rattle.image.specs.Calls.{declared}
use Rattle.image.specs.Cut.{cut_runs}
use Rattle.transactions.specs.declared.fault.StoreFault.{StoreFault}
use Rattle.transactions.specs.declared.fault.StoreFault.TheVariants.{Device}
use Rattle.transactions.specs.declared.state.State.{State}
use Rattle.transactions.specs.Calls.{writing, CutWriting}
use Rattle.transactions.specs.Parts.{waiting}
use Rattle.transactions.specs.Rows.{Row, first_fit, off, serials, full, spool_full, commit_rows}
use Rattle.transactions.specs.State as state
use Rattle.transactions.specs.State.{live, OnLog}
use Rattle.transactions.specs.Truncation.{page_item}
use Rattle.transactions.proofs.Loops.{length_waiting, length_own, written_as}

-- a log with its homes lies on the device
pub on_device : (s : State) (d : Disk) → OnLog s d → s.log.places ≤ d.plate.sectors
on_device s d h = omega arith

-- and stays there
pub still_on : (s : State) (d e : Disk) (plan : List Act) → Done d plan e → OnLog s d → OnLog s e
still_on s d e plan done h = h ∙ ap (λ v. v.sectors) (sym (done_plate d e plan done))

-- records written in two goes
appending_two : (n low last : ℕ) (xs ys : List Item) (zs : List Act) → appending n low last (xs ++ ys) ++ zs ≡ appending n low last xs ++ (appending n low (last + length xs) ys ++ zs)
appending_two n low last [] ys zs = ap (λ (s : ℕ). appending n low s ys ++ zs) (sym (add-zero last))
appending_two n low last (x ∷ xs) ys zs =
    let e : last + 1 + length xs ≡ last + suc (length xs) = omega arith in
    ap (λ (r : List Act). written_as n low (last + 1) x ∷ r) (appending_two n low (last + 1) xs ys zs ∙ ap (λ (s : ℕ). appending n low (last + 1) xs ++ (appending n low s ys ++ zs)) e)

-- What waits is written, and what the transaction's pieces become.
abbrev pub spool_plan : State → List Act
spool_plan s = appending s.log.places s.log.low s.log.last (waiting s.spool)

abbrev pub pieces_after : State → ℕ → List Act
pieces_after s last = appending s.log.places s.log.low last (state.own s)

abbrev pub pages_after : State → ℕ → List ℕ → List Act
pages_after s last ps = appending s.log.places s.log.low last (map (page_item s.log.ordinal s.image.memory) ps)

abbrev pub piece_plan : State → List Act
piece_plan s = pieces_after s (s.log.last + array_vec_len s.spool)

pub commit_plan : (s : State) → writing s (waiting s.spool ++ state.own s) ≡ spool_plan s ++ (piece_plan s ++ (settled ∷ []))
commit_plan s =
    appending_two s.log.places s.log.low s.log.last (waiting s.spool) (state.own s) (settled ∷ [])
    ∙ ap (λ (k : ℕ). spool_plan s ++ (appending s.log.places s.log.low (s.log.last + k) (state.own s) ++ (settled ∷ []))) (length_waiting s.spool)

-- power failed in the first part of a plan
pub cut_first : (d e : Disk) (first rest : List Act) (f : DeviceFault) → Tries d first (Err f) e → Tries d (first ++ rest) (Err f) e
cut_first d e first rest f h = plan_cut d d e (first ++ rest) first rest f (work_begins d (first ++ rest)) h

-- and the barrier at its end
pub then_settled : (d m e : Disk) (first : List Act) (r : Answer) → Done d first m → Barrier m r e → Tries d (first ++ (settled ∷ [])) r e
then_settled d m e first r h k = tries_after d m e first (settled ∷ []) r h (barrier_tried m e r k)

-- What the tests of a commit let through.
pub record Roomy (s : State) (k : ℕ) (flush : Bool) : Type 0 where
  pub serials : s.log.last + array_vec_len s.spool + k + 65 ≤ 2 ^ 63 - 1
  pub places : live s + array_vec_len s.spool + k ≤ s.log.places - 65
  pub spool : flush ≡ false → array_vec_len s.spool + k ≤ 32

none_fits : (row : Row) (rows : List Row) → first_fit (row ∷ rows) ≡ None → (row.fits ≡ false) × (first_fit rows ≡ None)
none_fits row rows h = go row.fits (first_fit rows) h
  where
    go : (b : Bool) (rest : Option (ℕ × List ℕ)) → cond b (Some (row.number, row.values)) rest ≡ None → (b ≡ false) × (rest ≡ None)
    go true rest h = let z : ◌≡◌ {A = ℕ} 0 1 = cc in absurd (omega arith)
    go false rest h = (refl, h)

pub roomy : (s : State) (k : ℕ) (flush : Bool) → first_fit (commit_rows s k flush) ≡ None → Roomy s k flush
roomy s k flush h =
    let one = none_fits (serials s k) (full s k ∷ spool_full s k flush ∷ []) h in
    let two = none_fits (full s k) (spool_full s k flush ∷ []) one.1 in
    let three = none_fits (spool_full s k flush) [] two.1 in
    record {
      serials = ltb-false (2 ^ 63 - 1) (s.log.last + array_vec_len s.spool + k + 65) one.0;
      places = ltb-false (s.log.places - 65) (live s + array_vec_len s.spool + k) two.0;
      spool = λ e. ltb-false 32 (array_vec_len s.spool + k) (subst (λ (x : Bool). cond x false (ltb 32 (array_vec_len s.spool + k)) ≡ false) e three.0);
    }

-- power failed in writing
pub writing_cut : (s s' : State) (d e : Disk) (items : List Item) (f : DeviceFault) → Tries d (writing s items) (Err f) e → state.TurnedOff s s' → CutWriting s d items (Device f) s' e
writing_cut s s' d e items (Power o) h off = record { origin = o; fault = refl; cut = h; state = off }
writing_cut s s' d e items (Misaddressed x o) h off = absurd h
writing_cut s s' d e items Unfit h off = absurd h
writing_cut s s' d e items (Spoiled x o) h off = absurd h

-- something declared is at least one record
pub some_records : (s : State) (k : ℕ) → k ≡ length (state.own s) → declared s.image ≢ [] → 1 ≤ k
some_records s k e some =
    ⊎_elim
    (λ (h : k < 1).
    let none = nil_from_length (cut_runs (declared s.image)) (omega (arith, length_own s)) in
    absurd (some (runs_none (declared s.image) (apart_out 0 (declared s.image) s.image.runs.apart) none)))
    (λ h. h)
    (cases_lt k 1)

-- a call that is past its first test is one of a store that is on
pub on_past : (s : State) (rest : List Row) → first_fit (off s ∷ rest) ≡ None → s.on ≡ true
on_past s rest h = not_false s.on (none_fits (off s) rest h).0
  where
    not_false : (b : Bool) → not b ≡ false → b ≡ true
    not_false true e = refl
    not_false false e = sym e
