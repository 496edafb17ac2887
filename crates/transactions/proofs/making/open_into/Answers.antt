-- What the opening found is what the store is set on.
use Rattle.std.proofs.Common.{◌≡◌, ℕ, ◌+◌, ◌-◌, ◌^◌, ◌<◌, ◌≤◌, true, List, [], ◌∷◌, length, get_or, Ok, Err, sym, refl, ap, ◌∙◌, subst, inl, inr, ⊎_elim, lit≤, arith}
use Rattle.std.proofs.lemmas.Bool.{cases_lt}
use Rattle.std.proofs.lemmas.List.{get_or_past}
use Rattle.arrayvec.specs.ArrayVec.{array_vec_len}
use Rattle.device.specs.Disk.{Disk}
use Rattle.device.specs.Trace.{Done}
use Rattle.journal.specs.Log.{log}
use Rattle.journal.specs.Opening.{Finds}
use Rattle.journal.proofs.Places.{kept}
use Rattle.recovery.specs.declared.fault.RecoveryFault.{RecoveryFault}
use Rattle.recovery.specs.declared.fault.RecoveryFault.TheVariants.{Size}
use Rattle.recovery.specs.declared.opening.Recovery.{Recovery}
use Rattle.recovery.specs.Opening.{Opens}
use Rattle.recovery.specs.Clearing.{clearing}
use Rattle.image.specs.declared.run.Run.{Run}
use Rattle.image.specs.Runs.{run, Declared, joined}
use Rattle.image.specs.declared.state.Image.{Image}
use Rattle.image.specs.declared.run.ImageFault.{ImageFault}
use Rattle.image.specs.declared.run.ImageFault.TheVariants as image
use Rattle.image.specs.Calls.{declared, Declares}
use Rattle.image.proofs.Alone.{runs_are_joined}
use Rattle.transactions.specs.declared.state.State.{State}
use Rattle.transactions.specs.State.{StandsAt, Idle, OpenOn}
use Rattle.transactions.specs.Pages.{Tabulates, Writable}
use Rattle.transactions.proofs.Tabling.{opened_stands}
use Rattle.transactions.proofs.making.open_into.Goals as goal

not_err : {A : Type 0} (x : A) (f : RecoveryFault) → Ok x ≡ Err f → ⊥
not_err x f e = let z : ◌≡◌ {A = ℕ} 0 1 = cc in omega arith

-- what is found is a record, whose serial and ordinal have their bounds
found_bounds : (d e : Disk) (r : Recovery) (memory : List ℕ) → Opens d (Ok r) e memory → (r.last < 2 ^ 63) × (r.ordinal ≤ r.last)
found_bounds d e r memory (inl (k, err, _, _)) = absurd (not_err r (Size k) err)
found_bounds d e r memory (inr (n, divides, inl h)) = absurd h
found_bounds d e r memory (inr (n, divides, inr (m, restart, (finds, cleared, tabled)))) =
    let here : 1 ≤ (log n m.shows r.last).kind = omega (arith, finds.run.ends) in
    let k = kept n m.shows r.last here in
    (omega (arith, k.to), omega (arith, k.ordinal, finds.number))

-- where all bytes are declared, any two memories may differ
all_same : (runs : List Run) (memory before : List ℕ) → runs ≡ run 0 6144 ∷ [] → length memory ≡ 6144 → length before ≡ 6144
    → (i : ℕ) → (Declared runs i → ⊥) → get_or memory i 0 ≡ get_or before i 0
all_same runs memory before is whole kept i none =
    ⊎_elim
    (λ (inside : i < 6144). absurd (none (subst (λ (rs : List Run). Declared rs i) (sym is) (inl (omega arith, inside)))))
    (λ past. get_or_past memory i 0 (omega arith) ∙ sym (get_or_past before i 0 (omega arith)))
    (cases_lt i 6144)

-- a store that is set on what was found
set_on : (d e : Disk) (r : Recovery) (memory : List ℕ) (s : State) → Opens d (Ok r) e memory → s.image.memory ≡ memory → StandsAt s.log (d.plate.sectors - 64) r.low r.last r.ordinal
    → s.on ≡ true → Idle s → OpenOn d r.ordinal r.strays e s
set_on d e r memory s (inl (k, err, _, _)) same log on idle = absurd (not_err r (Size k) err)
set_on d e r memory s (inr (n, divides, inl h)) same log on idle = absurd h
set_on d e r memory s (inr (n, divides, inr (m, restart, (finds, cleared, tabled)))) same log on idle =
    let here = subst (λ (k : ℕ). Finds n m.shows r.ordinal r.strays k s.log.last s.image.memory) (sym log.low_is)
    (subst (λ (k : ℕ). Finds n m.shows r.ordinal r.strays r.low k s.image.memory) (sym log.last_is)
    (subst (λ (bytes : List ℕ). Finds n m.shows r.ordinal r.strays r.low r.last bytes) (sym same) finds))
    in
    record {
      places = n;
      divides = divides;
      restarted = m;
      restart = restart;
      finds = here;
      cleared = subst (λ (k : ℕ). Done m (clearing n m.shows k) e) (sym log.last_is) cleared;
      on = on;
      log_of = omega (arith, log.places_is, divides.homes);
      number = log.ordinal_is;
      idle = idle;
    }

-- the table that was found is that of the store
found_stands : (d e : Disk) (r : Recovery) (memory : List ℕ) (s : State) → Opens d (Ok r) e memory → StandsAt s.log (d.plate.sectors - 64) r.low r.last r.ordinal → array_vec_len s.spool ≡ 0
    → s.pages ≡ r.pages → Writable s × Tabulates s e.shows
found_stands d e r memory s (inl (k, err, _, _)) log empty pages = absurd (not_err r (Size k) err)
found_stands d e r memory s (inr (n, divides, inl h)) log empty pages = absurd h
found_stands d e r memory s (inr (n, divides, inr (m, restart, (finds, cleared, tabled)))) log empty pages =
    opened_stands n s m e r.ordinal r.strays r.low r.last memory r.pages (omega (arith, divides.least)) restart.quiet finds cleared tabled
    record { places_is = omega (arith, log.places_is, divides.homes); low_is = log.low_is; last_is = log.last_is; ordinal_is = log.ordinal_is }
    empty pages

-- where nothing is declared, the whole memory may be
never_refused : (x y : Image) (f : ImageFault) → declared x ≡ [] → Declares 0 6144 x (Err f) y → ⊥
never_refused x y (image.Range s) none h = ⊎_elim (λ (e : 6144 ≡ 0). omega arith) (λ (l : 6144 < 0 + 6144). omega arith) h.out
never_refused x y (image.Runs s) none h =
    let is = runs_are_joined 0 6144 x.runs h.runs (lit≤ tt) h.declares ∙ ap (joined 0 6144) none in
    omega (arith, h.many, ap (λ (rs : List Run). length rs) is)
never_refused x y (image.Undeclared b) none h = h

pub returns-in_err-declare-clause-opened : goal.returns-in_err-declare-clause-opened
returns-in_err-declare-clause-opened g c = absurd (never_refused c.args.state.now.image c.declare.new.self c.in_err-declare.field-0.0 c.requires.idle.clean c.in_err-declare.ensures)

pub invariant_of-state-2 : goal.invariant_of-state-2
invariant_of-state-2 g c =
    let y = c.declare.new.self in
    let runs : y.runs.items.items ≡ run 0 6144 ∷ [] = runs_are_joined 0 6144 c.args.state.now.image.runs (declared y) (lit≤ tt) c.in_ok-declare.ensures.declares ∙ ap (joined 0 6144) c.requires.idle.clean in
    let whole = c.open_log.ensures.whole in
    (whole, (y.kept, (all_same y.runs.items.items c.open_log.new.memory y.before runs whole y.kept, tt)))

pub invariant_of-state-4 : goal.invariant_of-state-4
invariant_of-state-4 g c =
    let b = found_bounds (g.D.Device.disk c.args.device.now) (g.D.Device.disk c.open_log.new.device) c.in-Ok.found c.open_log.new.memory c.in-Ok.ensures.opens in
    record { bounded = omega (arith, b.0, c.requires.idle.empty); numbered = omega (arith, b.1) }

pub returns-clause-opened : goal.returns-clause-opened
returns-clause-opened g c =
    let d = g.D.Device.disk c.args.device.now in
    let k = c.keep.ensures in
    set_on d (g.D.Device.disk c.open_log.new.device) c.in-Ok.found c.open_log.new.memory _ c.in-Ok.ensures.opens k.memory
    (record { places_is = ap (λ (j : ℕ). j - 64) c.sectors-sectors.ensures; low_is = refl; last_is = refl; ordinal_is = refl }) refl
    (record { free = c.requires.idle.free; clean = k.clean; empty = c.requires.idle.empty; before = k.before ∙ sym k.memory })

pub returns-clause-table : goal.returns-clause-table
returns-clause-table g c =
    λ _.
    let d = g.D.Device.disk c.args.device.now in
    found_stands d (g.D.Device.disk c.open_log.new.device) c.in-Ok.found c.open_log.new.memory _ c.in-Ok.ensures.opens
    (record { places_is = ap (λ (j : ℕ). j - 64) c.sectors-sectors.ensures; low_is = refl; last_is = refl; ordinal_is = refl })
    c.requires.idle.empty refl
