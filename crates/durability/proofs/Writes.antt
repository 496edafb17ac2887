-- What a plan of writes leaves on a device, done or cut: in each sector what stood there, or what a write put there.
use Rattle.std.proofs.Common.{◌≡◌, ℕ, ◌⊎◌, List, [], ◌∷◌, ◌++◌, sym, refl, ap, ◌∙◌, subst, inl, inr, ⊎_elim, arith}
use Rattle.std.proofs.lemmas.Bool.{cases_eq}
use Rattle.device.specs.Disk.{Disk, Shown, spoiled, holds, Among, Stands}
use Rattle.device.specs.Meaning.{NothingNew, Quiet}
use Rattle.device.specs.Trace.{Act, looked, wrote, settled, restarted, Does, Cut, Done, CutShort}
use Rattle.device.proofs.Changes.{Changed, changed_wrote, changed_cut, nothing_new_same, settled_old, faded_failed, done_one}
use Rattle.durability.specs.Standing.{Choice}

-- No call of the plan restarts the device.
abbrev pub Steady : List Act → Type 0
Steady [] = Unit {0}
Steady (looked ∷ plan) = Steady plan
Steady (wrote s bytes ∷ plan) = Steady plan
Steady (settled ∷ plan) = Steady plan
Steady (restarted ∷ plan) = ⊥

-- A write of the plan to sector i may leave x there.
abbrev pub Written : List Act → ℕ → Shown → Type 0
Written plan i x = (bytes : List ℕ) × Among (wrote i bytes) plan × ((x ≡ holds bytes) ⊎ (x ≡ spoiled))

-- Whatever may stand in e might stand there in d, or a write of the plan left it.
abbrev pub Left : Disk → List Act → Disk → Type 0
Left d plan e = (i : ℕ) (x : Shown) → Stands e i x → Stands d i x ⊎ Written plan i x

-- No write of the plan is to sector i.
abbrev pub Spares : List Act → ℕ → Type 0
Spares plan i = (bytes : List ℕ) → Among (wrote i bytes) plan → ⊥

pub steady_append : (first second : List Act) → Steady first → Steady second → Steady (first ++ second)
steady_append [] second h k = k
steady_append (looked ∷ first) second h k = steady_append first second h k
steady_append (wrote s bytes ∷ first) second h k = steady_append first second h k
steady_append (settled ∷ first) second h k = steady_append first second h k
steady_append (restarted ∷ first) second h k = absurd h

-- what one call leaves

left_same : (d e : Disk) (plan : List Act) → ((i : ℕ) → NothingNew d e i) → Left d plan e
left_same d e plan old i x h = inl (old i x h)

left_write : (d e : Disk) (s : ℕ) (bytes : List ℕ) (plan : List Act) → Changed d s bytes e → Left d (wrote s bytes ∷ plan) e
left_write d e s bytes plan w i x h =
    ⊎_elim
    (λ (at : i ≡ s).
    ⊎_elim
    (λ old. inl (subst (λ (j : ℕ). Stands d j x) (sym at) old))
    (λ new. inr (bytes, inl (ap (λ (j : ℕ). wrote j bytes) at), new.1))
    (w.there x (subst (λ (j : ℕ). Stands e j x) at h)))
    (λ ne. inl (w.elsewhere i ne x h))
    (cases_eq i s)

-- and then the rest of the plan

left_later : (d m e : Disk) (a : Act) (plan : List Act) → Left d (a ∷ plan) m → Left m plan e → Left d (a ∷ plan) e
left_later d m e a plan first rest i x h =
    ⊎_elim (λ old. first i x old) (λ (w : Written plan i x). inr (w.0, inr w.1, w.2)) (rest i x h)

left_does : (d m : Disk) (a : Act) (plan : List Act) → Steady (a ∷ plan) → Does a d m → Left d (a ∷ plan) m
left_does d m looked plan calm h = left_same d m (looked ∷ plan) (nothing_new_same d m h.1)
left_does d m (wrote s bytes) plan calm h = left_write d m s bytes plan (changed_wrote d m s bytes h)
left_does d m settled plan calm h = left_same d m (settled ∷ plan) (settled_old d m h)
left_does d m restarted plan calm h = absurd calm

left_cut : (d e : Disk) (a : Act) (plan : List Act) (o : ℕ) → Steady (a ∷ plan) → Cut a d o e → Left d (a ∷ plan) e
left_cut d e looked plan o calm h = left_same d e (looked ∷ plan) (faded_failed d e o h).old
left_cut d e (wrote s bytes) plan o calm h = left_write d e s bytes plan (changed_cut d e s bytes o h)
left_cut d e settled plan o calm h = left_same d e (settled ∷ plan) (faded_failed d e o h).old
left_cut d e restarted plan o calm h = absurd calm

steady_rest : (a : Act) (plan : List Act) → Steady (a ∷ plan) → Steady plan
steady_rest looked plan h = h
steady_rest (wrote s bytes) plan h = h
steady_rest settled plan h = h
steady_rest restarted plan h = absurd h

pub left_done : (d e : Disk) (plan : List Act) → Steady plan → Done d plan e → Left d plan e
left_done d e [] calm same = left_same d e [] (nothing_new_same d e same)
left_done d e (a ∷ plan) calm (m, h, rest) =
    left_later d m e a plan (left_does d m a plan calm h) (left_done m e plan (steady_rest a plan calm) rest)

pub left_short : (d e : Disk) (plan : List Act) (o : ℕ) → Steady plan → CutShort d plan o e → Left d plan e
left_short d e [] o calm h = absurd h
left_short d e (a ∷ plan) o calm (inl h) = left_cut d e a plan o calm h
left_short d e (a ∷ plan) o calm (inr (m, h, rest)) =
    left_later d m e a plan (left_does d m a plan calm h) (left_short m e plan o (steady_rest a plan calm) rest)

-- so from a quiet device every choice has in each sector what was shown there, or what a write may leave
pub chosen : (d e : Disk) (plan : List Act) → Quiet d → Left d plan e → (shows : ℕ → Shown) → Choice e shows → (i : ℕ) → (shows i ≡ d.shows i) ⊎ Written plan i (shows i)
chosen d e plan quiet left shows c i =
    ⊎_elim (λ old. inl (quiet i (shows i) old)) inr (left i (shows i) (c i))

pub unwritten : (d e : Disk) (plan : List Act) → Quiet d → Left d plan e → (shows : ℕ → Shown) → Choice e shows → (i : ℕ) → Spares plan i → shows i ≡ d.shows i
unwritten d e plan quiet left shows c i spared =
    ⊎_elim (λ same. same) (λ (w : Written plan i (shows i)). absurd (spared w.0 w.1)) (chosen d e plan quiet left shows c i)

-- what each sector shows once the plan is done: what it showed, or the bytes of a write

pub record ShowsLast (plan : List Act) (e : Disk) (i : ℕ) : Type 0 where
  pub bytes : List ℕ
  pub written : Among (wrote i bytes) plan
  pub shown : e.shows i ≡ holds bytes

shown_does : (d m : Disk) (a : Act) (plan : List Act) → Steady (a ∷ plan) → Does a d m → (i : ℕ) → (m.shows i ≡ d.shows i) ⊎ ShowsLast (a ∷ plan) m i
shown_does d m looked plan calm h i = inl (ap (λ (v : Disk). v.shows i) h.1)
shown_does d m (wrote s bytes) plan calm h i =
    ⊎_elim
    (λ (at : i ≡ s).
    inr (record { bytes = bytes; written = inl (ap (λ (j : ℕ). wrote j bytes) at); shown = ap m.shows at ∙ h.shown }))
    (λ ne. inl (h.kept i ne))
    (cases_eq i s)
shown_does d m settled plan calm h i = inl (h.kept i)
shown_does d m restarted plan calm h i = absurd calm

pub shown_done : (d e : Disk) (plan : List Act) → Steady plan → Done d plan e → (i : ℕ) → (e.shows i ≡ d.shows i) ⊎ ShowsLast plan e i
shown_done d e [] calm same i = inl (ap (λ (v : Disk). v.shows i) same)
shown_done d e (a ∷ plan) calm (m, h, rest) i =
    ⊎_elim
    (λ (same : e.shows i ≡ m.shows i).
    ⊎_elim
    (λ old. inl (same ∙ old))
    (λ (w : ShowsLast (a ∷ plan) m i). inr (record { bytes = w.bytes; written = w.written; shown = same ∙ w.shown }))
    (shown_does d m a plan calm h i))
    (λ (w : ShowsLast plan e i). inr (record { bytes = w.bytes; written = inr w.written; shown = w.shown }))
    (shown_done m e plan (steady_rest a plan calm) rest i)

-- a sector that no write is to shows what it showed
pub shown_spared : (d e : Disk) (plan : List Act) → Steady plan → Done d plan e → (i : ℕ) → Spares plan i → e.shows i ≡ d.shows i
shown_spared d e plan calm h i spared =
    ⊎_elim (λ same. same) (λ (w : ShowsLast plan e i). absurd (spared w.bytes w.written)) (shown_done d e plan calm h i)

-- plans one after another, taken apart

pub done_split : (d e : Disk) (first second : List Act) → Done d (first ++ second) e → (m : Disk) × Done d first m × Done m second e
done_split d e [] second h = (d, refl, h)
done_split d e (a ∷ first) second (n, h, rest) =
    let more = done_split n e first second rest in (more.0, (n, h, more.1), more.2)

pub cut_split : (d e : Disk) (first second : List Act) (o : ℕ) → CutShort d (first ++ second) o e → CutShort d first o e ⊎ ((m : Disk) × Done d first m × CutShort m second o e)
cut_split d e [] second o h = inr (d, refl, h)
cut_split d e (a ∷ first) second o (inl h) = inl (inl h)
cut_split d e (a ∷ first) second o (inr (n, h, rest)) =
    ⊎_elim
    (λ short. inl (inr (n, h, short)))
    (λ (k : (m : Disk) × Done n first m × CutShort m second o e). inr (k.0, (n, h, k.1), k.2))
    (cut_split n e first second o rest)

-- the last write to a sector counts
pub shown_last : (d e : Disk) (before after : List Act) (i : ℕ) (bytes : List ℕ) → Steady after → Spares after i → Done d (before ++ (wrote i bytes ∷ after)) e → e.shows i ≡ holds bytes
shown_last d e before after i bytes calm spared h =
    let parts = done_split d e before (wrote i bytes ∷ after) h in
    let rest = parts.2 in
    shown_spared rest.0 e after calm rest.2 i spared ∙ rest.1.shown

-- where every write to a sector has the same bytes, one write is enough for it to show them
pub shown_written : (d e : Disk) (plan : List Act) (i : ℕ) (bytes : List ℕ) → Steady plan → Among (wrote i bytes) plan → ((other : List ℕ) → Among (wrote i other) plan → other ≡ bytes) → Done d plan e → e.shows i ≡ holds bytes
shown_written d e [] i bytes calm one all h = absurd one
shown_written d e (a ∷ plan) i bytes calm one all (m, h, rest) =
    let calmer = steady_rest a plan calm in
    ⊎_elim
    (λ (here : wrote i bytes ≡ a).
    let w = subst (λ (b : Act). Does b d m) (sym here) h in
    ⊎_elim
    (λ (same : e.shows i ≡ m.shows i). same ∙ w.shown)
    (λ (l : ShowsLast plan e i). l.shown ∙ ap holds (all l.bytes (inr l.written)))
    (shown_done m e plan calmer rest i))
    (λ more. shown_written m e plan i bytes calmer more (λ other k. all other (inr k)) rest)
    one

-- a barrier writes nothing
pub settling_writes : (i : ℕ) (bytes : List ℕ) → Among (wrote i bytes) (settled ∷ []) → ⊥
settling_writes i bytes (inl e) = let z : ◌≡◌ {A = ℕ} 0 1 = cc in omega arith
settling_writes i bytes (inr h) = h

-- after a last barrier only what a sector shows may stand there
pub quiet_settled : (d e : Disk) (plan : List Act) → Done d (plan ++ (settled ∷ [])) e → Quiet e
quiet_settled d e plan h =
    let parts = done_split d e plan (settled ∷ []) h in
    (done_one parts.0 e settled parts.2).quiet
