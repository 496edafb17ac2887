-- Plans one after another, and loops that work a plan off.
use Rattle.std.proofs.Common.{◌≡◌, ℕ, ◌<◌, List, [], ◌∷◌, ◌++◌, length, Ok, Err, refl, ap, ◌∙◌, subst, inl, inr}
use Rattle.device.specs.declared.fault.DeviceFault.{DeviceFault}
use Rattle.device.specs.declared.fault.DeviceFault.TheVariants.{Power, Misaddressed, Unfit, Spoiled}
use Rattle.device.specs.Disk.{Disk}
use Rattle.device.specs.Meaning.{Answer, Write, Barrier, Restart}
use Rattle.device.proofs.Changes.{not_astray}
use Rattle.device.specs.Trace.{Act, looked, wrote, settled, restarted, Does, Done, CutShort, Tries}

-- a plan that was done, and then another
pub done_append : (d m e : Disk) (first second : List Act) → Done d first m → Done m second e → Done d (first ++ second) e
done_append d m e [] second same rest = subst (λ (x : Disk). Done x second e) same rest
done_append d m e (a ∷ first) second (n, h, more) rest = (n, h, done_append n m e first second more rest)

pub cut_before : (d e : Disk) (first second : List Act) (o : ℕ) → CutShort d first o e → CutShort d (first ++ second) o e
cut_before d e [] second o h = absurd h
cut_before d e (a ∷ first) second o (inl h) = inl h
cut_before d e (a ∷ first) second o (inr (n, h, more)) = inr (n, h, cut_before n e first second o more)

pub cut_after : (d m e : Disk) (first second : List Act) (o : ℕ) → Done d first m → CutShort m second o e → CutShort d (first ++ second) o e
cut_after d m e [] second o same rest = subst (λ (x : Disk). CutShort x second o e) same rest
cut_after d m e (a ∷ first) second o (n, h, more) rest = inr (n, h, cut_after n m e first second o more rest)

-- what is tried after a plan that was done
pub tries_after : (d m e : Disk) (first second : List Act) (r : Answer) → Done d first m → Tries m second r e → Tries d (first ++ second) r e
tries_after d m e first second (Ok u) h k = done_append d m e first second h k
tries_after d m e first second (Err (Power o)) h k = cut_after d m e first second o h k
tries_after d m e first second (Err (Misaddressed s o)) h k = absurd k
tries_after d m e first second (Err Unfit) h k = absurd k
tries_after d m e first second (Err (Spoiled s o)) h k = absurd k

-- one call, then the rest of a plan
pub tries_next : (d m e : Disk) (a : Act) (rest : List Act) (r : Answer) → Does a d m → Tries m rest r e → Tries d (a ∷ rest) r e
tries_next d m e a rest (Ok u) h k = (m, h, k)
tries_next d m e a rest (Err (Power o)) h k = inr (m, h, k)
tries_next d m e a rest (Err (Misaddressed s o)) h k = absurd k
tries_next d m e a rest (Err Unfit) h k = absurd k
tries_next d m e a rest (Err (Spoiled s o)) h k = absurd k

-- What a writing loop keeps: `all` was to be tried from `start`, and it comes to trying `rest` from here.
pub record Working (start : Disk) (all : List Act) (here : Disk) (rest : List Act) : Type 0 where
  pub so : (r : Answer) (e : Disk) → Tries here rest r e → Tries start all r e
  pub plate : here.plate ≡ start.plate

pub work_begins : (d : Disk) (plan : List Act) → Working d plan d plan
work_begins d plan = record { so = λ r e h. h; plate = refl }

pub work_goes : (start here m : Disk) (all rest : List Act) (a : Act) → Working start all here (a ∷ rest) → Does a here m → m.plate ≡ here.plate → Working start all m rest
work_goes start here m all rest a w h p =
    record { so = λ r e k. w.so r e (tries_next here m e a rest r h k); plate = p ∙ w.plate }

pub work_ends : (start here : Disk) (all : List Act) → Working start all here [] → Done start all here
work_ends start here all w = w.so (Ok tt) here refl

pub work_cut : (start here e : Disk) (all rest : List Act) (a : Act) (f : DeviceFault) → Working start all here (a ∷ rest) → Tries here (a ∷ []) (Err f) e → Tries start all (Err f) e
work_cut start here e all rest a (Power o) w h = w.so (Err (Power o)) e (cut_before here e (a ∷ []) rest o h)
work_cut start here e all rest a (Misaddressed s o) w h = absurd h
work_cut start here e all rest a Unfit w h = absurd h
work_cut start here e all rest a (Spoiled s o) w h = absurd h

-- a write of a sector that is there is one call of a plan
pub write_tried : (d e : Disk) (s : ℕ) (bytes : List ℕ) (r : Answer) → s < d.plate.sectors → length bytes ≡ 128 → Write d s bytes r e → Tries d (wrote s bytes ∷ []) r e
write_tried d e s bytes (Ok u) there fits w = (e, w, refl)
write_tried d e s bytes (Err (Power o)) there fits w = inl w
write_tried d e s bytes (Err (Misaddressed t o)) there fits w = absurd (not_astray d s (length bytes) (record { there = there; fits = fits }) w.why)
write_tried d e s bytes (Err Unfit) there fits w = absurd w
write_tried d e s bytes (Err (Spoiled t o)) there fits w = absurd w

-- the same where part of the plan is worked off by a call of its own
pub plan_goes : (start here m : Disk) (all part rest : List Act) → Working start all here (part ++ rest) → Done here part m → m.plate ≡ here.plate → Working start all m rest
plan_goes start here m all part rest w h p =
    record { so = λ r e k. w.so r e (tries_after here m e part rest r h k); plate = p ∙ w.plate }

pub plan_cut : (start here e : Disk) (all part rest : List Act) (f : DeviceFault) → Working start all here (part ++ rest) → Tries here part (Err f) e → Tries start all (Err f) e
plan_cut start here e all part rest (Power o) w h = w.so (Err (Power o)) e (cut_before here e part rest o h)
plan_cut start here e all part rest (Misaddressed s o) w h = absurd h
plan_cut start here e all part rest Unfit w h = absurd h
plan_cut start here e all part rest (Spoiled s o) w h = absurd h

-- barriers and restarts as one call of a plan
pub barrier_tried : (d e : Disk) (r : Answer) → Barrier d r e → Tries d (settled ∷ []) r e
barrier_tried d e (Ok u) w = (e, w, refl)
barrier_tried d e (Err (Power o)) w = inl w
barrier_tried d e (Err (Misaddressed t o)) w = absurd w
barrier_tried d e (Err Unfit) w = absurd w
barrier_tried d e (Err (Spoiled t o)) w = absurd w

pub restart_tried : (d e : Disk) (r : Answer) → Restart d r e → Tries d (restarted ∷ []) r e
restart_tried d e (Ok u) w = (e, w, refl)
restart_tried d e (Err (Power o)) w = inl w
restart_tried d e (Err (Misaddressed t o)) w = absurd w
restart_tried d e (Err Unfit) w = absurd w
restart_tried d e (Err (Spoiled t o)) w = absurd w

-- no call of a plan changes the plate
pub does_plate : (a : Act) (d e : Disk) → Does a d e → e.plate ≡ d.plate
does_plate looked d e h = ap (λ (v : Disk). v.plate) h.1
does_plate (wrote s bytes) d e h = h.plate
does_plate settled d e h = h.plate
does_plate restarted d e h = h.plate

pub done_plate : (d e : Disk) (plan : List Act) → Done d plan e → e.plate ≡ d.plate
done_plate d e [] same = ap (λ (v : Disk). v.plate) same
done_plate d e (a ∷ plan) (m, h, rest) = done_plate m e plan rest ∙ does_plate a d m h
