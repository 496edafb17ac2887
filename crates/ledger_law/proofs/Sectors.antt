-- No call changes how many sectors a device has.
use Rattle.std.proofs.Common.{◌≡◌, ℕ, List, [], ◌∷◌, Ok, Err, Some, None, Option, Result, ap, ◌∙◌, inl, inr}
use Rattle.device.specs.declared.fault.DeviceFault.TheVariants.{Power, Misaddressed, Unfit, Spoiled}
use Rattle.device.specs.Disk.{Disk}
use Rattle.device.specs.Meaning.{Failed}
use Rattle.device.specs.Trace.{Act, looked, wrote, settled, restarted, Cut, CutShort}
use Rattle.device.proofs.Plans.{does_plate, done_plate}
use Rattle.recovery.specs.declared.fault.RecoveryFault.{RecoveryFault}
use Rattle.recovery.specs.declared.fault.RecoveryFault.TheVariants.{Device, Size, NoLog, NoMark, Uncovered}
use Rattle.journal.specs.declared.survey.Survey.{Survey}
use Rattle.recovery.specs.Opening.{NoRestart, Recovers, Opens}
use Rattle.recovery.specs.Clearing.{clearing}
use Rattle.transactions.specs.declared.fault.StoreFault.{StoreFault}
use Rattle.transactions.specs.Held.{Held, Opened}
use Rattle.law.specs.Events.{Tried}

failed_plate : (d e : Disk) (o : ℕ) → Failed d o e → e.plate ≡ d.plate
failed_plate d e o (inl w) = ap (λ (v : Disk). v.plate) w.same
failed_plate d e o (inr w) = w.1.plate

cut_plate : (a : Act) (d e : Disk) (o : ℕ) → Cut a d o e → e.plate ≡ d.plate
cut_plate looked d e o h = failed_plate d e o h
cut_plate (wrote s bytes) d e o (inl w) = ap (λ (v : Disk). v.plate) w.same
cut_plate (wrote s bytes) d e o (inr w) = w.plate
cut_plate settled d e o h = failed_plate d e o h
cut_plate restarted d e o h = h.plate

short_plate : (d e : Disk) (plan : List Act) (o : ℕ) → CutShort d plan o e → e.plate ≡ d.plate
short_plate d e [] o h = absurd h
short_plate d e (a ∷ plan) o (inl h) = cut_plate a d e o h
short_plate d e (a ∷ plan) o (inr (m, does, rest)) = short_plate m e plan o rest ∙ does_plate a d m does

pub tried_plate : {A : Type 0} (plan : List Act) (d : Disk) (done : List Act) (cut : Option Act) (r : Result A StoreFault) (e : Disk) → Tried plan d done cut r e → e.plate ≡ d.plate
tried_plate plan d done None (Ok x) e (is, h) = done_plate d e plan h
tried_plate plan d done (Some act) (Ok x) e h = absurd h
tried_plate plan d done None (Err f) e (none, is, same) = ap (λ (v : Disk). v.plate) same
tried_plate plan d done (Some act) (Err f) e (o, is, c) = cut_plate act c.reached e o c.cut ∙ done_plate d c.reached done c.did

pub looking_plate : (d e : Disk) (o : ℕ) → Failed d o e → e.plate ≡ d.plate
looking_plate = failed_plate

-- an opening
unstarted : (d e : Disk) (g : RecoveryFault) → NoRestart {A = ℕ} d (Err g) e → e.plate ≡ d.plate
unstarted d e (Device (Power o)) h = h.plate
unstarted d e (Device (Misaddressed _ _)) h = absurd h
unstarted d e (Device Unfit) h = absurd h
unstarted d e (Device (Spoiled _ _)) h = absurd h
unstarted d e (Size _) h = absurd h
unstarted d e NoLog h = absurd h
unstarted d e (NoMark _) h = absurd h
unstarted d e (Uncovered _) h = absurd h

recovered : (n : ℕ) (m e : Disk) (g : RecoveryFault) (memory : List ℕ) → Recovers n m (Err g) e memory → e.plate ≡ m.plate
recovered n m e (Device (Power o)) memory (inl failed) = failed_plate m e o failed
recovered n m e (Device (Power o)) memory (inr cut) = short_plate m e (clearing n m.shows cut.c) o cut.cut
recovered n m e (Device (Misaddressed _ _)) memory h = absurd h
recovered n m e (Device Unfit) memory h = absurd h
recovered n m e (Device (Spoiled _ _)) memory h = absurd h
recovered n m e (Size _) memory (same, h) = ap (λ (v : Disk). v.plate) same
recovered n m e NoLog memory (same, h) = ap (λ (v : Disk). v.plate) same
recovered n m e (NoMark _) memory (same, h) = ap (λ (v : Disk). v.plate) same
recovered n m e (Uncovered _) memory (same, h) = ap (λ (v : Disk). v.plate) same

refused_opening : (d e : Disk) (g : RecoveryFault) (memory : List ℕ) → Opens d (Err g) e memory → e.plate ≡ d.plate
refused_opening d e g memory (inl (count, is, divided, same)) = ap (λ (v : Disk). v.plate) same
refused_opening d e g memory (inr (n, divides, inl h)) = unstarted d e g (not_started g h)
  where
    not_started : (g : RecoveryFault) → NoRestart {A = Survey × ℕ} d (Err g) e → NoRestart {A = ℕ} d (Err g) e
    not_started (Device (Power o)) h = h
    not_started (Device (Misaddressed _ _)) h = h
    not_started (Device Unfit) h = h
    not_started (Device (Spoiled _ _)) h = h
    not_started (Size _) h = h
    not_started NoLog h = h
    not_started (NoMark _) h = h
    not_started (Uncovered _) h = h
refused_opening d e g memory (inr (n, divides, inr (m, restart, h))) = recovered n m e g memory h ∙ restart.plate

pub opened_plate : (d : Disk) (r : Result (ℕ × ℕ) StoreFault) (k : Held) → Opened d r k → k.disk.plate ≡ d.plate
opened_plate d (Ok x) k o = done_plate o.restarted k.disk (clearing o.places o.restarted.shows k.state.log.last) o.cleared ∙ o.restart.plate
opened_plate d (Err f) k (g, memory, is, opens, off) = refused_opening d k.disk g memory opens
