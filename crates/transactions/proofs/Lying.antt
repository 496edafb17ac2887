-- Where the log of a store lies, before and after each call.
use Rattle.std.proofs.Common.{◌≡◌, ℕ, Bool, true, false, [], ◌∷◌, ◌++◌, length, Ok, Err, Result, sym, ap, ◌∙◌, subst, inl, inr, arith}
use Rattle.device.specs.Disk.{Disk}
use Rattle.device.proofs.Plans.{done_plate}
use Rattle.recovery.specs.Clearing.{clearing}
use Rattle.recovery.specs.Format.{formatting}
use Rattle.transactions.specs.declared.fault.StoreFault.{StoreFault}
use Rattle.transactions.specs.declared.log.Log.{Log}
use Rattle.transactions.specs.declared.state.State.{State}
use Rattle.transactions.specs.Calls.{writing, Flushes, Commits, Enters}
use Rattle.transactions.specs.Rows.{busy, stranger, serials}
use Rattle.transactions.specs.State.{spooled, own, OnLog, LiesOn, Formatted, Opened}
use Rattle.transactions.specs.Truncation.{due_pages, crowded, truncation, Truncates}
use Rattle.transactions.proofs.Plans.{on_past}

-- a store that is off lies anywhere
pub off_lies : (s : State) (d : Disk) → s.on ≡ false → LiesOn s d
off_lies s d down on = let z : ◌≡◌ {A = Bool} true false = sym on ∙ down in absurd (differ z)
  where
    differ : true ≡ false → ⊥
    differ e = let z : ◌≡◌ {A = ℕ} 0 1 = cc in omega arith

-- the log has as many places and the device as many sectors as before
pub still_lies : (s s' : State) (d e : Disk) → s'.log.places ≡ s.log.places → e.plate ≡ d.plate → OnLog s d → OnLog s' e
still_lies s s' d e places plate h = omega (arith, ap (λ v. v.sectors) plate)

pub same_lies : (s s' : State) (d e : Disk) → s' ≡ s → e ≡ d → LiesOn s d → LiesOn s' e
same_lies s s' d e state device h =
    subst (λ (x : State). LiesOn x e) (sym state) (subst (λ (x : Disk). LiesOn s x) (sym device) h)

pub flush_lies : (s s' : State) (d e : Disk) (r : Result ℕ StoreFault) → LiesOn s d → Flushes s d r s' e → LiesOn s' e
flush_lies s s' d e (Ok k) h (passes, count, inl (none, state, device)) = same_lies s s' d e state device h
flush_lies s s' d e (Ok k) h (passes, count, inr (some, done, written, image, free)) =
    λ on.
    still_lies s s' d e written.log.places_is (done_plate d e (writing s (spooled s)) done) (h (on_past s [] passes))
flush_lies s s' d e (Err f) h (inl (fits, state, device)) = same_lies s s' d e state device h
flush_lies s s' d e (Err f) h (inr (passes, some, cut)) = off_lies s' e cut.state.off

entered_lies : (s s' : State) (d e : Disk) (flush : Bool) → OnLog s d → Enters s d flush s' e → OnLog s' e
entered_lies s s' d e true h (done, written) =
    still_lies s s' d e written.log.places_is (done_plate d e (writing s (spooled s ++ own s)) done) h
entered_lies s s' d e false h (device, spooled) = still_lies s s' d e spooled.log.places_is (ap (λ (x : Disk). x.plate) device) h

pub commit_lies : (s s' : State) (d e : Disk) (number : ℕ) (flush : Bool) (r : Result (ℕ × ℕ) StoreFault) → LiesOn s d → Commits s d number flush r s' e → LiesOn s' e
commit_lies s s' d e number flush (Ok x) h (passes, inl none) =
    λ on.
    still_lies s s' d e (ap (λ (l : Log). l.places) none.state.log_is) (ap (λ (x : Disk). x.plate) none.device) (h (on_past s (stranger s number ∷ []) passes))
commit_lies s s' d e number flush (Ok x) h (passes, inr parts) =
    λ on.
    entered_lies s s' d e flush (h (on_past s (stranger s number ∷ []) passes)) parts.enters
commit_lies s s' d e number flush (Err f) h (inl (fits, state, device)) = same_lies s s' d e state device h
commit_lies s s' d e number flush (Err f) h (inr (passes, inl refused)) =
    λ on.
    still_lies s s' d e (ap (λ (l : Log). l.places) refused.state.1.log_is) (ap (λ (x : Disk). x.plate) refused.device) (h (on_past s (stranger s number ∷ []) passes))
commit_lies s s' d e number flush (Err f) h (inr (passes, inr cut)) = off_lies s' e cut.cut.state.off

pub truncate_lies : (s s' : State) (d e : Disk) (r : Result ℕ StoreFault) → LiesOn s d → Truncates s d r s' e → LiesOn s' e
truncate_lies s s' d e (Ok k) h (passes, inl none) = same_lies s s' d e none.state none.device h
truncate_lies s s' d e (Ok k) h (passes, inr pages) =
    λ on.
    still_lies s s' d e pages.state.log.places_is (done_plate d e (truncation s d.shows) pages.done)
    (h (on_past s (busy s ∷ serials s 0 ∷ crowded s (length (due_pages s d.shows)) ∷ []) passes))
truncate_lies s s' d e (Err f) h (inl (fits, state, device)) = same_lies s s' d e state device h
truncate_lies s s' d e (Err f) h (inr cut) = off_lies s' e cut.state.off

pub format_lies : (s : State) (d e : Disk) (r : Result (Unit {0}) StoreFault) → Formatted d r e s → LiesOn s e
format_lies s d e (Ok u) (n, (divides, done), fresh) =
    λ on.
    omega (arith, divides.homes, fresh.log.places_is, ap (λ v. v.sectors) (done_plate d e (formatting n) done))
format_lies s d e (Err f) (g, is, made, blank) = off_lies s e blank.off

pub open_lies : (s : State) (d e : Disk) (r : Result (ℕ × ℕ) StoreFault) → Opened d r e s → LiesOn s e
open_lies s d e (Ok x) opened =
    λ on.
    let restarted = ap (λ v. v.sectors) opened.restart.plate in
    let cleared = ap (λ v. v.sectors) (done_plate opened.restarted e (clearing opened.places opened.restarted.shows s.log.last) opened.cleared) in
    omega (arith, opened.divides.homes, opened.log_of)
open_lies s d e (Err f) (g, memory, is, opens, blank) = off_lies s e blank.off
