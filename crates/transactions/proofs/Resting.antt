-- Outside a transaction nothing is declared, before and after each call.
use Rattle.std.proofs.Common.{◌≡◌, ℕ, Bool, true, false, List, [], ◌∷◌, length, Ok, Err, Result, sym, ap, ◌∙◌, subst, inl, inr}
use Rattle.std.proofs.lemmas.Bool.{both_ways}
use Rattle.std.proofs.lemmas.List.{ext_get_or}
use Rattle.device.specs.Disk.{Disk}
use Rattle.image.specs.declared.run.Run.{Run}
use Rattle.image.specs.declared.state.Image.{Image}
use Rattle.image.specs.Runs.{Declared}
use Rattle.image.specs.Calls.{declared, Kept, Restored}
use Rattle.transactions.specs.declared.fault.StoreFault.{StoreFault}
use Rattle.transactions.specs.declared.state.State.{State}
use Rattle.transactions.specs.Calls.{Flushes, Commits}
use Rattle.transactions.specs.Rows.{busy, serials}
use Rattle.transactions.specs.State.{Rests, Formatted, Opened}
use Rattle.transactions.specs.Truncation.{due_pages, crowded, Truncates}
use Rattle.transactions.proofs.Plans.{on_past}

-- where nothing is declared, the memory is as at begin
unchanged : (x : Image) → declared x ≡ [] → x.before ≡ x.memory
unchanged x clean =
    sym
    (ext_get_or 0 x.memory x.before (x.whole ∙ sym x.kept)
    (λ i h. x.same i (λ k. subst (λ (rs : List Run). Declared rs i) clean k)))

off_rests : (s : State) → s.on ≡ false → Rests s
off_rests s off on free = absurd (both_ways s.on off on)

same_rests : (s s' : State) → s' ≡ s → Rests s → Rests s'
same_rests s s' same rests = subst (λ (x : State). Rests x) (sym same) rests

-- a memory that is kept, put back, or as it was
kept_rests : (x : Image) (s : State) → Kept x s.image → Rests s
kept_rests x s k on free = record { clean = k.clean; before = k.before ∙ sym k.memory }

restored_rests : (x : Image) (s : State) → Restored x s.image → Rests s
restored_rests x s r on free = record { clean = r.clean; before = r.before ∙ sym r.memory }

clean_rests : (x : Image) (s : State) → declared x ≡ [] → s.image ≡ x → Rests s
clean_rests x s clean same on free =
    let none = ap (λ (y : Image). declared y) same ∙ clean in
    record { clean = none; before = unchanged s.image none }

still_rests : (s s' : State) → s.on ≡ true → s'.image ≡ s.image → s'.busy ≡ s.busy → Rests s → Rests s'
still_rests s s' was image busy rests on free = clean_rests s.image s' (rests was (sym busy ∙ free)).clean image on free

pub flush_rests : (s s' : State) (d e : Disk) (r : Result ℕ StoreFault) → Rests s → Flushes s d r s' e → Rests s'
flush_rests s s' d e (Ok k) rests (passes, count, inl (none, state, device)) = same_rests s s' state rests
flush_rests s s' d e (Ok k) rests (passes, count, inr (some, done, written, image, free)) = still_rests s s' (on_past s [] passes) image free rests
flush_rests s s' d e (Err f) rests (inl (fits, state, device)) = same_rests s s' state rests
flush_rests s s' d e (Err f) rests (inr (passes, some, cut)) = off_rests s' cut.state.off

pub commit_rests : (s s' : State) (d e : Disk) (number : ℕ) (flush : Bool) (r : Result (ℕ × ℕ) StoreFault) → Rests s → Commits s d number flush r s' e → Rests s'
commit_rests s s' d e number flush (Ok x) rests (passes, inl none) = clean_rests s.image s' none.clean none.state.image_is
commit_rests s s' d e number flush (Ok x) rests (passes, inr parts) = kept_rests s.image s' parts.image
commit_rests s s' d e number flush (Err f) rests (inl (fits, state, device)) = same_rests s s' state rests
commit_rests s s' d e number flush (Err f) rests (inr (passes, inl refused)) = restored_rests s.image s' refused.state.0
commit_rests s s' d e number flush (Err f) rests (inr (passes, inr cut)) = off_rests s' cut.cut.state.off

pub truncate_rests : (s s' : State) (d e : Disk) (r : Result ℕ StoreFault) → Rests s → Truncates s d r s' e → Rests s'
truncate_rests s s' d e (Ok k) rests (passes, inl none) = same_rests s s' none.state rests
truncate_rests s s' d e (Ok k) rests (passes, inr pages) =
    let on = on_past s (busy s ∷ serials s 0 ∷ crowded s (length (due_pages s d.shows)) ∷ []) passes in
    still_rests s s' on pages.state.image pages.state.busy rests
truncate_rests s s' d e (Err f) rests (inl (fits, state, device)) = same_rests s s' state rests
truncate_rests s s' d e (Err f) rests (inr cut) = off_rests s' cut.state.off

pub format_rests : (s : State) (d e : Disk) (r : Result (Unit {0}) StoreFault) → Formatted d r e s → Rests s
format_rests s d e (Ok u) (n, made, fresh) = λ on free. record { clean = fresh.idle.clean; before = fresh.idle.before }
format_rests s d e (Err f) (g, is, made, blank) = off_rests s blank.off

pub open_rests : (s : State) (d e : Disk) (r : Result (ℕ × ℕ) StoreFault) → Opened d r e s → Rests s
open_rests s d e (Ok x) opened = λ on free. record { clean = opened.idle.clean; before = opened.idle.before }
open_rests s d e (Err f) (g, memory, is, opens, blank) = off_rests s blank.off
