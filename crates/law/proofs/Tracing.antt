-- The device calls that a call made, from what its relation says of the device.
use Rattle.std.proofs.Common.{◌≡◌, ℕ, Bool, true, false, ◌&&◌, leb, ◌≤◌, List, [], ◌∷◌, ◌++◌, Some, None, Ok, Err, Option, Result, sym, refl, ◌∙◌, subst, inl, inr, ⊎_elim, arith}
use Rattle.arrayvec.specs.ArrayVec.{array_vec_len}
use Rattle.std.proofs.lemmas.Bool.{le-leb, lt-leb, and_from, and_left, and_right, cond-true, cond-false}
use Rattle.device.specs.declared.fault.DeviceFault.TheVariants.{Power, Misaddressed, Unfit, Spoiled}
use Rattle.device.specs.Disk.{Disk}
use Rattle.device.specs.Meaning.{Failed, Restarted}
use Rattle.device.specs.Trace.{Act, looked, restarted, Done, CutShort}
use Rattle.journal.specs.declared.survey.Survey.{Survey}
use Rattle.recovery.specs.declared.fault.RecoveryFault.{RecoveryFault}
use Rattle.recovery.specs.declared.fault.RecoveryFault.TheVariants as recovery
use Rattle.recovery.specs.Clearing.{clearing}
use Rattle.recovery.specs.Format.{formatting}
use Rattle.recovery.specs.Opening.{CutClearing, Recovers, Divides, NoRestart, Opens, Formats}
use Rattle.transactions.specs.declared.fault.StoreFault.{StoreFault}
use Rattle.transactions.specs.declared.fault.StoreFault.TheVariants.{Device}
use Rattle.transactions.specs.declared.state.State.{State}
use Rattle.transactions.specs.Calls.{writing}
use Rattle.transactions.specs.Fault.{from_recovery}
use Rattle.transactions.specs.Held.{Held, Formatted, Opened, Commits, Flushes, Truncates}
use Rattle.transactions.specs.State.{spooled, own}
use Rattle.transactions.specs.Truncation.{truncation}
use Rattle.law.specs.Events.{Tried, FormatTried, OpeningTried, does_enter, does_truncate, commit_plan, flush_plan, truncate_plan}
use Rattle.law.proofs.Cuts.{cut_at}
use Rattle.law.proofs.Standing.{awake, asleep}
use Rattle.law.proofs.Steps.{passing, token_fits, none_declared, room_fits}
use Rattle.law.proofs.Truncated.{writes, idle_clean, idle_refused}

-- Some device calls were made, as the plan says.
abbrev pub SomeTried : {A : Type 0} → List Act → Disk → Result A StoreFault → Disk → Type 0
SomeTried plan d r e = (done : List Act) × (cut : Option Act) × Tried plan d done cut r e

all_made : {A : Type 0} (plan plan' : List Act) (d e : Disk) (x : A) → plan ≡ plan' → Done d plan' e → SomeTried {A = A} plan d (Ok x) e
all_made plan plan' d e x p did = (plan, None, (refl, subst (λ (acts : List Act). Done d acts e) (sym p) did))

none_made : {A : Type 0} (plan : List Act) (d e : Disk) (x : A) → plan ≡ [] → e ≡ d → SomeTried {A = A} plan d (Ok x) e
none_made plan d e x p same = ([], None, (sym p, subst (λ (acts : List Act). Done d acts e) (sym p) same))

refused : {A : Type 0} (plan : List Act) (d e : Disk) (f : StoreFault) → plan ≡ [] → e ≡ d → SomeTried {A = A} plan d (Err f) e
refused plan d e f p same = ([], None, (p, refl, same))

cut_made : {A : Type 0} (plan plan' : List Act) (d e : Disk) (f : StoreFault) (o : ℕ) → plan ≡ plan' → f ≡ Device (Power o) → CutShort d plan' o e → SomeTried {A = A} plan d (Err f) e
cut_made plan plan' d e f o p fault short =
    let r = cut_at d e plan' o short in
    let c = r.1 in
    (r.0, Some c.act, (o, fault, record { rest = c.rest; all = c.all ∙ sym p; reached = c.reached; did = c.done; cut = c.cut }))

-- a commit

not_entered : (s : State) (number : ℕ) (flushed : Bool) → does_enter s number flushed ≡ false → commit_plan s number flushed ≡ []
not_entered s number flushed h =
    cond-false (does_enter s number flushed && flushed) (writing s (spooled s ++ own s)) [] (and_left (does_enter s number flushed) flushed h)

entered : (s : State) (number : ℕ) → does_enter s number true ≡ true → commit_plan s number true ≡ writing s (spooled s ++ own s)
entered s number h =
    cond-true (does_enter s number true && true) (writing s (spooled s ++ own s)) [] (and_from (does_enter s number true) true h refl)

not_waiting : (s : State) (number : ℕ) → commit_plan s number false ≡ []
not_waiting s number =
    cond-false (does_enter s number false && false) (writing s (spooled s ++ own s)) [] (and_right (does_enter s number false) false refl)

pub commit_tried : (number : ℕ) (flushed : Bool) (h k : Held) (r : Result (ℕ × ℕ) StoreFault) → Commits number flushed h r k → SomeTried (commit_plan h.state number flushed) h.disk r k.disk
commit_tried number flushed h k (Ok x) (fits, inl c) =
    none_made (commit_plan h.state number flushed) h.disk k.disk x (not_entered h.state number flushed (none_declared h.state number flushed c.clean)) c.device
commit_tried number true h k (Ok x) (fits, inr c) =
    all_made (commit_plan h.state number true) (writing h.state (spooled h.state ++ own h.state)) h.disk k.disk x (entered h.state number (passing h.state number true fits c.some c.passes)) c.enters.0
commit_tried number false h k (Ok x) (fits, inr c) =
    none_made (commit_plan h.state number false) h.disk k.disk x (not_waiting h.state number) c.enters.0
commit_tried number flushed h k (Err f) (inl (fits, _, same)) =
    refused (commit_plan h.state number flushed) h.disk k.disk f (not_entered h.state number flushed (token_fits h.state number flushed f fits)) same
commit_tried number flushed h k (Err f) (inr (fits, inl c)) =
    refused (commit_plan h.state number flushed) h.disk k.disk f (not_entered h.state number flushed (room_fits h.state number flushed f c.refused)) c.device
commit_tried number true h k (Err f) (inr (fits, inr c)) =
    cut_made (commit_plan h.state number true) (writing h.state (spooled h.state ++ own h.state)) h.disk k.disk f c.cut.origin
    (entered h.state number (passing h.state number true fits c.some c.passes)) c.cut.fault c.cut.cut
commit_tried number false h k (Err f) (inr (fits, inr c)) = absurd (let z : ◌≡◌ {A = Bool} false true = c.flushing in let y : ◌≡◌ {A = ℕ} 0 1 = cc in omega arith)

-- a flush of an empty spool makes no calls, and so does that of a store that is off

flush_idle : (s : State) → s.on && leb 1 (array_vec_len s.spool) ≡ false → flush_plan s ≡ []
flush_idle s h = cond-false (s.on && leb 1 (array_vec_len s.spool)) (writing s (spooled s)) [] h

flush_writes : (s : State) → s.on ≡ true → 1 ≤ array_vec_len s.spool → flush_plan s ≡ writing s (spooled s)
flush_writes s on some =
    let b = leb 1 (array_vec_len s.spool) in
    cond-true (s.on && b) (writing s (spooled s)) [] (and_from s.on b on (le-leb 1 (array_vec_len s.spool) some))

pub flush_tried : (h k : Held) (r : Result ℕ StoreFault) → Flushes h r k → SomeTried (flush_plan h.state) h.disk r k.disk
flush_tried h k (Ok j) (fits, count, inl (zero, _, same)) =
    let b = leb 1 (array_vec_len h.state.spool) in
    none_made (flush_plan h.state) h.disk k.disk j (flush_idle h.state (and_right h.state.on b (lt-leb 1 (array_vec_len h.state.spool) (omega (arith, count, zero))))) same
flush_tried h k (Ok j) (fits, count, inr (some, did, _, _, _)) =
    all_made (flush_plan h.state) (writing h.state (spooled h.state)) h.disk k.disk j (flush_writes h.state (awake h.state [] fits) (omega (arith, count, some))) did
flush_tried h k (Err f) (inl (fits, _, same)) =
    refused (flush_plan h.state) h.disk k.disk f (flush_idle h.state (and_left h.state.on (leb 1 (array_vec_len h.state.spool)) (asleep h.state f fits))) same
flush_tried h k (Err f) (inr (fits, some, c)) =
    cut_made (flush_plan h.state) (writing h.state (spooled h.state)) h.disk k.disk f c.origin (flush_writes h.state (awake h.state [] fits) some) c.fault c.cut

-- a truncation makes the calls of its plan where it writes

truncate_idle : (h : Held) → does_truncate h.state h.disk.shows ≡ false → truncate_plan h.state h.disk.shows ≡ []
truncate_idle h is = cond-false (does_truncate h.state h.disk.shows) (truncation h.state h.disk.shows) [] is

truncate_writes : (h : Held) → does_truncate h.state h.disk.shows ≡ true → truncate_plan h.state h.disk.shows ≡ truncation h.state h.disk.shows
truncate_writes h is = cond-true (does_truncate h.state h.disk.shows) (truncation h.state h.disk.shows) [] is

pub truncate_tried : (h k : Held) (r : Result ℕ StoreFault) → Truncates h r k → SomeTried (truncate_plan h.state h.disk.shows) h.disk r k.disk
truncate_tried h k (Ok j) (passes, inl c) =
    none_made (truncate_plan h.state h.disk.shows) h.disk k.disk j (truncate_idle h (idle_clean h.state h.disk c.clean)) c.device
truncate_tried h k (Ok j) (passes, inr c) =
    all_made (truncate_plan h.state h.disk.shows) (truncation h.state h.disk.shows) h.disk k.disk j (truncate_writes h (writes h.state h.disk passes c.some)) c.done
truncate_tried h k (Err f) (inl (fits, _, same)) =
    refused (truncate_plan h.state h.disk.shows) h.disk k.disk f (truncate_idle h (idle_refused h.state h.disk f fits)) same
truncate_tried h k (Err f) (inr c) =
    cut_made (truncate_plan h.state h.disk.shows) (truncation h.state h.disk.shows) h.disk k.disk f c.origin (truncate_writes h (writes h.state h.disk c.passes c.some)) c.fault c.cut

-- a format

format_so : (d e : Disk) (r : Result (Unit {0}) StoreFault) (n : ℕ) → Divides d.plate.sectors n → SomeTried (formatting n) d r e
    → (done : List Act) × (cut : Option Act) × FormatTried d done cut r e
format_so d e r n divides (done, cut, t) = (done, cut, inl (n, divides, t))

format_failed : (d e : Disk) (f : StoreFault) (g : RecoveryFault) → f ≡ from_recovery g → Formats d (Err g) e
    → (done : List Act) × (cut : Option Act) × FormatTried d done cut (Err f) e
format_failed d e f (recovery.Device (Power o)) same (n, divides, cut) =
    format_so d e (Err f) n divides (cut_made (formatting n) (formatting n) d e f o refl same cut)
format_failed d e f (recovery.Device (Misaddressed t o)) same h = absurd h
format_failed d e f (recovery.Device Unfit) same h = absurd h
format_failed d e f (recovery.Device (Spoiled t o)) same h = absurd h
format_failed d e f (recovery.Size count) same (_, device) = ([], None, inr ((refl, refl), device))
format_failed d e f recovery.NoLog same h = absurd h
format_failed d e f (recovery.NoMark low) same h = absurd h
format_failed d e f (recovery.Uncovered page) same h = absurd h

pub format_tried : (d : Disk) (k : Held) (r : Result (Unit {0}) StoreFault) → Formatted d r k → (done : List Act) × (cut : Option Act) × FormatTried d done cut r k.disk
format_tried d k (Ok u) (n, (divides, did), _) = format_so d k.disk (Ok u) n divides (all_made (formatting n) (formatting n) d k.disk u refl did)
format_tried d k (Err f) (g, same, h, _) = format_failed d k.disk f g same h

-- an opening

abbrev SomeOpening : Disk → Result (ℕ × ℕ) StoreFault → Held → Type 0
SomeOpening d r k = (done : List Act) × (cut : Option Act) × OpeningTried d done cut r k

-- refused before it restarts the device, or after
left_alone : (d : Disk) (f : StoreFault) (k : Held) → k.disk ≡ d → SomeOpening d (Err f) k
left_alone d f k same = ([], None, inl (refl, same))

looked_only : (d m : Disk) (f : StoreFault) (k : Held) → Restarted d m → k.disk ≡ m → SomeOpening d (Err f) k
looked_only d m f k restart same =
    (restarted ∷ [], None, inr (subst (λ (x : Disk). Restarted d x) (sym same) restart, 0, refl))

-- cut in its restart, while it looks, or while it clears
in_restart : (d : Disk) (o : ℕ) (k : Held) → SomeOpening d (Err (Device (Power o))) k
in_restart d o k = ([], Some restarted, (o, refl, inl (refl, refl)))

in_looking : (d m : Disk) (o : ℕ) (k : Held) → Restarted d m → Failed m o k.disk → SomeOpening d (Err (Device (Power o))) k
in_looking d m o k restart failed =
    (restarted ∷ [], Some looked, (o, refl, inr (m, restart, 1, 0, 0, [], refl, record { rest = clearing 0 m.shows 0; all = refl; reached = m; did = refl; cut = failed })))

in_clearing : (n : ℕ) (d m : Disk) (o : ℕ) (k : Held) → Restarted d m → CutClearing n m o k.disk → SomeOpening d (Err (Device (Power o))) k
in_clearing n d m o k restart w =
    let r = cut_at m k.disk (clearing n m.shows w.c) o w.cut in
    let c = r.1 in
    (restarted ∷ r.0, Some c.act, (o, refl, inr (m, restart, 0, n, w.c, r.0, refl, record { rest = c.rest; all = c.all; reached = c.reached; did = c.done; cut = c.cut })))

restart_failed : (d : Disk) (k : Held) (g : RecoveryFault) → NoRestart {A = Survey × ℕ} d (Err g) k.disk → SomeOpening d (Err (from_recovery g)) k
restart_failed d k (recovery.Device (Power o)) h = in_restart d o k
restart_failed d k (recovery.Device (Misaddressed t o)) h = absurd h
restart_failed d k (recovery.Device Unfit) h = absurd h
restart_failed d k (recovery.Device (Spoiled t o)) h = absurd h
restart_failed d k (recovery.Size count) h = absurd h
restart_failed d k recovery.NoLog h = absurd h
restart_failed d k (recovery.NoMark low) h = absurd h
restart_failed d k (recovery.Uncovered page) h = absurd h

recovery_failed : (n : ℕ) (d m : Disk) (k : Held) (memory : List ℕ) (g : RecoveryFault) → Restarted d m → Recovers n m (Err g) k.disk memory → SomeOpening d (Err (from_recovery g)) k
recovery_failed n d m k memory (recovery.Device (Power o)) restart h =
    ⊎_elim (λ f. in_looking d m o k restart f) (λ w. in_clearing n d m o k restart w) h
recovery_failed n d m k memory (recovery.Device (Misaddressed t o)) restart h = absurd h
recovery_failed n d m k memory (recovery.Device Unfit) restart h = absurd h
recovery_failed n d m k memory (recovery.Device (Spoiled t o)) restart h = absurd h
recovery_failed n d m k memory (recovery.Size count) restart h = looked_only d m (from_recovery (recovery.Size count)) k restart h.0
recovery_failed n d m k memory recovery.NoLog restart h = looked_only d m (from_recovery recovery.NoLog) k restart h.0
recovery_failed n d m k memory (recovery.NoMark low) restart h = looked_only d m (from_recovery (recovery.NoMark low)) k restart h.0
recovery_failed n d m k memory (recovery.Uncovered page) restart h = looked_only d m (from_recovery (recovery.Uncovered page)) k restart h.0

opening_failed : (d : Disk) (k : Held) (memory : List ℕ) (g : RecoveryFault) → Opens d (Err g) k.disk memory → SomeOpening d (Err (from_recovery g)) k
opening_failed d k memory g (inl (_, _, _, same)) = left_alone d (from_recovery g) k same
opening_failed d k memory g (inr (n, _, inl h)) = restart_failed d k g h
opening_failed d k memory g (inr (n, _, inr (m, restart, h))) = recovery_failed n d m k memory g restart h

pub opening_tried : (d : Disk) (k : Held) (r : Result (ℕ × ℕ) StoreFault) → Opened d r k → SomeOpening d r k
opening_tried d k (Ok x) o = (restarted ∷ clearing o.places o.restarted.shows k.state.log.last, None, (o, 0, refl))
opening_tried d k (Err f) (g, memory, same, h, _) =
    subst (λ (x : StoreFault). SomeOpening d (Err x) k) (sym same) (opening_failed d k memory g h)
