-- A log of 160 places in which 80 records live.
use Rattle.std.proofs.Common.{◌≡◌, ℕ, ◌+◌, ◌-◌, ◌^◌, ◌<◌, Bool, true, false, List, [], ◌∷◌, ◌++◌, length, Some, None, Ok, Err, Option, Result, sym, refl, ap, ◌∙◌, inl, inr, arith}
use Rattle.std.proofs.lemmas.Bool.{lt-ltb, le-ltb}
use Rattle.std.proofs.lemmas.List.{length-append}
use Rattle.arrayvec.specs.ArrayVec.{array_vec_len}
use Rattle.device.specs.Disk.{Disk}
use Rattle.image.specs.declared.run.Run.{Run}
use Rattle.image.specs.Calls.{declared}
use Rattle.image.specs.Cut.{cut_runs}
use Rattle.transactions.specs.declared.fault.StoreFault.{StoreFault}
use Rattle.transactions.specs.declared.fault.StoreFault.TheVariants.{Full}
use Rattle.transactions.specs.declared.log.Log.{Log}
use Rattle.transactions.specs.declared.state.State.{State}
use Rattle.transactions.specs.Calls.{Commits, CommitsParts, Undone}
use Rattle.transactions.specs.Parts.{parts}
use Rattle.transactions.specs.Fault.{number, values}
use Rattle.transactions.specs.Rows.{Row, first_fit, Refuses, token_rows, commit_rows}
use Rattle.transactions.specs.State.{live, own, spooled}
use Rattle.transactions.proofs.Loops.{length_waiting}
use Rattle.edges.specs.Room.{Eighty, FifteenPass, OneMore, ThenFull}
use Rattle.transactions.proofs.Faults.{same_refusal}
use Rattle.edges.proofs.Ranges.{not_both}

-- With what waits, this many records live, and so many serials are used.
record Crowd (s : State) (records serials : ℕ) : Type 0 where
  places : s.log.places ≡ 160
  lives : live s + array_vec_len s.spool ≡ records
  serials_are : s.log.last + array_vec_len s.spool ≡ serials

pub fifteen_pass : FifteenPass
fifteen_pass s true h =
    let a = le-ltb (2 ^ 63 - 1) (s.log.last + array_vec_len s.spool + 15 + 65) (omega (arith, h.serials, h.empty)) in
    let b = le-ltb (s.log.places - 65) (live s + array_vec_len s.spool + 15) (omega (arith, h.places, h.eighty, h.empty)) in
    rw (a, b) refl
fifteen_pass s false h =
    let a = le-ltb (2 ^ 63 - 1) (s.log.last + array_vec_len s.spool + 15 + 65) (omega (arith, h.serials, h.empty)) in
    let b = le-ltb (s.log.places - 65) (live s + array_vec_len s.spool + 15) (omega (arith, h.places, h.eighty, h.empty)) in
    let c = le-ltb 32 (array_vec_len s.spool + 15) (omega (arith, h.empty)) in
    rw (a, b, c) refl

-- where 95 live, there is no room for one more
one_too_many : (t : State) (serials : ℕ) (flush : Bool) → Crowd t 95 serials → serials + 66 < 2 ^ 63 → Refuses (commit_rows t 1 flush) (Full 1)
one_too_many t serials flush h far =
    let a = le-ltb (2 ^ 63 - 1) (t.log.last + array_vec_len t.spool + 1 + 65) (omega (arith, far, h.serials_are)) in
    let b = lt-ltb (t.log.places - 65) (live t + array_vec_len t.spool + 1) (omega (arith, h.places, h.lives)) in
    let one : live t + array_vec_len t.spool + 1 - (t.log.places - 65) ≡ 1 = omega (arith, h.places, h.lives) in
    rw (a, b) (ap (λ (k : ℕ). let x : ℕ × List ℕ = (15, k ∷ []) in Some x) one)

-- where nothing is declared, the transaction would become no record
own_none : (s : State) → declared s.image ≡ [] → length (own s) ≡ 0
own_none s e = ap (λ (rs : List Run). length (parts (s.log.ordinal + 1) s.image.memory (cut_runs rs))) e

-- what a commit of 15 records leaves
after_fifteen : (s s' : State) (d e : Disk) (flush : Bool) (x : ℕ × ℕ) → Eighty s → length (own s) ≡ 15 → CommitsParts s d flush x s' e → Crowd s' 95 (s.log.last + 15)
after_fifteen s s' d e true x h own_is c =
    let w = c.enters.1 in
    let long : length (spooled s ++ own s) ≡ 15 = omega (arith, length-append (spooled s) (own s), length_waiting s.spool, h.empty, own_is) in
    record {
      places = w.log.places_is ∙ h.places;
      lives = omega (arith, w.log.last_is, w.log.low_is, w.empty, h.eighty, long);
      serials_are = omega (arith, w.log.last_is, w.empty, long);
    }
after_fifteen s s' d e false x h own_is c =
    let w = c.enters.1 in
    let long : array_vec_len s'.spool ≡ 15 =
    omega (arith, length_waiting s'.spool, ap length w.waits, length-append (spooled s) (own s), length_waiting s.spool, h.empty, own_is) in
    record {
      places = w.log.places_is ∙ h.places;
      lives = omega (arith, w.log.last_is, w.log.low_is, h.eighty, long);
      serials_are = omega (arith, w.log.last_is, long);
    }

-- and so it stands when one more is to be committed
same_crowd : (t s : State) (token records serials : ℕ) → OneMore t s token → Crowd s records serials → Crowd t records serials
same_crowd t s token records serials one c =
    let log = one.log in
    let wait = ap array_vec_len one.spool in
    record {
      places = ap (λ (l : Log). l.places) log ∙ c.places;
      lives = ap (λ (l : Log). l.last + 1 - l.low + array_vec_len t.spool) log ∙ ap (λ (k : ℕ). live s + k) wait ∙ c.lives;
      serials_are = ap (λ (l : Log). l.last + array_vec_len t.spool) log ∙ ap (λ (k : ℕ). s.log.last + k) wait ∙ c.serials_are;
    }

same_fault : (rows : List Row) (f g : StoreFault) → Refuses rows f → Refuses rows g → f ≡ g
same_fault rows f g h k =
    let one : ℕ × List ℕ = (number f, values f) in
    let both = ap (λ (o : Option (ℕ × List ℕ)). told one o) (sym h ∙ k) in
    same_refusal f g (ap (λ (x : ℕ × List ℕ). x.0) both, ap (λ (x : ℕ × List ℕ). x.1) both)
  where
    told : ℕ × List ℕ → Option (ℕ × List ℕ) → ℕ × List ℕ
    told other None = other
    told other (Some x) = x

-- a commit that finds no room is refused
refused : (t t' : State) (d e : Disk) (token : ℕ) (flush : Bool) (r : Result (ℕ × ℕ) StoreFault) → first_fit (token_rows t token) ≡ None → length (own t) ≡ 1 → Refuses (commit_rows t 1 flush) (Full 1) → Commits t d token flush r t' e → (r ≡ Err (Full 1)) × Undone t t' × (e ≡ d)
refused t t' d e token flush (Ok x) fits one row (_, inl c) = absurd (omega (arith, one, own_none t c.clean))
refused t t' d e token flush (Ok x) fits one row (_, inr c) =
    absurd (not_both (first_fit (commit_rows t (length (own t)) flush)) _ c.passes (ap (λ (k : ℕ). first_fit (commit_rows t k flush)) one ∙ row))
refused t t' d e token flush (Err f) fits one row (inl (h, same, there)) = absurd (not_both (first_fit (token_rows t token)) _ fits h)
refused t t' d e token flush (Err f) fits one row (inr (_, inl c)) =
    let fault = same_fault (commit_rows t (length (own t)) flush) f (Full 1) c.refused (ap (λ (k : ℕ). first_fit (commit_rows t k flush)) one ∙ row) in
    (ap Err fault, c.state, c.device)
refused t t' d e token flush (Err f) fits one row (inr (_, inr c)) =
    absurd (not_both (first_fit (commit_rows t (length (own t)) flush)) _ c.passes (ap (λ (k : ℕ). first_fit (commit_rows t k flush)) one ∙ row))

then_refused : (s s' t t' : State) (d d' e e' : Disk) (token next : ℕ) (flush again : Bool) (x : ℕ × ℕ) (r : Result (ℕ × ℕ) StoreFault) → Eighty s → length (own s) ≡ 15 → Commits s d token flush (Ok x) s' e → OneMore t s' next → Commits t d' next again r t' e' → (r ≡ Err (Full 1)) × Undone t t' × (e' ≡ d')
then_refused s s' t t' d d' e e' token next flush again x r h fifteen (_, inl c) one k = absurd (omega (arith, fifteen, own_none s c.clean))
then_refused s s' t t' d d' e e' token next flush again x r h fifteen (_, inr c) one k =
    let crowd = same_crowd t s' next 95 (s.log.last + 15) one (after_fifteen s s' d e flush x h fifteen c) in
    refused t t' d' e' next again r one.fits one.one (one_too_many t (s.log.last + 15) again crowd (omega (arith, h.serials))) k

pub then_full : ThenFull
then_full = record { row = refl; refused = then_refused }
