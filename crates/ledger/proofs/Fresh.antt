-- A new ledger: the cells of a formatted store are linked by 52 records, and none of the store's rows fits.
use Rattle.std.proofs.Common.{◌≡◌, ℕ, ◌+◌, ◌-◌, ◌<◌, ◌≤◌, true, false, List, [], ◌∷◌, length, get_or, replicate, None, Some, Ok, Err, Result, sym, refl, ap, ◌∙◌, subst, inl, inr, ⊎_elim, arith}
use Rattle.std.proofs.Math.Path.{fun_ext}
use Rattle.std.specs.Result.{is_ok}
use Rattle.std.proofs.lemmas.Bool.{le-ltb, cases_lt}
use Rattle.std.proofs.lemmas.List.{get_or-replicate, get_or_past, length-replicate}
use Rattle.arrayvec.specs.ArrayVec.{array_vec_len}
use Rattle.device.specs.Disk.{Disk}
use Rattle.image.specs.declared.run.Run.{Run}
use Rattle.image.specs.Runs.{run, joined}
use Rattle.image.specs.Calls.{declared}
use Rattle.image.specs.Cut.{cut, cut_runs}
use Rattle.transactions.specs.declared.fault.StoreFault.{StoreFault}
use Rattle.transactions.specs.declared.log.Log.{Log}
use Rattle.transactions.specs.declared.state.State.{State}
use Rattle.transactions.specs.Parts.{Spool}
use Rattle.transactions.specs.Rows.{first_fit, Refuses, begin_rows, token_rows, commit_rows}
use Rattle.transactions.specs.State.{Fresh, own}
use Rattle.transactions.specs.Held.{Held, Formatted}
use Rattle.transactions.proofs.Loops.{length_parts}
use Rattle.record.specs.Fields.{digits}
use Rattle.book.specs.Layout.{byte_in}
use Rattle.book.specs.Edits.{make_edits, declaring, after_edits}
use Rattle.book.proofs.Making.{free_chain_length, make_holds}
use Rattle.changes.specs.Changes.{Prepared, Changes}
use Rattle.changes.proofs.Patches.{some_none}
use Rattle.book.specs.declared.fault.LedgerFault.{LedgerFault}
use Rattle.book.specs.declared.fault.LedgerFault.TheVariants.{Store}
use Rattle.book.specs.Fault.{number}
use Rattle.book.specs.Book.{Holds, new_book}
use Rattle.ledger.specs.Sound.{HoldsBook, on_store, Sound}
use Rattle.ledger.specs.Calls.{Makes}
use Rattle.ledger.specs.Steps.{Links}
use Rattle.ledger.proofs.Standing.{Committed, committed, own_token, done_changes, holds_after, off_stands}

-- the two runs of a new ledger become 52 records
pub make_runs : declaring make_edits [] ≡ run 8 10 ∷ run 1072 5872 ∷ []
unfolding digits
make_runs = ap (λ (n : ℕ). joined 1072 (1072 + n) (joined 8 10 [])) (free_chain_length 1 200)

pub make_pieces : length (cut_runs (run 8 10 ∷ run 1072 5872 ∷ [])) ≡ 52
unfolding cut
make_pieces = refl

pub make_records : (s p : State) → Prepared s make_edits p → length (own p) ≡ 52
make_records s p made =
    length_parts (p.log.ordinal + 1) p.image.memory (cut_runs (declared p.image))
    ∙ ap (λ (rs : List Run). length (cut_runs rs)) (made.runs ∙ make_runs) ∙ make_pieces

-- a store that was just formatted has room for them
room : (n : ℕ) (s p : State) (k : ℕ) → Fresh n s → Prepared s make_edits p → k ≡ 52 → first_fit (commit_rows p k true) ≡ None
room n s p k new made e =
    let log = made.log in
    let last = ap (λ (l : Log). l.last) log ∙ new.log.last_is in
    let low = ap (λ (l : Log). l.low) log ∙ new.log.low_is in
    let empty = ap (λ (x : Spool). array_vec_len x) made.spool ∙ new.idle.empty in
    let least = p.log.least in
    rw (e, last, low, empty, le-ltb (p.log.places - 65) 53 (omega arith)) refl

pub make_room : (n : ℕ) (s p : State) → Fresh n s → Prepared s make_edits p → first_fit (commit_rows p (length (own p)) true) ≡ None
make_room n s p new made = room n s p (length (own p)) new made (make_records s p made)

-- the memory of a formatted store is zeros
abbrev pub zeros : ℕ → ℕ
zeros i = 0

pub blank_memory : (n : ℕ) (s : State) → Fresh n s → byte_in s.image.memory ≡ zeros
blank_memory n s new =
    fun_ext (λ i. ap (λ (m : List ℕ). get_or m i 0) new.memory ∙ zero_at i)
  where
    zero_at : (i : ℕ) → get_or (replicate {A = ℕ} 6144 0) i 0 ≡ 0
    zero_at i =
        ⊎_elim
        (λ (k : i < 6144). get_or-replicate 6144 i 0 0 k)
        (λ (k : 6144 ≤ i). get_or_past (replicate {A = ℕ} 6144 0) i 0 (subst (λ (m : ℕ). m ≤ i) (sym (length-replicate {A = ℕ} 6144 0)) k))
        (cases_lt i 6144)

-- what was formatted may begin
may_begin : (s : State) (f : StoreFault) → s.on ≡ true → s.busy ≡ false → Refuses (begin_rows s) f → ⊥
may_begin s f on free fits = some_none (first_fit (begin_rows s)) _ (rw (on, free) refl) fits

make_answer : (new k : Held) (n : ℕ) (x : ℕ × ℕ) → Fresh n new.state → Committed new.state new.disk make_edits true (Ok x) k.state k.disk → x ≡ (1, 52)
make_answer new k n x fresh (p, made, (fits, inl none)) =
    let a = ap (λ (rs : List Run). length rs) (made.runs ∙ make_runs) in
    let b = ap (λ (rs : List Run). length rs) none.clean in
    absurd (omega (arith, a, b))
make_answer new k n x fresh (p, made, (fits, inr parts)) =
    parts.answer
    ∙ ap (λ (o : ℕ). (o + 1, length (own p))) (ap (λ (l : Log). l.ordinal) made.log ∙ fresh.log.ordinal_is)
    ∙ ap (λ (k : ℕ). (1, k)) (make_records new.state p made)

make_power : (new k : Held) (n : ℕ) (f : StoreFault) → Fresh n new.state → Committed new.state new.disk make_edits true (Err f) k.state k.disk → number (Store f) ≡ 1
make_power new k n f fresh (p, made, inl (fits, same, device)) = absurd (some_none (first_fit (token_rows p (new.state.log.ordinal + 1))) _ (own_token new.state p make_edits made) fits)
make_power new k n f fresh (p, made, inr (fits, inl refused)) =
    absurd (some_none (first_fit (commit_rows p (length (own p)) true)) _ (make_room n new.state p fresh made) refused.refused)
make_power new k n f fresh (p, made, inr (fits, inr cut)) = ap (λ (g : StoreFault). number (Store g)) cut.cut.fault

new_holds : (new k : Held) (n : ℕ) (x : ℕ × ℕ) → Fresh n new.state → Changes new make_edits true (Ok x) k → HoldsBook k.state new_book
new_holds new k n x fresh c =
    holds_after new.state k.state make_edits new_book (done_changes new.state k.state new.disk k.disk make_edits true x (committed new k make_edits true (Ok x) c))
    (subst (λ (f : ℕ → ℕ). Holds (after_edits make_edits f) new_book) (sym (blank_memory n new.state fresh)) make_holds)

pub makes : (d : Disk) (new k : Held) (formatted : Result (Unit {0}) StoreFault) (r : Result (Unit {0}) LedgerFault)
    → Formatted d formatted new → Links formatted new r k → Makes d r (on_store (is_ok r) k)
makes d new k (Err f) r format (is, same) =
    subst (λ (x : Result (Unit {0}) LedgerFault). Makes d x (on_store (is_ok x) k)) (sym is)
    (refl, (f, refl, inl (subst (Formatted d (Err f)) (sym same) format)))
makes d new k (Ok u) (Ok v) (n, formats, fresh) (x, inl (f, fits, is, same)) = absurd (may_begin new.state f fresh.on fresh.idle.free fits)
makes d new k (Ok u) (Ok v) (n, formats, fresh) (x, inr (fits, change)) =
    let c = change fresh.idle.clean in
    let same = make_answer new k n x fresh (committed new k make_edits true (Ok x) c) in (
      refl,
      record { formatted = new; format = (n, formats, fresh); changes = subst (λ (y : ℕ × ℕ). Changes new make_edits true (Ok y) k) same c },
      new_holds new k n x fresh c,
    )
makes d new k (Ok u) (Err f) (n, formats, fresh) (fault, is, inl (g, fits, refusal, same)) = absurd (may_begin new.state g fresh.on fresh.idle.free fits)
makes d new k (Ok u) (Err f) (n, formats, fresh) (fault, is, inr (fits, change)) =
    let c = change fresh.idle.clean in
    let power = make_power new k n fault fresh (committed new k make_edits true (Err fault) c) in
    (refl, (fault, is, inr (ap number is ∙ power, record { formatted = new; format = (n, formats, fresh); changes = c })))

pub make_stands : (d : Disk) (new k : Held) (formatted : Result (Unit {0}) StoreFault) (r : Result (Unit {0}) LedgerFault)
    → Formatted d formatted new → Links formatted new r k → Sound (is_ok r) k.state
make_stands d new k (Err f) r format (is, same) = subst (λ (x : Result (Unit {0}) LedgerFault). Sound (is_ok x) k.state) (sym is) (off_stands false k.state refl)
make_stands d new k (Ok u) (Err f) format links = off_stands false k.state refl
make_stands d new k (Ok u) (Ok v) (n, formats, fresh) (x, inl (f, fits, is, same)) = absurd (may_begin new.state f fresh.on fresh.idle.free fits)
make_stands d new k (Ok u) (Ok v) (n, formats, fresh) (x, inr (fits, change)) =
    let c = change fresh.idle.clean in
    let done = done_changes new.state k.state new.disk k.disk make_edits true x (committed new k make_edits true (Ok x) c) in
    record { books = λ _. ∣ (new_book, new_holds new k n x fresh c) ∣₁; free = λ _. done.free; clean = λ _. done.clean }
