-- What each call of a ledger did below, told from its relation.
use Rattle.std.proofs.Common.{ℕ, Bool, true, List, [], ◌∷◌, ◌++◌, Ok, Err, Result, refl, inl, inr}
use Rattle.device.specs.Disk.{Disk}
use Rattle.transactions.specs.declared.fault.StoreFault.{StoreFault}
use Rattle.transactions.specs.Held as held
use Rattle.law.specs.Events as store
use Rattle.law.proofs.Tracing.{commit_tried, flush_tried, truncate_tried, format_tried, opening_tried}
use Rattle.book.specs.declared.fault.LedgerFault.{LedgerFault}
use Rattle.book.specs.Edits.{Edit, make_edits}
use Rattle.changes.specs.Changes.{Changes}
use Rattle.ledger.specs.Sound.{Held}
use Rattle.ledger.specs.Calls.{Change, OnBook, Makes, Opens, Flushes, Truncates}
use Rattle.ledger_law.specs.Below.{event, changing, Does, One}
use Rattle.ledger_law.specs.Events.{DidMake, DidOpen, DidChange, DidOnStore}

does : (h k : held.Held) (xs : List Edit) (flushed : Bool) (r : Result (ℕ × ℕ) StoreFault) (c : Changes h xs flushed r k) → (did : List store.Event) × Does h xs flushed r k c did
does h k xs flushed r c =
    let t = commit_tried c.token.number flushed c.prepared k r c.commits in
    (changing h xs flushed r k c t.0 t.1, record { done = t.0; cut = t.1; events = refl; commits = (c.commits, t.2) })

formats : (d : Disk) (k : held.Held) (r : Result (Unit {0}) StoreFault) → held.Formatted d r k → (did : List store.Event) × One (store.format r) (store.closed d) did (store.working k)
formats d k r f =
    let t = format_tried d k r f in
    (event (store.format r) (store.closed d) t.0 t.1 (store.working k) ∷ [], record { done = t.0; cut = t.1; event = refl; happens = (f, t.2) })

opens : (d : Disk) (k : held.Held) (r : Result (ℕ × ℕ) StoreFault) → held.Opened d r k → (did : List store.Event) × One (store.opening r) (store.closed d) did (store.working k)
opens d k r o =
    let t = opening_tried d k r o in
    (event (store.opening r) (store.closed d) t.0 t.1 (store.working k) ∷ [], record { done = t.0; cut = t.1; event = refl; happens = (o, t.2) })

pub did_make : (d : Disk) (r : Result (Unit {0}) LedgerFault) (k : Held) (m : Makes d r k) → (did : List store.Event) × DidMake d r k m did
did_make d (Ok u) k (fit, linked, holds) =
    let first = formats d linked.formatted (Ok tt) linked.format in
    let rest = does linked.formatted k.store make_edits true (Ok (1, 52)) linked.changes in
    (first.0 ++ rest.0, (first.0, rest.0, refl, first.1, rest.1))
did_make d (Err f) k (off, (g, is, inl formatted)) = formats d k.store (Err g) formatted
did_make d (Err f) k (off, (g, is, inr (power, linked))) =
    let first = formats d linked.formatted (Ok tt) linked.format in
    let rest = does linked.formatted k.store make_edits true (Err g) linked.changes in
    (first.0 ++ rest.0, (first.0, rest.0, refl, first.1, rest.1))

pub did_open : (d : Disk) (r : Result (ℕ × ℕ) LedgerFault) (k : Held) (m : Opens d r k) → (did : List store.Event) × DidOpen d r k m did
did_open d (Ok x) k (fit, opened, book) = opens d k.store (Ok x) opened
did_open d (Err f) k (off, inl (g, is, opened)) = opens d k.store (Err g) opened
did_open d (Err f) k (off, inr none) = opens d k.store (Ok none.found) none.store

pub did_change : {A : Type 0} (c : Change) (answers : Result (ℕ × ℕ) StoreFault → Result A LedgerFault → Type 0) (flushed : Bool) (h : Held) (r : Result A LedgerFault) (k : Held) (m : OnBook c answers flushed h r k)
    → (did : List store.Event) × DidChange c answers flushed h r k m did
did_change c answers flushed h r k (inl asleep) = ([], refl)
did_change c answers flushed h r k (inr (inl refused)) = ([], refl)
did_change c answers flushed h r k (inr (inr (x, told, m))) = does h.store k.store m.made flushed x m.changes

pub did_flush : (h : Held) (r : Result ℕ LedgerFault) (k : Held) (m : Flushes h r k) → (did : List store.Event) × DidOnStore held.Flushes store.flush h r k m did
did_flush h r k (inl asleep) = ([], refl)
did_flush h r k (inr (on, fit, (x, told, f))) =
    let t = flush_tried h.store k.store x f in
    (event (store.flush x) (store.working h.store) t.0 t.1 (store.working k.store) ∷ [], record { done = t.0; cut = t.1; event = refl; happens = (f, t.2) })

pub did_truncate : (h : Held) (r : Result ℕ LedgerFault) (k : Held) (m : Truncates h r k) → (did : List store.Event) × DidOnStore held.Truncates store.truncate h r k m did
did_truncate h r k (inl asleep) = ([], refl)
did_truncate h r k (inr (on, fit, (x, told, f))) =
    let t = truncate_tried h.store k.store x f in
    (event (store.truncate x) (store.working h.store) t.0 t.1 (store.working k.store) ∷ [], record { done = t.0; cut = t.1; event = refl; happens = (f, t.2) })
