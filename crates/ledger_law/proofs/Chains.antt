-- What a run of a ledger does below is a run of the store.
use Rattle.std.proofs.Common.{◌≡◌, ℕ, Bool, true, List, [], ◌∷◌, ◌++◌, Ok, Err, Result, refl, sym, ap, subst, inl, inr}
use Rattle.device.specs.Disk.{Disk}
use Rattle.transactions.specs.declared.fault.StoreFault.{StoreFault}
use Rattle.transactions.specs.Held as held
use Rattle.law.specs.Events as store
use Rattle.book.specs.declared.fault.LedgerFault.{LedgerFault}
use Rattle.book.specs.Edits.{Edit, make_edits}
use Rattle.changes.specs.Changes.{PutIn, Changes}
use Rattle.ledger.specs.Sound.{Held}
use Rattle.ledger.specs.Calls.{Change, OnBook, Makes, Opens, OnStore, issuing, moving, visiting, enrolling, dropping, collecting, ByOrdinal, WithFront}
use Rattle.ledger_law.specs.Below.{event, putting, Does, One}
use Rattle.ledger_law.specs.Events.{Moment, working, closed, below, Call, make, opening, close, issue, move, visit, enrol, drop_tag, collect, find, balance, flush, truncate, Event, DidMake, DidOpen, DidChange, DidOnStore, Happens, Chain, all_did}
use Rattle.ledger_law.specs.Law.{RunsBelow}

pub chain_append : (m n l : store.Moment) (xs ys : List store.Event) → store.Chain m xs n → store.Chain n ys l → store.Chain m (xs ++ ys) l
chain_append m n l [] ys same b = subst (λ (x : store.Moment). store.Chain x ys l) same b
chain_append m n l (x ∷ xs) ys (is, happens, rest) b = (is, happens, chain_append x.after n l xs ys rest b)

put_chain : (number : ℕ) (xs : List Edit) (h k : held.Held) (p : PutIn number xs h k) → store.Chain (store.working h) (putting number xs h k p) (store.working k)
put_chain number [] h k same = ap store.working same
put_chain number (x ∷ xs) h k (set, put, declares, writes, rest) =
    (refl, (declares, (refl, refl)), (refl, (writes, (refl, refl)), put_chain number xs put k rest))

does_chain : (h k : held.Held) (xs : List Edit) (flushed : Bool) (r : Result (ℕ × ℕ) StoreFault) (c : Changes h xs flushed r k) (did : List store.Event) → Does h xs flushed r k c did → store.Chain (store.working h) did (store.working k)
does_chain h k xs flushed r c did d =
    subst (λ (es : List store.Event). store.Chain (store.working h) es (store.working k)) (sym d.events) (
      refl,
      (c.begins, (refl, refl)),
      chain_append (store.working c.begun) (store.working c.prepared) (store.working k) (putting c.token.number xs c.begun c.prepared c.puts)
          (event (store.commit c.token.number flushed r) (store.working c.prepared) d.done d.cut (store.working k) ∷ [])
          (put_chain c.token.number xs c.begun c.prepared c.puts)
          (refl, d.commits, refl),
    )

one_chain : (call : store.Call) (m m' : store.Moment) (did : List store.Event) → One call m did m' → store.Chain m did m'
one_chain call m m' did o = subst (λ (es : List store.Event). store.Chain m es m') (sym o.event) (refl, o.happens, refl)

none_chain : (m m' : store.Moment) (did : List store.Event) → m' ≡ m → did ≡ [] → store.Chain m did m'
none_chain m m' did same none = subst (λ (es : List store.Event). store.Chain m es m') (sym none) same

two_chain : (m n l : store.Moment) (did first rest : List store.Event) → did ≡ first ++ rest → store.Chain m first n → store.Chain n rest l → store.Chain m did l
two_chain m n l did first rest is a b = subst (λ (es : List store.Event). store.Chain m es l) (sym is) (chain_append m n l first rest a b)

make_chain : (d : Disk) (r : Result (Unit {0}) LedgerFault) (k : Held) (m : Makes d r k) (did : List store.Event) → DidMake d r k m did → store.Chain (store.closed d) did (store.working k.store)
make_chain d (Ok u) k (fit, linked, holds) did (first, rest, is, formats, does) =
    two_chain (store.closed d) (store.working linked.formatted) (store.working k.store) did first rest is
    (one_chain (store.format (Ok tt)) (store.closed d) (store.working linked.formatted) first formats)
    (does_chain linked.formatted k.store make_edits true (Ok (1, 52)) linked.changes rest does)
make_chain d (Err f) k (off, (g, is, inl formatted)) did formats = one_chain (store.format (Err g)) (store.closed d) (store.working k.store) did formats
make_chain d (Err f) k (off, (g, same, inr (power, linked))) did (first, rest, is, formats, does) =
    two_chain (store.closed d) (store.working linked.formatted) (store.working k.store) did first rest is
    (one_chain (store.format (Ok tt)) (store.closed d) (store.working linked.formatted) first formats)
    (does_chain linked.formatted k.store make_edits true (Err g) linked.changes rest does)

open_chain : (d : Disk) (r : Result (ℕ × ℕ) LedgerFault) (k : Held) (m : Opens d r k) (did : List store.Event) → DidOpen d r k m did → store.Chain (store.closed d) did (store.working k.store)
open_chain d (Ok x) k opens did one = one_chain (store.opening (Ok x)) (store.closed d) (store.working k.store) did one
open_chain d (Err f) k (off, inl (g, is, opened)) did one = one_chain (store.opening (Err g)) (store.closed d) (store.working k.store) did one
open_chain d (Err f) k (off, inr none) did one = one_chain (store.opening (Ok none.found)) (store.closed d) (store.working k.store) did one

change_chain : {A : Type 0} (c : Change) (answers : Result (ℕ × ℕ) StoreFault → Result A LedgerFault → Type 0) (flushed : Bool) (h : Held) (r : Result A LedgerFault) (k : Held) (m : OnBook c answers flushed h r k) (did : List store.Event)
    → DidChange c answers flushed h r k m did → store.Chain (store.working h.store) did (store.working k.store)
change_chain c answers flushed h r k (inl asleep) did none = none_chain (store.working h.store) (store.working k.store) did (ap (λ (x : Held). store.working x.store) asleep.same) none
change_chain c answers flushed h r k (inr (inl (f, is, refused))) did none = none_chain (store.working h.store) (store.working k.store) did (ap (λ (x : Held). store.working x.store) refused.same) none
change_chain c answers flushed h r k (inr (inr (x, told, m))) did does = does_chain h.store k.store m.made flushed x m.changes did does

store_chain : {A : Type 0} (does : held.Held → Result A StoreFault → held.Held → Type 0) (call : Result A StoreFault → store.Call) (h : Held) (r : Result A LedgerFault) (k : Held) (m : OnStore does h r k) (did : List store.Event)
    → DidOnStore does call h r k m did → store.Chain (store.working h.store) did (store.working k.store)
store_chain does call h r k (inl asleep) did none = none_chain (store.working h.store) (store.working k.store) did (ap (λ (x : Held). store.working x.store) asleep.same) none
store_chain does call h r k (inr (on, fit, (x, told, done))) did one = one_chain (call x) (store.working h.store) (store.working k.store) did one

pub happens_chain : (call : Call) (m : Moment) (did : List store.Event) (m' : Moment) → Happens call m did m' → store.Chain (below m) did (below m')
happens_chain (make r) (closed d) did (working k) (m, does) = make_chain d r k m did does
happens_chain (opening r) (closed d) did (working k) (m, does) = open_chain d r k m did does
happens_chain close (working h) did (closed e) (is, one) = one_chain store.close (store.working h.store) (store.closed e) did one
happens_chain (issue a amount flushed r) (working h) did (working k) (m, does) = change_chain (issuing a amount) ByOrdinal flushed h r k m did does
happens_chain (move payer payee amount flushed r) (working h) did (working k) (m, does) = change_chain (moving payer payee amount) ByOrdinal flushed h r k m did does
happens_chain (visit id guard flushed r) (working h) did (working k) (m, does) = change_chain (visiting id guard) ByOrdinal flushed h r k m did does
happens_chain (enrol id a flushed r) (working h) did (working k) (eight, m, does) = change_chain (enrolling id a) ByOrdinal flushed h r k m did does
happens_chain (drop_tag id flushed r) (working h) did (working k) (m, does) = change_chain (dropping id) ByOrdinal flushed h r k m did does
happens_chain (collect a flushed r) (working h) did (working k) (m, does) = change_chain (collecting a) (WithFront a h) flushed h r k m did does
happens_chain (find id r) (working h) did (working k) (finds, same, none) = none_chain (store.working h.store) (store.working k.store) did (ap (λ (x : Held). store.working x.store) same) none
happens_chain (balance a r) (working h) did (working k) (tells, same, none) = none_chain (store.working h.store) (store.working k.store) did (ap (λ (x : Held). store.working x.store) same) none
happens_chain (flush r) (working h) did (working k) (m, does) = store_chain held.Flushes store.flush h r k m did does
happens_chain (truncate r) (working h) did (working k) (m, does) = store_chain held.Truncates store.truncate h r k m did does
happens_chain call m did m' h = absurd h

pub runs_below : RunsBelow
runs_below m [] m' same = ap below same
runs_below m (e ∷ es) m' (is, happens, rest) =
    subst (λ (x : Moment). store.Chain (below x) (e.did ++ all_did es) (below m')) is
    (chain_append (below e.before) (below e.after) (below m') e.did (all_did es) (happens_chain e.call e.before e.did e.after happens) (runs_below e.after es m' rest))
