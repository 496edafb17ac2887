-- Each call of a script that is made is an event of the run.
use Rattle.std.proofs.Common.{◌≡◌, ℕ, Bool, true, false, MatchBool, ◌⊎◌, List, [], ◌∷◌, length, None, Option, Result, refl, sym, ap, subst, inl, inr}
use Rattle.device.specs.Disk.{Disk}
use Rattle.law.specs.Events as store
use Rattle.book.specs.declared.fault.LedgerFault.{LedgerFault}
use Rattle.book.specs.declared.records.Entry.{Entry}
use Rattle.ledger.specs.Sound.{Held}
use Rattle.ledger.specs.Calls as ledger
use Rattle.ledger_law.specs.declared.script.Call.{Call}
use Rattle.ledger_law.specs.declared.script.Call.TheVariants as script
use Rattle.ledger_law.specs.declared.script.Answer.{Answer}
use Rattle.ledger_law.specs.declared.script.Answer.TheVariants as told
use Rattle.ledger_law.specs.Below.{event}
use Rattle.ledger_law.specs.Events as events
use Rattle.ledger_law.specs.Events.{Moment, working, closed, Event, Happens, Chain}
use Rattle.ledger_law.specs.Run.{Made, NotMade, fits, MadeAs, Plays, Steps, Ended}
use Rattle.ledger_law.specs.Deeds.{Does, Starts}
use Rattle.ledger_law.proofs.Tracing.{did_make, did_open, did_change, did_flush, did_truncate}

-- what happened is made
made_now : (call : events.Call) (m : Moment) (did : List store.Event) (m' : Moment) → Happens call m did m' → (es : List Event) × Made call m es m'
made_now call m did m' h =
    (record { call = call; before = m; did = did; after = m' } ∷ [], record { did = did; happens = h; event = refl })

-- A call by another name.
pub steps_as : (call call' : Call) (m : Moment) (a : Answer) (m' : Moment) → call ≡ call' → Steps call' m a m' → Steps call m a m'
steps_as call call' m a m' is h = subst (λ (c : Call). Steps c m a m') (sym is) h

pub make_steps : (d : Disk) (r : Result (Unit {0}) LedgerFault) (k : Held) → ledger.Makes d r k → Steps script.Make (closed d) (told.Made r) (working k)
make_steps d r k m =
    let did = did_make d r k m in
    let e = made_now (events.make r) (closed d) did.0 (working k) (m, did.1) in
    (e.0, (r, refl, e.1))

pub open_steps : (d : Disk) (r : Result (ℕ × ℕ) LedgerFault) (k : Held) → ledger.Opens d r k → Steps script.Open (closed d) (told.Opened r) (working k)
open_steps d r k m =
    let did = did_open d r k m in
    let e = made_now (events.opening r) (closed d) did.0 (working k) (m, did.1) in
    (e.0, (r, refl, e.1))

closing : (h : Held) (e : Disk) → e ≡ h.store.disk → (es : List Event) × Made events.close (working h) es (closed e)
closing h e same =
    made_now events.close (working h) (event store.close (store.working h.store) [] None (store.closed e) ∷ []) (closed e)
    (same, record { done = []; cut = None; event = refl; happens = (same, (refl, refl)) })

pub close_steps : (h : Held) (e : Disk) → e ≡ h.store.disk → Steps script.Close (working h) told.Closed (closed e)
close_steps h e same = let c = closing h e same in (c.0, (refl, c.1))

pub close_ends : (h : Held) (e : Disk) → e ≡ h.store.disk → Ended (working h) e
close_ends h e same = closing h e same

-- the changing calls
pub issue_steps : (a amount : ℕ) (flushed : Bool) (h : Held) (r : Result ℕ LedgerFault) (k : Held) → ledger.Issues a amount flushed h r k → Steps (script.Issue a amount flushed) (working h) (told.Changed r) (working k)
issue_steps a amount flushed h r k m =
    let did = did_change (ledger.issuing a amount) ledger.ByOrdinal flushed h r k m in
    let e = made_now (events.issue a amount flushed r) (working h) did.0 (working k) (m, did.1) in
    (e.0, (r, refl, e.1))

pub move_steps : (payer payee amount : ℕ) (flushed : Bool) (h : Held) (r : Result ℕ LedgerFault) (k : Held) → ledger.Moves payer payee amount flushed h r k
    → Steps (script.Move payer payee amount flushed) (working h) (told.Changed r) (working k)
move_steps payer payee amount flushed h r k m =
    let did = did_change (ledger.moving payer payee amount) ledger.ByOrdinal flushed h r k m in
    let e = made_now (events.move payer payee amount flushed r) (working h) did.0 (working k) (m, did.1) in
    (e.0, (r, refl, e.1))

pub visit_steps : (id : List ℕ) (guard : ℕ) (flushed : Bool) (h : Held) (r : Result ℕ LedgerFault) (k : Held) → ledger.Visits id guard flushed h r k → Steps (script.Visit id guard flushed) (working h) (told.Changed r) (working k)
visit_steps id guard flushed h r k m =
    let did = did_change (ledger.visiting id guard) ledger.ByOrdinal flushed h r k m in
    let e = made_now (events.visit id guard flushed r) (working h) did.0 (working k) (m, did.1) in
    (e.0, (r, refl, e.1))

pub enrol_steps : (id : List ℕ) (a : ℕ) (flushed : Bool) (h : Held) (r : Result ℕ LedgerFault) (k : Held) → length id ≡ 8 → ledger.Enrols id a flushed h r k → Steps (script.Enrol id a flushed) (working h) (told.Changed r) (working k)
enrol_steps id a flushed h r k eight m =
    let did = did_change (ledger.enrolling id a) ledger.ByOrdinal flushed h r k m in
    let e = made_now (events.enrol id a flushed r) (working h) did.0 (working k) (eight, m, did.1) in
    (e.0, (r, refl, e.1))

pub drop_steps : (id : List ℕ) (flushed : Bool) (h : Held) (r : Result ℕ LedgerFault) (k : Held) → ledger.Drops id flushed h r k → Steps (script.Drop id flushed) (working h) (told.Changed r) (working k)
drop_steps id flushed h r k m =
    let did = did_change (ledger.dropping id) ledger.ByOrdinal flushed h r k m in
    let e = made_now (events.drop_tag id flushed r) (working h) did.0 (working k) (m, did.1) in
    (e.0, (r, refl, e.1))

pub collect_steps : (a : ℕ) (flushed : Bool) (h : Held) (r : Result (ℕ × Entry) LedgerFault) (k : Held) → ledger.Collects a flushed h r k → Steps (script.Collect a flushed) (working h) (told.Collected r) (working k)
collect_steps a flushed h r k m =
    let did = did_change (ledger.collecting a) (ledger.WithFront a h) flushed h r k m in
    let e = made_now (events.collect a flushed r) (working h) did.0 (working k) (m, did.1) in
    (e.0, (r, refl, e.1))

-- the others
pub find_steps : (id : List ℕ) (h : Held) (r : Result (Option ℕ) LedgerFault) → ledger.Finds id h r → Steps (script.Find id) (working h) (told.Found r) (working h)
find_steps id h r m = let e = made_now (events.find id r) (working h) [] (working h) (m, refl, refl) in (e.0, (r, refl, e.1))

pub balance_steps : (a : ℕ) (h : Held) (r : Result ℕ LedgerFault) → ledger.Balances a h r → Steps (script.Balance a) (working h) (told.Balance r) (working h)
balance_steps a h r m = let e = made_now (events.balance a r) (working h) [] (working h) (m, refl, refl) in (e.0, (r, refl, e.1))

pub flush_steps : (h : Held) (r : Result ℕ LedgerFault) (k : Held) → ledger.Flushes h r k → Steps script.Flush (working h) (told.Flushed r) (working k)
flush_steps h r k m =
    let did = did_flush h r k m in
    let e = made_now (events.flush r) (working h) did.0 (working k) (m, did.1) in
    (e.0, (r, refl, e.1))

pub truncate_steps : (h : Held) (r : Result ℕ LedgerFault) (k : Held) → ledger.Truncates h r k → Steps script.Truncate (working h) (told.Truncated r) (working k)
truncate_steps h r k m =
    let did = did_truncate h r k m in
    let e = made_now (events.truncate r) (working h) did.0 (working k) (m, did.1) in
    (e.0, (r, refl, e.1))

-- What a call does is a step.
same_held : (call : Call) (h : Held) (a : Answer) (k : Held) → k ≡ h → Steps call (working h) a (working h) → Steps call (working h) a (working k)
same_held call h a k same s = subst (λ (x : Held). Steps call (working h) a (working x)) (sym same) s

answered : (call : Call) (m : Moment) (a b : Answer) (m' : Moment) → a ≡ b → Steps call m b m' → Steps call m a m'
answered call m a b m' is s = subst (λ (x : Answer). Steps call m x m') (sym is) s

not_made : (m : Moment) (a : Answer) (m' : Moment) → a ≡ told.NotMade → m' ≡ m → (es : List Event) × NotMade m a es m'
not_made m a m' is same = ([], (is, refl, same))

pub does_step : (call : Call) (h : Held) (a : Answer) (k : Held) → Does call h a k → Steps call (working h) a (working k)
does_step script.Make h a k (is, same) = not_made (working h) a (working k) is (ap working same)
does_step script.Open h a k (is, same) = not_made (working h) a (working k) is (ap working same)
does_step script.Close h a k does = absurd does
does_step (script.Issue account amount flushed) h a k (r, is, m) =
    answered (script.Issue account amount flushed) (working h) a (told.Changed r) (working k) is (issue_steps account amount flushed h r k m)
does_step (script.Move payer payee amount flushed) h a k (r, is, m) =
    answered (script.Move payer payee amount flushed) (working h) a (told.Changed r) (working k) is (move_steps payer payee amount flushed h r k m)
does_step (script.Visit id guard flushed) h a k (r, is, m) =
    answered (script.Visit id guard flushed) (working h) a (told.Changed r) (working k) is (visit_steps id guard flushed h r k m)
does_step (script.Enrol id account flushed) h a k (eight, r, is, m) =
    answered (script.Enrol id account flushed) (working h) a (told.Changed r) (working k) is (enrol_steps id account flushed h r k eight m)
does_step (script.Drop id flushed) h a k (r, is, m) =
    answered (script.Drop id flushed) (working h) a (told.Changed r) (working k) is (drop_steps id flushed h r k m)
does_step (script.Collect account flushed) h a k (r, is, m) =
    answered (script.Collect account flushed) (working h) a (told.Collected r) (working k) is (collect_steps account flushed h r k m)
does_step (script.Find id) h a k (r, is, m, same) =
    same_held (script.Find id) h a k same (answered (script.Find id) (working h) a (told.Found r) (working h) is (find_steps id h r m))
does_step (script.Balance account) h a k (r, is, m, same) =
    same_held (script.Balance account) h a k same (answered (script.Balance account) (working h) a (told.Balance r) (working h) is (balance_steps account h r m))
does_step script.Flush h a k (r, is, m) = answered script.Flush (working h) a (told.Flushed r) (working k) is (flush_steps h r k m)
does_step script.Truncate h a k (r, is, m) = answered script.Truncate (working h) a (told.Truncated r) (working k) is (truncate_steps h r k m)

-- And so it is on a device that lies alone.
pub starts_step : (call : Call) (d : Disk) (a : Answer) (m : Moment) → Starts call d a m → Steps call (closed d) a m
starts_step script.Make d a (working k) (r, is, makes) = answered script.Make (closed d) a (told.Made r) (working k) is (make_steps d r k makes)
starts_step script.Make d a (closed e) (r, is, never) = absurd never
starts_step script.Open d a (working k) (r, is, opens) = answered script.Open (closed d) a (told.Opened r) (working k) is (open_steps d r k opens)
starts_step script.Open d a (closed e) (r, is, never) = absurd never
starts_step script.Close d a m (is, same) = not_made (closed d) a m is same
starts_step (script.Issue account amount flushed) d a m (is, same) = not_made (closed d) a m is same
starts_step (script.Move payer payee amount flushed) d a m (is, same) = not_made (closed d) a m is same
starts_step (script.Visit id guard flushed) d a m (is, same) = not_made (closed d) a m is same
starts_step (script.Enrol id account flushed) d a m (is, same) = not_made (closed d) a m is same
starts_step (script.Drop id flushed) d a m (is, same) = not_made (closed d) a m is same
starts_step (script.Collect account flushed) d a m (is, same) = not_made (closed d) a m is same
starts_step (script.Find id) d a m (is, same) = not_made (closed d) a m is same
starts_step (script.Balance account) d a m (is, same) = not_made (closed d) a m is same
starts_step script.Flush d a m (is, same) = not_made (closed d) a m is same
starts_step script.Truncate d a m (is, same) = not_made (closed d) a m is same

-- What was played is a chain.
made_chain : (call : events.Call) (m : Moment) (es : List Event) (m' : Moment) → Made call m es m' → Chain m es m'
made_chain call m es m' x = subst (λ (fs : List Event). Chain m fs m') (sym x.event) (refl, x.happens, refl)

made_as_chain : (call : Call) (m : Moment) (a : Answer) (es : List Event) (m' : Moment) → MadeAs call m a es m' → Chain m es m'
made_as_chain script.Make m a es m' (r, is, x) = made_chain (events.make r) m es m' x
made_as_chain script.Open m a es m' (r, is, x) = made_chain (events.opening r) m es m' x
made_as_chain script.Close m a es m' (is, x) = made_chain events.close m es m' x
made_as_chain (script.Issue account amount flushed) m a es m' (r, is, x) = made_chain (events.issue account amount flushed r) m es m' x
made_as_chain (script.Move payer payee amount flushed) m a es m' (r, is, x) = made_chain (events.move payer payee amount flushed r) m es m' x
made_as_chain (script.Visit id guard flushed) m a es m' (r, is, x) = made_chain (events.visit id guard flushed r) m es m' x
made_as_chain (script.Enrol id account flushed) m a es m' (r, is, x) = made_chain (events.enrol id account flushed r) m es m' x
made_as_chain (script.Drop id flushed) m a es m' (r, is, x) = made_chain (events.drop_tag id flushed r) m es m' x
made_as_chain (script.Collect account flushed) m a es m' (r, is, x) = made_chain (events.collect account flushed r) m es m' x
made_as_chain (script.Find id) m a es m' (r, is, x) = made_chain (events.find id r) m es m' x
made_as_chain (script.Balance account) m a es m' (r, is, x) = made_chain (events.balance account r) m es m' x
made_as_chain script.Flush m a es m' (r, is, x) = made_chain (events.flush r) m es m' x
made_as_chain script.Truncate m a es m' (r, is, x) = made_chain (events.truncate r) m es m' x

not_made_chain : (m : Moment) (a : Answer) (es : List Event) (m' : Moment) → NotMade m a es m' → Chain m es m'
not_made_chain m a es m' (is, none, same) = subst (λ (fs : List Event). Chain m fs m') (sym none) same

either : (b : Bool) (A B : Type 0) → MatchBool b A B → A ⊎ B
either true A B h = inl h
either false A B h = inr h

pub plays_chain : (call : Call) (m : Moment) (a : Answer) (es : List Event) (m' : Moment) → Plays call m a es m' → Chain m es m'
plays_chain call m a es m' h = go (either (fits call m) (MadeAs call m a es m') (NotMade m a es m') h)
  where
    go : MadeAs call m a es m' ⊎ NotMade m a es m' → Chain m es m'
    go (inl x) = made_as_chain call m a es m' x
    go (inr x) = not_made_chain m a es m' x

pub made_ends : (m : Moment) (es : List Event) (m' : Moment) → Made events.close m es m' → Chain m es m'
made_ends m es m' x = made_chain events.close m es m' x
