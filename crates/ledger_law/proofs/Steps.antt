-- One event keeps the law, and so do all of a run.
use Rattle.std.proofs.Common.{append_assoc, ◌≡◌, ℕ, ◌-◌, Bool, true, List, [], ◌∷◌, ◌++◌, map, Some, None, Ok, Err, Option, Result, sym, refl, ap, ◌∙◌, subst, inl, inr}
use Rattle.device.specs.Disk.{Disk, Plate}
use Rattle.device.specs.Trace.{Act}
use Rattle.image.specs.declared.state.Image.{Image}
use Rattle.image.specs.Calls.{declared}
use Rattle.transactions.specs.declared.fault.StoreFault.{StoreFault}
use Rattle.transactions.specs.Held as held
use Rattle.law.specs.Transactions.{Transaction}
use Rattle.law.specs.Kept.{Entered}
use Rattle.law.specs.Events as store
use Rattle.law.specs.Law as law
use Rattle.book.specs.declared.fault.LedgerFault.{LedgerFault}
use Rattle.book.specs.Layout.{byte_in}
use Rattle.ledger.specs.Sound.{Held, is_on}
use Rattle.ledger.specs.Calls.{Change, OnBook, OnStore, Makes, issuing, moving, visiting, enrolling, dropping, collecting, ByOrdinal, WithFront}
use Rattle.ledger_law.specs.Below.{event, One}
use Rattle.ledger_law.specs.Events.{Moment, working, closed, below, Call, make, opening, close, issue, move, visit, enrol, drop_tag, collect, find, balance, flush, truncate, Event, DidMake, DidChange, DidOnStore, Happens, Chain, all_did}
use Rattle.ledger_law.specs.Law.{Standing, nothing, entered_after, newly, amount_of, stood, with_new, after, ConservedAt, OpensLawfully, AllLawful, Conserving}
use Rattle.ledger_law.proofs.Chains.{runs_below}
use Rattle.ledger_law.proofs.Sectors.{tried_plate}
use Rattle.ledger_law.proofs.Entering.{Plain, Grown, plain_grows}
use Rattle.ledger_law.proofs.Sums.{Sums, issuing_sums, moving_sums, visiting_sums, enrolling_sums, dropping_sums, collecting_sums}
use Rattle.ledger_law.proofs.Keeping.{RestsAt, Keeps, Stands, conserved, keeps_so}
use Rattle.ledger_law.proofs.Changing.{made_stands}
use Rattle.ledger_law.proofs.Making.{lawful_split, make_keeps}
use Rattle.ledger_law.proofs.Opening.{opening_keeps}

append_none : {X : Type 0} (xs : List X) → xs ++ [] ≡ xs
append_none [] = refl
append_none (x ∷ xs) = ap (λ ys. x ∷ ys) (append_none xs)

-- What stands after a call by which this is done below.
abbrev Then : Moment → ℕ → List store.Event → List Entered → List ℕ → Type 0
Then m' amount did xs issued = Stands m' (entered_after did (Some xs)) (Some (issued ++ map (λ (x : Entered). amount) (newly did)))

-- nothing was done, and nothing moved
still : (m m' : Moment) (amount : ℕ) (did : List store.Event) (xs : List Entered) (issued : List ℕ) → m' ≡ m → did ≡ [] → Keeps m xs issued → Then m' amount did xs issued
still m m' amount did xs issued same none w =
    subst (λ (es : List store.Event). Then m' amount es xs issued) (sym none)
    (xs, refl, subst (Keeps m' xs) (sym (append_none issued)) (subst (λ (x : Moment). Keeps x xs issued) (sym same) w))

-- one plain call of the store that enters nothing, after which the ledger rests as before
one_call : (call : store.Call) (m m' : Moment) (amount : ℕ) (did : List store.Event) (xs : List Entered) (issued : List ℕ) → Plain call → ((n : store.Moment) (done : List Act) → law.newly call n done ≡ [])
    → One call (below m) did (below m') → law.places_at (below m') ≡ law.places_at (below m) → RestsAt m' (law.transactions xs) → Keeps m xs issued → Then m' amount did xs issued
one_call call m m' amount did xs issued plain none o places rests w =
    let new = none (below m) o.done in
    let grown : Grown (law.places_at (below m)) xs (law.newly call (below m) o.done) (law.after_call call (below m) o.done (Some xs)) = plain_grows call (below m) o.done (law.places_at (below m)) xs plain in
    let same : law.transactions grown.ys ≡ law.transactions xs =
    grown.same ∙ ap (λ (ys : List Entered). law.transactions xs ++ law.transactions ys) new ∙ append_none (law.transactions xs) in
    let keeps : Keeps m' grown.ys issued = keeps_so m m' xs grown.ys issued w places same grown.first rests in
    subst (λ (es : List store.Event). Then m' amount es xs issued) (sym o.event) (
      grown.ys,
      grown.is,
      subst (λ (ys : List Entered). Keeps m' grown.ys (issued ++ map (λ (x : Entered). amount) (ys ++ []))) (sym new)
          (subst (Keeps m' grown.ys) (sym (append_none issued)) keeps),
    )

-- a change
change : {A : Type 0} (c : Change) (answers : Result (ℕ × ℕ) StoreFault → Result A LedgerFault → Type 0) (flushed : Bool) (h k : Held) (r : Result A LedgerFault) (amount : ℕ) (m : OnBook c answers flushed h r k) (did : List store.Event)
    → Sums c amount → DidChange c answers flushed h r k m did → (xs : List Entered) (issued : List ℕ) → Keeps (working h) xs issued → Then (working k) amount did xs issued
change c answers flushed h k r amount (inl asleep) did sums none xs issued w = still (working h) (working k) amount did xs issued (ap working asleep.same) none w
change c answers flushed h k r amount (inr (inl (f, is, refused))) did sums none xs issued w = still (working h) (working k) amount did xs issued (ap working refused.same) none w
change c answers flushed h k r amount (inr (inr (x, told, m))) did sums does xs issued w = made_stands c flushed h k x amount sums m did does xs issued w

-- a call that leaves the memory
resting : (h k : Held) (ts : List Transaction) → (is_on k ≡ true → k.store.state.image ≡ h.store.state.image) → RestsAt (working h) ts → is_on h ≡ true → RestsAt (working k) ts
resting h k ts image rests on =
    λ awake.
    let r = rests on in
    record { memory = ap (λ (y : Image). byte_in y.memory) (image awake) ∙ r.memory; clean = ap (λ (y : Image). declared y) (image awake) ∙ r.clean }

flush_image : (h k : Held) (x : Result ℕ StoreFault) → held.Flushes h.store x k.store → is_on k ≡ true → k.store.state.image ≡ h.store.state.image
flush_image h k (Ok n) (fits, count, inl (zero, same, device)) on = ap (λ s. s.image) same
flush_image h k (Ok n) (fits, count, inr (some, done, written, image, busy)) on = image
flush_image h k (Err f) (inl (fits, same, device)) on = ap (λ s. s.image) same
flush_image h k (Err f) (inr (fits, some, cut)) on = cut.state.image

truncate_image : (h k : Held) (x : Result ℕ StoreFault) → held.Truncates h.store x k.store → is_on k ≡ true → k.store.state.image ≡ h.store.state.image
truncate_image h k (Ok n) (fits, inl none) on = ap (λ s. s.image) none.state
truncate_image h k (Ok n) (fits, inr pages) on = pages.state.image
truncate_image h k (Err f) (inl (fits, same, device)) on = ap (λ s. s.image) same
truncate_image h k (Err f) (inr cut) on = cut.state.image

flush_places : (h k : held.Held) (x : Result ℕ StoreFault) (done : List Act) (cut : Option Act) → store.Happens (store.flush x) (store.working h) done cut (store.working k) → law.places_at (store.working k) ≡ law.places_at (store.working h)
flush_places h k x done cut (does, tried) = ap (λ (q : Plate). q.sectors - 64) (tried_plate (store.flush_plan h.state) h.disk done cut x k.disk tried)

truncate_places : (h k : held.Held) (x : Result ℕ StoreFault) (done : List Act) (cut : Option Act) → store.Happens (store.truncate x) (store.working h) done cut (store.working k) → law.places_at (store.working k) ≡ law.places_at (store.working h)
truncate_places h k x done cut (does, tried) = ap (λ (q : Plate). q.sectors - 64) (tried_plate (store.truncate_plan h.state h.disk.shows) h.disk done cut x k.disk tried)

flushes : (h k : Held) (r : Result ℕ LedgerFault) (m : OnStore held.Flushes h r k) (did : List store.Event) → DidOnStore held.Flushes store.flush h r k m did → (xs : List Entered) (issued : List ℕ) → Keeps (working h) xs issued → Then (working k) 0 did xs issued
flushes h k r (inl asleep) did none xs issued w = still (working h) (working k) 0 did xs issued (ap working asleep.same) none w
flushes h k r (inr (on, fit, (x, told, does))) did one xs issued w =
    one_call (store.flush x) (working h) (working k) 0 did xs issued tt (λ n done. refl) one (flush_places h.store k.store x one.done one.cut one.happens)
    (resting h k (law.transactions xs) (flush_image h k x does) w.rests on) w

truncates : (h k : Held) (r : Result ℕ LedgerFault) (m : OnStore held.Truncates h r k) (did : List store.Event) → DidOnStore held.Truncates store.truncate h r k m did → (xs : List Entered) (issued : List ℕ) → Keeps (working h) xs issued → Then (working k) 0 did xs issued
truncates h k r (inl asleep) did none xs issued w = still (working h) (working k) 0 did xs issued (ap working asleep.same) none w
truncates h k r (inr (on, fit, (x, told, does))) did one xs issued w =
    one_call (store.truncate x) (working h) (working k) 0 did xs issued tt (λ n done. refl) one (truncate_places h.store k.store x one.done one.cut one.happens)
    (resting h k (law.transactions xs) (truncate_image h k x does) w.rests on) w

closes : (h : Held) (e : Disk) (did : List store.Event) → e ≡ h.store.disk → One store.close (store.working h.store) did (store.closed e) → (xs : List Entered) (issued : List ℕ) → Keeps (working h) xs issued → Then (closed e) 0 did xs issued
closes h e did same one xs issued w = one_call store.close (working h) (closed e) 0 did xs issued tt (λ n done. refl) one (ap (λ (d : Disk). d.plate.sectors - 64) same) tt w

-- a make
newly_append : (es fs : List store.Event) → newly (es ++ fs) ≡ newly es ++ newly fs
newly_append [] fs = refl
newly_append (e ∷ es) fs =
    ap (λ (xs : List Entered). law.newly e.call e.before e.done ++ xs) (newly_append es fs)
    ∙ sym (append_assoc (law.newly e.call e.before e.done) (newly es) (newly fs))

makes : (d : Disk) (k : Held) (u : Unit {0}) (m : Makes d (Ok u) k) (did : List store.Event) → DidMake d (Ok u) k m did → (h : law.History) → law.AllLawful did h
    → Stands (working k) (entered_after did h) (Some ([] ++ map (λ (x : Entered). 0) (newly did)))
makes d k u (fit, linked, holds) did (first, rest, is, formats, does) h all =
    let one : did ≡ event (store.format (Ok tt)) (store.closed d) formats.done formats.cut (store.working linked.formatted) ∷ rest = is ∙ ap (λ (es : List store.Event). es ++ rest) formats.event in
    let all' = subst (λ (es : List store.Event). law.AllLawful es h) one all in
    subst (λ (es : List store.Event). Stands (working k) (entered_after es h) (Some ([] ++ map (λ (x : Entered). 0) (newly es)))) (sym one)
    (make_keeps d k linked rest does all'.1 holds)

-- The law of an opening, and what stands after an event.
abbrev Good : Call → Moment → List store.Event → law.History → Option (List ℕ) → Type 0
Good call m' did h issued = OpensLawfully call issued × Stands m' (entered_after did h) (with_new (amount_of call) (newly did) (stood call issued))

-- Where so much was issued.
good : (amount : ℕ) (did : List store.Event) (m m' : Moment) (h : law.History) (issued : List ℕ) → ((xs : List Entered) → Keeps m xs issued → Then m' amount did xs issued)
    → Stands m h (Some issued) → Stands m' (entered_after did h) (Some (issued ++ map (λ (x : Entered). amount) (newly did)))
good amount did m m' h issued keeps (xs, is, w) =
    subst (λ (g : law.History). Stands m' (entered_after did g) (Some (issued ++ map (λ (x : Entered). amount) (newly did)))) (sym is) (keeps xs w)

step : (call : Call) (m : Moment) (did : List store.Event) (m' : Moment) (h : law.History) (issued : Option (List ℕ)) → Happens call m did m' → Stands m h issued → law.AllLawful did h → Good call m' did h issued
step (make (Ok u)) (closed d) did (working k) h issued (m, does) s all = (tt, makes d k u m did does h all)
step (make (Ok u)) m did m' h issued happens s all = absurd happens
step (make (Err f)) m did m' h issued does s all = (tt, tt)
step (opening r) (closed d) did (working k) h (Some issued) (m, does) (xs, is, w) all =
    subst (λ (g : law.History). Good (opening r) (working k) did g (Some issued)) (sym is)
    (opening_keeps d r k m did does xs issued w (subst (law.AllLawful did) is all))
step close (working h) did (closed e) g (Some issued) (same, one) s all = (tt, good 0 did (working h) (closed e) g issued (λ xs w. closes h e did same one xs issued w) s)
step (issue a amount flushed r) (working h) did (working k) g (Some issued) (m, does) s all =
    (tt, good amount did (working h) (working k) g issued (λ xs. change (issuing a amount) ByOrdinal flushed h k r amount m did (issuing_sums a amount) does xs issued) s)
step (move payer payee amount flushed r) (working h) did (working k) g (Some issued) (m, does) s all =
    (tt, good 0 did (working h) (working k) g issued (λ xs. change (moving payer payee amount) ByOrdinal flushed h k r 0 m did (moving_sums payer payee amount) does xs issued) s)
step (visit id guard flushed r) (working h) did (working k) g (Some issued) (m, does) s all =
    (tt, good 0 did (working h) (working k) g issued (λ xs. change (visiting id guard) ByOrdinal flushed h k r 0 m did (visiting_sums id guard) does xs issued) s)
step (enrol id a flushed r) (working h) did (working k) g (Some issued) (eight, m, does) s all =
    (tt, good 0 did (working h) (working k) g issued (λ xs. change (enrolling id a) ByOrdinal flushed h k r 0 m did (enrolling_sums id a eight) does xs issued) s)
step (drop_tag id flushed r) (working h) did (working k) g (Some issued) (m, does) s all =
    (tt, good 0 did (working h) (working k) g issued (λ xs. change (dropping id) ByOrdinal flushed h k r 0 m did (dropping_sums id) does xs issued) s)
step (collect a flushed r) (working h) did (working k) g (Some issued) (m, does) s all =
    (tt, good 0 did (working h) (working k) g issued (λ xs. change (collecting a) (WithFront a h) flushed h k r 0 m did (collecting_sums a) does xs issued) s)
step (find id r) (working h) did (working k) g (Some issued) (finds, same, none) s all =
    (tt, good 0 did (working h) (working k) g issued (λ xs. still (working h) (working k) 0 did xs issued (ap working same) none) s)
step (balance a r) (working h) did (working k) g (Some issued) (tells, same, none) s all =
    (tt, good 0 did (working h) (working k) g issued (λ xs. still (working h) (working k) 0 did xs issued (ap working same) none) s)
step (flush r) (working h) did (working k) g (Some issued) (m, does) s all =
    (tt, good 0 did (working h) (working k) g issued (λ xs. flushes h k r m did does xs issued) s)
step (truncate r) (working h) did (working k) g (Some issued) (m, does) s all =
    (tt, good 0 did (working h) (working k) g issued (λ xs. truncates h k r m did does xs issued) s)
step (opening (Ok x)) m did m' g None happens s all = (tt, tt)
step (opening (Err f)) m did m' g None happens s all = (tt, tt)
step call m did m' g None happens s all = (tt, tt)
step call m did m' g (Some issued) happens s all = absurd happens

-- A ledger conserves what was issued wherever it stands.
conserves : (m : Moment) (h : law.History) (issued : Option (List ℕ)) → Stands m h issued → ConservedAt m issued
conserves (working h) g None s = tt
conserves (closed d) g None s = tt
conserves m g (Some issued) (xs, is, w) = conserved m xs issued w

-- What is done below keeps the law of stores at each event.
abbrev AllBelow : List Event → Standing → Type 0
AllBelow [] t = Unit {0}
AllBelow (e ∷ es) t = law.AllLawful e.did t.history × AllBelow es (after e t)

all_below : (es : List Event) (t : Standing) → law.AllLawful (all_did es) t.history → AllBelow es t
all_below [] t all = tt
all_below (e ∷ es) t all = let s = lawful_split e.did (all_did es) t.history all in (s.0, all_below es (after e t) s.1)

all_lawful : (m : Moment) (es : List Event) (m' : Moment) (t : Standing) → Chain m es m' → Stands m t.history t.issued → AllBelow es t → AllLawful es t
all_lawful m [] m' t chain s b = tt
all_lawful m (e ∷ es) m' t (is, happens, rest) s (lawful, b) =
    let here = subst (λ (x : Moment). Stands x t.history t.issued) (sym is) s in
    let next = step e.call e.before e.did e.after t.history t.issued happens here lawful in (
      record { conserved = conserves e.after (after e t).history (after e t).issued next.1; opens = next.0; below = lawful },
      all_lawful e.after es m' (after e t) rest next.1 b,
    )

pub conserving : law.CrashSafe → Conserving
conserving safe m es m' chain = all_lawful m es m' nothing chain tt (all_below es nothing (safe (below m) (all_did es) (below m') (runs_below m es m' chain)))
