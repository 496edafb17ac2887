-- What commits and flushes leave: the store at rest again, or, where power cuts them, nothing kept lost.
use Rattle.std.proofs.Common.{◌≡◌, ℕ, ◌+◌, ◌-◌, ◌^◌, ◌<◌, ◌≤◌, Bool, true, false, cond, ltb, leb, ◌≢◌, List, [], ◌∷◌, ◌++◌, map, length, get_or, take, drop, Some, None, Option, sym, refl, ap, ◌∙◌, subst, inl, inr, ⊎_elim, arith}
use Rattle.arrayvec.specs.ArrayVec.{array_vec_len}
use mathlib.Core.Logic.{∥∥₁_elim}
use mathlib.Core.HLevel.{Unit-prop, ×_prop, ×₃_prop}
use native.Mathlib.Bridge.{le_prop}
use Rattle.std.proofs.lemmas.List.{nil_from_length, append_assoc, length-append, length-drop, length-map, length_push, length-take-le, take-append-drop, take-append-le, take_all, drop-append-le, drop_all}
use Rattle.std.proofs.lemmas.Bool.{both_ways, ltb-false, lt-ltb, le-leb, cases_Bool, cond-true, cond-false}
use Rattle.device.specs.Disk.{Disk, Plate}
use Rattle.device.specs.Meaning.{Quiet}
use Rattle.device.specs.Trace.{Act, settled, Done, CutShort}
use Rattle.device.proofs.Plans.{done_plate}
use Rattle.journal.specs.Log.{log}
use Rattle.durability.specs.Items.{Item, appending}
use Rattle.durability.specs.Standing.{Firm}
use Rattle.durability.proofs.Growth.{Present}
use Rattle.recovery.specs.Opening.{Divides}
use Rattle.image.specs.declared.run.Run.{Run}
use Rattle.image.specs.Runs.{Declared, is_declared, Apart, Inside}
use Rattle.image.specs.Cut.{PiecesLay, PiecesFit, PiecesNone}
use Rattle.image.specs.Calls.{declared}
use Rattle.transactions.specs.declared.spool.Spooled.{Spooled}
use Rattle.transactions.specs.declared.fault.StoreFault.{StoreFault}
use Rattle.transactions.specs.declared.state.State.{State}
use Rattle.transactions.specs.Parts.{item_of}
use Rattle.transactions.specs.Rows.{Row, first_fit, serials, full, spool_full, commit_rows}
use Rattle.transactions.specs.State.{live, spooled, own}
use Rattle.transactions.specs.Calls.{writing, Written, SpooledUp, CommitsParts, CommitCut}
use Rattle.law.specs.Transactions.{Transaction, made_of, batch, Proper, AllProper}
use Rattle.law.proofs.History.{History, Resting, Safe}
use Rattle.law.specs.Law.{own_transaction}
use Rattle.law.proofs.Batches.{batch_append, batch_one, applied_append, proper_append, long_batch, proper_drop}
use Rattle.law.proofs.Writing.{kept_of, followed, BeforeBatch, writing_batch, batch_written, batch_says, batch_cut}

-- the ghost facts of runs, which have one proof each

apart_prop : (floor : ℕ) (rs : List Run) → IsProp (Apart floor rs)
apart_prop floor [] = Unit-prop
apart_prop floor (r ∷ rs) = ×₃_prop le_prop le_prop (apart_prop (r.to + 1) rs)

inside_prop : (rs : List Run) → IsProp (Inside rs)
inside_prop [] = Unit-prop
inside_prop (r ∷ rs) = ×_prop le_prop (inside_prop rs)

-- What is entered once it is, with so many kept.
abbrev pub entering : State → History → ℕ → History
entering s h k = record { entered = h.entered ++ (own_transaction s ∷ []); kept = k }

pub own_proper : (s : State) → declared s.image ≢ [] → Proper (own_transaction s)
own_proper s some =
    record {
      some = some;
      apart = ∥∥₁_elim s.image.runs.apart (apart_prop 0 (declared s.image)) (λ a. a);
      inside = ∥∥₁_elim s.image.runs.inside (inside_prop (declared s.image)) (λ a. a);
      whole = s.image.whole;
    }

-- a byte that the test does not find is not declared
undeclared : (rs : List Run) (i : ℕ) → is_declared rs i ≡ false → Declared rs i → ⊥
undeclared [] i e h = h
undeclared (r ∷ rs) i e (inl (a, b)) =
    let f = le-leb r.from i a in
    let g = lt-ltb i r.to b in
    let yes : is_declared (r ∷ rs) i ≡ true = rw (f, g) refl in
    both_ways (is_declared (r ∷ rs) i) e yes
undeclared (r ∷ rs) i e (inr h) = undeclared rs i (rest (cond (leb r.from i) (ltb i r.to) false) (is_declared rs i) e) h
  where
    rest : (b c : Bool) → cond b true c ≡ false → c ≡ false
    rest true c k = absurd (both_ways true k refl)
    rest false c k = k

-- the memory at commit is what its own transaction makes of the memory as at begin
pub made_own : (s : State) (h : History) (i : ℕ) → get_or s.image.before i 0 ≡ made_of h.entered i → get_or s.image.memory i 0 ≡ made_of (h.entered ++ (own_transaction s ∷ [])) i
made_own s h i before =
    let t = own_transaction s in
    let test = is_declared (declared s.image) i in
    let new = get_or s.image.memory i 0 in
    let old = made_of h.entered i in
    let own-byte : new ≡ cond test new old =
    ⊎_elim
    (λ (e : test ≡ true). sym (cond-true test new old e))
    (λ (e : test ≡ false). s.image.same i (undeclared (declared s.image) i e) ∙ before ∙ sym (cond-false test new old e))
    (cases_Bool test) in
    own-byte ∙ sym (applied_append h.entered (t ∷ []) i 0)

-- no row fits: each test is false

pub no_fit : (row : Row) (rows : List Row) → first_fit (row ∷ rows) ≡ None → (row.fits ≡ false) × (first_fit rows ≡ None)
no_fit row rows e = go row.fits (first_fit rows) e
  where
    go : (b : Bool) (o : Option (ℕ × List ℕ)) → cond b (Some (row.number, row.values)) o ≡ None → (b ≡ false) × (o ≡ None)
    go true o k = absurd (let z : ◌≡◌ {A = ℕ} 0 1 = cc in omega arith)
    go false o k = (refl, k)

-- There are serials and places for k records more.
record RoomFor (s : State) (k : ℕ) : Type 0 where
  enough : s.log.last + array_vec_len s.spool + k + 65 < 2 ^ 63
  places : live s + array_vec_len s.spool + k + 65 ≤ s.log.places

room_for : (s : State) (k : ℕ) (flush : Bool) → first_fit (commit_rows s k flush) ≡ None → RoomFor s k
room_for s k flush e =
    let a = no_fit (serials s k) (full s k ∷ spool_full s k flush ∷ []) e in
    let b = no_fit (full s k) (spool_full s k flush ∷ []) a.1 in
    record {
      enough = omega (arith, ltb-false (2 ^ 63 - 1) (s.log.last + array_vec_len s.spool + k + 65) a.0);
      places = omega (arith, ltb-false (s.log.places - 65) (live s + array_vec_len s.spool + k) b.0, s.log.least);
    }

pub long_spool : (s : State) → length (spooled s) ≡ array_vec_len s.spool
long_spool s = length-map s.spool.items item_of

pub none_spooled : (s : State) → array_vec_len s.spool ≡ 0 → spooled s ≡ []
none_spooled s e = ap (λ (xs : List Spooled). map item_of xs) (nil_from_length s.spool.items e)

-- These records are those of these transactions, and may be written.
record Ready (n : ℕ) (s : State) (h : History) (us : List Transaction) (xs : List Item) : Type 0 where
  are : xs ≡ batch h.kept us
  proper : AllProper (kept_of h ++ us)
  room : live s + length xs ≤ n
  enough : s.log.last + length xs < 2 ^ 63

-- A history of which all is kept.
abbrev pub all_kept : List Transaction → History
all_kept ts = record { entered = ts; kept = length ts }

module _ (lay : PiecesLay) (fit : PiecesFit) (none : PiecesNone) (n : ℕ) (d : Disk) (s : State) (h : History) (r : Resting n d s h) where
  -- what waits are the records of the transactions that are not kept
  abbrev rest : List Transaction
  rest = drop h.kept h.entered

  whole : kept_of h ++ rest ≡ h.entered
  whole = take-append-drop h.kept h.entered

  pub empty_kept : array_vec_len s.spool ≡ 0 → h.kept ≡ length h.entered
  empty_kept e =
      omega (arith, r.few, long_spool s, ap length r.waits, length-drop h.kept h.entered, long_batch lay fit none h.kept rest (proper_drop h.kept h.entered r.proper))

  module _ (us : List Transaction) (xs : List Item) (w : Ready n s h us xs) where
    ready : BeforeBatch n d s.log.low s.log.last h us
    ready =
        let long = ap length w.are in
        record {
          quiet = r.quiet;
          firm = r.firm;
          few = r.few;
          proper = w.proper;
          room = omega (arith, w.room, long);
          serials = omega (arith, w.enough, long);
        }

    plan_is : writing s xs ≡ writing_batch n s.log.low s.log.last h us
    plan_is =
        ap (λ (k : ℕ). appending k s.log.low s.log.last xs ++ (settled ∷ [])) r.places
        ∙ ap (λ (ys : List Item). appending n s.log.low s.log.last ys ++ (settled ∷ [])) w.are

    -- once they are written, all that is entered is kept
    all_written : (e : Disk) (s' : State) → Done d (writing s xs) e → Written s xs (length (kept_of h ++ us)) s'
        → ((i : ℕ) → i < 6144 → get_or s'.image.before i 0 ≡ made_of (kept_of h ++ us) i) → Resting n e s' (all_kept (kept_of h ++ us))
    all_written e s' done left before =
        let all = kept_of h ++ us in
        let b = batch_written lay fit none n d e s.log.low s.log.last h us ready (subst (λ (p : List Act). Done d p e) plan_is done) in
        let long : h.kept + length us ≡ length all = omega (arith, length-append (kept_of h) us, length-take-le h.kept h.entered r.few) in
        let last : s.log.last + length (batch h.kept us) ≡ s'.log.last = omega (arith, left.log.last_is, ap length w.are) in
        let firm : Firm n e.shows s'.log.low s'.log.last (length all) (made_of all) =
        subst (λ (k : ℕ). Firm n e.shows k s'.log.last (length all) (made_of all)) (sym left.log.low_is)
        (subst (λ (k : ℕ). Firm n e.shows s.log.low k (length all) (made_of all)) last
        (subst (λ (k : ℕ). Firm n e.shows s.log.low (s.log.last + length (batch h.kept us)) k (made_of all)) long b.0)) in
        record {
          on = left.on;
          places = left.log.places_is ∙ r.places;
          divides = subst (λ (p : Plate). Divides p.sectors n) (sym (done_plate d e (writing s xs) done)) r.divides;
          quiet = b.1;
          firm = subst (λ (ts : List Transaction). Firm n e.shows s'.log.low s'.log.last (length all) (made_of ts)) (sym (take_all (length all) all (omega arith))) firm;
          few = omega arith;
          proper = w.proper;
          number = left.log.ordinal_is;
          waits = none_spooled s' left.empty ∙ sym (ap (λ (ts : List Transaction). batch (length all) ts) (drop_all (length all) all (omega arith)));
          room = omega (arith, w.room, left.log.low_is, left.log.last_is, left.empty);
          before = before;
        }

    cut_safe : (o : ℕ) (e : Disk) → CutShort d (writing s xs) o e → Safe n e (followed h us)
    cut_safe o e cut =
        batch_cut lay fit none n d e s.log.low s.log.last h us ready o (subst (λ (p : List Act). CutShort d p o e) plan_is cut) r.divides

  -- a flush

  flush_ready : Ready n s h rest (spooled s)
  flush_ready =
      let long = long_spool s in
      record {
        are = r.waits;
        proper = subst AllProper (sym whole) r.proper;
        room = omega (arith, r.room);
        enough = omega (arith, s.bounded);
      }

  -- A flush that passes keeps all that is entered; where power cuts it, nothing kept is lost.
  pub flush_done : (e : Disk) (s' : State) → Done d (writing s (spooled s)) e → Written s (spooled s) s.log.ordinal s' → s'.image ≡ s.image
      → Resting n e s' (all_kept h.entered)
  flush_done e s' done left image =
      subst (λ (ts : List Transaction). Resting n e s' (all_kept ts)) whole
      (all_written rest (spooled s) flush_ready e s' done
      (subst (λ (o : ℕ). Written s (spooled s) o s') (r.number ∙ ap length (sym whole)) left)
      (λ i k. ap (λ x. get_or x.before i 0) image ∙ r.before i k ∙ ap (λ (ts : List Transaction). made_of ts i) (sym whole)))

  pub flush_cut : (o : ℕ) (e : Disk) → CutShort d (writing s (spooled s)) o e → Safe n e h
  flush_cut o e cut =
      subst (λ (ts : List Transaction). Safe n e (record { entered = ts; kept = h.kept })) whole (cut_safe rest (spooled s) flush_ready o e cut)

  -- What the device holds after it.
  pub flush_firm : (e : Disk) → Done d (writing s (spooled s)) e → Firm n e.shows s.log.low (s.log.last + array_vec_len s.spool) (length h.entered) (made_of h.entered) × Quiet e
  flush_firm e done =
      let w = flush_ready in
      let b = batch_written lay fit none n d e s.log.low s.log.last h rest (ready rest (spooled s) w) (subst (λ (p : List Act). Done d p e) (plan_is rest (spooled s) w) done) in
      let long : h.kept + length rest ≡ length h.entered = omega (arith, r.few, length-drop h.kept h.entered) in
      let last : length (batch h.kept rest) ≡ array_vec_len s.spool = omega (arith, long_spool s, ap length r.waits) in (
        subst (λ (k : ℕ). Firm n e.shows s.log.low (s.log.last + k) (length h.entered) (made_of h.entered)) last
            (subst (λ (k : ℕ). Firm n e.shows s.log.low (s.log.last + length (batch h.kept rest)) k (made_of h.entered)) long
            (subst (λ (ts : List Transaction). Firm n e.shows s.log.low (s.log.last + length (batch h.kept rest)) (h.kept + length rest) (made_of ts)) whole b.0)),
        b.1,
      )

  pub flush_says : (e : Disk) → Done d (writing s (spooled s)) e
      → ((t : ℕ) → s.log.low ≤ t → t ≤ s.log.last → log n e.shows t ≡ log n d.shows t) × Present s.log.low (log n e.shows) s.log.last (spooled s)
  flush_says e done =
      let w = flush_ready in
      let b = batch_says lay fit none n d e s.log.low s.log.last h rest (ready rest (spooled s) w) (subst (λ (p : List Act). Done d p e) (plan_is rest (spooled s) w) done) in
      (b.0, subst (λ (xs : List Item). Present s.log.low (log n e.shows) s.log.last xs) (sym r.waits) b.1)

  -- a commit of records

  abbrev more : List Transaction
  more = rest ++ (own_transaction s ∷ [])

  abbrev entered : List Transaction
  entered = h.entered ++ (own_transaction s ∷ [])

  whole_more : kept_of h ++ more ≡ entered
  whole_more = sym (append_assoc (kept_of h) rest (own_transaction s ∷ [])) ∙ ap (λ (ts : List Transaction). ts ++ (own_transaction s ∷ [])) whole

  entered_proper : declared s.image ≢ [] → AllProper entered
  entered_proper some = proper_append h.entered (own_transaction s ∷ []) r.proper (own_proper s some, tt)

  -- what waits, and then its own records
  pub more_is : spooled s ++ own s ≡ batch h.kept more
  more_is =
      let e : s.log.ordinal ≡ h.kept + length rest = omega (arith, r.number, r.few, length-drop h.kept h.entered) in
      ap (λ (xs : List Item). xs ++ own s) r.waits
      ∙ ap (λ (xs : List Item). batch h.kept rest ++ xs) (sym (batch_one s.log.ordinal (own_transaction s)) ∙ ap (λ (o : ℕ). batch o (own_transaction s ∷ [])) e)
      ∙ sym (batch_append h.kept rest (own_transaction s ∷ []))

  commit_ready : declared s.image ≢ [] → RoomFor s (length (own s)) → Ready n s h more (spooled s ++ own s)
  commit_ready some room =
      let long = length-append (spooled s) (own s) in
      record {
        are = more_is;
        proper = subst AllProper (sym whole_more) (entered_proper some);
        room = omega (arith, long, long_spool s, room.places, r.places);
        enough = omega (arith, long, long_spool s, room.enough);
      }

  -- A commit with flush that passes keeps all that is entered, its own transaction too.
  pub commit_done : (x : ℕ × ℕ) (s' : State) (e : Disk) → CommitsParts s d true x s' e → Resting n e s' (entering s h (length h.entered + 1))
  commit_done x s' e c =
      let long = length_push h.entered (own_transaction s) in
      let number : s.log.ordinal + 1 ≡ length (kept_of h ++ more) = omega (arith, r.number, long, ap length whole_more) in
      subst (λ (k : ℕ). Resting n e s' (entering s h k)) long
      (subst (λ (ts : List Transaction). Resting n e s' (all_kept ts)) whole_more
      (all_written more (spooled s ++ own s) (commit_ready c.some (room_for s (length (own s)) true c.passes)) e s' c.enters.0
      (subst (λ (o : ℕ). Written s (spooled s ++ own s) o s') number c.enters.1)
      (λ i k.
      ap (λ (m : List ℕ). get_or m i 0) c.image.before
      ∙ made_own s h i (r.before i k)
      ∙ ap (λ (ts : List Transaction). made_of ts i) (sym whole_more))))

  -- Where power cuts a commit, its transaction is entered, and nothing kept is lost.
  pub commit_cut : (flush : Bool) (f : StoreFault) (s' : State) (e : Disk) → CommitCut s d flush f s' e → Safe n e (entering s h h.kept)
  commit_cut flush f s' e c =
      subst (λ (ts : List Transaction). Safe n e (record { entered = ts; kept = h.kept })) whole_more
      (cut_safe more (spooled s ++ own s) (commit_ready c.some (room_for s (length (own s)) flush c.passes)) c.cut.origin e c.cut.cut)

  -- A commit without flush enters its transaction, and keeps what was kept.
  pub commit_spooled : (x : ℕ × ℕ) (s' : State) (e : Disk) → CommitsParts s d false x s' e → Resting n e s' (entering s h h.kept)
  commit_spooled x s' e c =
      subst (λ (v : Disk). Resting n v s' (entering s h h.kept)) (sym c.enters.0)
      (record {
        on = up.on;
        places = up.log.places_is ∙ r.places;
        divides = r.divides;
        quiet = r.quiet;
        firm =
            subst (λ (k : ℕ). Firm n d.shows k s'.log.last h.kept (made_of (take h.kept entered))) (sym up.log.low_is)
            (subst (λ (k : ℕ). Firm n d.shows s.log.low k h.kept (made_of (take h.kept entered))) (sym up.log.last_is)
            (subst (λ (ts : List Transaction). Firm n d.shows s.log.low s.log.last h.kept (made_of ts)) (sym (take-append-le h.kept h.entered (own_transaction s ∷ []) r.few)) r.firm));
        few = omega (arith, r.few, long);
        proper = entered_proper c.some;
        number = omega (arith, up.log.ordinal_is, r.number, long);
        waits = up.waits ∙ more_is ∙ ap (λ (ts : List Transaction). batch h.kept ts) (sym (drop-append-le h.kept h.entered (own_transaction s ∷ []) r.few));
        room = omega (arith, up.log.low_is, up.log.last_is, long_spool s, long_spool s', ap length up.waits, length-append (spooled s) (own s), room.places, r.places);
        before = λ i k. ap (λ (m : List ℕ). get_or m i 0) c.image.before ∙ made_own s h i (r.before i k);
      })
    where
      up : SpooledUp s (own s) (s.log.ordinal + 1) s'
      up = c.enters.1

      long : length entered ≡ length h.entered + 1
      long = length_push h.entered (own_transaction s)

      room : RoomFor s (length (own s))
      room = room_for s (length (own s)) false c.passes
