-- Each event keeps the law, and so every chain does.
use Rattle.std.proofs.Common.{◌≡◌, ℕ, zero, suc, ◌+◌, ◌-◌, ◌≤◌, Bool, true, false, cond, not, ◌&&◌, eqb, leb, List, [], ◌∷◌, ◌++◌, map, length, replicate, take, drop, Some, None, Ok, Err, Option, Result, sym, refl, ap, ◌∙◌, subst, inl, inr, ⊎_elim, arith}
use Rattle.arrayvec.specs.ArrayVec.{array_vec_len}
use Rattle.std.proofs.lemmas.Bool.{both_ways, cases_Bool, cond-true, cond-false, and_parts, eqb-true}
use Rattle.std.proofs.lemmas.List.{append-nil, append_assoc, length-append, length-map, take-map, drop-map, drop_all}
use Rattle.device.specs.Disk.{Disk}
use Rattle.device.specs.Trace.{Act, looked, wrote, settled, restarted}
use Rattle.durability.specs.Items.{Item, appending}
use Rattle.image.specs.Calls.{declared, none}
use Rattle.image.proofs.Cutting.{runs_lay, runs_fit, runs_none}
use Rattle.recovery.specs.Clearing.{astray, blanking}
use Rattle.transactions.specs.declared.fault.StoreFault.{StoreFault}
use Rattle.transactions.specs.declared.state.State.{State}
use Rattle.transactions.specs.Calls.{writing}
use Rattle.transactions.specs.Fault.{number}
use Rattle.transactions.specs.Held.{Held, Formatted, Opened, Commits, Flushes, Truncates}
use Rattle.transactions.specs.Rows.{first_fit, token_rows, commit_rows}
use Rattle.transactions.specs.State.{spooled, own}
use Rattle.transactions.specs.Truncation.{truncation}
use Rattle.law.specs.Transactions.{Transaction, made_of, batch}
use Rattle.law.specs.Kept.{Entered, AllKept, NoneKept}
use Rattle.law.specs.Events.{Moment, working, closed, disk_at, Call, format, opening, close, begin, set_range, write, read, commit, abort, flush, truncate, Event, Tried, OpeningTried, Silent, fits_none, does_enter, does_truncate, commit_plan, flush_plan, truncate_plan, Happens, Chain}
use Rattle.law.specs.Law.{transactions, own_transaction, found_again, after_call, after, places_at, Finds, Lawful, AllLawful, CrashSafe}
use Rattle.law.proofs.History.{History, Resting, Safe, Sound, settles, with_barrier, AllCounted}
use Rattle.law.proofs.Openings.{open_found, open_failed}
use Rattle.law.proofs.Committing.{more_is, empty_kept}
use Rattle.law.proofs.Cuts.{traced}
use Rattle.law.proofs.Standing.{rests, safe, on_stands, off_stands, begins, shown}
use Rattle.law.proofs.Truncated as truncated
use Rattle.law.proofs.Steps as steps
use Rattle.law.proofs.Settling.{AllSettled, batch_settled, first_made, settles_neither}
use Rattle.law.proofs.Counting.{Counted, Fresh, past, joined, wait_none, wait_further, counted, counted_kept, past_is, next_count, counted_found, transactions_found}

-- How a store and its device stand with what is entered, of which so many are counted as kept.
pub record StoreStands (h : Held) (xs : List Entered) : Type 0 where
  pub places : ℕ
  pub count : ℕ
  pub sound : Sound places h.state h.disk (past count xs)
  pub counts : Counted places count xs

pub record DeviceStands (d : Disk) (xs : List Entered) : Type 0 where
  pub places : ℕ
  pub count : ℕ
  pub safe : Safe places d (past count xs)
  pub counts : Counted places count xs

abbrev pub Stands : Moment → Option (List Entered) → Type 0
Stands m None = Unit {0}
Stands (working h) (Some xs) = StoreStands h xs
Stands (closed d) (Some xs) = DeviceStands d xs

-- the number of places, as the device tells it
places_are : (n : ℕ) (d : Disk) (h : History) → Safe n d h → d.plate.sectors - 64 ≡ n
places_are n d h w = omega (arith, w.divides.homes)

-- what stands once a call has entered these
stand : (n count : ℕ) (xs vs : List Entered) (done : List Act) (k : Held) → Counted n count xs → Fresh done vs
    → (settles done ≡ true → AllSettled n count (transactions (drop count xs) ++ transactions vs) done)
    → Sound n k.state k.disk (with_barrier done (transactions xs ++ transactions vs) count) → StoreStands k (joined done xs vs)
stand n count xs vs done k c f s w =
    record {
      places = n;
      count = next_count n count xs vs done c f;
      sound = subst (λ (h : History). Sound n k.state k.disk h) (past_is n count xs vs done c f) w;
      counts = counted n count xs vs done c f s;
    }

-- a call that makes not-so calls on the device and enters nothing
still : (n count : ℕ) (xs : List Entered) (done : List Act) (k : Held) → Counted n count xs → done ≡ [] → Sound n k.state k.disk (past count xs) → StoreStands k (joined done xs [])
still n count xs done k c none w =
    stand n count xs [] done k c tt (λ settles-done. absurd (both_ways (settles done) (ap settles none) settles-done))
    (subst (λ (acts : List Act). Sound n k.state k.disk (with_barrier acts (transactions xs ++ []) count)) (sym none)
    (subst (λ (ts : List Transaction). Sound n k.state k.disk (record { entered = ts; kept = count })) (sym (append-nil (transactions xs))) w))

-- what succeeded of a plan is a part of it
part_of : {A : Type 0} (plan : List Act) (d : Disk) (done : List Act) (cut : Option Act) (r : Result A StoreFault) (e : Disk) → Tried plan d done cut r e → (rest : List Act) × (done ++ rest ≡ plan)
part_of plan d done None (Ok _) e (same, _) = ([], append-nil done ∙ same)
part_of plan d done (Some act) (Ok _) e t = absurd t
part_of plan d done None (Err _) e (plan_is, same, _) = ([], append-nil done ∙ same ∙ sym plan_is)
part_of plan d done (Some act) (Err _) e (o, _, c) = (act ∷ c.rest, c.all)

nothing_of : (done rest : List Act) → done ++ rest ≡ [] → settles done ≡ true → ⊥
nothing_of [] rest e h = both_ways false refl h
nothing_of (a ∷ done) rest e h = let z : length (a ∷ (done ++ rest)) ≡ 0 = ap length e in omega arith

-- Where a barrier succeeded in a plan that begins with a batch, its transactions are settled.
batch_made : (n low last count : ℕ) (items : List Item) (ts : List Transaction) (done rest more : List Act) → items ≡ batch count ts
    → done ++ rest ≡ appending n low last items ++ (settled ∷ more) → settles done ≡ true → AllSettled n count ts done
batch_made n low last count items ts done rest more is e h =
    let r = first_made n low last (batch count ts) done rest more (e ∙ ap (λ (ys : List Item). appending n low last ys ++ (settled ∷ more)) is) h in
    subst (λ (acts : List Act). AllSettled n count ts acts) (sym r.1) (batch_settled n low last count ts (settled ∷ r.0) tt)

none_of : (o : Option (ℕ × List ℕ)) → fits_none o ≡ true → o ≡ None
none_of None e = refl
none_of (Some f) e = absurd (both_ways false refl e)

-- what a commit newly enters
abbrev fresh : State → List Act → ℕ → Bool → List Entered
fresh s done number flushed = cond (does_enter s number flushed) (record { transaction = own_transaction s; since = done; found = false } ∷ []) []

-- what waits, and is settled once it is written
module _ (n count : ℕ) (xs : List Entered) (s : State) (d : Disk) (w : Sound n s d (past count xs)) (done rest : List Act) (barrier : settles done ≡ true) where
  waiting : drop count (transactions xs) ≡ transactions (drop count xs)
  waiting = drop-map (λ (x : Entered). x.transaction) count xs

  -- the spool is written
  spool_made : (more : List Act) → s.on ≡ true → done ++ rest ≡ appending s.log.places s.log.low s.log.last (spooled s) ++ (settled ∷ more)
      → AllSettled n count (transactions (drop count xs) ++ []) done
  spool_made more on e =
      let r = rests n s d (past count xs) w on in
      subst (λ (ts : List Transaction). AllSettled n count ts done) (waiting ∙ sym (append-nil (transactions (drop count xs))))
      (subst (λ (p : ℕ). AllSettled p count (drop count (transactions xs)) done) r.places
      (batch_made s.log.places s.log.low s.log.last count (spooled s) (drop count (transactions xs)) done rest more r.waits e barrier))

  -- the spool and the records of the transaction that is committed are written
  own_made : s.on ≡ true → done ++ rest ≡ writing s (spooled s ++ own s) → AllSettled n count (transactions (drop count xs) ++ (own_transaction s ∷ [])) done
  own_made on e =
      let h = past count xs in
      let r = rests n s d h w on in
      subst (λ (ts : List Transaction). AllSettled n count (ts ++ (own_transaction s ∷ [])) done) waiting
      (subst (λ (p : ℕ). AllSettled p count (drop count (transactions xs) ++ (own_transaction s ∷ [])) done) r.places
      (batch_made s.log.places s.log.low s.log.last count (spooled s ++ own s) (drop count (transactions xs) ++ (own_transaction s ∷ [])) done rest []
      (more_is runs_lay runs_fit runs_none n d s h r) e barrier))

  -- a plan that has nothing to do makes not-so barrier
  idle_made : {A : Type 0} (b : Bool) (plan : List Act) → done ++ rest ≡ cond b plan [] → b ≡ false → A
  idle_made b plan e not-so = absurd (nothing_of done rest (e ∙ cond-false b plan [] not-so) barrier)

  flush_made : done ++ rest ≡ flush_plan s → AllSettled n count (transactions (drop count xs) ++ []) done
  flush_made e =
      let b = s.on && leb 1 (array_vec_len s.spool) in
      ⊎_elim
      (λ (so : b ≡ true). spool_made [] (and_parts s.on (leb 1 (array_vec_len s.spool)) so).0 (e ∙ cond-true b (writing s (spooled s)) [] so))
      (λ (not-so : b ≡ false). idle_made b (writing s (spooled s)) e not-so)
      (cases_Bool b)

  commit_made : (number : ℕ) (flushed : Bool) → done ++ rest ≡ commit_plan s number flushed
      → AllSettled n count (transactions (drop count xs) ++ transactions (fresh s done number flushed)) done
  commit_made number flushed e =
      let enters = does_enter s number flushed in
      let b = enters && flushed in
      let plan = writing s (spooled s ++ own s) in
      let one : List Entered = record { transaction = own_transaction s; since = done; found = false } ∷ [] in
      ⊎_elim
      (λ (so : b ≡ true).
      let does = (and_parts enters flushed so).0 in
      let first = fits_none (first_fit (token_rows s number)) in
      let second = not (none (declared s.image)) in
      let both = (and_parts (first && second) (fits_none (first_fit (commit_rows s (length (own s)) flushed))) does).0 in
      let passes = none_of (first_fit (token_rows s number)) (and_parts first second both).0 in
      subst (λ (vs : List Entered). AllSettled n count (transactions (drop count xs) ++ transactions vs) done) (sym (cond-true enters one [] does))
      (own_made (shown s number passes).0 (e ∙ cond-true b plan [] so)))
      (λ (not-so : b ≡ false). idle_made b plan e not-so)
      (cases_Bool b)

  truncate_made : done ++ rest ≡ truncate_plan s d.shows → AllSettled n count (transactions (drop count xs) ++ []) done
  truncate_made e =
      let b = does_truncate s d.shows in
      ⊎_elim
      (λ (so : b ≡ true). flushes_first (truncated.does_on s d so) (e ∙ cond-true b (truncation s d.shows) [] so))
      (λ (not-so : b ≡ false). idle_made b (truncation s d.shows) e not-so)
      (cases_Bool b)
    where
      flushes_first : s.on ≡ true → done ++ rest ≡ truncation s d.shows → AllSettled n count (transactions (drop count xs) ++ []) done
      flushes_first on t =
          let h = past count xs in
          let r = rests n s d h w on in
          let empty = eqb (array_vec_len s.spool) 0 in
          let acts = writing s (spooled s) in
          let more = truncated.after_flush s d in
          ⊎_elim
          (λ (so : empty ≡ true).
          let all = empty_kept runs_lay runs_fit runs_none n d s h r (eqb-true (array_vec_len s.spool) 0 so) in
          let gone : drop count xs ≡ [] = drop_all count xs (omega (arith, all, length-map xs (λ (x : Entered). x.transaction))) in
          subst (λ (ys : List Entered). AllSettled n count (transactions ys ++ []) done) (sym gone) tt)
          (λ (not-so : empty ≡ false).
          spool_made more on
          (t ∙ ap (λ (ys : List Act). ys ++ more) (cond-false empty [] acts not-so)
          ∙ append_assoc (appending s.log.places s.log.low s.log.last (spooled s)) (settled ∷ []) more))
          (cases_Bool empty)

-- what an opening does that is refused or cut: its barrier would be the last of its calls

settles_blanking : (test : ℕ → Bool) (i k : ℕ) → settles (blanking test i k) ≡ false
unfolding blanking
settles_blanking test i zero = refl
settles_blanking test i (suc k) =
    ⊎_elim
    (λ (is : test i ≡ true). ap settles (cond-true (test i) _ _ is) ∙ settles_blanking test (i + 1) k)
    (λ (is : test i ≡ false). ap settles (cond-false (test i) _ _ is) ∙ settles_blanking test (i + 1) k)
    (cases_Bool (test i))

settles_looks : (looks : ℕ) → settles (replicate looks looked) ≡ false
settles_looks zero = refl
settles_looks (suc looks) = settles_looks looks

last_only : (front done rest : List Act) (act : Act) → settles front ≡ false → done ++ (act ∷ rest) ≡ front ++ (settled ∷ []) → settles done ≡ false
last_only front [] rest act none e = refl
last_only [] (a ∷ done) rest act none e = absurd (omega (arith, length-append done (act ∷ rest), ap length e))
last_only (looked ∷ front) (a ∷ done) rest act none e =
    let same : a ≡ looked = cc in
    let tail : done ++ (act ∷ rest) ≡ front ++ (settled ∷ []) = cc in
    ap (λ (x : Act). settles (x ∷ done)) same ∙ last_only front done rest act none tail
last_only (wrote s bytes ∷ front) (a ∷ done) rest act none e =
    let same : a ≡ wrote s bytes = cc in
    let tail : done ++ (act ∷ rest) ≡ front ++ (settled ∷ []) = cc in
    ap (λ (x : Act). settles (x ∷ done)) same ∙ last_only front done rest act none tail
last_only (settled ∷ front) (a ∷ done) rest act none e = absurd (both_ways true none refl)
last_only (restarted ∷ front) (a ∷ done) rest act none e =
    let same : a ≡ restarted = cc in
    let tail : done ++ (act ∷ rest) ≡ front ++ (settled ∷ []) = cc in
    ap (λ (x : Act). settles (x ∷ done)) same ∙ last_only front done rest act none tail

opening_unsettled : (d : Disk) (done : List Act) (cut : Option Act) (f : StoreFault) (k : Held) → OpeningTried d done cut (Err f) k → settles done ≡ false
opening_unsettled d done None f k (inl (none, _)) = ap settles none
opening_unsettled d done None f k (inr (_, looks, same)) = ap settles same ∙ settles_looks looks
opening_unsettled d done (Some act) f k (o, _, inl (none, _)) = ap settles none
opening_unsettled d done (Some act) f k (o, _, inr (m, _, looks, n, c, more, same, cut)) =
    let test = astray n m.shows c in
    let front = replicate looks looked ++ blanking test 0 n in
    let none : settles front ≡ false = settles_neither (replicate looks looked) (blanking test 0 n) (settles_looks looks) (settles_blanking test 0 n) in
    ap settles same ∙ last_only front more cut.rest act none (cut.all ∙ sym (append_assoc (replicate looks looked) (blanking test 0 n) (settled ∷ [])))

-- One event, where these are entered before it.
module _ (n count : ℕ) (xs : List Entered) (c : Counted n count xs) where
  -- on a store that works
  module _ (h k : Held) (w : Sound n h.state h.disk (past count xs)) (done : List Act) where
    number_is : (disk_at (working h)).plate.sectors - 64 ≡ n
    number_is = places_are n h.disk (past count xs) (safe n h.state h.disk (past count xs) w)

    -- all that is entered is kept where all of it counts
    all_are : (vs : List Entered) → Fresh done vs → (settles done ≡ true → AllSettled n count (transactions (drop count xs) ++ transactions vs) done)
        → AllCounted (with_barrier done (transactions xs ++ transactions vs) count) → AllKept (places_at (working h)) 0 (joined done xs vs)
    all_are vs f s all =
        let next = joined done xs vs in
        let after-count = next_count n count xs vs done c f in
        let e : after-count ≡ length (transactions next) = subst AllCounted (past_is n count xs vs done c f) all in
        subst (λ (p : ℕ). AllKept p 0 next) (sym number_is)
        (counted_kept n after-count next (counted n count xs vs done c f s) (e ∙ length-map next (λ (x : Entered). x.transaction)))

    -- a call that enters nothing
    kept_so : (r : Result ℕ StoreFault) → (settles done ≡ true → AllSettled n count (transactions (drop count xs) ++ []) done)
        → ((j : ℕ) → r ≡ Ok j → AllCounted (with_barrier done (transactions xs) count)) × Sound n k.state k.disk (with_barrier done (transactions xs) count)
        → ((j : ℕ) → r ≡ Ok j → AllKept (places_at (working h)) 0 (joined done xs [])) × StoreStands k (joined done xs [])
    kept_so r s l =
        let same : transactions xs ≡ transactions xs ++ [] = sym (append-nil (transactions xs)) in (
          λ j is. all_are [] tt s (subst (λ (ts : List Transaction). AllCounted (with_barrier done ts count)) same (l.0 j is)),
          stand n count xs [] done k c tt s (subst (λ (ts : List Transaction). Sound n k.state k.disk (with_barrier done ts count)) same l.1),
        )

    flush_step : (r : Result ℕ StoreFault) (cut : Option Act) → Flushes h r k → Tried (flush_plan h.state) h.disk done cut r k.disk
        → ((j : ℕ) → r ≡ Ok j → AllKept (places_at (working h)) 0 (joined done xs [])) × StoreStands k (joined done xs [])
    flush_step r cut does t =
        let part = part_of (flush_plan h.state) h.disk done cut r k.disk t in
        let s = λ (barrier : settles done ≡ true). flush_made n count xs h.state h.disk w done part.0 barrier part.1 in
        let l = steps.flush_answers n h.state k.state h.disk k.disk (past count xs) w done r (traced (flush_plan h.state) h.disk done cut r k.disk t) does in
        kept_so r s l

    truncate_step : (r : Result ℕ StoreFault) (cut : Option Act) → Truncates h r k → Tried (truncate_plan h.state h.disk.shows) h.disk done cut r k.disk
        → ((j : ℕ) → r ≡ Ok j → AllKept (places_at (working h)) 0 (joined done xs [])) × StoreStands k (joined done xs [])
    truncate_step r cut does t =
        let plan = truncate_plan h.state h.disk.shows in
        let part = part_of plan h.disk done cut r k.disk t in
        let s = λ (barrier : settles done ≡ true). truncate_made n count xs h.state h.disk w done part.0 barrier part.1 in
        kept_so r s (truncated.truncate_answers n h.state k.state h.disk k.disk (past count xs) w done r (traced plan h.disk done cut r k.disk t) does)

    commit_step : (number : ℕ) (flushed : Bool) (r : Result (ℕ × ℕ) StoreFault) (cut : Option Act) → Commits number flushed h r k
        → Tried (commit_plan h.state number flushed) h.disk done cut r k.disk
        → ((ordinal j : ℕ) → r ≡ Ok (ordinal, j) → flushed ≡ true → 1 ≤ j → AllKept (places_at (working h)) 0 (joined done xs (fresh h.state done number flushed)))
        × StoreStands k (joined done xs (fresh h.state done number flushed))
    commit_step number flushed r cut does t =
        let plan = commit_plan h.state number flushed in
        let part = part_of plan h.disk done cut r k.disk t in
        let s = λ (barrier : settles done ≡ true). commit_made n count xs h.state h.disk w done part.0 barrier number flushed part.1 in
        let l = steps.commit_answers n h.state k.state h.disk k.disk (past count xs) w done number flushed r (traced plan h.disk done cut r k.disk t) does in
        let b = does_enter h.state number flushed in
        let f = is_fresh b in
        let same = entered_is b (transactions xs) in (
          λ ordinal j is at-once some.
              all_are (fresh h.state done number flushed) f s (subst (λ (ts : List Transaction). AllCounted (with_barrier done ts count)) same (l.0 ordinal j is at-once some)),
          stand n count xs (fresh h.state done number flushed) done k c f s (subst (λ (ts : List Transaction). Sound n k.state k.disk (with_barrier done ts count)) same l.1),
        )
      where
        is_fresh : (b : Bool) → Fresh done (cond b (record { transaction = own_transaction h.state; since = done; found = false } ∷ []) [])
        is_fresh true = (refl, refl, tt)
        is_fresh false = tt

        entered_is : (b : Bool) (ts : List Transaction)
            → steps.entered_after b h.state ts ≡ ts ++ transactions (cond b (record { transaction = own_transaction h.state; since = done; found = false } ∷ []) [])
        entered_is true ts = refl
        entered_is false ts = sym (append-nil ts)

    -- a call that makes no call on the device
    silent_step : (cut : Option Act) → Silent done cut → Sound n k.state k.disk (past count xs) → StoreStands k (joined done xs [])
    silent_step cut none sound = still n count xs done k c none.0 sound

  close_step : (h : Held) (e : Disk) (done : List Act) (cut : Option Act) → Sound n h.state h.disk (past count xs) → e ≡ h.disk → Silent done cut → DeviceStands e (joined done xs [])
  close_step h e done cut w same none =
      let s = λ (barrier : settles done ≡ true). absurd (both_ways (settles done) (ap settles none.0) barrier) in
      record {
        places = n;
        count = next_count n count xs [] done c tt;
        safe =
            subst (λ (x : History). Safe n e x) (past_is n count xs [] done c tt)
            (subst (λ (acts : List Act). Safe n e (with_barrier acts (transactions xs ++ []) count)) (sym none.0)
            (subst (λ (ts : List Transaction). Safe n e (record { entered = ts; kept = count })) (sym (append-nil (transactions xs)))
            (subst (λ (x : Disk). Safe n x (past count xs)) (sym same) (safe n h.state h.disk (past count xs) w))));
        counts = counted n count xs [] done c tt s;
      }

  -- on a device that lies alone
  module _ (d : Disk) (k : Held) (w : Safe n d (past count xs)) where
    opened_step : (x : ℕ × ℕ) → Opened d (Ok x) k → Finds (closed d) x.0 k.state.image.memory xs × StoreStands k (map found_again (take x.0 xs))
    opened_step x o =
        let r = open_found n d k.disk k.state (past count xs) x w o in
        let size = length-map xs (λ (y : Entered). y.transaction) in
        let le : x.0 ≤ length xs = omega (arith, r.1, size) in
        let taken : take x.0 (transactions xs) ≡ transactions (take x.0 xs) = take-map (λ (y : Entered). y.transaction) x.0 xs in
        let again : take x.0 (transactions xs) ≡ transactions (map found_again (take x.0 xs)) = taken ∙ sym (transactions_found (take x.0 xs)) in (
          record {
            kept =
                subst (λ (p : ℕ). NoneKept p x.0 (drop x.0 xs)) (sym (places_are n d (past count xs) w))
                (wait_none n x.0 (drop x.0 xs) (wait_further count x.0 xs r.0 c.waits));
            entered = le;
            whole = k.state.image.whole;
            memory_is = λ i small. r.2 i small ∙ ap (λ (ts : List Transaction). made_of ts i) taken;
          },
          record {
            places = n;
            count = x.0;
            sound =
                on_stands n k.state k.disk (past x.0 (map found_again (take x.0 xs)))
                (subst (λ (ts : List Transaction). Resting n k.disk k.state (record { entered = ts; kept = x.0 })) again r.3) (λ _. o.idle.clean);
            counts = counted_found n x.0 xs le;
          },
        )

    refused_step : (done : List Act) (cut : Option Act) (f : StoreFault) → Opened d (Err f) k → OpeningTried d done cut (Err f) k
        → (number f ≡ 1) × StoreStands k (joined done xs [])
    refused_step done cut f o t =
        let r = open_failed n d k.disk k.state (past count xs) f w o in
        let none = opening_unsettled d done cut f k t in (
          r.0,
          stand n count xs [] done k c tt (λ barrier. absurd (both_ways (settles done) none barrier))
              (subst (λ (b : Bool). Sound n k.state k.disk (record { entered = transactions xs ++ []; kept = cond b (length (transactions xs ++ [])) count })) (sym none)
              (subst (λ (ts : List Transaction). Sound n k.state k.disk (record { entered = ts; kept = count })) (sym (append-nil (transactions xs)))
              (off_stands n k.state k.disk (past count xs) r.1 r.2))),
        )

new_stands : (d : Disk) (k : Held) (u : Unit {0}) → Formatted d (Ok u) k → StoreStands k []
new_stands d k u f =
    record { places = f.0; count = 0; sound = begins d k.disk k.state u f; counts = record { few = omega arith; kept = tt; waits = tt } }

-- Each event keeps the law.
step : (call : Call) (m : Moment) (done : List Act) (cut : Option Act) (m' : Moment) (h : Option (List Entered)) → Stands m h → Happens call m done cut m'
    → Lawful (record { call = call; before = m; done = done; cut = cut; after = m' }) h × Stands m' (after_call call m done h)
step (format (Ok u)) (closed d) done cut (working k) None st (f, _) = (tt, new_stands d k u f)
step (format (Ok u)) (closed d) done cut (working k) (Some xs) st (f, _) = (tt, new_stands d k u f)
step (format (Err g)) m done cut m' None st happens = (tt, tt)
step (format (Err g)) m done cut m' (Some xs) st happens = (tt, tt)
step (opening (Ok x)) (closed d) done cut (working k) (Some xs) st (o, _) = opened_step st.places st.count xs st.counts d k st.safe x o
step (opening (Err f)) (closed d) done cut (working k) (Some xs) st (o, t) = refused_step st.places st.count xs st.counts d k st.safe done cut f o t
step close (working h) done cut (closed e) (Some xs) st (same, none) = (tt, close_step st.places st.count xs st.counts h e done cut st.sound same none)
step (begin r) (working h) done cut (working k) (Some xs) st (does, none) = (
  tt,
  silent_step st.places st.count xs st.counts h k st.sound done cut none
      (steps.begin_keeps st.places h.state k.state h.disk k.disk (past st.count xs) st.sound does.1 r does.0),
)
step (set_range number start size r) (working h) done cut (working k) (Some xs) st (does, none) = (
  tt,
  silent_step st.places st.count xs st.counts h k st.sound done cut none
      (steps.set_range_keeps st.places h.state k.state h.disk k.disk (past st.count xs) st.sound does.1 number start size r does.0),
)
step (write number start bytes r) (working h) done cut (working k) (Some xs) st (does, none) = (
  tt,
  silent_step st.places st.count xs st.counts h k st.sound done cut none
      (steps.write_keeps st.places h.state k.state h.disk k.disk (past st.count xs) st.sound does.1 number start bytes r does.0),
)
step (read start buffer r filled) (working h) done cut (working k) (Some xs) st (_, same, none) = (
  tt,
  silent_step st.places st.count xs st.counts h k st.sound done cut none
      (subst (λ (x : Held). Sound st.places x.state x.disk (past st.count xs)) (sym same) st.sound),
)
step (commit number flushed r) (working h) done cut (working k) (Some xs) st (does, t) =
    commit_step st.places st.count xs st.counts h k st.sound done number flushed r cut does t
step (abort number r) (working h) done cut (working k) (Some xs) st (does, none) = (
  tt,
  silent_step st.places st.count xs st.counts h k st.sound done cut none
      (steps.abort_keeps st.places h.state k.state h.disk k.disk (past st.count xs) st.sound does.1 number r does.0),
)
step (flush r) (working h) done cut (working k) (Some xs) st (does, t) = flush_step st.places st.count xs st.counts h k st.sound done r cut does t
step (truncate r) (working h) done cut (working k) (Some xs) st (does, t) = truncate_step st.places st.count xs st.counts h k st.sound done r cut does t
step (format (Ok u)) m done cut m' h st happens = absurd happens
step call m done cut m' None st happens = (tt, tt)
step call m done cut m' (Some xs) st happens = absurd happens

-- Each chain does, from a moment at which what is entered is known.
pub chain_lawful : (m : Moment) (es : List Event) (m' : Moment) (h : Option (List Entered)) → Stands m h → Chain m es m' → AllLawful es h
chain_lawful m [] m' h st chain = tt
chain_lawful m (e ∷ es) m' h st (same, happens, chain) =
    let r = step e.call e.before e.done e.cut e.after h (subst (λ (x : Moment). Stands x h) (sym same) st) happens in
    (r.0, chain_lawful e.after es m' (after e h) r.1 chain)

pub crash_safe : CrashSafe
crash_safe m es m' chain = chain_lawful m es m' None tt chain
