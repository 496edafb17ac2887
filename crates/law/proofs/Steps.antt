-- What each call of a store makes of how it stands with what is entered and counted as kept.
use Rattle.std.proofs.Common.{◌≡◌, ℕ, ◌≤◌, Bool, true, false, cond, not, ◌&&◌, leb, ◌≢◌, List, [], ◌∷◌, ◌++◌, length, Some, None, Ok, Err, Result, sym, refl, ap, ◌∙◌, subst, inl, inr, arith}
use Rattle.arrayvec.specs.ArrayVec.{array_vec_len}
use Rattle.std.proofs.lemmas.List.{length_push}
use Rattle.std.proofs.lemmas.Bool.{both_ways, and_from, and_left, and_right, le-leb, lt-leb}
use Rattle.device.specs.Disk.{Disk}
use Rattle.device.specs.Trace.{Act}
use Rattle.image.specs.declared.run.Run.{Run}
use Rattle.image.specs.declared.run.ImageFault.{ImageFault}
use Rattle.image.specs.declared.run.ImageFault.TheVariants.{Range, Runs, Undeclared}
use Rattle.image.specs.declared.state.Image.{Image}
use Rattle.image.specs.Calls.{declared, none, Declares, Writes}
use Rattle.image.proofs.Cutting.{runs_lay, runs_fit, runs_none}
use Rattle.transactions.specs.declared.fault.StoreFault.{StoreFault}
use Rattle.transactions.specs.declared.state.State.{State}
use Rattle.transactions.specs.declared.token.Token.{Token}
use Rattle.transactions.specs.Rows.{first_fit, Refuses, busy, token_rows, commit_rows}
use Rattle.transactions.specs.State.{MadeOf, spooled, own}
use Rattle.transactions.specs.Calls.{Begins, SetsRange, WritesRange, OnImage, Undone, Aborts, Flushes, Commits, CommitsNothing, CommitsParts, CommitCut, writing}
use Rattle.law.specs.Transactions.{Transaction}
use Rattle.law.specs.Events.{fits_none, does_enter, commit_plan, flush_plan}
use Rattle.law.specs.Law.{own_transaction}
use Rattle.law.proofs.History.{History, Resting, Sound, settles, with_barrier, AllCounted}
use Rattle.law.proofs.Committing.{entering, all_kept, empty_kept, flush_done, flush_cut, commit_done, commit_cut, commit_spooled}
use Rattle.law.proofs.Cuts.{Traced, none_made, done_settles, cut_settles}
use Rattle.law.proofs.Standing.{rests, same_stands, on_stands, off_stands, moved, awake, shown, asleep}

-- the calls that don't write, on one store and device
module _ (n : ℕ) (s s' : State) (d e : Disk) (h : History) (w : Sound n s d h) where
  begun : (r : Result Token StoreFault) → e ≡ d → Begins s r s' → Sound n s' e h
  begun (Err f) device (_, same) = same_stands n s s' d e h w same device
  begun (Ok t) device (fits, _, m) =
      let r = rests n s d h w (awake s (busy s ∷ []) fits) in
      subst (λ (x : Disk). Sound n s' x h) (sym device)
      (on_stands n s' d h (moved n s s' d h s.image true r m refl) (λ closed. absurd (both_ways s'.busy closed m.busy_is)))

  -- a call on the memory that was shown the token
  on_memory : (k : ℕ) → e ≡ d → first_fit (token_rows s k) ≡ None → s'.image.before ≡ s.image.before → MadeOf s' s'.image s.spool s.log s.busy s.on → Sound n s' e h
  on_memory k device fits before m =
      let told = shown s k fits in
      subst (λ (x : Disk). Sound n s' x h) (sym device)
      (on_stands n s' d h (moved n s s' d h s'.image s.busy (rests n s d h w told.0) m before)
      (λ closed. absurd (both_ways s'.busy closed (m.busy_is ∙ told.1))))

  imaged : (does : Result (Unit {0}) ImageFault → Image → Type 0) → ((r : Result (Unit {0}) ImageFault) (y : Image) → does r y → y.before ≡ s.image.before)
      → (k : ℕ) (r : Result (Unit {0}) StoreFault) → e ≡ d → OnImage s k does r s' → Sound n s' e h
  imaged does keeps k (Ok u) device (fits, did, m) = on_memory k device fits (keeps (Ok u) s'.image did) m
  imaged does keeps k (Err f) device (inl (_, same)) = same_stands n s s' d e h w same device
  imaged does keeps k (Err f) device (inr (g, fits, _, did, m)) = on_memory k device fits (keeps (Err g) s'.image did) m

  undone : s.on ≡ true → e ≡ d → Undone s s' → Sound n s' e h
  undone on device (restored, m) =
      subst (λ (x : Disk). Sound n s' x h) (sym device)
      (on_stands n s' d h (moved n s s' d h s'.image false (rests n s d h w on) m restored.before) (λ _. restored.clean))

  aborted : (k : ℕ) (r : Result (Unit {0}) StoreFault) → e ≡ d → Aborts s k r s' → Sound n s' e h
  aborted k (Ok u) device (fits, u') = undone (shown s k fits).0 device u'
  aborted k (Err f) device (_, same) = same_stands n s s' d e h w same device

-- set-range and write leave the memory as at begin

declares_keeps : (start size : ℕ) (x : Image) (r : Result (Unit {0}) ImageFault) (y : Image) → Declares start size x r y → y.before ≡ x.before
declares_keeps start size x (Ok _) y h = h.before
declares_keeps start size x (Err (Range _)) y h = ap (λ (z : Image). z.before) h.same
declares_keeps start size x (Err (Runs _)) y h = ap (λ (z : Image). z.before) h.same
declares_keeps start size x (Err (Undeclared _)) y h = absurd h

writes_keeps : (start : ℕ) (bytes : List ℕ) (x : Image) (r : Result (Unit {0}) ImageFault) (y : Image) → Writes start bytes x r y → y.before ≡ x.before
writes_keeps start bytes x (Ok _) y h = h.before
writes_keeps start bytes x (Err (Range _)) y h = ap (λ (z : Image). z.before) h.same
writes_keeps start bytes x (Err (Runs _)) y h = absurd h
writes_keeps start bytes x (Err (Undeclared _)) y h = ap (λ (z : Image). z.before) h.same

-- the calls that write nothing
module _ (n : ℕ) (s s' : State) (d e : Disk) (h : History) (w : Sound n s d h) (device : e ≡ d) where
  pub begin_keeps : (r : Result Token StoreFault) → Begins s r s' → Sound n s' e h
  begin_keeps r does = begun n s s' d e h w r device does

  pub set_range_keeps : (k start size : ℕ) (r : Result (Unit {0}) StoreFault) → SetsRange s k start size r s' → Sound n s' e h
  set_range_keeps k start size r does =
      imaged n s s' d e h w (Declares start size s.image) (declares_keeps start size s.image) k r device does

  pub write_keeps : (k start : ℕ) (bytes : List ℕ) (r : Result (Unit {0}) StoreFault) → WritesRange s k start bytes r s' → Sound n s' e h
  write_keeps k start bytes r does =
      imaged n s s' d e h w (Writes start bytes s.image) (writes_keeps start bytes s.image) k r device does

  pub abort_keeps : (k : ℕ) (r : Result (Unit {0}) StoreFault) → Aborts s k r s' → Sound n s' e h
  abort_keeps k r does = aborted n s s' d e h w k r device does

-- a commit

-- What is entered and kept once a commit has entered its transaction, or has not.
abbrev pub entered_after : Bool → State → List Transaction → List Transaction
entered_after true s entered = entered ++ (own_transaction s ∷ [])
entered_after false s entered = entered

abbrev pub After : Bool → State → List Act → History → History
After b s made h = with_barrier made (entered_after b s h.entered) h.kept

-- the calls of a commit that enters its transaction or doesn't
abbrev plan_if : Bool → State → List Act
plan_if b s = cond b (writing s (spooled s ++ own s)) []

enters_not : (n : ℕ) (b flush : Bool) (s s' : State) (d e : Disk) (made : List Act) (h : History) → b ≡ false → Traced (plan_if (b && flush) s) d made e → Sound n s' e h → Sound n s' e (After b s made h)
enters_not n true flush s s' d e made h b-is traced w = absurd (both_ways true b-is refl)
enters_not n false flush s s' d e made h b-is traced w =
    subst (λ (acts : List Act). Sound n s' e (After false s acts h)) (sym (none_made d e made traced)) w

enters_spooled : (n : ℕ) (b : Bool) (s s' : State) (d e : Disk) (made : List Act) (h : History) → b ≡ true → Traced (plan_if (b && false) s) d made e → Sound n s' e (entering s h h.kept) → Sound n s' e (After b s made h)
enters_spooled n false s s' d e made h b-is traced w = absurd (both_ways false refl b-is)
enters_spooled n true s s' d e made h b-is traced w =
    subst (λ (acts : List Act). Sound n s' e (After true s acts h)) (sym (none_made d e made traced)) w

-- with the barrier all that is entered is kept
all_settled : (made : List Act) (ts : List Transaction) (k : ℕ) → settles made ≡ true → with_barrier made ts k ≡ all_kept ts
all_settled made ts k e = ap (λ (b : Bool). record { entered = ts; kept = cond b (length ts) k }) e

none_settled : (made : List Act) (ts : List Transaction) (k : ℕ) → settles made ≡ false → with_barrier made ts k ≡ record { entered = ts; kept = k }
none_settled made ts k e = ap (λ (b : Bool). record { entered = ts; kept = cond b (length ts) k }) e

-- where the rows pass and something is declared, the transaction is entered
some_declared : (rs : List Run) → rs ≢ [] → not (none rs) ≡ true
some_declared [] some = absurd (some refl)
some_declared (r ∷ rs) some = refl

pub passing : (s : State) (t : ℕ) (flush : Bool) → first_fit (token_rows s t) ≡ None → declared s.image ≢ [] → first_fit (commit_rows s (length (own s)) flush) ≡ None → does_enter s t flush ≡ true
passing s t flush a some c =
    let first = fits_none (first_fit (token_rows s t)) in
    let second = not (none (declared s.image)) in
    and_from (first && second) (fits_none (first_fit (commit_rows s (length (own s)) flush)))
    (and_from first second (ap fits_none a) (some_declared (declared s.image) some)) (ap fits_none c)

-- where nothing is declared or a row fits, it is not

pub token_fits : (s : State) (t : ℕ) (flush : Bool) (f : StoreFault) → Refuses (token_rows s t) f → does_enter s t flush ≡ false
token_fits s t flush f fits =
    let first = fits_none (first_fit (token_rows s t)) in
    let second = not (none (declared s.image)) in
    and_left (first && second) (fits_none (first_fit (commit_rows s (length (own s)) flush))) (and_left first second (ap fits_none fits))

pub none_declared : (s : State) (t : ℕ) (flush : Bool) → declared s.image ≡ [] → does_enter s t flush ≡ false
none_declared s t flush clean =
    let first = fits_none (first_fit (token_rows s t)) in
    let second = not (none (declared s.image)) in
    and_left (first && second) (fits_none (first_fit (commit_rows s (length (own s)) flush)))
    (and_right first second (ap (λ (rs : List Run). not (none rs)) clean))

pub room_fits : (s : State) (t : ℕ) (flush : Bool) (f : StoreFault) → Refuses (commit_rows s (length (own s)) flush) f → does_enter s t flush ≡ false
room_fits s t flush f fits =
    and_right (fits_none (first_fit (token_rows s t)) && not (none (declared s.image))) (fits_none (first_fit (commit_rows s (length (own s)) flush))) (ap fits_none fits)

module _ (n : ℕ) (s s' : State) (d e : Disk) (h : History) (w : Sound n s d h) (made : List Act) where
  -- it writes with flush, and then all that is entered is kept
  enters_flushed : (b : Bool) (x : ℕ × ℕ) → s.on ≡ true → b ≡ true → Traced (plan_if (b && true) s) d made e → CommitsParts s d true x s' e → AllCounted (After b s made h) × Sound n s' e (After b s made h)
  enters_flushed false x on b-is traced c = absurd (both_ways false refl b-is)
  enters_flushed true x on b-is traced c =
      let xs = spooled s ++ own s in
      let ts = (entering s h 0).entered in
      let barrier = done_settles s.log.places s.log.low s.log.last xs d e made c.enters.0 traced in
      let is : After true s made h ≡ all_kept ts = all_settled made ts h.kept barrier in
      let r = commit_done runs_lay runs_fit runs_none n d s h (rests n s d h w on) x s' e c in
      let all : Resting n e s' (all_kept ts) = subst (λ (k : ℕ). Resting n e s' (entering s h k)) (sym (length_push h.entered (own_transaction s))) r in (
        subst AllCounted (sym is) refl,
        subst (λ (g : History). Sound n s' e g) (sym is) (on_stands n s' e (all_kept ts) all (λ _. c.image.clean)),
      )

  -- where power cuts it, it is entered, and what was kept is kept
  enters_cut : (b flush : Bool) (f : StoreFault) → s.on ≡ true → b ≡ true → Traced (plan_if (b && flush) s) d made e → CommitCut s d flush f s' e → Sound n s' e (After b s made h)
  enters_cut false flush f on b-is traced c = absurd (both_ways false refl b-is)
  enters_cut true false f on b-is traced c = absurd (both_ways false refl c.flushing)
  enters_cut true true f on b-is traced c =
      let xs = spooled s ++ own s in
      let barrier = cut_settles s.log.places s.log.low s.log.last xs d e made c.cut.origin c.cut.cut traced in
      let is : After true s made h ≡ entering s h h.kept = none_settled made (entering s h 0).entered h.kept barrier in
      subst (λ (g : History). Sound n s' e g) (sym is)
      (off_stands n s' e (entering s h h.kept) c.cut.state.off (commit_cut runs_lay runs_fit runs_none n d s h (rests n s d h w on) true f s' e c))

  -- A commit with nothing declared moves only whether the store is busy.
  ends_nothing : (x : ℕ × ℕ) → s.on ≡ true → CommitsNothing s d x s' e → Sound n s' e h
  ends_nothing x on c =
      let m = c.state in
      subst (λ (v : Disk). Sound n s' v h) (sym c.device)
      (on_stands n s' d h (moved n s s' d h s.image false (rests n s d h w on) m refl) (λ _. ap declared m.image_is ∙ c.clean))

  -- What a commit does to what is entered and kept, and its law.
  abbrev pub CommitKeeps : ℕ → Bool → Result (ℕ × ℕ) StoreFault → Type 0
  CommitKeeps t flush r =
      ((o k : ℕ) → r ≡ Ok (o, k) → flush ≡ true → 1 ≤ k → AllCounted (After (does_enter s t flush) s made h))
      × Sound n s' e (After (does_enter s t flush) s made h)

  commit_passes : (t : ℕ) (flush : Bool) (x : ℕ × ℕ) → first_fit (token_rows s t) ≡ None → Traced (commit_plan s t flush) d made e → CommitsParts s d flush x s' e → CommitKeeps t flush (Ok x)
  commit_passes t true x fits traced c =
      let r = enters_flushed (does_enter s t true) x (shown s t fits).0 (passing s t true fits c.some c.passes) traced c in
      (λ o k is flush some. r.0, r.1)
  commit_passes t false x fits traced c =
      let on = (shown s t fits).0 in
      let r = commit_spooled runs_lay runs_fit runs_none n d s h (rests n s d h w on) x s' e c in (
        λ o k is flush some. absurd (both_ways false refl flush),
        enters_spooled n (does_enter s t false) s s' d e made h (passing s t false fits c.some c.passes) traced
            (on_stands n s' e (entering s h h.kept) r (λ _. c.image.clean)),
      )

  pub commit_answers : (t : ℕ) (flush : Bool) (r : Result (ℕ × ℕ) StoreFault) → Traced (commit_plan s t flush) d made e → Commits s d t flush r s' e → CommitKeeps t flush r
  commit_answers t flush (Ok x) traced (fits, inl c) = (
    λ o k is flush some. absurd (let y : x ≡ (o, k) = cc in let z : k ≡ 0 = ap (λ (p : ℕ × ℕ). p.1) (sym y ∙ c.answer) in omega arith),
    enters_not n (does_enter s t flush) flush s s' d e made h (none_declared s t flush c.clean) traced (ends_nothing x (shown s t fits).0 c),
  )
  commit_answers t flush (Ok x) traced (fits, inr c) = commit_passes t flush x fits traced c
  commit_answers t flush (Err f) traced (inl (fits, state, device)) = (
    λ o k is. absurd (let z : ◌≡◌ {A = ℕ} 0 1 = cc in omega arith),
    enters_not n (does_enter s t flush) flush s s' d e made h (token_fits s t flush f fits) traced (same_stands n s s' d e h w state device),
  )
  commit_answers t flush (Err f) traced (inr (fits, inl c)) = (
    λ o k is. absurd (let z : ◌≡◌ {A = ℕ} 0 1 = cc in omega arith),
    enters_not n (does_enter s t flush) flush s s' d e made h (room_fits s t flush f c.refused) traced
        (undone n s s' d e h w (shown s t fits).0 c.device c.state),
  )
  commit_answers t flush (Err f) traced (inr (fits, inr c)) = (
    λ o k is. absurd (let z : ◌≡◌ {A = ℕ} 0 1 = cc in omega arith),
    enters_cut (does_enter s t flush) flush f (shown s t fits).0 (passing s t flush fits c.some c.passes) traced c,
  )

  -- a flush

  -- Its law, and what it keeps.
  abbrev pub FlushKeeps : Result ℕ StoreFault → Type 0
  FlushKeeps r = ((k : ℕ) → r ≡ Ok k → AllCounted (with_barrier made h.entered h.kept)) × Sound n s' e (with_barrier made h.entered h.kept)

  -- one that writes nothing
  flush_none : s' ≡ s → e ≡ d → s.on && leb 1 (array_vec_len s.spool) ≡ false → Traced (flush_plan s) d made e → (with_barrier made h.entered h.kept ≡ h) × Sound n s' e (with_barrier made h.entered h.kept)
  flush_none state device idle traced =
      let empty : made ≡ [] = none_made d e made (subst (λ (b : Bool). Traced (cond b (writing s (spooled s)) []) d made e) idle traced) in
      let is : with_barrier made h.entered h.kept ≡ h = none_settled made h.entered h.kept (ap settles empty) in
      (is, subst (λ (g : History). Sound n s' e g) (sym is) (same_stands n s s' d e h w state device))

  -- the plan of one that writes
  flush_writes : s.on ≡ true → 1 ≤ array_vec_len s.spool → Traced (flush_plan s) d made e → Traced (writing s (spooled s)) d made e
  flush_writes on some traced =
      subst (λ (b : Bool). Traced (cond b (writing s (spooled s)) []) d made e) (and_from s.on (leb 1 (array_vec_len s.spool)) on (le-leb 1 (array_vec_len s.spool) some)) traced

  pub flush_answers : (r : Result ℕ StoreFault) → Traced (flush_plan s) d made e → Flushes s d r s' e → FlushKeeps r
  flush_answers (Ok k) traced (fits, count, inl (zero_is, state, device)) =
      let on = awake s [] fits in
      let empty : array_vec_len s.spool ≡ 0 = omega arith in
      let r = flush_none state device (and_right s.on (leb 1 (array_vec_len s.spool)) (lt-leb 1 (array_vec_len s.spool) (omega arith))) traced in
      (λ j is. subst AllCounted (sym r.0) (empty_kept runs_lay runs_fit runs_none n d s h (rests n s d h w on) empty), r.1)
  flush_answers (Ok k) traced (fits, count, inr (some, done, written, image, closed)) =
      let on = awake s [] fits in
      let barrier = done_settles s.log.places s.log.low s.log.last (spooled s) d e made done (flush_writes on (omega arith) traced) in
      let is : with_barrier made h.entered h.kept ≡ all_kept h.entered = all_settled made h.entered h.kept barrier in
      let r = flush_done runs_lay runs_fit runs_none n d s h (rests n s d h w on) e s' done written image in (
        λ j same. subst AllCounted (sym is) refl,
        subst (λ (g : History). Sound n s' e g) (sym is) (on_stands n s' e (all_kept h.entered) r (λ free. ap declared image ∙ w.free on (sym closed ∙ free))),
      )
  flush_answers (Err f) traced (inl (fits, state, device)) = (
    λ j is. absurd (let z : ◌≡◌ {A = ℕ} 0 1 = cc in omega arith),
    (flush_none state device (and_left s.on (leb 1 (array_vec_len s.spool)) (asleep s f fits)) traced).1,
  )
  flush_answers (Err f) traced (inr (fits, some, c)) =
      let on = awake s [] fits in
      let barrier = cut_settles s.log.places s.log.low s.log.last (spooled s) d e made c.origin c.cut (flush_writes on some traced) in
      let is : with_barrier made h.entered h.kept ≡ h = none_settled made h.entered h.kept barrier in (
        λ j same. absurd (let z : ◌≡◌ {A = ℕ} 0 1 = cc in omega arith),
        subst (λ (g : History). Sound n s' e g) (sym is)
            (off_stands n s' e h c.state.off (flush_cut runs_lay runs_fit runs_none n d s h (rests n s d h w on) c.origin e c.cut)),
      )
