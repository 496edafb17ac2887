-- A truncation as one event: the store at rest again with all kept, or, where power cuts it, nothing kept lost.
use Rattle.std.proofs.Common.{◌≡◌, ℕ, ◌+◌, ◌%◌, ◌≤◌, Bool, true, false, cond, eqb, leb, ◌⊎◌, ◌≢◌, List, [], ◌∷◌, ◌++◌, length, get_or, take, Some, None, Ok, Err, Option, Result, sym, refl, ap, ◌∙◌, subst, inl, inr, ⊎_elim, arith}
use Rattle.arrayvec.specs.ArrayVec.{array_vec_len}
use mathlib.Core.Path.{fun_ext}
use Rattle.std.proofs.lemmas.Bool.{cases_Bool, both_ways, eqb-true, cond-true, cond-false, cond_both, and_from, and_left, and_right, and_parts, le-leb, lt-leb}
use Rattle.std.proofs.lemmas.List.{length-append, take_all, drop_all}
use Rattle.device.specs.Disk.{Disk, Plate, Shown}
use Rattle.device.specs.Meaning.{Quiet}
use Rattle.device.specs.Trace.{Act, wrote, Done, CutShort}
use Rattle.device.proofs.Plans.{done_plate}
use Rattle.record.specs.Entry.{laid_out}
use Rattle.recovery.specs.Format.{mark}
use Rattle.recovery.specs.Opening.{Divides}
use Rattle.durability.specs.Items.{appending}
use Rattle.durability.specs.Promises.{marking}
use Rattle.durability.specs.Standing.{Firm, OpensTo, Choice}
use Rattle.durability.proofs.Writes.{done_split, cut_split}
use Rattle.durability.proofs.Opening.{firm_opens}
use Rattle.durability.proofs.Marks.{marked, mark_cut}
use Rattle.image.specs.Calls.{declared}
use Rattle.image.specs.declared.state.Image.{Image}
use Rattle.image.proofs.Cutting.{runs_lay, runs_fit, runs_none}
use Rattle.transactions.specs.declared.fault.StoreFault.{StoreFault}
use Rattle.transactions.specs.declared.state.State.{State}
use Rattle.transactions.specs.Calls.{writing}
use Rattle.transactions.specs.Rows.{first_fit, Refuses, busy, serials}
use Rattle.transactions.specs.State.{spooled}
use Rattle.transactions.specs.Truncation.{dirty_pages, due_pages, crowded, covered_to, truncate_rows, flushing, covering, going_home, truncation, Truncated, Truncates}
use Rattle.law.specs.Transactions.{Transaction, made_of, batch}
use Rattle.law.specs.Events.{fits_none, does_truncate, truncate_plan}
use Rattle.law.proofs.History.{History, Resting, Safe, Sound, settles, with_barrier, AllCounted}
use Rattle.law.proofs.Openings.{short_plate}
use Rattle.law.proofs.Committing.{all_kept, none_spooled, empty_kept, flush_cut}
use Rattle.law.proofs.Cuts.{CutAt, Traced, cut_off, short_at, CutLater, cut_parts, none_made, done_on, settles_all, settles_left, cut_settles}
use Rattle.law.proofs.Standing.{rests, safe, same_stands, on_stands, off_stands, awake}
use Rattle.law.proofs.Covering.{end_of}
use Rattle.law.proofs.Truncating.{Clear, clear, Flushed, flushed, covered, cover_cut, at_home, home_short, recovers, memory_is, firm_as}

module _ (s : State) (d : Disk) (h : History) (r : Resting s.log.places d s h) (calm : declared s.image ≡ []) (free : Clear s (length (due_pages s d.shows))) where
  abbrev n : ℕ
  n = s.log.places

  abbrev due : List ℕ
  due = due_pages s d.shows

  abbrev dirty : List ℕ
  dirty = dirty_pages s d.shows

  abbrev end : ℕ
  end = end_of s d.shows

  abbrev memory : ℕ → ℕ
  memory i = get_or s.image.memory i 0

  -- what is done once what waits is written
  abbrev last_acts : List Act
  last_acts = marking n end s.log.ordinal

  abbrev later_acts : List Act
  later_acts = covering s due ++ (going_home s dirty ++ last_acts)

  abbrev Opens : (ℕ → Shown) → Type 0
  Opens shows = (at : ℕ) × (c : ℕ) × OpensTo n shows at c s.log.ordinal memory

  short_later : (m : Disk) → Flushed s d h r calm free m → (o : ℕ) (e : Disk) → CutShort m later_acts o e → Safe n e (all_kept h.entered)
  short_later m w o e cut =
      recovers s d h r calm free e (short_plate m e later_acts o cut ∙ w.stands.plate) (opens (cut_split m e (covering s due) (going_home s dirty ++ last_acts) o cut))
    where
      in_mark : (m2 m3 : Disk) → Done m (covering s due) m2 → Done m2 (going_home s dirty) m3 → CutShort m3 last_acts o e → (shows : ℕ → Shown) → Choice e shows → Opens shows
      in_mark m2 m3 first second k shows choice =
          let c = covered s d h r calm free m w m2 first in
          let b = at_home s d h r calm free m2 c.0 c.1 m3 second in
          ⊎_elim
          (λ old. (s.log.low, end, old))
          (λ new. (end + 1, end + 1, new))
          (mark_cut n m3 e o s.log.low end s.log.ordinal memory b.1 k shows choice)

      opens : CutShort m (covering s due) o e ⊎ ((m2 : Disk) × Done m (covering s due) m2 × CutShort m2 (going_home s dirty ++ last_acts) o e) → (shows : ℕ → Shown) → Choice e shows → Opens shows
      opens (inl k) shows choice = cover_cut s d h r calm free m w o e k shows choice
      opens (inr (m2, first, k)) shows choice =
          let c = covered s d h r calm free m w m2 first in
          ⊎_elim
          (λ a. home_short s d h r calm free m2 c.0 c.1 o e a shows choice)
          (λ (b : (m3 : Disk) × Done m2 (going_home s dirty) m3 × CutShort m3 last_acts o e). in_mark m2 b.0 first b.1 b.2 shows choice)
          (cut_split m2 e (going_home s dirty) last_acts o k)

  -- all stages, one after another
  record Ended (e : Disk) : Type 0 where
    pub firm : Firm n e.shows (end + 1) (end + 1) s.log.ordinal memory
    pub quiet : Quiet e
    pub plate : e.plate ≡ d.plate
    pub on : e.on ≡ true

  ended : (e : Disk) → Done d (truncation s d.shows) e → Ended e
  ended e done =
      let one = done_split d e (flushing s) later_acts done in
      let two = done_split one.0 e (covering s due) (going_home s dirty ++ last_acts) one.2 in
      let three = done_split two.0 e (going_home s dirty) last_acts two.2 in
      let c = covered s d h r calm free one.0 (flushed s d h r calm free one.0 one.1) two.0 two.1 in
      let b = at_home s d h r calm free two.0 c.0 c.1 three.0 three.1 in
      let k = marked n three.0 e s.log.low end s.log.ordinal memory b.1 three.2 in
      record {
        firm = k.0;
        quiet = k.1;
        plate = done_plate three.0 e last_acts three.2 ∙ b.0.plate;
        on = done_on three.0 e (wrote ((end + 1) % n) (laid_out (mark (record { serial = end + 1; low = end + 1; ordinal = s.log.ordinal }))) ∷ []) three.2;
      }

  -- A truncation that is done keeps all that is entered.
  truncate_done : (e : Disk) (s' : State) → Done d (truncation s d.shows) e → Truncated s (length due) s' → Resting n e s' (all_kept h.entered)
  truncate_done e s' done left =
      let w = ended e done in
      record {
        on = left.on;
        places = left.log.places_is;
        divides = subst (λ (p : Plate). Divides p.sectors n) (sym w.plate) r.divides;
        quiet = w.quiet;
        firm =
            subst (λ (k : ℕ). Firm n e.shows k s'.log.last (length h.entered) (made_of (take (length h.entered) h.entered))) (sym left.log.low_is)
            (firm_as n e.shows (end + 1) (end + 1) s.log.ordinal s'.log.last (length h.entered) memory (made_of (take (length h.entered) h.entered)) (sym left.log.last_is) r.number
            (λ i small. memory_is s d h r calm free i small ∙ ap (λ ts. made_of ts i) (sym (take_all (length h.entered) h.entered (omega arith))))
            w.firm);
        few = omega arith;
        proper = r.proper;
        number = left.log.ordinal_is ∙ r.number;
        waits = none_spooled s' left.empty ∙ sym (ap (λ (ts : List Transaction). batch (length h.entered) ts) (drop_all (length h.entered) h.entered (omega arith)));
        room = omega (arith, left.log.low_is, left.log.last_is, left.empty, s.log.least);
        before = λ i small. ap (λ (x : Image). get_or x.before i 0) left.image ∙ r.before i small;
      }

  -- Once what waits is written, all that is entered is kept.
  barrier_after : (more : List Act) → with_barrier (flushing s ++ more) h.entered h.kept ≡ all_kept h.entered
  barrier_after more =
      let none? = eqb (array_vec_len s.spool) 0 in
      let acts = writing s (spooled s) in
      ⊎_elim
      (λ (e : none? ≡ true).
      let all = empty_kept runs_lay runs_fit runs_none n d s h r (eqb-true (array_vec_len s.spool) 0 e) in
      ap (λ (k : ℕ). record { entered = h.entered; kept = k })
      (cond_both (settles (flushing s ++ more)) (length h.entered) h.kept (λ k. k ≡ length h.entered) (λ _. refl) (λ _. all)))
      (λ (e : none? ≡ false).
      let is : settles (flushing s ++ more) ≡ true =
      ap (λ (xs : List Act). settles (xs ++ more)) (cond-false none? [] acts e) ∙ settles_left acts more (settles_all (appending s.log.places s.log.low s.log.last (spooled s))) in
      ap (λ (b : Bool). record { entered = h.entered; kept = cond b (length h.entered) h.kept }) is)
      (cases_Bool none?)

  -- Where power cuts it, all that is entered is kept if what waits was written, and else what was kept is.
  truncate_cut : (made : List Act) (o : ℕ) (e : Disk) → CutAt d (truncation s d.shows) made o e → Safe n e (with_barrier made h.entered h.kept)
  truncate_cut made o e cut = ⊎_elim first later (cut_parts d e (flushing s) later_acts made o cut)
    where
      none? : Bool
      none? = eqb (array_vec_len s.spool) 0

      acts : List Act
      acts = writing s (spooled s)

      first : CutAt d (flushing s) made o e → Safe n e (with_barrier made h.entered h.kept)
      first k =
          ⊎_elim
          (λ (none : none? ≡ true).
          let c = subst (λ (p : List Act). CutAt d p made o e) (cond-true none? [] acts none) k in
          absurd (omega (arith, length-append made (c.act ∷ c.rest), ap length c.all)))
          (λ (some : none? ≡ false).
          let c = subst (λ (p : List Act). CutAt d p made o e) (cond-false none? [] acts some) k in
          let short = short_at d e acts made o c in
          let barrier = cut_settles n s.log.low s.log.last (spooled s) d e made o short (inr (o, c)) in
          subst (λ (b : Bool). Safe n e (record { entered = h.entered; kept = cond b (length h.entered) h.kept })) (sym barrier)
          (flush_cut runs_lay runs_fit runs_none n d s h r o e short))
          (cases_Bool none?)

      later : CutLater d (flushing s) later_acts made o e → Safe n e (with_barrier made h.entered h.kept)
      later k =
          subst (λ (xs : List Act). Safe n e (with_barrier xs h.entered h.kept)) (sym k.made_are)
          (subst (λ (g : History). Safe n e g) (sym (barrier_after k.more))
          (short_later k.between (flushed s d h r calm free k.between k.before) o e (short_at k.between e later_acts k.more o k.cut)))

  -- Done it is safe too.
  truncate_safe : (e : Disk) → Done d (truncation s d.shows) e → Safe n e (all_kept h.entered)
  truncate_safe e done =
      let w = ended e done in
      recovers s d h r calm free e w.plate
      (λ shows choice. (end + 1, end + 1, subst (λ (f : ℕ → Shown). OpensTo n f (end + 1) (end + 1) s.log.ordinal memory) (sym (fun_ext (λ i. w.quiet i (shows i) (choice i)))) (firm_opens n e.shows (end + 1) (end + 1) s.log.ordinal memory w.firm)))

-- when a truncation writes, and when it doesn't

abbrev fit : State → Disk → Option (ℕ × List ℕ)
fit s d = first_fit (truncate_rows s (length (due_pages s d.shows)))

abbrev pages : State → Disk → ℕ
pages s d = length (dirty_pages s d.shows)

pub writes : (s : State) (d : Disk) → first_fit (truncate_rows s (length (due_pages s d.shows))) ≡ None → dirty_pages s d.shows ≢ [] → does_truncate s d.shows ≡ true
writes s d passes some =
    and_from (fits_none (fit s d)) (leb 1 (pages s d)) (ap fits_none passes) (le-leb 1 (pages s d) (at_least (dirty_pages s d.shows) some))
  where
    at_least : (ps : List ℕ) → ps ≢ [] → 1 ≤ length ps
    at_least [] h = absurd (h refl)
    at_least (p ∷ ps) h = omega arith

pub idle_clean : (s : State) (d : Disk) → dirty_pages s d.shows ≡ [] → does_truncate s d.shows ≡ false
idle_clean s d clean =
    and_right (fits_none (fit s d)) (leb 1 (pages s d)) (lt-leb 1 (pages s d) (omega (arith, ap length clean)))

pub idle_refused : (s : State) (d : Disk) (f : StoreFault) → Refuses (truncate_rows s (length (due_pages s d.shows))) f → does_truncate s d.shows ≡ false
idle_refused s d f fits = and_left (fits_none (fit s d)) (leb 1 (pages s d)) (ap fits_none fits)

none_of : (o : Option (ℕ × List ℕ)) → fits_none o ≡ true → o ≡ None
none_of None e = refl
none_of (Some f) e = absurd (both_ways false refl e)

-- one that writes is made by a store that is on
pub does_on : (s : State) (d : Disk) → does_truncate s d.shows ≡ true → s.on ≡ true
does_on s d does =
    let passes = none_of (fit s d) (and_parts (fits_none (fit s d)) (leb 1 (pages s d)) does).0 in
    awake s (busy s ∷ serials s 0 ∷ crowded s (length (due_pages s d.shows)) ∷ []) passes

-- what a truncation does once what waits is written
abbrev pub after_flush : State → Disk → List Act
after_flush s d =
    covering s (due_pages s d.shows)
    ++ (going_home s (dirty_pages s d.shows) ++ marking s.log.places (covered_to s (length (due_pages s d.shows))) s.log.ordinal)

none_moved : (d e : Disk) (made : List Act) → Traced [] d made e → e ≡ d
none_moved d e made (inl (_, same)) = same
none_moved d e made (inr (o, c)) = absurd (omega (arith, length-append made (c.act ∷ c.rest), ap length c.all))

module _ (n : ℕ) (s s' : State) (d e : Disk) (h : History) (w : Sound n s d h) (made : List Act) where
  abbrev After : History
  After = with_barrier made h.entered h.kept

  -- The law of a truncation, and what it keeps.
  abbrev pub TruncateKeeps : Result ℕ StoreFault → Type 0
  TruncateKeeps r = ((k : ℕ) → r ≡ Ok k → AllCounted After) × Sound n s' e After

  abbrev pub Made : Type 0
  Made = Traced (truncate_plan s d.shows) d made e

  -- one that writes nothing
  traced_if : (b : Bool) → does_truncate s d.shows ≡ b → Traced (truncate_plan s d.shows) d made e → Traced (cond b (truncation s d.shows) []) d made e
  traced_if b is traced = subst (λ (c : Bool). Traced (cond c (truncation s d.shows) []) d made e) is traced

  nothing_made : does_truncate s d.shows ≡ false → Made → made ≡ []
  nothing_made idle traced = none_made d e made (traced_if false idle traced)

  after_none : made ≡ [] → After ≡ h
  after_none none = ap (λ (xs : List Act). with_barrier xs h.entered h.kept) none

  -- how the store rests where it is on, by its own number of places
  resting : s.on ≡ true → Resting s.log.places d s h
  resting on = let r = rests n s d h w on in subst (λ (k : ℕ). Resting k d s h) (sym r.places) r

  -- one that was done made all of its plan
  module _ (free : Clear s (length (due_pages s d.shows))) where
    abbrev rest : Resting s.log.places d s h
    rest = resting free.on

    abbrev calm : declared s.image ≡ []
    calm = w.free free.on free.free

    places : s.log.places ≡ n
    places = (rests n s d h w free.on).places

    all_made : Done d (truncation s d.shows) e → made ≡ truncation s d.shows → After ≡ all_kept h.entered
    all_made done same = ap (λ (xs : List Act). with_barrier xs h.entered h.kept) same ∙ barrier_after s d h rest calm free (later_acts s d h rest calm free)

    done_made : Done d (truncation s d.shows) e → Traced (truncation s d.shows) d made e → After ≡ all_kept h.entered
    done_made done (inl (same, _)) = all_made done same
    done_made done (inr (o, c)) = absurd (both_ways e.on (cut_off c.act c.reached e o c.cut) (ended s d h rest calm free e done).on)

    traced_safe : Traced (truncation s d.shows) d made e → Safe n e After
    traced_safe traced = subst (λ (k : ℕ). Safe k e After) places (go traced)
      where
        go : Traced (truncation s d.shows) d made e → Safe s.log.places e After
        go (inl (same, done)) = subst (λ (g : History). Safe s.log.places e g) (sym (all_made done same)) (truncate_safe s d h rest calm free e done)
        go (inr (o, c)) = truncate_cut s d h rest calm free made o e c

  -- what it leaves where power failed
  cut_stands : Made → Safe n e After
  cut_stands traced =
      ⊎_elim
      (λ (does : does_truncate s d.shows ≡ true).
      let passes = none_of (fit s d) (and_parts (fits_none (fit s d)) (leb 1 (pages s d)) does).0 in
      traced_safe (clear s (length (due_pages s d.shows)) passes) (traced_if true does traced))
      (λ (idle : does_truncate s d.shows ≡ false).
      let t = traced_if false idle traced in
      subst (λ (g : History). Safe n e g) (sym (after_none (none_made d e made t)))
      (subst (λ (v : Disk). Safe n v h) (sym (none_moved d e made t)) (safe n s d h w)))
      (cases_Bool (does_truncate s d.shows))

  pub truncate_answers : (r : Result ℕ StoreFault) → Made → Truncates s d r s' e → TruncateKeeps r
  truncate_answers (Ok k) traced (passes, inl c) =
      let on = awake s (busy s ∷ serials s 0 ∷ crowded s (length (due_pages s d.shows)) ∷ []) passes in
      let is = after_none (nothing_made (idle_clean s d c.clean) traced) in (
        λ j same. subst AllCounted (sym is) (empty_kept runs_lay runs_fit runs_none n d s h (rests n s d h w on) c.empty),
        subst (λ (g : History). Sound n s' e g) (sym is) (same_stands n s s' d e h w c.state c.device),
      )
  truncate_answers (Ok k) traced (passes, inr c) =
      let free = clear s (length (due_pages s d.shows)) passes in
      let is = done_made free c.done (traced_if true (writes s d passes c.some) traced) in
      let left = truncate_done s d h (resting free.on) (w.free free.on free.free) free e s' c.done c.state in
      let rest = subst (λ (k : ℕ). Resting k e s' (all_kept h.entered)) (places free) left in (
        λ j same. subst AllCounted (sym is) refl,
        subst (λ (g : History). Sound n s' e g) (sym is) (on_stands n s' e (all_kept h.entered) rest (λ _. ap declared c.state.image ∙ w.free free.on free.free)),
      )
  truncate_answers (Err f) traced (inl (fits, state, device)) =
      let is = after_none (nothing_made (idle_refused s d f fits) traced) in (
        λ j same. absurd (let z : ◌≡◌ {A = ℕ} 0 1 = cc in omega arith),
        subst (λ (g : History). Sound n s' e g) (sym is) (same_stands n s s' d e h w state device),
      )
  truncate_answers (Err f) traced (inr c) = (
    λ j same. absurd (let z : ◌≡◌ {A = ℕ} 0 1 = cc in omega arith),
    off_stands n s' e After c.state.off (cut_stands traced),
  )
