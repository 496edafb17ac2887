-- Strays are cleared: an opening finds the same all the while, and once they are gone the log stands firm.
use Rattle.std.proofs.Common.{◌≡◌, ℕ, zero, suc, ◌+◌, ◌-◌, ◌%◌, ◌<◌, ◌≤◌, Bool, true, false, cond, ◌⊎◌, List, [], ◌∷◌, sym, refl, ap, ◌∙◌, subst, inl, inr, ⊎_elim, mod-lt, arith}
use Rattle.std.proofs.lemmas.Bool.{cases_Bool, cases_lt, ltb-true, lt-ltb}
use Rattle.device.specs.Disk.{Disk, Shown, spoiled, holds, Among}
use Rattle.device.specs.Meaning.{Quiet}
use Rattle.device.specs.Trace.{Act, wrote, settled, Done}
use Rattle.device.proofs.Membership.{among_left, among_split}
use Rattle.record.specs.Entry.{Entry}
use Rattle.journal.specs.Log.{nothing, said, if_serial, log}
use Rattle.journal.specs.Opening.{Here, Names, Runs}
use Rattle.journal.proofs.Places.{kept, in_log, said_zeros, serial_nothing}
use Rattle.recovery.specs.Format.{blank}
use Rattle.recovery.specs.Clearing.{astray, blanking, clearing}
use Rattle.durability.specs.Standing.{Firm, OpensTo, Choice}
use Rattle.durability.specs.Promises.{Cleared, ClearCut}
use Rattle.durability.proofs.Writes.{Steady, Written, Left, steady_append, left_done, left_short, chosen, shown_written, quiet_settled, settling_writes}
use Rattle.durability.proofs.Searches.{greatest_found, gap_found}
use Rattle.durability.proofs.Carried.{HomesKept, usable_kept, makes_kept}
use Rattle.durability.proofs.Opening.{opens}

-- Zeros are written to this sector, since it passes the test and is one of the k sectors from i on.
pub record Blanked (test : ℕ → Bool) (i k j : ℕ) (bytes : List ℕ) : Type 0 where
  pub from : i ≤ j
  pub below : j < i + k
  pub passes : test j ≡ true
  pub zeros : bytes ≡ blank

blanking_steady : (test : ℕ → Bool) (i k : ℕ) → Steady (blanking test i k)
unfolding blanking
blanking_steady test i zero = tt
blanking_steady test i (suc k) =
    let rest = blanking_steady test (i + 1) k in
    both (test i) (blanking test (i + 1) k) rest
  where
    both : (b : Bool) (more : List Act) → Steady more → Steady (cond b (wrote i blank ∷ more) more)
    both true more h = h
    both false more h = h

blanking_only : (test : ℕ → Bool) (i k j : ℕ) (bytes : List ℕ) → Among (wrote j bytes) (blanking test i k) → Blanked test i k j bytes
unfolding blanking
blanking_only test i zero j bytes h = absurd h
blanking_only test i (suc k) j bytes h =
    let more = blanking test (i + 1) k in
    let later : Among (wrote j bytes) more → Blanked test i (suc k) j bytes =
    λ a. let w = blanking_only test (i + 1) k j bytes a in record { from = omega arith; below = omega arith; passes = w.passes; zeros = w.zeros } in
    ⊎_elim
    (λ (t : test i ≡ true).
    ⊎_elim
    (λ (e : wrote j bytes ≡ wrote i blank).
    let at : i ≡ j = cc in
    record { from = omega arith; below = omega arith; passes = subst (λ (x : ℕ). test x ≡ true) at t; zeros = cc })
    later
    (subst (λ (b : Bool). Among (wrote j bytes) (cond b (wrote i blank ∷ more) more)) t h))
    (λ (t : test i ≡ false). later (subst (λ (b : Bool). Among (wrote j bytes) (cond b (wrote i blank ∷ more) more)) t h))
    (cases_Bool (test i))

blanking_all : (test : ℕ → Bool) (i k j : ℕ) → i ≤ j → j < i + k → test j ≡ true → Among (wrote j blank) (blanking test i k)
unfolding blanking
blanking_all test i zero j a b t = absurd (omega arith)
blanking_all test i (suc k) j a b t =
    let more = blanking test (i + 1) k in
    ⊎_elim
    (λ (h : i < j). widen (test i) more (blanking_all test (i + 1) k j (omega arith) (omega arith) t))
    (λ (h : j ≤ i).
    let e : j ≡ i = omega arith in
    let u : test i ≡ true = subst (λ (x : ℕ). test x ≡ true) e t in
    subst (λ (c : Bool). Among (wrote j blank) (cond c (wrote i blank ∷ more) more)) (sym u) (inl (ap (λ (x : ℕ). wrote x blank) e)))
    (cases_lt i j)
  where
    widen : (c : Bool) (more : List Act) → Among (wrote j blank) more → Among (wrote j blank) (cond c (wrote i blank ∷ more) more)
    widen true more h = inr h
    widen false more h = h

-- the same of a clearing
pub clearing_steady : (n : ℕ) (shows : ℕ → Shown) (c : ℕ) → Steady (clearing n shows c)
clearing_steady n shows c = steady_append (blanking (astray n shows c) 0 n) (settled ∷ []) (blanking_steady (astray n shows c) 0 n) tt

clearing_only : (n : ℕ) (shows : ℕ → Shown) (c j : ℕ) (bytes : List ℕ) → Among (wrote j bytes) (clearing n shows c) → Blanked (astray n shows c) 0 n j bytes
clearing_only n shows c j bytes h =
    ⊎_elim
    (λ first. blanking_only (astray n shows c) 0 n j bytes first)
    (λ last. absurd (settling_writes j bytes last))
    (among_split (wrote j bytes) (blanking (astray n shows c) 0 n) (settled ∷ []) h)

clearing_all : (n : ℕ) (shows : ℕ → Shown) (c j : ℕ) → j < n → astray n shows c j ≡ true → Among (wrote j blank) (clearing n shows c)
clearing_all n shows c j below t =
    among_left (wrote j blank) (blanking (astray n shows c) 0 n) (settled ∷ []) (blanking_all (astray n shows c) 0 n j (omega arith) (omega arith) t)

-- What may stand of a log whose strays are being cleared: all of it, but for some records above c.
pub record Thinned (l l' : ℕ → Entry) (c : ℕ) : Type 0 where
  pub either : (s : ℕ) → (l' s ≡ l s) ⊎ ((l' s).kind ≡ 0)
  pub kept : (s : ℕ) → s ≤ c → Here l s → l' s ≡ l s

-- a place that was written says nothing
gone : (n p : ℕ) (x : Shown) (bytes : List ℕ) → bytes ≡ blank → (x ≡ holds bytes) ⊎ (x ≡ spoiled) → said n p x ≡ nothing
gone n p x bytes zeros (inl e) = ap (λ (y : Shown). said n p y) (e ∙ ap holds zeros) ∙ said_zeros n p
gone n p x bytes zeros (inr e) = ap (λ (y : Shown). said n p y) e

pub thinned : (n : ℕ) (d e : Disk) (c : ℕ) → Quiet d → Left d (clearing n d.shows c) e → (shows : ℕ → Shown) → Choice e shows → Thinned (log n d.shows) (log n shows) c
thinned n d e c quiet left shows choice =
    let acts = clearing n d.shows c in
    let at = chosen d e acts quiet left shows choice in
    record {
      either = λ s.
          ⊎_elim
          (λ (same : shows (s % n) ≡ d.shows (s % n)). inl (ap (λ (x : Shown). if_serial s (said n (s % n) x)) same))
          (λ (w : Written acts (s % n) (shows (s % n))).
          let b = clearing_only n d.shows c (s % n) w.0 w.1 in
          let none = gone n (s % n) (shows (s % n)) w.0 b.zeros w.2 in
          inr (ap (λ (x : Entry). x.kind) (serial_nothing s (said n (s % n) (shows (s % n))) none)))
          (at (s % n));
      kept = λ s low here.
          ⊎_elim
          (λ (same : shows (s % n) ≡ d.shows (s % n)). ap (λ (x : Shown). if_serial s (said n (s % n) x)) same)
          (λ (w : Written acts (s % n) (shows (s % n))).
          let b = clearing_only n d.shows c (s % n) w.0 w.1 in
          let above = ltb-true c (said n (s % n) (d.shows (s % n))).serial b.passes in
          absurd (omega (arith, above, (in_log n d.shows s here).0)))
          (at (s % n));
    }

still_here : (l l' : ℕ → Entry) (c s : ℕ) → Thinned l l' c → Here l' s → l' s ≡ l s
still_here l l' c s t h = ⊎_elim (λ e. e) (λ none. absurd (omega arith)) (t.either s)

was_here : (l l' : ℕ → Entry) (c s : ℕ) → Thinned l l' c → Here l' s → Here l s
was_here l l' c s t h = subst (λ (x : Entry). 1 ≤ x.kind) (still_here l l' c s t h) h

-- a thinner log names the same low, since every record from c up does,
thinned_names : (l l' : ℕ → Entry) (low c : ℕ) → Thinned l l' c → Here l c → ((s : ℕ) → c ≤ s → Here l s → (l s).low ≡ low) → Names l low → Names l' low
thinned_names l l' low c t here named names =
    let same = t.kept c (omega arith) here in
    let bound : (s : ℕ) → 1 ≤ (l' s).kind → s ≤ c + (names.top - c) = λ s h. omega (arith, names.greatest s (was_here l l' c s t h)) in
    let found = greatest_found (λ s. (l' s).kind) c (names.top - c) (subst (λ (x : Entry). 1 ≤ x.kind) (sym same) here) bound in
    let top = found.0 in
    let g = found.1 in
    record {
      top = top;
      here = g.here;
      greatest = g.greatest;
      named = ap (λ (x : Entry). x.low) (still_here l l' c top t g.here) ∙ named top g.from (was_here l l' c top t g.here);
    }

-- and its run ends with the same c, though perhaps sooner
thinned_runs : (l l' : ℕ → Entry) (low c : ℕ) → Thinned l l' c → Runs l low c → Runs l' low c
thinned_runs l l' low c t r =
    let from = r.from in
    let to = r.to in
    let here : (s : ℕ) → low ≤ s → s ≤ c → l' s ≡ l s = λ s a b. t.kept s b (r.unbroken s a (omega arith)) in
    let next : r.last + 1 ≡ c + (r.last - c) + 1 = omega arith in
    let gap : (l' (c + (r.last - c) + 1)).kind ≡ 0 =
    ⊎_elim
    (λ (e : l' (r.last + 1) ≡ l (r.last + 1)). subst (λ (x : ℕ). (l' x).kind ≡ 0) next (ap (λ (x : Entry). x.kind) e ∙ r.gap))
    (λ (none : (l' (r.last + 1)).kind ≡ 0). subst (λ (x : ℕ). (l' x).kind ≡ 0) next none)
    (t.either (r.last + 1)) in
    let found = gap_found (λ s. (l' s).kind) c (r.last - c) (subst (λ (x : Entry). 1 ≤ x.kind) (sym (here c from (omega arith))) (r.unbroken c from to)) gap in
    let g = found.2 in
    let sooner = found.1 in
    record {
      last = found.0;
      from = from;
      to = g.to;
      unbroken = λ s a b.
          ⊎_elim
          (λ (h : c < s). g.unbroken s (omega arith) b)
          (λ (h : s ≤ c). subst (λ (x : Entry). 1 ≤ x.kind) (sym (here s a h)) (r.unbroken s a (omega arith)))
          (cases_lt c s);
      gap = g.gap;
      ends = subst (λ (x : Entry). 2 ≤ x.kind) (sym (here c from (omega arith))) r.ends;
      greatest = λ s a b.
          ⊎_elim
          (λ (e : l' s ≡ l s). subst (λ (x : Entry). x.kind ≤ 1) (sym e) (r.greatest s a (omega arith)))
          (λ (none : (l' s).kind ≡ 0). omega arith)
          (t.either s);
    }

-- so an opening finds the same
pub thinned_opens : (n : ℕ) (shows shows' : ℕ → Shown) (low c ordinal : ℕ) (memory : ℕ → ℕ) → OpensTo n shows low c ordinal memory → Thinned (log n shows) (log n shows') c → ((p : ℕ) → shows' (n + p) ≡ shows (n + p)) → OpensTo n shows' low c ordinal memory
thinned_opens n shows shows' low c ordinal memory o t homes =
    let l = log n shows in
    let l' = log n shows' in
    let f = o.finds in
    let r = f.run in
    let from = r.from in
    let to = r.to in
    let here : (s : ℕ) → low ≤ s → s ≤ c → Here l s = λ s a b. r.unbroken s a (omega arith) in
    let same : (s : ℕ) → low ≤ s → s ≤ c → l' s ≡ l s = λ s a b. t.kept s b (here s a b) in
    let kept-homes : HomesKept n shows shows' low c = λ p _. inl (homes p) in
    opens n shows' low c ordinal memory
    record {
      names = thinned_names l l' low c t (here c from (omega arith)) o.named f.names;
      mark = ap (λ (x : Entry). x.kind) (same low (omega arith) from) ∙ f.mark;
      run = thinned_runs l l' low c t r;
      homes = λ p small. usable_kept n shows shows' low c p small same kept-homes (f.homes p small);
      number = ap (λ (x : Entry). x.ordinal) (same c from (omega arith)) ∙ sym f.number;
      makes = λ i small. makes_kept n shows shows' low c i small from here same kept-homes ∙ sym (f.memory_is i small) ∙ o.agrees i small;
      named = λ s a h. ap (λ (x : Entry). x.low) (still_here l l' c s t h) ∙ o.named s a (was_here l l' c s t h);
    }

-- what may stand in the clearing
clearing_opens : (n : ℕ) (d e : Disk) (low c ordinal : ℕ) (memory : ℕ → ℕ) → OpensTo n d.shows low c ordinal memory → Quiet d → Left d (clearing n d.shows c) e → (shows : ℕ → Shown) → Choice e shows → OpensTo n shows low c ordinal memory
clearing_opens n d e low c ordinal memory o quiet left shows choice =
    let acts = clearing n d.shows c in
    thinned_opens n d.shows shows low c ordinal memory o (thinned n d e c quiet left shows choice)
    (λ p.
    ⊎_elim
    (λ same. same)
    (λ (w : Written acts (n + p) (shows (n + p))). absurd (omega (arith, (clearing_only n d.shows c (n + p) w.0 w.1).below)))
    (chosen d e acts quiet left shows choice (n + p)))

-- what opens and has nothing above c stands firm
pub opens_firm : (n : ℕ) (shows : ℕ → Shown) (low c ordinal : ℕ) (memory : ℕ → ℕ) → 1 ≤ n → OpensTo n shows low c ordinal memory → ((s : ℕ) → Here (log n shows) s → s ≤ c) → Firm n shows low c ordinal memory
opens_firm n shows low c ordinal memory some o above =
    let f = o.finds in
    let r = f.run in
    let to = r.to in
    let here = r.unbroken c r.from to in
    let named = o.named c (omega arith) here in
    let k = kept n shows c here in
    record {
      some = some;
      from = r.from;
      near = omega (arith, k.near, named);
      mark = f.mark;
      unbroken = λ s a b. r.unbroken s a (omega arith);
      ends = r.ends;
      above = above;
      named = named;
      number = sym f.number;
      homes = f.homes;
      makes = λ i small. sym (f.memory_is i small) ∙ o.agrees i small;
    }

-- once a clearing is done nothing is above c
cleared_above : (n : ℕ) (d e : Disk) (c : ℕ) → 1 ≤ n → Quiet d → Done d (clearing n d.shows c) e → (s : ℕ) → Here (log n e.shows) s → s ≤ c
cleared_above n d e c some quiet done s here =
    let acts = clearing n d.shows c in
    let calm = clearing_steady n d.shows c in
    let p : ℕ = s % n in
    let t = thinned n d e c quiet (left_done d e acts calm done) e.shows (λ i. inl refl) in
    let was = (in_log n d.shows s (was_here (log n d.shows) (log n e.shows) c s t here)).0 in
    let is = (in_log n e.shows s here).1 in
    ⊎_elim
    (λ (h : c < s).
    let stray : astray n d.shows c p ≡ true = lt-ltb c (said n p (d.shows p)).serial (omega arith) in
    let zeros : e.shows p ≡ holds blank =
    shown_written d e acts p blank calm (clearing_all n d.shows c p (mod-lt s (omega arith)) stray)
    (λ other w. (clearing_only n d.shows c p other w).zeros) done in
    let none : log n e.shows s ≡ nothing = is ∙ gone n p (e.shows p) blank refl (inl zeros) in
    absurd (omega (arith, here, ap (λ (x : Entry). x.kind) none)))
    (λ h. h)
    (cases_lt c s)

pub cleared : Cleared
cleared n d e low c ordinal memory some o quiet done =
    let acts = clearing n d.shows c in (
      opens_firm n e.shows low c ordinal memory some
          (clearing_opens n d e low c ordinal memory o quiet (left_done d e acts (clearing_steady n d.shows c) done) e.shows (λ i. inl refl))
          (cleared_above n d e c some quiet done),
      quiet_settled d e (blanking (astray n d.shows c) 0 n) done,
    )

pub clear_cut : ClearCut
clear_cut n d e o low c ordinal memory some opened quiet short shows choice =
    clearing_opens n d e low c ordinal memory opened quiet (left_short d e (clearing n d.shows c) o (clearing_steady n d.shows c) short) shows choice
