-- What an opening finds where a record is missing.
use Rattle.std.proofs.Common.{◌≡◌, ◌≢◌, ℕ, zero, suc, ◌+◌, ◌-◌, ◌%◌, ◌<◌, ◌≤◌, Bool, cond, ltb, ◌⊎◌, sym, refl, ap, ◌∙◌, subst, inl, inr, ⊎_elim, mod-lt, arith}
use Rattle.std.proofs.Math.Nat.{mod-eq_of_lt}
use Rattle.std.proofs.lemmas.Bool.{cases_eq, cases_lt, lt-ltb, le-ltb}
use Rattle.device.specs.Disk.{Shown}
use Rattle.record.specs.Entry.{Entry}
use Rattle.journal.specs.Log.{nothing, said, if_serial, log}
use Rattle.journal.specs.Memory.{replayed, from_home}
use Rattle.journal.specs.Opening.{Here, Names, Runs, strays}
use Rattle.journal.proofs.Places.{in_log, serial_here}
use Rattle.journal.proofs.Unique.{same_low, same_end}
use Rattle.durability.proofs.Opening.{opens}
use Rattle.edges.specs.Gaps.{Lies, Holds, SpoiledBetween, NoLastPart, Ends}

-- what is said at a place counts as a stray where its serial is above c
stray_above : (n : ℕ) (shows : ℕ → Shown) (c k v : ℕ) → c < v → (said n k (shows k)).serial ≡ v → strays n shows c (suc k) ≡ 1 + strays n shows c k
unfolding strays
stray_above n shows c k v h e =
    let t = lt-ltb c v h in
    ap (λ (x : ℕ). cond (ltb c x) 1 0 + strays n shows c k) e ∙ ap (λ (x : Bool). cond x 1 0 + strays n shows c k) t

no_stray : (n : ℕ) (shows : ℕ → Shown) (c k v : ℕ) → v ≤ c → (said n k (shows k)).serial ≡ v → strays n shows c (suc k) ≡ strays n shows c k
unfolding strays
no_stray n shows c k v h e =
    let t = le-ltb c v h in
    ap (λ (x : ℕ). cond (ltb c x) 1 0 + strays n shows c k) e ∙ ap (λ (x : Bool). cond x 1 0 + strays n shows c k) t
    ∙ (let z : 0 + strays n shows c k ≡ strays n shows c k = omega arith in z)

-- places that say nothing hold no strays
no_strays : (n : ℕ) (shows : ℕ → Shown) (c m j : ℕ) → ((p : ℕ) → m ≤ p → p < m + j → said n p (shows p) ≡ nothing) → strays n shows c (m + j) ≡ strays n shows c m
no_strays n shows c m zero silent = ap (strays n shows c) (omega arith)
no_strays n shows c m (suc j) silent =
    ap (strays n shows c) (omega arith)
    ∙ no_stray n shows c (m + j) 0 (omega arith) (ap (λ (e : Entry). e.serial) (silent (m + j) (omega arith) (omega arith)))
    ∙ no_strays n shows c m j (λ p a b. silent p a (omega (arith, b)))

module _ (n : ℕ) (shows : ℕ → Shown) (kind other kind' : ℕ) (after : 2 < other) (near : other < 160) (h : Holds n shows kind other kind') where
  -- a record with a serial below n lies at that place
  there : (s k : ℕ) → s < n → Lies n shows s k → log n shows s ≡ said n s (shows s)
  there s k below lies =
      ap (λ (p : ℕ). if_serial s (said n p (shows p))) (mod-eq_of_lt below)
      ∙ serial_here s (said n s (shows s)) (said n s (shows s)) refl lies.its_serial

  kind_there : (s k : ℕ) → s < n → Lies n shows s k → (log n shows s).kind ≡ k
  kind_there s k below lies = ap (λ (e : Entry). e.kind) (there s k below lies) ∙ lies.its_kind

  low_there : (s k : ℕ) → s < n → Lies n shows s k → (log n shows s).low ≡ 1
  low_there s k below lies = ap (λ (e : Entry). e.low) (there s k below lies) ∙ lies.its_low

  -- the log has these records alone
  alone : (s : ℕ) → Here (log n shows) s → (s ≡ 1) ⊎ (s ≡ 2) ⊎ (s ≡ other)
  alone s here =
      let p = s % n in
      let found = in_log n shows s here in
      let at : (q : ℕ) (k : ℕ) → Lies n shows q k → p ≡ q → s ≡ q =
      λ q k lies e. sym found.0 ∙ ap (λ (x : ℕ). (said n x (shows x)).serial) e ∙ lies.its_serial in
      ⊎_elim (λ e. inl (at 1 4 h.mark e))
      (λ a.
      ⊎_elim (λ e. inr (inl (at 2 kind h.second e)))
      (λ b.
      ⊎_elim (λ e. inr (inr (at other kind' h.third e)))
      (λ c.
      let none = h.else p (mod-lt s (omega (arith, h.some))) a b c in
      absurd (omega (arith, here, ap (λ (e : Entry). e.kind) (found.1 ∙ none))))
      (cases_eq p other))
      (cases_eq p 2))
      (cases_eq p 1)

  silent_at : (s : ℕ) → s ≢ 1 → s ≢ 2 → s ≢ other → (log n shows s).kind ≡ 0
  silent_at s a b c =
      ⊎_elim (λ here. absurd (⊎_elim a (λ h. ⊎_elim b c h) (alone s here))) (λ k. omega (arith, k)) (cases_lt 0 (log n shows s).kind)

  low_of : (s : ℕ) → Here (log n shows) s → (log n shows s).low ≡ 1
  low_of s here =
      let at : (q : ℕ) (k : ℕ) → q < n → Lies n shows q k → s ≡ q → (log n shows s).low ≡ 1 =
      λ q k below lies e. ap (λ (x : ℕ). (log n shows x).low) e ∙ low_there q k below lies in
      ⊎_elim (at 1 4 (omega (arith, h.some)) h.mark)
      (λ more. ⊎_elim (at 2 kind (omega (arith, h.some)) h.second) (at other kind' (omega (arith, near, h.some)) h.third) more)
      (alone s here)

  names : 1 ≤ kind' → Names (log n shows) 1
  names some =
      record {
        top = other;
        here = omega (arith, some, kind_there other kind' (omega (arith, near, h.some)) h.third);
        greatest = λ s here. ⊎_elim (λ e. omega (arith, e, after)) (λ more. ⊎_elim (λ e. omega (arith, e, after)) (λ e. omega (arith, e)) more) (alone s here);
        named = low_there other kind' (omega (arith, near, h.some)) h.third;
      }

  marked : (log n shows 1).kind ≡ 4
  marked = kind_there 1 4 (omega (arith, h.some)) h.mark

  -- above the last record there are no strays
  strays_below : (c : ℕ) → strays n shows c n ≡ strays n shows c (other + 1)
  strays_below c =
      ap (strays n shows c) (let e : n ≡ other + 1 + (n - (other + 1)) = omega (arith, near, h.some) in e)
      ∙ no_strays n shows c (other + 1) (n - (other + 1))
      (λ p a b. h.else p (omega (arith, a, b, near, h.some)) (omega (arith, a, after)) (omega (arith, a, after)) (omega (arith, a)))

  -- what is found, once the run's end and the strays are known
  ends : (c count : ℕ) → 1 ≤ kind' → c < n → Runs (log n shows) 1 c → strays n shows c n ≡ count → log n shows c ≡ said n c (shows c) → Ends n shows c count
  ends c count some below run are at =
      record {
        each =
            λ ordinal found low last memory f.
            let same = same_low (log n shows) 1 low (names some) f.names in
            let end = same_end (log n shows) 1 c last run (subst (λ (x : ℕ). Runs (log n shows) x last) same f.run) in (
              same,
              end,
              f.astray ∙ ap (λ (s : ℕ). strays n shows s n) end ∙ are,
              f.number ∙ ap (λ (s : ℕ). (log n shows s).ordinal) end ∙ ap (λ (e : Entry). e.ordinal) at,
            );
        one =
            λ readable.
            let o =
            opens n shows 1 c (log n shows c).ordinal (replayed (log n shows) 1 (c + 1 - 1) (from_home n shows))
            record {
              names = names some;
              mark = marked;
              run = run;
              homes = λ p inside gone. absurd (readable p inside gone);
              number = refl;
              makes = λ i inside. refl;
              named = λ s from here. low_of s here;
            } in
            let f = o.finds in (
              o.bytes,
              record {
                names = f.names;
                mark = f.mark;
                run = f.run;
                homes = f.homes;
                number = ap (λ (e : Entry). e.ordinal) (sym at);
                astray = sym are;
                bytes = f.bytes;
                memory_is = f.memory_is;
              },
            );
      }

no_places : (n : ℕ) (shows : ℕ → Shown) (c : ℕ) → strays n shows c 0 ≡ 0
unfolding strays
no_places n shows c = refl

-- a sector between is spoiled: the run ends before it
pub spoiled_between : (n : ℕ) (shows : ℕ → Shown) → SpoiledBetween n shows → Ends n shows 2 1
spoiled_between n shows between =
    let h = between.lies in
    let a : 2 < 4 = omega arith in
    let b : 4 < 160 = omega arith in
    let kind : (s k : ℕ) → s < n → Lies n shows s k → (log n shows s).kind ≡ k = kind_there n shows 2 4 2 a b h in
    let one = kind 1 4 (omega (arith, h.some)) h.mark in
    let two = kind 2 2 (omega (arith, h.some)) h.second in
    let quiet : (p : ℕ) → p < n → p ≢ 1 → p ≢ 2 → p ≢ 4 → (said n p (shows p)).serial ≡ 0 =
    λ p i x y z. ap (λ (e : Entry). e.serial) (h.else p i x y z) in
    let s0 : strays n shows 2 1 ≡ strays n shows 2 0 = no_stray n shows 2 0 0 (omega arith) (quiet 0 (omega (arith, h.some)) (omega arith) (omega arith) (omega arith)) in
    let s1 : strays n shows 2 2 ≡ strays n shows 2 1 = no_stray n shows 2 1 1 (omega arith) h.mark.its_serial in
    let s2 : strays n shows 2 3 ≡ strays n shows 2 2 = no_stray n shows 2 2 2 (omega arith) h.second.its_serial in
    let s3 : strays n shows 2 4 ≡ strays n shows 2 3 = no_stray n shows 2 3 0 (omega arith) (quiet 3 (omega (arith, h.some)) (omega arith) (omega arith) (omega arith)) in
    let s4 : strays n shows 2 5 ≡ 1 + strays n shows 2 4 = stray_above n shows 2 4 4 (omega arith) h.third.its_serial in
    let run : Runs (log n shows) 1 2 =
    record {
      last = 2;
      from = omega arith;
      to = omega arith;
      unbroken =
          λ s x y.
          ⊎_elim (λ e. subst (λ (q : ℕ). 1 ≤ (log n shows q).kind) (sym e) (omega (arith, one)))
          (λ ne. subst (λ (q : ℕ). 1 ≤ (log n shows q).kind) (let e : 2 ≡ s = omega (arith, x, y, ne) in e) (omega (arith, two)))
          (cases_eq s 1);
      gap = silent_at n shows 2 4 2 a b h 3 (omega arith) (omega arith) (omega arith);
      ends = omega (arith, two);
      greatest = λ s x y. absurd (omega (arith, x, y));
    } in
    ends n shows 2 4 2 a b h 2 1 (omega arith) (omega (arith, h.some)) run
    (strays_below n shows 2 4 2 a b h 2 ∙ omega (arith, s0, s1, s2, s3, s4, no_places n shows 2))
    (there n shows 2 4 2 a b h 2 2 (omega (arith, h.some)) h.second)

-- no part is a last one: the run ends at the mark
pub no_last_part : (n : ℕ) (shows : ℕ → Shown) → NoLastPart n shows → Ends n shows 1 2
no_last_part n shows h =
    let a : 2 < 3 = omega arith in
    let b : 3 < 160 = omega arith in
    let kind : (s k : ℕ) → s < n → Lies n shows s k → (log n shows s).kind ≡ k = kind_there n shows 1 3 1 a b h in
    let one = kind 1 4 (omega (arith, h.some)) h.mark in
    let two = kind 2 1 (omega (arith, h.some)) h.second in
    let three = kind 3 1 (omega (arith, h.some)) h.third in
    let quiet : (p : ℕ) → p < n → p ≢ 1 → p ≢ 2 → p ≢ 3 → (said n p (shows p)).serial ≡ 0 =
    λ p i x y z. ap (λ (e : Entry). e.serial) (h.else p i x y z) in
    let s0 : strays n shows 1 1 ≡ strays n shows 1 0 = no_stray n shows 1 0 0 (omega arith) (quiet 0 (omega (arith, h.some)) (omega arith) (omega arith) (omega arith)) in
    let s1 : strays n shows 1 2 ≡ strays n shows 1 1 = no_stray n shows 1 1 1 (omega arith) h.mark.its_serial in
    let s2 : strays n shows 1 3 ≡ 1 + strays n shows 1 2 = stray_above n shows 1 2 2 (omega arith) h.second.its_serial in
    let s3 : strays n shows 1 4 ≡ 1 + strays n shows 1 3 = stray_above n shows 1 3 3 (omega arith) h.third.its_serial in
    let low_kind : (s : ℕ) → 1 < s → s ≤ 3 → (log n shows s).kind ≡ 1 =
    λ s x y.
    ⊎_elim (λ e. ap (λ (q : ℕ). (log n shows q).kind) e ∙ two)
    (λ ne. ap (λ (q : ℕ). (log n shows q).kind) (let e : s ≡ 3 = omega (arith, x, y, ne) in e) ∙ three)
    (cases_eq s 2) in
    let run : Runs (log n shows) 1 1 =
    record {
      last = 3;
      from = omega arith;
      to = omega arith;
      unbroken =
          λ s x y.
          ⊎_elim (λ e. subst (λ (q : ℕ). 1 ≤ (log n shows q).kind) (sym e) (omega (arith, one)))
          (λ ne. omega (arith, low_kind s (omega (arith, x, ne)) y))
          (cases_eq s 1);
      gap = silent_at n shows 1 3 1 a b h 4 (omega arith) (omega arith) (omega arith);
      ends = omega (arith, one);
      greatest = λ s x y. omega (arith, low_kind s x y);
    } in
    ends n shows 1 3 1 a b h 1 2 (omega arith) (omega (arith, h.some)) run
    (strays_below n shows 1 3 1 a b h 1 ∙ omega (arith, s0, s1, s2, s3, no_places n shows 1))
    (there n shows 1 3 1 a b h 1 4 (omega (arith, h.some)) h.mark)
