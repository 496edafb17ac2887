-- What an opening finds in a log, and that it then does not refuse it.
use Rattle.std.proofs.Common.{◌≡◌, ℕ, ◌+◌, ◌-◌, ◌<◌, ◌≤◌, List, map, length, get_or, sym, refl, ap, ◌∙◌, subst, ⊎_elim, arith}
use Rattle.std.specs.List.{range_with_len}
use Rattle.std.proofs.lemmas.List.FromFn.{length-map-range_with_len, get_or-map-range_with_len}
use Rattle.std.proofs.lemmas.Bool.{cases_lt}
use Rattle.device.specs.Disk.{Shown}
use Rattle.journal.specs.Log.{log}
use Rattle.journal.specs.Memory.{replayed, from_home}
use Rattle.journal.specs.Opening.{Here, Names, Runs, Covers, Usable, strays}
use Rattle.journal.proofs.Unique.{same_low, same_end}
use Rattle.recovery.specs.declared.fault.RecoveryFault.TheVariants.{Device, Size, NoLog, NoMark, Uncovered}
use Rattle.durability.specs.Standing.{OpensTo}
use Rattle.durability.specs.Promises.{FirmOpens, NotRefused}

-- a list of so many numbers that a function gives
listed : (f : ℕ → ℕ) (k : ℕ) → (xs : List ℕ) × (length xs ≡ k) × ((i : ℕ) → i < k → get_or xs i 0 ≡ f i)
listed f k = (map f (range_with_len 0 k), length-map-range_with_len f 0 k, λ i h. get_or-map-range_with_len f 0 k i i 0 h (omega arith))

-- What an opening looks at, apart from the strays and the list of bytes, which always come out.
pub record Opened (n : ℕ) (shows : ℕ → Shown) (low c ordinal : ℕ) (memory : ℕ → ℕ) : Type 0 where
  pub names : Names (log n shows) low
  pub mark : (log n shows low).kind ≡ 4
  pub run : Runs (log n shows) low c
  pub homes : (p : ℕ) → p < 64 → Usable n shows (log n shows) low c p
  pub number : (log n shows c).ordinal ≡ ordinal
  pub makes : (i : ℕ) → i < 6144 → replayed (log n shows) low (c + 1 - low) (from_home n shows) i ≡ memory i
  pub named : (s : ℕ) → c ≤ s → Here (log n shows) s → (log n shows s).low ≡ low

pub opens : (n : ℕ) (shows : ℕ → Shown) (low c ordinal : ℕ) (memory : ℕ → ℕ) → Opened n shows low c ordinal memory → OpensTo n shows low c ordinal memory
opens n shows low c ordinal memory o =
    let f : ℕ → ℕ = replayed (log n shows) low (c + 1 - low) (from_home n shows) in
    let xs = listed f 6144 in
    record {
      count = strays n shows c n;
      bytes = xs.0;
      finds =
          record {
            names = o.names;
            mark = o.mark;
            run = o.run;
            homes = o.homes;
            number = sym o.number;
            astray = refl;
            bytes = xs.1;
            memory_is = xs.2;
          };
      agrees = λ i h. xs.2 i h ∙ o.makes i h;
      named = o.named;
    }

pub firm_opens : FirmOpens
firm_opens n shows low last ordinal memory f =
    let here = f.unbroken last f.from (omega arith) in
    opens n shows low last ordinal memory
    record {
      names = record { top = last; here = here; greatest = f.above; named = f.named };
      mark = f.mark;
      run =
          record {
            last = last;
            from = f.from;
            to = omega arith;
            unbroken = f.unbroken;
            gap = ⊎_elim (λ h. absurd (omega (arith, f.above (last + 1) h))) (λ h. omega arith) (cases_lt 0 (log n shows (last + 1)).kind);
            ends = f.ends;
            greatest = λ s a b. absurd (omega arith);
          };
      homes = f.homes;
      number = f.number;
      makes = f.makes;
      named = λ s a h. let e : last ≡ s = omega (arith, f.above s h) in subst (λ (x : ℕ). (log n shows x).low ≡ low) e f.named;
    }

pub not_refused : NotRefused
not_refused n shows low c ordinal memory (Device f) o h = h
not_refused n shows low c ordinal memory (Size k) o h = h
not_refused n shows low c ordinal memory NoLog o h =
    let names = o.finds.names in omega (arith, names.here, h names.top)
not_refused n shows low c ordinal memory (NoMark low') o h =
    let same = same_low (log n shows) low low' o.finds.names h.names in
    h.no_mark (ap (λ (x : ℕ). (log n shows x).kind) same ∙ o.finds.mark)
not_refused n shows low c ordinal memory (Uncovered page) o h =
    let l = log n shows in
    let same = same_low l low h.low o.finds.names h.names in
    let end = same_end l low c h.c o.finds.run (subst (λ (x : ℕ). Runs l x h.c) same h.run) in
    h.bare
    (subst (λ (x : ℕ). Covers l h.low x page) (sym end)
    (subst (λ (x : ℕ). Covers l x c page) (sym same) (o.finds.homes page h.page h.gone)))
