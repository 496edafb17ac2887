-- The records that follow one another from the mark of a log on, and the table of them.
use Rattle.std.proofs.Common.{◌≡◌, ℕ, ◌+◌, ◌-◌, ◌<◌, ◌≤◌, sym, ap, ◌∙◌, subst, ⊎_elim, arith}
use Rattle.std.proofs.lemmas.Bool.{cases_lt}
use Rattle.device.specs.Disk.{Shown}
use Rattle.journal.specs.declared.pages.PageTable.{PageTable}
use Rattle.journal.specs.declared.survey.Survey.{Survey}
use Rattle.journal.specs.Log.{log}
use Rattle.journal.specs.Opening.{Here, Runs}
use Rattle.journal.specs.Pages.{unsaid, Noted, Tabled}
use Rattle.journal.specs.Survey.{RunsTo}
use Rattle.journal.proofs.Places.{kept}
use Rattle.journal.proofs.Tables.{mark_noted, tabled_none, tabled_more}

-- how far the run has come: the serial that comes next, what was found up to it, and the table of all below it
pub record RunningTo (n : ℕ) (shows : ℕ → Shown) (low next : ℕ) (s : Survey) (ahead : PageTable) : Type 0 where
  pub from : low ≤ s.last
  pub to : s.last < next
  pub unbroken : (k : ℕ) → low ≤ k → k < next → Here (log n shows) k
  pub ends : 2 ≤ (log n shows s.last).kind
  pub greatest : (k : ℕ) → s.last < k → k < next → (log n shows k).kind ≤ 1
  pub pages : Tabled (log n shows) low (s.last + 1 - low) s.pages
  pub all : Tabled (log n shows) low (next - low) ahead

module _ (n : ℕ) (shows : ℕ → Shown) (low : ℕ) where
  table_begins : (log n shows low).kind ≡ 4 → Tabled (log n shows) low (low + 1 - low) unsaid
  table_begins mark =
      let here : Here (log n shows) low = omega arith in
      let same : low + 0 ≡ low = omega arith in
      let one : 0 + 1 ≡ low + 1 - low = omega arith in
      let noted : Noted (log n shows (low + 0)) unsaid unsaid = subst (λ (k : ℕ). Noted (log n shows k) unsaid unsaid) (sym same) (mark_noted (log n shows low) unsaid mark ((kept n shows low here).bare mark)) in
      subst (λ (k : ℕ). Tabled (log n shows) low k unsaid) one (tabled_more (log n shows) low 0 unsaid unsaid (tabled_none (log n shows) low) noted)

  pub run_begins : (log n shows low).kind ≡ 4 → RunningTo n shows low (low + 1) (record { low = low; last = low; pages = unsaid }) unsaid
  run_begins mark =
      record {
        from = omega arith;
        to = omega arith;
        unbroken = λ k a b. let e : low ≡ k = omega arith in subst (λ (j : ℕ). Here (log n shows) j) e (omega arith);
        ends = omega arith;
        greatest = λ k a b. absurd (omega arith);
        pages = table_begins mark;
        all = table_begins mark;
      }

  module _ (next : ℕ) (s : Survey) (ahead ahead' : PageTable) (old : RunningTo n shows low next s ahead) (here : Here (log n shows) next) (noted : Noted (log n shows next) ahead ahead') where
    further : (k : ℕ) → low ≤ k → k < next + 1 → Here (log n shows) k
    further k a b =
        ⊎_elim (λ lt. old.unbroken k a lt) (λ ge. let e : next ≡ k = omega arith in subst (λ (j : ℕ). Here (log n shows) j) e here) (cases_lt k next)

    table_goes : Tabled (log n shows) low (next + 1 - low) ahead'
    table_goes =
        let same : low + (next - low) ≡ next = omega (arith, old.from, old.to) in
        let more : next - low + 1 ≡ next + 1 - low = omega (arith, old.from, old.to) in
        subst (λ (k : ℕ). Tabled (log n shows) low k ahead') more
        (tabled_more (log n shows) low (next - low) ahead ahead' old.all (subst (λ (k : ℕ). Noted (log n shows k) ahead ahead') (sym same) noted))

    pub run_closes : 2 ≤ (log n shows next).kind → RunningTo n shows low (next + 1) (record { low = s.low; last = next; pages = ahead' }) ahead'
    run_closes ends =
        record {
          from = omega (arith, old.from, old.to);
          to = omega arith;
          unbroken = further;
          ends = ends;
          greatest = λ k a b. absurd (omega arith);
          pages = table_goes;
          all = table_goes;
        }

    pub run_goes : (log n shows next).kind ≤ 1 → RunningTo n shows low (next + 1) s ahead'
    run_goes part =
        record {
          from = old.from;
          to = omega (arith, old.to);
          unbroken = further;
          ends = old.ends;
          greatest =
              λ k a b.
              ⊎_elim (λ lt. old.greatest k a lt) (λ ge. let e : next ≡ k = omega arith in subst (λ (j : ℕ). (log n shows j).kind ≤ 1) e part) (cases_lt k next);
          pages = old.pages;
          all = table_goes;
        }

  pub run_ends : (next : ℕ) (s : Survey) (ahead : PageTable) → s.low ≡ low → RunningTo n shows low next s ahead → (log n shows next).kind ≡ 0 → RunsTo n shows s
  run_ends next s ahead same r gap =
      let e : next - 1 + 1 ≡ next = omega (arith, r.to) in
      let run : Runs (log n shows) low s.last =
      record {
        last = next - 1;
        from = r.from;
        to = omega (arith, r.to);
        unbroken = λ k a b. r.unbroken k a (omega (arith, r.to));
        gap = ap (λ (k : ℕ). (log n shows k).kind) e ∙ gap;
        ends = r.ends;
        greatest = λ k a b. r.greatest k a (omega (arith, r.to));
      }
      in
      record {
        run = subst (λ (k : ℕ). Runs (log n shows) k s.last) (sym same) run;
        pages = subst (λ (k : ℕ). Tabled (log n shows) k (s.last + 1 - k) s.pages) (sym same) r.pages;
      }
