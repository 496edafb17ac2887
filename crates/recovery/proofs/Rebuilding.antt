-- From the steps of an opening to what it finds.
use Rattle.std.proofs.Common.{◌≡◌, ℕ, zero, suc, ◌+◌, ◌-◌, ◌^◌, ◌<◌, ◌≤◌, true, false, List, length, get_or, Err, sym, ap, ◌∙◌, arith}
use Rattle.std.proofs.lemmas.Bool.{both_ways}
use Rattle.std.proofs.lemmas.Bool.Decides.{nat_tests}
use Rattle.device.specs.Disk.{Disk, Shown, spoiled}
use Rattle.record.specs.Entry.{Entry}
use Rattle.journal.specs.declared.survey.Survey.{Survey}
use Rattle.journal.specs.declared.survey.LogFault.{LogFault}
use Rattle.journal.specs.declared.survey.LogFault.TheVariants.{NoLog, NoMark}
use Rattle.journal.specs.Log.{log}
use Rattle.journal.specs.Memory.{applied, replayed, from_home}
use Rattle.journal.specs.Opening.{Here, Covers, Uncovered}
use Rattle.journal.specs.Pages.{covers, covered_in}
use Rattle.journal.proofs.Tables.{covers_found, covers_there}
use Rattle.journal.specs.Survey.{Surveyed, Surveys}
use Rattle.journal.proofs.Places.{kept}
use Rattle.recovery.specs.Fault.{from_log}
use Rattle.recovery.specs.Reading.{HomesLoaded, ReplayedAll}
use Rattle.recovery.specs.Opening.{Sees, Rebuilt}

-- a survey that found no log is a refusal of the opening
pub no_survey : {A : Type 0} (n : ℕ) (d e : Disk) (found : A → Type 0) (f : LogFault) → e ≡ d → Surveys n d.shows (Err f) → Sees n d found (Err (from_log f)) e
no_survey n d e found NoLog same h = (same, h)
no_survey n d e found (NoMark low) same h = (same, h)

-- the pages that the table of a survey counts as covered are those that its log covers

covers_is : (e : Entry) (p : ℕ) → covers e p ≡ true → (e.page ≡ p) × (length e.bytes ≡ 96)
covers_is e p h = grind (arith, nat_tests)

is_covers : (e : Entry) (p : ℕ) → e.page ≡ p → length e.bytes ≡ 96 → covers e p ≡ true
is_covers e p a b = grind (arith, nat_tests)

pub table_covers : (n : ℕ) (shows : ℕ → Shown) (s : Survey) (p : ℕ) → Surveyed n shows s → p < 64 → covered_in s.pages p ≡ true → Covers (log n shows) s.low s.last p
table_covers n shows s p seen small t =
    let from = seen.runs.run.from in
    let f = covers_found (log n shows) s.low (s.last + 1 - s.low) p (sym (seen.runs.pages.covered p small) ∙ t) in
    let c = covers_is (log n shows f.0) p f.3 in
    record { serial = f.0; from = f.1; to = omega (arith, f.2); page = c.0; whole = c.1 }

pub covers_table : (n : ℕ) (shows : ℕ → Shown) (s : Survey) (p : ℕ) → Surveyed n shows s → p < 64 → Covers (log n shows) s.low s.last p → covered_in s.pages p ≡ true
covers_table n shows s p seen small w =
    seen.runs.pages.covered p small
    ∙ covers_there (log n shows) s.low (s.last + 1 - s.low) p w.serial w.from (omega (arith, w.to, w.from)) (is_covers (log n shows w.serial) p w.page w.whole)

-- a home that is spoiled, and the survey covers its page nowhere
pub bare_home : (n : ℕ) (d : Disk) (s : Survey) (page : ℕ) → Surveyed n d.shows s → page < 64 → d.shows (n + page) ≡ spoiled → covered_in s.pages page ≡ false → ((q : ℕ) → q < page → d.shows (n + q) ≡ spoiled → covered_in s.pages q ≡ true) → Uncovered n d.shows page
bare_home n d s page seen small gone bare lower =
    record {
      low = s.low;
      c = s.last;
      names = seen.names;
      mark = seen.mark;
      run = seen.runs.run;
      page = small;
      gone = gone;
      bare = λ h. both_ways (covered_in s.pages page) bare (covers_table n d.shows s page seen small h);
      lowest = λ q lt lost. table_covers n d.shows s q seen (omega arith) (lower q lt lost);
    }

-- a byte that is replayed depends on what it was before and on nothing else
replayed_base : (log : ℕ → Entry) (low k : ℕ) (base base' : ℕ → ℕ) (i : ℕ) → base i ≡ base' i → replayed log low k base i ≡ replayed log low k base' i
unfolding replayed
replayed_base log low zero base base' i e = e
replayed_base log low (suc k) base base' i e = ap (λ (v : ℕ). applied (log (low + k)) i v) (replayed_base log low k base base' i e)

pub rebuilt : (n : ℕ) (d : Disk) (s : Survey) (homes memory : List ℕ) (ordinal : ℕ) → Surveyed n d.shows s → HomesLoaded d n s.pages homes → ReplayedAll n d s.low s.last homes memory ordinal → Rebuilt n d.shows s.low s.last memory ordinal
rebuilt n d s homes memory ordinal seen (loaded, covered) all =
    record {
      homes = λ p small gone. table_covers n d.shows s p seen small (covered p small gone);
      bytes = λ i h. all.bytes i ∙ replayed_base (log n d.shows) s.low (s.last + 1 - s.low) (λ j. get_or homes j 0) (from_home n d.shows) i (loaded i h);
      number = all.number;
    }

-- the serials of a log that was surveyed
pub in_order : (n : ℕ) (shows : ℕ → Shown) (s : Survey) → Surveyed n shows s → (s.low ≤ s.last) × (s.last < 2 ^ 63)
in_order n shows s seen =
    let here : Here (log n shows) s.last = omega (arith, seen.runs.run.ends) in
    let k = kept n shows s.last here in
    (seen.runs.run.from, k.to)
