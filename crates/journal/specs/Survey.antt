-- What the survey of a log finds.
use Rattle.std.specs.Prelude.{◌≡◌, ℕ, ◌+◌, ◌-◌, Ok, Err, Result}
use Rattle.device.specs.Disk.{Shown}
use Rattle.journal.specs.declared.survey.Survey.{Survey}
use Rattle.journal.specs.declared.survey.LogFault.{LogFault}
use Rattle.journal.specs.declared.survey.LogFault.TheVariants.{NoLog, NoMark}
use Rattle.journal.specs.Log.{log}
use Rattle.journal.specs.Opening.{Names, Runs, HasNoLog, HasNoMark}
use Rattle.journal.specs.Pages.{Tabled}

-- From low up records follow one another, `last` is the last of them that ends a transaction or stands alone,
-- and the table is that of the records up to it.
pub record RunsTo (n : ℕ) (shows : ℕ → Shown) (s : Survey) : Type 0 where
  pub run : Runs (log n shows) s.low s.last
  pub pages : Tabled (log n shows) s.low (s.last + 1 - s.low) s.pages

-- The log begins with a mark at low, which its latest record names, and runs to `last`.
pub record Surveyed (n : ℕ) (shows : ℕ → Shown) (s : Survey) : Type 0 where
  pub names : Names (log n shows) s.low
  pub mark : (log n shows s.low).kind ≡ 4
  pub runs : RunsTo n shows s

abbrev pub Surveys : ℕ → (ℕ → Shown) → Result Survey LogFault → Type 0
Surveys n shows (Ok s) = Surveyed n shows s
Surveys n shows (Err NoLog) = HasNoLog n shows
Surveys n shows (Err (NoMark low)) = HasNoMark n shows low
