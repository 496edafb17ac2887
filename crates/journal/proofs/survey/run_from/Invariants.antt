-- The run below the serial that comes next, at the place before that serial's.
use Rattle.std.proofs.Common.{◌≡◌, ℕ, ◌-◌, ◌%◌, length}
use Rattle.device.specs.Disk.{Shown}
use Rattle.journal.specs.Log.{log}
use Rattle.journal.specs.Notes.{Noted}
use Rattle.journal.proofs.Running.{RunningTo}
use Rattle.journal.proofs.survey.run_from.Given as goal

abbrev pub invariant-loop-serial : goal.invariant-loop-serial
invariant-loop-serial l = record {
  low_is : l.survey.low ≡ l.low;
  at : (l.serial - 1) % length l.notes ≡ l.place;
  runs : (shows : ℕ → Shown) → Noted (length l.notes) shows l.notes → (log (length l.notes) shows l.low).kind ≡ 4 → RunningTo (length l.notes) shows l.low l.serial l.survey l.pages;
}
