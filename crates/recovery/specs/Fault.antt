-- The number of each refusal to make or open a log, and the values it returns.
use Rattle.std.specs.Prelude.{ℕ, List, [], ◌∷◌}
use Rattle.device.specs.Fault as device
use Rattle.journal.specs.declared.survey.LogFault.{LogFault}
use Rattle.journal.specs.declared.survey.LogFault.TheVariants as log
use Rattle.recovery.specs.declared.fault.RecoveryFault.{RecoveryFault}
use Rattle.recovery.specs.declared.fault.RecoveryFault.TheVariants.{Device, Size, NoLog, NoMark, Uncovered}

abbrev pub number : RecoveryFault → ℕ
number (Device f) = device.number f
number (Size _) = 5
number NoLog = 6
number (NoMark _) = 7
number (Uncovered _) = 8

abbrev pub values : RecoveryFault → List ℕ
values (Device f) = device.values f
values (Size count) = count ∷ []
values NoLog = []
values (NoMark low) = low ∷ []
values (Uncovered page) = page ∷ []

-- What a survey of the log refuses, as a refusal of the opening.
abbrev pub from_log : LogFault → RecoveryFault
from_log log.NoLog = NoLog
from_log (log.NoMark low) = NoMark low
