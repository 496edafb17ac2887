-- The number of each refusal of a store, and the values it returns.
use Rattle.std.specs.Prelude.{ℕ, List, [], ◌∷◌}
use Rattle.device.specs.Fault as device
use Rattle.image.specs.declared.run.ImageFault.{ImageFault}
use Rattle.image.specs.declared.run.ImageFault.TheVariants as image
use Rattle.recovery.specs.declared.fault.RecoveryFault.{RecoveryFault}
use Rattle.recovery.specs.declared.fault.RecoveryFault.TheVariants as recovery
use Rattle.transactions.specs.declared.fault.StoreFault.{StoreFault}
use Rattle.transactions.specs.declared.fault.StoreFault.TheVariants.{Device, Size, NoLog, NoMark, Uncovered, Busy, Stranger, Range, Runs, Undeclared, Serials, Full, SpoolFull}

abbrev pub number : StoreFault → ℕ
number (Device f) = device.number f
number (Size _) = 5
number NoLog = 6
number (NoMark _) = 7
number (Uncovered _) = 8
number (Busy _) = 9
number (Stranger _) = 10
number (Range _) = 11
number (Runs _) = 12
number (Undeclared _) = 13
number (Serials _) = 14
number (Full _) = 15
number (SpoolFull _) = 16

abbrev pub values : StoreFault → List ℕ
values (Device f) = device.values f
values (Size count) = count ∷ []
values NoLog = []
values (NoMark low) = low ∷ []
values (Uncovered page) = page ∷ []
values (Busy ordinal) = ordinal ∷ []
values (Stranger number) = number ∷ []
values (Range start) = start ∷ []
values (Runs start) = start ∷ []
values (Undeclared byte) = byte ∷ []
values (Serials last) = last ∷ []
values (Full excess) = excess ∷ []
values (SpoolFull excess) = excess ∷ []

-- What an opening refuses, as a refusal of the store.
abbrev pub from_recovery : RecoveryFault → StoreFault
from_recovery (recovery.Device f) = Device f
from_recovery (recovery.Size count) = Size count
from_recovery recovery.NoLog = NoLog
from_recovery (recovery.NoMark low) = NoMark low
from_recovery (recovery.Uncovered page) = Uncovered page

-- What the memory refuses, as a refusal of the store.
abbrev pub from_image : ImageFault → StoreFault
from_image (image.Range start) = Range start
from_image (image.Runs start) = Runs start
from_image (image.Undeclared byte) = Undeclared byte
