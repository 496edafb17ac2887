-- The number of each refusal of a device, and the values it returns.
use Rattle.std.specs.Prelude.{◌≡◌, ℕ, List, [], ◌∷◌}
use Rattle.device.specs.declared.fault.DeviceFault.{DeviceFault}
use Rattle.device.specs.declared.fault.DeviceFault.TheVariants.{Power, Misaddressed, Unfit, Spoiled}

abbrev pub number : DeviceFault → ℕ
number (Power _) = 1
number (Misaddressed _ _) = 2
number Unfit = 3
number (Spoiled _ _) = 4

abbrev pub values : DeviceFault → List ℕ
values (Power o) = o ∷ []
values (Misaddressed s o) = s ∷ o ∷ []
values Unfit = []
values (Spoiled s o) = s ∷ o ∷ []

-- The refusal has this number and returns these values.
pub record Says (f : DeviceFault) (n : ℕ) (returned : List ℕ) : Type 0 where
  pub row : number f ≡ n
  pub told : values f ≡ returned
