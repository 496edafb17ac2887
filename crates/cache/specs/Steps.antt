-- How a cache sends the longest held sector down, and makes room for one more.
use Rattle.std.specs.Prelude.{◌≡◌, ℕ, ◌<◌, ◌≤◌, true, false, ◌⊎◌, List, ◌∷◌, length, Ok, Err}
use Rattle.device.specs.declared.fault.DeviceFault.TheVariants.{Power, Misaddressed, Unfit, Spoiled}
use Rattle.device.specs.Meaning.{Answer, Wrote}
use Rattle.device.specs.Trace.{Cut}
use Rattle.cache.specs.declared.held.Slot.{Slot}
use Rattle.cache.specs.State.{State}
use Rattle.cache.specs.Exact.{sends}

-- It was sent down, and is held no more.
pub record SentOne (c c' : State) : Type 0 where
  pub oldest : Slot
  pub held : c.held ≡ oldest ∷ c'.held
  pub below : Wrote c.below oldest.sector oldest.bytes c'.below
  pub on : c'.on ≡ true
  pub told : c'.told ≡ c.told

-- Power failed as it was sent down.
pub record NotSent (c : State) (o : ℕ) (c' : State) : Type 0 where
  pub oldest : Slot
  pub rest : List Slot
  pub held : c.held ≡ oldest ∷ rest
  pub turns : c'.held ≡ c.held
  pub below : Cut (sends oldest) c.below o c'.below
  pub off : c'.on ≡ false
  pub told : c'.told ≡ o

abbrev pub SendsOne : State → Answer → State → Type 0
SendsOne c (Ok _) c' = SentOne c c'
SendsOne c (Err (Power o)) c' = NotSent c o c'
SendsOne c (Err (Misaddressed _ _)) c' = ⊥
SendsOne c (Err Unfit) c' = ⊥
SendsOne c (Err (Spoiled _ _)) c' = ⊥

-- There is room for one more: there was, or the longest held sector was sent down.
abbrev pub Room : State → State → Type 0
Room c c' = ((length c.held < 8) × (c' ≡ c)) ⊎ ((8 ≤ length c.held) × SentOne c c')

abbrev pub MakesRoom : State → Answer → State → Type 0
MakesRoom c (Ok _) c' = Room c c'
MakesRoom c (Err (Power o)) c' = (8 ≤ length c.held) × NotSent c o c'
MakesRoom c (Err (Misaddressed _ _)) c' = ⊥
MakesRoom c (Err Unfit) c' = ⊥
MakesRoom c (Err (Spoiled _ _)) c' = ⊥
