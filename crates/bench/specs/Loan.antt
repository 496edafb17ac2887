-- Which bytes and flags of its caller a bench device works on, and what the caller has afterwards. A
-- slice is the same one where its borrow has the same ghost name.
use Rattle.std.specs.Prelude.{◌≡◌, ℕ, List, Ok, Err, Result}
use Rattle.std.specs.Borrow.{MutBor}
use Rattle.device.specs.declared.fault.DeviceFault.{DeviceFault}
use Rattle.device.specs.declared.fault.DeviceFault.TheVariants.{Unfit}
use Rattle.bench.specs.declared.Bench.{Bench}
use Rattle.bench.specs.Plan.{Fit}
use Rattle.bench.specs.Card.{Card}
use Rattle.bench.specs.Calls.{fresh}

-- The device works on these.
pub record LentThese (bs fs : MutBor (List ℕ)) (b : Bench) : Type 0 where
  pub bytes : b.bytes.ghost_name ≡ bs.ghost_name
  pub flags : b.flags.ghost_name ≡ fs.ghost_name

-- It works on the same ones after a call as before.
abbrev pub SameLoan : Bench → Bench → Type 0
SameLoan b e = LentThese b.bytes b.flags e

-- These were lent for a work that does this: where they make a device, the caller has afterwards what
-- the work left it with; else all is as it was.
abbrev pub Lent : {A : Type 0} → (Card → A → Card → Type 0) → List ℕ → List ℕ → List ℕ → ℕ
    → Result A DeviceFault → List ℕ → List ℕ → Type 0
Lent does bytes flags plan origin (Ok a) bytes' flags' =
    Fit bytes flags plan
    × ((e : Card) × does (fresh bytes flags plan origin) a e × (bytes' ≡ e.bytes) × (flags' ≡ e.flags))
Lent does bytes flags plan origin (Err f) bytes' flags' =
    (Fit bytes flags plan → ⊥) × (f ≡ Unfit) × (bytes' ≡ bytes) × (flags' ≡ flags)
