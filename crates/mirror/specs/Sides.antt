-- The two sides of a mirror, seen as one device, and how it works on them.
use Rattle.std.specs.Prelude.{◌≡◌, ℕ, min, Bool, true, false, ◌⊎◌, List, [], ◌∷◌, ◌++◌, Ok, Err}
use Rattle.device.specs.declared.fault.DeviceFault.TheVariants.{Power, Misaddressed, Unfit, Spoiled}
use Rattle.device.specs.Disk.{Disk, Plate, Shown, spoiled, holds}
use Rattle.device.specs.Meaning.{Answer, Read}
use Rattle.device.specs.Trace.{wrote, settled, restarted, InTurn}

-- The two sides, whether the mirror itself is on, and the origin that it told last.
pub record Sides : Type 0 where
  pub on : Bool
  pub told : ℕ
  pub left : Disk
  pub right : Disk

abbrev pub sides : Bool → ℕ → Disk → Disk → Sides
sides on told left right = record { on = on; told = told; left = left; right = right }

-- What is shown: the left side's bytes, or what the right side shows where the left is spoiled.
abbrev pub either : Shown → Shown → Shown
either spoiled right = right
either (holds bytes) right = holds bytes

-- What a restart may find: any bytes that may stand left, and, where left may be spoiled, whatever
-- may stand right.
abbrev pub merged : List Shown → List Shown → List Shown
merged [] rights = []
merged (spoiled ∷ lefts) rights = rights ++ merged lefts rights
merged (holds bytes ∷ lefts) rights = holds bytes ∷ merged lefts rights

-- The plate of a mirror: it has the smaller count, refuses with origin 0, and where both sides are
-- spoiled the right one is told.
abbrev pub joined : Plate → Plate → Plate
joined left right =
    record {
      sectors = min left.sectors right.sectors;
      origin = 0;
      ends = left.ends ++ right.ends;
      blames = right.blames;
    }

-- The sides as one device.
abbrev pub mirrored : Sides → Disk
mirrored m =
    record {
      plate = joined m.left.plate m.right.plate;
      on = m.on;
      shows = λ i. either (m.left.shows i) (m.right.shows i);
      others = λ i. merged (m.left.shows i ∷ m.left.others i) (m.right.shows i ∷ m.right.others i);
      told = m.told;
    }

-- A write goes to the right side and is settled there before the left side is touched.
abbrev pub Writes : ℕ → List ℕ → Sides → Answer → Sides → Type 0
Writes s bytes m r m' = InTurn m.right (wrote s bytes ∷ settled ∷ []) m.left (wrote s bytes ∷ []) r m'.right m'.left

-- Barriers and restarts go right, then left.
abbrev pub Settles : Sides → Answer → Sides → Type 0
Settles m r m' = InTurn m.right (settled ∷ []) m.left (settled ∷ []) r m'.right m'.left

abbrev pub Restarts : Sides → Answer → Sides → Type 0
Restarts m r m' = InTurn m.right (restarted ∷ []) m.left (restarted ∷ []) r m'.right m'.left

-- A read asks the left side, which answers a, and only where that is spoiled the right side; r is the
-- answer of the side that was asked last.
abbrev pub Asks : ℕ → List ℕ → List ℕ → Sides → Answer → Answer → Sides → Type 0
Asks s before after m (Err (Spoiled t o)) r m' =
    Read m.left s before (Err (Spoiled t o)) m'.left before × Read m.right s before r m'.right after
Asks s before after m (Ok u) r m' = Read m.left s before (Ok u) m'.left after × (r ≡ Ok u) × (m'.right ≡ m.right)
Asks s before after m (Err (Power o)) r m' =
    Read m.left s before (Err (Power o)) m'.left after × (r ≡ Err (Power o)) × (m'.right ≡ m.right)
Asks s before after m (Err (Misaddressed t o)) r m' = ⊥
Asks s before after m (Err Unfit) r m' = ⊥

abbrev pub Reads : ℕ → List ℕ → List ℕ → Sides → Answer → Sides → Type 0
Reads s before after m r m' = (a : Answer) × Asks s before after m a r m'

-- A call that did nothing because the mirror was off.
abbrev pub Idle : Sides → ℕ → Sides → Type 0
Idle m o m' = (m.on ≡ false) × (o ≡ 0) × (m' ≡ m)

-- A call of the mirror: while off, or where it refuses the sector or the buffer, neither side is
-- touched; else `work` says what was done on the sides. Power that fails there turns it off, and the
-- origin that is handed up is the one told last.
abbrev pub Worked : (Sides → Answer → Sides → Type 0) → Sides → Answer → Sides → Type 0
Worked work m (Ok u) m' = (m.on ≡ true) × (m'.on ≡ true) × (m'.told ≡ m.told) × work m (Ok u) m'
Worked work m (Err (Power o)) m' = Idle m o m' ⊎ ((m.on ≡ true) × (m'.on ≡ false) × (m'.told ≡ o) × work m (Err (Power o)) m')
Worked work m (Err (Misaddressed _ _)) m' = m' ≡ m
Worked work m (Err Unfit) m' = ⊥
Worked work m (Err (Spoiled s o)) m' = (m.on ≡ true) × (m'.on ≡ true) × (m'.told ≡ m.told) × work m (Err (Spoiled s o)) m'
