-- When a transaction is kept, told from the device calls that succeeded since it was entered.
use Rattle.std.specs.Prelude.{◌≡◌, ℕ, ◌+◌, ◌%◌, Bool, true, ◌≢◌, ◌⊎◌, List, [], ◌∷◌, ◌++◌}
use Rattle.device.specs.Trace.{Act, looked, wrote, settled, restarted}
use Rattle.record.specs.Entry.{laid_out}
use Rattle.durability.specs.Items.{Item, recorded}
use Rattle.law.specs.Transactions.{Transaction, records_of}

-- The record of this item is written in its place of a log of n sectors, with some serial and some low.
abbrev pub Writes : ℕ → Item → Act → Type 0
Writes n x act = (low serial : ℕ) × (act ≡ wrote (serial % n) (laid_out (recorded low serial x)))

-- A barrier succeeds, with no restart before it.
abbrev pub BarrierComes : List Act → Type 0
BarrierComes [] = ⊥
BarrierComes (looked ∷ acts) = BarrierComes acts
BarrierComes (wrote _ _ ∷ acts) = BarrierComes acts
BarrierComes (settled ∷ acts) = Unit {0}
BarrierComes (restarted ∷ acts) = ⊥

-- The records of these items are written in their order and then a barrier succeeds, with no restart before it.
abbrev pub Settles : ℕ → List Item → List Act → Type 0
Settles n [] acts = BarrierComes acts
Settles n (x ∷ xs) [] = ⊥
Settles n (x ∷ xs) (act ∷ acts) = (Writes n x act × Settles n xs acts) ⊎ ((act ≢ restarted) × Settles n (x ∷ xs) acts)

-- So it is from one of the calls on.
abbrev pub Settled : ℕ → List Item → List Act → Type 0
Settled n xs acts = (before after : List Act) × (before ++ after ≡ acts) × Settles n xs after

-- A transaction that was entered: what it applies; the device calls that succeeded since its commit passed its checks,
-- those of that commit among them; and whether an opening found it.
pub record Entered : Type 0 where
  pub transaction : Transaction
  pub since : List Act
  pub found : Bool

-- The transaction entered after o others is kept: an opening found it, or its records are settled.
abbrev pub Kept : ℕ → ℕ → Entered → Type 0
Kept n o x = (x.found ≡ true) ⊎ Settled n (records_of (o + 1) x.transaction) x.since

-- Each of these, entered after o others, is kept; none of them is.
abbrev pub AllKept : ℕ → ℕ → List Entered → Type 0
AllKept n o [] = Unit {0}
AllKept n o (x ∷ xs) = Kept n o x × AllKept n (o + 1) xs

abbrev pub NoneKept : ℕ → ℕ → List Entered → Type 0
NoneKept n o [] = Unit {0}
NoneKept n o (x ∷ xs) = (Kept n o x → ⊥) × NoneKept n (o + 1) xs
