-- What each call of a bench device does, on every way out.
use Rattle.std.specs.Prelude.{◌≡◌, ℕ, ◌*◌, ◌<◌, ◌≤◌, Bool, true, false, ◌≢◌, ◌⊎◌, List, length, Ok, Err, Result, slice_set}
use Rattle.device.specs.declared.fault.DeviceFault.{DeviceFault}
use Rattle.device.specs.declared.fault.DeviceFault.TheVariants.{Power, Misaddressed, Unfit, Spoiled}
use Rattle.device.specs.Meaning.{Answer}
use Rattle.bench.specs.declared.Bench.{Bench}
use Rattle.bench.specs.Plan.{Fit}
use Rattle.bench.specs.Card.{Card, card, sectors, cell, with_cell, flag, code, next}

-- The device over these, which is on and has taken no code.
abbrev pub fresh : List ℕ → List ℕ → List ℕ → ℕ → Card
fresh bytes flags plan origin = record { bytes = bytes; flags = flags; codes = plan; on = true; origin = origin }

-- Such a device was made, or these make none.
abbrev pub Made : List ℕ → List ℕ → List ℕ → ℕ → Result Bench DeviceFault → Type 0
Made bytes flags plan origin (Ok b) = Fit bytes flags plan × (card b ≡ fresh bytes flags plan origin)
Made bytes flags plan origin (Err f) = (Fit bytes flags plan → ⊥) × (f ≡ Unfit)

-- It is on, sector s is there, and a buffer of n bytes fits it.
pub record Ready (c : Card) (s n : ℕ) : Type 0 where
  pub on : c.on ≡ true
  pub there : s < sectors c
  pub fits : n ≡ 128

-- It is on, and there is no sector s, or a buffer of n bytes does not fit it.
pub record Wrong (c : Card) (s n : ℕ) : Type 0 where
  pub on : c.on ≡ true
  pub why : (sectors c ≤ s) ⊎ (n ≢ 128)

-- The answers of a device that is off, and to a call whose sector or buffer is wrong.
abbrev pub silent : Answer
silent = Err (Power 0)

abbrev pub misaddressed : Card → ℕ → Answer
misaddressed c s = Err (Misaddressed s c.origin)

-- The device after a call: these bytes, flags and codes, on or off; the origin stays.
pub record Left (c : Card) (bs fs plan : List ℕ) (is_on : Bool) (e : Card) : Type 0 where
  pub bytes : e.bytes ≡ bs
  pub flags : e.flags ≡ fs
  pub codes : e.codes ≡ plan
  pub on : e.on ≡ is_on
  pub origin : e.origin ≡ c.origin

-- These bytes were put into sector s, which is not spoiled then.
abbrev pub Filled : Card → ℕ → List ℕ → Card → Type 0
Filled c s bytes e = Left c (with_cell c s bytes) (slice_set c.flags s 0) c.codes c.on e

-- A read of sector s: its answer, and the device and the buffer after it.
pub record Fetched (c : Card) (s : ℕ) (before : List ℕ) (r : Answer) (e : Card) (after : List ℕ) : Type 0 where
  pub off : c.on ≡ false → (r ≡ silent) × (after ≡ before)
  pub wrong : Wrong c s (length before) → (r ≡ misaddressed c s) × (after ≡ before)
  pub spoiled : Ready c s (length before) → 0 < flag c s → (r ≡ Err (Spoiled s c.origin)) × (after ≡ before)
  pub done : Ready c s (length before) → flag c s ≡ 0 → (r ≡ Ok tt) × (after ≡ cell c s)
  pub power : (o : ℕ) → r ≡ Err (Power o) → c.on ≡ false
  pub same : e ≡ c

-- A write of `bytes` to sector s: its answer, and the device after it. Where it is on and addressed
-- it takes the next code of the plan, and power fails in it just where that is not 0.
pub record Stored (c : Card) (s : ℕ) (bytes : List ℕ) (r : Answer) (e : Card) : Type 0 where
  pub off : c.on ≡ false → (r ≡ silent) × (e ≡ c)
  pub wrong : Wrong c s (length bytes) → (r ≡ misaddressed c s) × (e ≡ c)
  pub done : Ready c s (length bytes) → code c ≡ 0 → (r ≡ Ok tt) × Left c (with_cell c s bytes) (slice_set c.flags s 0) (next c) true e
  pub old : Ready c s (length bytes) → code c ≡ 1 → (r ≡ Err (Power c.origin)) × Left c c.bytes c.flags (next c) false e
  pub new : Ready c s (length bytes) → code c ≡ 2 → (r ≡ Err (Power c.origin)) × Left c (with_cell c s bytes) (slice_set c.flags s 0) (next c) false e
  pub spoiled : Ready c s (length bytes) → 3 ≤ code c → (r ≡ Err (Power c.origin)) × Left c c.bytes (slice_set c.flags s 1) (next c) false e
  pub power : (o : ℕ) → r ≡ Err (Power o) → (c.on ≡ false) ⊎ (Ready c s (length bytes) × (1 ≤ code c))

-- A barrier: it changes nothing.
pub record Waited (c : Card) (r : Answer) (e : Card) : Type 0 where
  pub off : c.on ≡ false → r ≡ silent
  pub done : c.on ≡ true → r ≡ Ok tt
  pub same : e ≡ c

-- A restart: it always succeeds, turns the device on, goes on in the plan where it was, and mends nothing.
pub record Woken (c : Card) (r : Answer) (e : Card) : Type 0 where
  pub done : r ≡ Ok tt
  pub left : Left c c.bytes c.flags c.codes true e
