-- A plan: the codes that say what becomes of each write, and which slices make a device with it.
use Rattle.std.specs.Prelude.{◌≡◌, ℕ, ◌*◌, ◌<◌, ◌≤◌, Bool, true, false, List, length, drop, Ok, Err, Result, slice_index}
use Rattle.bench.specs.declared.plan.Fate.{Fate}
use Rattle.bench.specs.declared.plan.Fate.TheVariants as fates
use Rattle.bench.specs.declared.plan.UnknownCode.{UnknownCode}

-- Each code of the plan is known.
abbrev pub Known : List ℕ → Type 0
Known plan = (k : ℕ) → k < length plan → slice_index plan k ≤ 3

-- What becomes of a write that takes this code.
abbrev pub Means : ℕ → Fate → Type 0
Means n fates.Done = n ≡ 0
Means n fates.Old = n ≡ 1
Means n fates.New = n ≡ 2
Means n fates.Spoiled = n ≡ 3

-- What a code says, or that it says nothing.
abbrev pub Decodes : ℕ → Result Fate UnknownCode → Type 0
Decodes n (Ok fate) = Means n fate
Decodes n (Err e) = (3 < n) × (e.0 ≡ n)

-- Whether power stays on.
abbrev pub stays : Fate → Bool
stays fates.Done = true
stays fates.Old = false
stays fates.New = false
stays fates.Spoiled = false

-- The code that is taken next: 0 past the end.
abbrev pub first : List ℕ → ℕ
first codes = slice_index codes 0

-- What is left of the codes once the next one is taken.
abbrev pub later : List ℕ → List ℕ
later codes = drop 1 codes

-- These bytes, flags and plan make a bench device.
pub record Fit (bytes flags plan : List ℕ) : Type 0 where
  pub whole : length bytes ≡ 128 * length flags
  pub codes : Known plan
