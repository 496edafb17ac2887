-- A battery memory by its sectors: what each shows, and what each call does.
use Rattle.std.specs.Prelude.{◌≡◌, ℕ, ◌<◌, ◌≤◌, true, ◌≢◌, ◌⊎◌, List, [], ◌∷◌, length, replicate, slice_index_or, slice_set, Ok, Err}
use Rattle.battery.specs.declared.Battery.{Battery}
use Rattle.device.specs.declared.fault.DeviceFault.TheVariants.{Power, Misaddressed}
use Rattle.device.specs.Disk.{Disk, holds}
use Rattle.device.specs.Meaning.{Answer}

-- The bytes of sector i.
abbrev pub cell : List (List ℕ) → ℕ → List ℕ
cell sectors i = slice_index_or sectors i []

-- `new` was put into sector s, and every other sector is as it was.
pub record Put (sectors : List (List ℕ)) (s : ℕ) (new : List ℕ) (after : List (List ℕ)) : Type 0 where
  pub whole : after ≡ slice_set sectors s new
  pub there : cell after s ≡ new
  pub elsewhere : (i : ℕ) → i ≢ s → cell after i ≡ cell sectors i

-- The model: always on, never spoiled, and each write stands at once. Power never failed in it.
abbrev pub model : Battery → Disk
model b = record {
  plate = record { sectors = 224; origin = b.origin; ends = b.origin ∷ []; blames = λ _. b.origin };
  on = true;
  shows = λ i. holds (cell b.sectors i);
  others = λ _. [];
  told = b.origin;
}

-- A new memory: zeros.
pub record New (origin : ℕ) (b : Battery) : Type 0 where
  pub zeros : b.sectors ≡ replicate 224 (replicate 128 0)
  pub named : b.origin ≡ origin

-- Sector s is there, and a buffer of n bytes fits it.
pub record Right (s n : ℕ) : Type 0 where
  pub there : s < 224
  pub fits : n ≡ 128

-- There is no sector s, or a buffer of n bytes does not fit it.
abbrev pub Wrong : ℕ → ℕ → Type 0
Wrong s n = (224 ≤ s) ⊎ (n ≢ 128)

-- The answer to a call whose sector or buffer is wrong.
abbrev pub misaddressed : ℕ → ℕ → Answer
misaddressed s origin = Err (Misaddressed s origin)

-- A read of sector s: its answer, and the memory and the buffer after it. Power never fails.
pub record Fetched (b : Battery) (s : ℕ) (before : List ℕ) (r : Answer) (e : Battery) (after : List ℕ) : Type 0 where
  pub done : Right s (length before) → (r ≡ Ok tt) × (after ≡ cell b.sectors s)
  pub refused : Wrong s (length before) → (r ≡ misaddressed s b.origin) × (after ≡ before)
  pub power : (o : ℕ) → r ≢ Err (Power o)
  pub same : e ≡ b

-- A write of `new` to sector s: its answer, and the memory after it. Power never fails.
pub record Stored (b : Battery) (s : ℕ) (new : List ℕ) (r : Answer) (e : Battery) : Type 0 where
  pub done : Right s (length new) → (r ≡ Ok tt) × Put b.sectors s new e.sectors
  pub refused : Wrong s (length new) → (r ≡ misaddressed s b.origin) × (e.sectors ≡ b.sectors)
  pub power : (o : ℕ) → r ≢ Err (Power o)
  pub origin : e.origin ≡ b.origin

-- A call that succeeds and changes nothing.
pub record Idle (b : Battery) (r : Answer) (e : Battery) : Type 0 where
  pub done : r ≡ Ok tt
  pub same : e ≡ b
