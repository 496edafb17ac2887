-- Logs in which a record is missing, and what an opening finds there.
use Rattle.std.specs.Prelude.{◌≡◌, ◌≢◌, ℕ, ◌+◌, ◌<◌, ◌≤◌, List}
use Rattle.device.specs.Disk.{Shown, spoiled}
use Rattle.journal.specs.Log.{nothing, said}
use Rattle.journal.specs.Opening.{Finds}

-- In a log of n sectors the record with this serial, of this kind, lies in its place and names serial 1 as low.
pub record Lies (n : ℕ) (shows : ℕ → Shown) (serial kind : ℕ) : Type 0 where
  pub its_serial : (said n serial (shows serial)).serial ≡ serial
  pub its_kind : (said n serial (shows serial)).kind ≡ kind
  pub its_low : (said n serial (shows serial)).low ≡ 1

-- A mark lies at serial 1, records of these kinds at serial 2 and at another, and nothing else in the log.
pub record Holds (n : ℕ) (shows : ℕ → Shown) (kind other kind' : ℕ) : Type 0 where
  pub some : 160 ≤ n
  pub mark : Lies n shows 1 4
  pub second : Lies n shows 2 kind
  pub third : Lies n shows other kind'
  pub else : (p : ℕ) → p < n → p ≢ 1 → p ≢ 2 → p ≢ other → said n p (shows p) ≡ nothing

-- Last parts lie at serials 2 and 4, and sector 3 is spoiled.
pub record SpoiledBetween (n : ℕ) (shows : ℕ → Shown) : Type 0 where
  pub lies : Holds n shows 2 4 2
  pub lost : shows 3 ≡ spoiled

-- Parts with more to come lie at serials 2 and 3.
abbrev pub NoLastPart : ℕ → (ℕ → Shown) → Type 0
NoLastPart n shows = Holds n shows 1 3 1

-- All homes can be read.
abbrev pub HomesRead : ℕ → (ℕ → Shown) → Type 0
HomesRead n shows = (p : ℕ) → p < 64 → shows (n + p) ≢ spoiled

-- An opening of these sectors finds the log from 1 to c, so many strays, and the ordinal of the record at c: so does
-- every one that is not refused, and there is one if all homes can be read.
pub record Ends (n : ℕ) (shows : ℕ → Shown) (c strays : ℕ) : Type 0 where
  pub each :
      (ordinal count low last : ℕ) (memory : List ℕ) → Finds n shows ordinal count low last memory
      → (low ≡ 1) × (last ≡ c) × (count ≡ strays) × (ordinal ≡ (said n c (shows c)).ordinal)
  pub one :
      HomesRead n shows
      → (memory : List ℕ) × Finds n shows (said n c (shows c)).ordinal strays 1 c memory
