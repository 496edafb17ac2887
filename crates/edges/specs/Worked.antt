-- The worked edges, as one statement.
use Rattle.std.specs.Prelude.{ℕ, ◌≤◌}
use Rattle.device.specs.Disk.{Shown}
use Rattle.edges.specs.Sizes.{RefusesSize, TakesSize, FormatsSize}
use Rattle.edges.specs.Ranges.{LastByteDeclared, RefusedAtTheEnd, CutInTwo}
use Rattle.edges.specs.Room.{FifteenPass, ThenFull, FifteenThenOne}
use Rattle.edges.specs.Books.{InBucketFour, TwentyStand, TwentyPass, TwentyPaid, TwentyOneShort}
use Rattle.edges.specs.Gaps.{SpoiledBetween, NoLastPart, Ends, HomesRead}

pub record WorkedEdges : Type 0 where
  -- 223 sectors are too few and 1,089 too many; 224 have a log of 160.
  pub too_few : RefusesSize 223
  pub just_enough : TakesSize 224 160
  pub one_is_formatted : FormatsSize 224
  pub too_many : RefusesSize 1089
  -- From byte 6,143 on there is one byte.
  pub last_byte : LastByteDeclared
  pub past_it : RefusedAtTheEnd 2
  pub no_bytes : RefusedAtTheEnd 0
  -- Bytes 90 to 101 become two records.
  pub over_a_bound : CutInTwo
  -- Where 80 of 160 live, 15 records pass and then none.
  pub fifteen_pass : FifteenPass
  pub then_full : ThenFull
  pub fifteen_then_one : FifteenThenOne
  -- Behind a spoiled sector a transaction is a stray.
  pub spoiled_between : (n : ℕ) (shows : ℕ → Shown) → SpoiledBetween n shows → Ends n shows 2 1
  pub sectors_with_a_gap : (n : ℕ) → 160 ≤ n → (shows : ℕ → Shown) × SpoiledBetween n shows × HomesRead n shows
  -- Without its last part a transaction is none.
  pub no_last_part : (n : ℕ) (shows : ℕ → Shown) → NoLastPart n shows → Ends n shows 1 2
  pub sectors_with_no_last : (n : ℕ) → 160 ≤ n → (shows : ℕ → Shown) × NoLastPart n shows × HomesRead n shows
  -- The tag of bytes 1 to 8 is in bucket 4.
  pub in_bucket_four : InBucketFour
  -- From a balance of 20, 20 can be paid and 21 can't.
  pub twenty_stand : TwentyStand
  pub twenty_pass : TwentyPass
  pub twenty_paid : TwentyPaid
  pub twenty_one_short : TwentyOneShort
