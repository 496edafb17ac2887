-- The test of a good sector agrees with its rules.
use Rattle.std.proofs.Common.{◌≡◌, ℕ, true, List, arith}
use Rattle.std.proofs.lemmas.Bool.Decides.{nat_tests}
use Rattle.record.specs.Good.{Placed, Fits, Good}
use Rattle.record.specs.Found.{is_placed, does_fit, is_good}

pub placed_yes : (n q s l o : ℕ) → is_placed n q s l o ≡ true → Placed n q s l o
unfolding is_placed
placed_yes n q s l o h = grind (arith, nat_tests)

pub yes_placed : (n q s l o : ℕ) → Placed n q s l o → is_placed n q s l o ≡ true
unfolding is_placed
yes_placed n q s l o h = grind (arith, nat_tests)

pub fits_yes : (k p o n : ℕ) → does_fit k p o n ≡ true → Fits k p o n
unfolding does_fit
fits_yes k p o n h = grind (arith, nat_tests)

pub yes_fits : (k p o n : ℕ) → Fits k p o n → does_fit k p o n ≡ true
unfolding does_fit
yes_fits k p o n h = grind (arith, nat_tests)

pub good_yes : (n q : ℕ) (b : List ℕ) → is_good n q b ≡ true → Good n q b
unfolding is_good
good_yes n q b h =
    record {
      long = grind (arith, nat_tests);
      blank = grind (arith, nat_tests);
      placed = placed_yes n q _ _ _ (grind (arith, nat_tests));
      fits = fits_yes _ _ _ _ (grind (arith, nat_tests));
    }

pub yes_good : (n q : ℕ) (b : List ℕ) → Good n q b → is_good n q b ≡ true
unfolding is_good
yes_good n q b g = grind (arith, nat_tests, yes_placed, yes_fits)
