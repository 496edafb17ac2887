-- The walk goes on where no record so far passes the test.
use Rattle.std.proofs.Common.{◌+◌, ◌≤◌, Bool, List}
use Rattle.book.specs.Layout.{byte_in}
use Rattle.book.specs.Book.{At}
use Rattle.plans.specs.Walks.{Leads}
use Rattle.plans.proofs.Seeking.{Answers, GoesOn}
use Rattle.plans.proofs.walking.seek.Given as goal

abbrev pub invariant-loop-i : goal.invariant-loop-i
invariant-loop-i g l =
    let R = g.R.CellRecord in
    (l.link + 2 ≤ 6144)
    × ((test : _ → Bool) → Answers R.content R.fits (goal.F-post g l.is_it) test → (xs : List (At _)) → Leads R.KIND R.content R.fits (byte_in l.memory) l.head xs
    → GoesOn R.KIND R.content R.fits (byte_in l.memory) test l.head l.link l._i xs)
