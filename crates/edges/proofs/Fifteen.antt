-- A store in which 80 records live, and whose transaction becomes 15.
use Rattle.std.proofs.Common.{◌≡◌, ℕ, ◌+◌, ◌≤◌, Bool, true, false, ◌≢◌, List, [], ◌∷◌, length, replicate, Ok, Err, refl, ap, inl, inr, arith}
use Rattle.image.specs.declared.run.Run.{Run}
use Rattle.image.specs.declared.runs.Runs.{Runs}
use Rattle.image.specs.Calls.{declared}
use Rattle.image.specs.Cut.{cut}
use Rattle.image.specs.Runs.{run}
use Rattle.transactions.specs.declared.fault.StoreFault.TheVariants.{Full}
use Rattle.transactions.specs.declared.spool.Spooled.{Spooled}
use Rattle.transactions.specs.declared.state.State.{State}
use Rattle.transactions.specs.Calls.{Commits}
use Rattle.transactions.specs.Parts.{Spool}
use Rattle.transactions.specs.State.{own}
use Rattle.edges.specs.Room.{Eighty, OneMore, FifteenThenOne}
use Rattle.sample_runs.proofs.States.{zeros, zeros_long, clean, dirty, no_spool, image_of, state_of}
use Rattle.sample_runs.proofs.Calls.{device}

-- every second byte of the first 30 is declared
abbrev fifteen_runs : Runs
fifteen_runs =
    record {
      items = record { items = run 0 1 ∷ run 2 3 ∷ run 4 5 ∷ run 6 7 ∷ run 8 9 ∷ run 10 11 ∷ run 12 13 ∷ run 14 15 ∷ run 16 17 ∷ run 18 19 ∷ run 20 21 ∷ run 22 23 ∷ run 24 25 ∷ run 26 27 ∷ run 28 29 ∷ [] };
      apart = ∣ (omega arith, omega arith, (omega arith, omega arith, (omega arith, omega arith, (omega arith, omega arith, (omega arith, omega arith, (omega arith, omega arith, (omega arith, omega arith, (omega arith, omega arith, (omega arith, omega arith, (omega arith, omega arith, (omega arith, omega arith, (omega arith, omega arith, (omega arith, omega arith, (omega arith, omega arith, (omega arith, omega arith, tt))))))))))))))) ∣₁;
      inside = ∣ (omega arith, (omega arith, (omega arith, (omega arith, (omega arith, (omega arith, (omega arith, (omega arith, (omega arith, (omega arith, (omega arith, (omega arith, (omega arith, (omega arith, (omega arith, tt))))))))))))))) ∣₁;
    }

abbrev before : State
before = state_of (image_of zeros zeros_long fifteen_runs) no_spool 1 80 0 (omega arith) (omega arith) true true

abbrev part : (offset : ℕ) (last : Bool) → offset + 1 ≤ 96 → Spooled
part offset last within =
    record { ordinal = 1; page = 0; offset = offset; size = 1; last = last; bytes = 0 ∷ replicate 95 0; paged = omega arith; some = omega arith; within = within; sized = refl }

abbrev fifteen_parts : Spool
fifteen_parts =
    record {
      items =
          part 0 false (omega arith)
          ∷ part 2 false (omega arith)
          ∷ part 4 false (omega arith)
          ∷ part 6 false (omega arith)
          ∷ part 8 false (omega arith)
          ∷ part 10 false (omega arith)
          ∷ part 12 false (omega arith)
          ∷ part 14 false (omega arith)
          ∷ part 16 false (omega arith)
          ∷ part 18 false (omega arith)
          ∷ part 20 false (omega arith)
          ∷ part 22 false (omega arith)
          ∷ part 24 false (omega arith)
          ∷ part 26 false (omega arith)
          ∷ part 28 true (omega arith)
          ∷ [];
    }

abbrev after : State
after = state_of clean fifteen_parts 1 80 1 (omega arith) (omega arith) false true

abbrev again : State
again = state_of dirty fifteen_parts 1 80 1 (omega arith) (omega arith) true true

fifteen : length (own before) ≡ 15
unfolding cut
fifteen = refl

eighty : Eighty before
eighty = record { places = refl; eighty = refl; empty = refl; serials = omega arith }

some_runs : declared before.image ≢ []
some_runs e = let z = ap (λ (rs : List Run). length rs) e in omega (arith, z)

commits : Commits before device 1 false (Ok (1, 15)) after device
unfolding cut
commits = (
  refl,
  inr
      (record {
        some = some_runs;
        passes = refl;
        answer = refl;
        enters = (
          refl,
          record { log = record { places_is = refl; low_is = refl; last_is = refl; ordinal_is = refl }; waits = refl; on = refl },
        );
        image = record { memory = refl; before = refl; clean = refl };
        free = refl;
      }),
)

one : OneMore again after 2
unfolding cut
one = record { log = refl; spool = refl; fits = refl; one = refl }

one_run : declared again.image ≢ []
one_run e = let z = ap (λ (rs : List Run). length rs) e in omega (arith, z)

refused : Commits again device 2 false (Err (Full 1)) after device
unfolding cut
refused =
    inr (
      refl,
      inl
          (record {
            some = one_run;
            refused = refl;
            state = (
              record { memory = refl; before = refl; clean = refl },
              record { image_is = refl; spool_is = refl; log_is = refl; busy_is = refl; on_is = refl },
            );
            device = refl;
          }),
    )

pub fifteen_then_one : FifteenThenOne
fifteen_then_one =
    record {
      disk = device;
      before = before;
      token = 1;
      eighty = eighty;
      fifteen = fifteen;
      after = after;
      commits = commits;
      again = again;
      next = 2;
      one = one;
      undone = after;
      refused = refused;
    }
