-- The run, event by event.
use Rattle.std.proofs.Common.{◌≡◌, true, false, List, [], ◌∷◌, ◌++◌, drop, take, Some, None, Ok, Err, Option, sym, refl, inl, inr}
use Rattle.std.proofs.lemmas.Bool.{cond-true}
use Rattle.device.specs.declared.fault.DeviceFault.TheVariants.{Power}
use Rattle.device.specs.Trace.{Act, restarted}
use Rattle.recovery.specs.Format.{formatting}
use Rattle.recovery.specs.Clearing.{clearing}
use Rattle.image.specs.Cut.{cut}
use Rattle.transactions.specs.declared.fault.StoreFault.TheVariants.{Device, Stranger}
use Rattle.transactions.specs.declared.state.State.{State}
use Rattle.transactions.specs.Held.{Held}
use Rattle.transactions.specs.Truncation.{truncation}
use Rattle.law.specs.Events.{Moment, working, closed, Call, format, opening, close, begin, set_range, commit, truncate, Event, Happens, does_truncate, Chain}
use Rattle.law.specs.Kept.{Entered, AllKept}
use Rattle.law.specs.Law.{own_transaction}
use Rattle.law.proofs.Truncated.{writes}
use Rattle.sample_runs.specs.Store.{StoreRun, history}
use Rattle.sample_runs.proofs.States.{first_begun, first_declared, second_begun, second_declared, second_waits}
use Rattle.sample_runs.proofs.Calls.{device, divides, first_token, second_token, formats, new_held, is_formatted, first_begins, first_sets, first_plan, commits, kept_held, first_commits, second_begins, second_sets, waiting_held, second_commits, some_dirty, passes, cut_act, cut_disk, cut_held, cut_there, truncates, blank_held, opening_fails, opens, found_held, opening_finds, refuses}

abbrev event : Call → Moment → List Act → Option Act → Moment → Event
event call m done cut m' = record { call = call; before = m; done = done; cut = cut; after = m' }

abbrev on_new : State → Held
on_new s = record { state = s; disk = formats.disk }

abbrev on_kept : State → Held
on_kept s = record { state = s; disk = commits.disk }

abbrev front : List Event
front =
    event (format (Ok tt)) (closed device) (formatting 160) None (working new_held)
    ∷ event (begin (Ok first_token)) (working new_held) [] None (working (on_new first_begun))
    ∷ event (set_range 1 0 1 (Ok tt)) (working (on_new first_begun)) [] None (working (on_new first_declared))
    ∷ event (commit 1 true (Ok (1, 1))) (working (on_new first_declared)) first_plan None (working kept_held)
    ∷ event (begin (Ok second_token)) (working kept_held) [] None (working (on_kept second_begun))
    ∷ event (set_range 2 0 1 (Ok tt)) (working (on_kept second_begun)) [] None (working (on_kept second_declared))
    ∷ event (commit 2 false (Ok (2, 1))) (working (on_kept second_declared)) [] None (working waiting_held)
    ∷ event (truncate (Err (Device (Power 0)))) (working waiting_held) [] (Some cut_act) (working cut_held)
    ∷ event close (working cut_held) [] None (closed cut_disk)
    ∷ event (opening (Err (Device (Power 0)))) (closed cut_disk) [] (Some restarted) (working blank_held)
    ∷ event close (working blank_held) [] None (closed cut_disk)
    ∷ []

abbrev found : Event
found = event (opening (Ok (1, opens.count))) (closed cut_disk) (restarted ∷ clearing 160 commits.disk.shows 2) None (working found_held)

abbrev foreign : Event
foreign = event (commit 77 true (Err (Stranger 77))) (working found_held) [] None (working found_held)

truncation_cut : Happens (truncate (Err (Device (Power 0)))) (working waiting_held) [] (Some cut_act) (working cut_held)
truncation_cut =
    let shows = commits.disk.shows in
    let plan = truncation second_waits shows in (
      truncates,
      (
        0,
        refl,
        record {
          rest = drop 1 plan;
          all = sym (cond-true (does_truncate second_waits shows) plan [] (writes second_waits commits.disk (passes shows) (some_dirty shows)));
          reached = commits.disk;
          did = refl;
          cut = cut_there;
        },
      ),
    )

chain : Chain (closed device) (front ++ (found ∷ foreign ∷ [])) (working found_held)
unfolding cut
chain = (
  refl,
  (is_formatted, inl (160, divides, (refl, formats.done))),
  (
    refl,
    (first_begins, (refl, refl)),
    (
      refl,
      (first_sets, (refl, refl)),
      (
        refl,
        (first_commits, (refl, commits.done)),
        (
          refl,
          (second_begins, (refl, refl)),
          (
            refl,
            (second_sets, (refl, refl)),
            (
              refl,
              (second_commits, (refl, refl)),
              (
                refl,
                truncation_cut,
                (
                  refl,
                  (refl, (refl, refl)),
                  (
                    refl,
                    (opening_fails, (0, refl, inl (refl, refl))),
                    (
                      refl,
                      (refl, (refl, refl)),
                      (
                        refl,
                        (opening_finds, (opening_finds, 0, refl)),
                        (
                          refl,
                          (refuses, (refl, refl, refl)),
                          refl,
                        ),
                      ),
                    ),
                  ),
                ),
              ),
            ),
          ),
        ),
      ),
    ),
  ),
)

abbrev entered : List Entered
entered =
    record { transaction = own_transaction first_declared; since = first_plan; found = false }
    ∷ record { transaction = own_transaction second_declared; since = []; found = false }
    ∷ []

first_is_kept : AllKept 160 0 (take 1 entered)
unfolding cut
first_is_kept = (inr ([], first_plan, refl, inl ((1, 2, refl), tt)), tt)

were : history front None ≡ Some entered
unfolding cut
were = refl

pub store_run : StoreRun
store_run =
    record {
      device = device;
      front = front;
      found = found;
      foreign = foreign;
      last = working found_held;
      chain = chain;
      first = first_token;
      second = second_token;
      origin = 0;
      other = 0;
      calls = refl;
      strays = opens.count;
      finds = refl;
      refused = refl;
      entered = entered;
      were = were;
      two = refl;
      kept = first_is_kept;
    }
