-- What the calls of the run answer and leave.
use Rattle.std.proofs.Common.{◌≡◌, ℕ, ◌+◌, ◌%◌, ◌≤◌, Bool, true, false, cond, ◌≢◌, List, [], ◌∷◌, ◌++◌, length, None, Ok, Err, sym, refl, ap, ◌∙◌, subst, inl, inr, arith}
use Rattle.std.proofs.lemmas.Bool.{le-ltb}
use Rattle.device.specs.declared.fault.DeviceFault.TheVariants.{Power}
use Rattle.device.specs.Disk.{Disk, Plate, Shown, holds, Among}
use Rattle.device.specs.Trace.{Act, Cut, wrote, settled}
use Rattle.record.specs.Entry.{laid_out}
use Rattle.recovery.specs.declared.fault.RecoveryFault.TheVariants as recovery
use Rattle.recovery.specs.Format.{formatting, zeroing, blank, mark, first}
use Rattle.recovery.specs.Clearing.{clearing, blanking, astray}
use Rattle.recovery.specs.Opening.{Divides}
use Rattle.durability.specs.Items.{Item, recorded, appending}
use Rattle.durability.specs.Standing.{Firm, OpensTo}
use Rattle.durability.proofs.Fresh.{formatted}
use Rattle.durability.proofs.Appends.{appended}
use Rattle.durability.proofs.Opening.{firm_opens}
use Rattle.image.specs.Calls.{declared}
use Rattle.image.specs.Cut.{cut}
use Rattle.image.specs.Runs.{run, DeclaresAlso}
use Rattle.transactions.specs.declared.fault.StoreFault.TheVariants.{Device, Stranger}
use Rattle.transactions.specs.declared.token.Token.{Token}
use Rattle.transactions.specs.Calls.{writing}
use Rattle.transactions.specs.Held.{Held, Formatted, Opened, Begins, SetsRange, Commits, Truncates}
use Rattle.transactions.specs.Rows.{first_fit}
use Rattle.transactions.specs.State.{own, spooled, Fresh}
use Rattle.transactions.specs.Truncation.{is_dirty, dirty_pages, due_pages, truncate_rows}
use Rattle.transactions.proofs.Flagging.{chosen_few, chosen_has}
use Rattle.sample_runs.proofs.Disks.{Willing, Made, made, fits_both, fits_zeroing, fits_blanking, fits_one, long, turned_off, torn, lost_again, restarts}
use Rattle.sample_runs.proofs.States.{zeros, made_new, first_begun, first_declared, first_kept, second_begun, second_declared, second_waits, second_cut, blank_store, reopened}

-- A device of 224 sectors of zeros.
abbrev pub device : Disk
device =
    record {
      plate = record { sectors = 224; origin = 1; ends = 1 ∷ []; blames = λ _. 1 };
      on = true;
      shows = λ _. holds blank;
      others = λ _. [];
      told = 0;
    }

pub willing : Willing 224 device
willing = record { on = refl; sectors = refl; quiet = λ _. refl }

pub divides : Divides 224 160
divides = record { homes = refl; least = omega arith; most = omega arith }

abbrev pub first_token : Token
first_token = record { number = 1 }

abbrev pub second_token : Token
second_token = record { number = 2 }

-- the format

pub formats : Made 224 device (formatting 160)
formats =
    made 224 device (formatting 160) willing (
      tt,
      fits_both 224 (zeroing 0 224) (settled ∷ wrote (1 % 160) (laid_out (mark first)) ∷ settled ∷ []) (fits_zeroing 224 0 224 (omega arith))
          (tt, ((omega arith, long (mark first) (omega arith)), (tt, tt))),
    )

abbrev pub new_held : Held
new_held = record { state = made_new; disk = formats.disk }

pub fresh_new : Fresh 160 made_new
fresh_new =
    record {
      on = refl;
      log = record { places_is = refl; low_is = refl; last_is = refl; ordinal_is = refl };
      memory = refl;
      idle = record { free = refl; clean = refl; empty = refl; before = refl };
    }

pub is_formatted : Formatted device (Ok tt) new_held
is_formatted = (160, (divides, formats.done), fresh_new)

-- beginning and declaring

pub declares_one : DeclaresAlso 0 1 [] (run 0 1 ∷ [])
declares_one =
    record {
      apart = (omega arith, omega arith, tt);
      all = λ i e. e;
      only = λ i e. e;
    }

pub first_begins : Begins new_held (Ok first_token) (record { state = first_begun; disk = formats.disk })
first_begins = ((refl, refl, record { image_is = refl; spool_is = refl; log_is = refl; busy_is = refl; on_is = refl }), refl)

pub first_sets : SetsRange 1 0 1 (record { state = first_begun; disk = formats.disk }) (Ok tt) (record { state = first_declared; disk = formats.disk })
first_sets = (
  (
    refl,
    record { in_range = (omega arith, omega arith); declares = declares_one; memory = refl; before = refl },
    record { image_is = refl; spool_is = refl; log_is = refl; busy_is = refl; on_is = refl },
  ),
  refl,
)

-- the commit with flush

abbrev pub item : ℕ → Item
item o = record { kind = 2; ordinal = o; page = 0; offset = 0; bytes = 0 ∷ [] }

pub first_own : own first_declared ≡ item 1 ∷ []
unfolding cut
first_own = refl

abbrev pub first_plan : List Act
first_plan = writing first_declared (item 1 ∷ [])

pub plan_is : writing first_declared (spooled first_declared ++ own first_declared) ≡ first_plan
plan_is = ap (λ (xs : List Item). writing first_declared xs) first_own

pub commits : Made 224 formats.disk first_plan
commits =
    made 224 formats.disk first_plan formats.willing
    (fits_both 224 (appending 160 1 1 (item 1 ∷ [])) (settled ∷ []) (fits_one 224 160 1 1 (item 1) (omega arith) (omega arith) (omega arith)) (tt, tt))

abbrev pub kept_held : Held
kept_held = record { state = first_kept; disk = commits.disk }

some_run : declared first_declared.image ≢ []
some_run e = let z : ◌≡◌ {A = ℕ} 1 0 = ap length e in omega (arith, z)

pub first_commits : Commits 1 true (record { state = first_declared; disk = formats.disk }) (Ok (1, 1)) kept_held
unfolding cut
first_commits = (
  refl,
  inr
      (record {
        some = some_run;
        passes = refl;
        answer = refl;
        enters = (
          commits.done,
          record { log = record { places_is = refl; low_is = refl; last_is = refl; ordinal_is = refl }; empty = refl; on = refl },
        );
        image = record { memory = refl; before = refl; clean = refl };
        free = refl;
      }),
)

-- the second transaction

pub second_begins : Begins kept_held (Ok second_token) (record { state = second_begun; disk = commits.disk })
second_begins = ((refl, refl, record { image_is = refl; spool_is = refl; log_is = refl; busy_is = refl; on_is = refl }), refl)

pub second_sets : SetsRange 2 0 1 (record { state = second_begun; disk = commits.disk }) (Ok tt) (record { state = second_declared; disk = commits.disk })
second_sets = (
  (
    refl,
    record { in_range = (omega arith, omega arith); declares = declares_one; memory = refl; before = refl },
    record { image_is = refl; spool_is = refl; log_is = refl; busy_is = refl; on_is = refl },
  ),
  refl,
)

abbrev pub waiting_held : Held
waiting_held = record { state = second_waits; disk = commits.disk }

pub second_commits : Commits 2 false (record { state = second_declared; disk = commits.disk }) (Ok (2, 1)) waiting_held
unfolding cut
second_commits = (
  refl,
  inr
      (record {
        some = some_run;
        passes = refl;
        answer = refl;
        enters = (
          refl,
          record { log = record { places_is = refl; low_is = refl; last_is = refl; ordinal_is = refl }; waits = refl; on = refl },
        );
        image = record { memory = refl; before = refl; clean = refl };
        free = refl;
      }),
)

-- the truncation, which power cuts as it begins

either : (b : Bool) → cond b true true ≡ true
either true = refl
either false = refl

pub some_dirty : (shows : ℕ → Shown) → dirty_pages second_waits shows ≢ []
some_dirty shows e =
    subst (λ (ps : List ℕ). Among 0 ps) e (chosen_has (is_dirty second_waits shows) 0 64 0 (omega arith) (omega arith) (either _))

pub passes : (shows : ℕ → Shown) → first_fit (truncate_rows second_waits (length (due_pages second_waits shows))) ≡ None
passes shows =
    let due = length (due_pages second_waits shows) in
    let few : due ≤ 64 = chosen_few _ 0 64 in
    let a = le-ltb 160 (2 + 1 + due + 1) (omega (arith, few)) in
    rw a refl

abbrev pub cut_act : Act
cut_act = wrote (3 % 160) (laid_out (recorded 1 3 (item 2)))

abbrev pub cut_disk : Disk
cut_disk = turned_off commits.disk

abbrev pub cut_held : Held
cut_held = record { state = second_cut; disk = cut_disk }

pub cut_there : Cut cut_act commits.disk 0 cut_disk
cut_there = inr (torn commits.disk (3 % 160) (laid_out (recorded 1 3 (item 2))) commits.willing.on)

pub truncates : Truncates waiting_held (Err (Device (Power 0))) cut_held
truncates =
    inr
    (record {
      passes = passes commits.disk.shows;
      some = some_dirty commits.disk.shows;
      origin = 0;
      fault = refl;
      cut = inl cut_there;
      state = record { off = refl; image = refl; spool = refl; log = refl; pages = refl; busy = refl };
    })

-- the opening that power cuts

plates : commits.disk.plate ≡ device.plate
plates = commits.plate ∙ formats.plate

pub divides_still : Divides cut_disk.plate.sectors 160
divides_still = subst (λ (p : Plate). Divides p.sectors 160) (sym plates) divides

abbrev pub blank_held : Held
blank_held = record { state = blank_store; disk = cut_disk }

pub opening_fails : Opened cut_disk (Err (Device (Power 0))) blank_held
opening_fails = (
  recovery.Device (Power 0),
  zeros,
  refl,
  inr (160, divides_still, inl (lost_again commits.disk)),
  record {
    off = refl;
    log = record { places_is = refl; low_is = refl; last_is = refl; ordinal_is = refl };
    memory = refl;
    pages = refl;
    idle = record { free = refl; clean = refl; empty = refl; before = refl };
  },
)

-- what the card holds, and the opening that finds it

pub kept_firm : (memory : ℕ → ℕ) × Firm 160 commits.disk.shows 1 2 1 memory
kept_firm =
    let new = formatted 160 device formats.disk (omega arith) formats.done in
    let fit : _ = record {
      known = (omega arith, omega arith);
      piece = λ h. (omega arith, omega arith, omega arith);
      whole = λ e. absurd (omega (arith, e));
      mark = λ e. absurd (omega (arith, e));
    } in
    let r = appended 160 formats.disk commits.disk 1 1 0 (λ _. 0) (item 1 ∷ [])
    (record { firm = new.0; quiet = new.1; room = omega arith; serials = omega arith; appendable = (omega arith, fit, omega arith, tt) })
    (omega arith) commits.done in
    (_, r.0)

pub opens : OpensTo 160 commits.disk.shows 1 2 1 kept_firm.0
opens = firm_opens 160 commits.disk.shows 1 2 1 kept_firm.0 kept_firm.1

pub clears : Made 224 commits.disk (clearing 160 commits.disk.shows 2)
clears =
    made 224 commits.disk (clearing 160 commits.disk.shows 2) commits.willing
    (fits_both 224 (blanking (astray 160 commits.disk.shows 2) 0 160) (settled ∷ []) (fits_blanking 224 (astray 160 commits.disk.shows 2) 0 160 (omega arith)) (tt, tt))

abbrev pub found_held : Held
found_held = record { state = reopened opens.bytes opens.finds.bytes; disk = clears.disk }

abbrev pub opening_finds : Opened cut_disk (Ok (1, opens.count)) found_held
opening_finds =
    record {
      places = 160;
      divides = divides_still;
      restarted = commits.disk;
      restart = restarts 224 commits.disk commits.willing;
      finds = opens.finds;
      cleared = clears.done;
      on = refl;
      log_of = refl;
      number = refl;
      idle = record { free = refl; clean = refl; empty = refl; before = refl };
    }

pub refuses : Commits 77 true found_held (Err (Stranger 77)) found_held
refuses = inl (refl, refl, refl)
