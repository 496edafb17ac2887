-- The run of a ledger, event by event.
use Rattle.std.proofs.Common.{◌≡◌, true, false, List, [], ◌∷◌, Ok, Err, sym, refl, ◌∙◌, subst, inl, inr, arith}
use Rattle.device.specs.declared.fault.DeviceFault.TheVariants.{Power}
use Rattle.device.specs.Disk.{Plate}
use Rattle.recovery.specs.declared.fault.RecoveryFault.TheVariants as recovery
use Rattle.recovery.specs.Clearing.{clearing, blanking, astray}
use Rattle.recovery.specs.Opening.{Divides}
use Rattle.device.specs.Trace.{settled}
use Rattle.transactions.specs.declared.fault.StoreFault.TheVariants.{Device}
use Rattle.transactions.specs.declared.state.State.{State}
use Rattle.book.specs.Book.{new_book}
use Rattle.ledger.specs.Sound.{Held, on_store}
use Rattle.ledger.specs.Calls.{Opens, Truncates, issuing, ByOrdinal}
use Rattle.law.specs.Events as store-events
use Rattle.ledger_law.specs.Events.{Moment, working, closed, Call, make, opening, close, issue, truncate, Event, Happens}
use Rattle.ledger_law.proofs.Tracing.{did_make, did_open, did_change, did_truncate}
use Rattle.sample_runs.specs.Ledger.{LedgerRun, failing}
use Rattle.sample_runs.proofs.Disks.{Made, made, fits_both, fits_blanking, lost_again, restarts}
use Rattle.sample_runs.proofs.States.{zeros, no_runs, no_spool, image_of, state_of, blank_store}
use Rattle.sample_runs.proofs.Calls.{device, divides, formats}
use Rattle.sample_runs.proofs.Puts.{on_disk}
use Rattle.sample_runs.proofs.Linking.{links, linked_held, is_made, opens_linked, holds_new}
use Rattle.sample_runs.proofs.Issuing.{issued_held, is_issued, cut_disk, cut_held, truncates}

plates : links.disk.plate ≡ device.plate
plates = links.plate ∙ formats.plate

divides_still : Divides cut_disk.plate.sectors 160
divides_still = subst (λ (p : Plate). Divides p.sectors 160) (sym plates) divides

-- the opening that power cuts

abbrev blank_held : Held
blank_held = on_store false (on_disk blank_store cut_disk)

opening_fails : Opens cut_disk (Err (failing 0)) blank_held
opening_fails = (
  refl,
  inl (
    Device (Power 0),
    refl,
    (
      recovery.Device (Power 0),
      zeros,
      refl,
      inr (160, divides_still, inl (lost_again links.disk)),
      record {
        off = refl;
        log = record { places_is = refl; low_is = refl; last_is = refl; ordinal_is = refl };
        memory = refl;
        pages = refl;
        idle = record { free = refl; clean = refl; empty = refl; before = refl };
      },
    ),
  ),
)

-- the one that finds the new ledger

clears : Made 224 links.disk (clearing 160 links.disk.shows 53)
clears =
    made 224 links.disk (clearing 160 links.disk.shows 53) links.willing
    (fits_both 224 (blanking (astray 160 links.disk.shows 53) 0 160) (settled ∷ []) (fits_blanking 224 (astray 160 links.disk.shows 53) 0 160 (omega arith)) (tt, tt))

abbrev found_state : State
found_state = state_of (image_of opens_linked.bytes opens_linked.finds.bytes no_runs) no_spool 1 53 1 (omega arith) (omega arith) false true

abbrev found_held : Held
found_held = on_store true (on_disk found_state clears.disk)

opening_finds : Opens cut_disk (Ok (1, opens_linked.count)) found_held
opening_finds = (
  refl,
  record {
    places = 160;
    divides = divides_still;
    restarted = links.disk;
    restart = restarts 224 links.disk links.willing;
    finds = opens_linked.finds;
    cleared = clears.done;
    on = refl;
    log_of = refl;
    number = refl;
    idle = record { free = refl; clean = refl; empty = refl; before = refl };
  },
  (new_book, holds_new),
)

-- the truncation, as the ledger tells it

is_cut : Truncates (on_store true issued_held) (Err (failing 0)) (on_store true cut_held)
is_cut = inr (refl, refl, (Err (Device (Power 0)), refl, truncates))

abbrev event : Call → Moment → List store-events.Event → Moment → Event
event call m did m' = record { call = call; before = m; did = did; after = m' }

-- A close does the store's.
closes : (h : Held) → (did : List store-events.Event) × Happens close (working h) did (closed h.store.disk)
closes h =
    (_, (refl, record { done = []; cut = _; event = refl; happens = (refl, (refl, refl)) }))

pub ledger_run : LedgerRun
ledger_run =
    let h1 = on_store true linked_held in
    let h2 = on_store true issued_held in
    let h3 = on_store true cut_held in
    let a = did_make device (Ok tt) h1 is_made in
    let b = did_change (issuing 1 20) ByOrdinal false h1 (Ok 2) h2 is_issued in
    let c = did_truncate h2 (Err (failing 0)) h3 is_cut in
    let d = closes h3 in
    let e = did_open cut_disk (Err (failing 0)) blank_held opening_fails in
    let f = closes blank_held in
    let g = did_open cut_disk (Ok (1, opens_linked.count)) found_held opening_finds in
    record {
      device = device;
      events =
          event (make (Ok tt)) (closed device) a.0 (working h1)
          ∷ event (issue 1 20 false (Ok 2)) (working h1) b.0 (working h2)
          ∷ event (truncate (Err (failing 0))) (working h2) c.0 (working h3)
          ∷ event close (working h3) d.0 (closed cut_disk)
          ∷ event (opening (Err (failing 0))) (closed cut_disk) e.0 (working blank_held)
          ∷ event close (working blank_held) f.0 (closed cut_disk)
          ∷ event (opening (Ok (1, opens_linked.count))) (closed cut_disk) g.0 (working found_held)
          ∷ [];
      last = working found_held;
      chain = (
        refl,
        (is_made, a.1),
        (
          refl,
          (is_issued, b.1),
          (
            refl,
            (is_cut, c.1),
            (
              refl,
              d.1,
              (
                refl,
                (opening_fails, e.1),
                (
                  refl,
                  f.1,
                  (
                    refl,
                    (opening_finds, g.1),
                    refl,
                  ),
                ),
              ),
            ),
          ),
        ),
      );
      origin = 0;
      other = 0;
      strays = opens_linked.count;
      calls = refl;
    }
