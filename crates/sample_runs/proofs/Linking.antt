-- A ledger that is made.
use Rattle.std.proofs.Common.{◌≡◌, ℕ, ◌+◌, true, false, ◌≢◌, List, [], ◌∷◌, ◌++◌, length, Ok, sym, refl, ap, ◌∙◌, subst, inr, arith}
use Rattle.device.specs.Trace.{settled, Done}
use Rattle.durability.specs.Items.{Item, appending, Appendable}
use Rattle.durability.specs.Standing.{Firm, OpensTo}
use Rattle.durability.proofs.Fresh.{formatted}
use Rattle.durability.proofs.Opening.{firm_opens}
use Rattle.image.specs.declared.run.Run.{Run}
use Rattle.image.specs.Calls.{declared}
use Rattle.image.proofs.Cutting.{runs_lay, runs_fit, runs_none}
use Rattle.transactions.specs.declared.state.State.{State}
use Rattle.transactions.specs.Calls.{writing}
use Rattle.transactions.specs.Held.{Held, Commits}
use Rattle.transactions.specs.State.{own}
use Rattle.transactions.proofs.Tabling.{writable_at, own_appendable}
use Rattle.law.specs.Transactions.{Transaction, batch, made_of}
use Rattle.law.specs.Law.{own_transaction}
use Rattle.law.proofs.History.{nothing_entered}
use Rattle.law.proofs.Batches.{batch_one}
use Rattle.law.proofs.Committing.{own_proper}
use Rattle.law.proofs.Writing.{batch_written, writing_batch}
use Rattle.book.specs.Layout.{byte_in}
use Rattle.book.specs.Book.{Holds, new_book}
use Rattle.book.specs.Edits.{make_edits}
use Rattle.book.proofs.Making.{free_chain_length}
use Rattle.book.proofs.Standing.{digits_length}
use Rattle.changes.specs.Changes.{Prepared, Changes}
use Rattle.ledger.specs.Sound.{on_store}
use Rattle.ledger.specs.Calls.{Makes}
use Rattle.ledger.proofs.Fresh.{make_runs, make_records, make_room, blank_memory, makes}
use Rattle.ledger_law.proofs.Memories.{same_own, same_memory, own_inside}
use Rattle.sample_runs.proofs.Disks.{Made, made, fits_both, fits_items}
use Rattle.sample_runs.proofs.States.{no_runs, no_spool, image_of, state_of, made_new, first_begun}
use Rattle.sample_runs.proofs.Calls.{device, first_token, formats, new_held, fresh_new, is_formatted, first_begins}
use Rattle.sample_runs.proofs.Puts.{with_image, on_disk, AllIn, PutTo, puts}

make_in : AllIn make_edits
make_in =
    let a = digits_length 2 1 in
    let b = free_chain_length 1 200 in
    (omega (arith, a), omega (arith, a), (omega (arith, b), omega (arith, b), tt))

pub make_puts : PutTo 1 make_edits first_begun formats.disk
make_puts = puts 1 make_edits first_begun formats.disk refl tt tt make_in

-- its transaction, just before the commit
abbrev pub to_link : State
to_link = with_image first_begun make_puts.image

prepares : Prepared made_new make_edits to_link
prepares =
    record {
      on = refl;
      busy = refl;
      log = refl;
      spool = refl;
      before = make_puts.put.before;
      runs = make_puts.put.runs;
      memory = make_puts.put.memory;
    }

pub fifty_two : length (own to_link) ≡ 52
fifty_two = make_records made_new to_link prepares

some_runs : declared to_link.image ≢ []
some_runs e = let z = ap (λ (rs : List Run). length rs) (sym (make_puts.put.runs ∙ make_runs) ∙ e) in omega (arith, z)

appendable : Appendable 1 (own to_link)
appendable =
    own_appendable to_link
    (writable_at to_link 160 1 1 0 (record { places_is = refl; low_is = refl; last_is = refl; ordinal_is = refl }) refl (omega arith) (omega arith) (omega arith) (omega arith))

pub links : Made 224 formats.disk (writing to_link (own to_link))
links =
    made 224 formats.disk (writing to_link (own to_link)) formats.willing
    (fits_both 224 (appending 160 1 1 (own to_link)) (settled ∷ []) (fits_items 224 160 1 1 1 (own to_link) (omega arith) (omega arith) appendable) (tt, tt))

abbrev pub linked : State
linked = state_of (image_of to_link.image.memory to_link.image.whole no_runs) no_spool 1 53 1 (omega arith) (omega arith) false true

abbrev pub linked_held : Held
linked_held = on_disk linked links.disk

commits : Commits 1 true (on_disk to_link formats.disk) (Ok (1, 52)) linked_held
commits = (
  refl,
  inr
      (record {
        some = some_runs;
        passes = make_room 160 made_new to_link fresh_new prepares;
        answer = ap (λ (k : ℕ). (1, k)) (sym fifty_two);
        enters = (
          links.done,
          record { log = record { places_is = refl; low_is = refl; last_is = ap (λ (k : ℕ). 1 + k) (sym fifty_two); ordinal_is = refl }; empty = refl; on = refl },
        );
        image = record { memory = refl; before = refl; clean = refl };
        free = refl;
      }),
)

make_changes : Changes new_held make_edits true (Ok (1, 52)) linked_held
make_changes =
    record {
      token = first_token;
      begun = on_disk first_begun formats.disk;
      begins = first_begins;
      prepared = on_disk to_link formats.disk;
      puts = make_puts.puts;
      prepares = prepares;
      commits = commits;
    }

pub is_made : Makes device (Ok tt) (on_store true linked_held)
is_made = makes device new_held linked_held (Ok tt) (Ok tt) is_formatted ((1, 52), inr (refl, λ _. make_changes))

-- the card then

abbrev us : List Transaction
us = own_transaction to_link ∷ []

batch_is : batch 0 us ≡ own to_link
batch_is = batch_one 0 (own_transaction to_link)

firm_on : Firm 160 links.disk.shows 1 53 1 (made_of us)
firm_on =
    let new = formatted 160 device formats.disk (omega arith) formats.done in
    let size = ap length batch_is ∙ fifty_two in
    let did : Done formats.disk (writing_batch 160 1 1 nothing_entered us) links.disk =
    subst (λ (xs : List Item). Done formats.disk (appending 160 1 1 xs ++ (settled ∷ [])) links.disk) (sym batch_is) links.done in
    let r = batch_written runs_lay runs_fit runs_none 160 formats.disk links.disk 1 1 nothing_entered us
    (record {
      quiet = new.1;
      firm = new.0;
      few = omega arith;
      proper = (own_proper to_link some_runs, tt);
      room = omega (arith, size);
      serials = omega (arith, size);
    }) did in
    subst (λ (c : ℕ). Firm 160 links.disk.shows 1 c 1 (made_of us)) (ap (λ (k : ℕ). 1 + k) size) r.0

pub opens_linked : OpensTo 160 links.disk.shows 1 53 1 (made_of us)
opens_linked = firm_opens 160 links.disk.shows 1 53 1 (made_of us) firm_on

-- what an opening finds there is the new ledger

before_zeros : byte_in to_link.image.before ≡ made_of []
before_zeros = ap byte_in make_puts.put.before ∙ blank_memory 160 made_new fresh_new

pub holds_new : Holds (byte_in opens_linked.bytes) new_book
holds_new =
    let found = same_memory opens_linked.bytes us opens_linked.finds.bytes (own_inside to_link, tt) opens_linked.agrees in
    let own-memory = same_own to_link [] before_zeros in
    subst (λ (f : ℕ → ℕ). Holds f new_book) (own-memory ∙ sym found) is_made.2
