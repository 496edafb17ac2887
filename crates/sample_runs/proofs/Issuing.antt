-- An issue that waits, and a truncation that power cuts as it begins.
use Rattle.std.proofs.Common.{◌≡◌, ℕ, ◌+◌, ◌%◌, ◌≤◌, Bool, true, false, cond, ◌≢◌, List, [], ◌∷◌, ◌++◌, length, take, drop, replicate, None, Ok, Err, sym, refl, ap, ◌∙◌, subst, inl, inr, arith, length-append}
use Rattle.std.proofs.lemmas.Bool.{le-ltb}
use Rattle.std.proofs.lemmas.List.{length-take, length-drop, take-append-le, take_all}
use Rattle.device.specs.declared.fault.DeviceFault.TheVariants.{Power}
use Rattle.device.specs.Disk.{Disk, Shown, Among}
use Rattle.record.specs.Entry.{laid_out}
use Rattle.record.specs.Fields.{digits}
use Rattle.durability.specs.Items.{Item, recorded}
use Rattle.image.specs.declared.run.Run.{Run}
use Rattle.image.specs.Calls.{declared}
use Rattle.image.specs.Cut.{cut, cut_runs}
use Rattle.image.specs.Runs.{run}
use Rattle.transactions.specs.declared.fault.StoreFault.TheVariants.{Device}
use Rattle.transactions.specs.declared.state.State.{State}
use Rattle.transactions.specs.Parts.{Spool, parts, waiting}
use Rattle.transactions.specs.Held.{Held, Begins, Commits, Truncates}
use Rattle.transactions.specs.Rows as store
use Rattle.transactions.specs.State.{own}
use Rattle.transactions.specs.Truncation.{is_dirty, dirty_pages, due_pages, truncate_rows}
use Rattle.transactions.proofs.Flagging.{chosen_few, chosen_has}
use Rattle.book.specs.Layout.{byte_in, balance_at}
use Rattle.book.specs.Book.{Book, Holds, new_book}
use Rattle.book.specs.Rows.{Row, first_fit, issue_rows}
use Rattle.book.specs.Edits.{Edit, edit, declaring, issue_edits, issued_to, after_edits}
use Rattle.book.proofs.Changes.{issue_holds}
use Rattle.book.proofs.Standing.{digits_length}
use Rattle.book.proofs.Sums.{sum_least}
use Rattle.book.proofs.Totals.{same_issued}
use Rattle.changes.specs.Changes.{Prepared, Changes}
use Rattle.ledger.specs.Sound.{HoldsBook, on_store}
use Rattle.ledger.specs.Calls.{Issues}
use Rattle.ledger.proofs.Standing.{committed, done_changes, holds_after}
use Rattle.sample_runs.proofs.Disks.{turned_off, torn}
use Rattle.sample_runs.proofs.States.{no_runs, no_spool, image_of, state_of}
use Rattle.sample_runs.proofs.Calls.{second_token}
use Rattle.sample_runs.proofs.Puts.{with_image, on_disk, AllIn, PutTo, puts}
use Rattle.sample_runs.proofs.Linking.{to_link, links, linked, linked_held, is_made}

-- each book that the new memory holds has nothing issued, and nothing in account 1

holds_new : HoldsBook linked new_book
holds_new = is_made.2

none_issued : (b : Book) → HoldsBook linked b → b.issued ≡ 0
none_issued b h = same_issued (byte_in linked.image.memory) b new_book h holds_new

none_held : (b : Book) → HoldsBook linked b → b.balances 1 ≡ 0
none_held b h =
    omega (arith, sum_least 64 1 b.balances (omega arith) (omega arith), h.money.sum, none_issued b h)

fits : (b : Book) → HoldsBook linked b → first_fit (issue_rows b 1 20) ≡ None
fits b h = ap (λ (n : ℕ). first_fit (rows_of n)) (none_issued b h)
  where
    rows_of : ℕ → List Row
    rows_of n = issue_rows (record { issued = n; balances = b.balances; free = b.free; entries = b.entries; tags = b.tags }) 1 20

abbrev pub edits : List Edit
edits = issue_edits new_book 1 20

are : (b : Book) → HoldsBook linked b → edits ≡ issue_edits b 1 20
are b h =
    ap (λ (n : ℕ). edit 0 (digits 8 (n + 20)) ∷ edit (balance_at 1) (digits 8 (0 + 20)) ∷ []) (sym (none_issued b h))
    ∙ ap (λ (n : ℕ). edit 0 (digits 8 (b.issued + 20)) ∷ edit (balance_at 1) (digits 8 (n + 20)) ∷ []) (sym (none_held b h))

-- the transaction

abbrev pub begun : State
begun = state_of (image_of to_link.image.memory to_link.image.whole no_runs) no_spool 1 53 1 (omega arith) (omega arith) true true

edits_in : AllIn edits
edits_in =
    let a = digits_length 8 20 in
    (omega (arith, a), omega (arith, a), (omega (arith, a), omega (arith, a), tt))

pub issue_puts : PutTo 2 edits begun links.disk
issue_puts = puts 2 edits begun links.disk refl tt tt edits_in

abbrev pub to_issue : State
to_issue = with_image begun issue_puts.image

prepares : Prepared linked edits to_issue
prepares =
    record {
      on = refl;
      busy = refl;
      log = refl;
      spool = refl;
      before = issue_puts.put.before;
      runs = issue_puts.put.runs;
      memory = issue_puts.put.memory;
    }

issue_runs : declaring edits [] ≡ run 0 8 ∷ run 16 24 ∷ []
unfolding digits
issue_runs = refl

runs_are : declared to_issue.image ≡ run 0 8 ∷ run 16 24 ∷ []
runs_are = issue_puts.put.runs ∙ issue_runs

some_runs : declared to_issue.image ≢ []
some_runs e = let z = ap (λ (rs : List Run). length rs) (sym runs_are ∙ e) in omega (arith, z)

abbrev pub part : (kind offset : ℕ) → Item
part kind offset = record { kind = kind; ordinal = 2; page = 0; offset = offset; bytes = take 8 (drop offset to_issue.image.memory) }

two_parts : parts 2 to_issue.image.memory (cut_runs (run 0 8 ∷ run 16 24 ∷ [])) ≡ part 1 0 ∷ part 2 16 ∷ []
unfolding cut
two_parts = refl

own_two : own to_issue ≡ part 1 0 ∷ part 2 16 ∷ []
own_two = ap (λ (rs : List Run). parts 2 to_issue.image.memory (cut_runs rs)) runs_are ∙ two_parts

two : length (own to_issue) ≡ 2
two = ap length own_two

pub eight : (offset : ℕ) → offset ≤ 16 → length (take 8 (drop offset to_issue.image.memory)) ≡ 8
eight offset low =
    let whole = to_issue.image.whole in
    simp (length-take, length-drop) (omega (arith, whole, low))

-- those bytes, and zeros after them
abbrev pub padded : ℕ → List ℕ
padded offset = take 8 (drop offset to_issue.image.memory) ++ replicate 88 0

pub padded_long : (offset : ℕ) → offset ≤ 16 → length (padded offset) ≡ 96
padded_long offset low =
    length-append (take 8 (drop offset to_issue.image.memory)) (replicate 88 0)
    ∙ ap (λ (n : ℕ). n + length (replicate {A = ℕ} 88 0)) (eight offset low)

pub padded_front : (offset : ℕ) → offset ≤ 16 → take 8 (padded offset) ≡ take 8 (drop offset to_issue.image.memory)
padded_front offset low =
    let long = eight offset low in
    take-append-le 8 (take 8 (drop offset to_issue.image.memory)) (replicate 88 0) (omega (arith, long))
    ∙ take_all 8 (take 8 (drop offset to_issue.image.memory)) (omega (arith, long))

abbrev pub in_spool : Spool
in_spool =
    record {
      items =
          record {
            ordinal = 2;
            page = 0;
            offset = 0;
            size = 8;
            last = false;
            bytes = padded 0;
            paged = omega arith;
            some = omega arith;
            within = omega arith;
            sized = padded_long 0 (omega arith);
          }
          ∷ record {
            ordinal = 2;
            page = 0;
            offset = 16;
            size = 8;
            last = true;
            bytes = padded 16;
            paged = omega arith;
            some = omega arith;
            within = omega arith;
            sized = padded_long 16 (omega arith);
          }
          ∷ [];
    }

-- the first of them
abbrev waits_first : Item
waits_first = record { kind = 1; ordinal = 2; page = 0; offset = 0; bytes = take 8 (padded 0) }

wait_two : waiting in_spool ≡ part 1 0 ∷ part 2 16 ∷ []
wait_two =
    ap (λ (bytes : List ℕ). record { kind = 1; ordinal = 2; page = 0; offset = 0; bytes = bytes } ∷ record { kind = 2; ordinal = 2; page = 0; offset = 16; bytes = take 8 (padded 16) } ∷ []) (padded_front 0 (omega arith))
    ∙ ap (λ (bytes : List ℕ). part 1 0 ∷ record { kind = 2; ordinal = 2; page = 0; offset = 16; bytes = bytes } ∷ []) (padded_front 16 (omega arith))

abbrev pub issued : State
issued = state_of (image_of to_issue.image.memory to_issue.image.whole no_runs) in_spool 1 53 2 (omega arith) (omega arith) false true

abbrev pub issued_held : Held
issued_held = on_disk issued links.disk

begins : Begins linked_held (Ok second_token) (on_disk begun links.disk)
begins = ((refl, refl, record { image_is = refl; spool_is = refl; log_is = refl; busy_is = refl; on_is = refl }), refl)

commits : Commits 2 false (on_disk to_issue links.disk) (Ok (2, 2)) issued_held
commits = (
  refl,
  inr
      (record {
        some = some_runs;
        passes = ap (λ (k : ℕ). store.first_fit (store.commit_rows to_issue k false)) two;
        answer = ap (λ (k : ℕ). (2, k)) (sym two);
        enters = (
          refl,
          record { log = record { places_is = refl; low_is = refl; last_is = refl; ordinal_is = refl }; waits = wait_two ∙ sym own_two; on = refl },
        );
        image = record { memory = refl; before = refl; clean = refl };
        free = refl;
      }),
)

issue_changes : Changes linked_held edits false (Ok (2, 2)) issued_held
issue_changes =
    record {
      token = second_token;
      begun = on_disk begun links.disk;
      begins = begins;
      prepared = on_disk to_issue links.disk;
      puts = issue_puts.puts;
      prepares = prepares;
      commits = commits;
    }

pub leaves : (b : Book) → HoldsBook linked b → HoldsBook issued (issued_to 1 20 b)
leaves b h =
    let f = byte_in linked.image.memory in
    holds_after linked issued edits (issued_to 1 20 b)
    (done_changes linked issued links.disk links.disk edits false (2, 2) (committed linked_held issued_held edits false (Ok (2, 2)) issue_changes))
    (subst (λ (xs : List Edit). Holds (after_edits xs f) (issued_to 1 20 b)) (sym (are b h)) (issue_holds f b 1 20 h (fits b h)))

pub is_issued : Issues 1 20 false (on_store true linked_held) (Ok 2) (on_store true issued_held)
is_issued =
    inr (inr (Ok (2, 2), refl, record { on = refl; fits = fits; made = edits; are = are; changes = issue_changes; leaves = leaves; fit = refl }))

-- the truncation

either : (b : Bool) → cond b true true ≡ true
either true = refl
either false = refl

some_dirty : (shows : ℕ → Shown) → dirty_pages issued shows ≢ []
some_dirty shows e =
    subst (λ (ps : List ℕ). Among 0 ps) e (chosen_has (is_dirty issued shows) 0 64 0 (omega arith) (omega arith) (either _))

passes : (shows : ℕ → Shown) → store.first_fit (truncate_rows issued (length (due_pages issued shows))) ≡ None
passes shows =
    let due = length (due_pages issued shows) in
    let few : due ≤ 64 = chosen_few _ 0 64 in
    let a = le-ltb 160 (53 + 2 + due + 1) (omega (arith, few)) in
    rw a refl

abbrev pub cut_disk : Disk
cut_disk = turned_off links.disk

abbrev pub cut_state : State
cut_state = state_of (image_of to_issue.image.memory to_issue.image.whole no_runs) in_spool 1 53 2 (omega arith) (omega arith) false false

abbrev pub cut_held : Held
cut_held = on_disk cut_state cut_disk

pub truncates : Truncates issued_held (Err (Device (Power 0))) cut_held
truncates =
    inr
    (record {
      passes = passes links.disk.shows;
      some = some_dirty links.disk.shows;
      origin = 0;
      fault = refl;
      cut = inl (inr (torn links.disk (54 % 160) (laid_out (recorded 1 54 waits_first)) links.willing.on));
      state = record { off = refl; image = refl; spool = refl; log = refl; pages = refl; busy = refl };
    })
