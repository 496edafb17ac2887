-- Edits put into an open transaction.
use Rattle.std.proofs.Common.{◌≡◌, ℕ, ◌+◌, ◌<◌, ◌≤◌, List, [], ◌∷◌, length, get_or, None, refl, ap, ◌∙◌, inl, inr, arith}
use borrow.Rule.Slice.PartMut.{put_mid}
use Rattle.device.specs.Disk.{Disk}
use Rattle.journal.specs.Memory.{overlaid}
use Rattle.journal.proofs.Overlay.{put_overlaid}
use Rattle.image.specs.declared.state.Image.{Image}
use Rattle.image.specs.Calls.{declared}
use Rattle.image.specs.Runs.{Declared, Apart, Inside, joined}
use Rattle.image.proofs.Joining.{joined_apart, joined_covers, joined_only, joined_inside}
use Rattle.image.proofs.Copying.{written_length, unwritten}
use Rattle.transactions.specs.declared.state.State.{State}
use Rattle.transactions.specs.Held.{Held}
use Rattle.transactions.specs.Rows.{first_fit, token_rows}
use Rattle.book.specs.Edits.{Edit, edited}
use Rattle.changes.specs.Changes.{PutIn}
use Rattle.changes.specs.Steps.{Put}

abbrev pub with_image : State → Image → State
with_image s x =
    record { image = x; spool = s.spool; log = s.log; pages = s.pages; busy = s.busy; on = s.on; bounded = s.bounded; numbered = s.numbered }

abbrev pub on_disk : State → Disk → Held
on_disk s d = record { state = s; disk = d }

-- A stretch more is declared.
abbrev pub set_image : (x : Image) (f t : ℕ) → f < t → t ≤ 6144 → Apart 0 (declared x) → Inside (declared x) → Image
set_image x f t some room apart inside =
    record {
      memory = x.memory;
      before = x.before;
      runs =
          record {
            items = record { items = joined f t (declared x) };
            apart = ∣ joined_apart 0 f t (declared x) (omega arith) some apart ∣₁;
            inside = ∣ joined_inside f t (declared x) room inside ∣₁;
          };
      whole = x.whole;
      kept = x.kept;
      same = λ i not-so. x.same i (λ d. not-so (joined_covers f t (declared x) i (inr d)));
    }

-- Bytes are put into declared places.
abbrev pub put_image : (x : Image) (start : ℕ) (bytes : List ℕ) → start + length bytes ≤ 6144 → ((i : ℕ) → start ≤ i → i < start + length bytes → Declared (declared x) i) → Image
put_image x start bytes room all =
    let fits : start + length bytes ≤ length x.memory = omega (arith, room, x.whole) in
    record {
      memory = put_mid start (length bytes) x.memory bytes;
      before = x.before;
      runs = x.runs;
      whole = written_length start (length bytes) bytes bytes x.memory refl refl fits ∙ x.whole;
      kept = x.kept;
      same = λ i not-so.
          put_overlaid start bytes x.memory fits i
          ∙ unwritten start bytes i (get_or x.memory i 0) (λ a b. not-so (all i a b)) ∙ x.same i not-so;
    }

-- Each edit has bytes, and lies in the memory.
abbrev pub AllIn : List Edit → Type 0
AllIn [] = Unit {0}
AllIn (x ∷ xs) = (1 ≤ length x.bytes) × (x.start + length x.bytes ≤ 6144) × AllIn xs

-- The memory once the edits are declared and written under the token with this number.
pub record PutTo (number : ℕ) (xs : List Edit) (s : State) (d : Disk) : Type 0 where
  pub image : Image
  pub puts : PutIn number xs (on_disk s d) (on_disk (with_image s image) d)
  pub put : Put s xs (with_image s image)

pub puts : (number : ℕ) (xs : List Edit) (s : State) (d : Disk) → first_fit (token_rows s number) ≡ None → Apart 0 (declared s.image) → Inside (declared s.image) → AllIn xs → PutTo number xs s d
puts number [] s d fits apart inside all =
    record {
      image = s.image;
      puts = refl;
      put = record { on = refl; busy = refl; log = refl; spool = refl; before = refl; runs = refl; memory = λ _. refl };
    }
puts number (x ∷ xs) s d fits apart inside (some, room, all) =
    let f = x.start in
    let t = x.start + length x.bytes in
    let less : f < t = omega (arith, some) in
    let rs = declared s.image in
    let apart' = joined_apart 0 f t rs (omega arith) less apart in
    let inside' = joined_inside f t rs room inside in
    let there : (i : ℕ) → f ≤ i → i < t → Declared (joined f t rs) i = λ i a b. joined_covers f t rs i (inl (a, b)) in
    let set = set_image s.image f t less room apart inside in
    let put = put_image set f x.bytes room there in
    let more = puts number xs (with_image s put) d fits apart' inside' all in
    let byte : (i : ℕ) → get_or put.memory i 0 ≡ overlaid f x.bytes i (get_or s.image.memory i 0) = λ i. put_overlaid f x.bytes s.image.memory (omega (arith, room, s.image.whole)) i in
    record {
      image = more.image;
      puts = (
        on_disk (with_image s set) d,
        on_disk (with_image s put) d,
        (
          (
            fits,
            record {
              in_range = (some, room);
              declares = record { apart = apart'; all = λ i e. joined_covers f t rs i e; only = λ i e. joined_only f t rs i e };
              memory = refl;
              before = refl;
            },
            record { image_is = refl; spool_is = refl; log_is = refl; busy_is = refl; on_is = refl },
          ),
          refl,
        ),
        (
          (
            fits,
            record { in_range = (some, room); all = there; runs = refl; before = refl; memory = byte },
            record { image_is = refl; spool_is = refl; log_is = refl; busy_is = refl; on_is = refl },
          ),
          refl,
        ),
        more.puts,
      );
      put =
          record {
            on = more.put.on;
            busy = more.put.busy;
            log = more.put.log;
            spool = more.put.spool;
            before = more.put.before;
            runs = more.put.runs;
            memory = λ i. more.put.memory i ∙ ap (λ (v : ℕ). edited xs i v) (byte i);
          };
    }
