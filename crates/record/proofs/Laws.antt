-- What the layers above may know of a log's sectors, without opening a definition.
use Rattle.std.proofs.Common.{◌≡◌, ℕ, ◌+◌, ◌-◌, ◌≤◌, ◌⊎◌, List, length, take, drop, replicate, Some, None, Option, Ok, sym, refl, ap, ◌∙◌, inl, inr, ⊎_elim, arith}
use Rattle.std.proofs.lemmas.List.{take_at, length-take-le, length-drop}
use Rattle.std.proofs.lemmas.Bool.{cases_Bool, both_ways}
use Rattle.record.specs.declared.Record.{Record}
use Rattle.record.specs.Fields.{field}
use Rattle.record.specs.Entry.{Entry, laid_out, reads_as}
use Rattle.record.specs.Good.{Placed, Good, Sound}
use Rattle.record.specs.Calls.{Answered, Told, Written}
use Rattle.record.specs.Found.{bad, found, seen, is_good}
use Rattle.record.proofs.Rules.{fits_size, same_entry}
use Rattle.record.proofs.Finding.{good_yes, yes_good}
use Rattle.record.proofs.Prefix.{same_part, same_byte, same_field}
use Rattle.record.proofs.Again.{again, long, kind_back, blank_back, rest_back}

-- A record that may stand at a place is good there once it is laid out,
pub laid_out_good : (places place : ℕ) (e : Entry) → Sound places place e → Good places place (laid_out e)
laid_out_good places place e sound =
    let same = again places place e sound in
    record {
      long = long e (fits_size e.kind e.page e.offset (length e.bytes) sound.fits);
      blank = blank_back e;
      placed = rw (same.serial, same.low, same.ordinal) sound.placed;
      fits = rw (kind_back e, same.page, same.offset, same.size) sound.fits;
    }

-- and is read as itself.
pub laid_out_reads : (places place : ℕ) (e : Entry) → Sound places place e → reads_as (laid_out e) ≡ e
unfolding reads_as
laid_out_reads places place e sound =
    let same = again places place e sound in
    let bytes : take (field 28 2 (laid_out e)) (drop 32 (laid_out e)) ≡ e.bytes =
    rw (same.size, rest_back e) (take_at e.bytes (replicate (96 - length e.bytes) 0) (length e.bytes) refl) in
    same_entry (reads_as (laid_out e)) e (kind_back e) same.serial same.low same.ordinal same.page same.offset bytes

-- Zeros are nowhere good.
pub zeros_bad : (places place : ℕ) → Good places place (replicate 128 0) → ⊥
zeros_bad places place g = omega (arith, g.placed.serial_from)

-- What a good sector says may stand at its place.
pub good_sound : (places place : ℕ) (b : List ℕ) → Good places place b → Sound places place (reads_as b)
unfolding reads_as
good_sound places place b g =
    let small = fits_size _ _ _ _ g.fits in
    let whole = g.long in
    let rest : length (drop 32 b) ≡ 96 = simp length-drop (omega arith) in
    record {
      placed = g.placed;
      fits = rw (length-take-le (field 28 2 b) (drop 32 b) (omega arith)) g.fits;
    }

-- It says as many bytes as its label.
pub good_size : (places place : ℕ) (b : List ℕ) → Good places place b → length (reads_as b).bytes ≡ field 28 2 b
unfolding reads_as
good_size places place b g =
    let small = fits_size _ _ _ _ g.fits in
    let whole = g.long in
    let rest : length (drop 32 b) ≡ 96 = simp length-drop (omega arith) in
    length-take-le (field 28 2 b) (drop 32 b) (omega arith)

-- Its kind is one.
pub good_kind : (places place : ℕ) (b : List ℕ) → Good places place b → (1 ≤ (reads_as b).kind) × ((reads_as b).kind ≤ 4)
good_kind places place b g = (good_sound places place b g).fits.known

-- Bytes past a record's length do not matter: a sector with the same bytes up to there is good too,
pub rest_good : (places place : ℕ) (a b : List ℕ) → Good places place a → length b ≡ 128 → take (32 + field 28 2 a) b ≡ take (32 + field 28 2 a) a → Good places place b
rest_good places place a b g whole same =
    let k : ℕ = 32 + field 28 2 a in
    record {
      long = whole;
      blank = same_byte 31 k a b (omega arith) same ∙ g.blank;
      placed = rw (same_field 0 8 k a b (omega arith) same, same_field 8 8 k a b (omega arith) same, same_field 16 8 k a b (omega arith) same) g.placed;
      fits = rw (same_byte 30 k a b (omega arith) same, same_field 24 2 k a b (omega arith) same, same_field 26 2 k a b (omega arith) same, same_field 28 2 k a b (omega arith) same) g.fits;
    }

-- and holds the same record.
pub rest_reads : (a b : List ℕ) → take (32 + field 28 2 a) b ≡ take (32 + field 28 2 a) a → reads_as b ≡ reads_as a
unfolding reads_as
rest_reads a b same =
    let k : ℕ = 32 + field 28 2 a in
    same_entry (reads_as b) (reads_as a)
    (same_byte 30 k a b (omega arith) same)
    (same_field 0 8 k a b (omega arith) same)
    (same_field 8 8 k a b (omega arith) same)
    (same_field 16 8 k a b (omega arith) same)
    (same_field 24 2 k a b (omega arith) same)
    (same_field 26 2 k a b (omega arith) same)
    (rw (same_field 28 2 k a b (omega arith) same) (same_part 32 (field 28 2 a) k a b (omega arith) same))

-- What is found at a place: what a good sector says, and bad else.
pub found_good : (places place : ℕ) (b : List ℕ) → Good places place b → found places place b ≡ reads_as b
unfolding found
found_good places place b g = rw (yes_good places place b g)

pub found_bad : (places place : ℕ) (b : List ℕ) → (Good places place b → ⊥) → found places place b ≡ bad
unfolding found
found_bad places place b none =
    ⊎_elim
    (λ yes-it. absurd (none (good_yes places place b yes-it)))
    (λ not-it. rw not-it)
    (cases_Bool (is_good places place b))

-- A sector is good or not,
pub good_or_not : (places place : ℕ) (b : List ℕ) → Good places place b ⊎ (Good places place b → ⊥)
good_or_not places place b =
    ⊎_elim
    (λ yes-it. inl (good_yes places place b yes-it))
    (λ not-it. inr (λ g. both_ways (is_good places place b) not-it (yes_good places place b g)))
    (cases_Bool (is_good places place b))

-- and it is good just where what is found has a kind.
pub kind_good : (places place : ℕ) (b : List ℕ) → 1 ≤ (found places place b).kind → Good places place b
kind_good places place b h =
    ⊎_elim
    (λ g. g)
    (λ none. let kind : (found places place b).kind ≡ 0 = ap (λ (e : Entry). e.kind) (found_bad places place b none) in absurd (omega arith))
    (good_or_not places place b)

-- What is found is bad, or may stand there.
pub found_cases : (places place : ℕ) (b : List ℕ) → (found places place b ≡ bad) ⊎ Sound places place (found places place b)
found_cases places place b =
    ⊎_elim
    (λ g. inr (rw (found_good places place b g) (good_sound places place b g)))
    (λ none. inl (found_bad places place b none))
    (good_or_not places place b)

-- A record laid out is found, and nothing among zeros.
pub found_laid_out : (places place : ℕ) (e : Entry) → Sound places place e → found places place (laid_out e) ≡ e
found_laid_out places place e sound = found_good places place (laid_out e) (laid_out_good places place e sound) ∙ laid_out_reads places place e sound

pub found_zeros : (places place : ℕ) → found places place (replicate 128 0) ≡ bad
found_zeros places place = found_bad places place (replicate 128 0) (zeros_bad places place)

-- A record that was written is found where it may stand.
pub written_found : (places place : ℕ) (e : Entry) (before after : List ℕ) → Written e before (Ok tt) after → Placed places place e.serial e.low e.ordinal → found places place after ≡ e
written_found places place e before after (w, is) placed =
    rw is (found_laid_out places place e (record { placed = placed; fits = w.fits }))

-- A reading answers what is found.
pub read_found : (places place : ℕ) (b : List ℕ) (r : Option Record) → Answered places place b r → Told b r → seen r ≡ found places place b
read_found places place b (Some x) good told = told ∙ sym (found_good places place b good)
read_found places place b None bad-there told = sym (found_bad places place b bad-there)
