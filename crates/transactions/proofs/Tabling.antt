-- The page table of a store, before and after each call.
use Rattle.std.proofs.Common.{◌≡◌, ℕ, ◌+◌, ◌-◌, ◌%◌, ◌^◌, ◌<◌, ◌≤◌, Bool, true, false, cond, eqb, List, [], ◌∷◌, ◌++◌, map, length, sym, refl, ap, ◌∙◌, subst, inl, ⊎_elim, arith}
use Rattle.std.proofs.lemmas.List.{nil_from_length, length-append}
use mathlib.Core.Logic.{∥∥₁_elim}
use mathlib.Core.HLevel.{Unit-prop}
use native.Mathlib.Bridge.{le_prop}
use Rattle.std.proofs.Math.Nat.{ℕ_set, add-mod_right}
use Rattle.arrayvec.specs.ArrayVec.{array_vec_len}
use Rattle.std.specs.Int.{bit_at}
use Rattle.std.proofs.lemmas.Bool.{cases_lt}
use Rattle.std.proofs.lemmas.Nat.Bits.{bit_at-zero}
use Rattle.device.specs.Disk.{Disk, Shown, holds}
use Rattle.device.specs.Meaning.{Quiet}
use Rattle.device.specs.Trace.{wrote, settled, Done}
use Rattle.record.specs.Entry.{Entry, laid_out}
use Rattle.record.specs.Good.{Fits}
use Rattle.journal.specs.declared.pages.PageTable.{PageTable}
use Rattle.journal.specs.Log.{said, log}
use Rattle.journal.specs.Opening.{Here, Finds}
use Rattle.journal.proofs.Places.{kept, in_log as in_log_at}
use Rattle.journal.specs.Pages.{names, covers, in_log, named_in, covered_in, unsaid, Tabled}
use Rattle.recovery.specs.Clearing.{clearing}
use Rattle.recovery.specs.Format.{mark, zeroing, formatting}
use Rattle.durability.specs.Promises.{marking}
use Rattle.durability.specs.Items.{Item, appending, Appendable}
use Rattle.image.specs.Calls.{declared}
use Rattle.image.specs.Cut.{cut_runs}
use Rattle.image.proofs.Cutting.{runs_fit}
use Rattle.image.proofs.Facts.{inside_out}
use Rattle.durability.proofs.Writes.{done_split, left_done}
use Rattle.durability.proofs.Clearings.{clearing_steady, thinned}
use Rattle.transactions.specs.declared.log.Log.{Log}
use Rattle.transactions.specs.declared.spool.Spooled.{Spooled}
use Rattle.transactions.specs.declared.state.State.{State}
use Rattle.transactions.specs.Calls.{writing, Written, SpooledUp}
use Rattle.transactions.specs.Pages.{Gains, Tabulates, Writable, TableStands}
use Rattle.transactions.specs.Parts.{Spool, item_of, waiting}
use Rattle.transactions.specs.State.{live, spooled, own, StandsAt}
use Rattle.transactions.specs.Truncation.{in_items, said_of, flushing, covering, going_home, covered_to, truncating, Truncated}
use Rattle.transactions.proofs.Appending.{Blind, there as there_is, same_there, in_log_same, says_appended, in_items_append, settled_same, or_none, or_group}
use Rattle.transactions.proofs.Fitting.{appendable_append, appendable_parts}
use Rattle.transactions.proofs.Loops.{length_waiting}
use Rattle.transactions.proofs.Plans.{Roomy}

-- that items may be appended is one fact

fits_prop : (kind page offset size : ℕ) → IsProp (Fits kind page offset size)
fits_prop kind page offset size = hlevel (le_prop, ℕ_set)

appendable_prop : (last : ℕ) (xs : List Item) → IsProp (Appendable last xs)
appendable_prop last [] = Unit-prop
appendable_prop last (x ∷ xs) = hlevel (le_prop, fits_prop, appendable_prop (last + 1) xs)

pub appendable_out : (last : ℕ) (xs : List Item) → ∥ Appendable last xs ∥₁ → Appendable last xs
appendable_out last xs h = ∥∥₁_elim h (appendable_prop last xs) (λ a. a)

-- what waits in an empty spool
pub none_waits : (s : State) → array_vec_len s.spool ≡ 0 → spooled s ≡ []
none_waits s e = ap (λ (xs : List Spooled). map item_of xs) (nil_from_length s.spool.items e)

-- what is said of a log that stands here, with an empty spool
pub said_at : (says : Entry → ℕ → Bool) (s : State) (shows : ℕ → Shown) (n low last o p : ℕ) → StandsAt s.log n low last o → array_vec_len s.spool ≡ 0
    → said_of says s shows p ≡ in_log says (log n shows) low (last + 1 - low) p
said_at says s shows n low last o p at empty =
    ap (λ (xs : List Item). cond (in_log says (log s.log.places shows) s.log.low (live s) p) true (in_items says xs p)) (none_waits s empty)
    ∙ or_none (in_log says (log s.log.places shows) s.log.low (live s) p)
    ∙ ap (λ (k : ℕ). in_log says (log k shows) s.log.low (live s) p) at.places_is
    ∙ ap (λ (k : ℕ). in_log says (log n shows) k (s.log.last + 1 - k) p) at.low_is
    ∙ ap (λ (k : ℕ). in_log says (log n shows) low (k + 1 - low) p) at.last_is

-- a log that stands here, with room and nothing waiting
pub writable_at : (s : State) (n low last o : ℕ) → StandsAt s.log n low last o → array_vec_len s.spool ≡ 0 → 1 ≤ low → low ≤ last → last + 1 - low ≤ n → o < last → Writable s
writable_at s n low last o at empty begun from room number =
    let a = at.places_is in
    let b = at.low_is in
    let c = at.last_is in
    let d = at.ordinal_is in
    record {
      begun = omega arith;
      from = omega arith;
      room = omega arith;
      number = omega arith;
      waits = subst (λ (xs : List Item). ∥ Appendable s.log.last xs ∥₁) (sym (none_waits s empty)) ∣ tt ∣₁;
    }

-- what is said once records were written
module _ (s s' : State) (d e : Disk) (xs : List Item) (o : ℕ) (w : Writable s) (room : live s + length xs ≤ s.log.places) (serials : s.log.last + length xs < 2 ^ 63) (a : Appendable s.log.last xs)
    (done : Done d (writing s xs) e) (left : Written s xs o s') where
  pub wrote_says : (says : Entry → ℕ → Bool) → Blind says → (p : ℕ)
      → said_of says s' e.shows p ≡ cond (in_log says (log s.log.places d.shows) s.log.low (live s) p) true (in_items says xs p)
  wrote_says says blind p =
      let n = s.log.places in
      let low = s.log.low in
      let last = s.log.last in
      let b = settled_same d e (appending n low last xs) done in
      let from = w.from in
      said_at says s' e.shows n low (last + length xs) o p left.log left.empty
      ∙ in_log_same says (log n b.0.shows) (log n e.shows) low (last + length xs + 1 - low) p (λ t _ _. same_there n b.0.shows e.shows t (b.2 (t % n)))
      ∙ says_appended n low w.begun says blind last p xs d b.0 from (omega arith) serials a b.1

  pub wrote_writable : o < s.log.last + length xs → Writable s'
  wrote_writable number =
      let from = w.from in
      writable_at s' s.log.places s.log.low (s.log.last + length xs) o left.log left.empty w.begun (omega arith) (omega arith) number

-- after a flush
pub flushed_stands : (s s' : State) (d e : Disk) → Writable s → Tabulates s d.shows → Done d (writing s (spooled s)) e → Written s (spooled s) s.log.ordinal s' → s'.pages ≡ s.pages
    → Writable s' × Tabulates s' e.shows
flushed_stands s s' d e w t done left pages =
    let long = length_waiting s.spool in
    let room : live s + length (spooled s) ≤ s.log.places = omega (arith, w.room) in
    let serials : s.log.last + length (spooled s) < 2 ^ 63 = omega (arith, s.bounded) in
    let a = appendable_out s.log.last (spooled s) w.waits in (
      wrote_writable s s' d e (spooled s) s.log.ordinal w room serials a done left (omega (arith, w.number)),
      record {
        named = λ p small.
            ap (λ (k : PageTable). named_in k p) pages ∙ t.named p small
            ∙ sym (wrote_says s s' d e (spooled s) s.log.ordinal w room serials a done left names (λ low k q x. refl) p);
        covered = λ p small.
            ap (λ (k : PageTable). covered_in k p) pages ∙ t.covered p small
            ∙ sym (wrote_says s s' d e (spooled s) s.log.ordinal w room serials a done left covers (λ low k q x. refl) p);
      },
    )

-- the transaction's own records may be appended to what waits
pub own_appendable : (s : State) → Writable s → Appendable (s.log.last + array_vec_len s.spool) (own s)
own_appendable s w =
    appendable_parts (s.log.last + array_vec_len s.spool) (s.log.ordinal + 1) s.image.memory (cut_runs (declared s.image)) (omega (arith, w.number)) s.image.whole
    (runs_fit (declared s.image) (inside_out (declared s.image) s.image.runs.inside))

pub all_appendable : (s : State) → Writable s → Appendable s.log.last (spooled s ++ own s)
all_appendable s w =
    appendable_append s.log.last (spooled s) (own s) (appendable_out s.log.last (spooled s) w.waits)
    (subst (λ (k : ℕ). Appendable (s.log.last + k) (own s)) (sym (length_waiting s.spool)) (own_appendable s w))

-- What the tests of a commit say of its room.
pub record Fitted (s : State) : Type 0 where
  pub room : live s + array_vec_len s.spool + length (own s) ≤ s.log.places
  pub serials : s.log.last + array_vec_len s.spool + length (own s) < 2 ^ 63
  pub some : 1 ≤ length (own s)

gained : (says : Entry → ℕ → Bool) (xs ys : List Item) (p : ℕ) (old live? : Bool) → old ≡ cond live? true (in_items says xs p)
    → cond old true (in_items says ys p) ≡ cond live? true (in_items says (xs ++ ys) p)
gained says xs ys p old live? e =
    ap (λ (b : Bool). cond b true (in_items says ys p)) e
    ∙ sym (or_group live? (in_items says xs p) (in_items says ys p))
    ∙ ap (λ (b : Bool). cond live? true b) (sym (in_items_append says xs ys p))

-- after a commit with flush
pub committed_stands : (s s' : State) (d e : Disk) → Writable s → Tabulates s d.shows → Fitted s → Done d (writing s (spooled s ++ own s)) e
    → Written s (spooled s ++ own s) (s.log.ordinal + 1) s' → Gains (own s) s.pages s'.pages → Writable s' × Tabulates s' e.shows
committed_stands s s' d e w t fit done left gains =
    let xs = spooled s ++ own s in
    let long : length xs ≡ array_vec_len s.spool + length (own s) = omega (arith, length-append (spooled s) (own s), length_waiting s.spool) in
    let room : live s + length xs ≤ s.log.places = omega (arith, fit.room) in
    let serials : s.log.last + length xs < 2 ^ 63 = omega (arith, fit.serials) in
    let a = all_appendable s w in (
      wrote_writable s s' d e xs (s.log.ordinal + 1) w room serials a done left (omega (arith, w.number, fit.some)),
      record {
        named = λ p small.
            gains.named p small
            ∙ gained names (spooled s) (own s) p (named_in s.pages p) (in_log names (log s.log.places d.shows) s.log.low (live s) p) (t.named p small)
            ∙ sym (wrote_says s s' d e xs (s.log.ordinal + 1) w room serials a done left names (λ low k q x. refl) p);
        covered = λ p small.
            gains.covered p small
            ∙ gained covers (spooled s) (own s) p (covered_in s.pages p) (in_log covers (log s.log.places d.shows) s.log.low (live s) p) (t.covered p small)
            ∙ sym (wrote_says s s' d e xs (s.log.ordinal + 1) w room serials a done left covers (λ low k q x. refl) p);
      },
    )

-- after a commit without flush
pub spooled_stands : (s s' : State) (d : Disk) → Writable s → Tabulates s d.shows → Fitted s → SpooledUp s (own s) (s.log.ordinal + 1) s' → Gains (own s) s.pages s'.pages
    → Writable s' × Tabulates s' d.shows
spooled_stands s s' d w t fit up gains =
    let a = up.log.places_is in
    let b = up.log.low_is in
    let c = up.log.last_is in
    let number = up.log.ordinal_is in
    let count : array_vec_len s'.spool ≡ array_vec_len s.spool + length (own s) =
    omega (arith, length_waiting s'.spool, ap length up.waits, length-append (spooled s) (own s), length_waiting s.spool) in
    let begun = w.begun in
    let from = w.from in
    let room = fit.room in
    let some = fit.some in
    let before = w.number in
    let said : (says : Entry → ℕ → Bool) (p : ℕ) → said_of says s' d.shows p ≡ cond (in_log says (log s.log.places d.shows) s.log.low (live s) p) true (in_items says (spooled s ++ own s) p) =
    λ says p.
    ap (λ (xs : List Item). cond (in_log says (log s'.log.places d.shows) s'.log.low (live s') p) true (in_items says xs p)) up.waits
    ∙ ap (λ (k : ℕ). cond (in_log says (log k d.shows) s'.log.low (live s') p) true (in_items says (spooled s ++ own s) p)) a
    ∙ ap (λ (k : ℕ). cond (in_log says (log s.log.places d.shows) k (s'.log.last + 1 - k) p) true (in_items says (spooled s ++ own s) p)) b
    ∙ ap (λ (k : ℕ). cond (in_log says (log s.log.places d.shows) s.log.low (k + 1 - s.log.low) p) true (in_items says (spooled s ++ own s) p)) c in (
      record {
        begun = omega arith;
        from = omega arith;
        room = omega arith;
        number = omega arith;
        waits =
            subst (λ (xs : List Item). ∥ Appendable s'.log.last xs ∥₁) (sym up.waits)
            (subst (λ (k : ℕ). ∥ Appendable k (spooled s ++ own s) ∥₁) (sym c) ∣ all_appendable s w ∣₁);
      },
      record {
        named = λ p small.
            gains.named p small
            ∙ gained names (spooled s) (own s) p (named_in s.pages p) (in_log names (log s.log.places d.shows) s.log.low (live s) p) (t.named p small)
            ∙ sym (said names p);
        covered = λ p small.
            gains.covered p small
            ∙ gained covers (spooled s) (own s) p (covered_in s.pages p) (in_log covers (log s.log.places d.shows) s.log.low (live s) p) (t.covered p small)
            ∙ sym (said covers p);
      },
    )

-- a store that is off has any table
pub off_stands : (s : State) (d : Disk) → s.on ≡ false → TableStands s d
off_stands s d down on = let z : ◌≡◌ {A = Bool} true false = sym on ∙ down in absurd (differ z)
  where
    differ : true ≡ false → ⊥
    differ e = let z : ◌≡◌ {A = ℕ} 0 1 = cc in omega arith

-- a store whose log, spool and table are as they were
pub same_stands : (s s' : State) (d : Disk) → s'.log ≡ s.log → s'.spool ≡ s.spool → s'.pages ≡ s.pages → (s'.on ≡ true → s.on ≡ true) → TableStands s d → TableStands s' d
same_stands s s' d log_is spool_is pages_is on_is h on =
    let stands = h (on_is on) in
    let w = stands.0 in
    let t = stands.1 in
    let a = ap (λ (l : Log). l.places) log_is in
    let b = ap (λ (l : Log). l.low) log_is in
    let c = ap (λ (l : Log). l.last) log_is in
    let o = ap (λ (l : Log). l.ordinal) log_is in
    let k = ap array_vec_len spool_is in
    let begun = w.begun in
    let from = w.from in
    let room = w.room in
    let number = w.number in
    let said : (says : Entry → ℕ → Bool) (p : ℕ) → said_of says s' d.shows p ≡ said_of says s d.shows p =
    λ says p.
    ap (λ (l : Log). cond (in_log says (log l.places d.shows) l.low (l.last + 1 - l.low) p) true (in_items says (waiting s'.spool) p)) log_is
    ∙ ap (λ (q : Spool). cond (in_log says (log s.log.places d.shows) s.log.low (live s) p) true (in_items says (waiting q) p)) spool_is in (
      record {
        begun = omega arith;
        from = omega arith;
        room = omega arith;
        number = omega arith;
        waits =
            subst (λ (q : Spool). ∥ Appendable s'.log.last (waiting q) ∥₁) (sym spool_is)
            (subst (λ (l : ℕ). ∥ Appendable l (spooled s) ∥₁) (sym c) w.waits);
      },
      record {
        named = λ p small. ap (λ (x : PageTable). named_in x p) pages_is ∙ t.named p small ∙ sym (said names p);
        covered = λ p small. ap (λ (x : PageTable). covered_in x p) pages_is ∙ t.covered p small ∙ sym (said covers p);
      },
    )

-- what the tests of a commit let through
pub fitted : (s : State) (k : ℕ) (flush : Bool) → k ≡ length (own s) → 1 ≤ k → Roomy s k flush → Fitted s
fitted s k flush count some room =
    let serials = room.serials in
    let places = room.places in
    record { room = omega arith; serials = omega arith; some = omega arith }

unsaid_named : (p : ℕ) → eqb (bit_at 0 p) 1 ≡ false
unsaid_named p = ap (λ (x : ℕ). eqb x 1) (bit_at-zero p)

-- a log that is a mark and nothing more says nothing of pages
module _ (s' : State) (e : Disk) (n last o : ℕ) (at : StandsAt s'.log n last last o) (empty : array_vec_len s'.spool ≡ 0) (pages : s'.pages ≡ unsaid)
    (there : e.shows (last % n) ≡ holds (laid_out (mark (record { serial = last; low = last; ordinal = o })))) (some : 1 ≤ n) (begun : 1 ≤ last) (serials : last < 2 ^ 63) (number : o < last) where
  abbrev first : Entry
  first = mark (record { serial = last; low = last; ordinal = o })

  mark_there : log n e.shows last ≡ first
  mark_there =
      there_is n e.shows first
      (record {
        placed = record { serial_from = begun; serial_to = serials; here = refl; low_from = begun; low_to = omega arith; near = omega arith; ordinal_below = number };
        fits = record {
          known = (omega arith, omega arith);
          piece = λ k. absurd (omega arith);
          whole = λ k. absurd (omega arith);
          mark = λ k. (refl, refl, refl);
        };
      })
      there

  none_said : (says : Entry → ℕ → Bool) (p : ℕ) → says first p ≡ false → said_of says s' e.shows p ≡ false
  unfolding in_log
  none_said says p none =
      let one : last + 1 - last ≡ 1 = omega arith in
      let here : last + 0 ≡ last = omega arith in
      said_at says s' e.shows n last last o p at empty
      ∙ ap (λ (k : ℕ). in_log says (log n e.shows) last k p) one
      ∙ ap (λ (t : ℕ). cond (says (log n e.shows t) p) true false) here
      ∙ ap (λ (x : Entry). cond (says x p) true false) mark_there
      ∙ ap (λ (b : Bool). cond b true false) none

  nothing_names : (p : ℕ) → names first p ≡ false
  nothing_names p = go (eqb 0 p)
    where
      go : (b : Bool) → cond b false false ≡ false
      go true = refl
      go false = refl

  nothing_covers : (p : ℕ) → covers first p ≡ false
  nothing_covers p = go (eqb 0 p)
    where
      go : (b : Bool) → cond b false false ≡ false
      go true = refl
      go false = refl

  pub mark_stands : Writable s' × Tabulates s' e.shows
  mark_stands = (
    writable_at s' n last last o at empty begun (omega arith) (omega arith) number,
    record {
      named = λ p small. ap (λ (k : PageTable). named_in k p) pages ∙ unsaid_named p ∙ sym (none_said names p (nothing_names p));
      covered = λ p small. ap (λ (k : PageTable). covered_in k p) pages ∙ unsaid_named p ∙ sym (none_said covers p (nothing_covers p));
    },
  )

-- a mark that was written and settled is shown
mark_shown : (d e : Disk) (p : ℕ) (bytes : List ℕ) → Done d (wrote p bytes ∷ settled ∷ []) e → e.shows p ≡ holds bytes
mark_shown d e p bytes (m, w, (k, rest, same)) = ap (λ (v : Disk). v.shows p) same ∙ rest.kept p ∙ w.shown

-- after a truncation
pub truncated_stands : (s s' : State) (d e : Disk) (due dirty : List ℕ) → s.log.last + array_vec_len s.spool + 65 < 2 ^ 63 → length due ≤ 64
    → Done d (truncating s due dirty) e → Truncated s (length due) s' → Writable s' × Tabulates s' e.shows
truncated_stands s s' d e due dirty bounded few done left =
    let n = s.log.places in
    let last = covered_to s (length due) + 1 in
    let homes = going_home s dirty ++ marking n (covered_to s (length due)) s.log.ordinal in
    let first = done_split d e (flushing s) (covering s due ++ homes) done in
    let second = done_split first.0 e (covering s due) homes first.2 in
    let third = done_split second.0 e (going_home s dirty) (marking n (covered_to s (length due)) s.log.ordinal) second.2 in
    mark_stands s' e n last s.log.ordinal left.log left.empty left.pages
    (mark_shown third.0 e (last % n) (laid_out (mark (record { serial = last; low = last; ordinal = s.log.ordinal }))) third.2)
    (omega (arith, s.log.least)) (omega arith) (omega arith) (omega (arith, s.numbered))

-- after a format
pub formatted_stands : (n : ℕ) (s' : State) (d e : Disk) → 1 ≤ n → Done d (formatting n) e → StandsAt s'.log n 1 1 0 → array_vec_len s'.spool ≡ 0 → s'.pages ≡ unsaid → Writable s' × Tabulates s' e.shows
formatted_stands n s' d e some (m, restart, rest) at empty pages =
    let mark-bytes = laid_out (mark (record { serial = 1; low = 1; ordinal = 0 })) in
    let parts = done_split m e (zeroing 0 (n + 64)) (settled ∷ wrote (1 % n) mark-bytes ∷ settled ∷ []) rest in
    mark_stands s' e n 1 0 at empty pages (mark_shown parts.2.0 e (1 % n) mark-bytes parts.2.2) some (omega arith) (omega arith) (omega arith)

-- records that follow one another have places of their own
run_near : (n : ℕ) (shows : ℕ → Shown) (low c : ℕ) → 1 ≤ n → ((t : ℕ) → low ≤ t → t ≤ c → Here (log n shows) t) → low ≤ c → c - low < n
run_near n shows low c some here from =
    ⊎_elim
    (λ (h : c - low < n). h)
    (λ (h : n ≤ c - low).
    let again : low + n ≤ c = omega arith in
    let first = (in_log_at n shows low (here low (omega arith) from)).0 in
    let second = (in_log_at n shows (low + n) (here (low + n) (omega arith) again)).0 in
    let place : (low + n) % n ≡ low % n = add-mod_right low n in
    absurd (omega (arith, first, second, ap (λ (p : ℕ). (said n p (shows p)).serial) place)))
    (cases_lt (c - low) n)

-- after an opening
pub opened_stands : (n : ℕ) (s' : State) (m e : Disk) (ordinal count low c : ℕ) (memory : List ℕ) (table : PageTable) → 1 ≤ n → Quiet m → Finds n m.shows ordinal count low c memory
    → Done m (clearing n m.shows c) e → Tabled (log n m.shows) low (c + 1 - low) table → StandsAt s'.log n low c ordinal → array_vec_len s'.spool ≡ 0 → s'.pages ≡ table
    → Writable s' × Tabulates s' e.shows
opened_stands n s' m e ordinal count low c memory table some quiet finds done tabled at empty pages =
    let run = finds.run in
    let from = run.from in
    let to = run.to in
    let here : (t : ℕ) → low ≤ t → t ≤ c → Here (log n m.shows) t = λ t a b. run.unbroken t a (omega arith) in
    let first = kept n m.shows low (here low (omega arith) from) in
    let last = kept n m.shows c (here c from (omega arith)) in
    let near = run_near n m.shows low c some here from in
    let thin = thinned n m e c quiet (left_done m e (clearing n m.shows c) (clearing_steady n m.shows c) done) e.shows (λ i. inl refl) in
    let said : (says : Entry → ℕ → Bool) (p : ℕ) → said_of says s' e.shows p ≡ in_log says (log n m.shows) low (c + 1 - low) p =
    λ says p.
    said_at says s' e.shows n low c ordinal p at empty
    ∙ in_log_same says (log n m.shows) (log n e.shows) low (c + 1 - low) p (λ t a b. thin.kept t (omega arith) (here t a (omega arith))) in (
      writable_at s' n low c ordinal at empty first.from from (omega arith) (omega (arith, last.ordinal, finds.number)),
      record {
        named = λ p small. ap (λ (k : PageTable). named_in k p) pages ∙ tabled.named p small ∙ sym (said names p);
        covered = λ p small. ap (λ (k : PageTable). covered_in k p) pages ∙ tabled.covered p small ∙ sym (said covers p);
      },
    )
