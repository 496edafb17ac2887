-- What a log says of pages once items were appended to it.
use Rattle.std.proofs.Common.{◌≡◌, ℕ, zero, suc, ◌+◌, ◌-◌, ◌%◌, ◌^◌, ◌<◌, ◌≤◌, Bool, true, false, cond, List, [], ◌∷◌, ◌++◌, length, sym, refl, ap, ◌∙◌, arith}
use Rattle.device.specs.Disk.{Disk, Shown, holds}
use Rattle.device.specs.Meaning.{Wrote}
use Rattle.device.specs.Trace.{Act, settled, Done}
use Rattle.record.specs.Entry.{Entry, laid_out}
use Rattle.record.specs.Good.{Fits, Sound}
use Rattle.record.proofs.Laws.{found_laid_out}
use Rattle.journal.specs.Log.{said, if_serial, log}
use Rattle.journal.specs.Pages.{in_log}
use Rattle.journal.proofs.Places.{serial_here}
use Rattle.durability.specs.Items.{Item, recorded, appending, Appendable}
use Rattle.durability.proofs.Ring.{own_place}
use Rattle.durability.proofs.Writes.{done_split}
use Rattle.transactions.specs.Truncation.{in_items}

-- tests joined by `or`, in other groups and orders

pub or_none : (b : Bool) → cond b true false ≡ b
or_none true = refl
or_none false = refl

pub or_group : (a b c : Bool) → cond a true (cond b true c) ≡ cond (cond a true b) true c
or_group true b c = refl
or_group false b c = refl

or_swap : (a b c : Bool) → cond (cond a true b) true c ≡ cond b true (cond a true c)
or_swap true true c = refl
or_swap true false c = refl
or_swap false b c = refl

-- What a record says of pages does not depend on its serial and its low.
abbrev pub Blind : (Entry → ℕ → Bool) → Type 0
Blind says = (low s p : ℕ) (x : Item) → says (recorded low s x) p ≡ says (recorded 0 0 x) p

-- the log's record with a serial depends on what its place shows
pub same_there : (n : ℕ) (shows shows' : ℕ → Shown) (s : ℕ) → shows' (s % n) ≡ shows (s % n) → log n shows' s ≡ log n shows s
same_there n shows shows' s e = ap (λ (x : Shown). if_serial s (said n (s % n) x)) e

-- records that are the same say the same
pub in_log_same : (says : Entry → ℕ → Bool) (l l' : ℕ → Entry) (low k p : ℕ) → ((t : ℕ) → low ≤ t → t < low + k → l' t ≡ l t) → in_log says l' low k p ≡ in_log says l low k p
unfolding in_log
in_log_same says l l' low zero p same = refl
in_log_same says l l' low (suc k) p same =
    let rest = in_log_same says l l' low k p (λ t a b. same t a (omega arith)) in
    ap (λ (e : Entry). cond (says e p) true (in_log says l' low k p)) (same (low + k) (omega arith) (omega arith))
    ∙ ap (λ (b : Bool). cond (says (l (low + k)) p) true b) rest

-- a sound record that its sector shows is the log's
pub there : (n : ℕ) (shows : ℕ → Shown) (e : Entry) → Sound n (e.serial % n) e → shows (e.serial % n) ≡ holds (laid_out e) → log n shows e.serial ≡ e
there n shows e sound shown =
    serial_here e.serial e (said n (e.serial % n) (shows (e.serial % n)))
    (ap (λ (x : Shown). said n (e.serial % n) x) shown ∙ found_laid_out n (e.serial % n) e sound)
    refl

module _ (n low : ℕ) (begun : 1 ≤ low) where
  -- one item more
  one_sound : (last : ℕ) (x : Item) → low ≤ last → last + 1 - low + 1 ≤ n → last + 1 < 2 ^ 63 → Fits x.kind x.page x.offset (length x.bytes) → x.ordinal ≤ last
      → Sound n ((last + 1) % n) (recorded low (last + 1) x)
  one_sound last x from room serials fits ordinal =
      record {
        placed =
            record {
              serial_from = omega arith;
              serial_to = serials;
              here = refl;
              low_from = begun;
              low_to = omega arith;
              near = omega arith;
              ordinal_below = omega arith;
            };
        fits = fits;
      }

  one_kept : (d m : Disk) (last t : ℕ) (bytes : List ℕ) → low ≤ t → t ≤ last → last + 1 - low + 1 ≤ n → Wrote d ((last + 1) % n) bytes m → log n m.shows t ≡ log n d.shows t
  one_kept d m last t bytes a b room w =
      same_there n d.shows m.shows t
      (w.kept (t % n) (λ e. own_place n t (last + 1) (omega arith) (omega arith) (sym e)))

  -- what is said once one is written
  one_says : (says : Entry → ℕ → Bool) (blind : Blind says) (last p : ℕ) (x : Item) (d m : Disk) → low ≤ last → last + 1 - low + 1 ≤ n
      → Sound n ((last + 1) % n) (recorded low (last + 1) x) → Wrote d ((last + 1) % n) (laid_out (recorded low (last + 1) x)) m
      → in_log says (log n m.shows) low (last + 1 + 1 - low) p ≡ cond (says (recorded 0 0 x) p) true (in_log says (log n d.shows) low (last + 1 - low) p)
  unfolding in_log
  one_says says blind last p x d m from room sound w =
      let k = last + 1 - low in
      let next : last + 1 + 1 - low ≡ suc k = omega arith in
      let at : low + k ≡ last + 1 = omega arith in
      let here : log n m.shows (last + 1) ≡ recorded low (last + 1) x = there n m.shows (recorded low (last + 1) x) sound w.shown in
      let below = in_log_same says (log n d.shows) (log n m.shows) low k p (λ t a b. one_kept d m last t (laid_out (recorded low (last + 1) x)) a (omega arith) room w) in
      ap (λ (j : ℕ). in_log says (log n m.shows) low j p) next
      ∙ ap (λ (t : ℕ). cond (says (log n m.shows t) p) true (in_log says (log n m.shows) low k p)) at
      ∙ ap (λ (y : Entry). cond (says y p) true (in_log says (log n m.shows) low k p)) here
      ∙ ap (λ (b : Bool). cond b true (in_log says (log n m.shows) low k p)) (blind low (last + 1) p x)
      ∙ ap (λ (b : Bool). cond (says (recorded 0 0 x) p) true b) below

  -- the items' records say what the items say, and the others what they said
  pub says_appended : (says : Entry → ℕ → Bool) (blind : Blind says) (last p : ℕ) (xs : List Item) (d e : Disk)
      → low ≤ last → last + 1 - low + length xs ≤ n → last + length xs < 2 ^ 63 → Appendable last xs → Done d (appending n low last xs) e
      → in_log says (log n e.shows) low (last + length xs + 1 - low) p ≡ cond (in_log says (log n d.shows) low (last + 1 - low) p) true (in_items says xs p)
  says_appended says blind last p [] d e from room serials a same =
      let k : last + 0 + 1 - low ≡ last + 1 - low = omega arith in
      ap (λ (j : ℕ). in_log says (log n e.shows) low j p) k
      ∙ ap (λ (v : Disk). in_log says (log n v.shows) low (last + 1 - low) p) same
      ∙ sym (or_none (in_log says (log n d.shows) low (last + 1 - low) p))
  says_appended says blind last p (x ∷ xs) d e from room serials (kind, fits, ordinal, a) (m, w, rest) =
      let k : last + suc (length xs) + 1 - low ≡ last + 1 + length xs + 1 - low = omega arith in
      let before = in_log says (log n d.shows) low (last + 1 - low) p in
      let sound = one_sound last x from (omega arith) (omega arith) fits ordinal in
      ap (λ (j : ℕ). in_log says (log n e.shows) low j p) k
      ∙ says_appended says blind (last + 1) p xs m e (omega arith) (omega arith) (omega arith) a rest
      ∙ ap (λ (b : Bool). cond b true (in_items says xs p)) (one_says says blind last p x d m from (omega arith) sound w)
      ∙ or_swap (says (recorded 0 0 x) p) before (in_items says xs p)

-- items one after others say what both say
pub in_items_append : (says : Entry → ℕ → Bool) (xs ys : List Item) (p : ℕ) → in_items says (xs ++ ys) p ≡ cond (in_items says xs p) true (in_items says ys p)
in_items_append says [] ys p = refl
in_items_append says (x ∷ xs) ys p =
    ap (λ (b : Bool). cond (says (recorded 0 0 x) p) true b) (in_items_append says xs ys p)
    ∙ or_group (says (recorded 0 0 x) p) (in_items says xs p) (in_items says ys p)

-- a barrier changes nothing that is shown
pub settled_same : (d e : Disk) (plan : List Act) → Done d (plan ++ (settled ∷ [])) e → (m : Disk) × Done d plan m × ((i : ℕ) → e.shows i ≡ m.shows i)
settled_same d e plan h =
    let parts = done_split d e plan (settled ∷ []) h in
    (parts.0, parts.1, λ i. ap (λ (v : Disk). v.shows i) parts.2.2 ∙ parts.2.1.kept i)
