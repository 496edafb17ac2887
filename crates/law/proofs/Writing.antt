-- A batch that is written: what the log then holds, and what it may hold where power cuts that.
use Rattle.std.proofs.Common.{◌≡◌, ℕ, ◌+◌, ◌-◌, ◌^◌, ◌<◌, ◌≤◌, List, [], ◌∷◌, ◌++◌, length, take, drop, sym, ap, ◌∙◌, subst, arith}
use mathlib.Core.Path.{fun_ext}
use Rattle.std.proofs.lemmas.List.{append_assoc, length-append, length-take-le, take-append-drop, take_at}
use Rattle.device.specs.Disk.{Disk, Shown, Plate}
use Rattle.device.specs.Meaning.{Quiet}
use Rattle.device.specs.Trace.{Act, settled, Done, CutShort}
use Rattle.journal.specs.Log.{log}
use Rattle.journal.proofs.Places.{kept as in_log}
use Rattle.durability.specs.Items.{Item, appending, put_in, ordinal_after}
use Rattle.durability.specs.Promises.{BeforeItems}
use Rattle.durability.specs.Standing.{Firm, OpensTo, Choice}
use Rattle.durability.proofs.Growth.{Present}
use Rattle.durability.proofs.Appends.{appended, appended_says, append_cut}
use Rattle.recovery.specs.Opening.{Divides}
use Rattle.image.specs.Cut.{PiecesLay, PiecesFit, PiecesNone}
use Rattle.law.specs.Transactions.{Transaction, made_of, batch, AllProper}
use Rattle.law.proofs.History.{History, Recoverable, Safe}
use Rattle.law.proofs.Openings.{short_plate}
use Rattle.law.proofs.Batches.{put_batch, ordinal_batch, kind_batch, appendable_batch, split_batch, applied_append, proper_take, proper_right}

-- The transactions that are kept.
abbrev pub kept_of : History → List Transaction
kept_of h = take h.kept h.entered

-- What is entered are those that are kept, and then these.
abbrev pub followed : History → List Transaction → History
followed h us = record { entered = kept_of h ++ us; kept = h.kept }

-- A quiet device holds what is kept in a firm log, with room for the records of these transactions.
pub record BeforeBatch (n : ℕ) (d : Disk) (low last : ℕ) (h : History) (us : List Transaction) : Type 0 where
  pub quiet : Quiet d
  pub firm : Firm n d.shows low last h.kept (made_of (kept_of h))
  pub few : h.kept ≤ length h.entered
  pub proper : AllProper (kept_of h ++ us)
  pub room : last + 1 - low + length (batch h.kept us) ≤ n
  pub serials : last + length (batch h.kept us) < 2 ^ 63

-- The records of these transactions are written, and then there is a barrier.
abbrev pub writing_batch : ℕ → ℕ → ℕ → History → List Transaction → List Act
writing_batch n low last h us = appending n low last (batch h.kept us) ++ (settled ∷ [])

-- the first of what is kept and of what follows it
take_followed : (h : History) (us : List Transaction) (j : ℕ) → h.kept ≤ length h.entered → j ≤ length us → take (h.kept + j) (kept_of h ++ us) ≡ kept_of h ++ take j us
take_followed h us j few k =
    let front = kept_of h ++ take j us in
    let all : front ++ drop j us ≡ kept_of h ++ us = append_assoc (kept_of h) (take j us) (drop j us) ∙ ap (λ (ts : List Transaction). kept_of h ++ ts) (take-append-drop j us) in
    let long : length front ≡ h.kept + j = omega (arith, length-append (kept_of h) (take j us), length-take-le h.kept h.entered few, length-take-le j us k) in
    ap (λ (ts : List Transaction). take (h.kept + j) ts) (sym all) ∙ take_at front (drop j us) (h.kept + j) long

module _ (lay : PiecesLay) (fit : PiecesFit) (none : PiecesNone) where
  -- what the records of transactions make of what the kept ones made
  made_batch : (h : History) (vs : List Transaction) → AllProper vs → (λ (i : ℕ). put_in (batch h.kept vs) i (made_of (kept_of h) i)) ≡ made_of (kept_of h ++ vs)
  made_batch h vs all = fun_ext (λ i. put_batch lay fit none h.kept vs all i (made_of (kept_of h) i) ∙ sym (applied_append (kept_of h) vs i 0))

  module _ (n : ℕ) (d e : Disk) (low last : ℕ) (h : History) (us : List Transaction) (b : BeforeBatch n d low last h us) where
    all_proper : AllProper us
    all_proper = proper_right (kept_of h) us b.proper

    -- each kept transaction has a record
    below : h.kept < last
    below =
        let f = b.firm in
        omega (arith, f.number, (in_log n d.shows last (f.unbroken last f.from (omega arith))).ordinal)

    items : BeforeItems n d low last h.kept (made_of (kept_of h)) (batch h.kept us)
    items =
        record {
          firm = b.firm;
          quiet = b.quiet;
          room = b.room;
          serials = b.serials;
          appendable = appendable_batch lay fit none last h.kept us all_proper below;
        }

    -- Once it is written and settled, all these transactions are in the log.
    pub batch_written : Done d (writing_batch n low last h us) e
        → Firm n e.shows low (last + length (batch h.kept us)) (h.kept + length us) (made_of (kept_of h ++ us)) × Quiet e
    batch_written done =
        let xs = batch h.kept us in
        let end = last + length xs in
        let r = appended n d e low last h.kept (made_of (kept_of h)) xs items (kind_batch lay fit none h.kept us all_proper) done in (
          subst (λ (m : ℕ → ℕ). Firm n e.shows low end (h.kept + length us) m) (made_batch h us all_proper)
              (subst (λ (o : ℕ). Firm n e.shows low end o (λ i. put_in xs i (made_of (kept_of h) i))) (ordinal_batch lay fit none h.kept us all_proper) r.0),
          r.1,
        )

    -- Then the log says what it said, and after that their records.
    pub batch_says : Done d (writing_batch n low last h us) e
        → ((s : ℕ) → low ≤ s → s ≤ last → log n e.shows s ≡ log n d.shows s) × Present low (log n e.shows) last (batch h.kept us)
    batch_says done = appended_says n d e low last h.kept (made_of (kept_of h)) (batch h.kept us) items done

    -- Where power cuts that, the first of them are there, and nothing that is kept is lost.
    pub batch_cut : (o : ℕ) → CutShort d (writing_batch n low last h us) o e → Divides d.plate.sectors n → Safe n e (followed h us)
    batch_cut o cut divides =
        record {
          divides = subst (λ (p : Plate). Divides p.sectors n) (sym (short_plate d e (writing_batch n low last h us) o cut)) divides;
          proper = b.proper;
          opens = opened;
        }
      where
        opened : (shows : ℕ → Shown) → Choice e shows → Recoverable n shows (followed h us)
        opened shows choice =
            let xs = batch h.kept us in
            let r = append_cut n d e o low last h.kept (made_of (kept_of h)) xs items cut shows choice in
            let first = r.0 in
            let s = split_batch lay fit none h.kept us first r.1 all_proper r.2 in
            let j = s.0 in
            let vs = take j us in
            let some = proper_take j us all_proper in
            let number : ordinal_after h.kept first ≡ h.kept + j =
            ap (λ (ys : List Item). ordinal_after h.kept ys) s.2
            ∙ ordinal_batch lay fit none h.kept vs some
            ∙ ap (λ (k : ℕ). h.kept + k) (length-take-le j us s.1) in
            let memory : (λ (i : ℕ). put_in first i (made_of (kept_of h) i)) ≡ made_of (take (h.kept + j) (kept_of h ++ us)) =
            ap {B = ℕ → ℕ} (λ (ys : List Item) (i : ℕ). put_in ys i (made_of (kept_of h) i)) s.2
            ∙ made_batch h vs some
            ∙ ap made_of (sym (take_followed h us j b.few s.1)) in
            record {
              low = low;
              c = last + length first;
              found = h.kept + j;
              at_least = omega arith;
              at_most = omega (arith, s.1, length-append (kept_of h) us, length-take-le h.kept h.entered b.few);
              opens =
                  subst (λ (m : ℕ → ℕ). OpensTo n shows low (last + length first) (h.kept + j) m) memory
                  (subst (λ (k : ℕ). OpensTo n shows low (last + length first) k (λ i. put_in first i (made_of (kept_of h) i))) number r.3);
            }
