-- The records of transactions one after another: what they make of the memory, and where a first part of them can end.
use Rattle.std.proofs.Common.{◌≡◌, ℕ, zero, suc, ◌+◌, ◌*◌, ◌/◌, ◌%◌, ◌<◌, ◌≤◌, List, [], ◌∷◌, ◌++◌, length, take, drop, sym, refl, ap, ◌∙◌, subst, add-zero, div-add-mod', arith}
use Rattle.std.proofs.lemmas.List.{append-nil, append_assoc, length-append}
use Rattle.journal.specs.Memory.{overlaid}
use Rattle.durability.specs.Items.{Item, put_in, ordinal_after, kind_after, Appendable}
use Rattle.durability.specs.Promises.{Split}
use Rattle.image.specs.declared.run.Piece.{Piece}
use Rattle.image.specs.Cut.{cut_runs, laid, PiecesLay, PiecesFit, PiecesNone}
use Rattle.transactions.specs.Parts.{parts}
use Rattle.transactions.proofs.Fitting.{appendable_append, appendable_parts}
use Rattle.transactions.proofs.Loops.{length_parts}
use Rattle.law.specs.Transactions.{Transaction, changed, applied_all, records_of, batch, Proper, AllProper}

-- items after items

put_append : (xs ys : List Item) (i v : ℕ) → put_in (xs ++ ys) i v ≡ put_in ys i (put_in xs i v)
put_append [] ys i v = refl
put_append (x ∷ xs) ys i v = put_append xs ys i (overlaid (x.page * 96 + x.offset) x.bytes i v)

ordinal_append : (o : ℕ) (xs ys : List Item) → ordinal_after o (xs ++ ys) ≡ ordinal_after (ordinal_after o xs) ys
ordinal_append o [] ys = refl
ordinal_append o (x ∷ xs) ys = ordinal_append x.ordinal xs ys

kind_append : (k : ℕ) (xs ys : List Item) → kind_after k (xs ++ ys) ≡ kind_after (kind_after k xs) ys
kind_append k [] ys = refl
kind_append k (x ∷ xs) ys = kind_append x.kind xs ys

-- the parts of one transaction

put_parts : (o : ℕ) (m : List ℕ) (ps : List Piece) (i v : ℕ) → put_in (parts o m ps) i v ≡ laid ps m i v
put_parts o m [] i v = refl
put_parts o m (p ∷ ps) i v =
    let bytes = take p.size (drop p.start m) in
    put_parts o m ps i (overlaid (p.start / 96 * 96 + p.start % 96) bytes i v)
    ∙ ap (λ (s : ℕ). laid ps m i (overlaid s bytes i v)) (div-add-mod' p.start 96)

ordinal_same : (o : ℕ) (m : List ℕ) (ps : List Piece) → ordinal_after o (parts o m ps) ≡ o
ordinal_same o m [] = refl
ordinal_same o m (p ∷ ps) = ordinal_same o m ps

ordinal_parts : (k o : ℕ) (m : List ℕ) (ps : List Piece) → 1 ≤ length ps → ordinal_after k (parts o m ps) ≡ o
ordinal_parts k o m [] h = absurd (omega arith)
ordinal_parts k o m (p ∷ ps) h = ordinal_same o m ps

kind_parts : (k o : ℕ) (m : List ℕ) (ps : List Piece) → 1 ≤ length ps → kind_after k (parts o m ps) ≡ 2
kind_parts k o m [] h = absurd (omega arith)
kind_parts k o m (p ∷ []) h = refl
kind_parts k o m (p ∷ q ∷ ps) h = kind_parts 1 o m (q ∷ ps) (omega arith)

-- What begins with part of a transaction's records, and ends with one that ends a transaction, has all of them.
past_parts : (o : ℕ) (m : List ℕ) (ps : List Piece) (k : ℕ) (first rest ys : List Item) → first ++ rest ≡ parts o m ps ++ ys → k < 2 → 2 ≤ kind_after k first
    → (more : List Item) × (first ≡ parts o m ps ++ more) × (more ++ rest ≡ ys)
past_parts o m [] k first rest ys e low h = (first, refl, e)
past_parts o m (p ∷ ps) k [] rest ys e low h = absurd (omega arith)
past_parts o m (p ∷ []) k (x ∷ first) rest ys e low h = (first, cc, cc)
past_parts o m (p ∷ q ∷ ps) k (x ∷ first) rest ys e low h =
    let tail : first ++ rest ≡ parts o m (q ∷ ps) ++ ys = cc in
    let kind : x.kind ≡ 1 = cc in
    let r = past_parts o m (q ∷ ps) 1 first rest ys tail (omega arith) (subst (λ (j : ℕ). 2 ≤ kind_after j first) kind h) in
    let all = r.1 in
    (r.0, cc, r.2)

-- batches one after another

pub batch_append : (o : ℕ) (ts us : List Transaction) → batch o (ts ++ us) ≡ batch o ts ++ batch (o + length ts) us
batch_append o [] us = ap (λ (k : ℕ). batch k us) (sym (add-zero o))
batch_append o (t ∷ ts) us =
    let e : o + 1 + length ts ≡ o + suc (length ts) = omega arith in
    ap (λ (xs : List Item). records_of (o + 1) t ++ xs) (batch_append (o + 1) ts us ∙ ap (λ (k : ℕ). batch (o + 1) ts ++ batch k us) e)
    ∙ sym (append_assoc (records_of (o + 1) t) (batch (o + 1) ts) (batch (o + suc (length ts)) us))

pub batch_one : (o : ℕ) (t : Transaction) → batch o (t ∷ []) ≡ records_of (o + 1) t
batch_one o t = append-nil (records_of (o + 1) t)

pub applied_append : (ts us : List Transaction) (i v : ℕ) → applied_all (ts ++ us) i v ≡ applied_all us i (applied_all ts i v)
applied_append [] us i v = refl
applied_append (t ∷ ts) us i v = applied_append ts us i (changed t i v)

pub proper_append : (ts us : List Transaction) → AllProper ts → AllProper us → AllProper (ts ++ us)
proper_append [] us a b = b
proper_append (t ∷ ts) us (p, a) b = (p, proper_append ts us a b)

pub proper_left : (ts us : List Transaction) → AllProper (ts ++ us) → AllProper ts
proper_left [] us a = tt
proper_left (t ∷ ts) us (p, a) = (p, proper_left ts us a)

pub proper_right : (ts us : List Transaction) → AllProper (ts ++ us) → AllProper us
proper_right [] us a = a
proper_right (t ∷ ts) us (p, a) = proper_right ts us a

pub proper_take : (j : ℕ) (ts : List Transaction) → AllProper ts → AllProper (take j ts)
proper_take zero ts a = tt
proper_take (suc j) [] a = tt
proper_take (suc j) (t ∷ ts) (p, a) = (p, proper_take j ts a)

pub proper_drop : (j : ℕ) (ts : List Transaction) → AllProper ts → AllProper (drop j ts)
proper_drop zero ts a = a
proper_drop (suc j) [] a = tt
proper_drop (suc j) (t ∷ ts) (p, a) = proper_drop j ts a

-- what a batch of proper transactions makes
module _ (lay : PiecesLay) (fit : PiecesFit) (none : PiecesNone) where
  -- a proper transaction has records
  pub some_pieces : (t : Transaction) → Proper t → 1 ≤ length (cut_runs t.runs)
  some_pieces t p = there (cut_runs t.runs) (λ e. p.some (none t.runs p.apart e))
    where
      there : (ps : List Piece) → (ps ≡ [] → ⊥) → 1 ≤ length ps
      there [] h = absurd (h refl)
      there (q ∷ ps) h = omega arith

  pub put_batch : (o : ℕ) (ts : List Transaction) → AllProper ts → (i v : ℕ) → put_in (batch o ts) i v ≡ applied_all ts i v
  put_batch o [] all i v = refl
  put_batch o (t ∷ ts) (p, all) i v =
      put_append (records_of (o + 1) t) (batch (o + 1) ts) i v
      ∙ put_batch (o + 1) ts all i (put_in (records_of (o + 1) t) i v)
      ∙ ap (λ (w : ℕ). applied_all ts i w) (put_parts (o + 1) t.memory (cut_runs t.runs) i v ∙ lay t.runs t.memory p.inside p.whole i v)

  pub ordinal_batch : (o : ℕ) (ts : List Transaction) → AllProper ts → ordinal_after o (batch o ts) ≡ o + length ts
  ordinal_batch o [] all = sym (add-zero o)
  ordinal_batch o (t ∷ ts) (p, all) =
      let e : o + 1 + length ts ≡ o + suc (length ts) = omega arith in
      ordinal_append o (records_of (o + 1) t) (batch (o + 1) ts)
      ∙ ap (λ (k : ℕ). ordinal_after k (batch (o + 1) ts)) (ordinal_parts o (o + 1) t.memory (cut_runs t.runs) (some_pieces t p))
      ∙ ordinal_batch (o + 1) ts all
      ∙ e

  -- it ends with a record that ends a transaction
  ends_batch : (k o : ℕ) (ts : List Transaction) → 2 ≤ k → AllProper ts → 2 ≤ kind_after k (batch o ts)
  ends_batch k o [] h all = h
  ends_batch k o (t ∷ ts) h (p, all) =
      let e = kind_append k (records_of (o + 1) t) (batch (o + 1) ts) ∙ ap (λ (j : ℕ). kind_after j (batch (o + 1) ts)) (kind_parts k (o + 1) t.memory (cut_runs t.runs) (some_pieces t p)) in
      subst (λ (j : ℕ). 2 ≤ j) (sym e) (ends_batch 2 (o + 1) ts (omega arith) all)

  pub kind_batch : (o : ℕ) (ts : List Transaction) → AllProper ts → 2 ≤ kind_after 4 (batch o ts)
  kind_batch o ts all = ends_batch 4 o ts (omega arith) all

  pub appendable_batch : (last o : ℕ) (ts : List Transaction) → AllProper ts → o < last → Appendable last (batch o ts)
  appendable_batch last o [] all h = tt
  appendable_batch last o (t ∷ ts) (p, all) h =
      let own = records_of (o + 1) t in
      let some = some_pieces t p in
      let long : length own ≡ length (cut_runs t.runs) = length_parts (o + 1) t.memory (cut_runs t.runs) in
      appendable_append last own (batch (o + 1) ts)
      (appendable_parts last (o + 1) t.memory (cut_runs t.runs) (omega arith) p.whole (fit t.runs p.inside))
      (appendable_batch (last + length own) (o + 1) ts all (omega arith))

  -- A first part of a batch that ends where a transaction does is the batch of the first transactions.
  pub split_batch : (o : ℕ) (ts : List Transaction) (first rest : List Item) → AllProper ts → Split (batch o ts) first rest
      → (j : ℕ) × (j ≤ length ts) × (first ≡ batch o (take j ts))
  split_batch o ts [] rest all s = (0, omega arith, refl)
  split_batch o [] (x ∷ first) rest all s = absurd (omega (arith, ap length s.all))
  split_batch o (t ∷ ts) (x ∷ first) rest (p, all) s =
      let own = records_of (o + 1) t in
      let r = past_parts (o + 1) t.memory (cut_runs t.runs) 1 (x ∷ first) rest (batch (o + 1) ts) s.all (omega arith) s.whole in
      let more = r.0 in
      let ends : kind_after 4 (x ∷ first) ≡ kind_after 2 more =
      ap (λ (xs : List Item). kind_after 4 xs) r.1 ∙ kind_append 4 own more
      ∙ ap (λ (j : ℕ). kind_after j more) (kind_parts 4 (o + 1) t.memory (cut_runs t.runs) (some_pieces t p)) in
      let d = split_batch (o + 1) ts more rest all (record { all = r.2; whole = four more (subst (λ (j : ℕ). 2 ≤ j) ends s.whole) }) in
      (suc d.0, omega (arith, d.1), r.1 ∙ ap (λ (xs : List Item). own ++ xs) d.2)
    where
      four : (xs : List Item) → 2 ≤ kind_after 2 xs → 2 ≤ kind_after 4 xs
      four [] h = omega arith
      four (y ∷ ys) h = h

  -- each transaction has a record
  pub long_batch : (o : ℕ) (ts : List Transaction) → AllProper ts → length ts ≤ length (batch o ts)
  long_batch o [] all = omega arith
  long_batch o (t ∷ ts) (p, all) =
      omega (arith, length-append (records_of (o + 1) t) (batch (o + 1) ts), length_parts (o + 1) t.memory (cut_runs t.runs), some_pieces t p, long_batch (o + 1) ts all)
