-- The pieces of runs: they fit pages, are few, and have the declared bytes.
use Rattle.std.proofs.Common.{◌≡◌, ℕ, zero, suc, ◌+◌, ◌-◌, ◌*◌, ◌/◌, ◌<◌, ◌≤◌, min, cond, List, [], ◌∷◌, ◌++◌, length, get_or, take, drop, false, sym, refl, ap, ◌∙◌, subst, ⊎_elim, arith, length-append}
use Rattle.std.proofs.lemmas.List.{drop_more}
use Rattle.std.proofs.lemmas.Bool.{cases_lt, lt-ltb, le-ltb}
use Rattle.journal.specs.Memory.{overlaid}
use Rattle.image.specs.declared.run.Run.{Run}
use Rattle.image.specs.declared.run.Piece.{Piece}
use Rattle.image.specs.Runs.{run, is_declared, Apart, Inside}
use Rattle.image.specs.Cut.{piece, end, cut, cut_runs, laid, AllPieces}
use Rattle.image.specs.Calls.{none}
use Rattle.image.proofs.Facts.{within_run, below_run, above_run}
use Rattle.image.proofs.Copying.{over, over_declared, overlaid_part}

pub cut_some : (n f t : ℕ) → f < t → cut (suc n) f t ≡ piece f (end f t - f) ∷ cut n (end f t) t
unfolding cut
cut_some n f t h = ap (λ b. cond b (piece f (end f t - f) ∷ cut n (end f t) t) []) (lt-ltb f t h)

pub cut_none : (n f t : ℕ) → t ≤ f → cut n f t ≡ []
unfolding cut
cut_none zero f t h = refl
cut_none (suc n) f t h = ap (λ b. cond b (piece f (end f t - f) ∷ cut n (end f t) t) []) (le-ltb f t h)

pub cut_zero : (f t : ℕ) → cut zero f t ≡ []
unfolding cut
cut_zero f t = refl

-- n pieces are enough
abbrev pub Enough : ℕ → ℕ → ℕ → Type 0
Enough n f t = f < t → t ≤ (f / 96 + n) * 96

enough_rest : (n f t : ℕ) → f < t → Enough (suc n) f t → Enough n (end f t) t
enough_rest n f t h k m = let e = k h in omega arith

-- with enough, one more makes no difference
pub same_cut : (n m f t : ℕ) → Enough n f t → Enough m f t → cut n f t ≡ cut m f t
same_cut zero m f t h k = ⊎_elim (λ (l : f < t). let e = h l in absurd (omega arith)) (λ (l : t ≤ f). cut_none zero f t l ∙ sym (cut_none m f t l)) (cases_lt f t)
same_cut (suc n) zero f t h k =
    ⊎_elim (λ (l : f < t). let e = k l in absurd (omega arith)) (λ (l : t ≤ f). cut_none (suc n) f t l ∙ sym (cut_none zero f t l)) (cases_lt f t)
same_cut (suc n) (suc m) f t h k =
    ⊎_elim
    (λ (l : f < t).
    cut_some n f t l
    ∙ ap (λ (ps : List Piece). piece f (end f t - f) ∷ ps) (same_cut n m (end f t) t (enough_rest n f t l h) (enough_rest m f t l k))
    ∙ sym (cut_some m f t l))
    (λ (l : t ≤ f). cut_none (suc n) f t l ∙ sym (cut_none (suc m) f t l))
    (cases_lt f t)

-- the first piece, and those after it
pub cut_next : (f t : ℕ) → f < t → t ≤ 6144 → cut 64 f t ≡ piece f (end f t - f) ∷ cut 64 (end f t) t
cut_next f t h k =
    cut_some 63 f t h
    ∙ ap (λ (ps : List Piece). piece f (end f t - f) ∷ ps) (same_cut 63 64 (end f t) t (λ l. omega arith) (λ l. omega arith))

-- each fits its page
all_append : (ps qs : List Piece) → AllPieces ps → AllPieces qs → AllPieces (ps ++ qs)
all_append [] qs a b = b
all_append (p ∷ ps) qs (a, rest) b = (a, all_append ps qs rest b)

cut_fits : (n f t : ℕ) → t ≤ 6144 → AllPieces (cut n f t)
cut_fits zero f t h = subst (λ (ps : List Piece). AllPieces ps) (sym (cut_zero f t)) tt
cut_fits (suc n) f t h =
    ⊎_elim
    (λ (l : f < t).
    subst (λ (ps : List Piece). AllPieces ps) (sym (cut_some n f t l))
    (record { page = omega arith; some = omega arith; within = omega arith }, cut_fits n (end f t) t h))
    (λ (l : t ≤ f). subst (λ (ps : List Piece). AllPieces ps) (sym (cut_none (suc n) f t l)) tt)
    (cases_lt f t)

pub runs_fit : (rs : List Run) → Inside rs → AllPieces (cut_runs rs)
runs_fit [] h = tt
runs_fit (r ∷ rs) (h, rest) = all_append (cut 64 r.from r.to) (cut_runs rs) (cut_fits 64 r.from r.to h) (runs_fit rs rest)

-- a run has a piece in each page from its first to its last
cut_length : (n f t : ℕ) → f < t → length (cut n f t) + f / 96 ≤ (t - 1) / 96 + 1
cut_length zero f t h = let e = ap length (cut_zero f t) in omega arith
cut_length (suc n) f t h =
    let e = ap length (cut_some n f t h) in
    ⊎_elim
    (λ (l : end f t < t). omega (arith, cut_length n (end f t) t l))
    (λ (l : t ≤ end f t). omega (arith, ap length (cut_none n (end f t) t l)))
    (cases_lt (end f t) t)

-- as many as there are pages from its first to its last
pub cut_count : (n f t : ℕ) → f < t → Enough n f t → length (cut n f t) + f / 96 ≡ (t - 1) / 96 + 1
cut_count zero f t h k = let e = k h in absurd (omega arith)
cut_count (suc n) f t h k =
    let e = ap length (cut_some n f t h) in
    ⊎_elim
    (λ (l : end f t < t). omega (arith, cut_count n (end f t) t l (enough_rest n f t h k)))
    (λ (l : t ≤ end f t). omega (arith, ap length (cut_none n (end f t) t l)))
    (cases_lt (end f t) t)

pub run_count : (f t : ℕ) → f < t → t ≤ 6144 → length (cut 64 f t) ≡ (t - 1) / 96 - f / 96 + 1
run_count f t h k = omega (arith, cut_count 64 f t h (λ l. omega arith))

runs_length : (floor : ℕ) (rs : List Run) → Apart floor rs → Inside rs → length (cut_runs rs) + min (floor / 96) 63 ≤ length rs + 63
runs_length floor [] a h = omega arith
runs_length floor (r ∷ rs) (low, some, a) (high, h) =
    let e = length-append (cut 64 r.from r.to) (cut_runs rs) in
    let l = cut_length 64 r.from r.to some in
    let m = runs_length (r.to + 1) rs a h in
    omega arith

pub runs_few : (rs : List Run) → Apart 0 rs → Inside rs → length rs ≤ 16 → length (cut_runs rs) ≤ 79
runs_few rs a h k = omega (arith, runs_length 0 rs a h)

pub runs_none : (rs : List Run) → Apart 0 rs → cut_runs rs ≡ [] → rs ≡ []
runs_none [] a e = refl
runs_none (r ∷ rs) (low, some, a) e =
    let l = length-append (cut 64 r.from r.to) (cut_runs rs) in
    let m = ap length (cut_some 63 r.from r.to some) in
    let k = ap length e in
    absurd (omega arith)

-- byte i of m where the run has it
over_in : (r : Run) (m : List ℕ) (i v : ℕ) → r.from ≤ i → i < r.to → over r m i v ≡ get_or m i 0
over_in r m i v h k = ap (λ b. cond b (get_or m i 0) v) (within_run r i h k)

over_below : (r : Run) (m : List ℕ) (i v : ℕ) → i < r.from → over r m i v ≡ v
over_below r m i v h = ap (λ b. cond b (get_or m i 0) v) (below_run r i h)

over_above : (r : Run) (m : List ℕ) (i v : ℕ) → r.to ≤ i → over r m i v ≡ v
over_above r m i v h = ap (λ b. cond b (get_or m i 0) v) (above_run r i h)

-- a run put in as two parts
over_over : (f e t : ℕ) (m : List ℕ) (i v : ℕ) → f ≤ e → e ≤ t → over (run e t) m i (over (run f e) m i v) ≡ over (run f t) m i v
over_over f e t m i v h k =
    ⊎_elim
    (λ (a : i < f). over_below (run e t) m i (over (run f e) m i v) (omega arith) ∙ over_below (run f e) m i v a ∙ sym (over_below (run f t) m i v a))
    (λ (a : f ≤ i).
    ⊎_elim
    (λ (b : i < e). over_below (run e t) m i (over (run f e) m i v) b ∙ over_in (run f e) m i v a b ∙ sym (over_in (run f t) m i v a (omega arith)))
    (λ (b : e ≤ i).
    ⊎_elim
    (λ (c : i < t). over_in (run e t) m i (over (run f e) m i v) b c ∙ sym (over_in (run f t) m i v a c))
    (λ (c : t ≤ i). over_above (run e t) m i (over (run f e) m i v) c ∙ over_above (run f e) m i v b ∙ sym (over_above (run f t) m i v c))
    (cases_lt i t))
    (cases_lt i e))
    (cases_lt i f)

over_empty : (f t : ℕ) (m : List ℕ) (i v : ℕ) → t ≤ f → over (run f t) m i v ≡ v
over_empty f t m i v h = ⊎_elim (λ (a : i < f). over_below (run f t) m i v a) (λ (a : f ≤ i). over_above (run f t) m i v (omega arith)) (cases_lt i f)

laid_append : (ps qs : List Piece) (m : List ℕ) (i v : ℕ) → laid (ps ++ qs) m i v ≡ laid qs m i (laid ps m i v)
laid_append [] qs m i v = refl
laid_append (p ∷ ps) qs m i v = laid_append ps qs m i (overlaid p.start (take p.size (drop p.start m)) i v)

laid_cut : (n f t : ℕ) (m : List ℕ) (i v : ℕ) → Enough n f t → t ≤ length m → laid (cut n f t) m i v ≡ over (run f t) m i v
laid_cut zero f t m i v h k =
    ⊎_elim
    (λ (l : f < t). let e = h l in absurd (omega arith))
    (λ (l : t ≤ f). ap (λ (ps : List Piece). laid ps m i v) (cut_none zero f t l) ∙ sym (over_empty f t m i v l))
    (cases_lt f t)
laid_cut (suc n) f t m i v h k =
    ⊎_elim
    (λ (l : f < t).
    let e : f + (end f t - f) ≡ end f t = omega arith in
    ap (λ (ps : List Piece). laid ps m i v) (cut_some n f t l)
    ∙ ap (λ (w : ℕ). laid (cut n (end f t) t) m i w)
    (overlaid_part f (end f t - f) m i v (omega arith) ∙ ap (λ (x : ℕ). over (run f x) m i v) e)
    ∙ laid_cut n (end f t) t m i (over (run f (end f t)) m i v) (enough_rest n f t l h) k
    ∙ over_over f (end f t) t m i v (omega arith) (omega arith))
    (λ (l : t ≤ f). ap (λ (ps : List Piece). laid ps m i v) (cut_none (suc n) f t l) ∙ sym (over_empty f t m i v l))
    (cases_lt f t)

pub runs_lay : (rs : List Run) (m : List ℕ) → Inside rs → length m ≡ 6144 → (i v : ℕ) → laid (cut_runs rs) m i v ≡ cond (is_declared rs i) (get_or m i 0) v
runs_lay [] m h l i v = refl
runs_lay (r ∷ rs) m (h, rest) l i v =
    laid_append (cut 64 r.from r.to) (cut_runs rs) m i v
    ∙ ap (λ (w : ℕ). laid (cut_runs rs) m i w) (laid_cut 64 r.from r.to m i v (λ s. omega arith) (omega arith))
    ∙ runs_lay rs m rest l i (over r m i v) ∙ over_declared r rs m i v

-- a piece is cut off
pub cut_off : (f t e : ℕ) (rest : List Piece) → f < t → t ≤ 6144 → e ≡ end f t → cut 64 f t ++ rest ≡ piece f (e - f) ∷ (cut 64 e t ++ rest)
cut_off f t e rest h k same =
    ap (λ (ps : List Piece). ps ++ rest) (cut_next f t h k) ∙ ap (λ (x : ℕ). piece f (x - f) ∷ (cut 64 x t ++ rest)) (sym same)

-- once a run is cut up, what is left is of the others
pub cut_up : (f t : ℕ) (rest : List Piece) → t ≤ f → cut 64 f t ++ rest ≡ rest
cut_up f t rest h = ap (λ (ps : List Piece). ps ++ rest) (cut_none 64 f t h)

-- there is none left only where no run is
pub none_left : (f t : ℕ) (rs : List Run) → t ≤ f → Apart 0 rs → none (cut 64 f t ++ cut_runs rs) ≡ none rs
none_left f t [] h apart = ap none (cut_up f t [] h)
none_left f t (r ∷ rs) h (low, some, apart) =
    ap none (cut_up f t (cut 64 r.from r.to ++ cut_runs rs) h) ∙ ap (λ (ps : List Piece). none (ps ++ cut_runs rs)) (cut_some 63 r.from r.to some)

pub some_left : (f t : ℕ) (rs : List Run) → f < t → none (cut 64 f t ++ cut_runs rs) ≡ false
some_left f t rs h = ap (λ (ps : List Piece). none (ps ++ cut_runs rs)) (cut_some 63 f t h)

-- the pieces of one run more are counted
pub counted : (k : ℕ) (xs : List Run) (i count n : ℕ) → i < length xs → n ≡ length (cut 64 (get_or xs i (run 0 0)).from (get_or xs i (run 0 0)).to)
    → count + length (cut_runs (drop i xs)) ≡ k → count + n + length (cut_runs (drop (i + 1) xs)) ≡ k
counted k xs i count n h is was =
    let r = get_or xs i (run 0 0) in
    let more = ap (λ (rs : List Run). length (cut_runs rs)) (drop_more xs i (run 0 0) h) in
    omega (arith, length-append (cut 64 r.from r.to) (cut_runs (drop (i + 1) xs)))
