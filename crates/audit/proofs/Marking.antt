-- Marking cells as a chain is followed.
use Rattle.std.proofs.Common.{◌≡◌, ℕ, ◌-◌, ◌<◌, ◌≤◌, ◌≢◌, ◌⊎◌, List, [], ◌∷◌, length, set, Some, None, Option, Bool, true, false, cond, refl, sym, ap, ◌∙◌, subst, inl, inr, ⊎_elim, arith, get_or-set_other, get_or-set_same}
use Rattle.std.specs.List.{count_by}
use Rattle.std.proofs.lemmas.Bool.{cases_eq}
use Rattle.std.proofs.lemmas.List.Sums.{sum_by-set}
use Rattle.book.specs.Layout.{cell_at, InCells}
use Rattle.audit.specs.Owners.{index_at, Walk, Among, owner, Fresh, Marked}
use Rattle.audit.proofs.Walks.{walk_once, walk_in}

-- Owners once a cell has one.
pub set_same : (owners : List (Option ℕ)) (n c : ℕ) → length owners ≡ 200 → InCells n → owner (set owners (n - 1) (Some c)) n ≡ Some c
set_same owners n c long i = let lt : n - 1 < length owners = omega arith in rw get_or-set_same refl

pub set_other : (owners : List (Option ℕ)) (n m c : ℕ) → InCells n → InCells m → n ≢ m → owner (set owners (n - 1) (Some c)) m ≡ owner owners m
set_other owners n m c i j other = let ne : m - 1 ≢ n - 1 = omega arith in rw get_or-set_other refl

-- A walk from cell n on, whose end makes of these owners others.
pub record Walked (f : ℕ → ℕ) (before after : List (Option ℕ)) (c n : ℕ) : Type 0 where
  pub cells : List ℕ
  pub walk : Walk f n cells
  pub marked : Marked before after c cells

pub nothing_walked : (f : ℕ → ℕ) (owners : List (Option ℕ)) (c n : ℕ) → n ≡ 0 → Walked f owners owners c n
nothing_walked f owners c n e =
    record { cells = []; walk = e; marked = record { fresh = λ m h. absurd h; here = λ m h. absurd h; only = λ m i. inr refl } }

-- One more cell in front of it.
pub one_walked : (f : ℕ → ℕ) (before after : List (Option ℕ)) (c n : ℕ) → length before ≡ 200 → InCells n → owner before n ≡ None → Walked f (set before (n - 1) (Some c)) after c (index_at f (cell_at n)) → Walked f before after c n
one_walked f before after c n long i none w =
    let same : owner (set before (n - 1) (Some c)) n ≡ Some c = set_same before n c long i in
    let m = w.marked in
    record {
      cells = n ∷ w.cells;
      walk = (refl, i, w.walk);
      marked = record {
        fresh = λ k among.
            ⊎_elim
            (λ (here : n ≡ k). subst (λ (j : ℕ). owner before j ≡ None) here none)
            (λ (there : Among k w.cells).
            let j = walk_in f (index_at f (cell_at n)) k w.cells w.walk there in
            let fresh : owner (set before (n - 1) (Some c)) k ≡ None = m.fresh k there in
            let other : n ≢ k = λ e. absurd (let x : Some c ≡ None = sym same ∙ subst (λ (j : ℕ). owner (set before (n - 1) (Some c)) j ≡ None) (sym e) fresh in cc) in
            sym (set_other before n k c i j other) ∙ fresh)
            among;
        here = λ k among.
            ⊎_elim
            (λ (here : n ≡ k).
            subst (λ (j : ℕ). owner after j ≡ Some c) here
            (⊎_elim (λ (h : Among n w.cells × (owner after n ≡ Some c)). h.1) (λ (h : owner after n ≡ owner (set before (n - 1) (Some c)) n). h ∙ same) (m.only n i)))
            (λ (there : Among k w.cells). m.here k there)
            among;
        only = λ k j.
            ⊎_elim
            (λ (h : Among k w.cells × (owner after k ≡ Some c)). inl (inr h.0, h.1))
            (λ (h : owner after k ≡ owner (set before (n - 1) (Some c)) k).
            ⊎_elim
            (λ (e : n ≡ k). inl (inl e, h ∙ subst (λ (q : ℕ). owner (set before (n - 1) (Some c)) q ≡ Some c) e same))
            (λ (e : n ≡ k → ⊥). inr (h ∙ set_other before n k c i j e))
            (cases_eq n k))
            (m.only k j);
      };
    }

-- Where there is no way on from the cell after this one, there is none from this one.
pub none_on : (f : ℕ → ℕ) (before : List (Option ℕ)) (c n : ℕ) → InCells n
    → ((ns : List ℕ) → Walk f (index_at f (cell_at n)) ns → Fresh (set before (n - 1) (Some c)) ns → ⊥)
    → (ns : List ℕ) → Walk f n ns → Fresh before ns → ⊥
none_on f before c n i none [] e fresh = omega (arith, i.0)
none_on f before c n i none (m ∷ ms) (e, j, h) fresh =
    let on : Walk f (index_at f (cell_at n)) ms = subst (λ (k : ℕ). Walk f (index_at f (cell_at k)) ms) (sym e) h in
    none ms on
    (λ k among.
    let other : n ≢ k = λ (same : n ≡ k). walk_once f n ms on (subst (λ (q : ℕ). Among q ms) (sym same) among) in
    set_other before n k c i (walk_in f (index_at f (cell_at n)) k ms on among) other ∙ fresh k (inr among))

-- There is none into a cell that is none, or that was met.
pub none_new : (f : ℕ → ℕ) (before : List (Option ℕ)) (n : ℕ) → n ≢ 0 → ((n ≤ 200) × (owner before n ≡ None) → ⊥) → (ns : List ℕ) → Walk f n ns → Fresh before ns → ⊥
none_new f before n some old [] e fresh = some e
none_new f before n some old (m ∷ ms) (e, j, h) fresh = old (omega (arith, e, j.1), subst (λ (k : ℕ). owner before k ≡ None) (sym e) (fresh m (inl refl)))

-- How many have not been met yet.
abbrev pub is_unmet : Option ℕ → Bool
is_unmet None = true
is_unmet (Some c) = false

pub fewer_unmet : (owners : List (Option ℕ)) (n c : ℕ) → length owners ≡ 200 → InCells n → owner owners n ≡ None → count_by is_unmet (set owners (n - 1) (Some c)) < count_by is_unmet owners
fewer_unmet owners n c long i none =
    let e = sum_by-set (λ (x : Option ℕ). cond (is_unmet x) 1 0) owners (n - 1) (Some c) None (omega arith) in
    let unmet : is_unmet (owner owners n) ≡ true = ap is_unmet none in
    let one : ℕ = 1 in
    let here : cond (is_unmet (owner owners n)) 1 0 ≡ one = rw unmet refl in
    omega (arith, e, here)

-- An option is one or the other.
pub cases_option : (x : Option ℕ) → (x ≡ None) ⊎ ((c : ℕ) × (x ≡ Some c))
cases_option None = inl refl
cases_option (Some c) = inr (c, refl)
