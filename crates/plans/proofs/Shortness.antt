-- No chain has more cells than there are: no cell comes twice on it.
use Rattle.std.proofs.Common.{◌≡◌, ℕ, ◌<◌, ◌≤◌, true, false, eqb, List, [], ◌∷◌, length, sym, inl, inr, ⊎_elim, arith}
use Rattle.std.specs.List.{IsDistinct, AllByRecursion, list_any}
use Rattle.std.proofs.lemmas.Bool.{eqb-true, ne_eqb, or_cases}
use Rattle.std.proofs.lemmas.Map.Steps.{length-le_from_distinct_below}
use Rattle.book.specs.Layout.{cell_at, Cell, Chain, Lies}
use Rattle.book.proofs.Chaining.{numbers, numbers_length, once}

-- a number that lies on none of these cells
lies_not : (n : ℕ) (cs : List Cell) → (Lies n cs → ⊥) → AllByRecursion (λ m. eqb n m ≡ false) (numbers cs)
lies_not n [] h = tt
lies_not n (c ∷ cs) h = (ne_eqb n c.number (λ e. h (inl (sym e))), lies_not n cs (λ l. h (inr l)))

distinct : (f : ℕ → ℕ) (a : ℕ) (cs : List Cell) → Chain f a cs → IsDistinct eqb (numbers cs)
unfolding IsDistinct
distinct f a [] h = tt
distinct f a (c ∷ cs) h = (lies_not c.number cs (once f a c cs h), distinct f (cell_at c.number) cs h.3)

-- nor is 0 a cell's number
zero_not : (f : ℕ → ℕ) (a : ℕ) (cs : List Cell) → Chain f a cs → AllByRecursion (λ m. eqb 0 m ≡ false) (numbers cs)
zero_not f a [] h = tt
zero_not f a (c ∷ cs) h = (ne_eqb 0 c.number (λ e. omega (arith, h.1.0)), zero_not f (cell_at c.number) cs h.3)

below : (f : ℕ → ℕ) (a q : ℕ) (cs : List Cell) → Chain f a cs → list_any (eqb q) (numbers cs) ≡ true → q < 201
below f a q [] h e = cc
below f a q (c ∷ cs) h e =
    ⊎_elim
    (λ k. let is = eqb-true q c.number k in omega (arith, h.1.1))
    (λ k. below f (cell_at c.number) q cs h.3 k)
    (or_cases (eqb q c.number) (list_any (eqb q) (numbers cs)) e)

below_all : (f : ℕ → ℕ) (a q : ℕ) (cs : List Cell) → Chain f a cs → list_any (eqb q) (0 ∷ numbers cs) ≡ true → q < 201
below_all f a q cs h e =
    ⊎_elim (λ k. let is = eqb-true q 0 k in omega arith) (λ k. below f a q cs h k) (or_cases (eqb q 0) (list_any (eqb q) (numbers cs)) e)

distinct_all : (f : ℕ → ℕ) (a : ℕ) (cs : List Cell) → Chain f a cs → IsDistinct eqb (0 ∷ numbers cs)
unfolding IsDistinct
distinct_all f a cs h = (zero_not f a cs h, distinct f a cs h)

pub chain_short : (f : ℕ → ℕ) (a : ℕ) (cs : List Cell) → Chain f a cs → length cs ≤ 200
chain_short f a cs h =
    let few = length-le_from_distinct_below (0 ∷ numbers cs) 201 (distinct_all f a cs h) (λ q e. below_all f a q cs h e) in
    omega (arith, numbers_length cs)
