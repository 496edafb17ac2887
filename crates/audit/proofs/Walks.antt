-- Walks along chains.
use Rattle.std.proofs.Common.{◌≡◌, ℕ, zero, suc, ◌+◌, ◌/◌, ◌%◌, ◌^◌, ◌<◌, List, [], ◌∷◌, length, refl, sym, ap, ◌∙◌, subst, inl, inr, ⊎_elim, arith}
use Rattle.record.specs.Fields.{digits}
use Rattle.book.specs.Layout.{Stands, cell_at, InCells, Cell, Chain, held, Lies}
use Rattle.book.proofs.Chaining.{numbers}
use Rattle.audit.specs.Owners.{index_at, Walk, Among}

-- An index by its two bytes,
pub index_stands : (f : ℕ → ℕ) (a n : ℕ) → n < 2 ^ 16 → Stands f a (digits 2 n) → index_at f a ≡ n
unfolding digits
index_stands f a n small stands =
    let low : f (a + 0) ≡ n % 256 = stands 0 (omega arith) in
    let high : f (a + 1) ≡ n / 256 % 256 = stands 1 (omega arith) in
    let e : a + 0 ≡ a = omega arith in
    let here : f a ≡ n % 256 = subst (λ (k : ℕ). f k ≡ n % 256) e low in
    omega arith

-- and two bytes by their index.
pub stands_index : (f : ℕ → ℕ) (a : ℕ) → ((i : ℕ) → f i < 256) → Stands f a (digits 2 (index_at f a))
unfolding digits
stands_index f a small zero h =
    let e : a + 0 ≡ a = omega arith in
    let low : f a < 256 = small a in
    rw e (omega arith)
stands_index f a small (suc zero) h =
    let low : f a < 256 = small a in
    let high : f (a + 1) < 256 = small (a + 1) in
    omega arith
stands_index f a small (suc (suc i)) h = absurd (omega arith)

-- A walk leads to one list of cells.
pub walk_same : (f : ℕ → ℕ) (n : ℕ) (xs ys : List ℕ) → Walk f n xs → Walk f n ys → xs ≡ ys
walk_same f n [] [] hx hy = refl
walk_same f n [] (y ∷ ys) e (ey, iy, hy) = absurd (omega arith)
walk_same f n (x ∷ xs) [] (ex, ix, hx) e = absurd (omega arith)
walk_same f n (x ∷ xs) (y ∷ ys) (ex, ix, hx) (ey, iy, hy) =
    let e : x ≡ y = sym ex ∙ ey in
    let rest : xs ≡ ys = walk_same f (index_at f (cell_at x)) xs ys hx (subst (λ (k : ℕ). Walk f (index_at f (cell_at k)) ys) (sym e) hy) in
    cc

-- From a cell on a walk, the rest is shorter.
pub record Shorter (f : ℕ → ℕ) (n long : ℕ) : Type 0 where
  pub rest : List ℕ
  pub walk : Walk f (index_at f (cell_at n)) rest
  pub less : length rest < long

pub walk_rest : (f : ℕ → ℕ) (m n : ℕ) (xs : List ℕ) → Walk f m xs → Among n xs → Shorter f n (length xs)
walk_rest f m n [] h among = absurd among
walk_rest f m n (x ∷ xs) (e, i, h) among =
    ⊎_elim
    (λ (here : x ≡ n). record { rest = xs; walk = subst (λ (k : ℕ). Walk f (index_at f (cell_at k)) xs) here h; less = omega arith })
    (λ there.
    let s : Shorter f n (length xs) = walk_rest f (index_at f (cell_at x)) n xs h there in
    record { rest = s.rest; walk = s.walk; less = omega (arith, s.less) })
    among

-- So no walk comes back to the cell that it begins after.
pub walk_once : (f : ℕ → ℕ) (n : ℕ) (xs : List ℕ) → Walk f (index_at f (cell_at n)) xs → Among n xs → ⊥
walk_once f n xs h among =
    let s = walk_rest f (index_at f (cell_at n)) n xs h among in
    let e : s.rest ≡ xs = walk_same f (index_at f (cell_at n)) s.rest xs s.walk h in
    omega (arith, s.less, ap length e)

-- Every cell on a walk is one.
pub walk_in : (f : ℕ → ℕ) (m n : ℕ) (xs : List ℕ) → Walk f m xs → Among n xs → InCells n
walk_in f m n [] h among = absurd among
walk_in f m n (x ∷ xs) (e, i, h) among =
    ⊎_elim (λ (here : x ≡ n). subst InCells here i) (λ there. walk_in f (index_at f (cell_at x)) n xs h there) among

-- The numbers of the cells of a chain are a walk.
pub chain_walks : (f : ℕ → ℕ) (a : ℕ) (cs : List Cell) → Chain f a cs → Walk f (index_at f a) (numbers cs)
chain_walks f a [] h = index_stands f a 0 (omega arith) h
chain_walks f a (c ∷ cs) (stands, i, held, h) =
    (index_stands f a c.number (omega arith) stands, i, chain_walks f (cell_at c.number) cs h)

pub lies_among : (n : ℕ) (cs : List Cell) → Lies n cs → Among n (numbers cs)
lies_among n [] h = h
lies_among n (c ∷ cs) h = ⊎_elim (λ here. inl here) (λ there. inr (lies_among n cs there)) h

pub among_lies : (n : ℕ) (cs : List Cell) → Among n (numbers cs) → Lies n cs
among_lies n [] h = h
among_lies n (c ∷ cs) h = ⊎_elim (λ here. inl here) (λ there. inr (among_lies n cs there)) h
