-- Chains of cells: what they say of their cells, that there is one from each index, and what keeps them.
use Rattle.std.proofs.Common.{◌≡◌, ℕ, ◌+◌, ◌<◌, ◌≤◌, List, [], ◌∷◌, length, map, sym, refl, ap, subst, inl, inr, arith}
use Rattle.record.specs.Fields.{digits}
use Rattle.book.specs.Layout.{Stands, cell_at, Cell, held, InCells, first_of, Chain, Lies}
use Rattle.book.proofs.Standing.{Kept, stands_kept, kept_part, kept_shorter, digits_length, held_length, same_index}

-- the numbers of cells, in their order
abbrev pub numbers : List Cell → List ℕ
numbers cs = map (λ (c : Cell). c.number) cs

-- Each of these cells has the 20 bytes that it has room for.
abbrev pub AllWhole : List Cell → Type 0
AllWhole [] = Unit {0}
AllWhole (c ∷ cs) = (length c.content ≡ 20) × AllWhole cs

-- the index that leads to a chain
pub chain_link : (f : ℕ → ℕ) (a : ℕ) (cs : List Cell) → Chain f a cs → Stands f a (digits 2 (first_of cs))
chain_link f a [] h = h
chain_link f a (c ∷ cs) h = h.0

-- each cell on a chain is one of the 200
pub lies_in : (f : ℕ → ℕ) (a n : ℕ) (cs : List Cell) → Chain f a cs → Lies n cs → InCells n
lies_in f a n [] h l = absurd l
lies_in f a n (c ∷ cs) h (inl e) = subst InCells e h.1
lies_in f a n (c ∷ cs) h (inr l) = lies_in f (cell_at c.number) n cs h.3 l

pub first_below : (f : ℕ → ℕ) (a : ℕ) (cs : List Cell) → Chain f a cs → first_of cs ≤ 200
first_below f a [] h = omega arith
first_below f a (c ∷ cs) h = h.1.1

-- from an index on there is one chain
pub same_numbers : (f : ℕ → ℕ) (a : ℕ) (xs ys : List Cell) → Chain f a xs → Chain f a ys → numbers xs ≡ numbers ys
same_numbers f a [] [] h k = refl
same_numbers f a [] (y ∷ ys) h k =
    let e = same_index f a 0 y.number (omega arith) (omega (arith, k.1.1)) h k.0 in
    absurd (omega (arith, k.1.0))
same_numbers f a (x ∷ xs) [] h k =
    let e = same_index f a 0 x.number (omega arith) (omega (arith, h.1.1)) k h.0 in
    absurd (omega (arith, h.1.0))
same_numbers f a (x ∷ xs) (y ∷ ys) h k =
    let e = same_index f a x.number y.number (omega (arith, h.1.1)) (omega (arith, k.1.1)) h.0 k.0 in
    let rest = same_numbers f (cell_at x.number) xs ys h.3 (subst (λ (n : ℕ). Chain f (cell_at n) ys) (sym e) k.3) in
    cc

pub numbers_length : (xs : List Cell) → length (numbers xs) ≡ length xs
numbers_length [] = refl
numbers_length (x ∷ xs) = omega (arith, numbers_length xs)

-- the chain after a cell, which is shorter
pub after_cell : (f : ℕ → ℕ) (a n : ℕ) (cs : List Cell) → Chain f a cs → Lies n cs → (ds : List Cell) × Chain f (cell_at n) ds × (length ds < length cs)
after_cell f a n [] h l = absurd l
after_cell f a n (c ∷ cs) h (inl e) = (cs, subst (λ (m : ℕ). Chain f (cell_at m) cs) e h.3, omega arith)
after_cell f a n (c ∷ cs) h (inr l) =
    let r = after_cell f (cell_at c.number) n cs h.3 l in
    (r.0, r.1, omega (arith, r.2))

-- no cell comes twice
pub once : (f : ℕ → ℕ) (a : ℕ) (c : Cell) (cs : List Cell) → Chain f a (c ∷ cs) → Lies c.number cs → ⊥
once f a c cs h l =
    let r = after_cell f (cell_at c.number) c.number cs h.3 l in
    let e = ap length (same_numbers f (cell_at c.number) r.0 cs r.1 h.3) in
    omega (arith, numbers_length r.0, numbers_length cs, r.2)

-- a chain with the same cells, at a link that leads to them
pub chain_moved : (f g : ℕ → ℕ) (a b : ℕ) (cs : List Cell) → AllWhole cs → ((n : ℕ) → Lies n cs → Kept f g (cell_at n) 24)
    → Stands g b (digits 2 (first_of cs)) → Chain f a cs → Chain g b cs
chain_moved f g a b [] w k s h = s
chain_moved f g a b (c ∷ cs) w k s h =
    let here = k c.number (inl refl) in
    let long = held_length c w.0 in (
      s,
      h.1,
      stands_kept f g (cell_at c.number + 2) (held c) (kept_part f g (cell_at c.number) 24 2 (length (held c)) (omega arith) here) h.2,
      chain_moved f g (cell_at c.number) (cell_at c.number) cs w.1
          (λ n l. k n (inr l))
          (stands_kept f g (cell_at c.number) (digits 2 (first_of cs))
          (kept_shorter f g (cell_at c.number) 24 (length (digits 2 (first_of cs))) (omega (arith, digits_length 2 (first_of cs))) here)
          (chain_link f (cell_at c.number) cs h.3))
          h.3,
    )

-- a chain whose link and cells are kept
pub chain_kept : (f g : ℕ → ℕ) (a : ℕ) (cs : List Cell) → AllWhole cs → Kept f g a 2 → ((n : ℕ) → Lies n cs → Kept f g (cell_at n) 24)
    → Chain f a cs → Chain g a cs
chain_kept f g a cs w link k h =
    chain_moved f g a a cs w k
    (stands_kept f g a (digits 2 (first_of cs))
    (kept_shorter f g a 2 (length (digits 2 (first_of cs))) (omega (arith, digits_length 2 (first_of cs))) link)
    (chain_link f a cs h))
    h
