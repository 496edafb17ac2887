-- A cell is taken out of a chain, wherever it is in it, and becomes the front free cell: the chains after it.
use Rattle.std.proofs.Common.{◌≡◌, ℕ, ◌+◌, ◌≤◌, ◌≢◌, ◌⊎◌, List, [], ◌∷◌, ◌++◌, length, sym, refl, subst, inl, inr, ⊎_elim, arith}
use Rattle.std.proofs.lemmas.Bool.{cases_eq}
use Rattle.record.specs.Fields.{digits}
use Rattle.book.specs.Layout.{Stands, cell_at, Cell, held, first_of, Chain, Lies}
use Rattle.book.proofs.Standing.{Kept, stands_kept, kept_shorter, held_length, digits_length}
use Rattle.book.proofs.Places.{Apart, cells_apart}
use Rattle.book.proofs.Chaining.{AllWhole, once, chain_moved}

-- the place of the index that leads on from these cells
abbrev pub after_last : ℕ → List Cell → ℕ
after_last a [] = a
after_last a (c ∷ cs) = after_last (cell_at c.number) cs

-- it is the first index, or one of the cells has it
pub last_in : (a : ℕ) (c : Cell) (cs : List Cell) → (m : ℕ) × Lies m (c ∷ cs) × (after_last a (c ∷ cs) ≡ cell_at m)
last_in a c [] = (c.number, inl refl, refl)
last_in a c (d ∷ ds) = let r = last_in (cell_at c.number) d ds in (r.0, inr r.1, r.2)

pub link_cases : (a : ℕ) (cs : List Cell) → (after_last a cs ≡ a) ⊎ ((m : ℕ) × Lies m cs × (after_last a cs ≡ cell_at m))
link_cases a [] = inl refl
link_cases a (c ∷ cs) = inr (last_in a c cs)

-- where cells lie with one of them taken out
pub lies_front : (n : ℕ) (xs ys : List Cell) → Lies n xs → Lies n (xs ++ ys)
lies_front n [] ys l = absurd l
lies_front n (x ∷ xs) ys (inl e) = inl e
lies_front n (x ∷ xs) ys (inr l) = inr (lies_front n xs ys l)

pub lies_back : (n : ℕ) (xs ys : List Cell) → Lies n ys → Lies n (xs ++ ys)
lies_back n [] ys l = l
lies_back n (x ∷ xs) ys l = inr (lies_back n xs ys l)

pub lies_left : (n : ℕ) (xs : List Cell) (x : Cell) (ys : List Cell) → Lies n (xs ++ x ∷ ys) → (x.number ≡ n) ⊎ Lies n (xs ++ ys)
lies_left n [] x ys (inl e) = inl e
lies_left n [] x ys (inr l) = inr l
lies_left n (w ∷ xs) x ys (inl e) = inr (inl e)
lies_left n (w ∷ xs) x ys (inr l) = elim (lies_left n xs x ys l) [ inl e ↦ inl e | inr m ↦ inr (inr m) ]

pub lies_more : (n : ℕ) (xs : List Cell) (x : Cell) (ys : List Cell) → Lies n (xs ++ ys) → Lies n (xs ++ x ∷ ys)
lies_more n [] x ys l = inr l
lies_more n (w ∷ xs) x ys (inl e) = inl e
lies_more n (w ∷ xs) x ys (inr l) = inr (lies_more n xs x ys l)

pub whole_left : (xs : List Cell) (x : Cell) (ys : List Cell) → AllWhole (xs ++ x ∷ ys) → AllWhole (xs ++ ys)
whole_left [] x ys w = w.1
whole_left (c ∷ xs) x ys w = (w.0, whole_left xs x ys w.1)

-- what is taken out is not there any more
pub not_left : (f : ℕ → ℕ) (a : ℕ) (xs : List Cell) (x : Cell) (ys : List Cell) → Chain f a (xs ++ x ∷ ys) → Lies x.number (xs ++ ys) → ⊥
not_left f a [] x ys h l = once f a x ys h l
not_left f a (c ∷ xs) x ys h (inl e) = once f a c (xs ++ x ∷ ys) h (subst (λ (n : ℕ). Lies n (xs ++ x ∷ ys)) (sym e) (lies_back x.number xs (x ∷ ys) (inl refl)))
not_left f a (c ∷ xs) x ys h (inr l) = not_left f (cell_at c.number) xs x ys h.3 l

-- An index at a lies in none of these cells, nor in the free chain's head.
abbrev pub Outside : ℕ → List Cell → Type 0
Outside a cs = ((n : ℕ) → Lies n cs → Apart a 2 (cell_at n) 24) × Apart a 2 8 2

shorter : (a b : ℕ) → Apart a 24 b 24 → Apart a 2 b 24
shorter a b (inl h) = inl (omega arith)
shorter a b (inr h) = inr (omega arith)

pub next_outside : (f : ℕ → ℕ) (a : ℕ) (c : Cell) (cs : List Cell) → Chain f a (c ∷ cs) → Outside (cell_at c.number) cs
next_outside f a c cs h = (
  λ n l. shorter (cell_at c.number) (cell_at n) (cells_apart c.number n (λ (e : c.number ≡ n). once f a c cs h (subst (λ (m : ℕ). Lies m cs) (sym e) l))),
  inr (omega arith),
)

-- nor does the one that leads to x
pub link_outside : (f : ℕ → ℕ) (a : ℕ) (xs : List Cell) (x : Cell) (ys : List Cell) → Chain f a (xs ++ x ∷ ys) → Outside a (xs ++ x ∷ ys)
    → Outside (after_last a xs) (x ∷ ys)
link_outside f a [] x ys h o = o
link_outside f a (c ∷ xs) x ys h o = link_outside f (cell_at c.number) xs x ys h.3 (next_outside f a c (xs ++ x ∷ ys) h)

flip : (a n b m : ℕ) → Apart a n b m → Apart b m a n
flip a n b m (inl h) = inr h
flip a n b m (inr h) = inl h

narrow : (a n b m k : ℕ) → k ≤ m → Apart a n b m → Apart a n b k
narrow a n b m k h (inl l) = inl l
narrow a n b m k h (inr l) = inr (omega arith)

-- what a cell holds, apart from the index of a cell
held_apart : (c m : ℕ) → Apart (cell_at c + 2) 22 (cell_at m) 2
held_apart c m =
    ⊎_elim
    (λ (e : c ≡ m). inr (omega arith))
    (λ (ne : c ≢ m). elim (cells_apart c m ne) [ inl h ↦ inl (omega arith) | inr h ↦ inr (omega arith) ])
    (cases_eq c m)

held_other : (c m : ℕ) → c ≢ m → Apart (cell_at c + 2) 22 (cell_at m) 24
held_other c m ne = elim (cells_apart c m ne) [ inl h ↦ inl (omega arith) | inr h ↦ inr (omega arith) ]

-- All that lies apart from the index at `link`, from cell n and from the free chain's head is the same in g.
abbrev pub KeptBeside : (ℕ → ℕ) → (ℕ → ℕ) → ℕ → ℕ → Type 0
KeptBeside f g link n = (i m : ℕ) → Apart i m link 2 → Apart i m (cell_at n) 24 → Apart i m 8 2 → Kept f g i m

-- the chain with x cut out
pub cut_chain : (f g : ℕ → ℕ) (a : ℕ) (xs : List Cell) (x : Cell) (ys : List Cell) → AllWhole (xs ++ x ∷ ys) → Chain f a (xs ++ x ∷ ys) → Outside a (xs ++ x ∷ ys)
    → KeptBeside f g (after_last a xs) x.number → Stands g (after_last a xs) (digits 2 (first_of ys)) → Chain g a (xs ++ ys)
cut_chain f g a [] x ys w h o k s =
    chain_moved f g (cell_at x.number) a ys w.1
    (λ n l. k (cell_at n) 24
    (flip a 2 (cell_at n) 24 (o.0 n (inr l)))
    (cells_apart n x.number (λ (e : n ≡ x.number). once f a x ys h (subst (λ (m : ℕ). Lies m ys) e l)))
    (inr (omega arith)))
    s h.3
cut_chain f g a (c ∷ xs) x ys w h o k s = (
  stands_kept f g a (digits 2 c.number)
      (kept_shorter f g a 2 (length (digits 2 c.number)) (omega (arith, digits_length 2 c.number))
      (k a 2 first_link (o.0 x.number (inr (lies_back x.number xs (x ∷ ys) (inl refl)))) o.1))
      h.0,
  h.1,
  stands_kept f g (cell_at c.number + 2) (held c)
      (kept_shorter f g (cell_at c.number + 2) 22 (length (held c)) (omega (arith, held_length c w.0))
      (k (cell_at c.number + 2) 22 held_link (held_other c.number x.number not_x) (inr (omega arith))))
      h.2,
  cut_chain f g (cell_at c.number) xs x ys w.1 h.3 (next_outside f a c (xs ++ x ∷ ys) h) k s,
)
  where
    last : (m : ℕ) × Lies m (c ∷ xs) × (after_last a (c ∷ xs) ≡ cell_at m)
    last = last_in a c xs

    first_link : Apart a 2 (after_last (cell_at c.number) xs) 2
    first_link =
        subst (λ (l : ℕ). Apart a 2 l 2) (sym last.2)
        (narrow a 2 (cell_at last.0) 24 2 (omega arith) (o.0 last.0 (lies_front last.0 (c ∷ xs) (x ∷ ys) last.1)))

    held_link : Apart (cell_at c.number + 2) 22 (after_last (cell_at c.number) xs) 2
    held_link = subst (λ (l : ℕ). Apart (cell_at c.number + 2) 22 l 2) (sym last.2) (held_apart c.number last.0)

    not_x : c.number ≢ x.number
    not_x e = once f a c (xs ++ x ∷ ys) h (subst (λ (n : ℕ). Lies n (xs ++ x ∷ ys)) (sym e) (lies_back x.number xs (x ∷ ys) (inl refl)))
