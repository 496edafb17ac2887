-- The edits that take a cell out of a chain and free it: all chains after them, and what they leave.
use Rattle.std.proofs.Common.{◌≡◌, ℕ, ◌+◌, ◌<◌, ◌≤◌, ◌≢◌, ◌⊎◌, List, [], ◌∷◌, ◌++◌, length, sym, refl, ◌∙◌, subst, inl, inr, ⊎_elim, arith}
use Rattle.std.proofs.lemmas.Bool.{cases_eq}
use Rattle.record.specs.Fields.{digits}
use Rattle.book.specs.Layout.{Stands, balance_at, head_at, cell_at, Cell, whole, InCells, first_of, Chain, Lies}
use Rattle.book.specs.Book.{Book, Money, Zeros}
use Rattle.book.specs.Edits.{Edit, edit, after_edits}
use Rattle.book.proofs.Standing.{Kept, AllMiss, put, edits_keep, whole_next, whole_held, whole_length, digits_length}
use Rattle.book.proofs.Places.{Apart, head_within, heads_apart, cells_apart, head_cell, balance_head, zeros_head}
use Rattle.book.proofs.Keeping.{misses, stands_first, money_kept, zeros_kept}
use Rattle.book.proofs.Chaining.{AllWhole, lies_in, chain_moved, chain_kept}
use Rattle.book.proofs.Threads.{Threads}
use Rattle.book.proofs.Cutting.{after_last, link_cases, lies_front, lies_back, lies_left, lies_more, whole_left, not_left, Outside, link_outside, KeptBeside, cut_chain}

-- The index at `link` gets `next`, cell y the index of the cell that was the front free one, and the free chain's head y's number.
abbrev pub taking : ℕ → ℕ → Cell → ℕ → List Edit
taking link next y first = edit link (digits 2 next) ∷ edit (cell_at y.number) (whole first y) ∷ edit (head_at 0) (digits 2 y.number) ∷ []

pub taking_misses : (a n link next : ℕ) (y : Cell) (first : ℕ) → length y.content ≡ 20 → Apart a n link 2 → Apart a n (cell_at y.number) 24 → Apart a n 8 2
    → AllMiss a n (taking link next y first)
taking_misses a n link next y first long p q r = (
  misses a n link 2 (digits 2 next) (digits_length 2 next) p,
  (
    misses a n (cell_at y.number) 24 (whole first y) (whole_length first y long) q,
    (misses a n 8 2 (digits 2 y.number) (digits_length 2 y.number) r, tt),
  ),
)

-- Chains `old` become `new`: of chain c, which has x after `before`, x is taken out, and y, of its number, is the front free cell.
pub record Taken (old new : ℕ → List Cell) (c : ℕ) (before : List Cell) (x y : Cell) (rest : List Cell) : Type 0 where
  pub some : 1 ≤ c
  pub below : c < 81
  pub long : length y.content ≡ 20
  pub was : old c ≡ before ++ x ∷ rest
  pub number : x.number ≡ y.number
  pub now : new c ≡ before ++ rest
  pub free : new 0 ≡ y ∷ old 0
  pub others : (d : ℕ) → d < 81 → d ≢ 0 → d ≢ c → new d ≡ old d

module _ (f : ℕ → ℕ) (old new : ℕ → List Cell) (c : ℕ) (before : List Cell) (x y : Cell) (rest : List Cell) (t : Threads f old) (p : Taken old new c before x y rest) where
  link : ℕ
  link = after_last (head_at c) before

  after : ℕ → ℕ
  after = after_edits (taking (after_last (head_at c) before) (first_of rest) y (first_of (old 0))) f

  was_chain : Chain f (head_at c) (before ++ x ∷ rest)
  was_chain = subst (Chain f (head_at c)) p.was (t.chain c p.below)

  not_free : c ≢ 0
  not_free e = omega (arith, p.some)

  x_lies : Lies x.number (old c)
  x_lies = subst (Lies x.number) (sym p.was) (lies_back x.number before (x ∷ rest) (inl refl))

  y_lies : Lies y.number (old c)
  y_lies = subst (λ (n : ℕ). Lies n (old c)) p.number x_lies

  in_cells : InCells y.number
  in_cells = lies_in f (head_at c) y.number (old c) (t.chain c p.below) y_lies

  before_lies : (n : ℕ) → Lies n before → Lies n (old c)
  before_lies n l = subst (Lies n) (sym p.was) (lies_front n before (x ∷ rest) l)

  -- cells of other chains
  elsewhere : (m n d : ℕ) → d < 81 → d ≢ c → Lies m (old c) → Lies n (old d) → n ≢ m
  elsewhere m n d h ne l k e = ne (t.one n d c h p.below k (subst (λ (i : ℕ). Lies i (old c)) (sym e) l))

  outside : Outside (head_at c) (before ++ x ∷ rest)
  outside = (
    λ n l. inl (head_cell c n p.below (lies_in f (head_at c) n (before ++ x ∷ rest) was_chain l)),
    heads_apart c 0 not_free,
  )

  linked : Outside (after_last (head_at c) before) (x ∷ rest)
  linked = link_outside f (head_at c) before x rest was_chain outside

  link_cell : Apart (after_last (head_at c) before) 2 (cell_at y.number) 24
  link_cell = subst (λ (n : ℕ). Apart (after_last (head_at c) before) 2 (cell_at n) 24) p.number (linked.0 x.number (inl refl))

  kept : KeptBeside f after (after_last (head_at c) before) y.number
  unfolding after
  kept i m u v w =
      edits_keep (taking (after_last (head_at c) before) (first_of rest) y (first_of (old 0))) f i m
      (taking_misses i m (after_last (head_at c) before) (first_of rest) y (first_of (old 0)) p.long u v w)

  -- the link is the head, or lies in a cell of the chain
  from_link : (i m : ℕ) → Apart i m (head_at c) 2 → ((n : ℕ) → Lies n (old c) → Apart i m (cell_at n) 2) → Apart i m (after_last (head_at c) before) 2
  from_link i m h k =
      elim (link_cases (head_at c) before) [
        | inl e ↦ subst (λ (l : ℕ). Apart i m l 2) (sym e) h
        | inr (n, l, e) ↦ subst (λ (j : ℕ). Apart i m j 2) (sym e) (k n (before_lies n l))
      ]

  first_half : (a b : ℕ) → Apart a 24 b 24 → Apart a 24 b 2
  first_half a b (inl h) = inl h
  first_half a b (inr h) = inr (omega arith)

  cell_kept : (n d : ℕ) → d < 81 → d ≢ c → Lies n (old d) → Kept f after (cell_at n) 24
  cell_kept n d h ne l =
      let k = lies_in f (head_at d) n (old d) (t.chain d h) l in
      kept (cell_at n) 24
      (from_link (cell_at n) 24 (inr (head_cell c n p.below k)) (λ m i. first_half (cell_at n) (cell_at m) (cells_apart n m (elsewhere m n d h ne i l))))
      (cells_apart n y.number (elsewhere y.number n d h ne y_lies l))
      (inr (omega arith))

  head_kept : (d : ℕ) → d < 81 → d ≢ 0 → d ≢ c → Kept f after (head_at d) 2
  head_kept d h nz ne =
      kept (head_at d) 2
      (from_link (head_at d) 2 (heads_apart d c ne)
      (λ m i. inl (head_cell d m h (lies_in f (head_at c) m (old c) (t.chain c p.below) i))))
      (inl (head_cell d y.number h in_cells))
      (heads_apart d 0 nz)

  link_stands : Stands after (after_last (head_at c) before) (digits 2 (first_of rest))
  unfolding after
  link_stands =
      stands_first (after_last (head_at c) before) 2 (digits 2 (first_of rest))
      (edit (cell_at y.number) (whole (first_of (old 0)) y) ∷ edit (head_at 0) (digits 2 y.number) ∷ []) f
      (digits_length 2 (first_of rest)) (
        misses (after_last (head_at c) before) 2 (cell_at y.number) 24 (whole (first_of (old 0)) y) (whole_length (first_of (old 0)) y p.long) link_cell,
        (misses (after_last (head_at c) before) 2 8 2 (digits 2 y.number) (digits_length 2 y.number) linked.1, tt),
      )

  cell_stands : Stands after (cell_at y.number) (whole (first_of (old 0)) y)
  unfolding after
  cell_stands =
      stands_first (cell_at y.number) 24 (whole (first_of (old 0)) y) (edit (head_at 0) (digits 2 y.number) ∷ [])
      (put (edit (after_last (head_at c) before) (digits 2 (first_of rest))) f)
      (whole_length (first_of (old 0)) y p.long)
      (misses (cell_at y.number) 24 8 2 (digits 2 y.number) (digits_length 2 y.number) (inr (omega arith)), tt)

  free_stands : Stands after (head_at 0) (digits 2 y.number)
  unfolding after
  free_stands = stands_first (head_at 0) 2 (digits 2 y.number) []
      (put (edit (cell_at y.number) (whole (first_of (old 0)) y)) (put (edit (after_last (head_at c) before) (digits 2 (first_of rest))) f))
      (digits_length 2 y.number) tt

  free_chain : Chain after (head_at 0) (y ∷ old 0)
  free_chain = (
    free_stands,
    in_cells,
    whole_held after (cell_at y.number) (first_of (old 0)) y cell_stands,
    chain_moved f after (head_at 0) (cell_at y.number) (old 0) (t.whole 0 (omega arith))
        (λ n l. cell_kept n 0 (omega arith) (λ (e : 0 ≡ c). not_free (sym e)) l)
        (whole_next after (cell_at y.number) (first_of (old 0)) y cell_stands)
        (t.chain 0 (omega arith)),
  )

  left_chain : Chain after (head_at c) (before ++ rest)
  left_chain =
      cut_chain f after (head_at c) before x rest (subst AllWhole p.was (t.whole c p.below)) was_chain outside
      (subst (KeptBeside f after (after_last (head_at c) before)) (sym p.number) kept) link_stands

  other_chain : (d : ℕ) → d < 81 → d ≢ 0 → d ≢ c → Chain after (head_at d) (old d)
  other_chain d h nz ne = chain_kept f after (head_at d) (old d) (t.whole d h) (head_kept d h nz ne) (λ n l. cell_kept n d h ne l) (t.chain d h)

  -- where a cell lies now
  now_free : (n : ℕ) → Lies n (y ∷ old 0) → Lies n (new 0)
  now_free n l = subst (Lies n) (sym p.free) l

  now_some : (n d : ℕ) → d < 81 → Lies n (old d) → (e : ℕ) × (e < 81) × Lies n (new e)
  now_some n d h l =
      ⊎_elim
      (λ (z : d ≡ 0). (0, lt_0, now_free n (inr (subst (λ (i : ℕ). Lies n (old i)) z l))))
      (λ (nz : d ≢ 0).
      ⊎_elim
      (λ (e : d ≡ c).
      ⊎_elim
      (λ (i : x.number ≡ n). (0, lt_0, now_free n (inl (sym p.number ∙ i))))
      (λ (m : Lies n (before ++ rest)). (c, p.below, subst (Lies n) (sym p.now) m))
      (lies_left n before x rest (subst (Lies n) p.was (subst (λ (i : ℕ). Lies n (old i)) e l))))
      (λ (ne : d ≢ c). (d, h, subst (Lies n) (sym (p.others d h nz ne)) l))
      (cases_eq d c))
      (cases_eq d 0)
    where
      lt_0 : 0 < 81
      lt_0 = omega arith

  -- and where it was
  back : (n d : ℕ) → d < 81 → Lies n (new d) → ((n ≡ y.number) × (d ≡ 0)) ⊎ ((n ≢ y.number) × Lies n (old d))
  back n d h l =
      ⊎_elim
      (λ (z : d ≡ 0).
      ⊎_elim
      (λ (i : y.number ≡ n). inl (sym i, z))
      (λ (m : Lies n (old 0)).
      inr (elsewhere y.number n 0 (omega arith) (λ (e : 0 ≡ c). not_free (sym e)) y_lies m, subst (λ (i : ℕ). Lies n (old i)) (sym z) m))
      (subst (Lies n) p.free (subst (λ (i : ℕ). Lies n (new i)) z l)))
      (λ (nz : d ≢ 0).
      ⊎_elim
      (λ (e : d ≡ c).
      let m = subst (Lies n) p.now (subst (λ (i : ℕ). Lies n (new i)) e l) in
      inr (left_is n m, subst (λ (i : ℕ). Lies n (old i)) (sym e) (subst (Lies n) (sym p.was) (lies_more n before x rest m))))
      (λ (ne : d ≢ c). let m = subst (Lies n) (p.others d h nz ne) l in inr (elsewhere y.number n d h ne y_lies m, m))
      (cases_eq d c))
      (cases_eq d 0)
    where
      left_is : (n : ℕ) → Lies n (before ++ rest) → n ≢ y.number
      left_is n m e = not_left f (head_at c) before x rest was_chain (subst (λ (i : ℕ). Lies i (before ++ rest)) (e ∙ sym p.number) m)

  now_one : (n d e : ℕ) → d < 81 → e < 81 → Lies n (new d) → Lies n (new e) → d ≡ e
  now_one n d e h i l m =
      elim (back n d h l) [
        | inl u ↦
            elim (back n e i m) [
              | inl v ↦ u.1 ∙ sym v.1
              | inr v ↦ absurd (v.0 u.0)
            ]
        | inr u ↦
            elim (back n e i m) [
              | inl v ↦ absurd (u.0 v.0)
              | inr v ↦ t.one n d e h i u.1 v.1
            ]
      ]

  now_chain : (d : ℕ) → d < 81 → Chain after (head_at d) (new d)
  now_chain d h =
      ⊎_elim
      (λ (z : d ≡ 0). subst (λ (i : ℕ). Chain after (head_at i) (new i)) (sym z) (subst (Chain after (head_at 0)) (sym p.free) free_chain))
      (λ (nz : d ≢ 0).
      ⊎_elim
      (λ (e : d ≡ c). subst (λ (i : ℕ). Chain after (head_at i) (new i)) (sym e) (subst (Chain after (head_at c)) (sym p.now) left_chain))
      (λ (ne : d ≢ c). subst (Chain after (head_at d)) (sym (p.others d h nz ne)) (other_chain d h nz ne))
      (cases_eq d c))
      (cases_eq d 0)

  now_whole : (d : ℕ) → d < 81 → AllWhole (new d)
  now_whole d h =
      ⊎_elim
      (λ (z : d ≡ 0). subst (λ (i : ℕ). AllWhole (new i)) (sym z) (subst AllWhole (sym p.free) (p.long, t.whole 0 (omega arith))))
      (λ (nz : d ≢ 0).
      ⊎_elim
      (λ (e : d ≡ c).
      subst (λ (i : ℕ). AllWhole (new i)) (sym e) (subst AllWhole (sym p.now) (whole_left before x rest (subst AllWhole p.was (t.whole c p.below)))))
      (λ (ne : d ≢ c). subst AllWhole (sym (p.others d h nz ne)) (t.whole d h))
      (cases_eq d c))
      (cases_eq d 0)

  -- the chains after it
  pub threads_taken : Threads (after_edits (taking (after_last (head_at c) before) (first_of rest) y (first_of (old 0))) f) new
  unfolding after
  threads_taken =
      record {
        chain = now_chain;
        some = λ n h. let s = t.some n h in now_some n s.0 s.1 s.2;
        one = now_one;
        whole = now_whole;
      }

  -- the money and the zeros are left
  in_chain : (i m : ℕ) → Apart i m (head_at c) 2 → ((n : ℕ) → InCells n → Apart i m (cell_at n) 24) → Apart i m 8 2 → Kept f after i m
  in_chain i m h k w =
      kept i m
      (from_link i m h (λ n l. thin (cell_at n) (k n (lies_in f (head_at c) n (old c) (t.chain c p.below) l))))
      (k y.number in_cells) w
    where
      thin : (b : ℕ) → Apart i m b 24 → Apart i m b 2
      thin b (inl h) = inl h
      thin b (inr h) = inr (omega arith)

  pub money_past_taking : (b : Book) → Money f b → Money (after_edits (taking (after_last (head_at c) before) (first_of rest) y (first_of (old 0))) f) b
  unfolding after
  money_past_taking b h =
      let w = head_within c p.below in
      money_kept f after b
      (in_chain 0 8 (inl w.0) (λ n i. inl (omega arith)) (inl (omega arith)))
      (λ a i. in_chain (balance_at a) 8 (balance_head a c i p.below) (λ n j. inl (omega arith)) (inr (omega arith)))
      h

  pub zeros_past_taking : Zeros f → Zeros (after_edits (taking (after_last (head_at c) before) (first_of rest) y (first_of (old 0))) f)
  unfolding after
  zeros_past_taking z =
      let w = head_within c p.below in
      zeros_kept f after
      (in_chain 10 6 (zeros_head 0 c (omega arith) p.below) (λ n i. inl (omega arith)) (inr (omega arith)))
      (λ a i. in_chain (balance_at a + 10) 6 (zeros_head a c i.1 p.below) (λ n j. inl (omega arith)) (inr (omega arith)))
      (in_chain 5872 272 (inr (omega arith)) (λ n i. inr (omega arith)) (inr (omega arith)))
      z
