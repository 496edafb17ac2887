-- The front free cell goes to the front of a chain: the chains after it.
use Rattle.std.proofs.Common.{◌≡◌, ℕ, ◌<◌, ◌≤◌, ◌≢◌, ◌⊎◌, List, [], ◌∷◌, length, sym, ◌∙◌, subst, inl, inr, ⊎_elim, arith}
use Rattle.std.proofs.lemmas.Bool.{cases_eq}
use Rattle.record.specs.Fields.{digits}
use Rattle.book.specs.Layout.{Stands, head_at, cell_at, Cell, whole, InCells, first_of, Chain, Lies}
use Rattle.book.specs.Edits.{Edit, edit, after_edits}
use Rattle.book.proofs.Standing.{Kept, AllMiss, put, edits_keep, whole_next, whole_held, whole_length, digits_length}
use Rattle.book.proofs.Places.{Apart, heads_apart, cells_apart, head_cell}
use Rattle.book.proofs.Keeping.{misses, stands_first}
use Rattle.book.proofs.Chaining.{AllWhole, lies_in, once, chain_moved, chain_kept}
use Rattle.book.proofs.Threads.{Threads}

-- Cell x is put in front of chain c, which began with cell `first`; the free chain then begins with cell `next`.
abbrev pub putting : ℕ → ℕ → Cell → ℕ → List Edit
putting c first x next =
    edit (head_at c) (digits 2 x.number) ∷ edit (cell_at x.number) (whole first x) ∷ edit (head_at 0) (digits 2 next) ∷ []

-- what they miss
pub putting_misses : (a n c first : ℕ) (x : Cell) (next : ℕ) → length x.content ≡ 20 → Apart a n (head_at c) 2 → Apart a n (cell_at x.number) 24 → Apart a n 8 2
    → AllMiss a n (putting c first x next)
putting_misses a n c first x next long p q r = (
  misses a n (head_at c) 2 (digits 2 x.number) (digits_length 2 x.number) p,
  (
    misses a n (cell_at x.number) 24 (whole first x) (whole_length first x long) q,
    (misses a n 8 2 (digits 2 next) (digits_length 2 next) r, tt),
  ),
)

-- Chains `old` become `new`: x, which has the number of the front free cell, is in front of chain c.
pub record Put (old new : ℕ → List Cell) (c : ℕ) (x k : Cell) (rest : List Cell) : Type 0 where
  pub some : 1 ≤ c
  pub below : c < 81
  pub long : length x.content ≡ 20
  pub free : old 0 ≡ k ∷ rest
  pub number : k.number ≡ x.number
  pub after : new 0 ≡ rest
  pub front : new c ≡ x ∷ old c
  pub others : (d : ℕ) → d < 81 → d ≢ 0 → d ≢ c → new d ≡ old d

module _ (f : ℕ → ℕ) (old new : ℕ → List Cell) (c : ℕ) (x k : Cell) (rest : List Cell) (t : Threads f old) (p : Put old new c x k rest) where
  after : ℕ → ℕ
  after = after_edits (putting c (first_of (old c)) x (first_of rest)) f

  was_free : Chain f (head_at 0) (k ∷ rest)
  was_free = subst (Chain f (head_at 0)) p.free (t.chain 0 (omega arith))

  in_cells : InCells x.number
  in_cells = subst InCells p.number was_free.1

  lay_free : Lies x.number (old 0)
  lay_free = subst (Lies x.number) (sym p.free) (inl p.number)

  not_rest : (n : ℕ) → Lies n rest → n ≢ x.number
  not_rest n l e = once f (head_at 0) k rest was_free (subst (λ (m : ℕ). Lies m rest) (e ∙ sym p.number) l)

  only_free : (n d : ℕ) → d < 81 → d ≢ 0 → Lies n (old d) → n ≢ x.number
  only_free n d h ne l e = ne (sym (t.one x.number 0 d (omega arith) h lay_free (subst (λ (m : ℕ). Lies m (old d)) e l)))

  cell_kept : (n : ℕ) → InCells n → n ≢ x.number → Kept f after (cell_at n) 24
  unfolding after
  cell_kept n h ne =
      edits_keep (putting c (first_of (old c)) x (first_of rest)) f (cell_at n) 24
      (putting_misses (cell_at n) 24 c (first_of (old c)) x (first_of rest) p.long
      (inr (head_cell c n p.below h))
      (cells_apart n x.number ne)
      (inr (omega arith)))

  head_kept : (d : ℕ) → d < 81 → d ≢ 0 → d ≢ c → Kept f after (head_at d) 2
  unfolding after
  head_kept d h nz ne =
      edits_keep (putting c (first_of (old c)) x (first_of rest)) f (head_at d) 2
      (putting_misses (head_at d) 2 c (first_of (old c)) x (first_of rest) p.long
      (heads_apart d c ne)
      (inl (head_cell d x.number h in_cells))
      (heads_apart d 0 nz))

  head_stands : Stands after (head_at c) (digits 2 x.number)
  unfolding after
  head_stands =
      stands_first (head_at c) 2 (digits 2 x.number) (edit (cell_at x.number) (whole (first_of (old c)) x) ∷ edit (head_at 0) (digits 2 (first_of rest)) ∷ []) f
      (digits_length 2 x.number) (
        misses (head_at c) 2 (cell_at x.number) 24 (whole (first_of (old c)) x) (whole_length (first_of (old c)) x p.long) (inl (head_cell c x.number p.below in_cells)),
        (misses (head_at c) 2 8 2 (digits 2 (first_of rest)) (digits_length 2 (first_of rest)) (heads_apart c 0 (λ (e : c ≡ 0). omega (arith, p.some))), tt),
      )

  cell_stands : Stands after (cell_at x.number) (whole (first_of (old c)) x)
  unfolding after
  cell_stands =
      stands_first (cell_at x.number) 24 (whole (first_of (old c)) x) (edit (head_at 0) (digits 2 (first_of rest)) ∷ [])
      (put (edit (head_at c) (digits 2 x.number)) f)
      (whole_length (first_of (old c)) x p.long)
      (misses (cell_at x.number) 24 8 2 (digits 2 (first_of rest)) (digits_length 2 (first_of rest)) (inr (omega arith)), tt)

  free_stands : Stands after (head_at 0) (digits 2 (first_of rest))
  unfolding after
  free_stands = stands_first (head_at 0) 2 (digits 2 (first_of rest)) []
      (put (edit (cell_at x.number) (whole (first_of (old c)) x)) (put (edit (head_at c) (digits 2 x.number)) f))
      (digits_length 2 (first_of rest)) tt

  free_chain : Chain after (head_at 0) rest
  free_chain =
      chain_moved f after (cell_at k.number) (head_at 0) rest (subst AllWhole p.free (t.whole 0 (omega arith))).1
      (λ n l. cell_kept n (lies_in f (cell_at k.number) n rest was_free.3 l) (not_rest n l))
      free_stands was_free.3

  put_chain : Chain after (head_at c) (x ∷ old c)
  put_chain = (
    head_stands,
    in_cells,
    whole_held after (cell_at x.number) (first_of (old c)) x cell_stands,
    chain_moved f after (head_at c) (cell_at x.number) (old c) (t.whole c p.below)
        (λ n l. cell_kept n (lies_in f (head_at c) n (old c) (t.chain c p.below) l) (only_free n c p.below (λ (e : c ≡ 0). omega (arith, p.some)) l))
        (whole_next after (cell_at x.number) (first_of (old c)) x cell_stands)
        (t.chain c p.below),
  )

  other_chain : (d : ℕ) → d < 81 → d ≢ 0 → d ≢ c → Chain after (head_at d) (old d)
  other_chain d h nz ne =
      chain_kept f after (head_at d) (old d) (t.whole d h) (head_kept d h nz ne)
      (λ n l. cell_kept n (lies_in f (head_at d) n (old d) (t.chain d h) l) (only_free n d h nz l))
      (t.chain d h)

  -- where a cell lies now
  now_free : (n : ℕ) → Lies n rest → Lies n (new 0)
  now_free n l = subst (Lies n) (sym p.after) l

  now_put : (n : ℕ) → Lies n (x ∷ old c) → Lies n (new c)
  now_put n l = subst (Lies n) (sym p.front) l

  now_some : (n d : ℕ) → d < 81 → Lies n (old d) → (e : ℕ) × (e < 81) × Lies n (new e)
  now_some n d h l =
      ⊎_elim
      (λ (z : d ≡ 0).
      ⊎_elim
      (λ (e : k.number ≡ n). (c, p.below, now_put n (inl (sym p.number ∙ e))))
      (λ (m : Lies n rest). (0, lt_0, now_free n m))
      (subst (Lies n) p.free (subst (λ (i : ℕ). Lies n (old i)) z l)))
      (λ (nz : d ≢ 0).
      ⊎_elim
      (λ (e : d ≡ c). (c, p.below, now_put n (inr (subst (λ (i : ℕ). Lies n (old i)) e l))))
      (λ (ne : d ≢ c). (d, h, subst (Lies n) (sym (p.others d h nz ne)) l))
      (cases_eq d c))
      (cases_eq d 0)
    where
      lt_0 : 0 < 81
      lt_0 = omega arith

  -- and where it was
  back : (n d : ℕ) → d < 81 → Lies n (new d) → ((n ≡ x.number) × (d ≡ c)) ⊎ ((n ≢ x.number) × Lies n (old d))
  back n d h l =
      ⊎_elim
      (λ (z : d ≡ 0).
      let m = subst (Lies n) p.after (subst (λ (i : ℕ). Lies n (new i)) z l) in
      inr (not_rest n m, subst (λ (i : ℕ). Lies n (old i)) (sym z) (subst (Lies n) (sym p.free) (inr m))))
      (λ (nz : d ≢ 0).
      ⊎_elim
      (λ (e : d ≡ c).
      ⊎_elim
      (λ (i : x.number ≡ n). inl (sym i, e))
      (λ (m : Lies n (old c)). inr (only_free n c p.below (λ (i : c ≡ 0). omega (arith, p.some)) m, subst (λ (i : ℕ). Lies n (old i)) (sym e) m))
      (subst (Lies n) p.front (subst (λ (i : ℕ). Lies n (new i)) e l)))
      (λ (ne : d ≢ c). let m = subst (Lies n) (p.others d h nz ne) l in inr (only_free n d h nz m, m))
      (cases_eq d c))
      (cases_eq d 0)

  now_one : (n d e : ℕ) → d < 81 → e < 81 → Lies n (new d) → Lies n (new e) → d ≡ e
  now_one n d e h i l m =
      elim (back n d h l) [
        | inl u ↦
            elim (back n e i m) [
              | inl v ↦ u.1 ∙ sym v.1
              | inr v ↦ absurd (v.0 u.0)
            ]
        | inr u ↦
            elim (back n e i m) [
              | inl v ↦ absurd (u.0 v.0)
              | inr v ↦ t.one n d e h i u.1 v.1
            ]
      ]

  now_chain : (d : ℕ) → d < 81 → Chain after (head_at d) (new d)
  now_chain d h =
      ⊎_elim
      (λ (z : d ≡ 0). subst (λ (i : ℕ). Chain after (head_at i) (new i)) (sym z) (subst (Chain after (head_at 0)) (sym p.after) free_chain))
      (λ (nz : d ≢ 0).
      ⊎_elim
      (λ (e : d ≡ c). subst (λ (i : ℕ). Chain after (head_at i) (new i)) (sym e) (subst (Chain after (head_at c)) (sym p.front) put_chain))
      (λ (ne : d ≢ c). subst (Chain after (head_at d)) (sym (p.others d h nz ne)) (other_chain d h nz ne))
      (cases_eq d c))
      (cases_eq d 0)

  now_whole : (d : ℕ) → d < 81 → AllWhole (new d)
  now_whole d h =
      ⊎_elim
      (λ (z : d ≡ 0). subst (λ (i : ℕ). AllWhole (new i)) (sym z) (subst AllWhole (sym p.after) (subst AllWhole p.free (t.whole 0 (omega arith))).1))
      (λ (nz : d ≢ 0).
      ⊎_elim
      (λ (e : d ≡ c). subst (λ (i : ℕ). AllWhole (new i)) (sym e) (subst AllWhole (sym p.front) (p.long, t.whole c p.below)))
      (λ (ne : d ≢ c). subst AllWhole (sym (p.others d h nz ne)) (t.whole d h))
      (cases_eq d c))
      (cases_eq d 0)

  -- the chains after it
  pub threads_put : Threads (after_edits (putting c (first_of (old c)) x (first_of rest)) f) new
  unfolding after
  threads_put =
      record {
        chain = now_chain;
        some = λ n h. let s = t.some n h in now_some n s.0 s.1 s.2;
        one = now_one;
        whole = now_whole;
      }
