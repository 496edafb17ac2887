-- All chains of a memory, by their numbers: from a book, back to it, and what keeps them.
use Rattle.std.proofs.Common.{◌≡◌, ℕ, ◌+◌, ◌-◌, ◌<◌, ◌≤◌, ◌⊎◌, List, [], ◌∷◌, map, sym, refl, ap, ◌∙◌, subst, inl, inr, ⊎_elim, arith}
use Rattle.std.proofs.lemmas.Bool.{cases_lt, le-leb, lt-leb, ne_eqb}
use Rattle.book.specs.declared.records.Tag.{Tag}
use Rattle.book.specs.declared.records.Entry.{Entry}
use Rattle.book.specs.Layout.{head_at, bucket_chain, cell_at, Cell, InCells, Chain, Lies}
use Rattle.book.specs.Book.{Book, At, free_cell, entry_cell, tag_cell, cells_of, IsAccount, Chains, Records, GoodTags}
use Rattle.book.proofs.Standing.{Kept, blank_length, entry_length, tag_length}
use Rattle.book.proofs.Chaining.{AllWhole, lies_in, chain_kept}

-- The chains of a memory, where chain c has the cells `cells c`.
pub record Threads (f : ℕ → ℕ) (cells : ℕ → List Cell) : Type 0 where
  pub chain : (c : ℕ) → c < 81 → Chain f (head_at c) (cells c)
  pub some : (n : ℕ) → InCells n → (c : ℕ) × (c < 81) × Lies n (cells c)
  pub one : (n c d : ℕ) → c < 81 → d < 81 → Lies n (cells c) → Lies n (cells d) → c ≡ d
  pub whole : (c : ℕ) → c < 81 → AllWhole (cells c)

-- the three kinds of chains
abbrev pub IsBucket : ℕ → Type 0
IsBucket c = (65 ≤ c) × (c < 81)

pub chain_cases : (c : ℕ) → c < 81 → (c ≡ 0) ⊎ (IsAccount c ⊎ IsBucket c)
chain_cases c h =
    ⊎_elim
    (λ (k : c < 1). inl (omega arith))
    (λ (k : 1 ≤ c). inr (⊎_elim (λ (m : c < 65). inl (k, omega arith)) (λ (m : 65 ≤ c). inr (m, h)) (cases_lt c 65)))
    (cases_lt c 1)

pub cells_free : (b : Book) → cells_of b 0 ≡ map free_cell b.free
cells_free b = refl

pub cells_account : (b : Book) (a : ℕ) → IsAccount a → cells_of b a ≡ map entry_cell (b.entries a)
cells_account b a h =
    let p = ne_eqb a 0 (λ (e : a ≡ 0). omega arith) in
    let q = le-leb a 64 (omega arith) in
    rw (p, q)

pub cells_bucket : (b : Book) (c : ℕ) → IsBucket c → cells_of b c ≡ map tag_cell (b.tags (c - 65))
cells_bucket b c h =
    let p = ne_eqb c 0 (λ (e : c ≡ 0). omega arith) in
    let q = lt-leb c 64 (omega arith) in
    rw (p, q)

-- the cells of a book have 20 bytes of content each
free_whole : (ns : List ℕ) → AllWhole (map free_cell ns)
free_whole [] = tt
free_whole (n ∷ ns) = (blank_length, free_whole ns)

entries_whole : (xs : List (At Entry)) → AllWhole (map entry_cell xs)
entries_whole [] = tt
entries_whole (x ∷ xs) = (entry_length x.item, entries_whole xs)

tags_whole : (k : ℕ) (xs : List (At Tag)) → GoodTags k xs → AllWhole (map tag_cell xs)
tags_whole k [] g = tt
tags_whole k (x ∷ xs) g = (tag_length x.item g.0.0, tags_whole k xs g.4)

pub cells_whole : (b : Book) → Records b → (c : ℕ) → c < 81 → AllWhole (cells_of b c)
cells_whole b r c h =
    elim (chain_cases c h) [
      | inl e ↦ subst (λ (d : ℕ). AllWhole (cells_of b d)) (sym e) (free_whole b.free)
      | inr (inl a) ↦ subst AllWhole (sym (cells_account b c a)) (entries_whole (b.entries c))
      | inr (inr k) ↦ subst AllWhole (sym (cells_bucket b c k)) (tags_whole (c - 65) (b.tags (c - 65)) (r.tags (c - 65) (omega arith)))
    ]

-- a book's chains, and a book from them
pub threads : (f : ℕ → ℕ) (b : Book) → Chains f b → Records b → Threads f (cells_of b)
threads f b h r = record { chain = h.chain; some = h.some; one = h.one; whole = cells_whole b r }

pub chains_of : (f : ℕ → ℕ) (b : Book) → Threads f (cells_of b) → Chains f b
chains_of f b t = record { chain = t.chain; some = t.some; one = t.one }

-- chains whose heads and cells are kept
pub threads_kept : (f g : ℕ → ℕ) (cells : ℕ → List Cell) → ((c : ℕ) → c < 81 → Kept f g (head_at c) 2) → ((n : ℕ) → InCells n → Kept f g (cell_at n) 24)
    → Threads f cells → Threads g cells
threads_kept f g cells heads inside t =
    record {
      chain = λ c h. chain_kept f g (head_at c) (cells c) (t.whole c h) (heads c h) (λ n l. inside n (lies_in f (head_at c) n (cells c) (t.chain c h) l)) (t.chain c h);
      some = t.some;
      one = t.one;
      whole = t.whole;
    }

pub cells_tags : (b : Book) (k : ℕ) → k < 16 → cells_of b (bucket_chain k) ≡ map tag_cell (b.tags k)
cells_tags b k h =
    let e : 65 + k - 65 ≡ k = omega arith in
    cells_bucket b (bucket_chain k) (omega arith, omega arith) ∙ ap (λ (j : ℕ). map tag_cell (b.tags j)) e

pub chains_kept : (f g : ℕ → ℕ) (b : Book) → ((c : ℕ) → c < 81 → Kept f g (head_at c) 2) → ((n : ℕ) → InCells n → Kept f g (cell_at n) 24)
    → Records b → Chains f b → Chains g b
chains_kept f g b heads inside r h = chains_of g b (threads_kept f g (cells_of b) heads inside (threads f b h r))
