-- What a book says of its cells.
use Rattle.std.proofs.Common.{◌≡◌, ◌≢◌, ℕ, ◌-◌, ◌<◌, List, [], ◌∷◌, map, Some, Option, sym, ap, ◌∙◌, subst, inl, inr, ⊎_elim, arith}
use Rattle.book.specs.declared.records.Tag.{Tag}
use Rattle.book.specs.declared.records.Entry.{Entry}
use Rattle.book.specs.Records.{bucket_of, tag_kind, tag_content, entry_kind, entry_content, blank_content}
use Rattle.book.specs.Layout.{Chain, cell_at, head_at, InCells, Lies}
use Rattle.book.specs.Book.{Book, At, Chains, Records, GoodEntries, GoodTags, NoTag, free_cell, entry_cell, tag_cell, cells_of}
use Rattle.book.proofs.Threads.{IsBucket, chain_cases, cells_account, cells_bucket}
use Rattle.book.proofs.Chaining.{numbers}
use Rattle.audit.specs.Owners.{index_at, Among, owner, Owned}
use Rattle.audit.specs.Contents.{IsFree, HasTag, GoodEntry, GoodTag, HasId, Fits, FitsOwner, AllFit, Once}
use Rattle.audit.proofs.Walks.{walk_same, chain_walks, lies_among}
use Rattle.audit.proofs.Reading.{kind_of, tag_one}

-- The cells of each kind of chain.
free_lies : (f : ℕ → ℕ) (a n : ℕ) (ns : List ℕ) → Chain f a (map free_cell ns) → Lies n (map free_cell ns) → IsFree f n
free_lies f a n [] chain lies = absurd lies
free_lies f a n (m ∷ ms) (e, i, held, chain) lies =
    ⊎_elim (λ (here : m ≡ n). subst (λ (k : ℕ). IsFree f k) here held) (λ there. free_lies f (cell_at m) n ms chain there) lies

entry_lies : (f : ℕ → ℕ) (a n : ℕ) (xs : List (At Entry)) → Chain f a (map entry_cell xs) → GoodEntries xs → Lies n (map entry_cell xs) → GoodEntry f n
entry_lies f a n [] chain good lies = absurd lies
entry_lies f a n (x ∷ xs) (e, i, held, chain) (fits, account, good) lies =
    ⊎_elim
    (λ (here : x.number ≡ n).
    subst (λ (k : ℕ). GoodEntry f k) here (record { item = x.item; lies = record { stands = held; fits = fits }; account = account }))
    (λ there. entry_lies f (cell_at x.number) n xs chain good there)
    lies

tag_lies : (f : ℕ → ℕ) (k a n : ℕ) (xs : List (At Tag)) → Chain f a (map tag_cell xs) → GoodTags k xs → Lies n (map tag_cell xs) → GoodTag f n k
tag_lies f k a n [] chain good lies = absurd lies
tag_lies f k a n (x ∷ xs) (e, i, held, chain) (fits, account, bucket, none, good) lies =
    ⊎_elim
    (λ (here : x.number ≡ n).
    subst (λ (j : ℕ). GoodTag f j k) here (record { item = x.item; lies = record { stands = held; fits = fits }; account = account; bucket = bucket }))
    (λ there. tag_lies f k (cell_at x.number) n xs chain good there)
    lies

-- A tag that is none of these lies in none of their cells,
not_there : (f : ℕ → ℕ) (k a n : ℕ) (id : List ℕ) (xs : List (At Tag)) → Chain f a (map tag_cell xs) → GoodTags k xs → NoTag id xs → Lies n (map tag_cell xs) → HasId f n id → ⊥
not_there f k a n id [] chain good none lies has = absurd lies
not_there f k a n id (x ∷ xs) (e, i, held, chain) (fits, account, bucket, later, good) (other, none) lies has =
    ⊎_elim
    (λ (here : x.number ≡ n).
    let lie : HasTag f x.number x.item = record { stands = held; fits = fits } in
    let one : x.item ≡ has.item = tag_one f n x.item has.item (subst (λ (j : ℕ). HasTag f j x.item) here lie) has.lies in
    other (ap (λ (t : Tag). t.id) one ∙ has.is))
    (λ there. not_there f k (cell_at x.number) n id xs chain good none there has)
    lies

-- so two cells of a bucket have different tags.
differ : (f : ℕ → ℕ) (k a n m : ℕ) (t : Tag) (xs : List (At Tag)) → Chain f a (map tag_cell xs) → GoodTags k xs → n ≢ m → Lies n (map tag_cell xs) → Lies m (map tag_cell xs) → HasTag f n t → HasId f m t.id → ⊥
differ f k a n m t [] chain good other ln lm hn hm = absurd ln
differ f k a n m t (x ∷ xs) (e, i, held, chain) (fits, account, bucket, later, good) other ln lm hn hm =
    let lie : HasTag f x.number x.item = record { stands = held; fits = fits } in
    ⊎_elim
    (λ (here : x.number ≡ n).
    let one : x.item ≡ t = tag_one f n x.item t (subst (λ (j : ℕ). HasTag f j x.item) here lie) hn in
    let none : NoTag t.id xs = subst (λ (s : Tag). NoTag s.id xs) one later in
    ⊎_elim
    (λ (too : x.number ≡ m). other (sym here ∙ too))
    (λ there. not_there f k (cell_at x.number) m t.id xs chain good none there hm)
    lm)
    (λ after.
    ⊎_elim
    (λ (here : x.number ≡ m).
    let one : x.item ≡ hm.item = tag_one f m x.item hm.item (subst (λ (j : ℕ). HasTag f j x.item) here lie) hm.lies in
    let same : x.item.id ≡ t.id = ap (λ (s : Tag). s.id) one ∙ hm.is in
    not_there f k (cell_at x.number) n x.item.id xs chain good later after (record { item = t; lies = hn; is = sym same }))
    (λ there. differ f k (cell_at x.number) n m t xs chain good other after there hn hm)
    lm)
    ln

-- A cell of a book fits its chain,
pub fits_chain : (f : ℕ → ℕ) (b : Book) (n c : ℕ) → Chains f b → Records b → c < 81 → Lies n (cells_of b c) → Fits f n c
fits_chain f b n c chains records below lies =
    let chain = chains.chain c below in
    elim (chain_cases c below) [
      | inl e ↦
          inl (
            e,
            free_lies f (head_at c) n b.free
                (subst (λ (d : ℕ). Chain f (head_at c) (cells_of b d)) e chain)
                (subst (λ (d : ℕ). Lies n (cells_of b d)) e lies),
          )
      | inr (inl a) ↦
          let same = cells_account b c a in
          inr
          (inl
          (a, entry_lies f (head_at c) n (b.entries c) (subst (Chain f (head_at c)) same chain) (records.entries c a) (subst (Lies n) same lies)))
      | inr (inr k) ↦
          let same = cells_bucket b c k in
          let i : c - 65 < 16 = omega (arith, k.1) in
          inr
          (inr
          (k.0, tag_lies f (c - 65) (head_at c) n (b.tags (c - 65)) (subst (Chain f (head_at c)) same chain) (records.tags (c - 65) i) (subst (Lies n) same lies)))
    ]

-- and has that chain for its owner.
owned_by : (f : ℕ → ℕ) (owners : List (Option ℕ)) (b : Book) (n c : ℕ) → Owned f owners 81 → Chains f b → c < 81 → Lies n (cells_of b c) → owner owners n ≡ Some c
owned_by f owners b n c owned chains below lies =
    let l = owned.listed c below in
    let same : numbers (cells_of b c) ≡ l.cells =
    walk_same f (index_at f (head_at c)) (numbers (cells_of b c)) l.cells (chain_walks f (head_at c) (cells_of b c) (chains.chain c below)) l.walk in
    l.here n (subst (λ (ns : List ℕ). Among n ns) same (lies_among n (cells_of b c) lies))

pub book_fits : (f : ℕ → ℕ) (owners : List (Option ℕ)) (b : Book) → Owned f owners 81 → Chains f b → Records b → AllFit f owners
book_fits f owners b owned chains records n i =
    let s = chains.some n i in
    subst (λ (o : Option ℕ). FitsOwner f n o) (sym (owned_by f owners b n s.0 owned chains s.1 s.2)) (fits_chain f b n s.0 chains records s.1 s.2)

-- A tag lies on the chain of its bucket,
record InBucket (f : ℕ → ℕ) (b : Book) (n : ℕ) (t : Tag) (c : ℕ) : Type 0 where
  bucket : IsBucket c
  own : bucket_of t.id ≡ c - 65

in_bucket : (f : ℕ → ℕ) (b : Book) (n c : ℕ) (t : Tag) → c < 81 → Fits f n c → HasTag f n t → InBucket f b n t c
in_bucket f b n c t below fits has =
    let kind = kind_of f n tag_kind (tag_content t) has.stands in
    elim fits [
      | inl x ↦ absurd (let k = kind_of f n 0 blank_content x.1 in omega (arith, k, kind))
      | inr (inl x) ↦ absurd (let k = kind_of f n entry_kind (entry_content x.1.item) x.1.lies.stands in omega (arith, k, kind))
      | inr (inr x) ↦
          record {
            bucket = (x.0, below);
            own = subst (λ (s : Tag). bucket_of s.id ≡ c - 65) (tag_one f n x.1.item t x.1.lies has) x.1.bucket;
          }
    ]

-- and so in no two cells of a book.
pub book_once : (f : ℕ → ℕ) (b : Book) → Chains f b → Records b → Once f
book_once f b chains records n i = record {
  none = λ t has m less high hm.
      let j : InCells m = (omega (arith, i.0), high) in
      let s = chains.some n i in
      let r = chains.some m j in
      let x = in_bucket f b n s.0 t s.1 (fits_chain f b n s.0 chains records s.1 s.2) has in
      let y = in_bucket f b m r.0 hm.item r.1 (fits_chain f b m r.0 chains records r.1 r.2) hm.lies in
      let bucket : s.0 - 65 ≡ r.0 - 65 = sym x.own ∙ ap bucket_of (sym hm.is) ∙ y.own in
      let same : r.0 ≡ s.0 = omega (arith, x.bucket.0, y.bucket.0) in
      let cells = cells_bucket b s.0 x.bucket in
      let k : s.0 - 65 < 16 = omega (arith, x.bucket.1) in
      let other : n ≢ m = λ (e : n ≡ m). omega (arith, e) in
      differ f (s.0 - 65) (head_at s.0) n m t (b.tags (s.0 - 65))
      (subst (Chain f (head_at s.0)) cells (chains.chain s.0 s.1))
      (records.tags (s.0 - 65) k)
      other
      (subst (Lies n) cells s.2)
      (subst (Lies m) cells (subst (λ (d : ℕ). Lies m (cells_of b d)) same r.2))
      has hm;
}
