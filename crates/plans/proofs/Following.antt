-- What a walk along a chain finds, for any kind of record.
use Rattle.std.proofs.Common.{◌≡◌, ℕ, ◌+◌, ◌<◌, ◌≤◌, ◌⊎◌, true, List, [], ◌∷◌, length, take, drop, Some, None, refl, sym, ap, ◌∙◌, subst, ⊎_elim, arith}
use Rattle.record.specs.Fields.{field}
use Rattle.book.specs.Layout.{byte_in, Stands, cell_at, first_of}
use Rattle.book.specs.Book.{At}
use Rattle.plans.specs.Walks.{cells_with, Leads, first_such}
use Rattle.plans.proofs.Standing.{stands_rest, stands_part, stands_index}

content_read : (m : List ℕ) (n kind : ℕ) (content : List ℕ) → Stands (byte_in m) (cell_at n + 2) (kind ∷ 0 ∷ content) → length content ≡ 20 → n ≤ 200 → length m ≡ 6144
    → take 20 (drop (cell_at n + 4) m) ≡ content
content_read m n kind content h long small whole =
    let f = byte_in m in
    let at : cell_at n + 2 + 1 + 1 ≡ cell_at n + 4 = omega arith in
    let s = stands_rest f (cell_at n + 2 + 1) 0 content (stands_rest f (cell_at n + 2) kind (0 ∷ content) h) in
    let t : Stands f (cell_at n + 4) content = subst (λ (a : ℕ). Stands f a content) at s in
    ap (λ (k : ℕ). take k (drop (cell_at n + 4) m)) (sym long) ∙ stands_part m content (cell_at n + 4) t (omega arith)

-- A walk comes to this record: the index leads to its cell, where its content stands in these bytes.
pub record Ahead {X : Type 0} (content : X → List ℕ) (fits : X → Type 0) (bytes : List ℕ) (n : ℕ) (x : At X) : Type 0 where
  pub number : n ≡ x.number
  pub fit : fits x.item
  pub stands : content x.item ≡ bytes

module _ {X : Type 0} (kind : ℕ) (content : X → List ℕ) (fits : X → Type 0) where
  pub same_first : (xs : List (At X)) → first_of (cells_with kind content xs) ≡ first_of (cells_with 0 (λ _. []) xs)
  same_first [] = refl
  same_first (x ∷ xs) = refl

  module _ (long : (x : X) → fits x → length (content x) ≡ 20) (m : List ℕ) (whole : length m ≡ 6144) where
    -- an index that leads to no cell leads to no record
    pub leads_nowhere : (link n : ℕ) (xs : List (At X)) → Leads kind content fits (byte_in m) link xs → link + 2 ≤ 6144 → n ≡ field link 2 m → (n < 1) ⊎ (200 < n)
        → None ≡ first_such (λ _. true) link xs
    leads_nowhere link n [] h k e out = refl
    leads_nowhere link n (x ∷ xs) h k e out =
        let is : n ≡ x.number = e ∙ stands_index m link (cells_with kind content (x ∷ xs)) h.0 (omega arith) in
        absurd (⊎_elim (λ (l : n < 1). omega (arith, h.0.1.0)) (λ (l : 200 < n). omega (arith, h.0.1.1)) out)

    -- the bytes of the first record stand in its cell
    first_content : (link n : ℕ) (x : At X) (xs : List (At X)) → Leads kind content fits (byte_in m) link (x ∷ xs) → n ≡ x.number → content x.item ≡ take 20 (drop (cell_at n + 4) m)
    first_content link n x xs h e =
        sym (content_read m x.number kind (content x.item) h.0.2 (long x.item h.1.0) h.0.1.1 whole) ∙ ap (λ (i : ℕ). take 20 (drop (cell_at i + 4) m)) (sym e)

    pub leads_none : (link n : ℕ) → Leads kind content fits (byte_in m) link [] → link + 2 ≤ 6144 → n ≡ field link 2 m → n ≡ 0
    leads_none link n h k e = e ∙ stands_index m link [] h.0 (omega arith)

    pub leads_to : (link n : ℕ) (x : At X) (xs : List (At X)) → Leads kind content fits (byte_in m) link (x ∷ xs) → link + 2 ≤ 6144 → n ≡ field link 2 m
        → Ahead content fits (take 20 (drop (cell_at n + 4) m)) n x
    leads_to link n x xs h k e =
        let is : n ≡ x.number = e ∙ stands_index m link (cells_with kind content (x ∷ xs)) h.0 (omega arith) in
        record { number = is; fit = h.1.0; stands = first_content link n x xs h is }

    -- a cell that has no record is led to by none
    pub leads_not : (link n : ℕ) (xs : List (At X)) → Leads kind content fits (byte_in m) link xs → link + 2 ≤ 6144 → n ≡ field link 2 m
        → ((x : X) → fits x → content x ≡ take 20 (drop (cell_at n + 4) m) → ⊥) → None ≡ first_such (λ _. true) link xs
    leads_not link n [] h k e none = refl
    leads_not link n (x ∷ xs) h k e none =
        let is : n ≡ x.number = e ∙ stands_index m link (cells_with kind content (x ∷ xs)) h.0 (omega arith) in
        absurd (none x.item h.1.0 (first_content link n x xs h is))

    -- and where there is one, it is the first
    pub leads_first : (link n next : ℕ) (item : X) (xs : List (At X)) → Leads kind content fits (byte_in m) link xs → link + 2 ≤ 6144 → n ≡ field link 2 m → 1 ≤ n
        → next ≡ field (cell_at n) 2 m → ((x : X) → fits x → content x ≡ take 20 (drop (cell_at n + 4) m) → item ≡ x)
        → Some (record { place = record { link = link; number = n; next = next }; item = item }) ≡ first_such (λ _. true) link xs
    leads_first link n next item [] h k e some f read =
        absurd (omega (arith, e ∙ stands_index m link [] h.0 (omega arith)))
    leads_first link n next item (x ∷ xs) h k e some f read =
        let is : n ≡ x.number = e ∙ stands_index m link (cells_with kind content (x ∷ xs)) h.0 (omega arith) in
        let after : next ≡ first_of (cells_with 0 (λ _. []) xs) =
        f ∙ ap (λ (i : ℕ). field (cell_at i) 2 m) is ∙ stands_index m (cell_at x.number) (cells_with kind content xs) h.0.3 (omega (arith, h.0.1.1)) ∙ same_first xs in
        let same : item ≡ x.item = read x.item h.1.0 (first_content link n x xs h is) in
        rw (is, after, same) refl
