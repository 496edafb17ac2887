-- A ring of eight places, seen from its first: reading, writing and moving on.
use Rattle.std.proofs.Common.{◌≡◌, ℕ, ◌+◌, ◌-◌, ◌%◌, ◌<◌, ◌≤◌, ◌≢◌, List, [], ◌∷◌, ◌++◌, map, length, get_or, take, drop, set, sym, ap, ◌∙◌, subst, inl, inr, arith, length-append, length-drop, length-set, length-take}
use Rattle.std.proofs.lemmas.List.{get_or_append_left, get_or-append_right, get_or-take, get_or-drop, get_or-set_same, get_or-set_other, same_lists, take_more_set, drop_more, take-map, drop-map, map-append}
use Rattle.std.proofs.lemmas.Bool.{cases_lt, cases_eq}
use Rattle.cache.specs.Ring.{ring}

pub length_ring : {A : Type 0} (n : ℕ) (xs : List A) → length xs ≡ 8 → n < 8 → length (ring n xs) ≡ 8
length_ring n xs eight lt = simp (length-append, length-drop, length-take) (omega arith)

pub get_or_ring : {A : Type 0} (n j : ℕ) (xs : List A) (d : A) → length xs ≡ 8 → n < 8 → j < 8 → get_or (ring n xs) j d ≡ get_or xs ((n + j) % 8) d
get_or_ring n j xs d eight ln lj =
    elim (cases_lt (n + j) 8) [
      | inl h ↦
          let m : (n + j) % 8 ≡ n + j = omega arith in
          get_or_append_left (drop n xs) (take n xs) d j (simp length-drop (omega arith)) ∙ get_or-drop n xs j d ∙ ap (λ k. get_or xs k d) (sym m)
      | inr h ↦
          let m : (n + j) % 8 ≡ j - (8 - n) = omega arith in
          get_or-append_right (drop n xs) (take n xs) (8 - n) j d (simp length-drop (omega arith)) (omega arith)
          ∙ get_or-take n xs (j - (8 - n)) d (omega arith) ∙ ap (λ k. get_or xs k d) (sym m)
    ]

-- what is written at place j from the first stands there
pub set_ring : {A : Type 0} (n j : ℕ) (xs : List A) (x : A) → length xs ≡ 8 → n < 8 → j < 8 → ring n (set xs ((n + j) % 8) x) ≡ set (ring n xs) j x
set_ring n j xs x eight ln lj =
    let e : length (set xs ((n + j) % 8) x) ≡ 8 = simp length-set eight in
    same_lists _ _ (length_ring n (set xs ((n + j) % 8) x) e ln ∙ sym (simp length-set (length_ring n xs eight ln)))
    (λ k d h.
    let lk : k < 8 = omega (arith, length_ring n (set xs ((n + j) % 8) x) e ln) in
    get_or_ring n k (set xs ((n + j) % 8) x) d e ln lk ∙
    elim (cases_eq k j) [
      | inl same ↦ rw same (get_or-set_same xs ((n + j) % 8) x d (omega arith) ∙ sym (get_or-set_same (ring n xs) j x d (omega (arith, length_ring n xs eight ln))))
      | inr other ↦
          let ne : (n + k) % 8 ≢ (n + j) % 8 = λ q. other (omega arith) in
          get_or-set_other xs ((n + j) % 8) ((n + k) % 8) x d ne ∙ sym (get_or_ring n k xs d eight ln lk) ∙ sym (get_or-set_other (ring n xs) j k x d other)
    ])

-- one more at the end
pub ring_push : {A : Type 0} (n c : ℕ) (xs : List A) (x : A) → length xs ≡ 8 → n < 8 → c < 8
    → take (c + 1) (ring n (set xs ((n + c) % 8) x)) ≡ take c (ring n xs) ++ x ∷ []
ring_push n c xs x eight ln lc = ap (take (c + 1)) (set_ring n c xs x eight ln lc) ∙ take_more_set (ring n xs) c x (omega (arith, length_ring n xs eight ln))

pub length_taken : {A : Type 0} (n c : ℕ) (xs : List A) → length xs ≡ 8 → n < 8 → c ≤ 8 → length (take c (ring n xs)) ≡ c
length_taken n c xs eight ln lc = simp length-take (omega (arith, length_ring n xs eight ln))

-- the first of them, and those after it
pub ring_rest : {A : Type 0} (n c : ℕ) (xs : List A) → length xs ≡ 8 → n < 8 → c ≤ 8 → 0 < c
    → take (c - 1) (ring ((n + 1) % 8) xs) ≡ drop 1 (take c (ring n xs))
ring_rest n c xs eight ln lc pc =
    let l : (n + 1) % 8 < 8 = omega arith in
    let long : length (take (c - 1) (ring ((n + 1) % 8) xs)) ≡ c - 1 = length_taken ((n + 1) % 8) (c - 1) xs eight l (omega arith) in
    same_lists _ _ (long ∙ sym (simp length-drop (omega (arith, length_taken n c xs eight ln lc))))
    (λ k d h.
    let q : (((n + 1) % 8) + k) % 8 ≡ (n + (1 + k)) % 8 = omega arith in
    get_or-take (c - 1) (ring ((n + 1) % 8) xs) k d (omega arith)
    ∙ get_or_ring ((n + 1) % 8) k xs d eight l (omega arith)
    ∙ ap (λ i. get_or xs i d) q
    ∙ sym (get_or_ring n (1 + k) xs d eight ln (omega arith))
    ∙ sym (get_or-take c (ring n xs) (1 + k) d (omega arith))
    ∙ sym (get_or-drop 1 (take c (ring n xs)) k d))

-- what stands at place k, and those after it
pub ring_from : {A : Type 0} (n c k : ℕ) (xs : List A) (d : A) → length xs ≡ 8 → n < 8 → c ≤ 8 → k < c
    → drop k (take c (ring n xs)) ≡ get_or xs ((n + k) % 8) d ∷ drop (k + 1) (take c (ring n xs))
ring_from {A = A} n c k xs d eight ln lc lk =
    drop_more (take c (ring n xs)) k d (omega (arith, length_taken n c xs eight ln lc))
    ∙ ap (λ (x : A). x ∷ drop (k + 1) (take c (ring n xs))) (get_or-take c (ring n xs) k d lk ∙ get_or_ring n k xs d eight ln (omega arith))

-- what stands before place a, and those from there on
pub ring_at : {A : Type 0} (n c a : ℕ) (xs ls : List A) (d : A) → take c (ring n xs) ≡ ls → length xs ≡ 8 → n < 8 → c ≤ 8 → n < a → a ≤ n + c
    → drop (a - 1 - n) ls ≡ get_or xs ((a - 1) % 8) d ∷ drop (a - n) ls
ring_at {A = A} n c a xs ls d is eight ln lc after within =
    let k : (a - 1 - n) + 1 ≡ a - n = omega arith in
    let at : (n + (a - 1 - n)) % 8 ≡ (a - 1) % 8 = ap (λ i. i % 8) (omega arith) in
    subst (λ (zs : List A). drop (a - 1 - n) zs ≡ get_or xs ((a - 1) % 8) d ∷ drop (a - n) zs) is
    (ring_from n c (a - 1 - n) xs d eight ln lc (omega arith)
    ∙ ap (λ i. get_or xs i d ∷ drop ((a - 1 - n) + 1) (take c (ring n xs))) at ∙ ap (λ i. get_or xs ((a - 1) % 8) d ∷ drop i (take c (ring n xs))) k)

-- a change of each place is a change of each of those taken
pub ring_map : {A : Type 0} (f : A → A) (n c : ℕ) (xs : List A) → take c (ring n (map f xs)) ≡ map f (take c (ring n xs))
ring_map f n c xs = ap (take c) (simp (drop-map, take-map) (sym (map-append f (drop n xs) (take n xs)))) ∙ take-map f c (ring n xs)
