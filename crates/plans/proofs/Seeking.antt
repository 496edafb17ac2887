-- A walk along a chain that looks for a record.
use Rattle.std.proofs.Common.{◌≡◌, ℕ, ◌+◌, ◌≤◌, Bool, true, false, List, [], ◌∷◌, length, None, Option, Bor, refl, sym, ap, ◌∙◌, subst, arith}
use Rattle.book.specs.Layout.{cell_at}
use Rattle.book.specs.Book.{At}
use Rattle.plans.specs.Walks.{cells_with, Leads, Placed, first_such}
use Rattle.plans.proofs.Following.{Ahead}
use Rattle.plans.proofs.Shortness.{chain_short}

-- The test that a closure answers, where it is given a record's content.
abbrev pub Answers : {X : Type 0} → (X → List ℕ) → (X → Type 0) → (Bor (List ℕ) → Bool → Type 0) → (X → Bool) → Type 0
Answers content fits post test = (x : Bor (List ℕ)) (r : Bool) → post x r → (item : _) → fits item → content item ≡ x.now → r ≡ test item

module _ {X : Type 0} (kind : ℕ) (content : X → List ℕ) (fits : X → Type 0) (f : ℕ → ℕ) (test : X → Bool) (head : ℕ) where
  -- The walk has passed i of these records, and goes on at this link with the rest.
  abbrev pub GoesOn : ℕ → ℕ → List (At X) → Type 0
  GoesOn link i xs =
      (ys : List (At X)) × Leads kind content fits f link ys × (first_such test head xs ≡ first_such test link ys) × (length xs ≡ i + length ys)

  pub begins : (xs : List (At X)) → Leads kind content fits f head xs → GoesOn head 0 xs
  begins xs h = (xs, h, refl, omega arith)

  -- It stands before the record in cell n, whose content stands in these bytes.
  pub record Before (link n : ℕ) (bytes : List ℕ) : Type 0 where
    pub none : Leads kind content fits f link [] → ⊥
    pub some : (y : At X) (ys : List (At X)) → Leads kind content fits f link (y ∷ ys) → Ahead content fits bytes n y

  -- a record that fails the test is passed
  passed_by : (link i n : ℕ) (bytes : List ℕ) (xs ys : List (At X)) → Leads kind content fits f link ys → first_such test head xs ≡ first_such test link ys → length xs ≡ i + length ys
      → Before link n bytes → ((item : X) → fits item → content item ≡ bytes → test item ≡ false) → GoesOn (cell_at n) (i + 1) xs
  passed_by link i n bytes xs [] h e k w missed = absurd (w.none h)
  passed_by link i n bytes xs (y ∷ ys) h e k w missed =
      let a = w.some y ys h in
      let item : test y.item ≡ false = missed y.item a.fit a.stands in
      let rest : first_such test head xs ≡ first_such test (cell_at y.number) ys = rw item at e in
      subst (λ (j : ℕ). GoesOn (cell_at j) (i + 1) xs) (sym a.number) (ys, (h.0.3, h.1.1), rest, omega arith)

  pub goes_by : (link i n : ℕ) (bytes : List ℕ) (xs : List (At X)) → GoesOn link i xs → Before link n bytes
      → ((item : X) → fits item → content item ≡ bytes → test item ≡ false) → GoesOn (cell_at n) (i + 1) xs
  goes_by link i n bytes xs (ys, h, e, k) w missed = passed_by link i n bytes xs ys h e k w missed

  -- one that passes is what is looked for
  stops_at : (link n : ℕ) (bytes : List ℕ) (ys : List (At X)) (p : Option (Placed X)) → Leads kind content fits f link ys → Before link n bytes
      → ((item : X) → fits item → content item ≡ bytes → test item ≡ true) → p ≡ first_such (λ _. true) link ys → p ≡ first_such test link ys
  stops_at link n bytes [] p h w hit is = absurd (w.none h)
  stops_at link n bytes (y ∷ ys) p h w hit is =
      let a = w.some y ys h in
      let item : test y.item ≡ true = hit y.item a.fit a.stands in
      rw item is

  pub stops : (link i n : ℕ) (bytes : List ℕ) (xs : List (At X)) (p : Option (Placed X)) → GoesOn link i xs → Before link n bytes
      → ((item : X) → fits item → content item ≡ bytes → test item ≡ true)
      → ((ys : List (At X)) → Leads kind content fits f link ys → p ≡ first_such (λ _. true) link ys) → p ≡ first_such test head xs
  stops link i n bytes xs p (ys, h, e, k) w hit is = stops_at link n bytes ys p h w hit (is ys h) ∙ sym e

  -- where the chain ends there is none
  ends_at : (link : ℕ) (ys : List (At X)) → None ≡ first_such (λ _. true) link ys → None ≡ first_such test link ys
  ends_at link [] is = refl
  ends_at link (y ∷ ys) is = cc

  pub ends : (link i : ℕ) (xs : List (At X)) → GoesOn link i xs → ((ys : List (At X)) → Leads kind content fits f link ys → None ≡ first_such (λ _. true) link ys)
      → None ≡ first_such test head xs
  ends link i xs (ys, h, e, n) is = ends_at link ys (is ys h) ∙ sym e

  -- and it has ended after as many cells as there are
  length_cells : (xs : List (At X)) → length (cells_with kind content xs) ≡ length xs
  length_cells [] = refl
  length_cells (x ∷ xs) = omega (arith, length_cells xs)

  pub runs_out : (link i : ℕ) (xs : List (At X)) → Leads kind content fits f head xs → GoesOn link i xs → 200 ≤ i → None ≡ first_such test head xs
  runs_out link i xs k (ys, h, e, n) past =
      let few = chain_short f head (cells_with kind content xs) k.0 in
      let long = length_cells xs in
      none_left ys (omega arith) ∙ sym e
    where
      none_left : (zs : List (At X)) → length zs ≡ 0 → None ≡ first_such test link zs
      none_left [] z = refl
      none_left (y ∷ zs) z = absurd (omega arith)
