-- One number changed among many, and the sum of the balances after that.
use Rattle.std.proofs.Common.{◌≡◌, ℕ, zero, suc, ◌+◌, ◌≤◌, ◌≢◌, eqb, cond, refl, sym, ap, ◌∙◌, ⊎_elim, arith}
use Rattle.std.proofs.lemmas.Bool.{cases_eq, eq-eqb, ne_eqb}
use Rattle.book.specs.Layout.{sum_to}
use Rattle.book.specs.Edits.{with_at}

pub with_same : {X : Type 0} → (a : ℕ) (x : X) (f : ℕ → X) → with_at a x f a ≡ x
with_same a x f = ap (λ t. cond t x (f a)) (eq-eqb a a refl)

pub with_other : {X : Type 0} → (a : ℕ) (x : X) (f : ℕ → X) (i : ℕ) → i ≢ a → with_at a x f i ≡ f i
with_other a x f i ne = ap (λ t. cond t x (f i)) (ne_eqb i a ne)

-- two numbers changed, in either order
pub with_swapped : {X : Type 0} → (a c : ℕ) (x y : X) (f : ℕ → X) (i : ℕ) → a ≢ c → with_at c y (with_at a x f) i ≡ with_at a x (with_at c y f) i
with_swapped a c x y f i ne =
    ⊎_elim
    (λ (e : i ≡ a).
    let p = with_other c y (with_at a x f) i (λ (k : i ≡ c). ne (sym e ∙ k)) in
    let q = ap (with_at a x f) e ∙ with_same a x f in
    let r = ap (with_at a x (with_at c y f)) e ∙ with_same a x (with_at c y f) in
    p ∙ q ∙ sym r)
    (λ (n : i ≢ a). ap (λ z. cond (eqb i c) y z) (with_other a x f i n) ∙ sym (with_other a x (with_at c y f) i n))
    (cases_eq i a)

pub sum_same : (n : ℕ) (f g : ℕ → ℕ) → ((i : ℕ) → 1 ≤ i → i ≤ n → f i ≡ g i) → sum_to n f ≡ sum_to n g
unfolding sum_to
sum_same zero f g h = refl
sum_same (suc n) f g h =
    let rest = sum_same n f g (λ i k l. h i k (omega arith)) in
    let last = h (suc n) (omega arith) (omega arith) in
    omega (arith, rest, last)

pub sum_changed : (n a x : ℕ) (f : ℕ → ℕ) → 1 ≤ a → a ≤ n → sum_to n (with_at a x f) + f a ≡ sum_to n f + x
unfolding sum_to
sum_changed zero a x f h k = absurd (omega arith)
sum_changed (suc n) a x f h k =
    ⊎_elim
    (λ (e : a ≡ suc n).
    let rest = sum_same n (with_at a x f) f (λ i l m. with_other a x f i (λ (c : i ≡ a). omega arith)) in
    let last = ap (with_at a x f) (sym e) ∙ with_same a x f in
    let this = ap f e in
    omega (arith, rest, last, this))
    (λ (ne : a ≢ suc n).
    let rest = sum_changed n a x f h (omega arith) in
    let last = with_other a x f (suc n) (λ (c : suc n ≡ a). ne (sym c)) in
    omega (arith, rest, last))
    (cases_eq a (suc n))

-- no balance is more than the sum
pub sum_least : (n a : ℕ) (f : ℕ → ℕ) → 1 ≤ a → a ≤ n → f a ≤ sum_to n f
unfolding sum_to
sum_least zero a f h k = absurd (omega arith)
sum_least (suc n) a f h k =
    ⊎_elim
    (λ (e : a ≡ suc n). let this = ap f e in omega (arith, this))
    (λ (ne : a ≢ suc n). let rest = sum_least n a f h (omega arith) in omega (arith, rest))
    (cases_eq a (suc n))
