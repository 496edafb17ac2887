-- What is said of pages, and the pages that a test chooses.
use Rattle.std.proofs.Common.{◌≡◌, ℕ, zero, suc, ◌+◌, ◌-◌, ◌<◌, ◌≤◌, Bool, true, false, cond, List, [], ◌∷◌, length, sym, refl, ap, ◌∙◌, subst, inl, inr, ⊎_elim, arith}
use Rattle.std.proofs.lemmas.Bool.{cases_eq}
use Rattle.device.specs.Disk.{Among}
use Rattle.transactions.specs.Truncation.{chosen}

-- What is chosen of the pages from i up to n begins with i, where i passes.
abbrev pub onward : (ℕ → Bool) → ℕ → ℕ → List ℕ
onward test i n = chosen test i (n - i)

pub chosen_more : (test : ℕ → Bool) (i n : ℕ) → i < n → onward test i n ≡ cond (test i) (i ∷ onward test (i + 1) n) (onward test (i + 1) n)
unfolding chosen
chosen_more test i n h = let e : n - i ≡ suc (n - (i + 1)) = omega arith in rw e refl

pub chosen_one : (test : ℕ → Bool) (i n : ℕ) → i < n → test i ≡ true → onward test i n ≡ i ∷ onward test (i + 1) n
chosen_one test i n h t = chosen_more test i n h ∙ ap (λ (b : Bool). cond b (i ∷ onward test (i + 1) n) (onward test (i + 1) n)) t

pub chosen_pass : (test : ℕ → Bool) (i n : ℕ) → i < n → test i ≡ false → onward test i n ≡ onward test (i + 1) n
chosen_pass test i n h t = chosen_more test i n h ∙ ap (λ (b : Bool). cond b (i ∷ onward test (i + 1) n) (onward test (i + 1) n)) t

pub chosen_end : (test : ℕ → Bool) (i n : ℕ) → n ≤ i → onward test i n ≡ []
unfolding chosen
chosen_end test i n h = let e : n - i ≡ 0 = omega arith in rw e refl

-- tests that agree on the pages looked at choose the same
pub chosen_same : (test test' : ℕ → Bool) (i k : ℕ) → ((p : ℕ) → i ≤ p → p < i + k → test p ≡ test' p) → chosen test i k ≡ chosen test' i k
unfolding chosen
chosen_same test test' i zero same = refl
chosen_same test test' i (suc k) same =
    let e = same i (omega arith) (omega arith) in
    let rest = chosen_same test test' (i + 1) k (λ p a b. same p (omega arith) (omega arith)) in
    ap (λ (b : Bool). cond b (i ∷ chosen test (i + 1) k) (chosen test (i + 1) k)) e
    ∙ ap (λ (ps : List ℕ). cond (test' i) (i ∷ ps) ps) rest

-- pages up to t that don't pass are passed over
pub chosen_skip : (test : ℕ → Bool) (k i t n : ℕ) → i + k ≡ t → t ≤ n → ((p : ℕ) → i ≤ p → p < t → test p ≡ false) → onward test i n ≡ onward test t n
chosen_skip test zero i t n e h none = let same : i ≡ t = omega arith in ap (λ (j : ℕ). onward test j n) same
chosen_skip test (suc k) i t n e h none =
    chosen_pass test i n (omega arith) (none i (omega arith) (omega arith))
    ∙ chosen_skip test k (i + 1) t n (omega arith) h (λ p a b. none p (omega arith) b)

-- what is chosen was looked at, and passes
pub chosen_passes : (test : ℕ → Bool) (i k p : ℕ) → Among p (chosen test i k) → (p < i + k) × (test p ≡ true)
unfolding chosen
chosen_passes test i zero p h = absurd h
chosen_passes test i (suc k) p h = go (test i) refl (λ rest. let r = chosen_passes test (i + 1) k p rest in (omega (arith, r.0), r.1)) h
  where
    go : (c : Bool) → test i ≡ c → (Among p (chosen test (i + 1) k) → (p < i + suc k) × (test p ≡ true))
        → Among p (cond c (i ∷ chosen test (i + 1) k) (chosen test (i + 1) k)) → (p < i + suc k) × (test p ≡ true)
    go true e later (inl same) = (omega (arith, same), ap test same ∙ e)
    go true e later (inr rest) = later rest
    go false e later rest = later rest

pub chosen_few : (test : ℕ → Bool) (i k : ℕ) → length (chosen test i k) ≤ k
unfolding chosen
chosen_few test i zero = omega arith
chosen_few test i (suc k) = go (test i) (chosen_few test (i + 1) k)
  where
    go : (c : Bool) → length (chosen test (i + 1) k) ≤ k → length (cond c (i ∷ chosen test (i + 1) k) (chosen test (i + 1) k)) ≤ suc k
    go true h = omega arith
    go false h = omega arith

-- all that passes is chosen
pub chosen_has : (test : ℕ → Bool) (i k p : ℕ) → i ≤ p → p < i + k → test p ≡ true → Among p (chosen test i k)
unfolding chosen
chosen_has test i zero p a b t = absurd (omega arith)
chosen_has test i (suc k) p a b t =
    ⊎_elim
    (λ (e : p ≡ i).
    let here : test i ≡ true = ap test (sym e) ∙ t in
    subst (λ (c : Bool). Among p (cond c (i ∷ chosen test (i + 1) k) (chosen test (i + 1) k))) (sym here) (inl e))
    (λ ne. past (test i) (chosen_has test (i + 1) k p (omega arith) (omega arith) t))
    (cases_eq p i)
  where
    past : (c : Bool) → Among p (chosen test (i + 1) k) → Among p (cond c (i ∷ chosen test (i + 1) k) (chosen test (i + 1) k))
    past true h = inr h
    past false h = h
