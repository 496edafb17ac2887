-- The greatest serial that has a record, and the first gap, found by looking at one after another.
use Rattle.std.proofs.Common.{◌≡◌, ℕ, zero, suc, ◌+◌, ◌<◌, ◌≤◌, subst, ⊎_elim, arith}
use Rattle.std.proofs.lemmas.Bool.{cases_lt, cases_eq}

-- t is the greatest number with a kind, and not below c.
pub record Greatest (kind : ℕ → ℕ) (c t : ℕ) : Type 0 where
  pub from : c ≤ t
  pub here : 1 ≤ kind t
  pub greatest : (s : ℕ) → 1 ≤ kind s → s ≤ t

-- downward from a bound
pub greatest_found : (kind : ℕ → ℕ) (c k : ℕ) → 1 ≤ kind c → ((s : ℕ) → 1 ≤ kind s → s ≤ c + k) → (t : ℕ) × Greatest kind c t
greatest_found kind c zero here bound = (c, record { from = omega arith; here = here; greatest = λ s h. omega (arith, bound s h) })
greatest_found kind c (suc k) here bound =
    ⊎_elim
    (λ (h : 0 < kind (c + suc k)). (c + suc k, record { from = omega arith; here = h; greatest = bound }))
    (λ (none : kind (c + suc k) ≤ 0).
    greatest_found kind c k here
    (λ s h.
    ⊎_elim
    (λ (e : s ≡ c + suc k). absurd (omega (arith, none, subst (λ (x : ℕ). 1 ≤ kind x) e h)))
    (λ ne. omega (arith, bound s h))
    (cases_eq s (c + suc k))))
    (cases_lt 0 (kind (c + suc k)))

-- From c as far as `last` each number has a kind, and the next has none.
pub record Gap (kind : ℕ → ℕ) (c last : ℕ) : Type 0 where
  pub to : c ≤ last
  pub unbroken : (s : ℕ) → c ≤ s → s ≤ last → 1 ≤ kind s
  pub gap : kind (last + 1) ≡ 0

-- upward from c
pub gap_found : (kind : ℕ → ℕ) (c k : ℕ) → 1 ≤ kind c → kind (c + k + 1) ≡ 0 → (last : ℕ) × (last ≤ c + k) × Gap kind c last
gap_found kind c zero here gap = (
  c,
  omega arith,
  record {
    to = omega arith;
    unbroken = λ s a b. let e : c ≡ s = omega arith in subst (λ (x : ℕ). 1 ≤ kind x) e here;
    gap = let e : c + 0 + 1 ≡ c + 1 = omega arith in subst (λ (x : ℕ). kind x ≡ 0) e gap;
  },
)
gap_found kind c (suc k) here gap =
    ⊎_elim
    (λ (h : 0 < kind (c + 1)).
    let e : c + suc k + 1 ≡ c + 1 + k + 1 = omega arith in
    let more = gap_found kind (c + 1) k h (subst (λ (x : ℕ). kind x ≡ 0) e gap) in
    let g = more.2 in (
      more.0,
      omega (arith, more.1),
      record {
        to = omega (arith, g.to);
        unbroken = λ s a b.
            ⊎_elim
            (λ (e : c ≡ s). subst (λ (x : ℕ). 1 ≤ kind x) e here)
            (λ ne. g.unbroken s (omega arith) b)
            (cases_eq c s);
        gap = g.gap;
      },
    ))
    (λ (none : kind (c + 1) ≤ 0). (
      c,
      omega arith,
      record {
        to = omega arith;
        unbroken = λ s a b. let e : c ≡ s = omega arith in subst (λ (x : ℕ). 1 ≤ kind x) e here;
        gap = omega arith;
      },
    ))
    (cases_lt 0 (kind (c + 1)))
