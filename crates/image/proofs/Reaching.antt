-- Going on from a byte as far as runs declare.
use Rattle.std.proofs.Common.{◌≡◌, ℕ, ◌+◌, ◌<◌, ◌≤◌, cond, List, [], ◌∷◌, refl, ap, ◌∙◌, subst, inl, inr, ⊎_elim, arith}
use Rattle.std.proofs.lemmas.Bool.{cases_lt}
use Rattle.image.specs.declared.run.Run.{Run}
use Rattle.image.specs.Runs.{Declared, Apart}
use Rattle.image.specs.Calls.{Reached}
use Rattle.image.proofs.Facts.{in_run, within_run, below_run, above_run}

-- past the run, where it has the byte
abbrev pub past : Run → ℕ → ℕ
past r at = cond (in_run r at) r.to at

abbrev pub reach : ℕ → List Run → ℕ
reach at [] = at
reach at (r ∷ rs) = reach (past r at) rs

pub past_here : (r : Run) (at : ℕ) → r.from ≤ at → at < r.to → past r at ≡ r.to
past_here r at h k = let e = within_run r at h k in rw e

pub past_below : (r : Run) (at : ℕ) → at < r.from → past r at ≡ at
past_below r at h = let e = below_run r at h in rw e

pub past_above : (r : Run) (at : ℕ) → r.to ≤ at → past r at ≡ at
past_above r at h = let e = above_run r at h in rw e

-- the three ways in which a run lies to a byte
ways : (P : Type 0) (r : Run) (at : ℕ) → (at < r.from → P) → (r.from ≤ at → at < r.to → P) → (r.to ≤ at → P) → P
ways P r at below here above = ⊎_elim below (λ (h : r.from ≤ at). ⊎_elim (here h) above (cases_lt at r.to)) (cases_lt at r.from)

past_up : (r : Run) (at : ℕ) → at ≤ past r at
past_up r at =
    ways (at ≤ past r at) r at
    (λ h. omega (arith, past_below r at h))
    (λ h k. omega (arith, past_here r at h k))
    (λ h. omega (arith, past_above r at h))

reach_up : (at : ℕ) (rs : List Run) → at ≤ reach at rs
reach_up at [] = omega arith
reach_up at (r ∷ rs) = omega (arith, past_up r at, reach_up (past r at) rs)

reach_all : (at : ℕ) (rs : List Run) (i : ℕ) → at ≤ i → i < reach at rs → Declared rs i
reach_all at [] i h k = omega arith
reach_all at (r ∷ rs) i h k =
    ⊎_elim
    (λ (m : i < past r at).
    ways (Declared (r ∷ rs) i) r at
    (λ b. absurd (omega (arith, past_below r at b)))
    (λ f t. inl (omega arith, omega (arith, past_here r at f t)))
    (λ b. absurd (omega (arith, past_above r at b))))
    (λ (m : past r at ≤ i). inr (reach_all (past r at) rs i m k))
    (cases_lt i (past r at))

-- from below every run one does not get on
reach_low : (at floor : ℕ) (rs : List Run) → at < floor → Apart floor rs → reach at rs ≡ at
reach_low at floor [] h apart = refl
reach_low at floor (r ∷ rs) h (a, b, rest) =
    ap (λ x. reach x rs) (past_below r at (omega arith)) ∙ reach_low at (r.to + 1) rs (omega arith) rest

reach_here : (at floor : ℕ) (rs : List Run) → Apart floor rs → Declared rs (reach at rs) → ⊥
reach_here at floor [] apart h = h
reach_here at floor (r ∷ rs) (a, b, rest) (inr h) = reach_here (past r at) (r.to + 1) rs rest h
reach_here at floor (r ∷ rs) (a, b, rest) (inl (h, k)) =
    ways ⊥ r at
    (λ m. let e = past_below r at m in let l = reach_low (past r at) (r.to + 1) rs (omega arith) rest in omega arith)
    (λ m n. let e = past_here r at m n in let u = reach_up (past r at) rs in omega arith)
    (λ m. let e = past_above r at m in let u = reach_up (past r at) rs in omega arith)

pub reached_is : (start : ℕ) (rs : List Run) (b : ℕ) → Apart 0 rs → b ≡ reach start rs → Reached start rs b
reached_is start rs b apart e =
    record {
      from = omega (arith, reach_up start rs);
      before = λ i h k. reach_all start rs i h (omega arith);
      here = λ h. reach_here start 0 rs apart (subst (λ (x : ℕ). Declared rs x) e h);
    }
