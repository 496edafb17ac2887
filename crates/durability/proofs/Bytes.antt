-- On what a byte of the replayed memory depends.
use Rattle.std.proofs.Common.{◌≡◌, ℕ, zero, suc, ◌+◌, ◌<◌, ◌≤◌, length, sym, ap, ◌∙◌, subst, ⊎_elim, arith}
use Rattle.std.proofs.lemmas.Bool.{cases_eq}
use Rattle.record.specs.Entry.{Entry}
use Rattle.journal.specs.Memory.{place_of, applied, replayed}
use Rattle.journal.proofs.Overlay.{overlaid_within}

-- on the records of the range, and on what it was before
pub replayed_same : (log log' : ℕ → Entry) (low k : ℕ) (base base' : ℕ → ℕ) (i : ℕ) → ((s : ℕ) → low ≤ s → s < low + k → log' s ≡ log s) → base' i ≡ base i → replayed log' low k base' i ≡ replayed log low k base i
unfolding replayed
replayed_same log log' low zero base base' i same e = e
replayed_same log log' low (suc k) base base' i same e =
    ap (λ (x : Entry). applied x i (replayed log' low k base' i)) (same (low + k) (omega arith) (omega arith))
    ∙ ap (λ (v : ℕ). applied (log (low + k)) i v) (replayed_same log log' low k base base' i (λ s a b. same s a (omega arith)) e)

-- The record's bytes lie over byte i.
pub record Over (e : Entry) (i : ℕ) : Type 0 where
  pub from : place_of e ≤ i
  pub to : i < place_of e + length e.bytes

over_any : (e : Entry) (i v w : ℕ) → Over e i → applied e i v ≡ applied e i w
over_any e i v w h =
    overlaid_within (place_of e) e.bytes i v h.from h.to ∙ sym (overlaid_within (place_of e) e.bytes i w h.from h.to)

-- where a record of the range lies over it, not on what it was before
pub replayed_over : (log : ℕ → Entry) (low k : ℕ) (base base' : ℕ → ℕ) (i s : ℕ) → low ≤ s → s < low + k → Over (log s) i → replayed log low k base' i ≡ replayed log low k base i
unfolding replayed
replayed_over log low zero base base' i s a b h = absurd (omega arith)
replayed_over log low (suc k) base base' i s a b h =
    ⊎_elim
    (λ (e : s ≡ low + k). over_any (log (low + k)) i (replayed log low k base' i) (replayed log low k base i) (subst (λ (x : ℕ). Over (log x) i) e h))
    (λ ne. ap (λ (v : ℕ). applied (log (low + k)) i v) (replayed_over log low k base base' i s a (omega arith) h))
    (cases_eq s (low + k))
