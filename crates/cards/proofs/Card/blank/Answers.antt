use Rattle.std.proofs.Common.{◌≡◌, ℕ, replicate}
use Rattle.std.proofs.lemmas.List.Elements.{same_from_all_zip}
use Rattle.cards.proofs.Card.blank.Goals as goal

pub returns-clause-bytes : goal.returns-clause-bytes
returns-clause-bytes c =
    c.in_ok-vec.ensures.items_if_clones_equal
    (λ y alike. same_from_all_zip (λ (a b : ℕ). b ≡ a) (replicate {A = ℕ} 128 0) y alike.whole (λ a b h. h))
