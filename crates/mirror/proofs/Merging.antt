-- What may stand in a mirror's sector, by what may stand on its sides.
use Rattle.std.proofs.Common.{◌≡◌, ℕ, true, ◌⊎◌, List, [], ◌∷◌, refl, inl, inr, ⊎_elim, arith}
use Rattle.device.specs.Disk.{Disk, Shown, spoiled, holds, Among, Stands}
use Rattle.device.specs.Meaning.{NothingNew, Quiet}
use Rattle.device.proofs.Membership.{among_left, among_right, among_split}
use Rattle.mirror.specs.Sides.{sides, either, merged, mirrored}

-- the mirror, where it is the same whether it is on and what it told last
abbrev pub both : Disk → Disk → Disk
both l r = mirrored (sides true 0 l r)

-- x is bytes that may stand left, or may stand right where left may be spoiled
abbrev pub Found : List Shown → List Shown → Shown → Type 0
Found ls rs x = ((bytes : List ℕ) × (x ≡ holds bytes) × Among x ls) ⊎ (Among spoiled ls × Among x rs)

-- bytes are not the mark of a spoiled sector
apart : (x : Shown) (bytes : List ℕ) → x ≡ holds bytes → x ≡ spoiled → ⊥
apart x bytes e s = let z : ◌≡◌ {A = ℕ} 0 1 = cc in omega arith

shown_bytes : (l r x : Shown) (bytes : List ℕ) → x ≡ holds bytes → x ≡ l → x ≡ either l r
shown_bytes spoiled r x bytes e s = absurd (apart x bytes e s)
shown_bytes (holds c) r x bytes e s = s

shown_right : (l r x : Shown) → spoiled ≡ l → x ≡ r → x ≡ either l r
shown_right spoiled r x s e = e
shown_right (holds c) r x s e = absurd (apart spoiled c s refl)

further : (l : Shown) (ls rs : List Shown) (x : Shown) → Found ls rs x → Found (l ∷ ls) rs x
further l ls rs x (inl (bytes, e, a)) = inl (bytes, e, inr a)
further l ls rs x (inr (s, a)) = inr (inr s, a)

found : (ls rs : List Shown) (x : Shown) → Among x (merged ls rs) → Found ls rs x
found [] rs x h = absurd h
found (spoiled ∷ ls) rs x h =
    ⊎_elim (λ a. inr (inl refl, a)) (λ t. further spoiled ls rs x (found ls rs x t)) (among_split x rs (merged ls rs) h)
found (holds bytes ∷ ls) rs x (inl e) = inl (bytes, e, inl e)
found (holds bytes ∷ ls) rs x (inr t) = further (holds bytes) ls rs x (found ls rs x t)

shown_found : (l r : Shown) (ls rs : List Shown) (x : Shown) → x ≡ either l r → Found (l ∷ ls) (r ∷ rs) x
shown_found spoiled r ls rs x e = inr (inl refl, inl e)
shown_found (holds bytes) r ls rs x e = inl (bytes, e, inl e)

pub stands_found : (l r : Disk) (i : ℕ) (x : Shown) → Stands (both l r) i x → Found (l.shows i ∷ l.others i) (r.shows i ∷ r.others i) x
stands_found l r i x (inl e) = shown_found (l.shows i) (r.shows i) (l.others i) (r.others i) x e
stands_found l r i x (inr h) = found (l.shows i ∷ l.others i) (r.shows i ∷ r.others i) x h

bytes_merged : (ls rs : List Shown) (x : Shown) (bytes : List ℕ) → x ≡ holds bytes → Among x ls → Among x (merged ls rs)
bytes_merged [] rs x bytes e h = absurd h
bytes_merged (spoiled ∷ ls) rs x bytes e (inl s) = absurd (apart x bytes e s)
bytes_merged (spoiled ∷ ls) rs x bytes e (inr h) = among_right x rs (merged ls rs) (bytes_merged ls rs x bytes e h)
bytes_merged (holds c ∷ ls) rs x bytes e (inl s) = inl s
bytes_merged (holds c ∷ ls) rs x bytes e (inr h) = inr (bytes_merged ls rs x bytes e h)

spoiled_merged : (ls rs : List Shown) (x : Shown) → Among spoiled ls → Among x rs → Among x (merged ls rs)
spoiled_merged [] rs x s h = absurd s
spoiled_merged (spoiled ∷ ls) rs x s h = among_left x rs (merged ls rs) h
spoiled_merged (holds c ∷ ls) rs x (inl e) h = absurd (apart spoiled c e refl)
spoiled_merged (holds c ∷ ls) rs x (inr s) h = inr (spoiled_merged ls rs x s h)

-- and back: what is found so may stand
pub found_stands : (l r : Disk) (i : ℕ) (x : Shown) → Found (l.shows i ∷ l.others i) (r.shows i ∷ r.others i) x → Stands (both l r) i x
found_stands l r i x (inl (bytes, e, a)) = inr (bytes_merged (l.shows i ∷ l.others i) (r.shows i ∷ r.others i) x bytes e a)
found_stands l r i x (inr (s, a)) = inr (spoiled_merged (l.shows i ∷ l.others i) (r.shows i ∷ r.others i) x s a)

-- nothing new on either side is nothing new in the mirror
pub nothing_new : (l r l' r' : Disk) (i : ℕ) → NothingNew l l' i → NothingNew r r' i → NothingNew (both l r) (both l' r') i
nothing_new l r l' r' i left right x h =
    elim (stands_found l' r' i x h) [
      | inl a ↦ found_stands l r i x (inl (a.0, a.1, left x a.2))
      | inr a ↦ found_stands l r i x (inr (left spoiled a.0, right x a.1))
    ]

-- two quiet sides are a quiet mirror
pub quiet_both : (l r : Disk) → Quiet l → Quiet r → Quiet (both l r)
quiet_both l r left right i x h =
    elim (stands_found l r i x h) [
      | inl a ↦ shown_bytes (l.shows i) (r.shows i) x a.0 a.1 (left i x a.2)
      | inr a ↦ shown_right (l.shows i) (r.shows i) x (left i spoiled a.0) (right i x a.1)
    ]
