-- The parts of a transaction may be appended to a log.
use Rattle.std.proofs.Common.{◌≡◌, ℕ, suc, ◌+◌, ◌/◌, ◌%◌, ◌≤◌, List, [], ◌∷◌, ◌++◌, length, take, drop, subst, add-zero, div-add-mod', arith}
use Rattle.std.proofs.lemmas.List.{length-take, length-drop}
use Rattle.record.specs.Good.{Fits}
use Rattle.durability.specs.Items.{Item, Appendable}
use Rattle.image.specs.declared.run.Piece.{Piece}
use Rattle.image.specs.Cut.{FitsPage, AllPieces}
use Rattle.transactions.specs.Parts.{kind_before, parts}

pub appendable_append : (last : ℕ) (xs ys : List Item) → Appendable last xs → Appendable (last + length xs) ys → Appendable last (xs ++ ys)
appendable_append last [] ys a b = subst (λ (s : ℕ). Appendable s ys) (add-zero last) b
appendable_append last (x ∷ xs) ys (kind, fits, ordinal, a) b =
    let e : last + suc (length xs) ≡ last + 1 + length xs = omega arith in
    (kind, fits, ordinal, appendable_append (last + 1) xs ys a (subst (λ (s : ℕ). Appendable s ys) e b))

pub kind_bounds : (ps : List Piece) → (1 ≤ kind_before ps) × (kind_before ps ≤ 2)
kind_bounds [] = (omega arith, omega arith)
kind_bounds (p ∷ ps) = (omega arith, omega arith)

-- a piece lies in the memory, so its part has all its bytes
pub long_part : (m : List ℕ) (p : Piece) → length m ≡ 6144 → FitsPage p → length (take p.size (drop p.start m)) ≡ p.size
long_part m p whole f =
    let e = div-add-mod' p.start 96 in
    simp (length-take, length-drop) (omega (arith, f.page, f.within, e, whole))

fits_part : (m : List ℕ) (p : Piece) (k : ℕ) → (1 ≤ k) × (k ≤ 2) → length m ≡ 6144 → FitsPage p
    → Fits k (p.start / 96) (p.start % 96) (length (take p.size (drop p.start m)))
fits_part m p k (a, b) whole f =
    let long = long_part m p whole f in
    record {
      known = (a, omega arith);
      piece = λ h. (f.page, omega (arith, long, f.some), omega (arith, long, f.within));
      whole = λ e. absurd (omega arith);
      mark = λ e. absurd (omega arith);
    }

pub appendable_parts : (last o : ℕ) (m : List ℕ) (ps : List Piece) → o ≤ last → length m ≡ 6144 → AllPieces ps → Appendable last (parts o m ps)
appendable_parts last o m [] h whole fit = tt
appendable_parts last o m (p ∷ ps) h whole (f, fit) =
    let k = kind_bounds ps in
    (omega arith, fits_part m p (kind_before ps) k whole f, h, appendable_parts (last + 1) o m ps (omega arith) whole fit)
