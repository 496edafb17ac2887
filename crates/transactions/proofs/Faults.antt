-- A refusal of a store is known by its number and its values.
use Rattle.std.proofs.Common.{◌≡◌, ℕ, Bool, cond, eqb, List, [], ◌∷◌, sym, refl, ap, ◌∙◌}
use Rattle.device.specs.declared.fault.DeviceFault.TheVariants.{Power, Misaddressed, Unfit, Spoiled}
use Rattle.transactions.specs.declared.fault.StoreFault.{StoreFault}
use Rattle.transactions.specs.declared.fault.StoreFault.TheVariants.{Device, Size, NoLog, NoMark, Uncovered, Busy, Stranger, Range, Runs, Undeclared, Serials, Full, SpoolFull}
use Rattle.transactions.specs.Fault.{number, values}

-- The refusal with this number and one value, or this number and these values.
abbrev with_one : ℕ → ℕ → StoreFault
with_one n x =
    cond (eqb n 1) (Device (Power x)) (cond (eqb n 5) (Size x) (cond (eqb n 7) (NoMark x) (cond (eqb n 8) (Uncovered x) (cond (eqb n 9) (Busy x) (cond (eqb n 10) (Stranger x)
    (cond (eqb n 11) (Range x) (cond (eqb n 12) (Runs x) (cond (eqb n 13) (Undeclared x) (cond (eqb n 14) (Serials x) (cond (eqb n 15) (Full x) (SpoolFull x)))))))))))

abbrev refusal_of : ℕ → List ℕ → StoreFault
refusal_of n [] = cond (eqb n 3) (Device Unfit) NoLog
refusal_of n (x ∷ []) = with_one n x
refusal_of n (x ∷ y ∷ more) = cond (eqb n 2) (Device (Misaddressed x y)) (Device (Spoiled x y))

known : (f : StoreFault) → refusal_of (number f) (values f) ≡ f
known (Device (Power o)) = refl
known (Device (Misaddressed s o)) = refl
known (Device Unfit) = refl
known (Device (Spoiled s o)) = refl
known (Size count) = refl
known NoLog = refl
known (NoMark low) = refl
known (Uncovered page) = refl
known (Busy ordinal) = refl
known (Stranger shown) = refl
known (Range start) = refl
known (Runs start) = refl
known (Undeclared byte) = refl
known (Serials last) = refl
known (Full excess) = refl
known (SpoolFull excess) = refl

pub same_refusal : (f g : StoreFault) → (number f ≡ number g) × (values f ≡ values g) → f ≡ g
same_refusal f g (n, v) =
    sym (known f) ∙ ap (λ (k : ℕ). refusal_of k (values f)) n ∙ ap (λ (xs : List ℕ). refusal_of (number g) xs) v ∙ known g
