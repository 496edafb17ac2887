-- Sets of pages, one bit for each.
use Rattle.std.proofs.Common.{◌≡◌, ℕ, zero, suc, ◌+◌, ◌-◌, ◌*◌, ◌/◌, ◌%◌, ◌^◌, ◌<◌, ◌≤◌, min, Bool, true, false, cond, not, eqb, List, [], ◌∷◌, length, sym, refl, ap, ◌∙◌, subst, inl, ⊎_elim, add-one, arith}
use Rattle.std.proofs.Math.Nat.{div-div-eq-div-mul, pow-suc, div-one}
use Rattle.std.proofs.Math.Pow.{shr_lt}
use Rattle.std.specs.Int.{w64, bit_at, bit_not, trailing_zeros}
use Rattle.std.specs.Int.Bits.{bit_and}
use Rattle.std.specs.Int.Count.{ones, ones_in, ones_step}
use Rattle.std.proofs.lemmas.Bool.{cases_eq, cases_lt, eq-eqb, ne_eqb}
use Rattle.std.proofs.lemmas.Nat.Bits.{bit_at-zero, bit_at-lt, bit_at_and, bit_at_not, bit_at_clear_same, bit_at_clear_other, bit_at-trailing_zeros}
use Rattle.device.specs.Disk.{Among}
use Rattle.journal.specs.declared.pages.PageTable.{PageTable}
use Rattle.transactions.specs.Pages.{members, due_of}
use Rattle.transactions.specs.Truncation.{chosen}
use Rattle.transactions.proofs.Flagging.{chosen_one, chosen_same, chosen_skip, chosen_end, chosen_passes, chosen_few}

-- Page p is in the set.
abbrev pub has : ℕ → ℕ → Bool
has bits p = eqb (bit_at bits p) 1

has_one : (bits p : ℕ) → bit_at bits p ≡ 1 → has bits p ≡ true
has_one bits p h = eq-eqb (bit_at bits p) 1 h

has_none : (bits p : ℕ) → bit_at bits p ≡ 0 → has bits p ≡ false
has_none bits p h = ne_eqb (bit_at bits p) 1 (λ e. omega arith)

-- an empty set has no pages
pub members_none : members 0 ≡ []
members_none = chosen_skip (has 0) 64 0 64 64 refl (omega arith) (λ p a b. has_none 0 p (bit_at-zero p)) ∙ chosen_end (has 0) 64 64 (omega arith)

-- the set without this page
abbrev pub without : ℕ → ℕ → ℕ
without bits t = bit_and bits (bit_not w64 (1 * 2 ^ t % 2 ^ 64))

-- the lowest page, and the others
pub members_first : (bits : ℕ) → 0 < bits → bits < 2 ^ 64 → members bits ≡ trailing_zeros w64 bits ∷ members (without bits (trailing_zeros w64 bits))
members_first bits some bound =
    let z = bit_at-trailing_zeros w64 bits some bound in
    let t = trailing_zeros w64 bits in
    let rest = without bits t in
    let small : t < 64 = z.0 in
    let gone : (p : ℕ) → p < t + 1 → has rest p ≡ false =
    λ p h.
    ⊎_elim
    (λ (e : p ≡ t). has_none rest p (ap (bit_at rest) e ∙ bit_at_clear_same w64 bits t small))
    (λ ne. has_none rest p (bit_at_clear_other w64 bits t small p (omega arith) ne ∙ z.2 p (omega arith)))
    (cases_eq p t) in
    let others : (p : ℕ) → t + 1 ≤ p → p < t + 1 + (64 - (t + 1)) → has bits p ≡ has rest p =
    λ p a b. ap (λ (x : ℕ). eqb x 1) (sym (bit_at_clear_other w64 bits t small p (omega arith) (λ e. omega arith))) in
    chosen_skip (has bits) t 0 t 64 (omega arith) (omega arith) (λ p a b. has_none bits p (z.2 p b))
    ∙ chosen_one (has bits) t 64 small (has_one bits t z.1)
    ∙ ap (λ (ps : List ℕ). t ∷ ps)
    (chosen_same (has bits) (has rest) (t + 1) (64 - (t + 1)) others
    ∙ sym (chosen_skip (has rest) (t + 1) 0 (t + 1) 64 (omega arith) (omega arith) (λ p a b. gone p b)))

-- the pages of a set without others
two_bits : (a b : ℕ) → a < 2 → b < 2 → eqb (min a (1 - b)) 1 ≡ cond (eqb a 1) (not (eqb b 1)) false
two_bits zero b h k = ne_eqb (min 0 (1 - b)) 1 (λ e. omega arith)
two_bits (suc zero) zero h k = refl
two_bits (suc zero) (suc zero) h k = refl
two_bits (suc zero) (suc (suc b)) h k = absurd (omega arith)
two_bits (suc (suc a)) b h k = absurd (omega arith)

pub due_members : (table : PageTable) → table.covered < 2 ^ 64 → members (bit_and table.named (bit_not w64 table.covered)) ≡ due_of table
due_members table bound =
    let n = table.named in
    let c = table.covered in
    chosen_same (has (bit_and n (bit_not w64 c))) (λ p. cond (has n p) (not (has c p)) false) 0 64
    (λ p a b.
    ap (λ (x : ℕ). eqb x 1) (bit_at_and n (bit_not w64 c) p ∙ ap (λ (x : ℕ). min (bit_at n p) x) (bit_at_not w64 c p bound (omega arith)))
    ∙ two_bits (bit_at n p) (bit_at c p) (bit_at-lt n p) (bit_at-lt c p))

-- how many pages there are

shifted : (bits i : ℕ) → bits / 2 ^ i / 2 ≡ bits / 2 ^ (i + 1)
shifted bits i =
    div-div-eq-div-mul bits (2 ^ i) 2
    ∙ ap (λ (x : ℕ). bits / x) (sym (pow-suc 2 i))
    ∙ ap (λ (x : ℕ). bits / 2 ^ x) (sym (add-one i))

one_digit : (d i : ℕ) (rest : List ℕ) → d < 2 → length (cond (eqb d 1) (i ∷ rest) rest) ≡ d + length rest
one_digit zero i rest h = omega arith
one_digit (suc zero) i rest h = omega arith
one_digit (suc (suc d)) i rest h = absurd (omega arith)

none_counted : (n : ℕ) → n < 1 → 0 ≡ ones n
unfolding ones ones_in
none_counted zero h = refl
none_counted (suc n) h = absurd (omega arith)

count_from : (bits k i : ℕ) → bits / 2 ^ i < 2 ^ k → length (chosen (has bits) i k) ≡ ones (bits / 2 ^ i)
unfolding chosen
count_from bits zero i h = none_counted (bits / 2 ^ i) h
count_from bits (suc k) i h =
    let n = bits / 2 ^ i in
    let fewer : n < 2 ^ (k + 1) = subst (λ (x : ℕ). n < 2 ^ x) (sym (add-one k)) h in
    let less : bits / 2 ^ (i + 1) < 2 ^ k = subst (λ (x : ℕ). x < 2 ^ k) (shifted bits i) (shr_lt {n = n} k 1 fewer) in
    one_digit (bit_at bits i) i (chosen (has bits) (i + 1) k) (bit_at-lt bits i)
    ∙ ap (λ (x : ℕ). n % 2 + x) (count_from bits k (i + 1) less ∙ ap ones (sym (shifted bits i)))
    ∙ sym (ones_step n)

pub members_count : (bits : ℕ) → bits < 2 ^ 64 → length (members bits) ≡ ones bits
members_count bits h = count_from bits 64 0 (subst (λ (x : ℕ). x < 2 ^ 64) (sym (div-one bits)) h) ∙ ap ones (div-one bits)

-- a set is empty just where its number is 0
pub members_some : (bits : ℕ) → bits < 2 ^ 64 → eqb bits 0 ≡ eqb (length (members bits)) 0
members_some bits h =
    ⊎_elim
    (λ (some : 0 < bits). ne_eqb bits 0 (λ e. omega arith) ∙ sym (ne_eqb (length (members bits)) 0 (λ e. omega (arith, ap length (members_first bits some h)))))
    (λ none.
    let z : bits ≡ 0 = omega arith in
    eq-eqb bits 0 z ∙ sym (eq-eqb (length (members bits)) 0 (ap (λ (n : ℕ). length (members n)) z ∙ ap length members_none)))
    (cases_lt 0 bits)

-- the pages of a set are pages
pub first_small : (bits p : ℕ) (ps : List ℕ) → members bits ≡ p ∷ ps → p < 64
first_small bits p ps e = (chosen_passes (has bits) 0 64 p (subst (λ (qs : List ℕ). Among p qs) (sym e) (inl refl))).0

pub members_few : (bits : ℕ) → length (members bits) ≤ 64
members_few bits = chosen_few (has bits) 0 64
