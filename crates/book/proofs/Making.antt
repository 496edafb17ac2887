-- Make turns a memory of zeros into the ledger of an empty book.
use Rattle.std.proofs.Common.{◌≡◌, ℕ, zero, suc, ◌+◌, ◌*◌, ◌<◌, ◌≤◌, ◌≢◌, ◌==◌, cond, [], ◌∷◌, length, get_or, map, replicate, refl, sym, ap, ◌∙◌, subst, inl, inr, ⊎_elim, arith, length-append}
use Rattle.std.proofs.lemmas.Bool.{cases_eq, cases_lt, eq-eqb, ne_eqb}
use Rattle.std.proofs.lemmas.List.{length-replicate, get_or-replicate}
use Rattle.record.specs.Fields.{digits}
use Rattle.book.specs.Layout.{Stands, balance_at, sum_to, head_at, cell_at, whole, Chain, Lies}
use Rattle.book.specs.Book.{Money, Chains, Zeros, Holds, free_cell, cells_of, numbers_from, new_book}
use Rattle.book.specs.Edits.{edit, after_edits, head_or_0, free_chain, make_edits}
use Rattle.book.proofs.Standing.{Kept, put, put_stands, edits_keep, stands_front, stands_back, whole_next, whole_held, whole_length, blank_length, digits_length}
use Rattle.book.proofs.Places.{Apart, head_within, heads_apart}
use Rattle.book.proofs.Keeping.{misses, stands_first}
use Rattle.book.proofs.Threads.{chain_cases, cells_account, cells_bucket}

-- the memory after it
made : ℕ → ℕ
made = after_edits make_edits (λ i. 0)

-- zeros
digits_zero : (n i : ℕ) → get_or (digits n 0) i 0 ≡ 0
unfolding digits
digits_zero zero i = refl
digits_zero (suc n) zero = refl
digits_zero (suc n) (suc i) = digits_zero n i

-- the bytes of the free chain
pub free_chain_length : (n k : ℕ) → length (free_chain n k) ≡ 24 * k
unfolding free_chain
free_chain_length n zero = refl
free_chain_length n (suc k) =
    let rest = free_chain_length (n + 1) k in
    omega (arith, length-append (whole (cond (n == 200) 0 (n + 1)) (free_cell n)) (free_chain (n + 1) k), whole_length (cond (n == 200) 0 (n + 1)) (free_cell n) blank_length, rest)

-- what lies apart from the free chain's head and from the cells stays zeros
zeros_left : (a n : ℕ) → Apart a n 8 2 → Apart a n 1072 4800 → Kept (λ i. 0) made a n
unfolding made
zeros_left a n h k =
    edits_keep make_edits (λ i. 0) a n
    (misses a n 8 2 (digits 2 1) (digits_length 2 1) h, (misses a n 1072 4800 (free_chain 1 200) (free_chain_length 1 200) k, tt))

number_left : (a n : ℕ) → Apart a n 8 2 → Apart a n 1072 4800 → Stands made a (digits n 0)
number_left a n h k i l = zeros_left a n h k i (omega (arith, digits_length n 0)) ∙ sym (digits_zero n i)

bytes_left : (a n : ℕ) → Apart a n 8 2 → Apart a n 1072 4800 → Stands made a (replicate n 0)
bytes_left a n h k i l =
    let m : i < n = omega (arith, length-replicate {A = ℕ} n 0) in
    zeros_left a n h k i m ∙ sym (get_or-replicate {A = ℕ} n i 0 0 m)

-- the index of the next free cell
next_free : (n k : ℕ) → n + suc k ≡ 201 → cond (n == 200) 0 (n + 1) ≡ head_or_0 (numbers_from (n + 1) k)
unfolding numbers_from
next_free n zero h = ap (λ t. cond t 0 (n + 1)) (eq-eqb n 200 (omega arith))
next_free n (suc k) h = ap (λ t. cond t 0 (n + 1)) (ne_eqb n 200 (λ (e : n ≡ 200). omega arith))

-- the free chain from cell n on
chain_from : (g : ℕ → ℕ) (n k a : ℕ) → 1 ≤ n → n + k ≡ 201 → Stands g a (digits 2 (head_or_0 (numbers_from n k))) → Stands g (cell_at n) (free_chain n k)
    → Chain g a (map free_cell (numbers_from n k))
unfolding numbers_from free_chain
chain_from g n zero a low sum link s = link
chain_from g n (suc k) a low sum link s =
    let here = stands_front g (cell_at n) (whole (cond (n == 200) 0 (n + 1)) (free_cell n)) (free_chain (n + 1) k) s in
    let e : cell_at n + length (whole (cond (n == 200) 0 (n + 1)) (free_cell n)) ≡ cell_at (n + 1) =
    omega (arith, whole_length (cond (n == 200) 0 (n + 1)) (free_cell n) blank_length) in (
      link,
      (low, omega arith),
      whole_held g (cell_at n) (cond (n == 200) 0 (n + 1)) (free_cell n) here,
      chain_from g (n + 1) k (cell_at n) (omega arith) (omega arith)
          (subst (λ (m : ℕ). Stands g (cell_at n) (digits 2 m)) (next_free n k sum) (whole_next g (cell_at n) (cond (n == 200) 0 (n + 1)) (free_cell n) here))
          (subst (λ (b : ℕ). Stands g b (free_chain (n + 1) k)) e
          (stands_back g (cell_at n) (whole (cond (n == 200) 0 (n + 1)) (free_cell n)) (free_chain (n + 1) k) s)),
    )

first_is : (n k : ℕ) → head_or_0 (numbers_from n (suc k)) ≡ n
unfolding numbers_from
first_is n k = refl

-- each cell is in it
lies_from : (n i k : ℕ) → i ≤ n → n < i + k → Lies n (map free_cell (numbers_from i k))
unfolding numbers_from
lies_from n i zero h l = absurd (omega arith)
lies_from n i (suc k) h l =
    ⊎_elim
    (λ (e : i ≡ n). inl e)
    (λ (ne : i ≢ n). inr (lies_from n (i + 1) k (above ne) (omega arith)))
    (cases_eq i n)
  where
    above : i ≢ n → i + 1 ≤ n
    above ne = ⊎_elim (λ (e : i < n). omega arith) (λ (e : n ≤ i). absurd (ne (omega arith))) (cases_lt i n)

head_stands : Stands made 8 (digits 2 1)
unfolding made
head_stands =
    stands_first 8 2 (digits 2 1) (edit (cell_at 1) (free_chain 1 200) ∷ []) (λ i. 0) (digits_length 2 1)
    (misses 8 2 1072 4800 (free_chain 1 200) (free_chain_length 1 200) (inl (omega arith)), tt)

cells_stand : Stands made (cell_at 1) (free_chain 1 200)
unfolding made
cells_stand = put_stands (edit (cell_at 1) (free_chain 1 200)) (put (edit (head_at 0) (digits 2 1)) (λ i. 0))

free_made : Chain made 8 (map free_cell (numbers_from 1 200))
free_made =
    chain_from made 1 200 8 (omega arith) refl (subst (λ (n : ℕ). Stands made 8 (digits 2 n)) (sym (first_is 1 199)) head_stands) cells_stand

-- the others are empty
no_cells : (c : ℕ) → c < 81 → c ≢ 0 → cells_of new_book c ≡ []
no_cells c h nz =
    elim (chain_cases c h) [
      | inl e ↦ absurd (nz e)
      | inr (inl a) ↦ cells_account new_book c a
      | inr (inr k) ↦ cells_bucket new_book c k
    ]

empty_made : (c : ℕ) → c < 81 → c ≢ 0 → Chain made (head_at c) (cells_of new_book c)
empty_made c h nz =
    let w = head_within c h in
    subst (Chain made (head_at c)) (sym (no_cells c h nz)) (number_left (head_at c) 2 (heads_apart c 0 nz) (inl w.1))

only_free : (n c : ℕ) → c < 81 → Lies n (cells_of new_book c) → c ≡ 0
only_free n c h l = ⊎_elim (λ (e : c ≡ 0). e) (λ (nz : c ≢ 0). absurd (subst (Lies n) (no_cells c h nz) l)) (cases_eq c 0)

sum_zero : (n : ℕ) → sum_to n (λ a. 0) ≡ 0
unfolding sum_to
sum_zero zero = refl
sum_zero (suc n) = omega (arith, sum_zero n)

money_made : Money made new_book
money_made =
    record {
      issued = number_left 0 8 (inl (omega arith)) (inl (omega arith));
      balance = λ a i. number_left (balance_at a) 8 (inr (omega arith)) (inl (omega arith));
      bound = omega arith;
      sum = sum_zero 64;
    }

chains_made : Chains made new_book
chains_made =
    record {
      chain = λ c h.
          ⊎_elim
          (λ (e : c ≡ 0). subst (λ (d : ℕ). Chain made (head_at d) (cells_of new_book d)) (sym e) free_made)
          (λ (nz : c ≢ 0). empty_made c h nz)
          (cases_eq c 0);
      some = λ n h. (0, omega arith, lies_from n 1 200 h.0 (omega (arith, h.1)));
      one = λ n c d h k l m. only_free n c h l ∙ sym (only_free n d k m);
    }

zeros_made : Zeros made
zeros_made =
    record {
      front = bytes_left 10 6 (inr (omega arith)) (inl (omega arith));
      accounts = λ a i. bytes_left (balance_at a + 10) 6 (inr (omega arith)) (inl (omega arith));
      back = bytes_left 5872 272 (inr (omega arith)) (inr (omega arith));
    }

pub make_holds : Holds (after_edits make_edits (λ _. 0)) new_book
unfolding made
make_holds =
    record {
      money = money_made;
      chains = chains_made;
      records = record { entries = λ a i. tt; tags = λ k h. tt };
      zeros = zeros_made;
    }
