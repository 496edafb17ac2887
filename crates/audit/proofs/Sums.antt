-- The sum of the balances of a book, and of those in the memory.
use Rattle.std.proofs.Common.{◌≡◌, ℕ, zero, suc, ◌+◌, ◌-◌, ◌^◌, ◌<◌, ◌≤◌, ◌≢◌, true, false, List, [], length, get_or, take, sum, Some, None, Option, MatchOption, refl, sym, ap, ◌∙◌, subst, eqb, arith, ⊎_elim}
use Rattle.std.proofs.lemmas.List.{take_all}
use Rattle.std.proofs.lemmas.List.Sums.{sum_by_more}
use Rattle.std.proofs.lemmas.Bool.{cases_Bool}
use Rattle.std.proofs.lemmas.Bool.Decides.{nat_tests}
use Rattle.std.specs.Option.{option_eq}
use Rattle.record.specs.Fields.{digits}
use Rattle.book.specs.Layout.{balance_at, sum_to, Stands}
use Rattle.book.specs.Book.{Book, Money}
use Rattle.book.proofs.Sums.{sum_least}
use Rattle.audit.specs.Judging.{MoneyJudged}
use Rattle.audit.proofs.Standing.{number_same}

-- the sums of a list and of numbers that are its own
pub sum_listed : (n : ℕ) (xs : List ℕ) (g : ℕ → ℕ) → n ≤ length xs → ((i : ℕ) → i < n → get_or xs i 0 ≡ g (suc i)) → sum (take n xs) ≡ sum_to n g
unfolding sum_to
sum_listed zero xs g long same = refl
sum_listed (suc n) xs g long same =
    let less : n < length xs = omega arith in
    let e : n + 1 ≡ suc n = omega arith in
    let more : sum (take (suc n) xs) ≡ sum (take n xs) + get_or xs n 0 =
    subst (λ (k : ℕ). sum (take k xs) ≡ sum (take n xs) + get_or xs n 0) e (sum_by_more (λ (x : ℕ). x) xs n 0 less) in
    let so : sum (take n xs) ≡ sum_to n g = sum_listed n xs g (omega arith) (λ i h. same i (omega arith)) in
    let here : get_or xs n 0 ≡ g (suc n) = same n (omega arith) in
    omega arith

-- the balances that stand in the memory
abbrev pub Balances : (ℕ → ℕ) → List ℕ → Type 0
Balances f xs = (i : ℕ) → i < 64 → Stands f (balance_at (i + 1)) (digits 8 (get_or xs i 0))

abbrev pub book_of : ℕ → List ℕ → Book
book_of issued xs = record { issued = issued; balances = λ a. get_or xs (a - 1) 0; free = []; entries = λ _. []; tags = λ _. [] }

pub adds_up : (f : ℕ → ℕ) (issued : ℕ) (xs : List ℕ) → length xs ≡ 64 → Stands f 0 (digits 8 issued) → Balances f xs → issued < 2 ^ 63 → issued ≡ sum xs → Money f (book_of issued xs)
adds_up f issued xs long total balances bound is =
    record {
      issued = total;
      balance = λ a h.
          let e : (a - 1) + 1 ≡ a = omega arith in
          subst (λ (k : ℕ). Stands f (balance_at k) (digits 8 (get_or xs (a - 1) 0))) e (balances (a - 1) (omega arith));
      bound = bound;
      sum =
          sym (sum_listed 64 xs (λ a. get_or xs (a - 1) 0) (omega arith) (λ i h. let e : suc i - 1 ≡ i = omega arith in rw e refl))
          ∙ ap sum (take_all 64 xs (omega arith)) ∙ sym is;
    }

-- what a book's money is, by what stands in the memory
pub sum_of_book : (f : ℕ → ℕ) (b : Book) (xs : List ℕ) → Money f b → length xs ≡ 64 → ((i : ℕ) → get_or xs i 0 < 2 ^ 64) → Balances f xs → sum xs ≡ b.issued
sum_of_book f b xs m long small balances =
    ap sum (sym (take_all 64 xs (omega arith)))
    ∙ sum_listed 64 xs b.balances (omega arith)
    (λ i h.
    let e : i + 1 ≡ suc i = omega arith in
    let bound : b.balances (suc i) < 2 ^ 64 = omega (arith, sum_least 64 (suc i) b.balances (omega arith) (omega arith), m.sum, m.bound) in
    number_same 8 f (balance_at (suc i)) (get_or xs i 0) (b.balances (suc i)) (small i) bound
    (subst (λ (k : ℕ). Stands f (balance_at k) (digits 8 (get_or xs i 0))) e (balances i h))
    (m.balance (suc i) (omega arith, omega arith)))
    ∙ m.sum

pub issued_of_book : (f : ℕ → ℕ) (b : Book) (issued : ℕ) → Money f b → issued < 2 ^ 64 → Stands f 0 (digits 8 issued) → issued ≡ b.issued
issued_of_book f b issued m small total = number_same 8 f 0 issued b.issued small (omega (arith, m.bound)) total m.issued

-- what the sum that was found, or none, says of the money
pub judged : (f : ℕ → ℕ) (issued : ℕ) (xs : List ℕ) (total : Option ℕ) → length xs ≡ 64 → ((i : ℕ) → get_or xs i 0 < 2 ^ 64) → issued < 2 ^ 64 → Stands f 0 (digits 8 issued) → Balances f xs → MatchOption total (2 ^ 63 ≤ sum xs) (λ n. (n ≡ sum xs) × (n < 2 ^ 63)) → MoneyJudged f (option_eq eqb total (Some issued))
judged f issued xs None long small fits stands balances h = λ b m. omega (arith, sum_of_book f b xs m long small balances, m.bound)
judged f issued xs (Some n) long small fits stands balances (is, bound) =
    ⊎_elim
    (λ (yes : eqb n issued ≡ true).
    let e : n ≡ issued = grind (arith, nat_tests) in
    rw yes (book_of issued xs, adds_up f issued xs long stands balances (omega arith) (sym e ∙ is)))
    (λ (no : eqb n issued ≡ false).
    let e : n ≢ issued = grind (arith, nat_tests) in
    rw no (λ b m. e (is ∙ sum_of_book f b xs m long small balances ∙ sym (issued_of_book f b issued m fits stands))))
    (cases_Bool (eqb n issued))
