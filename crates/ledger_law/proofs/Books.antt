-- The books of the first parts of what is entered, and how they grow.
use Rattle.std.proofs.Common.{◌≡◌, ℕ, ◌+◌, ◌<◌, ◌≤◌, List, [], ◌∷◌, ◌++◌, length, take, sym, refl, ap, ◌∙◌, subst, ⊎_elim, arith, sum}
use Rattle.std.proofs.lemmas.Bool.{cases_lt}
use Rattle.std.proofs.lemmas.List.{length_push, length-take-le, take-append-le, take_all, take-take}
use Rattle.std.proofs.lemmas.List.Sums.{sum_by_push}
use Rattle.law.specs.Transactions.{Transaction, made_of}
use Rattle.book.specs.Book.{Book, Holds}

-- Every first part of the transactions, but for the empty one, makes of zeros a ledger whose total is what they issued.
pub record Books (ts : List Transaction) (issued : List ℕ) : Type 0 where
  pub long : length issued ≡ length ts
  pub each : (j : ℕ) → 1 ≤ j → j ≤ length ts → (b : Book) × Holds (made_of (take j ts)) b × (b.issued ≡ sum (take j issued))

pub no_books : Books [] []
no_books = record { long = refl; each = λ j from to. absurd (omega (arith, from, to)) }

-- one more transaction, which makes a memory with a book whose total is larger by what it issued
pub books_more : (ts : List Transaction) (issued : List ℕ) (t : Transaction) (x : ℕ) → Books ts issued
    → (b : Book) → Holds (made_of (ts ++ (t ∷ []))) b → b.issued ≡ sum issued + x → Books (ts ++ (t ∷ [])) (issued ++ (x ∷ []))
books_more ts issued t x w b holds total =
    let long = length_push ts t in
    let long' = length_push issued x in
    record {
      long = omega (arith, long, long', w.long);
      each = λ j from to. ⊎_elim
          (λ (k : j < length ts + 1).
          let inside : j ≤ length ts = omega (arith, k) in
          let e = w.each j from inside in (
            e.0,
            subst (λ us. Holds (made_of us) e.0) (sym (take-append-le j ts (t ∷ []) inside)) e.1,
            e.2 ∙ ap sum (sym (take-append-le j issued (x ∷ []) (omega (arith, inside, w.long)))),
          ))
          (λ (k : length ts + 1 ≤ j). (
            b,
            subst (λ us. Holds (made_of us) b) (sym (take_all j (ts ++ (t ∷ [])) (omega (arith, long, k)))) holds,
            total ∙ sym (sum_by_push (λ y. y) issued x) ∙ ap sum (sym (take_all j (issued ++ (x ∷ [])) (omega (arith, long', w.long, k)))),
          ))
          (cases_lt j (length ts + 1));
    }

-- the first k
pub books_found : (k : ℕ) (ts : List Transaction) (issued : List ℕ) → k ≤ length ts → Books ts issued → Books (take k ts) (take k issued)
books_found k ts issued inside w =
    let long = length-take-le k ts inside in
    let long' = length-take-le k issued (omega (arith, inside, w.long)) in
    record {
      long = omega (arith, long, long');
      each = λ j from to.
          let near : j ≤ k = omega (arith, to, long) in
          let e = w.each j from (omega (arith, near, inside)) in (
            e.0,
            subst (λ us. Holds (made_of us) e.0) (sym (take-take j k ts near)) e.1,
            e.2 ∙ ap sum (sym (take-take j k issued near)),
          );
    }
