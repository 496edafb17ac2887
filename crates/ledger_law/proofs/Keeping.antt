-- What every run of a ledger keeps, and what follows from that.
use Rattle.std.proofs.Common.{◌≡◌, ℕ, ◌+◌, ◌≤◌, true, List, [], ◌∷◌, ◌++◌, map, length, Some, None, Option, sym, refl, ap, ◌∙◌, subst, arith, sum}
use Rattle.std.proofs.lemmas.List.{take_all}
use Rattle.image.specs.Calls.{declared}
use Rattle.book.specs.Layout.{byte_in}
use Rattle.book.specs.Book.{Book, Holds}
use Rattle.book.proofs.Conserving.{conserving}
use Rattle.law.specs.Transactions.{Transaction, made_of}
use Rattle.law.specs.Kept.{Entered}
use Rattle.law.specs.Events as store
use Rattle.law.specs.Law as law
use Rattle.ledger.specs.Sound.{Held, HoldsBook, is_on}
use Rattle.ledger_law.specs.Events.{Moment, working, closed, below}
use Rattle.ledger_law.specs.Law.{ConservedAt}
use Rattle.ledger_law.proofs.Entering.{FirstKept}
use Rattle.ledger_law.proofs.Memories.{AllInside}
use Rattle.ledger_law.proofs.Books.{Books}

-- The memory of a ledger is what the transactions that stand make of zeros, and nothing is declared.
pub record Rests (h : Held) (ts : List Transaction) : Type 0 where
  pub memory : byte_in h.store.state.image.memory ≡ made_of ts
  pub clean : declared h.store.state.image ≡ []

-- So it is while the ledger is on.
abbrev pub RestsAt : Moment → List Transaction → Type 0
RestsAt (working h) ts = is_on h ≡ true → Rests h ts
RestsAt (closed d) ts = Unit {0}

-- These transactions stand, and issued so much.
pub record Keeps (m : Moment) (xs : List Entered) (issued : List ℕ) : Type 0 where
  pub first : FirstKept (law.places_at (below m)) xs
  pub books : Books (law.transactions xs) issued
  pub inside : AllInside (law.transactions xs)
  pub rests : RestsAt m (law.transactions xs)

pub some_first : (n : ℕ) (xs : List Entered) → FirstKept n xs → 1 ≤ length (law.transactions xs)
some_first n [] h = absurd h
some_first n (x ∷ xs) h = omega arith

-- The book of all of them.
pub record Whole (h : Held) (issued : List ℕ) : Type 0 where
  pub book : Book
  pub holds : HoldsBook h.store.state book
  pub total : book.issued ≡ sum issued

pub whole : (h : Held) (xs : List Entered) (issued : List ℕ) → Keeps (working h) xs issued → is_on h ≡ true → Whole h issued
whole h xs issued w on =
    let ts = law.transactions xs in
    let k = length ts in
    let e = w.books.each k (some_first (law.places_at (store.working h.store)) xs w.first) (omega arith) in
    record {
      book = e.0;
      holds = subst (λ (f : ℕ → ℕ). Holds f e.0) (ap made_of (take_all k ts (omega arith)) ∙ sym (w.rests on).memory) e.1;
      total = e.2 ∙ ap sum (take_all k issued (omega (arith, w.books.long)));
    }

pub conserved : (m : Moment) (xs : List Entered) (issued : List ℕ) → Keeps m xs issued → ConservedAt m (Some issued)
conserved (working h) xs issued w =
    λ on.
    let b = whole h xs issued w on in
    conserving h.store.state.image.memory issued b.book b.holds b.total
conserved (closed d) xs issued w = tt

-- How a run stands, with all that its events tell of it.
abbrev pub Stands : Moment → law.History → Option (List ℕ) → Type 0
Stands m h None = Unit {0}
Stands m h (Some issued) = (xs : List Entered) × (h ≡ Some xs) × Keeps m xs issued

-- Where nothing was entered newly.
pub none_issued : (issued : List ℕ) (amount : ℕ) (new : List Entered) → new ≡ [] → issued ++ map (λ (x : Entered). amount) new ≡ issued
none_issued issued amount new none = ap (λ (ys : List Entered). issued ++ map (λ (x : Entered). amount) ys) none ∙ append_none issued
  where
    append_none : (xs : List ℕ) → xs ++ [] ≡ xs
    append_none [] = refl
    append_none (x ∷ xs) = ap (λ ys. x ∷ ys) (append_none xs)

-- A ledger and what stands, where the transactions and the first of them are as they were.
pub keeps_so : (m m' : Moment) (xs ys : List Entered) (issued : List ℕ) → Keeps m xs issued → law.places_at (below m') ≡ law.places_at (below m)
    → law.transactions ys ≡ law.transactions xs → (FirstKept (law.places_at (below m)) xs → FirstKept (law.places_at (below m)) ys) → RestsAt m' (law.transactions xs) → Keeps m' ys issued
keeps_so m m' xs ys issued w places same first rests =
    record {
      first = subst (λ (n : ℕ). FirstKept n ys) (sym places) (first w.first);
      books = subst (λ (ts : List Transaction). Books ts issued) (sym same) w.books;
      inside = subst AllInside (sym same) w.inside;
      rests = subst (RestsAt m') (sym same) rests;
    }
