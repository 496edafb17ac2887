-- What stands once a ledger was opened.
use Rattle.std.proofs.Common.{◌≡◌, ℕ, zero, suc, ◌-◌, ◌≤◌, false, List, [], ◌∷◌, ◌++◌, map, length, take, drop, Some, Ok, Err, Option, Result, sym, refl, ap, ◌∙◌, subst, inl, inr, arith}
use Rattle.std.proofs.lemmas.Bool.{both_ways}
use Rattle.std.proofs.lemmas.List.{length-map}
use Rattle.device.specs.Disk.{Disk, Plate}
use Rattle.device.specs.Trace.{Act}
use Rattle.image.specs.Calls.{declared}
use Rattle.transactions.specs.declared.fault.StoreFault.{StoreFault}
use Rattle.transactions.specs.Held as held
use Rattle.law.specs.Transactions.{Transaction, made_of}
use Rattle.law.specs.Kept.{Entered, NoneKept}
use Rattle.law.specs.Events as store
use Rattle.law.specs.Law as law
use Rattle.book.specs.declared.fault.LedgerFault.{LedgerFault}
use Rattle.book.specs.Fault.{number}
use Rattle.book.specs.Layout.{byte_in}
use Rattle.book.specs.Book.{Book, Holds}
use Rattle.ledger.specs.Sound.{Held, HoldsBook, is_on}
use Rattle.ledger.specs.Calls.{Opens}
use Rattle.ledger_law.specs.Below.{event}
use Rattle.ledger_law.specs.Events.{working, closed, opening, DidOpen}
use Rattle.ledger_law.specs.Law.{entered_after, newly, stood, with_new, OpensLawfully}
use Rattle.ledger_law.proofs.Sectors.{opened_plate}
use Rattle.ledger_law.proofs.Entering.{FirstKept, Grown, grown_later}
use Rattle.ledger_law.proofs.Memories.{AllInside, inside_take, same_memory}
use Rattle.ledger_law.proofs.Books.{Books, books_found}
use Rattle.ledger_law.proofs.Keeping.{Keeps, Stands, keeps_so}

transactions_take : (j : ℕ) (xs : List Entered) → law.transactions (take j xs) ≡ take j (law.transactions xs)
transactions_take zero xs = refl
transactions_take (suc j) [] = refl
transactions_take (suc j) (x ∷ xs) = ap (λ (ts : List Transaction). x.transaction ∷ ts) (transactions_take j xs)

transactions_again : (xs : List Entered) → law.transactions (map law.found_again xs) ≡ law.transactions xs
transactions_again [] = refl
transactions_again (x ∷ xs) = ap (λ (ts : List Transaction). x.transaction ∷ ts) (transactions_again xs)

-- At least the first is found, since it is kept, and it is kept again.
some_found : (n j : ℕ) (xs : List Entered) → FirstKept n xs → NoneKept n j (drop j xs) → 1 ≤ j
some_found n zero [] first none = absurd first
some_found n zero (x ∷ xs) first none = absurd (none.0 first)
some_found n (suc j) xs first none = omega arith

first_again : (n m j : ℕ) (xs : List Entered) → 1 ≤ j → FirstKept n xs → FirstKept m (map law.found_again (take j xs))
first_again n m zero xs some first = absurd (omega arith)
first_again n m (suc j) [] some first = absurd first
first_again n m (suc j) (x ∷ xs) some first = inl refl

append_none : (xs : List ℕ) → xs ++ [] ≡ xs
append_none [] = refl
append_none (x ∷ xs) = ap (λ ys. x ∷ ys) (append_none xs)

module _ (d : Disk) (k : Held) (j : ℕ) (xs : List Entered) (issued : List ℕ) (w : Keeps (closed d) xs issued)
    (f : law.Finds (store.closed d) j k.store.state.image.memory xs) where
  abbrev ts : List Transaction
  ts = law.transactions xs

  least : 1 ≤ j
  least = some_found (law.places_at (store.closed d)) j xs w.first f.kept

  most : j ≤ length ts
  most = omega (arith, f.entered, length-map xs (λ (x : Entered). x.transaction))

  memory : byte_in k.store.state.image.memory ≡ made_of (take j ts)
  memory =
      same_memory k.store.state.image.memory (take j ts) f.whole (inside_take j ts w.inside)
      (λ i small. f.memory_is i small ∙ ap (λ (us : List Transaction). made_of us i) (transactions_take j xs))

  -- It is a ledger's, as is every first part of what stood.
  pub found_book : (b : Book) × HoldsBook k.store.state b
  found_book = let e = w.books.each j least most in (e.0, subst (λ (g : ℕ → ℕ). Holds g e.0) (sym memory) e.1)

  pub found_keeps : declared k.store.state.image ≡ [] → Keeps (working k) (map law.found_again (take j xs)) (take j issued)
  found_keeps clean =
      let same : law.transactions (map law.found_again (take j xs)) ≡ take j ts = transactions_again (take j xs) ∙ transactions_take j xs in
      record {
        first = first_again (law.places_at (store.closed d)) (law.places_at (store.working k.store)) j xs least w.first;
        books = subst (λ (us : List Transaction). Books us (take j issued)) (sym same) (books_found j ts issued most w.books);
        inside = subst AllInside (sym same) (inside_take j ts w.inside);
        rests = λ on. record { memory = memory ∙ ap made_of (sym same); clean = clean };
      }

-- The law of an opening, and what stands after it.
abbrev Good : Result (ℕ × ℕ) LedgerFault → Held → List store.Event → List Entered → List ℕ → Type 0
Good r k did xs issued =
    OpensLawfully (opening r) (Some issued) × Stands (working k) (entered_after did (Some xs)) (with_new 0 (newly did) (stood (opening r) (Some issued)))

refused_keeps : (d : Disk) (k : Held) (g : StoreFault) (done : List Act) (cut : Option Act) (xs : List Entered) (issued : List ℕ) → Keeps (closed d) xs issued → is_on k ≡ false → held.Opened d (Err g) k.store
    → Stands (working k) (entered_after (event (store.opening (Err g)) (store.closed d) done cut (store.working k.store) ∷ []) (Some xs)) (Some (issued ++ []))
refused_keeps d k g done cut xs issued w off opened =
    let grown : Grown (law.places_at (store.closed d)) xs [] (Some (map (law.later done) xs ++ [])) = grown_later (law.places_at (store.closed d)) xs [] done in
    let places : law.places_at (store.working k.store) ≡ law.places_at (store.closed d) = ap (λ (q : Plate). q.sectors - 64) (opened_plate d (Err g) k.store opened) in (
      grown.ys,
      grown.is,
      subst (Keeps (working k) grown.ys) (sym (append_none issued))
          (keeps_so (closed d) (working k) xs grown.ys issued w places (grown.same ∙ none (law.transactions xs)) grown.first (λ on. absurd (both_ways (is_on k) off on))),
    )
  where
    none : (ts : List Transaction) → ts ++ [] ≡ ts
    none [] = refl
    none (t ∷ ts) = ap (λ us. t ∷ us) (none ts)

pub opening_keeps : (d : Disk) (r : Result (ℕ × ℕ) LedgerFault) (k : Held) (m : Opens d r k) (did : List store.Event) → DidOpen d r k m did
    → (xs : List Entered) (issued : List ℕ) → Keeps (closed d) xs issued → law.AllLawful did (Some xs) → Good r k did xs issued
opening_keeps d (Ok x) k m did one xs issued w all =
    let all' = subst (λ (es : List store.Event). law.AllLawful es (Some xs)) one.event all in
    subst (λ (es : List store.Event). Good (Ok x) k es xs issued) (sym one.event)
    (tt, (map law.found_again (take x.0 xs), refl, subst (Keeps (working k) (map law.found_again (take x.0 xs))) (sym (append_none (take x.0 issued))) (found_keeps d k x.0 xs issued w all'.0 m.1.idle.clean)))
opening_keeps d (Err f) k (off, inl (g, is, opened)) did one xs issued w all =
    let all' = subst (λ (es : List store.Event). law.AllLawful es (Some xs)) one.event all in
    subst (λ (es : List store.Event). Good (Err f) k es xs issued) (sym one.event)
    (ap number is ∙ all'.0, refused_keeps d k g one.done one.cut xs issued w off opened)
opening_keeps d (Err f) k (off, inr none) did one xs issued w all =
    let all' = subst (λ (es : List store.Event). law.AllLawful es (Some xs)) one.event all in
    let b = found_book d k none.found.0 xs issued w all'.0 in
    absurd (none.none b.0 b.1)
