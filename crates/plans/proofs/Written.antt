-- What a change of a chain writes in a ledger, in the words of its book.
use Rattle.std.proofs.Common.{◌≡◌, ℕ, ◌<◌, Bool, true, false, not, ◌&&◌, nat_le, List, [], ◌∷◌, length, map, Some, None, Option, refl, sym, ap, ◌∙◌, arith}
use Rattle.std.proofs.lemmas.Bool.{le-leb}
use Rattle.record.specs.Fields.{field}
use Rattle.book.specs.declared.records.Entry.{Entry}
use Rattle.book.specs.Layout.{byte_in, head_at, Cell, first_of}
use Rattle.book.specs.Book.{Book, Holds, At, IsAccount, free_cell, entry_cell, cells_of}
use Rattle.book.specs.Rows.{is_empty, is_account}
use Rattle.book.specs.Edits.{head_or_0, rest_of, put_in_front, unlink, front_of}
use Rattle.book.proofs.Places.{head_within}
use Rattle.book.proofs.Threads.{cells_account}
use Rattle.book.proofs.Beside.{first_free}
use Rattle.plans.specs.declared.found.Found.{Found}
use Rattle.plans.specs.Putting.{putting, taking}
use Rattle.plans.specs.Walks.{cells_with, Placed, first_such, placed, seen, Fronted}
use Rattle.plans.proofs.Standing.{stands_index}

module _ (m : List ℕ) (b : Book) (h : Holds (byte_in m) b) (whole : length m ≡ 6144) where
  head_read : (c : ℕ) → c < 81 → field (head_at c) 2 m ≡ first_of (cells_of b c)
  head_read c l = let w = head_within c l in stands_index m (head_at c) (cells_of b c) (h.chains.chain c l) (omega arith)

  -- the front free cell goes to the front of a chain
  pub put_is : (c n next kind : ℕ) (content : List ℕ) → c < 81 → n ≡ head_or_0 b.free → next ≡ head_or_0 (rest_of b.free)
      → putting (head_at c) (field (head_at c) 2 m) n next kind content ≡ put_in_front b c kind content
  put_is c n next kind content l e f = rw (head_read c l, e, f) refl

  -- a cell is taken out
  pub take_is : (link n next : ℕ) → taking link n next (field 8 2 m) ≡ unlink b link n next
  take_is link n next =
      ap (taking link n next) (stands_index m 8 (map free_cell b.free) (h.chains.chain 0 (omega arith)) (omega arith) ∙ first_free b.free)

-- the front entry of an account
no_front : (link : ℕ) (xs : List (At Entry)) → None ≡ first_such (λ _. true) link xs → is_empty xs ≡ true
no_front link [] e = refl
no_front link (x ∷ xs) e = cc

record InFront (link : ℕ) (p : Placed Entry) (xs : List (At Entry)) : Type 0 where
  pub link_is : p.place.link ≡ link
  pub number : p.place.number ≡ first_of (map entry_cell xs)
  pub next : p.place.next ≡ first_of (rest_of (map entry_cell xs))
  pub item : front_of xs ≡ Some p.item
  pub some : is_empty xs ≡ false

entry_next : (xs : List (At Entry)) → first_of (cells_with 0 (λ _. []) xs) ≡ first_of (map entry_cell xs)
entry_next [] = refl
entry_next (x ∷ xs) = refl

in_front : (link : ℕ) (p : Placed Entry) (xs : List (At Entry)) → Some p ≡ first_such (λ _. true) link xs → InFront link p xs
in_front link p [] e = cc
in_front link p (x ∷ xs) e =
    let q : Placed Entry = record { place = record { link = link; number = x.number; next = first_of (cells_with 0 (λ _. []) xs) }; item = x.item } in
    let same : p ≡ q = cc in
    record {
      link_is = ap (λ (r : Placed Entry). r.place.link) same;
      number = ap (λ (r : Placed Entry). r.place.number) same;
      next = ap (λ (r : Placed Entry). r.place.next) same ∙ entry_next xs;
      item = ap (λ (r : Placed Entry). Some r.item) (sym same);
      some = refl;
    }

-- collecting takes it out
pub fronts : (b : Book) (a : ℕ) (r : Option (Found Entry)) → IsAccount a → seen r ≡ first_such (λ _. true) (head_at a) (b.entries a) → Fronted b a r
fronts b a None i e = no_front (head_at a) (b.entries a) e
fronts b a (Some r) i e =
    let x = in_front (head_at a) (placed r) (b.entries a) e in
    let cells : map entry_cell (b.entries a) ≡ cells_of b a = sym (cells_account b a i) in
    let number : r.number ≡ first_of (cells_of b a) = x.number ∙ ap first_of cells in
    let next : r.next ≡ first_of (rest_of (cells_of b a)) = x.next ∙ ap (λ (cs : List Cell). first_of (rest_of cs)) cells in (
      x.some,
      x.item,
      ap (λ (l : ℕ). unlink b l r.number r.next) x.link_is
          ∙ ap (λ (n : ℕ). unlink b (head_at a) n r.next) number
          ∙ ap (λ (n : ℕ). unlink b (head_at a) (first_of (cells_of b a)) n) next,
    )

pub not_account : (a : ℕ) → IsAccount a → not (is_account a) ≡ true → ⊥
not_account a i e = go (nat_le 1 a) (nat_le a 64) (le-leb 1 a i.0) (le-leb a 64 i.1) e
  where
    go : (s t : Bool) → s ≡ true → t ≡ true → not (s && t) ≡ true → ⊥
    go true true h k n = cc
    go true false h k n = cc
    go false t h k n = cc
