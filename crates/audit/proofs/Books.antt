-- The book of a memory whose cells are all where they may be.
use Rattle.std.proofs.Common.{◌≡◌, ◌≢◌, ℕ, ◌<◌, ◌≤◌, List, [], ◌∷◌, map, refl, sym, ap, subst, inl, inr, ⊎_elim, arith}
use Rattle.std.proofs.lemmas.Bool.{cases_lt}
use Rattle.record.specs.Fields.{digits}
use Rattle.book.specs.declared.records.Tag.{Tag}
use Rattle.book.specs.declared.records.Entry.{Entry}
use Rattle.book.specs.Layout.{Stands, Chain, cell_at, InCells}
use Rattle.book.specs.Book.{At, at, GoodEntries, GoodTags, NoTag, free_cell, entry_cell, tag_cell}
use Rattle.book.proofs.Chaining.{numbers}
use Rattle.audit.specs.Owners.{index_at, Walk, Among}
use Rattle.audit.specs.Contents.{IsFree, HasTag, GoodEntry, GoodTag, HasId, Once}
use Rattle.audit.proofs.Walks.{stands_index, walk_in, walk_once}

-- The index that a walk begins with, in its two bytes.
index_bytes : (f : ℕ → ℕ) (a n : ℕ) → ((i : ℕ) → f i < 256) → index_at f a ≡ n → Stands f a (digits 2 n)
index_bytes f a n small e = subst (λ (k : ℕ). Stands f a (digits 2 k)) e (stands_index f a small)

-- A walk through free cells is a chain of them.
pub free_chain : (f : ℕ → ℕ) (a : ℕ) (ns : List ℕ) → ((i : ℕ) → f i < 256) → Walk f (index_at f a) ns → ((n : ℕ) → Among n ns → IsFree f n) → Chain f a (map free_cell ns)
free_chain f a [] small e free = index_bytes f a 0 small e
free_chain f a (n ∷ ns) small (e, i, walk) free =
    (index_bytes f a n small e, i, free n (inl refl), free_chain f (cell_at n) ns small walk (λ m h. free m (inr h)))

pub free_numbers : (ns : List ℕ) → numbers (map free_cell ns) ≡ ns
free_numbers [] = refl
free_numbers (n ∷ ns) = ap (λ (ms : List ℕ). n ∷ ms) (free_numbers ns)

-- A walk through cells that have entries.
pub record Entries (f : ℕ → ℕ) (a : ℕ) (ns : List ℕ) : Type 0 where
  pub items : List (At Entry)
  pub chain : Chain f a (map entry_cell items)
  pub good : GoodEntries items
  pub numbers : numbers (map entry_cell items) ≡ ns

pub entries_along : (f : ℕ → ℕ) (a : ℕ) (ns : List ℕ) → ((i : ℕ) → f i < 256) → Walk f (index_at f a) ns → ((n : ℕ) → Among n ns → GoodEntry f n) → Entries f a ns
entries_along f a [] small e has = record { items = []; chain = index_bytes f a 0 small e; good = tt; numbers = refl }
entries_along f a (n ∷ ns) small (e, i, walk) has =
    let g = has n (inl refl) in
    let rest = entries_along f (cell_at n) ns small walk (λ m h. has m (inr h)) in
    record {
      items = at n g.item ∷ rest.items;
      chain = (index_bytes f a n small e, i, g.lies.stands, rest.chain);
      good = (g.lies.fits, g.account, rest.good);
      numbers = ap (λ (ms : List ℕ). n ∷ ms) rest.numbers;
    }

-- A walk through cells that have tags of one bucket. No tag is there twice.
pub record Tags (f : ℕ → ℕ) (k a : ℕ) (ns : List ℕ) : Type 0 where
  pub items : List (At Tag)
  pub chain : Chain f a (map tag_cell items)
  pub good : GoodTags k items
  pub lie : (id : List ℕ) → ((m : ℕ) → Among m ns → HasId f m id → ⊥) → NoTag id items
  pub numbers : numbers (map tag_cell items) ≡ ns

-- two cells have no tag in common
pub not_twice : (f : ℕ → ℕ) (n m : ℕ) (t : Tag) → Once f → InCells n → InCells m → n ≢ m → HasTag f n t → HasId f m t.id → ⊥
not_twice f n m t once i j other lies has =
    ⊎_elim
    (λ (below : n < m). (once n i).none t lies m below (omega (arith, j.1)) has)
    (λ (above : m ≤ n).
    let less : m < n = omega arith in
    (once m j).none has.item has.lies n less (omega (arith, i.1)) (record { item = t; lies = lies; is = sym has.is }))
    (cases_lt n m)

pub tags_along : (f : ℕ → ℕ) (k a : ℕ) (ns : List ℕ) → ((i : ℕ) → f i < 256) → Once f → Walk f (index_at f a) ns → ((n : ℕ) → Among n ns → GoodTag f n k) → Tags f k a ns
tags_along f k a [] small once e has = record { items = []; chain = index_bytes f a 0 small e; good = tt; lie = λ id none. tt; numbers = refl }
tags_along f k a (n ∷ ns) small once (e, i, walk) has =
    let g = has n (inl refl) in
    let rest = tags_along f k (cell_at n) ns small once walk (λ m h. has m (inr h)) in
    let later : NoTag g.item.id rest.items =
    rest.lie g.item.id
    (λ m h.
    let other : n ≢ m = λ (same : n ≡ m). walk_once f n ns walk (subst (λ (q : ℕ). Among q ns) (sym same) h) in
    not_twice f n m g.item once i (walk_in f (index_at f (cell_at n)) m ns walk h) other g.lies) in
    record {
      items = at n g.item ∷ rest.items;
      chain = (index_bytes f a n small e, i, g.lies.stands, rest.chain);
      good = (g.lies.fits, g.account, g.bucket, later, rest.good);
      lie = λ id none. (
        λ (same : g.item.id ≡ id). none n (inl refl) (record { item = g.item; lies = g.lies; is = same }),
        rest.lie id (λ m h. none m (inr h)),
      );
      numbers = ap (λ (ms : List ℕ). n ∷ ms) rest.numbers;
    }
