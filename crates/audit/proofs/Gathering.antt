-- All that was found makes a book.
use Rattle.std.proofs.Common.{◌≡◌, ℕ, ◌+◌, ◌-◌, ◌<◌, ◌≤◌, List, [], map, Some, None, Option, sym, ◌∙◌, subst, inl, inr, ⊎_elim, arith}
use Rattle.std.proofs.lemmas.Bool.{cases_lt}
use Rattle.book.specs.declared.records.Tag.{Tag}
use Rattle.book.specs.declared.records.Entry.{Entry}
use Rattle.book.specs.Layout.{Chain, Cell, head_at, Lies}
use Rattle.book.specs.Book.{Book, At, Chains, Records, IsAccount, GoodEntries, GoodTags, free_cell, entry_cell, tag_cell, cells_of}
use Rattle.book.proofs.Threads.{chain_cases, cells_account, cells_bucket}
use Rattle.book.proofs.Chaining.{numbers}
use Rattle.audit.specs.Owners.{index_at, Among, owner, Listed, Met, Owned}
use Rattle.audit.specs.Contents.{IsFree, GoodEntry, GoodTag, Fits, FitsOwner, AllFit, Once}
use Rattle.audit.proofs.Walks.{walk_same, walk_in, chain_walks, lies_among, among_lies}
use Rattle.audit.proofs.Marking.{cases_option}
use Rattle.audit.proofs.Books.{free_chain, free_numbers, entries_along, tags_along}

-- What was found of a memory.
pub record Found (f : ℕ → ℕ) (owners : List (Option ℕ)) : Type 0 where
  pub small : (i : ℕ) → f i < 256
  pub owned : Owned f owners 81
  pub fit : AllFit f owners
  pub once : Once f

-- These cells are those of chain c.
pub record OnChain (f : ℕ → ℕ) (owners : List (Option ℕ)) (c : ℕ) (cells : List Cell) : Type 0 where
  pub chain : Chain f (head_at c) cells
  pub here : (n : ℕ) → Among n (numbers cells) → owner owners n ≡ Some c

-- Each cell of a chain fits it.
fits_on : (f : ℕ → ℕ) (owners : List (Option ℕ)) (c : ℕ) → AllFit f owners → (l : Listed f owners c) → (n : ℕ) → Among n l.cells → Fits f n c
fits_on f owners c fit l n among = subst (λ (o : Option ℕ). FitsOwner f n o) (l.here n among) (fit n (walk_in f (index_at f (head_at c)) n l.cells l.walk among))

-- the cells of a list are on its chain
on_chain : (f : ℕ → ℕ) (owners : List (Option ℕ)) (c : ℕ) (cells : List Cell) (l : Listed f owners c) → Chain f (head_at c) cells → numbers cells ≡ l.cells → OnChain f owners c cells
on_chain f owners c cells l chain e = record { chain = chain; here = λ n among. l.here n (subst (λ (ns : List ℕ). Among n ns) e among) }

-- The free cells,
pub record FreeOf (f : ℕ → ℕ) (owners : List (Option ℕ)) : Type 0 where
  pub items : List ℕ
  pub on : OnChain f owners 0 (map free_cell items)

pub free_of : (f : ℕ → ℕ) (owners : List (Option ℕ)) → Found f owners → FreeOf f owners
free_of f owners h =
    let l = h.owned.listed 0 (omega arith) in
    let free : (n : ℕ) → Among n l.cells → IsFree f n =
    λ n among.
    elim (fits_on f owners 0 h.fit l n among) [
      | inl x ↦ x.1
      | inr (inl x) ↦ absurd (omega (arith, x.0.0))
      | inr (inr x) ↦ absurd (omega (arith, x.0))
    ] in
    record { items = l.cells; on = on_chain f owners 0 (map free_cell l.cells) l (free_chain f (head_at 0) l.cells h.small l.walk free) (free_numbers l.cells) }

-- the entries of an account,
pub record EntriesOf (f : ℕ → ℕ) (owners : List (Option ℕ)) (a : ℕ) (items : List (At Entry)) : Type 0 where
  pub on : OnChain f owners a (map entry_cell items)
  pub good : GoodEntries items

entries_of : (f : ℕ → ℕ) (owners : List (Option ℕ)) → Found f owners → (a : ℕ) → IsAccount a → (items : List (At Entry)) × EntriesOf f owners a items
entries_of f owners h a i =
    let l = h.owned.listed a (omega (arith, i.1)) in
    let has : (n : ℕ) → Among n l.cells → GoodEntry f n =
    λ n among.
    elim (fits_on f owners a h.fit l n among) [
      | inl x ↦ absurd (omega (arith, i.0, x.0))
      | inr (inl x) ↦ x.1
      | inr (inr x) ↦ absurd (omega (arith, i.1, x.0))
    ] in
    let e = entries_along f (head_at a) l.cells h.small l.walk has in
    (e.items, record { on = on_chain f owners a (map entry_cell e.items) l e.chain e.numbers; good = e.good })

pub some_entries : (f : ℕ → ℕ) (owners : List (Option ℕ)) → Found f owners → (a : ℕ) → (items : List (At Entry)) × (IsAccount a → EntriesOf f owners a items)
some_entries f owners h a =
    ⊎_elim
    (λ (none : a < 1). ([], λ i. absurd (omega (arith, i.0))))
    (λ (low : 1 ≤ a).
    ⊎_elim
    (λ (high : a < 65). let e = entries_of f owners h a (low, omega arith) in (e.0, λ _. e.1))
    (λ (past : 65 ≤ a). ([], λ i. absurd (omega (arith, i.1))))
    (cases_lt a 65))
    (cases_lt a 1)

-- and the tags of a bucket.
pub record TagsOf (f : ℕ → ℕ) (owners : List (Option ℕ)) (k : ℕ) (items : List (At Tag)) : Type 0 where
  pub on : OnChain f owners (65 + k) (map tag_cell items)
  pub good : GoodTags k items

tags_of : (f : ℕ → ℕ) (owners : List (Option ℕ)) → Found f owners → (k : ℕ) → k < 16 → (items : List (At Tag)) × TagsOf f owners k items
tags_of f owners h k i =
    let l = h.owned.listed (65 + k) (omega arith) in
    let e : 65 + k - 65 ≡ k = omega arith in
    let has : (n : ℕ) → Among n l.cells → GoodTag f n k =
    λ n among.
    elim (fits_on f owners (65 + k) h.fit l n among) [
      | inl x ↦ absurd (omega (arith, x.0))
      | inr (inl x) ↦ absurd (omega (arith, x.0.1))
      | inr (inr x) ↦ subst (λ (j : ℕ). GoodTag f n j) e x.1
    ] in
    let t = tags_along f k (head_at (65 + k)) l.cells h.small h.once l.walk has in
    (t.items, record { on = on_chain f owners (65 + k) (map tag_cell t.items) l t.chain t.numbers; good = t.good })

pub some_tags : (f : ℕ → ℕ) (owners : List (Option ℕ)) → Found f owners → (k : ℕ) → (items : List (At Tag)) × (k < 16 → TagsOf f owners k items)
some_tags f owners h k =
    ⊎_elim
    (λ (low : k < 16). let t = tags_of f owners h k low in (t.0, λ _. t.1))
    (λ (past : 16 ≤ k). ([], λ i. absurd (omega arith)))
    (cases_lt k 16)

-- The book with them, with no money.
abbrev pub gathered : (f : ℕ → ℕ) (owners : List (Option ℕ)) → Found f owners → Book
gathered f owners h =
    record {
      issued = 0;
      balances = λ _. 0;
      free = (free_of f owners h).items;
      entries = λ a. (some_entries f owners h a).0;
      tags = λ k. (some_tags f owners h k).0;
    }

on_each : (f : ℕ → ℕ) (owners : List (Option ℕ)) (h : Found f owners) (c : ℕ) → c < 81 → OnChain f owners c (cells_of (gathered f owners h) c)
on_each f owners h c below =
    let b = gathered f owners h in
    elim (chain_cases c below) [
      | inl e ↦ subst (λ (d : ℕ). OnChain f owners d (cells_of b d)) (sym e) (free_of f owners h).on
      | inr (inl a) ↦ subst (OnChain f owners c) (sym (cells_account b c a)) ((some_entries f owners h c).1 a).on
      | inr (inr k) ↦
          let e : 65 + (c - 65) ≡ c = omega (arith, k.0) in
          let i : c - 65 < 16 = omega (arith, k.1) in
          subst (OnChain f owners c) (sym (cells_bucket b c k))
          (subst (λ (d : ℕ). OnChain f owners d (map tag_cell (b.tags (c - 65)))) e ((some_tags f owners h (c - 65)).1 i).on)
    ]

-- A cell that was met on a chain lies on it.
lies_on : (f : ℕ → ℕ) (owners : List (Option ℕ)) (n c : ℕ) (cells : List Cell) → OnChain f owners c cells → Met f n c → Lies n cells
lies_on f owners n c cells on met =
    among_lies n cells
    (subst (λ (ns : List ℕ). Among n ns)
    (walk_same f (index_at f (head_at c)) met.cells (numbers cells) met.walk (chain_walks f (head_at c) cells on.chain))
    met.among)

pub gathered_chains : (f : ℕ → ℕ) (owners : List (Option ℕ)) (h : Found f owners) → Chains f (gathered f owners h)
gathered_chains f owners h =
    let b = gathered f owners h in
    record {
      chain = λ c below. (on_each f owners h c below).chain;
      some = λ n i.
          ⊎_elim
          (λ (e : owner owners n ≡ None). absurd (subst (λ (o : Option ℕ). FitsOwner f n o) e (h.fit n i)))
          (λ (c, e).
          let met = h.owned.met n c i e in
          (c, met.0, lies_on f owners n c (cells_of b c) (on_each f owners h c met.0) met.1))
          (cases_option (owner owners n));
      one = λ n c d hc hd lc ld.
          let ec = (on_each f owners h c hc).here n (lies_among n (cells_of b c) lc) in
          let ed = (on_each f owners h d hd).here n (lies_among n (cells_of b d) ld) in
          let options : Some c ≡ Some d = sym ec ∙ ed in
          let e : c ≡ d = cc in
          e;
    }

pub gathered_records : (f : ℕ → ℕ) (owners : List (Option ℕ)) (h : Found f owners) → Records (gathered f owners h)
gathered_records f owners h =
    record {
      entries = λ a i. ((some_entries f owners h a).1 i).good;
      tags = λ k i. ((some_tags f owners h k).1 i).good;
    }
