-- A memory that holds a book conserves what was issued, and its cells.
use Rattle.std.proofs.Common.{◌≡◌, ℕ, zero, suc, ◌+◌, ◌-◌, ◌*◌, ◌/◌, ◌%◌, ◌^◌, ◌<◌, ◌≤◌, List, [], ◌∷◌, length, get_or, take, sum, refl, sym, ap, ◌∙◌, subst, inl, inr, ⊎_elim, pow-suc, arith}
use Rattle.std.proofs.Math.Seq.{drop-cons}
use Rattle.std.proofs.lemmas.List.{drop_all, get_or_past}
use Rattle.std.proofs.lemmas.Bool.{cases_lt}
use Rattle.std.proofs.lemmas.Nat.{div_below}
use Rattle.record.specs.Fields.{digits, value, field}
use Rattle.book.specs.Layout.{byte_in, Stands, head_at, cell_at, Cell, InCells, first_of, Chain, Lies}
use Rattle.book.specs.Book.{Book, Chains, Holds, cells_of}
use Rattle.book.specs.Conserved.{IsHead, LeadsTo, MetOnce, Ends, Conserved}
use Rattle.book.proofs.Places.{head_cases, head_low, head_high}
use Rattle.book.proofs.Chaining.{chain_link, first_below, once}
use Rattle.book.proofs.Sums.{sum_same, sum_least}

-- The number in the bytes from a on, by its first byte and the others.
field_front : (memory : List ℕ) (a n : ℕ) → field a (suc n) memory ≡ get_or memory a 0 + 256 * field (suc a) n memory
field_front memory a n =
    ⊎_elim
    (λ (h : a < length memory). rw (drop-cons memory a 0 h) refl)
    (λ (h : length memory ≤ a).
    rw (drop_all a memory h, drop_all (suc a) memory (omega arith), get_or_past memory a 0 h) (nothing n))
    (cases_lt a (length memory))
  where
    nothing : (n : ℕ) → 0 ≡ 0 + 256 * value (take n [])
    nothing zero = refl
    nothing (suc n) = refl

-- a number that stands somewhere is the number there
pub field_stands : (n : ℕ) (memory : List ℕ) (a x : ℕ) → x < 256 ^ n → Stands (byte_in memory) a (digits n x) → field a n memory ≡ x
unfolding digits
field_stands zero memory a x fits stands = omega arith
field_stands (suc n) memory a x fits stands =
    let first : get_or memory (a + 0) 0 ≡ x % 256 = stands 0 (omega arith) in
    let here : a + 0 ≡ a = omega arith in
    let front : get_or memory a 0 ≡ x % 256 = subst (λ (i : ℕ). get_or memory i 0 ≡ x % 256) here first in
    let others : field (suc a) n memory ≡ x / 256 =
    field_stands n memory (suc a) (x / 256) (div_below x 256 (256 ^ n) (omega arith) (rw (pow-suc 256 n) at fits))
    (λ i h. let e : a + suc i ≡ suc a + i = omega arith in subst (λ (j : ℕ). get_or memory j 0 ≡ get_or (digits n (x / 256)) i 0) e (stands (suc i) (omega arith))) in
    omega (arith, field_front memory a n, front, others)

-- the index that leads to a chain
next_is : (memory : List ℕ) (a : ℕ) (cs : List Cell) → Chain (byte_in memory) a cs → field a 2 memory ≡ first_of cs
next_is memory a cs h =
    field_stands 2 memory a (first_of cs) (omega (arith, first_below (byte_in memory) a cs h)) (chain_link (byte_in memory) a cs h)

-- along a chain, one leads to its cells and to no others
leads_lies : (memory : List ℕ) (a k n : ℕ) (cs : List Cell) → Chain (byte_in memory) a cs → InCells n → LeadsTo memory a k n → Lies n cs
leads_lies memory a zero n [] h i l = absurd (omega (arith, next_is memory a [] h))
leads_lies memory a (suc k) n [] h i l = absurd (omega (arith, next_is memory a [] h, l.0.0))
leads_lies memory a zero n (c ∷ cs) h i l = inl (sym (next_is memory a (c ∷ cs) h) ∙ l)
leads_lies memory a (suc k) n (c ∷ cs) h i l =
    inr (leads_lies memory (cell_at c.number) k n cs h.3 i (subst (λ (m : ℕ). LeadsTo memory (cell_at m) k n) (next_is memory a (c ∷ cs) h) l.1))

lies_leads : (memory : List ℕ) (a n : ℕ) (cs : List Cell) → Chain (byte_in memory) a cs → Lies n cs → (k : ℕ) × LeadsTo memory a k n
lies_leads memory a n [] h l = absurd l
lies_leads memory a n (c ∷ cs) h (inl e) = (zero, next_is memory a (c ∷ cs) h ∙ e)
lies_leads memory a n (c ∷ cs) h (inr l) =
    let r = lies_leads memory (cell_at c.number) n cs h.3 l in
    let e = sym (next_is memory a (c ∷ cs) h) in
    (suc r.0, (subst InCells e h.1, subst (λ (m : ℕ). LeadsTo memory (cell_at m) r.0 n) e r.1))

-- once each
same_place : (memory : List ℕ) (a k j n : ℕ) (cs : List Cell) → Chain (byte_in memory) a cs → InCells n → LeadsTo memory a k n → LeadsTo memory a j n → k ≡ j
same_place memory a zero zero n cs h i l m = refl
same_place memory a zero (suc j) n [] h i l m = absurd (omega (arith, next_is memory a [] h))
same_place memory a (suc k) j n [] h i l m = absurd (omega (arith, next_is memory a [] h, l.0.0))
same_place memory a zero (suc j) n (c ∷ cs) h i l m =
    let e = next_is memory a (c ∷ cs) h in
    let lies = leads_lies memory (cell_at c.number) j n cs h.3 i (subst (λ (q : ℕ). LeadsTo memory (cell_at q) j n) e m.1) in
    absurd (once (byte_in memory) a c cs h (subst (λ (q : ℕ). Lies q cs) (sym l ∙ e) lies))
same_place memory a (suc k) zero n (c ∷ cs) h i l m =
    let e = next_is memory a (c ∷ cs) h in
    let lies = leads_lies memory (cell_at c.number) k n cs h.3 i (subst (λ (q : ℕ). LeadsTo memory (cell_at q) k n) e l.1) in
    absurd (once (byte_in memory) a c cs h (subst (λ (q : ℕ). Lies q cs) (sym m ∙ e) lies))
same_place memory a (suc k) (suc j) n (c ∷ cs) h i l m =
    let e = next_is memory a (c ∷ cs) h in
    ap suc
    (same_place memory (cell_at c.number) k j n cs h.3 i
    (subst (λ (q : ℕ). LeadsTo memory (cell_at q) k n) e l.1)
    (subst (λ (q : ℕ). LeadsTo memory (cell_at q) j n) e m.1))

chain_ends : (memory : List ℕ) (a : ℕ) (cs : List Cell) → Chain (byte_in memory) a cs → Ends memory a
chain_ends memory a [] h = (zero, next_is memory a [] h)
chain_ends memory a (c ∷ cs) h =
    let r = chain_ends memory (cell_at c.number) cs h.3 in
    let e = sym (next_is memory a (c ∷ cs) h) in
    (suc r.0, (subst InCells e h.1, subst (λ (m : ℕ). LeadsTo memory (cell_at m) r.0 0) e r.1))

-- the chains by their numbers and by their heads
head_number : (h : ℕ) → IsHead h → (c : ℕ) × (c < 81) × (head_at c ≡ h)
head_number h (inl e) = (0, omega arith, sym e)
head_number h (inr (inl (a, some, few, e))) = (a, omega arith, head_low a few ∙ sym e)
head_number h (inr (inr (k, few, e))) =
    (65 + k, omega arith, head_high (65 + k) (omega arith) ∙ omega arith)

number_head : (c : ℕ) → c < 81 → IsHead (head_at c)
number_head c below =
    elim (head_cases c) [
      | inl (low, e) ↦
          ⊎_elim
          (λ (z : c < 1). inl (omega arith))
          (λ (some : 1 ≤ c). inr (inl (c, some, low, e)))
          (cases_lt c 1)
      | inr (high, e) ↦ inr (inr (c - 65, omega arith, e))
    ]

-- each cell on one chain
met_once : (memory : List ℕ) (b : Book) → Chains (byte_in memory) b → (n : ℕ) → InCells n → MetOnce memory n
met_once memory b h n i =
    let s = h.some n i in
    let here = lies_leads memory (head_at s.0) n (cells_of b s.0) (h.chain s.0 s.1) s.2 in
    record {
      head = head_at s.0;
      is_head = number_head s.0 s.1;
      behind = here.0;
      met = here.1;
      once = λ g k is l.
          let c = head_number g is in
          let m : LeadsTo memory (head_at c.0) k n = subst (λ (q : ℕ). LeadsTo memory q k n) (sym c.2) l in
          let lies = leads_lies memory (head_at c.0) k n (cells_of b c.0) (h.chain c.0 c.1) i m in
          let same : c.0 ≡ s.0 = h.one n c.0 s.0 c.1 s.1 lies s.2 in
          let e : g ≡ head_at s.0 = sym c.2 ∙ ap head_at same in
          (e, same_place memory (head_at s.0) k here.0 n (cells_of b s.0) (h.chain s.0 s.1) i (subst (λ (q : ℕ). LeadsTo memory q k n) e l) here.1);
    }

pub conserving : (memory issued : List ℕ) (b : Book) → Holds (byte_in memory) b → b.issued ≡ sum issued → Conserved memory issued
conserving memory issued b h is =
    record {
      total = field_stands 8 memory 0 b.issued (omega (arith, h.money.bound)) h.money.issued ∙ is;
      balances =
          sum_same 64 (λ a. field (16 * a) 8 memory) b.balances
          (λ a some few.
          field_stands 8 memory (16 * a) (b.balances a)
          (omega (arith, sum_least 64 a b.balances some few, h.money.sum, h.money.bound))
          (h.money.balance a (some, few)))
          ∙ h.money.sum ∙ is;
      cells = met_once memory b h.chains;
      ends = λ g is.
          let c = head_number g is in
          subst (Ends memory) c.2 (chain_ends memory (head_at c.0) (cells_of b c.0) (h.chains.chain c.0 c.1));
    }
