-- Edits of money alone, and of chains alone, leave the other parts of a ledger.
use Rattle.std.proofs.Common.{◌≡◌, ℕ, ◌+◌, ◌<◌, ◌≤◌, ◌≢◌, ◌⊎◌, false, List, [], ◌∷◌, length, map, refl, ap, subst, inl, inr, arith}
use Rattle.record.specs.Fields.{digits}
use Rattle.book.specs.Layout.{balance_at, head_at, cell_at, Cell, cell, InCells, first_of, Chain}
use Rattle.book.specs.Book.{Book, IsAccount, Money, Zeros, Records, Chains, Holds, free_cell, cells_of}
use Rattle.book.specs.Rows.{is_empty}
use Rattle.book.specs.Edits.{Edit, edit, after_edits, head_or_0, rest_of, put_in_front}
use Rattle.book.proofs.Standing.{Kept, Misses, AllMiss, edits_keep, digits_length}
use Rattle.book.proofs.Places.{Apart, head_within, balance_head, zeros_head, zeros_balance}
use Rattle.book.proofs.Keeping.{money_kept, zeros_kept}
use Rattle.book.proofs.Threads.{Threads, threads, chains_of, chains_kept}
use Rattle.book.proofs.Putting.{putting, putting_misses, Put, threads_put}
use Rattle.book.proofs.Passing.{has_front}

-- Each of these edits is of the total, or of a balance.
abbrev pub IsMoney : Edit → Type 0
IsMoney x = (length x.bytes ≡ 8) × ((x.start ≡ 0) ⊎ ((a : ℕ) × IsAccount a × (x.start ≡ balance_at a)))

abbrev pub AllMoney : List Edit → Type 0
AllMoney [] = Unit {0}
AllMoney (x ∷ xs) = IsMoney x × AllMoney xs

pub total_is_money : (n : ℕ) → IsMoney (edit 0 (digits 8 n))
total_is_money n = (digits_length 8 n, inl refl)

pub balance_is_money : (a n : ℕ) → IsAccount a → IsMoney (edit (balance_at a) (digits 8 n))
balance_is_money a n h = (digits_length 8 n, inr (a, h, refl))

flip : (a n b m : ℕ) → Apart a n b m → Apart b m a n
flip a n b m (inl h) = inr h
flip a n b m (inr h) = inl h

-- what lies apart from the total and from each balance misses them
misses_money : (a n : ℕ) (x : Edit) → 8 ≤ a → ((d : ℕ) → IsAccount d → Apart a n (balance_at d) 8) → IsMoney x → Misses a n x
misses_money a n x h k (long, inl e) = inr (omega arith)
misses_money a n x h k (long, inr (d, i, e)) = apart (k d i)
  where
    apart : Apart a n (balance_at d) 8 → Misses a n x
    apart (inl l) = inl (omega arith)
    apart (inr l) = inr (omega arith)

miss_money : (a n : ℕ) (xs : List Edit) → 8 ≤ a → ((d : ℕ) → IsAccount d → Apart a n (balance_at d) 8) → AllMoney xs → AllMiss a n xs
miss_money a n [] h k m = tt
miss_money a n (x ∷ xs) h k (m, ms) = (misses_money a n x h k m, miss_money a n xs h k ms)

money_keeps : (xs : List Edit) (f : ℕ → ℕ) (a n : ℕ) → AllMoney xs → 8 ≤ a → ((d : ℕ) → IsAccount d → Apart a n (balance_at d) 8) → Kept f (after_edits xs f) a n
money_keeps xs f a n m h k = edits_keep xs f a n (miss_money a n xs h k m)

-- edits of money leave the chains and the zeros
pub chains_beside : (xs : List Edit) (f : ℕ → ℕ) (b : Book) → AllMoney xs → Records b → Chains f b → Chains (after_edits xs f) b
chains_beside xs f b m r h =
    chains_kept f (after_edits xs f) b
    (λ c l.
    let w = head_within c l in
    money_keeps xs f (head_at c) 2 m w.0 (λ d i. flip (balance_at d) 8 (head_at c) 2 (balance_head d c i l)))
    (λ n l. money_keeps xs f (cell_at n) 24 m (omega arith) (λ d i. inr (omega arith)))
    r h

pub zeros_beside : (xs : List Edit) (f : ℕ → ℕ) → AllMoney xs → Zeros f → Zeros (after_edits xs f)
zeros_beside xs f m z =
    zeros_kept f (after_edits xs f)
    (money_keeps xs f 10 6 m (omega arith) (λ d i. inl (omega arith)))
    (λ a i. money_keeps xs f (balance_at a + 10) 6 m (omega arith) (λ d j. zeros_balance a d))
    (money_keeps xs f 5872 272 m (omega arith) (λ d i. inr (omega arith)))
    z

-- what is put in front of a chain leaves the money and the zeros
module _ (f : ℕ → ℕ) (c first : ℕ) (x : Cell) (next : ℕ) (below : c < 81) (long : length x.content ≡ 20) (inside : InCells x.number) where
  pub money_past_putting : (b : Book) → Money f b → Money (after_edits (putting c first x next) f) b
  money_past_putting b h =
      let w = head_within c below in
      money_kept f (after_edits (putting c first x next) f) b
      (edits_keep (putting c first x next) f 0 8
      (putting_misses 0 8 c first x next long (inl w.0) (inl (omega arith)) (inl (omega arith))))
      (λ a i. edits_keep (putting c first x next) f (balance_at a) 8
      (putting_misses (balance_at a) 8 c first x next long (balance_head a c i below) (inl (omega arith)) (inr (omega arith))))
      h

  pub zeros_past_putting : Zeros f → Zeros (after_edits (putting c first x next) f)
  zeros_past_putting z =
      let w = head_within c below in
      zeros_kept f (after_edits (putting c first x next) f)
      (edits_keep (putting c first x next) f 10 6
      (putting_misses 10 6 c first x next long (zeros_head 0 c (omega arith) below) (inl (omega arith)) (inr (omega arith))))
      (λ a i. edits_keep (putting c first x next) f (balance_at a + 10) 6
      (putting_misses (balance_at a + 10) 6 c first x next long (zeros_head a c i.1 below) (inl (omega arith)) (inr (omega arith))))
      (edits_keep (putting c first x next) f 5872 272
      (putting_misses 5872 272 c first x next long (inr (omega arith)) (inr (omega arith)) (inr (omega arith))))
      z

-- the index that leads to free cells
pub first_free : (ns : List ℕ) → first_of (map free_cell ns) ≡ head_or_0 ns
first_free [] = refl
first_free (n ∷ ns) = refl

-- The book `new` has the front free cell of `old` in front of chain c, with this kind and content.
pub record InFront (old new : Book) (c kind : ℕ) (content : List ℕ) : Type 0 where
  pub some : 1 ≤ c
  pub below : c < 81
  pub long : length content ≡ 20
  pub free : is_empty old.free ≡ false
  pub after : new.free ≡ rest_of old.free
  pub front : cells_of new c ≡ cell (head_or_0 old.free) kind content ∷ cells_of old c
  pub others : (d : ℕ) → d < 81 → d ≢ 0 → d ≢ c → cells_of new d ≡ cells_of old d

module _ (f : ℕ → ℕ) (old new : Book) (c kind : ℕ) (content : List ℕ) (p : InFront old new c kind content) where
  free_cells : map free_cell old.free ≡ free_cell (head_or_0 old.free) ∷ map free_cell (rest_of old.free)
  free_cells = ap (λ (ns : List ℕ). map free_cell ns) (has_front old.free p.free)

  put_in : Put (cells_of old) (cells_of new) c (cell (head_or_0 old.free) kind content) (free_cell (head_or_0 old.free)) (map free_cell (rest_of old.free))
  put_in =
      record {
        some = p.some;
        below = p.below;
        long = p.long;
        free = free_cells;
        number = refl;
        after = ap (λ (ns : List ℕ). map free_cell ns) p.after;
        front = p.front;
        others = p.others;
      }

  pub chains_in_front : Records old → Chains f old → Chains (after_edits (put_in_front old c kind content) f) new
  chains_in_front r h =
      chains_of (after_edits (put_in_front old c kind content) f) new
      (subst
      (λ (next : ℕ). Threads (after_edits (putting c (first_of (cells_of old c)) (cell (head_or_0 old.free) kind content) next) f) (cells_of new))
      (first_free (rest_of old.free))
      (threads_put f (cells_of old) (cells_of new) c (cell (head_or_0 old.free) kind content) (free_cell (head_or_0 old.free)) (map free_cell (rest_of old.free)) (threads f old h r) put_in))

  -- the front free cell is one of the 200
  front_in : Chains f old → InCells (head_or_0 old.free)
  front_in h = (subst (Chain f (head_at 0)) free_cells (h.chain 0 (omega arith))).1

  -- all of the ledger after it
  pub holds_in_front : Records old → Chains f old → Money f new → Zeros f → Records new → Holds (after_edits (put_in_front old c kind content) f) new
  holds_in_front r h money zeros records =
      record {
        money = money_past_putting f c (first_of (cells_of old c)) (cell (head_or_0 old.free) kind content) (head_or_0 (rest_of old.free)) p.below p.long (front_in h) new money;
        chains = chains_in_front r h;
        records = records;
        zeros = zeros_past_putting f c (first_of (cells_of old c)) (cell (head_or_0 old.free) kind content) (head_or_0 (rest_of old.free)) p.below p.long (front_in h) zeros;
      }
