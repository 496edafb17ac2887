-- The cells of the free chain, one after another.
use Rattle.std.proofs.Common.{◌≡◌, ℕ, suc, ◌+◌, ◌-◌, ◌*◌, ◌/◌, ◌<◌, List, [], ◌∷◌, ◌++◌, length, replicate, set, sym, refl, ap, ◌∙◌, subst, append_assoc, arith, length-append}
use Rattle.std.proofs.Math.Nat.{mod-eq_of_lt}
use Rattle.std.proofs.lemmas.Bool.{ne_eqb}
use Rattle.std.proofs.lemmas.List.{set_at, append-nil, replicate-append-replicate}
use borrow.Rule.Slice.PartMut.{put_mid}
use Rattle.record.specs.Fields.{digits}
use Rattle.book.specs.Layout.{head_at, whole}
use Rattle.book.specs.Book.{free_cell}
use Rattle.book.specs.Edits.{edit, free_chain}

small_div : (x : ℕ) → x < 256 → x / 256 ≡ 0
small_div x h = omega arith

-- a cell whose next one is below 256: its number and zeros
cell_bytes : (next n : ℕ) → next < 256 → whole next (free_cell n) ≡ next ∷ replicate 23 0
unfolding digits
cell_bytes next n h = rw (mod-eq_of_lt h, small_div next h) refl

zeros_split : (m n : ℕ) → n ≡ m + 24 → replicate {A = ℕ} n 0 ≡ 0 ∷ (replicate {A = ℕ} 23 0 ++ replicate {A = ℕ} m 0)
zeros_split m n e =
    let a : 24 + m ≡ n = omega arith in
    sym (replicate-append-replicate {A = ℕ} 24 m 0 ∙ ap (λ (k : ℕ). replicate {A = ℕ} k 0) a)

-- Of the cells the first i are linked, and behind them there are zeros.
pub record Linking (i : ℕ) (bytes : List ℕ) : Type 0 where
  pub front : List ℕ
  pub long : length front ≡ 24 * i
  pub here : bytes ≡ front ++ replicate (4800 - 24 * i) 0
  pub rest : front ++ free_chain (i + 1) (200 - i) ≡ free_chain 1 200

pub linking_starts : (bytes : List ℕ) → bytes ≡ replicate 4800 0 → Linking 0 bytes
linking_starts bytes e = record { front = []; long = refl; here = e; rest = refl }

chain_next : (i k m n : ℕ) → i < 199 → k ≡ suc m → n ≡ i + 2 → free_chain (i + 1) k ≡ ((i + 2) ∷ replicate 23 0) ++ free_chain n m
unfolding free_chain
chain_next i k m n h e f =
    let ne = ne_eqb (i + 1) 200 (omega arith) in
    let two : i + 1 + 1 ≡ i + 2 = omega arith in
    rw (e, ne, two, f, cell_bytes (i + 2) (i + 1) (omega arith)) refl

last_cell : free_chain 200 1 ≡ replicate 24 0
unfolding free_chain digits
last_cell = refl

pub linking_goes : (i v k : ℕ) (bytes : List ℕ) → i < 199 → v ≡ i + 2 → k ≡ 24 * i → Linking i bytes → Linking (i + 1) (set bytes k v)
linking_goes i v k bytes h e f l =
    let cell = (i + 2) ∷ replicate {A = ℕ} 23 0 in
    let zeros = replicate {A = ℕ} (4800 - 24 * (i + 1)) 0 in
    let tail = replicate {A = ℕ} 23 0 ++ zeros in
    record {
      front = l.front ++ cell;
      long = simp length-append (omega (arith, l.long));
      here =
          ap (λ (ys : List ℕ). set ys k v) (l.here ∙ ap (λ (zs : List ℕ). l.front ++ zs) (zeros_split (4800 - 24 * (i + 1)) (4800 - 24 * i) (omega arith)))
          ∙ set_at l.front 0 tail v k (l.long ∙ sym f)
          ∙ ap (λ (w : ℕ). l.front ++ w ∷ tail) e
          ∙ sym (joins l.front cell zeros);
      rest =
          joins l.front cell (free_chain (i + 1 + 1) (200 - (i + 1)))
          ∙ ap (λ (zs : List ℕ). l.front ++ zs) (sym (chain_next i (200 - i) (200 - (i + 1)) (i + 1 + 1) h (omega arith) (omega arith)))
          ∙ l.rest;
    }
  where
    joins : (a b c : List ℕ) → (a ++ b) ++ c ≡ a ++ (b ++ c)
    joins a b c = rw append_assoc refl

pub linking_ends : (i : ℕ) (bytes : List ℕ) → i ≡ 199 → Linking i bytes → bytes ≡ free_chain 1 200
linking_ends i bytes e l =
    let m = subst (λ (k : ℕ). Linking k bytes) e l in
    m.here ∙ ap (λ (zs : List ℕ). m.front ++ zs) (sym last_cell) ∙ m.rest

-- A cell's fields written over zeros.
pub laid_cell : (f d content : List ℕ) (next kind : ℕ) → f ≡ digits 2 next → d ≡ content → put_mid 4 20 (set (f ++ replicate 22 0) 2 kind) d ≡ digits 2 next ++ (kind ∷ 0 ∷ content)
unfolding digits
laid_cell f d content next kind e k = rw (e, k) (rw append-nil refl)

-- the head of the free chain as bytes
pub head_edit : edit 8 (1 ∷ 0 ∷ []) ≡ edit (head_at 0) (digits 2 1)
unfolding digits
head_edit = refl
