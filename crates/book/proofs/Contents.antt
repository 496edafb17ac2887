-- The bytes of a record as the code makes and reads them.
use Rattle.std.proofs.Common.{◌≡◌, ℕ, ◌+◌, ◌<◌, ◌≤◌, Bool, true, false, not, List, ◌++◌, length, get_or, take, drop, replicate, ⊎_elim, sym, refl, ap, ◌∙◌, arith}
use Rattle.std.proofs.lemmas.List.{take_at, drop_at, append_assoc, take-append-drop, drop-drop, take_all, get_or-take, get_or-drop, get_or_past, length-take, length-drop, length-append}
use Rattle.std.proofs.lemmas.Nat.{le_bytes_2, le_bytes_8}
use Rattle.std.specs.Int.{w16, w64, from_le_bytes}
use Rattle.std.specs.Cmp.Lexicographic.{same_text, other_text}
use Rattle.std.specs.Str.{bytes_eq}
use Rattle.std.proofs.lemmas.Bool.{cases_lt}
use borrow.Rule.Slice.PartMut.{put_mid, mid_of}
use Rattle.record.specs.Fields.{digits}
use Rattle.record.proofs.Numbers.{bytes_2, bytes_8}
use Rattle.book.specs.Records.{laid}

two_long : (x : ℕ) → length (digits 2 x) ≡ 2
unfolding digits
two_long x = refl

-- written over zeros
pub put_laid : (front f d : List ℕ) (account : ℕ) → length front ≡ 8 → f ≡ front → d ≡ digits 2 account → put_mid 8 2 (f ++ replicate 12 0) d ≡ laid front account
put_laid front f d account h e k =
    ap (λ (bs : List ℕ). put_mid 8 2 (bs ++ replicate 12 0) d) e
    ∙ ap (λ (bs : List ℕ). put_mid 8 2 (front ++ replicate 12 0) bs) k
    ∙ ap (λ (bs : List ℕ). bs ++ (digits 2 account ++ drop 2 (drop 8 (front ++ replicate 12 0)))) (take_at front (replicate 12 0) 8 h)
    ∙ ap (λ (bs : List ℕ). front ++ (digits 2 account ++ drop 2 bs)) (drop_at front (replicate 12 0) 8 h)

-- read, where zeros follow
pub read_laid : (bytes front two : List ℕ) (n : ℕ) → length bytes ≡ 20 → ((i : ℕ) → get_or bytes i 0 < 256) → front ≡ take 8 bytes → two ≡ take 2 (drop 8 bytes)
    → n ≡ from_le_bytes w16 two → mid_of 10 10 bytes ≡ replicate 10 0 → laid front n ≡ bytes
read_laid bytes front two n h small e f g k =
    let l : length two ≡ 2 = rw f (simp (length-take, length-drop) (omega arith)) in
    let d : digits 2 n ≡ two = sym (bytes_2 n) ∙ le_bytes_2 two n l below g in
    let z : drop 10 bytes ≡ replicate 10 0 = sym whole ∙ k in
    ap (λ (bs : List ℕ). bs ++ (digits 2 n ++ replicate 10 0)) e
    ∙ ap (λ (bs : List ℕ). take 8 bytes ++ (bs ++ replicate 10 0)) (d ∙ f)
    ∙ ap (λ (bs : List ℕ). take 8 bytes ++ (take 2 (drop 8 bytes) ++ bs)) (sym z ∙ sym (drop-drop 2 8 bytes))
    ∙ ap (λ (bs : List ℕ). take 8 bytes ++ bs) (take-append-drop 2 (drop 8 bytes))
    ∙ take-append-drop 8 bytes
  where
    l2 : length two ≡ 2
    l2 = rw f (simp (length-take, length-drop) (omega arith))

    below : (i : ℕ) → get_or two i 0 < 256
    below i = ⊎_elim (λ (a : i < 2). omega (arith, ap (λ (bs : List ℕ). get_or bs i 0) f, get_or-take 2 (drop 8 bytes) i 0 a, get_or-drop 8 bytes i 0, small (8 + i))) (λ (a : 2 ≤ i). omega (arith, get_or_past two i 0 (omega (arith, l2)))) (cases_lt i 2)

    whole : mid_of 10 10 bytes ≡ drop 10 bytes
    whole = take_all 10 (drop 10 bytes) (simp length-drop (omega arith))

not_so : (b : Bool) → true ≡ not b → false ≡ b
not_so true e = sym e
not_so false e = refl

is_so : (b : Bool) → false ≡ not b → true ≡ b
is_so true e = refl
is_so false e = sym e

-- what the test of the zeros tells
pub zeros_told : (bytes : List ℕ) → false ≡ not (bytes_eq (mid_of 10 10 bytes) (replicate 10 0)) → mid_of 10 10 bytes ≡ replicate 10 0
zeros_told bytes e = same_text (mid_of 10 10 bytes) (replicate 10 0) (is_so (bytes_eq (mid_of 10 10 bytes) (replicate 10 0)) e)

pub nothing_laid : (bytes : List ℕ) → true ≡ not (bytes_eq (mid_of 10 10 bytes) (replicate 10 0)) → (front : List ℕ) (account : ℕ) → length front ≡ 8 → laid front account ≡ bytes → ⊥
nothing_laid bytes e front account h k =
    other_text (mid_of 10 10 bytes) (replicate 10 0) (not_so (bytes_eq (mid_of 10 10 bytes) (replicate 10 0)) e) (sym (ap (λ (bs : List ℕ). mid_of 10 10 bs) k) ∙ tail)
  where
    long : length (front ++ digits 2 account) ≡ 10
    long = length-append front (digits 2 account) ∙ ap (λ (n : ℕ). n + length (digits 2 account)) h ∙ ap (λ (n : ℕ). 8 + n) (two_long account)

    tail : mid_of 10 10 (laid front account) ≡ replicate 10 0
    tail =
        ap (λ (bs : List ℕ). take 10 (drop 10 bs)) (sym (append_assoc front (digits 2 account) (replicate 10 0)))
        ∙ ap (λ (bs : List ℕ). take 10 bs) (drop_at (front ++ digits 2 account) (replicate 10 0) 10 long)

pub eight_long : (x : ℕ) → length (digits 8 x) ≡ 8
unfolding digits
eight_long x = refl

-- the number that is read from 8 bytes is written in them
pub eight_read : (bytes : List ℕ) (n : ℕ) → length bytes ≡ 8 → ((i : ℕ) → get_or bytes i 0 < 256) → n ≡ from_le_bytes w64 bytes → digits 8 n ≡ bytes
eight_read bytes n h small e = sym (bytes_8 n) ∙ le_bytes_8 bytes n h small e
