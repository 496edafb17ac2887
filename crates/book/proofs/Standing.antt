-- Bytes that stand in the memory, before edits and after them.
use Rattle.std.proofs.Common.{◌≡◌, ℕ, zero, suc, ◌+◌, ◌-◌, ◌/◌, ◌%◌, ◌<◌, ◌≤◌, ◌⊎◌, List, [], ◌∷◌, ◌++◌, length, get_or, replicate, sym, refl, ap, ◌∙◌, inl, inr, arith, length-append}
use Rattle.record.specs.Fields.{digits}
use Rattle.journal.specs.Memory.{overlaid}
use Rattle.journal.proofs.Overlay.{overlaid_below, overlaid_within, overlaid_above}
use Rattle.book.specs.declared.records.Tag.{Tag}
use Rattle.book.specs.declared.records.Entry.{Entry}
use Rattle.book.specs.Records.{tag_content, entry_content, blank_content}
use Rattle.book.specs.Layout.{Stands, Cell, held, whole}
use Rattle.book.specs.Edits.{Edit, after_edits}

-- The n bytes from a on are the same in both memories.
abbrev pub Kept : (ℕ → ℕ) → (ℕ → ℕ) → ℕ → ℕ → Type 0
Kept f g a n = (i : ℕ) → i < n → g (a + i) ≡ f (a + i)

pub stands_kept : (f g : ℕ → ℕ) (a : ℕ) (bytes : List ℕ) → Kept f g a (length bytes) → Stands f a bytes → Stands g a bytes
stands_kept f g a bytes k s i h = k i h ∙ s i h

-- a part of what is kept is kept
pub kept_part : (f g : ℕ → ℕ) (a n d m : ℕ) → d + m ≤ n → Kept f g a n → Kept f g (a + d) m
kept_part f g a n d m h k i l =
    let e : a + (d + i) ≡ a + d + i = omega arith in
    ap g (sym e) ∙ k (d + i) (omega arith) ∙ ap f e

pub kept_shorter : (f g : ℕ → ℕ) (a n m : ℕ) → m ≤ n → Kept f g a n → Kept f g a m
kept_shorter f g a n m h k i l = k i (omega arith)

-- The n bytes from a on, and what an edit writes, have no byte in common; and so for each of these edits.
abbrev pub Misses : ℕ → ℕ → Edit → Type 0
Misses a n x = (a + n ≤ x.start) ⊎ (x.start + length x.bytes ≤ a)

abbrev pub AllMiss : ℕ → ℕ → List Edit → Type 0
AllMiss a n [] = Unit {0}
AllMiss a n (x ∷ xs) = Misses a n x × AllMiss a n xs

-- One edit made.
abbrev pub put : Edit → (ℕ → ℕ) → ℕ → ℕ
put x f i = overlaid x.start x.bytes i (f i)

pub put_keeps : (x : Edit) (f : ℕ → ℕ) (a n : ℕ) → Misses a n x → Kept f (put x f) a n
put_keeps x f a n (inl h) i l = overlaid_below x.start x.bytes (a + i) (f (a + i)) (omega arith)
put_keeps x f a n (inr h) i l = overlaid_above x.start x.bytes (a + i) (f (a + i)) (omega arith) (omega arith)

-- edits keep what they all miss
pub edits_keep : (xs : List Edit) (f : ℕ → ℕ) (a n : ℕ) → AllMiss a n xs → Kept f (after_edits xs f) a n
edits_keep [] f a n h i l = refl
edits_keep (x ∷ xs) f a n (h, hs) i l = edits_keep xs (put x f) a n hs i l ∙ put_keeps x f a n h i l

pub stands_after : (xs : List Edit) (f : ℕ → ℕ) (a : ℕ) (bytes : List ℕ) → AllMiss a (length bytes) xs → Stands f a bytes → Stands (after_edits xs f) a bytes
stands_after xs f a bytes h = stands_kept f (after_edits xs f) a bytes (edits_keep xs f a (length bytes) h)

-- what an edit writes stands, once it is made
pub put_stands : (x : Edit) (f : ℕ → ℕ) → Stands (put x f) x.start x.bytes
put_stands x f i h =
    let e : x.start + i - x.start ≡ i = omega arith in
    overlaid_within x.start x.bytes (x.start + i) (f (x.start + i)) (omega arith) (omega arith) ∙ ap (λ (j : ℕ). get_or x.bytes j 0) e

-- and stands after more edits that miss it
pub first_stands : (x : Edit) (xs : List Edit) (f : ℕ → ℕ) → AllMiss x.start (length x.bytes) xs → Stands (after_edits (x ∷ xs) f) x.start x.bytes
first_stands x xs f h = stands_after xs (put x f) x.start x.bytes h (put_stands x f)

-- two lists of bytes, one after the other
get_or_front : (xs ys : List ℕ) (i : ℕ) → i < length xs → get_or (xs ++ ys) i 0 ≡ get_or xs i 0
get_or_front [] ys i h = absurd (omega arith)
get_or_front (x ∷ xs) ys zero h = refl
get_or_front (x ∷ xs) ys (suc i) h = get_or_front xs ys i (omega arith)

get_or_back : (xs ys : List ℕ) (i : ℕ) → get_or (xs ++ ys) (length xs + i) 0 ≡ get_or ys i 0
get_or_back [] ys i = let e : 0 + i ≡ i = omega arith in ap (λ (j : ℕ). get_or ys j 0) e
get_or_back (x ∷ xs) ys i =
    let e : length (x ∷ xs) + i ≡ suc (length xs + i) = omega arith in
    ap (λ (j : ℕ). get_or (x ∷ (xs ++ ys)) j 0) e ∙ get_or_back xs ys i

pub stands_front : (f : ℕ → ℕ) (a : ℕ) (xs ys : List ℕ) → Stands f a (xs ++ ys) → Stands f a xs
stands_front f a xs ys s i h = s i (omega (arith, length-append xs ys)) ∙ get_or_front xs ys i h

pub stands_back : (f : ℕ → ℕ) (a : ℕ) (xs ys : List ℕ) → Stands f a (xs ++ ys) → Stands f (a + length xs) ys
stands_back f a xs ys s i h =
    let e : a + length xs + i ≡ a + (length xs + i) = omega arith in
    ap f e ∙ s (length xs + i) (omega (arith, length-append xs ys)) ∙ get_or_back xs ys i

-- how many bytes there are
pub digits_length : (n x : ℕ) → length (digits n x) ≡ n
unfolding digits
digits_length zero x = refl
digits_length (suc n) x = omega (arith, digits_length n (x / 256))

pub held_length : (c : Cell) → length c.content ≡ 20 → length (held c) ≡ 22
held_length c h = omega arith

pub whole_length : (next : ℕ) (c : Cell) → length c.content ≡ 20 → length (whole next c) ≡ 24
whole_length next c h = omega (arith, length-append (digits 2 next) (held c), digits_length 2 next, held_length c h)

pub blank_length : length blank_content ≡ 20
blank_length = refl

pub tag_length : (t : Tag) → length t.id ≡ 8 → length (tag_content t) ≡ 20
tag_length t h =
    omega (arith, length-append t.id (digits 2 t.account ++ replicate 10 0), length-append (digits 2 t.account) (replicate 10 0), digits_length 2 t.account)

pub entry_length : (e : Entry) → length (entry_content e) ≡ 20
entry_length e =
    omega (arith, length-append (digits 8 e.amount) (digits 2 e.payee ++ replicate 10 0), length-append (digits 2 e.payee) (replicate 10 0), digits_length 8 e.amount, digits_length 2 e.payee)

-- a cell whole: the index of the next one, and what it holds
pub whole_next : (f : ℕ → ℕ) (a next : ℕ) (c : Cell) → Stands f a (whole next c) → Stands f a (digits 2 next)
whole_next f a next c s = stands_front f a (digits 2 next) (held c) s

pub whole_held : (f : ℕ → ℕ) (a next : ℕ) (c : Cell) → Stands f a (whole next c) → Stands f (a + 2) (held c)
unfolding digits
whole_held f a next c s = stands_back f a (digits 2 next) (held c) s

-- an index is read in one way
pub same_index : (f : ℕ → ℕ) (a x y : ℕ) → x < 65536 → y < 65536 → Stands f a (digits 2 x) → Stands f a (digits 2 y) → x ≡ y
unfolding digits
same_index f a x y hx hy s t =
    let lo : x % 256 ≡ y % 256 = sym (s 0 (omega arith)) ∙ t 0 (omega arith) in
    let hi : x / 256 % 256 ≡ y / 256 % 256 = sym (s 1 (omega arith)) ∙ t 1 (omega arith) in
    omega arith
