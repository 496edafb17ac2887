-- The laws of each kind of record: its bytes are as many as a cell has room for, and are no other one's.
use Rattle.std.proofs.Common.{◌≡◌, ℕ, ◌+◌, ◌^◌, ◌<◌, List, ◌++◌, length, take, drop, replicate, sym, refl, ap, ◌∙◌, length-append}
use Rattle.std.proofs.lemmas.List.{take_at, drop_at}
use Rattle.record.specs.Fields.{value, digits}
use Rattle.record.proofs.Numbers.{value_digits}
use Rattle.book.specs.declared.records.Tag.{Tag}
use Rattle.book.specs.declared.records.Entry.{Entry}
use Rattle.book.specs.Records.{laid, tag_content, TagFits, entry_content, EntryFits}

laid_long : (front : List ℕ) (account : ℕ) → length front ≡ 8 → length (laid front account) ≡ 20
unfolding digits
laid_long front account h = length-append front (digits 2 account ++ replicate 10 0) ∙ ap (λ (n : ℕ). n + 12) h

laid_front : (front : List ℕ) (account : ℕ) → length front ≡ 8 → take 8 (laid front account) ≡ front
laid_front front account h = take_at front (digits 2 account ++ replicate 10 0) 8 h

digits_2 : (x : ℕ) (rest : List ℕ) → take 2 (digits 2 x ++ rest) ≡ digits 2 x
unfolding digits
digits_2 x rest = refl

digits_8 : (x : ℕ) → length (digits 8 x) ≡ 8
unfolding digits
digits_8 x = refl

laid_account : (front : List ℕ) (account : ℕ) → length front ≡ 8 → account < 2 ^ 16 → value (take 2 (drop 8 (laid front account))) ≡ account
laid_account front account h k =
    ap (λ (bs : List ℕ). value (take 2 bs)) (drop_at front (digits 2 account ++ replicate 10 0) 8 h)
    ∙ ap value (digits_2 account (replicate 10 0)) ∙ value_digits 2 account k

same_front : (f g : List ℕ) (a b : ℕ) → length f ≡ 8 → length g ≡ 8 → laid f a ≡ laid g b → f ≡ g
same_front f g a b h k e = sym (laid_front f a h) ∙ ap (λ (bs : List ℕ). take 8 bs) e ∙ laid_front g b k

same_account : (f g : List ℕ) (a b : ℕ) → length f ≡ 8 → length g ≡ 8 → a < 2 ^ 16 → b < 2 ^ 16 → laid f a ≡ laid g b → a ≡ b
same_account f g a b h k m n e =
    sym (laid_account f a h m) ∙ ap (λ (bs : List ℕ). value (take 2 (drop 8 bs))) e ∙ laid_account g b k n

tag : List ℕ → ℕ → Tag
tag id account = record { id = id; account = account }

same_tag : (x y : Tag) → x.id ≡ y.id → x.account ≡ y.account → x ≡ y
unfolding tag
same_tag x y a b = ap (λ (i : List ℕ). tag i x.account) a ∙ ap (λ (n : ℕ). tag y.id n) b

pub tag_long : (x : Tag) → TagFits x → length (tag_content x) ≡ 20
tag_long x (h, k) = laid_long x.id x.account h

pub tag_same : (x y : Tag) → TagFits x → TagFits y → tag_content x ≡ tag_content y → x ≡ y
tag_same x y (h, k) (m, n) e =
    same_tag x y (same_front x.id y.id x.account y.account h m e) (same_account x.id y.id x.account y.account h m k n e)

entry : ℕ → ℕ → Entry
entry amount payee = record { amount = amount; payee = payee }

same_entry : (x y : Entry) → x.amount ≡ y.amount → x.payee ≡ y.payee → x ≡ y
unfolding entry
same_entry x y a b = ap (λ (n : ℕ). entry n x.payee) a ∙ ap (λ (n : ℕ). entry y.amount n) b

same_amount : (a b : ℕ) → a < 2 ^ 64 → b < 2 ^ 64 → digits 8 a ≡ digits 8 b → a ≡ b
same_amount a b h k e = sym (value_digits 8 a h) ∙ ap value e ∙ value_digits 8 b k

pub entry_long : (x : Entry) → EntryFits x → length (entry_content x) ≡ 20
entry_long x f = laid_long (digits 8 x.amount) x.payee (digits_8 x.amount)

pub entry_same : (x y : Entry) → EntryFits x → EntryFits y → entry_content x ≡ entry_content y → x ≡ y
entry_same x y (h, k) (m, n) e =
    same_entry x y
    (same_amount x.amount y.amount h m (same_front (digits 8 x.amount) (digits 8 y.amount) x.payee y.payee (digits_8 x.amount) (digits_8 y.amount) e))
    (same_account (digits 8 x.amount) (digits 8 y.amount) x.payee y.payee (digits_8 x.amount) (digits_8 y.amount) k n e)
