-- What is known where no test of a call fits.
use Rattle.std.proofs.Common.{◌≡◌, ℕ, ◌<◌, ◌≤◌, ◌≢◌, Bool, true, false, cond, not, List, [], ◌∷◌, Some, None, Option, eqb, nat_le, nat_lt, bytes_eq, refl, ap, ◌∙◌, subst, ⊎_elim}
use Rattle.std.proofs.lemmas.Bool.{and_parts, cases_lt, lt-ltb, eq-eqb, leb-true, both_ways}
use Rattle.book.specs.declared.fault.LedgerFault.{LedgerFault}
use Rattle.book.specs.declared.records.Tag.{Tag}
use Rattle.book.specs.Book.{At, IsAccount, NoTag, GoodTags}
use Rattle.book.specs.Rows.{Row, first_fit, is_account, is_empty, account_in}
use Rattle.book.specs.Edits.{head_or_0, rest_of}

-- no test fits: not the first, and none of the rest
pub none_fits : (row : Row) (rows : List Row) → first_fit (row ∷ rows) ≡ None → (row.0 ≡ false) × (first_fit rows ≡ None)
none_fits row rows h = go row.0 row.1 (first_fit rows) h
  where
    go : (b : Bool) (v : LedgerFault) (rest : Option LedgerFault) → cond b (Some v) rest ≡ None → (b ≡ false) × (rest ≡ None)
    go true v rest h = cc
    go false v rest h = (refl, h)

pub is_one : (a : ℕ) → not (is_account a) ≡ false → IsAccount a
is_one a h =
    let yes = go (is_account a) h in
    let both = and_parts (nat_le 1 a) (nat_le a 64) yes in
    (leb-true 1 a both.0, leb-true a 64 both.1)
  where
    go : (b : Bool) → not b ≡ false → b ≡ true
    go true h = refl
    go false h = cc

pub not_same : (a b : ℕ) → eqb a b ≡ false → a ≢ b
not_same a b h e = both_ways (eqb a b) h (eq-eqb a b e)

pub not_less : (a b : ℕ) → nat_lt a b ≡ false → b ≤ a
not_less a b h = ⊎_elim (λ (l : a < b). absurd (both_ways (nat_lt a b) h (lt-ltb a b l))) (λ (l : b ≤ a). l) (cases_lt a b)

-- a list that isn't empty
pub has_front : (ns : List ℕ) → is_empty ns ≡ false → ns ≡ head_or_0 ns ∷ rest_of ns
has_front [] h = cc
has_front (n ∷ ns) h = refl

-- bytes that are the same pass the test
pub same_bytes : (xs : List ℕ) → bytes_eq xs xs ≡ true
same_bytes [] = refl
same_bytes (x ∷ xs) = let e = eq-eqb x x refl in rw (e, same_bytes xs)

-- where a tag has no account among these, it is none of them; where it has, that is an account
pub no_tag : (id : List ℕ) (xs : List (At Tag)) → account_in id xs ≡ None → NoTag id xs
no_tag id [] h = tt
no_tag id (x ∷ xs) h = go (bytes_eq x.item.id id) refl (no_tag id xs) h
  where
    go : (t : Bool) → bytes_eq x.item.id id ≡ t → (account_in id xs ≡ None → NoTag id xs) → cond t (Some x.item.account) (account_in id xs) ≡ None → NoTag id (x ∷ xs)
    go true e rest h = cc
    go false e rest h =
        ((λ (i : x.item.id ≡ id). both_ways (bytes_eq x.item.id id) e (ap (λ (ys : List ℕ). bytes_eq ys id) i ∙ same_bytes id)), rest h)

pub tag_account : (id : List ℕ) (k a : ℕ) (xs : List (At Tag)) → GoodTags k xs → account_in id xs ≡ Some a → IsAccount a
tag_account id k a [] g h = cc
tag_account id k a (x ∷ xs) g h = go (bytes_eq x.item.id id) (tag_account id k a xs g.4) h
  where
    go : (t : Bool) → (account_in id xs ≡ Some a → IsAccount a) → cond t (Some x.item.account) (account_in id xs) ≡ Some a → IsAccount a
    go true rest h = let e : x.item.account ≡ a = cc in subst IsAccount e g.1
    go false rest h = rest h
