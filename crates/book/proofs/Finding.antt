-- A tag found in its bucket: where it is, and what is left without it.
use Rattle.std.proofs.Common.{◌≡◌, ℕ, Bool, true, false, cond, List, [], ◌∷◌, ◌++◌, map, Some, None, Option, bytes_eq, refl, sym, ap, ◌∙◌}
use Rattle.book.specs.declared.records.Tag.{Tag}
use Rattle.book.specs.Layout.{Cell, cell_at, first_of}
use Rattle.book.specs.Book.{At, tag_cell, NoTag, GoodTags}
use Rattle.book.specs.Rows.{account_in, first_fit, unknown}
use Rattle.book.specs.Edits.{Place, place_in, without}
use Rattle.book.proofs.Cutting.{after_last}

-- The tag that a place tells of, with those before it and after it.
pub record Found (id : List ℕ) (from : ℕ) (tags : List (At Tag)) (p : Place) : Type 0 where
  pub before : List (At Tag)
  pub tag : At Tag
  pub rest : List (At Tag)
  pub all : tags ≡ before ++ tag ∷ rest
  pub link : p.link ≡ after_last from (map tag_cell before)
  pub number : p.number ≡ tag.number
  pub next : p.next ≡ first_of (map tag_cell rest)
  pub left : without id tags ≡ before ++ rest

pub found : (id : List ℕ) (link : ℕ) (tags : List (At Tag)) (p : Place) → place_in id link tags ≡ Some p → Found id link tags p
found id link [] p h = cc
found id link (x ∷ xs) p h = go (bytes_eq x.item.id id) refl (found id (cell_at x.number) xs p) h
  where
    here : Place
    here = record { link = link; number = x.number; next = first_of (map tag_cell xs) }

    go : (t : Bool) → bytes_eq x.item.id id ≡ t → (place_in id (cell_at x.number) xs ≡ Some p → Found id (cell_at x.number) xs p)
        → cond t (Some (record { link = link; number = x.number; next = first_of (map tag_cell xs) })) (place_in id (cell_at x.number) xs) ≡ Some p → Found id link (x ∷ xs) p
    go true e rest h =
        let same : record { link = link; number = x.number; next = first_of (map tag_cell xs) } ≡ p = cc in
        record {
          before = [];
          tag = x;
          rest = xs;
          all = refl;
          link = ap (λ (q : Place). q.link) (sym same);
          number = ap (λ (q : Place). q.number) (sym same);
          next = ap (λ (q : Place). q.next) (sym same);
          left = ap (λ t. cond t xs (x ∷ without id xs)) e;
        }
    go false e rest h =
        let r = rest h in
        record {
          before = x ∷ r.before;
          tag = r.tag;
          rest = r.rest;
          all = ap (λ (ys : List (At Tag)). x ∷ ys) r.all;
          link = r.link;
          number = r.number;
          next = r.next;
          left = ap (λ t. cond t xs (x ∷ without id xs)) e ∙ ap (λ (ys : List (At Tag)). x ∷ ys) r.left;
        }

-- a tag has an account just where it has a place
pub has_place : (id : List ℕ) (link a : ℕ) (tags : List (At Tag)) → account_in id tags ≡ Some a → (p : Place) × (place_in id link tags ≡ Some p)
has_place id link a [] h = cc
has_place id link a (x ∷ xs) h = go (bytes_eq x.item.id id) (has_place id (cell_at x.number) a xs) h
  where
    go : (t : Bool) → (account_in id xs ≡ Some a → (p : Place) × (place_in id (cell_at x.number) xs ≡ Some p)) → cond t (Some x.item.account) (account_in id xs) ≡ Some a
        → (p : Place) × (cond t (Some (record { link = link; number = x.number; next = first_of (map tag_cell xs) })) (place_in id (cell_at x.number) xs) ≡ Some p)
    go true rest h = (record { link = link; number = x.number; next = first_of (map tag_cell xs) }, refl)
    go false rest h = rest h

pub has_account : (id : List ℕ) (link : ℕ) (p : Place) (tags : List (At Tag)) → place_in id link tags ≡ Some p → (a : ℕ) × (account_in id tags ≡ Some a)
has_account id link p [] h = cc
has_account id link p (x ∷ xs) h = go (bytes_eq x.item.id id) (has_account id (cell_at x.number) p xs) h
  where
    go : (t : Bool) → (place_in id (cell_at x.number) xs ≡ Some p → (a : ℕ) × (account_in id xs ≡ Some a))
        → cond t (Some (record { link = link; number = x.number; next = first_of (map tag_cell xs) })) (place_in id (cell_at x.number) xs) ≡ Some p
        → (a : ℕ) × (cond t (Some x.item.account) (account_in id xs) ≡ Some a)
    go true rest h = (x.item.account, refl)
    go false rest h = rest h

pub no_place : (id : List ℕ) (link : ℕ) (tags : List (At Tag)) → account_in id tags ≡ None → place_in id link tags ≡ None
no_place id link [] h = refl
no_place id link (x ∷ xs) h = go (bytes_eq x.item.id id) (no_place id (cell_at x.number) xs) h
  where
    go : (t : Bool) → (account_in id xs ≡ None → place_in id (cell_at x.number) xs ≡ None) → cond t (Some x.item.account) (account_in id xs) ≡ None
        → cond t (Some (record { link = link; number = x.number; next = first_of (map tag_cell xs) })) (place_in id (cell_at x.number) xs) ≡ None
    go true rest h = cc
    go false rest h = rest h

-- where the tag is known, it has an account
pub known : (o : Option ℕ) (id : List ℕ) → first_fit (unknown o id ∷ []) ≡ None → (a : ℕ) × (o ≡ Some a)
known None id h = cc
known (Some a) id h = (a, refl)

-- the tags that are left are good ones
no_tag_left : (id : List ℕ) (xs : List (At Tag)) (x : At Tag) (ys : List (At Tag)) → NoTag id (xs ++ x ∷ ys) → NoTag id (xs ++ ys)
no_tag_left id [] x ys h = h.1
no_tag_left id (w ∷ xs) x ys h = (h.0, no_tag_left id xs x ys h.1)

pub good_left : (k : ℕ) (xs : List (At Tag)) (x : At Tag) (ys : List (At Tag)) → GoodTags k (xs ++ x ∷ ys) → GoodTags k (xs ++ ys)
good_left k [] x ys g = g.4
good_left k (w ∷ xs) x ys g = (g.0, g.1, g.2, no_tag_left w.item.id xs x ys g.3, good_left k xs x ys g.4)

pub map_left : (xs ys : List (At Tag)) → map tag_cell (xs ++ ys) ≡ map tag_cell xs ++ map tag_cell ys
map_left [] ys = refl
map_left (x ∷ xs) ys = ap (λ (cs : List Cell). tag_cell x ∷ cs) (map_left xs ys)
