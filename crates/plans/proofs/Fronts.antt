-- What the free chain, a bucket and an account's chain of a ledger are for a walk.
use Rattle.std.proofs.Common.{◌≡◌, ℕ, ◌<◌, ◌≤◌, ◌≢◌, Bool, true, false, cond, List, [], ◌∷◌, ◌++◌, length, map, take, replicate, bytes_eq, Some, None, Option, refl, sym, ap, ◌∙◌, subst, arith}
use Rattle.std.proofs.Math.Seq.{take-append_seam}
use Rattle.record.specs.Fields.{field, digits}
use Rattle.book.specs.declared.records.Tag.{Tag}
use Rattle.book.specs.declared.records.Entry.{Entry}
use Rattle.book.specs.Records.{bucket_of, tag_kind, tag_content, TagFits, entry_kind, entry_content, EntryFits}
use Rattle.book.specs.Layout.{byte_in, head_at, bucket_chain, cell_at, Chain, first_of}
use Rattle.book.specs.Book.{Book, Holds, At, IsAccount, GoodTags, GoodEntries, free_cell, tag_cell}
use Rattle.book.specs.Rows.{is_empty, account_in}
use Rattle.book.specs.Edits.{Place, place_in, head_or_0, rest_of}
use Rattle.book.proofs.Threads.{cells_tags, cells_account}
use Rattle.book.proofs.Beside.{first_free}
use Rattle.plans.specs.declared.found.Found.{Found}
use Rattle.plans.specs.Walks.{cells_with, Leads, AllFit, Placed, first_such, seen, Sought}
use Rattle.plans.proofs.Standing.{stands_index}
use Rattle.plans.proofs.Following.{same_first}

module _ (m : List ℕ) (whole : length m ≡ 6144) where
  -- the front free cell
  pub none_free : (ns : List ℕ) → Chain (byte_in m) 8 (map free_cell ns) → field 8 2 m ≡ 0 → is_empty ns ≡ true
  none_free [] h e = refl
  none_free (n ∷ ns) h e =
      let is = stands_index m 8 (map free_cell (n ∷ ns)) h (omega arith) in
      absurd (omega (arith, h.1.0))

  pub free_inside : (ns : List ℕ) → Chain (byte_in m) 8 (map free_cell ns) → field 8 2 m ≤ 200
  free_inside [] h = let is = stands_index m 8 [] h (omega arith) in omega arith
  free_inside (n ∷ ns) h = let is = stands_index m 8 (map free_cell (n ∷ ns)) h (omega arith) in omega (arith, h.1.1)

  pub some_free : (ns : List ℕ) → Chain (byte_in m) 8 (map free_cell ns) → field 8 2 m ≢ 0
      → (is_empty ns ≡ false) × (field 8 2 m ≡ head_or_0 ns) × (field (cell_at (field 8 2 m)) 2 m ≡ head_or_0 (rest_of ns))
  some_free [] h ne = absurd (ne (stands_index m 8 [] h (omega arith)))
  some_free (n ∷ ns) h ne =
      let is : field 8 2 m ≡ n = stands_index m 8 (map free_cell (n ∷ ns)) h (omega arith) in
      (refl, is, ap (λ (i : ℕ). field (cell_at i) 2 m) is ∙ stands_index m (cell_at n) (map free_cell ns) h.3 (omega (arith, h.1.1)) ∙ first_free ns)

-- the tags of a bucket
tags_fit : (k : ℕ) (xs : List (At Tag)) → GoodTags k xs → AllFit TagFits xs
tags_fit k [] g = tt
tags_fit k (x ∷ xs) g = (g.0, tags_fit k xs g.4)

entries_fit : (xs : List (At Entry)) → GoodEntries xs → AllFit EntryFits xs
entries_fit [] g = tt
entries_fit (x ∷ xs) g = (g.0, entries_fit xs g.2)

pub bucket_below : (id : List ℕ) → bucket_of id < 16
bucket_below id = omega arith

pub leads_tags : (f : ℕ → ℕ) (b : Book) (k : ℕ) → Holds f b → k < 16 → Leads tag_kind tag_content TagFits f (head_at (bucket_chain k)) (b.tags k)
leads_tags f b k h l =
    (subst (Chain f (head_at (bucket_chain k))) (cells_tags b k l) (h.chains.chain (bucket_chain k) (omega arith)), tags_fit k (b.tags k) (h.records.tags k l))

pub leads_entries : (f : ℕ → ℕ) (b : Book) (a : ℕ) → Holds f b → IsAccount a → Leads entry_kind entry_content EntryFits f (head_at a) (b.entries a)
leads_entries f b a h i =
    (subst (Chain f (head_at a)) (cells_account b a i) (h.chains.chain a (omega (arith, i.1))), entries_fit (b.entries a) (h.records.entries a i))

-- a walk for a tag's own bytes finds its place and its account
abbrev pub is_id : List ℕ → Tag → Bool
is_id id t = bytes_eq t.id id

-- a tag's own bytes come first in its content
pub own_first : (t : Tag) (content : List ℕ) → TagFits t → tag_content t ≡ content → take 8 content ≡ t.id
own_first t content fit e =
    let rest = digits 2 t.account ++ replicate 10 0 in
    ap (take 8) (sym e) ∙ ap (λ (k : ℕ). take k (t.id ++ rest)) (sym fit.0) ∙ take-append_seam t.id rest

place_part : Option (Placed Tag) → Option Place
place_part None = None
place_part (Some p) = Some p.place

account_part : Option (Placed Tag) → Option ℕ
account_part None = None
account_part (Some p) = Some p.item.account

one_place : (t : Bool) (p : Placed Tag) (q : Place) (u : Option (Placed Tag)) (v : Option Place) → q ≡ p.place → v ≡ place_part u → cond t (Some q) v ≡ place_part (cond t (Some p) u)
unfolding place_part
one_place true p q u v e k = ap Some e
one_place false p q u v e k = k

one_account : (t : Bool) (p : Placed Tag) (u : Option (Placed Tag)) (v : Option ℕ) → v ≡ account_part u → cond t (Some p.item.account) v ≡ account_part (cond t (Some p) u)
unfolding account_part
one_account true p u v k = refl
one_account false p u v k = k

place_at : ℕ → ℕ → ℕ → Place
place_at link n next = record { link = link; number = n; next = next }

places : (id : List ℕ) (link : ℕ) (xs : List (At Tag)) → place_in id link xs ≡ place_part (first_such (is_id id) link xs)
unfolding place_part place_at
places id link [] = refl
places id link (x ∷ xs) =
    one_place (bytes_eq x.item.id id)
    (record { place = place_at link x.number (first_of (cells_with 0 (λ _. []) xs)); item = x.item })
    (place_at link x.number (first_of (map tag_cell xs)))
    (first_such (is_id id) (cell_at x.number) xs)
    (place_in id (cell_at x.number) xs)
    (ap (place_at link x.number) (same_first tag_kind tag_content TagFits xs))
    (places id (cell_at x.number) xs)

accounts : (id : List ℕ) (link : ℕ) (xs : List (At Tag)) → account_in id xs ≡ account_part (first_such (is_id id) link xs)
unfolding account_part place_at
accounts id link [] = refl
accounts id link (x ∷ xs) =
    one_account (bytes_eq x.item.id id)
    (record { place = place_at link x.number (first_of (cells_with 0 (λ _. []) xs)); item = x.item })
    (first_such (is_id id) (cell_at x.number) xs)
    (account_in id xs)
    (accounts id (cell_at x.number) xs)

pub sought : (b : Book) (id : List ℕ) (r : Option (Found Tag))
    → seen r ≡ first_such (is_id id) (head_at (bucket_chain (bucket_of id))) (b.tags (bucket_of id)) → Sought b id r
unfolding place_part account_part
sought b id None e =
    let link = head_at (bucket_chain (bucket_of id)) in
    let xs = b.tags (bucket_of id) in
    (places id link xs ∙ ap place_part (sym e), accounts id link xs ∙ ap account_part (sym e))
sought b id (Some r) e =
    let link = head_at (bucket_chain (bucket_of id)) in
    let xs = b.tags (bucket_of id) in
    (places id link xs ∙ ap place_part (sym e), accounts id link xs ∙ ap account_part (sym e))
