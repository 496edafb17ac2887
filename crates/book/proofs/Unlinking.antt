-- Drop and collect take the book that the memory holds to the book after them.
use Rattle.std.proofs.Common.{◌≡◌, ℕ, ◌-◌, ◌<◌, ◌≤◌, ◌≢◌, false, List, [], ◌∷◌, ◌++◌, map, None, Option, refl, sym, ap, ◌∙◌, subst, inl, inr, ⊎_elim, arith}
use Rattle.std.proofs.lemmas.Bool.{cases_eq}
use Rattle.book.specs.declared.records.Tag.{Tag}
use Rattle.book.specs.declared.records.Entry.{Entry}
use Rattle.book.specs.Records.{bucket_of}
use Rattle.book.specs.Layout.{head_at, bucket_chain, Cell, first_of}
use Rattle.book.specs.Book.{Book, At, IsAccount, Money, Records, Holds, GoodEntries, GoodTags, cells_of, free_cell, entry_cell, tag_cell}
use Rattle.book.specs.Rows.{first_fit, is_empty, account_of, drop_rows, collect_rows, no_account, no_entry}
use Rattle.book.specs.Edits.{after_edits, rest_of, with_at, unlink, Place, taking_out, without, freed, drop_edits, dropped, collect_edits, collected}
use Rattle.book.proofs.Standing.{blank_length}
use Rattle.book.proofs.Threads.{Threads, threads, chains_of, chain_cases, cells_account, cells_bucket, cells_tags}
use Rattle.book.proofs.Sums.{with_same, with_other}
use Rattle.book.proofs.Passing.{none_fits, is_one}
use Rattle.book.proofs.Beside.{first_free}
use Rattle.book.proofs.Cutting.{after_last}
use Rattle.book.proofs.Taking.{taking, Taken, threads_taken, money_past_taking, zeros_past_taking}
use Rattle.book.proofs.Finding.{Found, found, has_place, known, good_left, map_left}

-- The book `new` has, of chain c of `old`, cell x after `before` taken out and free.
pub record CutOut (old new : Book) (c : ℕ) (before : List Cell) (x : Cell) (rest : List Cell) : Type 0 where
  pub some : 1 ≤ c
  pub below : c < 81
  pub was : cells_of old c ≡ before ++ x ∷ rest
  pub now : cells_of new c ≡ before ++ rest
  pub free : new.free ≡ x.number ∷ old.free
  pub others : (d : ℕ) → d < 81 → d ≢ 0 → d ≢ c → cells_of new d ≡ cells_of old d

module _ (f : ℕ → ℕ) (old new : Book) (c : ℕ) (before : List Cell) (x : Cell) (rest : List Cell) (p : CutOut old new c before x rest) where
  taken : Taken (cells_of old) (cells_of new) c before x (free_cell x.number) rest
  taken =
      record {
        some = p.some;
        below = p.below;
        long = blank_length;
        was = p.was;
        number = refl;
        now = p.now;
        free = ap (λ (ns : List ℕ). map free_cell ns) p.free;
        others = p.others;
      }

  -- all of the ledger after it
  pub holds_unlinked : Holds f old → Money f new → Records new → Holds (after_edits (unlink old (after_last (head_at c) before) x.number (first_of rest)) f) new
  holds_unlinked h money records =
      subst
      (λ (first : ℕ). Holds (after_edits (taking (after_last (head_at c) before) (first_of rest) (free_cell x.number) first) f) new)
      (first_free old.free)
      (record {
        money = money_past_taking f (cells_of old) (cells_of new) c before x (free_cell x.number) rest t taken new money;
        chains = chains_of (after_edits (taking (after_last (head_at c) before) (first_of rest) (free_cell x.number) (first_of (cells_of old 0))) f) new
            (threads_taken f (cells_of old) (cells_of new) c before x (free_cell x.number) rest t taken);
        records = records;
        zeros = zeros_past_taking f (cells_of old) (cells_of new) c before x (free_cell x.number) rest t taken h.zeros;
      })
    where
      t : Threads f (cells_of old)
      t = threads f old h.chains h.records

-- drop
abbrev pub without_tag : Book → List ℕ → List ℕ → Book
without_tag b id free =
    record {
      issued = b.issued;
      balances = b.balances;
      free = free;
      entries = b.entries;
      tags = with_at (bucket_of id) (without id (b.tags (bucket_of id))) b.tags;
    }

module _ (f : ℕ → ℕ) (b : Book) (id : List ℕ) (p : Place) (h : Holds f b) (r : Found id (head_at (bucket_chain (bucket_of id))) (b.tags (bucket_of id)) p) where
  left_records : Records (without_tag b id (r.tag.number ∷ b.free))
  left_records = record { entries = h.records.entries; tags = tags }
    where
      here : GoodTags (bucket_of id) (without id (b.tags (bucket_of id)))
      here =
          subst (GoodTags (bucket_of id)) (sym r.left)
          (good_left (bucket_of id) r.before r.tag r.rest (subst (GoodTags (bucket_of id)) r.all (h.records.tags (bucket_of id) (omega arith))))

      tags : (k : ℕ) → k < 16 → GoodTags k (with_at (bucket_of id) (without id (b.tags (bucket_of id))) b.tags k)
      tags k l =
          ⊎_elim
          (λ (e : k ≡ bucket_of id).
          subst (λ (n : ℕ). GoodTags n (with_at (bucket_of id) (without id (b.tags (bucket_of id))) b.tags n)) (sym e)
          (subst (GoodTags (bucket_of id)) (sym (with_same (bucket_of id) (without id (b.tags (bucket_of id))) b.tags)) here))
          (λ (ne : k ≢ bucket_of id).
          subst (GoodTags k) (sym (with_other (bucket_of id) (without id (b.tags (bucket_of id))) b.tags k ne)) (h.records.tags k l))
          (cases_eq k (bucket_of id))

  tag_out : CutOut b (without_tag b id (r.tag.number ∷ b.free)) (bucket_chain (bucket_of id)) (map tag_cell r.before) (tag_cell r.tag) (map tag_cell r.rest)
  tag_out =
      record {
        some = omega arith;
        below = omega arith;
        was =
            cells_tags b (bucket_of id) (omega arith) ∙ ap (λ (xs : List (At Tag)). map tag_cell xs) r.all ∙ map_left r.before (r.tag ∷ r.rest);
        now =
            cells_tags (without_tag b id (r.tag.number ∷ b.free)) (bucket_of id) (omega arith)
            ∙ ap (λ (xs : List (At Tag)). map tag_cell xs) (with_same (bucket_of id) (without id (b.tags (bucket_of id))) b.tags ∙ r.left)
            ∙ map_left r.before r.rest;
        free = refl;
        others = others;
      }
    where
      others : (d : ℕ) → d < 81 → d ≢ 0 → d ≢ bucket_chain (bucket_of id) → cells_of (without_tag b id (r.tag.number ∷ b.free)) d ≡ cells_of b d
      others d l nz np =
          elim (chain_cases d l) [
            | inl e ↦ absurd (nz e)
            | inr (inl k) ↦ cells_account (without_tag b id (r.tag.number ∷ b.free)) d k ∙ sym (cells_account b d k)
            | inr (inr k) ↦
                cells_bucket (without_tag b id (r.tag.number ∷ b.free)) d k
                ∙ ap (λ (xs : List (At Tag)). map tag_cell xs)
                (with_other (bucket_of id) (without id (b.tags (bucket_of id))) b.tags (d - 65) (λ (e : d - 65 ≡ bucket_of id). np (omega (arith, k.0))))
                ∙ sym (cells_bucket b d k)
          ]

  tag_left : Holds (after_edits (unlink b p.link p.number p.next) f) (without_tag b id (p.number ∷ b.free))
  tag_left =
      subst (λ (link : ℕ). Holds (after_edits (unlink b link p.number p.next) f) (without_tag b id (p.number ∷ b.free))) (sym r.link)
      (subst (λ (n : ℕ). Holds (after_edits (unlink b (after_last (head_at (bucket_chain (bucket_of id))) (map tag_cell r.before)) n p.next) f) (without_tag b id (n ∷ b.free))) (sym r.number)
      (subst
      (λ (next : ℕ).
      Holds (after_edits (unlink b (after_last (head_at (bucket_chain (bucket_of id))) (map tag_cell r.before)) r.tag.number next) f)
      (without_tag b id (r.tag.number ∷ b.free)))
      (sym r.next)
      (holds_unlinked f b (without_tag b id (r.tag.number ∷ b.free)) (bucket_chain (bucket_of id)) (map tag_cell r.before) (tag_cell r.tag) (map tag_cell r.rest) tag_out h
      (record { issued = h.money.issued; balance = h.money.balance; bound = h.money.bound; sum = h.money.sum })
      left_records)))

pub drop_holds : (f : ℕ → ℕ) (b : Book) (id : List ℕ) → Holds f b → first_fit (drop_rows b id) ≡ None → Holds (after_edits (drop_edits b id) f) (dropped id b)
drop_holds f b id h none =
    let a = known (account_of b id) id none in
    let p = has_place id (head_at (bucket_chain (bucket_of id))) a.0 (b.tags (bucket_of id)) a.1 in
    subst (λ (o : Option Place). Holds (after_edits (taking_out b o) f) (without_tag b id (freed o b.free))) (sym p.1)
    (tag_left f b id p.0 h (found id (head_at (bucket_chain (bucket_of id))) (b.tags (bucket_of id)) p.0 p.1))

-- collect
split : (xs : List (At Entry)) → is_empty xs ≡ false → (x : At Entry) × (ys : List (At Entry)) × (xs ≡ x ∷ ys)
split [] h = cc
split (x ∷ xs) h = (x, xs, refl)

abbrev pub with_entries : Book → ℕ → List (At Entry) → ℕ → Book
with_entries b a xs n =
    record {
      issued = b.issued;
      balances = b.balances;
      free = n ∷ b.free;
      entries = with_at a xs b.entries;
      tags = b.tags;
    }

module _ (f : ℕ → ℕ) (b : Book) (a : ℕ) (h : Holds f b) (i : IsAccount a) (x : At Entry) (xs : List (At Entry)) (all : b.entries a ≡ x ∷ xs) where
  rest_records : Records (with_entries b a xs x.number)
  rest_records = record { entries = entries; tags = h.records.tags }
    where
      entries : (d : ℕ) → IsAccount d → GoodEntries (with_at a xs b.entries d)
      entries d j =
          ⊎_elim
          (λ (e : d ≡ a).
          subst (λ (n : ℕ). GoodEntries (with_at a xs b.entries n)) (sym e)
          (subst GoodEntries (sym (with_same a xs b.entries)) (subst GoodEntries all (h.records.entries a i)).2))
          (λ (ne : d ≢ a). subst GoodEntries (sym (with_other a xs b.entries d ne)) (h.records.entries d j))
          (cases_eq d a)

  entry_out : CutOut b (with_entries b a xs x.number) a [] (entry_cell x) (map entry_cell xs)
  entry_out =
      record {
        some = i.0;
        below = omega (arith, i.1);
        was = cells_account b a i ∙ ap (λ (ys : List (At Entry)). map entry_cell ys) all;
        now = cells_account (with_entries b a xs x.number) a i ∙ ap (λ (ys : List (At Entry)). map entry_cell ys) (with_same a xs b.entries);
        free = refl;
        others = others;
      }
    where
      others : (d : ℕ) → d < 81 → d ≢ 0 → d ≢ a → cells_of (with_entries b a xs x.number) d ≡ cells_of b d
      others d l nz ne =
          elim (chain_cases d l) [
            | inl e ↦ absurd (nz e)
            | inr (inl k) ↦
                cells_account (with_entries b a xs x.number) d k ∙ ap (λ (ys : List (At Entry)). map entry_cell ys) (with_other a xs b.entries d ne)
                ∙ sym (cells_account b d k)
            | inr (inr k) ↦ cells_bucket (with_entries b a xs x.number) d k ∙ sym (cells_bucket b d k)
          ]

  entry_left : Holds (after_edits (collect_edits b a) f) (collected a b)
  entry_left =
      subst
      (λ (cs : List Cell).
      Holds (after_edits (unlink b (head_at a) (first_of cs) (first_of (rest_of cs))) f) (with_entries b a (rest_of (b.entries a)) (first_of cs)))
      (sym (cells_account b a i ∙ ap (λ (ys : List (At Entry)). map entry_cell ys) all))
      (subst
      (λ (ys : List (At Entry)). Holds (after_edits (unlink b (head_at a) x.number (first_of (map entry_cell xs))) f) (with_entries b a (rest_of ys) x.number))
      (sym all)
      (holds_unlinked f b (with_entries b a xs x.number) a [] (entry_cell x) (map entry_cell xs) entry_out h
      (record { issued = h.money.issued; balance = h.money.balance; bound = h.money.bound; sum = h.money.sum })
      rest_records))

pub collect_holds : (f : ℕ → ℕ) (b : Book) (a : ℕ) → Holds f b → first_fit (collect_rows b a) ≡ None → Holds (after_edits (collect_edits b a) f) (collected a b)
collect_holds f b a h none =
    let p = none_fits (no_account a) (no_entry b a ∷ []) none in
    let q = none_fits (no_entry b a) [] p.1 in
    let s = split (b.entries a) q.0 in
    entry_left f b a h (is_one a p.0) s.0 s.1 s.2
