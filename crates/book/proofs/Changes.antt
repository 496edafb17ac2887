-- Each call that no test refuses takes the book that the memory holds to the book after it.
use Rattle.std.proofs.Common.{◌≡◌, ℕ, ◌+◌, ◌-◌, ◌^◌, ◌<◌, ◌≤◌, ◌≢◌, false, List, [], ◌∷◌, length, map, Some, None, Option, refl, sym, ap, ◌∙◌, subst, inl, inr, ⊎_elim, arith}
use Rattle.std.proofs.lemmas.Bool.{cases_eq}
use Rattle.record.specs.Fields.{digits}
use Rattle.book.specs.declared.records.Tag.{Tag}
use Rattle.book.specs.declared.records.Entry.{Entry}
use Rattle.book.specs.Records.{bucket_of, entry_kind, entry_content, tag_kind, tag_content}
use Rattle.book.specs.Layout.{Stands, balance_at, sum_to, bucket_chain, cell, Cell}
use Rattle.book.specs.Book.{Book, At, at, IsAccount, Money, Records, Holds, GoodEntries, GoodTags, cells_of, entry_cell, tag_cell}
use Rattle.book.specs.Rows.{first_fit, issue_rows, move_rows, visit_rows, enrol_rows, paying_rows, no_account, same, nothing, short, no_cell, too_much, present, account_of, is_empty}
use Rattle.book.specs.Edits.{Edit, edit, after_edits, head_or_0, with_at, issue_edits, issued_to, entry, move_edits, moved, paying_edits, visit_edits, paid, visited, tag, enrol_edits, enrolled}
use Rattle.book.proofs.Standing.{put_keeps, put, put_stands, digits_length, entry_length, tag_length}
use Rattle.book.proofs.Places.{total_balance, balances_apart}
use Rattle.book.proofs.Keeping.{misses, number_kept}
use Rattle.book.proofs.Threads.{chain_cases, cells_account, cells_bucket, cells_tags}
use Rattle.book.proofs.Sums.{with_same, with_other, with_swapped, sum_changed, sum_least}
use Rattle.book.proofs.Passing.{none_fits, is_one, not_same, not_less, no_tag, tag_account}
use Rattle.book.proofs.Beside.{AllMoney, total_is_money, balance_is_money, chains_beside, zeros_beside, InFront, holds_in_front}

-- each balance stands
abbrev Balances : (ℕ → ℕ) → (ℕ → ℕ) → Type 0
Balances f balances = (d : ℕ) → IsAccount d → Stands f (balance_at d) (digits 8 (balances d))

-- and each of the new ones, once one of them is written
balances_after : (f balances : ℕ → ℕ) (a v : ℕ) → Balances f balances → Balances (put (edit (balance_at a) (digits 8 v)) f) (with_at a v balances)
balances_after f balances a v h d k =
    ⊎_elim
    (λ (e : d ≡ a).
    subst (λ (n : ℕ). Stands (put (edit (balance_at a) (digits 8 v)) f) (balance_at n) (digits 8 (with_at a v balances n))) (sym e)
    (subst (λ (w : ℕ). Stands (put (edit (balance_at a) (digits 8 v)) f) (balance_at a) (digits 8 w)) (sym (with_same a v balances))
    (put_stands (edit (balance_at a) (digits 8 v)) f)))
    (λ (ne : d ≢ a).
    subst (λ (w : ℕ). Stands (put (edit (balance_at a) (digits 8 v)) f) (balance_at d) (digits 8 w)) (sym (with_other a v balances d ne))
    (number_kept f (put (edit (balance_at a) (digits 8 v)) f) (balance_at d) 8 (balances d)
    (put_keeps (edit (balance_at a) (digits 8 v)) f (balance_at d) 8 (misses (balance_at d) 8 (balance_at a) 8 (digits 8 v) (digits_length 8 v) (balances_apart d a ne)))
    (h d k)))
    (cases_eq d a)

-- the total stays, where a balance is written
total_after : (f : ℕ → ℕ) (a v n : ℕ) → IsAccount a → Stands f 0 (digits 8 n) → Stands (put (edit (balance_at a) (digits 8 v)) f) 0 (digits 8 n)
total_after f a v n i s =
    number_kept f (put (edit (balance_at a) (digits 8 v)) f) 0 8 n
    (put_keeps (edit (balance_at a) (digits 8 v)) f 0 8 (misses 0 8 (balance_at a) 8 (digits 8 v) (digits_length 8 v) (inl (total_balance a i))))
    s

-- issue
module _ (f : ℕ → ℕ) (b : Book) (a amount : ℕ) (h : Holds f b) (i : IsAccount a) (fits : b.issued + amount < 2 ^ 63) where
  balances_kept : Balances (put (edit 0 (digits 8 (b.issued + amount))) f) b.balances
  balances_kept d k =
      number_kept f (put (edit 0 (digits 8 (b.issued + amount))) f) (balance_at d) 8 (b.balances d)
      (put_keeps (edit 0 (digits 8 (b.issued + amount))) f (balance_at d) 8
      (misses (balance_at d) 8 0 8 (digits 8 (b.issued + amount)) (digits_length 8 (b.issued + amount)) (inr (total_balance d k))))
      (h.money.balance d k)

  issued_sum : sum_to 64 (with_at a (b.balances a + amount) b.balances) ≡ b.issued + amount
  issued_sum = let e = sum_changed 64 a (b.balances a + amount) b.balances i.0 i.1 in let s = h.money.sum in omega (arith, e, s)

  issued_money : Money (after_edits (issue_edits b a amount) f) (issued_to a amount b)
  issued_money =
      let totalled = put (edit 0 (digits 8 (b.issued + amount))) f in
      record {
        issued = total_after totalled a (b.balances a + amount) (b.issued + amount) i (put_stands (edit 0 (digits 8 (b.issued + amount))) f);
        balance = balances_after totalled b.balances a (b.balances a + amount) balances_kept;
        bound = fits;
        sum = issued_sum;
      }

  issued_holds : Holds (after_edits (issue_edits b a amount) f) (issued_to a amount b)
  issued_holds =
      let m : AllMoney (issue_edits b a amount) = (total_is_money (b.issued + amount), (balance_is_money a (b.balances a + amount) i, tt)) in
      let c = chains_beside (issue_edits b a amount) f b m h.records h.chains in
      record {
        money = issued_money;
        chains = record { chain = c.chain; some = c.some; one = c.one };
        records = record { entries = h.records.entries; tags = h.records.tags };
        zeros = zeros_beside (issue_edits b a amount) f m h.zeros;
      }

pub issue_holds : (f : ℕ → ℕ) (b : Book) (a amount : ℕ) → Holds f b → first_fit (issue_rows b a amount) ≡ None → Holds (after_edits (issue_edits b a amount) f) (issued_to a amount b)
issue_holds f b a amount h none =
    let p = none_fits (no_account a) (nothing a amount ∷ too_much b amount ∷ []) none in
    let q = none_fits (nothing a amount) (too_much b amount ∷ []) p.1 in
    let r = none_fits (too_much b amount) [] q.1 in
    let low = not_less (2 ^ 63 - 1) (b.issued + amount) r.0 in
    issued_holds f b a amount h (is_one a p.0) (omega arith)

-- move: the balances first, and then the entry
abbrev repaid : ℕ → ℕ → ℕ → Book → ℕ → ℕ
repaid payer payee amount b = with_at payer (b.balances payer - amount) (with_at payee (b.balances payee + amount) b.balances)

abbrev paying : ℕ → ℕ → ℕ → Book → List Edit
paying payer payee amount b = edit (balance_at payer) (digits 8 (b.balances payer - amount)) ∷ edit (balance_at payee) (digits 8 (b.balances payee + amount)) ∷ []

module _ (f : ℕ → ℕ) (b : Book) (payer payee amount : ℕ) (h : Holds f b) (i : IsAccount payer) (j : IsAccount payee) (ne : payer ≢ payee) (enough : amount ≤ b.balances payer) (some : is_empty b.free ≡ false) where
  -- the balances are the new ones
  repaid_stands : Balances (after_edits (paying payer payee amount b) f) (repaid payer payee amount b)
  repaid_stands d k =
      subst (λ (v : ℕ). Stands (after_edits (paying payer payee amount b) f) (balance_at d) (digits 8 v))
      (with_swapped payer payee (b.balances payer - amount) (b.balances payee + amount) b.balances d ne)
      (balances_after (put (edit (balance_at payer) (digits 8 (b.balances payer - amount))) f) (with_at payer (b.balances payer - amount) b.balances) payee (b.balances payee + amount)
      (balances_after f b.balances payer (b.balances payer - amount) h.money.balance)
      d k)

  repaid_sum : sum_to 64 (repaid payer payee amount b) ≡ b.issued
  repaid_sum =
      let p = sum_changed 64 payee (b.balances payee + amount) b.balances j.0 j.1 in
      let q = sum_changed 64 payer (b.balances payer - amount) (with_at payee (b.balances payee + amount) b.balances) i.0 i.1 in
      let r = with_other payee (b.balances payee + amount) b.balances payer ne in
      let s = h.money.sum in
      omega (arith, p, q, r, s)

  moved_money : Money (after_edits (paying payer payee amount b) f) (moved payer payee amount b)
  moved_money =
      record {
        issued =
            total_after (put (edit (balance_at payer) (digits 8 (b.balances payer - amount))) f) payee (b.balances payee + amount) b.issued j
            (total_after f payer (b.balances payer - amount) b.issued i h.money.issued);
        balance = repaid_stands;
        bound = h.money.bound;
        sum = repaid_sum;
      }

  moved_records : Records (moved payer payee amount b)
  moved_records =
      record {
        entries = entries;
        tags = h.records.tags;
      }
    where
      front : GoodEntries (at (head_or_0 b.free) (entry amount payee) ∷ b.entries payer)
      front =
          let least = sum_least 64 payer b.balances i.0 i.1 in
          let s = h.money.sum in
          let u = h.money.bound in
          ((omega (arith, least, s, u), omega (arith, j.1)), j, h.records.entries payer i)

      entries : (a : ℕ) → IsAccount a → GoodEntries (with_at payer (at (head_or_0 b.free) (entry amount payee) ∷ b.entries payer) b.entries a)
      entries a k =
          ⊎_elim
          (λ (e : a ≡ payer).
          subst (λ (n : ℕ). GoodEntries (with_at payer (at (head_or_0 b.free) (entry amount payee) ∷ b.entries payer) b.entries n)) (sym e)
          (subst GoodEntries (sym (with_same payer (at (head_or_0 b.free) (entry amount payee) ∷ b.entries payer) b.entries)) front))
          (λ (np : a ≢ payer).
          subst GoodEntries (sym (with_other payer (at (head_or_0 b.free) (entry amount payee) ∷ b.entries payer) b.entries a np)) (h.records.entries a k))
          (cases_eq a payer)

  moved_front : InFront b (moved payer payee amount b) payer entry_kind (entry_content (entry amount payee))
  moved_front =
      record {
        some = i.0;
        below = omega (arith, i.1);
        long = entry_length (entry amount payee);
        free = some;
        after = refl;
        front = front;
        others = others;
      }
    where
      front : cells_of (moved payer payee amount b) payer ≡ cell (head_or_0 b.free) entry_kind (entry_content (entry amount payee)) ∷ cells_of b payer
      front =
          cells_account (moved payer payee amount b) payer i
          ∙ ap (λ (xs : List (At Entry)). map entry_cell xs) (with_same payer (at (head_or_0 b.free) (entry amount payee) ∷ b.entries payer) b.entries)
          ∙ ap (λ (cs : List Cell). cell (head_or_0 b.free) entry_kind (entry_content (entry amount payee)) ∷ cs) (sym (cells_account b payer i))

      others : (d : ℕ) → d < 81 → d ≢ 0 → d ≢ payer → cells_of (moved payer payee amount b) d ≡ cells_of b d
      others d l nz np =
          elim (chain_cases d l) [
            | inl e ↦ absurd (nz e)
            | inr (inl k) ↦
                cells_account (moved payer payee amount b) d k
                ∙ ap (λ (xs : List (At Entry)). map entry_cell xs) (with_other payer (at (head_or_0 b.free) (entry amount payee) ∷ b.entries payer) b.entries d np)
                ∙ sym (cells_account b d k)
            | inr (inr k) ↦ cells_bucket (moved payer payee amount b) d k ∙ sym (cells_bucket b d k)
          ]

  moving_holds : Holds (after_edits (move_edits b payer payee amount) f) (moved payer payee amount b)
  moving_holds =
      let m : AllMoney (paying payer payee amount b) = (balance_is_money payer (b.balances payer - amount) i, (balance_is_money payee (b.balances payee + amount) j, tt)) in
      holds_in_front (after_edits (paying payer payee amount b) f) b (moved payer payee amount b) payer entry_kind (entry_content (entry amount payee)) moved_front
      h.records
      (chains_beside (paying payer payee amount b) f b m h.records h.chains)
      moved_money
      (zeros_beside (paying payer payee amount b) f m h.zeros)
      moved_records

pub move_holds : (f : ℕ → ℕ) (b : Book) (payer payee amount : ℕ) → Holds f b → first_fit (move_rows b payer payee amount) ≡ None
    → Holds (after_edits (move_edits b payer payee amount) f) (moved payer payee amount b)
move_holds f b payer payee amount h none =
    let p1 = none_fits (no_account payer) (no_account payee ∷ same payer payee ∷ nothing payer amount ∷ short b payer amount ∷ no_cell b payer ∷ []) none in
    let p2 = none_fits (no_account payee) (same payer payee ∷ nothing payer amount ∷ short b payer amount ∷ no_cell b payer ∷ []) p1.1 in
    let p3 = none_fits (same payer payee) (nothing payer amount ∷ short b payer amount ∷ no_cell b payer ∷ []) p2.1 in
    let p4 = none_fits (nothing payer amount) (short b payer amount ∷ no_cell b payer ∷ []) p3.1 in
    let p5 = none_fits (short b payer amount) (no_cell b payer ∷ []) p4.1 in
    let p6 = none_fits (no_cell b payer) [] p5.1 in
    moving_holds f b payer payee amount h (is_one payer p1.0) (is_one payee p2.0) (not_same payer payee p3.0) (not_less (b.balances payer) amount p5.0) p6.0

-- visit: a move of 1, if the tag has an account
pub visit_holds : (f : ℕ → ℕ) (b : Book) (id : List ℕ) (guard : ℕ) → Holds f b → first_fit (visit_rows b id guard) ≡ None
    → Holds (after_edits (visit_edits b id guard) f) (visited id guard b)
visit_holds f b id guard h none =
    let p = none_fits (no_account guard) (paying_rows b (account_of b id) id guard) none in
    go (account_of b id) refl p.1 (is_one guard p.0)
  where
    go : (o : Option ℕ) → account_of b id ≡ o → first_fit (paying_rows b o id guard) ≡ None → IsAccount guard → Holds (after_edits (paying_edits b o guard) f) (paid o guard b)
    go None e q j = cc
    go (Some payer) e q j =
        let p1 = none_fits (same payer guard) (short b payer 1 ∷ no_cell b payer ∷ []) q in
        let p2 = none_fits (short b payer 1) (no_cell b payer ∷ []) p1.1 in
        let p3 = none_fits (no_cell b payer) [] p2.1 in
        let i = tag_account id (bucket_of id) payer (b.tags (bucket_of id)) (h.records.tags (bucket_of id) (omega arith)) e in
        moving_holds f b payer guard 1 h i j (not_same payer guard p1.0) (not_less (b.balances payer) 1 p2.0) p3.0

-- enrol: the tag is in front of its bucket
not_present : (o : Option ℕ) → (present o).0 ≡ false → o ≡ None
not_present None h = refl
not_present (Some a) h = cc

module _ (f : ℕ → ℕ) (b : Book) (id : List ℕ) (a : ℕ) (long : length id ≡ 8) (h : Holds f b) (i : IsAccount a) (new : account_of b id ≡ None) (some : is_empty b.free ≡ false) where
  enrolled_records : Records (enrolled id a b)
  enrolled_records = record { entries = h.records.entries; tags = tags }
    where
      front : GoodTags (bucket_of id) (at (head_or_0 b.free) (tag id a) ∷ b.tags (bucket_of id))
      front =
          ((long, omega (arith, i.1)), i, refl, no_tag id (b.tags (bucket_of id)) new, h.records.tags (bucket_of id) (omega arith))

      tags : (k : ℕ) → k < 16 → GoodTags k (with_at (bucket_of id) (at (head_or_0 b.free) (tag id a) ∷ b.tags (bucket_of id)) b.tags k)
      tags k l =
          ⊎_elim
          (λ (e : k ≡ bucket_of id).
          subst (λ (n : ℕ). GoodTags n (with_at (bucket_of id) (at (head_or_0 b.free) (tag id a) ∷ b.tags (bucket_of id)) b.tags n)) (sym e)
          (subst (GoodTags (bucket_of id)) (sym (with_same (bucket_of id) (at (head_or_0 b.free) (tag id a) ∷ b.tags (bucket_of id)) b.tags)) front))
          (λ (ne : k ≢ bucket_of id).
          subst (GoodTags k) (sym (with_other (bucket_of id) (at (head_or_0 b.free) (tag id a) ∷ b.tags (bucket_of id)) b.tags k ne)) (h.records.tags k l))
          (cases_eq k (bucket_of id))

  enrolled_front : InFront b (enrolled id a b) (bucket_chain (bucket_of id)) tag_kind (tag_content (tag id a))
  enrolled_front =
      record {
        some = omega arith;
        below = omega arith;
        long = tag_length (tag id a) long;
        free = some;
        after = refl;
        front = front;
        others = others;
      }
    where
      front : cells_of (enrolled id a b) (bucket_chain (bucket_of id)) ≡ cell (head_or_0 b.free) tag_kind (tag_content (tag id a)) ∷ cells_of b (bucket_chain (bucket_of id))
      front =
          cells_tags (enrolled id a b) (bucket_of id) (omega arith)
          ∙ ap (λ (xs : List (At Tag)). map tag_cell xs) (with_same (bucket_of id) (at (head_or_0 b.free) (tag id a) ∷ b.tags (bucket_of id)) b.tags)
          ∙ ap (λ (cs : List Cell). cell (head_or_0 b.free) tag_kind (tag_content (tag id a)) ∷ cs) (sym (cells_tags b (bucket_of id) (omega arith)))

      others : (d : ℕ) → d < 81 → d ≢ 0 → d ≢ bucket_chain (bucket_of id) → cells_of (enrolled id a b) d ≡ cells_of b d
      others d l nz np =
          elim (chain_cases d l) [
            | inl e ↦ absurd (nz e)
            | inr (inl k) ↦ cells_account (enrolled id a b) d k ∙ sym (cells_account b d k)
            | inr (inr k) ↦
                cells_bucket (enrolled id a b) d k
                ∙ ap (λ (xs : List (At Tag)). map tag_cell xs)
                (with_other (bucket_of id) (at (head_or_0 b.free) (tag id a) ∷ b.tags (bucket_of id)) b.tags (d - 65)
                (λ (e : d - 65 ≡ bucket_of id). np (omega (arith, k.0))))
                ∙ sym (cells_bucket b d k)
          ]

  enrolling_holds : Holds (after_edits (enrol_edits b id a) f) (enrolled id a b)
  enrolling_holds =
      holds_in_front f b (enrolled id a b) (bucket_chain (bucket_of id)) tag_kind (tag_content (tag id a)) enrolled_front
      h.records h.chains
      (record { issued = h.money.issued; balance = h.money.balance; bound = h.money.bound; sum = h.money.sum })
      h.zeros enrolled_records

pub enrol_holds : (f : ℕ → ℕ) (b : Book) (id : List ℕ) (a : ℕ) → length id ≡ 8 → Holds f b → first_fit (enrol_rows b id a) ≡ None
    → Holds (after_edits (enrol_edits b id a) f) (enrolled id a b)
enrol_holds f b id a long h none =
    let p = none_fits (no_account a) (present (account_of b id) ∷ no_cell b a ∷ []) none in
    let q = none_fits (present (account_of b id)) (no_cell b a ∷ []) p.1 in
    let r = none_fits (no_cell b a) [] q.1 in
    enrolling_holds f b id a long h (is_one a p.0) (not_present (account_of b id) q.0) r.0
