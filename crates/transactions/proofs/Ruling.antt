-- Which pages are dirty and due, by the records that say so.
use Rattle.std.proofs.Common.{◌≡◌, ℕ, zero, suc, ◌+◌, ◌<◌, ◌≤◌, Bool, true, false, cond, not, eqb, leb, ltb, ◌⊎◌, List, [], ◌∷◌, map, length, get_or, sym, refl, ap, ◌∙◌, subst, inl, inr, ⊎_elim, arith}
use Rattle.std.proofs.lemmas.Bool.{cases_eq, cases_Bool, both_ways, eqb-true, eq-eqb, leb-true, le-leb, ltb-true, lt-ltb, cond-true}
use Rattle.device.specs.Disk.{Shown, Among}
use Rattle.record.specs.Entry.{Entry}
use Rattle.journal.specs.Log.{log}
use Rattle.journal.specs.Pages.{names, covers, in_log}
use Rattle.journal.proofs.Places.{kept}
use Rattle.durability.specs.Items.{Item, recorded}
use Rattle.transactions.specs.declared.spool.Spooled.{Spooled}
use Rattle.transactions.specs.declared.state.State.{State}
use Rattle.transactions.specs.Dirty.{OfStore, NamesPage, CoversPage, IsDirty, IsDue, PagesByRule}
use Rattle.transactions.specs.Parts.{item_of}
use Rattle.transactions.specs.State.{live, spooled}
use Rattle.transactions.specs.Truncation.{in_items, said_of, is_dirty, is_due, chosen, dirty_pages, due_pages}
use Rattle.transactions.proofs.Flagging.{chosen_has, chosen_passes}

-- what is chosen ascends

above : (i : ℕ) (c : Bool) (rest : List ℕ) → ((m : ℕ) → m < length rest → i + 1 ≤ get_or rest m 0)
    → (m : ℕ) → m < length (cond c (i ∷ rest) rest) → i ≤ get_or (cond c (i ∷ rest) rest) m 0
above i true rest h zero l = omega arith
above i true rest h (suc m) l = omega (arith, h m (omega arith))
above i false rest h m l = omega (arith, h m l)

chosen_above : (test : ℕ → Bool) (i k j : ℕ) → j < length (chosen test i k) → i ≤ get_or (chosen test i k) j 0
unfolding chosen
chosen_above test i zero j h = absurd (omega arith)
chosen_above test i (suc k) j h = above i (test i) (chosen test (i + 1) k) (λ m l. chosen_above test (i + 1) k m l) j h

after : (i : ℕ) (c : Bool) (rest : List ℕ) → ((m : ℕ) → m < length rest → i + 1 ≤ get_or rest m 0)
    → ((m : ℕ) → suc m < length rest → get_or rest m 0 < get_or rest (suc m) 0)
    → (m : ℕ) → suc m < length (cond c (i ∷ rest) rest) → get_or (cond c (i ∷ rest) rest) m 0 < get_or (cond c (i ∷ rest) rest) (suc m) 0
after i true rest up h zero l = omega (arith, up 0 (omega arith))
after i true rest up h (suc m) l = h m (omega arith)
after i false rest up h m l = h m l

chosen_ascends : (test : ℕ → Bool) (i k j : ℕ) → suc j < length (chosen test i k) → get_or (chosen test i k) j 0 < get_or (chosen test i k) (suc j) 0
unfolding chosen
chosen_ascends test i zero j h = absurd (omega arith)
chosen_ascends test i (suc k) j h =
    after i (test i) (chosen test (i + 1) k) (λ m l. chosen_above test (i + 1) k m l) (λ m l. chosen_ascends test (i + 1) k m l) j h

ascends : (test : ℕ → Bool) (j : ℕ) → j + 1 < length (chosen test 0 64) → get_or (chosen test 0 64) j 0 < get_or (chosen test 0 64) (j + 1) 0
ascends test j h =
    let e : j + 1 ≡ suc j = omega arith in
    subst (λ (n : ℕ). get_or (chosen test 0 64) j 0 < get_or (chosen test 0 64) n 0) (sym e) (chosen_ascends test 0 64 j (omega arith))

-- one test or the other, and both

or_yes : (a b : Bool) → cond a true b ≡ true → (a ≡ true) ⊎ (b ≡ true)
or_yes true b h = inl refl
or_yes false b h = inr h

or_left : (a b : Bool) → a ≡ true → cond a true b ≡ true
or_left a b h = cond-true a true b h

or_right : (a b : Bool) → b ≡ true → cond a true b ≡ true
or_right true b h = refl
or_right false b h = h

and_yes : (a b : Bool) → cond a b false ≡ true → (a ≡ true) × (b ≡ true)
and_yes true b h = (refl, h)
and_yes false b h = absurd (both_ways false refl h)

and_both : (a b : Bool) → a ≡ true → b ≡ true → cond a b false ≡ true
and_both true b h k = k
and_both false b h k = absurd (both_ways false refl h)

not_yes : (b : Bool) → not b ≡ true → b ≡ false
not_yes true h = absurd (both_ways false refl h)
not_yes false h = refl

-- a test of a record, and what it says

names_page : (e : Entry) (p : ℕ) → names e p ≡ true → NamesPage e p
names_page e p h =
    let a = and_yes (eqb e.page p) (cond (leb 1 e.kind) (ltb e.kind 4) false) h in
    let b = and_yes (leb 1 e.kind) (ltb e.kind 4) a.1 in
    record { page = eqb-true e.page p a.0; some = leb-true 1 e.kind b.0; piece = omega (arith, ltb-true e.kind 4 b.1) }

page_named : (e : Entry) (p : ℕ) → NamesPage e p → names e p ≡ true
page_named e p h =
    and_both (eqb e.page p) (cond (leb 1 e.kind) (ltb e.kind 4) false) (eq-eqb e.page p h.page)
    (and_both (leb 1 e.kind) (ltb e.kind 4) (le-leb 1 e.kind h.some) (lt-ltb e.kind 4 (omega (arith, h.piece))))

covers_page : (e : Entry) (p : ℕ) → covers e p ≡ true → CoversPage e p
covers_page e p h =
    let a = and_yes (eqb e.page p) (eqb (length e.bytes) 96) h in
    record { page = eqb-true e.page p a.0; whole = eqb-true (length e.bytes) 96 a.1 }

page_covered : (e : Entry) (p : ℕ) → CoversPage e p → covers e p ≡ true
page_covered e p h =
    and_both (eqb e.page p) (eqb (length e.bytes) 96) (eq-eqb e.page p h.page) (eq-eqb (length e.bytes) 96 h.whole)

-- a record of the store says so just where the test of all does

log_yes : (says : Entry → ℕ → Bool) (l : ℕ → Entry) (low k p : ℕ) → in_log says l low k p ≡ true → (t : ℕ) × (low ≤ t) × (t < low + k) × (says (l t) p ≡ true)
unfolding in_log
log_yes says l low zero p e = absurd (both_ways false refl e)
log_yes says l low (suc k) p e =
    ⊎_elim
    (λ (here : says (l (low + k)) p ≡ true). (low + k, omega arith, omega arith, here))
    (λ below. let r = log_yes says l low k p below in (r.0, r.1, omega (arith, r.2), r.3))
    (or_yes (says (l (low + k)) p) (in_log says l low k p) e)

log_has : (says : Entry → ℕ → Bool) (l : ℕ → Entry) (low k p t : ℕ) → low ≤ t → t < low + k → says (l t) p ≡ true → in_log says l low k p ≡ true
unfolding in_log
log_has says l low zero p t a b h = absurd (omega arith)
log_has says l low (suc k) p t a b h =
    ⊎_elim
    (λ (e : t ≡ low + k). or_left (says (l (low + k)) p) (in_log says l low k p) (ap (λ (s : ℕ). says (l s) p) (sym e) ∙ h))
    (λ ne. or_right (says (l (low + k)) p) (in_log says l low k p) (log_has says l low k p t a (omega arith) h))
    (cases_eq t (low + k))

items_yes : (says : Entry → ℕ → Bool) (xs : List Item) (p : ℕ) → in_items says xs p ≡ true → (x : Item) × Among x xs × (says (recorded 0 0 x) p ≡ true)
items_yes says [] p e = absurd (both_ways false refl e)
items_yes says (x ∷ xs) p e =
    ⊎_elim
    (λ (here : says (recorded 0 0 x) p ≡ true). (x, inl refl, here))
    (λ later. let r = items_yes says xs p later in (r.0, inr r.1, r.2))
    (or_yes (says (recorded 0 0 x) p) (in_items says xs p) e)

items_has : (says : Entry → ℕ → Bool) (xs : List Item) (p : ℕ) (x : Item) → Among x xs → says (recorded 0 0 x) p ≡ true → in_items says xs p ≡ true
items_has says [] p x h t = absurd h
items_has says (y ∷ ys) p x (inl e) t = or_left (says (recorded 0 0 y) p) (in_items says ys p) (ap (λ (z : Item). says (recorded 0 0 z) p) (sym e) ∙ t)
items_has says (y ∷ ys) p x (inr h) t = or_right (says (recorded 0 0 y) p) (in_items says ys p) (items_has says ys p x h t)

module _ (s : State) (shows : ℕ → Shown) where
  abbrev live? : (Entry → ℕ → Bool) → ℕ → Bool
  live? says p = in_log says (log s.log.places shows) s.log.low (live s) p

  said_yes : (says : Entry → ℕ → Bool) (p : ℕ) → said_of says s shows p ≡ true → (e : Entry) × OfStore s shows e × (says e p ≡ true)
  said_yes says p h =
      ⊎_elim
      (λ (k : live? says p ≡ true).
      let r = log_yes says (log s.log.places shows) s.log.low (live s) p k in
      (log s.log.places shows r.0, inl (r.0, r.1, omega (arith, r.1, r.2), refl), r.3))
      (λ (k : in_items says (spooled s) p ≡ true).
      let r = items_yes says (spooled s) p k in
      (recorded 0 0 r.0, inr (r.0, r.1, refl), r.2))
      (or_yes (live? says p) (in_items says (spooled s) p) h)

  said_has : (says : Entry → ℕ → Bool) (p : ℕ) (e : Entry) → OfStore s shows e → says e p ≡ true → said_of says s shows p ≡ true
  said_has says p e (inl (t, a, b, is)) h =
      or_left (live? says p) (in_items says (spooled s) p)
      (log_has says (log s.log.places shows) s.log.low (live s) p t a (omega arith) (ap (λ (x : Entry). says x p) (sym is) ∙ h))
  said_has says p e (inr (x, among, is)) h =
      or_right (live? says p) (in_items says (spooled s) p)
      (items_has says (spooled s) p x among (ap (λ (y : Entry). says y p) (sym is) ∙ h))

  waits_small : (xs : List Spooled) (x : Item) → Among x (map item_of xs) → x.page < 64
  waits_small [] x h = absurd h
  waits_small (y ∷ ys) x (inl e) = subst (λ (z : Item). z.page < 64) (sym e) y.paged
  waits_small (y ∷ ys) x (inr h) = waits_small ys x h

  -- a page that is named is one of the memory
  named_small : (p : ℕ) (e : Entry) → OfStore s shows e → NamesPage e p → p < 64
  named_small p e (inl (t, a, b, is)) h =
      let some = subst (λ (x : Entry). 1 ≤ x.kind) is h.some in
      let k = kept s.log.places shows t some in
      omega (arith, k.page, h.page, ap (λ (x : Entry). x.page) is)
  named_small p e (inr (x, among, is)) h = omega (arith, waits_small s.spool.items x among, h.page, ap (λ (y : Entry). y.page) is)

  dirty_by : (p : ℕ) → Among p (dirty_pages s shows) → IsDirty s shows p
  dirty_by p h = let r = said_yes names p (chosen_passes (is_dirty s shows) 0 64 p h).1 in (r.0, r.1, names_page r.0 p r.2)

  by_dirty : (p : ℕ) → IsDirty s shows p → Among p (dirty_pages s shows)
  by_dirty p (e, of, named) =
      chosen_has (is_dirty s shows) 0 64 p (omega arith) (omega (arith, named_small p e of named)) (said_has names p e of (page_named e p named))

  due_by : (p : ℕ) → Among p (due_pages s shows) → IsDue s shows p
  due_by p h =
      let a = and_yes (is_dirty s shows p) (not (said_of covers s shows p)) (chosen_passes (is_due s shows) 0 64 p h).1 in
      let bare = not_yes (said_of covers s shows p) a.1 in
      let r = said_yes names p a.0 in (
        (r.0, r.1, names_page r.0 p r.2),
        λ e of whole. both_ways (said_of covers s shows p) bare (said_has covers p e of (page_covered e p whole)),
      )

  by_due : (p : ℕ) → IsDue s shows p → Among p (due_pages s shows)
  by_due p ((e, of, named), bare) =
      let dirty = said_has names p e of (page_named e p named) in
      let none : said_of covers s shows p ≡ false =
      ⊎_elim
      (λ (k : said_of covers s shows p ≡ true). let r = said_yes covers p k in absurd (bare r.0 r.1 (covers_page r.0 p r.2)))
      (λ (k : said_of covers s shows p ≡ false). k)
      (cases_Bool (said_of covers s shows p)) in
      chosen_has (is_due s shows) 0 64 p (omega arith) (omega (arith, named_small p e of named))
      (and_both (is_dirty s shows p) (not (said_of covers s shows p)) dirty (ap not none))

pub pages_by_rule : PagesByRule
pages_by_rule s shows =
    (ascends (is_dirty s shows), ascends (is_due s shows), λ p. (dirty_by s shows p, by_dirty s shows p), λ p. (due_by s shows p, by_due s shows p))
