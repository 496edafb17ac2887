-- What tests of pages say of a log and of items, record by record.
use Rattle.std.proofs.Common.{◌≡◌, ℕ, zero, suc, ◌+◌, ◌*◌, ◌/◌, ◌<◌, ◌≤◌, Bool, true, false, cond, eqb, leb, ltb, ◌⊎◌, List, [], ◌∷◌, map, length, sym, refl, ap, ◌∙◌, inl, inr, ⊎_elim, arith}
use Rattle.std.proofs.lemmas.Bool.{cases_eq, cases_lt, both_ways, eqb-true, eq-eqb, le-leb, lt-ltb, cond-true}
use Rattle.device.specs.Disk.{Among}
use Rattle.record.specs.Entry.{Entry}
use Rattle.journal.specs.Memory.{applied, replayed}
use Rattle.journal.proofs.Overlay.{overlaid_below, overlaid_above}
use Rattle.journal.proofs.Places.{Kept}
use Rattle.journal.specs.Pages.{names, covers, in_log}
use Rattle.durability.specs.Items.{Item, recorded}
use Rattle.durability.proofs.Growth.{At}
use Rattle.transactions.specs.Truncation.{in_items, page_item}

-- one test or the other

pub or_yes : (a b : Bool) → cond a true b ≡ true → (a ≡ true) ⊎ (b ≡ true)
or_yes true b h = inl refl
or_yes false b h = inr h

pub or_left : (a b : Bool) → a ≡ true → cond a true b ≡ true
or_left a b h = cond-true a true b h

pub or_right : (a b : Bool) → b ≡ true → cond a true b ≡ true
or_right true b h = refl
or_right false b h = h

and_yes : (a b : Bool) → cond a b false ≡ true → (a ≡ true) × (b ≡ true)
and_yes true b h = (refl, h)
and_yes false b h = absurd (both_ways false refl h)

-- a record of a log says so

pub log_yes : (says : Entry → ℕ → Bool) (log : ℕ → Entry) (low k p : ℕ) → in_log says log low k p ≡ true → (s : ℕ) × (low ≤ s) × (s < low + k) × (says (log s) p ≡ true)
unfolding in_log
log_yes says log low zero p e = absurd (both_ways false refl e)
log_yes says log low (suc k) p e =
    ⊎_elim
    (λ (here : says (log (low + k)) p ≡ true). (low + k, omega arith, omega arith, here))
    (λ below. let r = log_yes says log low k p below in (r.0, r.1, omega (arith, r.2), r.3))
    (or_yes (says (log (low + k)) p) (in_log says log low k p) e)

pub log_has : (says : Entry → ℕ → Bool) (log : ℕ → Entry) (low k p s : ℕ) → low ≤ s → s < low + k → says (log s) p ≡ true → in_log says log low k p ≡ true
unfolding in_log
log_has says log low zero p s a b h = absurd (omega arith)
log_has says log low (suc k) p s a b h =
    let here = says (log (low + k)) p in
    let below = in_log says log low k p in
    ⊎_elim
    (λ (e : s ≡ low + k). or_left here below (ap (λ (t : ℕ). says (log t) p) (sym e) ∙ h))
    (λ ne. or_right here below (log_has says log low k p s a (omega arith) h))
    (cases_eq s (low + k))

-- an item says so

pub items_yes : (says : Entry → ℕ → Bool) (last : ℕ) (xs : List Item) (p : ℕ) → in_items says xs p ≡ true → (s : ℕ) × (x : Item) × At last xs s x × (says (recorded 0 0 x) p ≡ true)
items_yes says last [] p e = absurd (both_ways false refl e)
items_yes says last (x ∷ xs) p e =
    ⊎_elim
    (λ (here : says (recorded 0 0 x) p ≡ true). (last + 1, x, inl (refl, refl), here))
    (λ later. let r = items_yes says (last + 1) xs p later in (r.0, r.1, inr r.2, r.3))
    (or_yes (says (recorded 0 0 x) p) (in_items says xs p) e)

pub items_has : (says : Entry → ℕ → Bool) (last : ℕ) (xs : List Item) (p s : ℕ) (x : Item) → At last xs s x → says (recorded 0 0 x) p ≡ true → in_items says xs p ≡ true
items_has says last [] p s x h t = absurd h
items_has says last (y ∷ ys) p s x (inl h) t =
    or_left (says (recorded 0 0 y) p) (in_items says ys p) (ap (λ (z : Item). says (recorded 0 0 z) p) (sym h.1) ∙ t)
items_has says last (y ∷ ys) p s x (inr h) t =
    or_right (says (recorded 0 0 y) p) (in_items says ys p) (items_has says (last + 1) ys p s x h t)

-- records of pages, and their pages

pub page_at : (o : ℕ) (m : List ℕ) (last : ℕ) (ps : List ℕ) (p : ℕ) → Among p ps → (s : ℕ) × At last (map (page_item o m) ps) s (page_item o m p)
page_at o m last [] p h = absurd h
page_at o m last (q ∷ ps) p (inl e) = (last + 1, inl (refl, ap (λ (x : ℕ). page_item o m x) e))
page_at o m last (q ∷ ps) p (inr h) = let r = page_at o m (last + 1) ps p h in (r.0, inr r.1)

pub at_page : (o : ℕ) (m : List ℕ) (last : ℕ) (ps : List ℕ) (s : ℕ) (x : Item) → At last (map (page_item o m) ps) s x → Among x.page ps
at_page o m last [] s x h = absurd h
at_page o m last (q ∷ ps) s x (inl h) = inl (ap (λ (y : Item). y.page) h.1)
at_page o m last (q ∷ ps) s x (inr h) = inr (at_page o m (last + 1) ps s x h)

-- what the tests are of

pub names_page : (e : Entry) (p : ℕ) → names e p ≡ true → e.page ≡ p
names_page e p h = eqb-true e.page p (and_yes (eqb e.page p) (cond (leb 1 e.kind) (ltb e.kind 4) false) h).0

pub names_of : (e : Entry) (p : ℕ) → e.page ≡ p → 1 ≤ e.kind → e.kind < 4 → names e p ≡ true
names_of e p a b c = let x = eq-eqb e.page p a in let y = le-leb 1 e.kind b in let z = lt-ltb e.kind 4 c in rw (x, y, z) refl

pub covers_page : (e : Entry) (p : ℕ) → covers e p ≡ true → (e.page ≡ p) × (length e.bytes ≡ 96)
covers_page e p h =
    let r = and_yes (eqb e.page p) (eqb (length e.bytes) 96) h in
    (eqb-true e.page p r.0, eqb-true (length e.bytes) 96 r.1)

-- a record changes no byte of a page that it doesn't name

other_page : (n s : ℕ) (e : Entry) (i v : ℕ) → Kept n s e → e.kind ≤ 3 → (e.page ≡ i / 96 → ⊥) → applied e i v ≡ v
other_page n s e i v k piece ne =
    let within = k.within in
    ⊎_elim
    (λ (under : i < e.page * 96 + e.offset). overlaid_below (e.page * 96 + e.offset) e.bytes i v under)
    (λ (over : e.page * 96 + e.offset ≤ i).
    let above : e.page ≤ i / 96 = omega arith in
    overlaid_above (e.page * 96 + e.offset) e.bytes i v over (omega arith))
    (cases_lt i (e.page * 96 + e.offset))

pub unnamed : (n s : ℕ) (e : Entry) (i v : ℕ) → Kept n s e → names e (i / 96) ≡ false → applied e i v ≡ v
unnamed n s e i v k none =
    ⊎_elim
    (λ (mark : 3 < e.kind).
    let bare = k.bare (omega (arith, k.known.1)) in
    ⊎_elim
    (λ (under : i < e.page * 96 + e.offset). overlaid_below (e.page * 96 + e.offset) e.bytes i v under)
    (λ (over : e.page * 96 + e.offset ≤ i). overlaid_above (e.page * 96 + e.offset) e.bytes i v over (omega arith))
    (cases_lt i (e.page * 96 + e.offset)))
    (λ (piece : e.kind ≤ 3). other_page n s e i v k piece (λ same. both_ways (names e (i / 96)) none (names_of e (i / 96) same k.known.0 (omega arith))))
    (cases_lt 3 e.kind)

pub replayed_clean : (log : ℕ → Entry) (low k : ℕ) (base : ℕ → ℕ) (i : ℕ) → ((s v : ℕ) → low ≤ s → s < low + k → applied (log s) i v ≡ v) → replayed log low k base i ≡ base i
unfolding replayed
replayed_clean log low zero base i h = refl
replayed_clean log low (suc k) base i h =
    h (low + k) (replayed log low k base i) (omega arith) (omega arith) ∙ replayed_clean log low k base i (λ s v a b. h s v a (omega arith))
