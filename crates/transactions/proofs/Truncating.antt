-- What a truncation found, as lists of pages, and what its tests say together.
use Rattle.std.proofs.Common.{◌≡◌, ℕ, ◌<◌, ◌≤◌, Bool, true, false, cond, not, eqb, ltb, leb, ◌≢◌, List, [], ◌∷◌, map, length, None, Err, sym, refl, ap, ◌∙◌, subst, inr, ⊎_elim, arith}
use Rattle.std.proofs.lemmas.Bool.{cases_lt, eq-eqb, eqb-true, eqb-false}
use Rattle.std.proofs.lemmas.List.{nil_from_length}
use Rattle.arrayvec.specs.ArrayVec.{array_vec_len}
use Rattle.device.specs.declared.fault.DeviceFault.{DeviceFault}
use Rattle.device.specs.declared.fault.DeviceFault.TheVariants.{Power, Misaddressed, Unfit, Spoiled}
use Rattle.device.specs.Disk.{Disk, Shown, Among}
use Rattle.device.specs.Trace.{Tries}
use Rattle.journal.specs.Log.{log}
use Rattle.journal.specs.Pages.{names, in_log, named_in, covered_in}
use Rattle.durability.specs.Items.{Item, recorded}
use Rattle.transactions.specs.declared.fault.StoreFault.TheVariants.{Device}
use Rattle.transactions.specs.declared.spool.Spooled.{Spooled}
use Rattle.transactions.specs.declared.state.State.{State}
use Rattle.transactions.specs.Pages.{members, due_of, Tabulates}
use Rattle.transactions.specs.Parts.{Spool, item_of, waiting}
use Rattle.transactions.specs.Rows.{first_fit}
use Rattle.transactions.specs.State.{live, spooled, TurnedOff}
use Rattle.transactions.specs.Truncation.{in_items, is_dirty, is_due, dirty_pages, due_pages, crowded, truncating, truncation, PagesAnswer}
use Rattle.transactions.proofs.Flagging.{chosen_same, chosen_has}

-- the table chooses the dirty pages and those that are due
pub dirty_is : (s : State) (shows : ℕ → Shown) → Tabulates s shows → members s.pages.named ≡ dirty_pages s shows
dirty_is s shows k = chosen_same (named_in s.pages) (is_dirty s shows) 0 64 (λ p a b. k.named p (omega arith))

pub due_is : (s : State) (shows : ℕ → Shown) → Tabulates s shows → due_of s.pages ≡ due_pages s shows
due_is s shows k =
    chosen_same (λ p. cond (named_in s.pages p) (not (covered_in s.pages p)) false) (is_due s shows) 0 64
    (λ p a b.
    ap (λ (x : Bool). cond x (not (covered_in s.pages p)) false) (k.named p (omega arith))
    ∙ ap (λ (x : Bool). cond (is_dirty s shows p) (not x) false) (k.covered p (omega arith)))

pub plan_is : (s : State) (shows : ℕ → Shown) (due dirty : List ℕ) → due ≡ due_pages s shows → dirty ≡ dirty_pages s shows → truncating s due dirty ≡ truncation s shows
plan_is s shows due dirty e f =
    ap (λ (xs : List ℕ). truncating s xs dirty) e ∙ ap (λ (xs : List ℕ). truncating s (due_pages s shows) xs) f

-- a part that waits names a page
first_waits : (s : Spool) → 1 ≤ array_vec_len s → (x : Spooled) × (rest : List Item) × (waiting s ≡ item_of x ∷ rest)
first_waits s h = go s.items h
  where
    go : (xs : List Spooled) → 1 ≤ length xs → (x : Spooled) × (rest : List Item) × (map item_of xs ≡ item_of x ∷ rest)
    go [] a = absurd (omega arith)
    go (x ∷ xs) a = (x, map item_of xs, refl)

named_part : (x : Spooled) → names (recorded 0 0 (item_of x)) x.page ≡ true
named_part x = let t = eq-eqb x.page x.page refl in rw t (kind x.last)
  where
    kind : (b : Bool) → cond (leb 1 (cond b 2 1)) (ltb (cond b 2 1) 4) false ≡ true
    kind true = refl
    kind false = refl

or_true : (a : Bool) → cond a true true ≡ true
or_true true = refl
or_true false = refl

first_dirty : (s : State) (shows : ℕ → Shown) → 1 ≤ array_vec_len s.spool → (p : ℕ) × Among p (dirty_pages s shows)
first_dirty s shows h =
    let w = first_waits s.spool h in
    let x = w.0 in
    let says : in_items names (spooled s) x.page ≡ true =
    ap (λ (xs : List Item). in_items names xs x.page) w.2 ∙ ap (λ (b : Bool). cond b true (in_items names w.1 x.page)) (named_part x) in
    let live? = in_log names (log s.log.places shows) s.log.low (live s) x.page in
    (x.page, chosen_has (is_dirty s shows) 0 64 x.page (omega arith) (omega (arith, x.paged)) (ap (λ (b : Bool). cond live? true b) says ∙ or_true live?))

pub nothing_waits : (s : State) (shows : ℕ → Shown) → dirty_pages s shows ≡ [] → array_vec_len s.spool ≡ 0
nothing_waits s shows e =
    ⊎_elim
    (λ (h : length s.spool.items < 1). omega arith)
    (λ (h : 1 ≤ length s.spool.items). let w = first_dirty s shows h in absurd (subst (λ (ps : List ℕ). Among w.0 ps) e w.1))
    (cases_lt (length s.spool.items) 1)

-- where the set of dirty pages is not empty, some page is dirty
pub some_dirty : (s : State) (shows : ℕ → Shown) (dirty : List ℕ) → dirty ≡ dirty_pages s shows → eqb (length dirty) 0 ≡ false → dirty_pages s shows ≢ []
some_dirty s shows dirty e h none = eqb-false (length dirty) 0 h (ap length e ∙ ap length none)

pub none_dirty : (s : State) (shows : ℕ → Shown) (dirty : List ℕ) → dirty ≡ dirty_pages s shows → eqb (length dirty) 0 ≡ true → dirty_pages s shows ≡ []
none_dirty s shows dirty e h = nil_from_length (dirty_pages s shows) (sym (ap length e) ∙ eqb-true (length dirty) 0 h)

-- power failed in the plan
pub pages_cut : (s s' : State) (d e : Disk) (f : DeviceFault) → first_fit (crowded s (length (due_pages s d.shows)) ∷ []) ≡ None → dirty_pages s d.shows ≢ []
    → Tries d (truncation s d.shows) (Err f) e → TurnedOff s s' → PagesAnswer s d (Err (Device f)) s' e
pages_cut s s' d e (Power o) passes some h off = inr (passes, o, refl, some, h, off)
pages_cut s s' d e (Misaddressed x o) passes some h off = absurd h
pages_cut s s' d e Unfit passes some h off = absurd h
pages_cut s s' d e (Spoiled x o) passes some h off = absurd h
