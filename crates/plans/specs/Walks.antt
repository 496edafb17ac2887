-- What a walk along a chain finds.
use Rattle.std.specs.Prelude.{◌≡◌, ℕ, ◌<◌, ◌⊎◌, Bool, true, false, cond, List, [], ◌∷◌, map, Some, None, Ok, Err, Option, Result}
use Rattle.book.specs.declared.fault.LedgerFault.{LedgerFault}
use Rattle.book.specs.declared.fault.LedgerFault.TheVariants.{NoCell}
use Rattle.book.specs.declared.records.Tag.{Tag}
use Rattle.book.specs.declared.records.Entry.{Entry}
use Rattle.book.specs.Layout.{cell_at, Cell, cell, first_of, InCells}
use Rattle.book.specs.Layout as layout
use Rattle.book.specs.Book.{Book, At}
use Rattle.book.specs.Rows.{account_of, is_empty}
use Rattle.book.specs.Edits.{Place, place_of, head_or_0, rest_of, unlink, front_of, collect_edits}
use Rattle.plans.specs.declared.found.Found.{Found}
use Rattle.plans.specs.declared.found.FreeCell.{FreeCell}

-- An index leads to this cell, or to none.
abbrev pub Leading : ℕ → Option ℕ → Type 0
Leading n None = (n < 1) ⊎ (200 < n)
Leading n (Some x) = (x ≡ n) × InCells x

-- Records of one kind as cells.
abbrev pub cells_with : {X : Type 0} → ℕ → (X → List ℕ) → List (At X) → List Cell
cells_with kind content xs = map (λ x. cell x.number kind (content x.item)) xs

abbrev pub AllFit : {X : Type 0} → (X → Type 0) → List (At X) → Type 0
AllFit fits [] = Unit {0}
AllFit fits (x ∷ xs) = fits x.item × AllFit fits xs

-- The index at `link` leads to these records, in their cells.
abbrev pub Leads : {X : Type 0} → ℕ → (X → List ℕ) → (X → Type 0) → (ℕ → ℕ) → ℕ → List (At X) → Type 0
Leads kind content fits f link xs = layout.Chain f link (cells_with kind content xs) × AllFit fits xs

-- A record with its place: the index that leads to its cell, the cell, and the index of the next one.
pub record Placed (X : Type 0) : Type 0 where
  pub place : Place
  pub item : X

-- The first of these records that passes the test, if the index at `link` leads to the first of all.
abbrev pub first_such : {X : Type 0} → (X → Bool) → ℕ → List (At X) → Option (Placed X)
first_such test link [] = None
first_such test link (x ∷ xs) =
    cond (test x.item)
    (Some (record { place = record { link = link; number = x.number; next = first_of (cells_with 0 (λ _. []) xs) }; item = x.item }))
    (first_such test (cell_at x.number) xs)

-- What was found, as a record with its place.
abbrev pub placed : {X : Type 0} → Found X → Placed X
placed r = record { place = record { link = r.link; number = r.number; next = r.next }; item = r.record }

abbrev pub seen : {X : Type 0} → Option (Found X) → Option (Placed X)
seen None = None
seen (Some r) = Some (placed r)

-- The front free cell, for something of account a.
abbrev pub Frees : ℕ → List ℕ → Result FreeCell LedgerFault → Type 0
Frees a ns (Ok x) = (is_empty ns ≡ false) × (x.number ≡ head_or_0 ns) × (x.next ≡ head_or_0 (rest_of ns))
Frees a ns (Err f) = (is_empty ns ≡ true) × (f ≡ NoCell a)

-- Where a tag is, and the account that it has.
abbrev pub Sought : Book → List ℕ → Option (Found Tag) → Type 0
Sought b id None = (place_of b id ≡ None) × (account_of b id ≡ None)
Sought b id (Some r) = (place_of b id ≡ Some (placed r).place) × (account_of b id ≡ Some r.record.account)

-- The front entry of an account, which a collection takes out.
abbrev pub Fronted : Book → ℕ → Option (Found Entry) → Type 0
Fronted b a None = is_empty (b.entries a) ≡ true
Fronted b a (Some r) = (is_empty (b.entries a) ≡ false) × (front_of (b.entries a) ≡ Some r.record) × (unlink b r.link r.number r.next ≡ collect_edits b a)
