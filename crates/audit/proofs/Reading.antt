-- What is read from a cell.
use Rattle.std.proofs.Common.{◌≡◌, ℕ, zero, suc, ◌+◌, List, length, get_or, Some, None, Option, sym, ◌∙◌, subst, arith}
use Rattle.book.specs.declared.records.Tag.{Tag}
use Rattle.book.specs.declared.records.Entry.{Entry}
use Rattle.book.specs.Records.{ReadAs, tag_kind, tag_content, entry_kind, entry_content}
use Rattle.book.specs.Laws.{tag_long, tag_same, entry_long, entry_same}
use Rattle.book.specs.Layout.{Stands, cell_at}
use Rattle.audit.specs.Contents.{HasBytes, ReadFrom, HasTag, HasEntry}
use Rattle.audit.proofs.Standing.{stands_same}

-- The bytes of a cell, its kind, the zero and its content by themselves.
pub kind_of : (f : ℕ → ℕ) (n kind : ℕ) (content : List ℕ) → HasBytes f n kind content → f (cell_at n + 2) ≡ kind
kind_of f n kind content h =
    let e : cell_at n + 2 + 0 ≡ cell_at n + 2 = omega arith in
    subst (λ (k : ℕ). f k ≡ kind) e (h 0 (omega arith))

pub zero_of : (f : ℕ → ℕ) (n kind : ℕ) (content : List ℕ) → HasBytes f n kind content → f (cell_at n + 3) ≡ 0
zero_of f n kind content h =
    let e : cell_at n + 2 + 1 ≡ cell_at n + 3 = omega arith in
    subst (λ (k : ℕ). f k ≡ 0) e (h 1 (omega arith))

pub content_of : (f : ℕ → ℕ) (n kind : ℕ) (content : List ℕ) → HasBytes f n kind content → Stands f (cell_at n + 4) content
content_of f n kind content h i k =
    let e : cell_at n + 2 + suc (suc i) ≡ cell_at n + 4 + i = omega arith in
    subst (λ (j : ℕ). f j ≡ get_or content i 0) e (h (suc (suc i)) (omega arith))

pub bytes_of : (f : ℕ → ℕ) (n kind : ℕ) (content : List ℕ) → f (cell_at n + 2) ≡ kind → f (cell_at n + 3) ≡ 0 → Stands f (cell_at n + 4) content → HasBytes f n kind content
bytes_of f n kind content hk hz hc zero h =
    let e : cell_at n + 2 + 0 ≡ cell_at n + 2 = omega arith in
    subst (λ (j : ℕ). f j ≡ kind) (sym e) hk
bytes_of f n kind content hk hz hc (suc zero) h =
    let e : cell_at n + 2 + 1 ≡ cell_at n + 3 = omega arith in
    subst (λ (j : ℕ). f j ≡ 0) (sym e) hz
bytes_of f n kind content hk hz hc (suc (suc i)) h =
    let e : cell_at n + 2 + suc (suc i) ≡ cell_at n + 4 + i = omega arith in
    subst (λ (j : ℕ). f j ≡ get_or content i 0) (sym e) (hc i (omega arith))

-- A record read from the content, of a cell of its kind, is read from the cell.
pub read_cell : {X : Type 0} (kind : ℕ) (content : X → List ℕ) (fits : X → Type 0) (long : (x : X) → fits x → length (content x) ≡ 20)
    (f : ℕ → ℕ) (n : ℕ) (bytes : List ℕ) (r : Option X)
    → length bytes ≡ 20 → f (cell_at n + 2) ≡ kind → f (cell_at n + 3) ≡ 0 → Stands f (cell_at n + 4) bytes → ReadAs content fits bytes r
    → ReadFrom kind content fits f n r
read_cell kind content fits long f n bytes None whole hk hz stands none =
    λ x fit has. none x fit (stands_same f (cell_at n + 4) (content x) bytes (long x fit ∙ sym whole) (content_of f n kind (content x) has) stands)
read_cell kind content fits long f n bytes (Some x) whole hk hz stands (is, fit) =
    (bytes_of f n kind (content x) hk hz (subst (λ (bs : List ℕ). Stands f (cell_at n + 4) bs) (sym is) stands), fit)

-- A cell has one tag, or one entry.
pub tag_one : (f : ℕ → ℕ) (n : ℕ) (x y : Tag) → HasTag f n x → HasTag f n y → x ≡ y
tag_one f n x y hx hy =
    tag_same x y hx.fits hy.fits
    (stands_same f (cell_at n + 4) (tag_content x) (tag_content y) (tag_long x hx.fits ∙ sym (tag_long y hy.fits))
    (content_of f n tag_kind (tag_content x) hx.stands)
    (content_of f n tag_kind (tag_content y) hy.stands))

pub entry_one : (f : ℕ → ℕ) (n : ℕ) (x y : Entry) → HasEntry f n x → HasEntry f n y → x ≡ y
entry_one f n x y hx hy =
    entry_same x y hx.fits hy.fits
    (stands_same f (cell_at n + 4) (entry_content x) (entry_content y) (entry_long x hx.fits ∙ sym (entry_long y hy.fits))
    (content_of f n entry_kind (entry_content x) hx.stands)
    (content_of f n entry_kind (entry_content y) hy.stands))
