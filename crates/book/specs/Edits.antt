-- What each change of the book writes: the fields that it changes, a taken or freed cell whole.
use Rattle.std.specs.Prelude.{ℕ, zero, suc, ◌+◌, ◌-◌, cond, List, [], ◌∷◌, ◌++◌, length, map, Some, None, Option, ◌==◌, bytes_eq}
use Rattle.record.specs.Fields.{digits}
use Rattle.journal.specs.Memory.{overlaid}
use Rattle.image.specs.declared.run.Run.{Run}
use Rattle.image.specs.Runs.{joined}
use Rattle.book.specs.declared.records.Tag.{Tag}
use Rattle.book.specs.declared.records.Entry.{Entry}
use Rattle.book.specs.Records.{bucket_of, entry_kind, entry_content, tag_kind, tag_content}
use Rattle.book.specs.Layout.{balance_at, head_at, bucket_chain, cell_at, cell, whole, first_of}
use Rattle.book.specs.Book.{Book, At, at, cells_of, free_cell, tag_cell}
use Rattle.book.specs.Rows.{account_of}

-- These bytes are put into the memory from `start` on.
pub record Edit : Type 0 where
  pub start : ℕ
  pub bytes : List ℕ

abbrev pub edit : ℕ → List ℕ → Edit
edit start bytes = record { start = start; bytes = bytes }

-- Byte i once the edits are made in their order, if it was v before.
abbrev pub edited : List Edit → ℕ → ℕ → ℕ
edited [] i v = v
edited (x ∷ xs) i v = edited xs i (overlaid x.start x.bytes i v)

-- The memory after them.
abbrev pub after_edits : List Edit → (ℕ → ℕ) → ℕ → ℕ
after_edits xs f i = edited xs i (f i)

-- The runs that are declared once the stretch of each edit is, beside these.
abbrev pub declaring : List Edit → List Run → List Run
declaring [] rs = rs
declaring (x ∷ xs) rs = declaring xs (joined x.start (x.start + length x.bytes) rs)

abbrev pub head_or_0 : List ℕ → ℕ
head_or_0 [] = 0
head_or_0 (n ∷ ns) = n

abbrev pub rest_of : {X : Type 0} → List X → List X
rest_of [] = []
rest_of (x ∷ xs) = xs

-- The front free cell goes to the front of a chain, with this kind and content.
abbrev pub put_in_front : Book → ℕ → ℕ → List ℕ → List Edit
put_in_front b chain kind content =
    let n = head_or_0 b.free in
    edit (head_at chain) (digits 2 n)
    ∷ edit (cell_at n) (whole (first_of (cells_of b chain)) (cell n kind content))
    ∷ edit (head_at 0) (digits 2 (head_or_0 (rest_of b.free)))
    ∷ []

-- Cell n, to which the index at `link` leads, is taken out, and becomes the front free cell.
abbrev pub unlink : Book → ℕ → ℕ → ℕ → List Edit
unlink b link n next =
    edit link (digits 2 next)
    ∷ edit (cell_at n) (whole (head_or_0 b.free) (free_cell n))
    ∷ edit (head_at 0) (digits 2 n)
    ∷ []

-- One number changed.
abbrev pub with_at : {X : Type 0} → ℕ → X → (ℕ → X) → ℕ → X
with_at a x f i = cond (i == a) x (f i)

-- Issue: more in an account, and in the total.
abbrev pub issue_edits : Book → ℕ → ℕ → List Edit
issue_edits b a amount = edit 0 (digits 8 (b.issued + amount)) ∷ edit (balance_at a) (digits 8 (b.balances a + amount)) ∷ []

abbrev pub issued_to : ℕ → ℕ → Book → Book
issued_to a amount b =
    record { issued = b.issued + amount; balances = with_at a (b.balances a + amount) b.balances; free = b.free; entries = b.entries; tags = b.tags }

-- Move: one account pays another, and an entry goes to the front of the payer's.
abbrev pub entry : ℕ → ℕ → Entry
entry amount payee = record { amount = amount; payee = payee }

abbrev pub move_edits : Book → ℕ → ℕ → ℕ → List Edit
move_edits b payer payee amount =
    edit (balance_at payer) (digits 8 (b.balances payer - amount))
    ∷ edit (balance_at payee) (digits 8 (b.balances payee + amount))
    ∷ put_in_front b payer entry_kind (entry_content (entry amount payee))

abbrev pub moved : ℕ → ℕ → ℕ → Book → Book
moved payer payee amount b =
    record {
      issued = b.issued;
      balances = with_at payer (b.balances payer - amount) (with_at payee (b.balances payee + amount) b.balances);
      free = rest_of b.free;
      entries = with_at payer (at (head_or_0 b.free) (entry amount payee) ∷ b.entries payer) b.entries;
      tags = b.tags;
    }

-- Visit: a move of 1 from the tag's account; where there is no such tag, nothing.
abbrev pub paying_edits : Book → Option ℕ → ℕ → List Edit
paying_edits b None guard = []
paying_edits b (Some payer) guard = move_edits b payer guard 1

abbrev pub visit_edits : Book → List ℕ → ℕ → List Edit
visit_edits b id guard = paying_edits b (account_of b id) guard

abbrev pub paid : Option ℕ → ℕ → Book → Book
paid None guard b = b
paid (Some payer) guard b = moved payer guard 1 b

abbrev pub visited : List ℕ → ℕ → Book → Book
visited id guard b = paid (account_of b id) guard b

-- Enrol: a tag goes to the front of its bucket.
abbrev pub tag : List ℕ → ℕ → Tag
tag id a = record { id = id; account = a }

abbrev pub enrol_edits : Book → List ℕ → ℕ → List Edit
enrol_edits b id a = put_in_front b (bucket_chain (bucket_of id)) tag_kind (tag_content (tag id a))

abbrev pub enrolled : List ℕ → ℕ → Book → Book
enrolled id a b =
    record {
      issued = b.issued;
      balances = b.balances;
      free = rest_of b.free;
      entries = b.entries;
      tags = with_at (bucket_of id) (at (head_or_0 b.free) (tag id a) ∷ b.tags (bucket_of id)) b.tags;
    }

-- Where a tag is: the place of the index that leads to its cell, the cell, and the index of the next one.
pub record Place : Type 0 where
  pub link : ℕ
  pub number : ℕ
  pub next : ℕ

abbrev pub place_in : List ℕ → ℕ → List (At Tag) → Option Place
place_in id link [] = None
place_in id link (x ∷ xs) =
    cond (bytes_eq x.item.id id) (Some (record { link = link; number = x.number; next = first_of (map tag_cell xs) })) (place_in id (cell_at x.number) xs)

abbrev pub without : List ℕ → List (At Tag) → List (At Tag)
without id [] = []
without id (x ∷ xs) = cond (bytes_eq x.item.id id) xs (x ∷ without id xs)

-- Drop: a tag is taken out of its bucket; where there is no such tag, nothing.
abbrev pub place_of : Book → List ℕ → Option Place
place_of b id = place_in id (head_at (bucket_chain (bucket_of id))) (b.tags (bucket_of id))

abbrev pub taking_out : Book → Option Place → List Edit
taking_out b None = []
taking_out b (Some p) = unlink b p.link p.number p.next

abbrev pub drop_edits : Book → List ℕ → List Edit
drop_edits b id = taking_out b (place_of b id)

abbrev pub freed : Option Place → List ℕ → List ℕ
freed None free = free
freed (Some p) free = p.number ∷ free

abbrev pub dropped : List ℕ → Book → Book
dropped id b =
    record {
      issued = b.issued;
      balances = b.balances;
      free = freed (place_of b id) b.free;
      entries = b.entries;
      tags = with_at (bucket_of id) (without id (b.tags (bucket_of id))) b.tags;
    }

-- Collect: an account's front entry is taken out; where it has none, nothing.
abbrev pub front_of : {X : Type 0} → List (At X) → Option X
front_of [] = None
front_of (x ∷ xs) = Some x.item

abbrev pub collect_edits : Book → ℕ → List Edit
collect_edits b a =
    let n = first_of (cells_of b a) in
    unlink b (head_at a) n (first_of (rest_of (cells_of b a)))

abbrev pub collected : ℕ → Book → Book
collected a b =
    record {
      issued = b.issued;
      balances = b.balances;
      free = first_of (cells_of b a) ∷ b.free;
      entries = with_at a (rest_of (b.entries a)) b.entries;
      tags = b.tags;
    }

-- Make: cells 1 to 200 become the free chain, in their order.
unfoldable pub free_chain : ℕ → ℕ → List ℕ
free_chain n zero = []
free_chain n (suc k) = whole (cond (n == 200) 0 (n + 1)) (free_cell n) ++ free_chain (n + 1) k

abbrev pub make_edits : List Edit
make_edits = edit (head_at 0) (digits 2 1) ∷ edit (cell_at 1) (free_chain 1 200) ∷ []
