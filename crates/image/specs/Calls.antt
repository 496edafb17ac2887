-- What the calls on the memory do.
use Rattle.std.specs.Prelude.{◌≡◌, ℕ, ◌+◌, ◌<◌, ◌≤◌, Bool, true, false, List, [], ◌∷◌, ◌++◌, length, take, drop, Some, None, Ok, Err, Option, Result, slice_index, slice_index_or}
use Rattle.std.specs.Borrow.{Bor}
use Rattle.journal.specs.Memory.{overlaid}
use Rattle.image.specs.declared.run.Run.{Run}
use Rattle.image.specs.declared.run.ImageFault.{ImageFault}
use Rattle.image.specs.declared.run.ImageFault.TheVariants.{Range, Runs as Too-many, Undeclared}
use Rattle.image.specs.declared.run.Piece.{Piece}
use Rattle.image.specs.declared.runs.Runs.{Runs}
use Rattle.image.specs.declared.runs.Pieces.{Pieces}
use Rattle.image.specs.declared.state.Image.{Image}
use Rattle.image.specs.Runs.{run, Declared, DeclaresAlso, joined}
use Rattle.image.specs.Cut.{cut, cut_runs}
use Rattle.image.specs.Stretch.{InRange, OutOfRange}

abbrev pub listed : Runs → List Run
listed x = x.items.items

-- The declared runs.
abbrev pub declared : Image → List Run
declared x = listed x.runs

-- There are none.
abbrev pub none : {A : Type 0} → List A → Bool
none [] = true
none (x ∷ xs) = false

-- A stretch is joined in, or there are too many runs, and then nothing changes.
abbrev pub JoinedIn : ℕ → ℕ → Runs → Bool → Runs → Type 0
JoinedIn f t x true y = listed y ≡ joined f t (listed x)
JoinedIn f t x false y = (16 < length (joined f t (listed x))) × (y ≡ x)

-- How many runs end below a stretch that begins at f: it goes in behind these.
pub record Below (f : ℕ) (rs : List Run) (k : ℕ) : Type 0 where
  pub count : k ≤ length rs
  pub below : (i : ℕ) → i < k → (slice_index_or rs i (run 0 0)).to < f
  pub next : k < length rs → f ≤ (slice_index_or rs k (run 0 0)).to

-- From the k-th run on, the stretch from f to t meets the runs up to the n-th, and with them is the run r.
pub record Meets (f t : ℕ) (rs : List Run) (k n : ℕ) (r : Run) : Type 0 where
  pub from : k ≤ n
  pub to : n ≤ length rs
  pub joins : joined f t (drop k rs) ≡ r ∷ drop n rs

-- The pieces that are left.
abbrev pub left : Pieces → List Piece
left p = cut 64 p.from p.to ++ cut_runs p.runs.now

-- The first run and those after it, or there is none.
abbrev pub FirstRun : List Run → Option (Run × Bor (List Run)) → Type 0
FirstRun rs (Some x) = rs ≡ x.0 ∷ x.1.now
FirstRun rs None = rs ≡ []

-- A run is being cut up, or no piece is left.
abbrev pub Cutting : Bool → Pieces → Type 0
Cutting true p = p.from < p.to
Cutting false p = left p ≡ []

-- The first byte from `start` on that is not declared is b.
pub record Reached (start : ℕ) (rs : List Run) (b : ℕ) : Type 0 where
  pub from : start ≤ b
  pub before : (i : ℕ) → start ≤ i → i < b → Declared rs i
  pub here : Declared rs b → ⊥

-- The stretch is declared beside what was.
pub record DeclaredMore (start size : ℕ) (x y : Image) : Type 0 where
  pub in_range : InRange start size
  pub declares : DeclaresAlso start (start + size) (declared x) (declared y)
  pub memory : y.memory ≡ x.memory
  pub before : y.before ≡ x.before

-- A stretch that has no bytes or goes past the memory changes nothing.
pub record RefusedRange (start size s : ℕ) (x y : Image) : Type 0 where
  pub told : s ≡ start
  pub out : OutOfRange start size
  pub same : y ≡ x

-- With the stretch declared too there would be more than 16 runs.
pub record RefusedRuns (start size s : ℕ) (x y : Image) : Type 0 where
  pub told : s ≡ start
  pub in_range : InRange start size
  pub runs : List Run
  pub declares : DeclaresAlso start (start + size) (declared x) runs
  pub many : 16 < length runs
  pub same : y ≡ x

abbrev pub Declares : ℕ → ℕ → Image → Result (Unit {0}) ImageFault → Image → Type 0
Declares start size x (Ok _) y = DeclaredMore start size x y
Declares start size x (Err (Range s)) y = RefusedRange start size s x y
Declares start size x (Err (Too-many s)) y = RefusedRuns start size s x y
Declares start size x (Err (Undeclared _)) y = ⊥

-- The bytes are put in from `start` on, all in declared places.
pub record Written (start : ℕ) (bytes : List ℕ) (x y : Image) : Type 0 where
  pub in_range : InRange start (length bytes)
  pub all : (i : ℕ) → start ≤ i → i < start + length bytes → Declared (declared x) i
  pub runs : declared y ≡ declared x
  pub before : y.before ≡ x.before
  pub memory : (i : ℕ) → slice_index y.memory i ≡ overlaid start bytes i (slice_index x.memory i)

-- Byte b is the first of the stretch that is not declared.
pub record RefusedByte (start size b : ℕ) (x y : Image) : Type 0 where
  pub in_range : InRange start size
  pub from : start ≤ b
  pub below : b < start + size
  pub first : (i : ℕ) → start ≤ i → i < b → Declared (declared x) i
  pub undeclared : Declared (declared x) b → ⊥
  pub same : y ≡ x

abbrev pub Writes : ℕ → List ℕ → Image → Result (Unit {0}) ImageFault → Image → Type 0
Writes start bytes x (Ok _) y = Written start bytes x y
Writes start bytes x (Err (Range s)) y = RefusedRange start (length bytes) s x y
Writes start bytes x (Err (Too-many _)) y = ⊥
Writes start bytes x (Err (Undeclared b)) y = RefusedByte start (length bytes) b x y

-- The buffer has the memory's bytes, or is as it was.
pub record Unread (start s : ℕ) (before after : List ℕ) : Type 0 where
  pub told : s ≡ start
  pub out : OutOfRange start (length before)
  pub same : after ≡ before

abbrev pub Reads : ℕ → Image → List ℕ → Result (Unit {0}) ImageFault → List ℕ → Type 0
Reads start x before (Ok _) after = InRange start (length before) × (after ≡ take (length before) (drop start x.memory))
Reads start x before (Err (Range s)) after = Unread start s before after
Reads start x before (Err (Too-many _)) after = ⊥
Reads start x before (Err (Undeclared _)) after = ⊥

-- The memory as it was before, with nothing declared.
pub record Restored (x y : Image) : Type 0 where
  pub memory : y.memory ≡ x.before
  pub before : y.before ≡ x.before
  pub clean : declared y ≡ []

-- The memory as it is, with nothing declared.
pub record Kept (x y : Image) : Type 0 where
  pub memory : y.memory ≡ x.memory
  pub before : y.before ≡ x.memory
  pub clean : declared y ≡ []
