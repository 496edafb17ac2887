-- Runs cut at the bounds of pages.
use Rattle.std.specs.Prelude.{◌≡◌, ℕ, zero, suc, ◌+◌, ◌-◌, ◌*◌, ◌/◌, ◌%◌, ◌<◌, ◌≤◌, min, cond, ◌⊎◌, List, [], ◌∷◌, ◌++◌, length, take, drop, nat_lt, slice_index}
use Rattle.journal.specs.Memory.{overlaid}
use Rattle.image.specs.declared.run.Run.{Run}
use Rattle.image.specs.declared.run.Piece.{Piece}
use Rattle.image.specs.Runs.{run, Declared, is_declared, Apart, Inside}

abbrev pub piece : ℕ → ℕ → Piece
piece s n = record { start = s; size = n }

-- Where the piece ends that begins at f: at the next page, or with the run.
abbrev pub end : ℕ → ℕ → ℕ
end f t = min ((f / 96 + 1) * 96) t

-- The first n pieces of the bytes from f to t.
unfoldable pub cut : ℕ → ℕ → ℕ → List Piece
cut zero f t = []
cut (suc n) f t = cond (nat_lt f t) (piece f (end f t - f) ∷ cut n (end f t) t) []

-- The memory has 64 pages, so no run has more pieces.
abbrev pub cut_runs : List Run → List Piece
cut_runs [] = []
cut_runs (r ∷ rs) = cut 64 r.from r.to ++ cut_runs rs

-- Byte i once these pieces of the memory m are put in, if it was v before.
abbrev pub laid : List Piece → List ℕ → ℕ → ℕ → ℕ
laid [] m i v = v
laid (p ∷ ps) m i v = laid ps m i (overlaid p.start (take p.size (drop p.start m)) i v)

-- A piece has bytes, and lies in one page of the memory.
pub record FitsPage (p : Piece) : Type 0 where
  pub page : p.start / 96 < 64
  pub some : 1 ≤ p.size
  pub within : p.start % 96 + p.size ≤ 96

abbrev pub AllPieces : List Piece → Type 0
AllPieces [] = Unit {0}
AllPieces (p ∷ ps) = FitsPage p × AllPieces ps

-- Byte i lies in one of these pieces.
abbrev pub Lies : List Piece → ℕ → Type 0
Lies [] i = ⊥
Lies (p ∷ ps) i = ((p.start ≤ i) × (i < p.start + p.size)) ⊎ Lies ps i

-- The byte before e is the last of its page, or the last of a run.
abbrev pub EndsHere : List Run → ℕ → Type 0
EndsHere rs e = (e % 96 ≡ 0) ⊎ (Declared rs e → ⊥)

-- The pieces follow one another from byte `floor` on, each in one page, and each ends just where a page or a run ends.
abbrev pub Follow : List Run → ℕ → List Piece → Type 0
Follow rs floor [] = Unit {0}
Follow rs floor (p ∷ ps) = (floor ≤ p.start) × FitsPage p × EndsHere rs (p.start + p.size) × Follow rs (p.start + p.size) ps

-- These are the declared bytes, the lowest first, cut just at the bounds of pages and at the ends of runs.
pub record Cuts (rs : List Run) (ps : List Piece) : Type 0 where
  pub order : Follow rs 0 ps
  pub all : (i : ℕ) → Declared rs i → Lies ps i
  pub only : (i : ℕ) → Lies ps i → Declared rs i

-- Runs that lie apart in the memory are cut so, and in one way alone.
abbrev pub PiecesCut : Type 0
PiecesCut =
    (rs : List Run) → Apart 0 rs → Inside rs
    → Cuts rs (cut_runs rs) × ((ps : List Piece) → Cuts rs ps → ps ≡ cut_runs rs)

abbrev pub PiecesFit : Type 0
PiecesFit = (rs : List Run) → Inside rs → AllPieces (cut_runs rs)

-- Each run has one piece more than it has bounds of pages inside.
abbrev pub PiecesFew : Type 0
PiecesFew = (rs : List Run) → Apart 0 rs → Inside rs → length rs ≤ 16 → length (cut_runs rs) ≤ 79

abbrev pub PiecesNone : Type 0
PiecesNone = (rs : List Run) → Apart 0 rs → cut_runs rs ≡ [] → rs ≡ []

-- The pieces have the declared bytes and no others.
abbrev pub PiecesLay : Type 0
PiecesLay =
    (rs : List Run) (m : List ℕ) → Inside rs → length m ≡ 6144
    → (i v : ℕ) → laid (cut_runs rs) m i v ≡ cond (is_declared rs i) (slice_index m i) v

-- The run from byte 90 to 102: page 0 from 90 with 6 bytes, and page 1 from 0 with 6.
abbrev pub Edges : Type 0
Edges =
    (cut_runs (run 90 102 ∷ []) ≡ piece 90 6 ∷ piece 96 6 ∷ [])
    × (90 / 96 ≡ 0) × (90 % 96 ≡ 90) × (96 / 96 ≡ 1) × (96 % 96 ≡ 0)
