-- Bytes copied into the memory, byte by byte.
use Rattle.std.proofs.Common.{◌≡◌, ℕ, ◌+◌, ◌-◌, ◌<◌, ◌≤◌, List, length, get_or, ⊎_elim, rules}
use borrow.Rule.Slice.PartMut.{put_mid}
use Rattle.std.proofs.lemmas.Bool.{cases_lt, le-leb, lt-leb, lt-ltb, le-ltb}
use Rattle.std.proofs.lemmas.List.{places}
use Rattle.journal.specs.Memory.{overlaid}

below : (place : ℕ) (bytes memory : List ℕ) (i : ℕ) → place + length bytes ≤ length memory → i < place → get_or (put_mid place (length bytes) memory bytes) i 0 ≡ get_or memory i 0
below place bytes memory i fits h = search (rules, places)

within : (place : ℕ) (bytes memory : List ℕ) (i : ℕ) → place + length bytes ≤ length memory → place ≤ i → i < place + length bytes → get_or (put_mid place (length bytes) memory bytes) i 0 ≡ get_or bytes (i - place) 0
within place bytes memory i fits h k = search (rules, places)

above : (place : ℕ) (bytes memory : List ℕ) (i : ℕ) → place + length bytes ≤ length memory → place + length bytes ≤ i → get_or (put_mid place (length bytes) memory bytes) i 0 ≡ get_or memory i 0
above place bytes memory i fits h = search (rules, places)

-- the value of `overlaid` in each of the three
pub overlaid_below : (place : ℕ) (bytes : List ℕ) (i v : ℕ) → i < place → overlaid place bytes i v ≡ v
overlaid_below place bytes i v h = let e = lt-leb place i h in rw e

pub overlaid_within : (place : ℕ) (bytes : List ℕ) (i v : ℕ) → place ≤ i → i < place + length bytes → overlaid place bytes i v ≡ get_or bytes (i - place) 0
overlaid_within place bytes i v h k = let e = le-leb place i h in let f = lt-ltb i (place + length bytes) k in rw (e, f)

pub overlaid_above : (place : ℕ) (bytes : List ℕ) (i v : ℕ) → place ≤ i → place + length bytes ≤ i → overlaid place bytes i v ≡ v
overlaid_above place bytes i v h k = let e = le-leb place i h in let f = le-ltb i (place + length bytes) k in rw (e, f)

-- bytes that were copied over a part of the memory
pub put_overlaid : (place : ℕ) (bytes memory : List ℕ) → place + length bytes ≤ length memory → (i : ℕ) → get_or (put_mid place (length bytes) memory bytes) i 0 ≡ overlaid place bytes i (get_or memory i 0)
put_overlaid place bytes memory fits i =
    ⊎_elim
    (λ h. rw (overlaid_below place bytes i (get_or memory i 0) h) (below place bytes memory i fits h))
    (λ h.
    ⊎_elim
    (λ k. rw (overlaid_within place bytes i (get_or memory i 0) h k) (within place bytes memory i fits h k))
    (λ k. rw (overlaid_above place bytes i (get_or memory i 0) h k) (above place bytes memory i fits k))
    (cases_lt i (place + length bytes)))
    (cases_lt i place)
