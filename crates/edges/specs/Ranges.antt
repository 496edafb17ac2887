-- Ranges at the end of the memory, and one over the bound of two pages.
use Rattle.std.specs.Prelude.{◌≡◌, ℕ, ◌+◌, ◌<◌, List, [], ◌∷◌, length, take, drop, None, Ok, Err, Result}
use Rattle.durability.specs.Items.{Item}
use Rattle.image.specs.Calls.{declared}
use Rattle.transactions.specs.declared.fault.StoreFault.{StoreFault}
use Rattle.transactions.specs.declared.fault.StoreFault.TheVariants.{Range}
use Rattle.transactions.specs.declared.state.State.{State}
use Rattle.transactions.specs.Calls.{SetsRange}
use Rattle.transactions.specs.Fault.{number}
use Rattle.transactions.specs.Rows.{first_fit, token_rows}
use Rattle.transactions.specs.State.{own, MadeOf}

-- The store is on, and the token with this number is that of its open transaction.
abbrev pub Fitting : State → ℕ → Type 0
Fitting s number = first_fit (token_rows s number) ≡ None

-- The last byte of the memory may be declared, as long as there is room for a run.
abbrev pub LastByteDeclared : Type 0
LastByteDeclared =
    (s s' : State) (token : ℕ) (r : Result (Unit {0}) StoreFault) → Fitting s token → length (declared s.image) < 16
    → SetsRange s token 6143 1 r s' → r ≡ Ok tt

-- So many bytes from there on are refused by row 11, which tells the start, and nothing moves.
pub record RefusedAtTheEnd (size : ℕ) : Type 0 where
  pub row : number (Range 6143) ≡ 11
  pub refused :
      (s s' : State) (token : ℕ) (r : Result (Unit {0}) StoreFault) → Fitting s token
      → SetsRange s token 6143 size r s' → (r ≡ Err (Range 6143)) × MadeOf s' s.image s.spool s.log s.busy s.on

-- A part of transaction number `ordinal`, with so many bytes of the memory from byte `start` on.
abbrev pub part_at : ℕ → List ℕ → (kind page offset start size : ℕ) → Item
part_at ordinal memory kind page offset start size =
    record { kind = kind; ordinal = ordinal; page = page; offset = offset; bytes = take size (drop start memory) }

-- Where bytes 90 to 101 are declared and no others, the transaction would become two records: a part of page 0 from
-- offset 90 on with six bytes, and as its last one a part of page 1 from offset 0 on with six.
abbrev pub CutInTwo : Type 0
CutInTwo =
    (s s' : State) (token : ℕ) (u : Unit {0}) → declared s.image ≡ [] → SetsRange s token 90 12 (Ok u) s'
    → own s'
    ≡ part_at (s.log.ordinal + 1) s.image.memory 1 0 90 90 6
    ∷ part_at (s.log.ordinal + 1) s.image.memory 2 1 0 96 6
    ∷ []
