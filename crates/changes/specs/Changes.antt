-- A change of the book as one transaction of the store.
use Rattle.std.specs.Prelude.{◌≡◌, ℕ, Bool, true, List, [], ◌∷◌, length, Ok, Result, slice_index}
use Rattle.image.specs.Calls.{declared}
use Rattle.transactions.specs.declared.fault.StoreFault.{StoreFault}
use Rattle.transactions.specs.declared.state.State.{State}
use Rattle.transactions.specs.declared.token.Token.{Token}
use Rattle.transactions.specs.Held.{Held, Begins, SetsRange, WritesRange, Commits}
use Rattle.book.specs.Edits.{Edit, edited, declaring}

-- A transaction just before its commit: it was begun, just the stretches of these edits were declared, and their bytes
-- written. Nothing else of the store has moved.
pub record Prepared (s : State) (xs : List Edit) (p : State) : Type 0 where
  pub on : p.on ≡ true
  pub busy : p.busy ≡ true
  pub log : p.log ≡ s.log
  pub spool : p.spool ≡ s.spool
  pub before : p.image.before ≡ s.image.before
  pub runs : declared p.image ≡ declaring xs []
  pub memory : (i : ℕ) → slice_index p.image.memory i ≡ edited xs i (slice_index s.image.memory i)

-- The stretch of each edit is declared, and then its bytes are written, under the token with this number.
abbrev pub PutIn : ℕ → List Edit → Held → Held → Type 0
PutIn number [] h k = k ≡ h
PutIn number (x ∷ xs) h k =
    (set : Held) × (put : Held) × SetsRange number x.start (length x.bytes) h (Ok tt) set
    × WritesRange number x.start x.bytes set (Ok tt) put × PutIn number xs put k

-- The edits are made and committed by one transaction.
pub record Changes (h : Held) (xs : List Edit) (flush : Bool) (r : Result (ℕ × ℕ) StoreFault) (k : Held) : Type 0 where
  pub token : Token
  pub begun : Held
  pub begins : Begins h (Ok token) begun
  pub prepared : Held
  pub puts : PutIn token.number xs begun prepared
  pub prepares : Prepared h.state xs prepared.state
  pub commits : Commits token.number flush prepared r k
