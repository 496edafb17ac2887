-- How a ledger stands with its store, and what its memory holds.
use Rattle.std.specs.Prelude.{◌≡◌, Bool, true, false, ◌&&◌, []}
use Rattle.image.specs.Calls.{declared}
use Rattle.transactions.specs.declared.state.State.{State}
use Rattle.transactions.specs.Held as store
use Rattle.book.specs.Layout.{byte_in}
use Rattle.book.specs.Book.{Book, Holds}

-- What the memory of a store holds.
abbrev pub HoldsBook : State → Book → Type 0
HoldsBook s b = Holds (byte_in s.image.memory) b

-- A ledger is on while its store is, if its memory is a ledger's.
abbrev pub on : Bool → State → Bool
on fit s = fit && s.on

-- A ledger with its device: whether the memory was found a ledger's, and the store.
pub record Held : Type 0 where
  pub fit : Bool
  pub store : store.Held

abbrev pub on_store : Bool → store.Held → Held
on_store fit h = record { fit = fit; store = h }

abbrev pub is_on : Held → Bool
is_on h = on h.fit h.store.state

-- Between its calls a ledger that is on stands so: its memory holds a book, no transaction is open, and nothing is
-- declared.
pub record Sound (fit : Bool) (s : State) : Type 0 where
  pub books : on fit s ≡ true → ∥ ((b : Book) × HoldsBook s b) ∥₁
  pub free : on fit s ≡ true → s.busy ≡ false
  pub clean : on fit s ≡ true → declared s.image ≡ []
