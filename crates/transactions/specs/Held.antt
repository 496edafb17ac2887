-- A store together with its device, and what each of its calls answers and leaves of both.
use Rattle.std.specs.Prelude.{◌≡◌, ℕ, Bool, List, Result}
use Rattle.std.specs.Borrow.{Bor}
use Rattle.device.specs.declared.Device.{Ghosts}
use Rattle.device.specs.Disk.{Disk}
use Rattle.transactions.specs.declared.fault.StoreFault.{StoreFault}
use Rattle.transactions.specs.declared.state.State.{State}
use Rattle.transactions.specs.declared.store.Store.{Store}
use Rattle.transactions.specs.declared.token.Token.{Token}
use Rattle.transactions.specs.Calls as calls
use Rattle.transactions.specs.State as state
use Rattle.transactions.specs.Truncation as truncation

-- What a store keeps in memory, and the device that it holds.
pub record Held : Type 0 where
  pub state : State
  pub disk : Disk

abbrev pub held : {D : Type 0} {d : Ghosts D} → Store D d → Held
held {d = d} s = record { state = s.state; disk = d.disk s.device }

-- A format and an opening of a device.
abbrev pub Formatted : Disk → Result (Unit {0}) StoreFault → Held → Type 0
Formatted d r h = state.Formatted d r h.disk h.state

abbrev pub Opened : Disk → Result (ℕ × ℕ) StoreFault → Held → Type 0
Opened d r h = state.Opened d r h.disk h.state

-- These calls leave the device alone.
abbrev pub Begins : Held → Result Token StoreFault → Held → Type 0
Begins h r k = calls.Begins h.state r k.state × (k.disk ≡ h.disk)

abbrev pub SetsRange : ℕ → ℕ → ℕ → Held → Result (Unit {0}) StoreFault → Held → Type 0
SetsRange number start size h r k = calls.SetsRange h.state number start size r k.state × (k.disk ≡ h.disk)

abbrev pub WritesRange : ℕ → ℕ → List ℕ → Held → Result (Unit {0}) StoreFault → Held → Type 0
WritesRange number start bytes h r k = calls.WritesRange h.state number start bytes r k.state × (k.disk ≡ h.disk)

abbrev pub Aborts : ℕ → Held → Result (Unit {0}) StoreFault → Held → Type 0
Aborts number h r k = calls.Aborts h.state number r k.state × (k.disk ≡ h.disk)

-- These only look at the memory. A reading fills a buffer.
abbrev pub ReadsRange : ℕ → Held → List ℕ → Result (Unit {0}) StoreFault → List ℕ → Type 0
ReadsRange start h before r after = calls.ReadsRange h.state start before r after

abbrev pub Lends : Held → Result (Bor (List ℕ)) StoreFault → Type 0
Lends h r = calls.Lends h.state r

-- These write.
abbrev pub Commits : ℕ → Bool → Held → Result (ℕ × ℕ) StoreFault → Held → Type 0
Commits number flush h r k = calls.Commits h.state h.disk number flush r k.state k.disk

abbrev pub Flushes : Held → Result ℕ StoreFault → Held → Type 0
Flushes h r k = calls.Flushes h.state h.disk r k.state k.disk

abbrev pub Truncates : Held → Result ℕ StoreFault → Held → Type 0
Truncates h r k = truncation.Truncates h.state h.disk r k.state k.disk
