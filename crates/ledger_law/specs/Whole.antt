-- A run of a script of either kind.
use Rattle.std.specs.Prelude.{◌≡◌, ℕ, List}
use Rattle.device.specs.Disk.{Disk}
use Rattle.law.specs.declared.script.Answer.{Answer as StoreAnswer}
use Rattle.law.specs.Run as store
use Rattle.ledger_law.specs.declared.script.Answer.{Answer}
use Rattle.ledger_law.specs.declared.whole.Script.{Script}
use Rattle.ledger_law.specs.declared.whole.Script.TheVariants.{Store, Ledger}
use Rattle.ledger_law.specs.Run.{Ran}

-- What the caller lends: places for tokens, a buffer that is read into, and room for answers of either kind.
pub record Lent : Type 0 where
  pub places : store.Places
  pub buffer : List ℕ
  pub store_answers : List StoreAnswer
  pub ledger_answers : List Answer

abbrev pub lent : store.Places → List ℕ → List StoreAnswer → List Answer → Lent
lent places buffer answers told = record { places = places; buffer = buffer; store_answers = answers; ledger_answers = told }

-- The script is worked, and what one of the other kind would have used stays.
abbrev pub Works : Disk → Script → Lent → Disk → ℕ → Lent → Type 0
Works d (Store calls) l e count l' =
    (l'.ledger_answers ≡ l.ledger_answers)
    × store.Ran d calls.now l.places l.buffer l.store_answers e count l'.places l'.buffer l'.store_answers
Works d (Ledger calls) l e count l' =
    (l'.places ≡ l.places) × (l'.buffer ≡ l.buffer) × (l'.store_answers ≡ l.store_answers)
    × Ran d calls.now l.ledger_answers e count l'.ledger_answers
