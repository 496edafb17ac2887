-- An opening of a ledger, by the store's and by what its memory is.
use Rattle.std.proofs.Common.{ℕ, false, Ok, Err, Result, sym, refl, subst, inl, inr}
use Rattle.std.specs.Result.{is_ok}
use Rattle.device.specs.Disk.{Disk}
use Rattle.transactions.specs.declared.fault.StoreFault.{StoreFault}
use Rattle.transactions.specs.Held.{Held, Opened}
use Rattle.book.specs.declared.fault.LedgerFault.{LedgerFault}
use Rattle.ledger.specs.Sound.{on_store, Sound}
use Rattle.ledger.specs.Calls.{Opens}
use Rattle.ledger.specs.Steps.{Checks}
use Rattle.ledger.proofs.Standing.{off_stands}

pub opens : (d : Disk) (h : Held) (opened : Result (ℕ × ℕ) StoreFault) (r : Result (ℕ × ℕ) LedgerFault) → Opened d opened h → Checks opened h.state r → Opens d r (on_store (is_ok r) h)
opens d h (Err f) r opening is = subst (λ (x : Result (ℕ × ℕ) LedgerFault). Opens d x (on_store (is_ok x) h)) (sym is) (refl, inl (f, refl, opening))
opens d h (Ok x) (Ok y) opening (same, book) = (refl, subst (λ (z : ℕ × ℕ). Opened d (Ok z) h) (sym same) opening, book opening.on)
opens d h (Ok x) (Err f) opening none =
    let n = none opening.on in
    (refl, inr (record { is = n.0; found = x; store = opening; none = n.1 }))

pub open_stands : (d : Disk) (h : Held) (opened : Result (ℕ × ℕ) StoreFault) (r : Result (ℕ × ℕ) LedgerFault) → Opened d opened h → Checks opened h.state r → Sound (is_ok r) h.state
open_stands d h (Err f) r opening is = subst (λ (x : Result (ℕ × ℕ) LedgerFault). Sound (is_ok x) h.state) (sym is) (off_stands false h.state refl)
open_stands d h (Ok x) (Ok y) opening (same, book) =
    record { books = λ k. ∣ book opening.on ∣₁; free = λ k. opening.idle.free; clean = λ k. opening.idle.clean }
open_stands d h (Ok x) (Err f) opening none = off_stands false h.state refl
