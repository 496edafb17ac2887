-- A tag's bucket, and a balance of 20.
use Rattle.std.proofs.Common.{◌≡◌, ℕ, ◌+◌, ◌-◌, Bool, true, false, not, eqb, ltb, ◌≢◌, List, [], ◌∷◌, Some, None, Ok, Err, Option, Result, sym, refl, ap, ◌∙◌, inl, inr, ⊎_elim, arith}
use Rattle.std.proofs.lemmas.Bool.{both_ways, cases_Bool, eqb-true, le-leb, le-ltb, lt-ltb}
use Rattle.book.specs.declared.fault.LedgerFault.{LedgerFault}
use Rattle.book.specs.declared.fault.LedgerFault.TheVariants.{Store, Short}
use Rattle.book.specs.Book.{Book, IsAccount}
use Rattle.book.specs.Rows.{first_fit, is_account, is_empty, unknown, move_rows}
use Rattle.book.specs.Book.{new_book, numbers_from}
use Rattle.book.specs.Edits.{issued_to, moved, with_at}
use Rattle.book.proofs.Sums.{with_same, with_other}
use Rattle.ledger.specs.Sound.{Held, is_on, on_store}
use Rattle.sample_runs.proofs.Linking.{is_made}
use Rattle.sample_runs.proofs.Issuing.{issued_held, leaves}
use Rattle.ledger.specs.Calls.{Moves}
use Rattle.edges.specs.Books.{one_to_eight, InBucketFour, Twenty, TwentyStand, TwentyPass, TwentyPaid, TwentyOneShort}

pub in_bucket_four : InBucketFour
in_bucket_four = record { bucket = refl; told = λ b none. ap (λ (o : Option ℕ). first_fit (unknown o one_to_eight ∷ [])) none }

is_one : (a : ℕ) → IsAccount a → not (is_account a) ≡ false
is_one a (low, high) = rw (le-leb 1 a low, le-leb a 64 high) refl

apart : (a b : ℕ) → a ≢ b → eqb a b ≡ false
apart a b two = ⊎_elim (λ (e : eqb a b ≡ true). absurd (two (eqb-true a b e))) (λ (e : eqb a b ≡ false). e) (cases_Bool (eqb a b))

has_cell : (ns : List ℕ) → ns ≢ [] → is_empty ns ≡ false
has_cell [] some = absurd (some refl)
has_cell (n ∷ ns) some = refl

passes : (h : Held) (b : Book) (payer payee : ℕ) → Twenty h b payer payee → first_fit (move_rows b payer payee 20) ≡ None
passes h b payer payee t =
    let short : ltb (b.balances payer) 20 ≡ false = le-ltb (b.balances payer) 20 (omega (arith, t.twenty)) in
    rw (is_one payer t.payer_is, is_one payee t.payee_is, apart payer payee t.two, short, has_cell b.free t.free) refl

falls_short : (h : Held) (b : Book) (payer payee : ℕ) → Twenty h b payer payee → first_fit (move_rows b payer payee 21) ≡ Some (Short 20)
falls_short h b payer payee t =
    let short : ltb (b.balances payer) 21 ≡ true = lt-ltb (b.balances payer) 21 (omega (arith, t.twenty)) in
    rw (is_one payer t.payer_is, is_one payee t.payee_is, apart payer payee t.two, short, t.twenty) refl

differ : {A : Type 0} (f : LedgerFault) → ◌≡◌ {A = Option LedgerFault} None (Some f) → A
differ f e = absurd (let z : ◌≡◌ {A = ℕ} 0 1 = cc in omega arith)

pub twenty_pass : TwentyPass
twenty_pass h k b payer payee flush r t (inl x) f is = absurd (both_ways (is_on h) x.off t.on)
twenty_pass h k b payer payee flush r t (inr (inl (g, told, x))) f is = differ g (sym (passes h b payer payee t) ∙ x.fits b t.holds)
twenty_pass h k b payer payee flush r t (inr (inr (Ok o, told, x))) f is = absurd (let z : ◌≡◌ {A = ℕ} 0 1 = cc in omega arith)
twenty_pass h k b payer payee flush r t (inr (inr (Err g, told, x))) f is = (g, let z : f ≡ Store g = cc in z)

-- of a ledger that is made, and of which 20 are issued to account 1
pub twenty_stand : TwentyStand
unfolding numbers_from
twenty_stand = (
  on_store true issued_held,
  issued_to 1 20 new_book,
  1,
  2,
  record {
    on = refl;
    holds = leaves new_book is_made.2;
    payer_is = (omega arith, omega arith);
    payee_is = (omega arith, omega arith);
    two = λ e. omega (arith, e);
    twenty = refl;
    free = λ e. let z : ◌≡◌ {A = ℕ} 0 1 = cc in omega (arith, z);
  },
)

pub twenty_paid : TwentyPaid
twenty_paid h k b payer payee flush n t (inl x) = absurd (both_ways (is_on h) x.off t.on)
twenty_paid h k b payer payee flush n t (inr (inl (g, told, x))) = absurd (let z : ◌≡◌ {A = ℕ} 0 1 = cc in omega arith)
twenty_paid h k b payer payee flush n t (inr (inr (Ok o, told, x))) =
    let paid = with_other payer (b.balances payer - 20) (with_at payee (b.balances payee + 20) b.balances) payee (λ e. t.two (sym e)) in
    let none = with_same payer (b.balances payer - 20) (with_at payee (b.balances payee + 20) b.balances) in (
      moved payer payee 20 b,
      x.leaves b t.holds,
      none ∙ omega (arith, t.twenty),
      paid ∙ with_same payee (b.balances payee + 20) b.balances,
    )
twenty_paid h k b payer payee flush n t (inr (inr (Err g, told, x))) = absurd (let z : ◌≡◌ {A = ℕ} 0 1 = cc in omega arith)

pub twenty_one_short : TwentyOneShort
twenty_one_short = record { row = refl; refused = refused }
  where
    refused : (h k : Held) (b : Book) (payer payee : ℕ) (flush : Bool) (r : Result ℕ LedgerFault) → Twenty h b payer payee → Moves payer payee 21 flush h r k → (r ≡ Err (Short 20)) × (k ≡ h)
    refused h k b payer payee flush r t (inl x) = absurd (both_ways (is_on h) x.off t.on)
    refused h k b payer payee flush r t (inr (inl (f, told, x))) =
        let short = falls_short h b payer payee t in
        let fits = x.fits b t.holds in
        let z : f ≡ Short 20 = cc in
        (told ∙ ap Err z, x.same)
    refused h k b payer payee flush r t (inr (inr (y, told, x))) = differ (Short 20) (sym (x.fits b t.holds) ∙ falls_short h b payer payee t)
