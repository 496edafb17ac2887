-- What is entered after events of the store that neither format nor open.
use Rattle.std.proofs.Common.{◌≡◌, ℕ, ◌+◌, Bool, List, [], ◌∷◌, ◌++◌, map, Some, Option, Result, refl, sym, ap, ◌∙◌, inl, inr, append_assoc}
use Rattle.device.specs.Trace.{Act, looked, wrote, settled, restarted}
use Rattle.durability.specs.Items.{Item}
use Rattle.transactions.specs.declared.fault.StoreFault.{StoreFault}
use Rattle.transactions.specs.Held.{Held}
use Rattle.law.specs.Transactions.{Transaction, records_of}
use Rattle.law.specs.Kept.{BarrierComes, Settles, Entered, Kept}
use Rattle.law.specs.Events as store
use Rattle.law.specs.Law as law
use Rattle.book.specs.Edits.{Edit}
use Rattle.changes.specs.Changes.{PutIn, Changes}
use Rattle.ledger_law.specs.Below.{event, putting, changing}
use Rattle.ledger_law.specs.Law.{entered_after, newly}

-- The first transaction that is entered is kept.
abbrev pub FirstKept : ℕ → List Entered → Type 0
FirstKept n [] = ⊥
FirstKept n (x ∷ xs) = Kept n 0 x

-- what is settled stays so
barrier_more : (acts more : List Act) → BarrierComes acts → BarrierComes (acts ++ more)
barrier_more [] more h = absurd h
barrier_more (looked ∷ acts) more h = barrier_more acts more h
barrier_more (wrote _ _ ∷ acts) more h = barrier_more acts more h
barrier_more (settled ∷ acts) more h = tt
barrier_more (restarted ∷ acts) more h = absurd h

settles_more : (n : ℕ) (xs : List Item) (acts more : List Act) → Settles n xs acts → Settles n xs (acts ++ more)
settles_more n [] acts more h = barrier_more acts more h
settles_more n (x ∷ xs) [] more h = absurd h
settles_more n (x ∷ xs) (act ∷ acts) more (inl (writes, rest)) = inl (writes, settles_more n xs acts more rest)
settles_more n (x ∷ xs) (act ∷ acts) more (inr (other, rest)) = inr (other, settles_more n (x ∷ xs) acts more rest)

kept_later : (n o : ℕ) (x : Entered) (done : List Act) → Kept n o x → Kept n o (law.later done x)
kept_later n o x done (inl found) = inl found
kept_later n o x done (inr (before, after, is, settles)) =
    inr (before, after ++ done, sym (append_assoc before after done) ∙ ap (λ (acts : List Act). acts ++ done) is, settles_more n (records_of (o + 1) x.transaction) after done settles)

pub transactions_append : (xs ys : List Entered) → law.transactions (xs ++ ys) ≡ law.transactions xs ++ law.transactions ys
transactions_append [] ys = refl
transactions_append (x ∷ xs) ys = ap (λ (ts : List Transaction). x.transaction ∷ ts) (transactions_append xs ys)

transactions_later : (xs : List Entered) (done : List Act) → law.transactions (map (law.later done) xs) ≡ law.transactions xs
transactions_later [] done = refl
transactions_later (x ∷ xs) done = ap (λ (ts : List Transaction). x.transaction ∷ ts) (transactions_later xs done)

append_none : {X : Type 0} (xs : List X) → xs ++ [] ≡ xs
append_none [] = refl
append_none (x ∷ xs) = ap (λ ys. x ∷ ys) (append_none xs)

-- These are entered beside xs, and the first is still kept.
pub record Grown (n : ℕ) (xs new : List Entered) (h : law.History) : Type 0 where
  pub ys : List Entered
  pub is : h ≡ Some ys
  pub same : law.transactions ys ≡ law.transactions xs ++ law.transactions new
  pub first : FirstKept n xs → FirstKept n ys

-- A call of the store that neither formats nor opens.
abbrev pub Plain : store.Call → Type 0
Plain (store.format r) = ⊥
Plain (store.opening r) = ⊥
Plain _ = Unit {0}

abbrev pub AllPlain : List store.Event → Type 0
AllPlain [] = Unit {0}
AllPlain (e ∷ es) = Plain e.call × AllPlain es

first_later : (n : ℕ) (xs new : List Entered) (done : List Act) → FirstKept n xs → FirstKept n (map (law.later done) xs ++ new)
first_later n [] new done h = absurd h
first_later n (x ∷ xs) new done h = kept_later n 0 x done h

pub grown_later : (n : ℕ) (xs new : List Entered) (done : List Act) → Grown n xs new (Some (map (law.later done) xs ++ new))
grown_later n xs new done =
    record {
      ys = map (law.later done) xs ++ new;
      is = refl;
      same = transactions_append (map (law.later done) xs) new ∙ ap (λ (ts : List Transaction). ts ++ law.transactions new) (transactions_later xs done);
      first = first_later n xs new done;
    }

pub plain_grows : (call : store.Call) (m : store.Moment) (done : List Act) (n : ℕ) (xs : List Entered) → Plain call → Grown n xs (law.newly call m done) (law.after_call call m done (Some xs))
plain_grows (store.format r) m done n xs p = absurd p
plain_grows (store.opening r) m done n xs p = absurd p
plain_grows store.close m done n xs p = grown_later n xs [] done
plain_grows (store.begin r) m done n xs p = grown_later n xs [] done
plain_grows (store.set_range number start size r) m done n xs p = grown_later n xs [] done
plain_grows (store.write number start bytes r) m done n xs p = grown_later n xs [] done
plain_grows (store.read start buffer r filled) m done n xs p = grown_later n xs [] done
plain_grows (store.commit number flushed r) m done n xs p = grown_later n xs (law.newly (store.commit number flushed r) m done) done
plain_grows (store.abort number r) m done n xs p = grown_later n xs [] done
plain_grows (store.flush r) m done n xs p = grown_later n xs [] done
plain_grows (store.truncate r) m done n xs p = grown_later n xs [] done

pub all_grow : (es : List store.Event) (n : ℕ) (xs : List Entered) → AllPlain es → Grown n xs (newly es) (entered_after es (Some xs))
all_grow [] n xs p = record { ys = xs; is = refl; same = sym (append_none (law.transactions xs)); first = λ h. h }
all_grow (e ∷ es) n xs (p, ps) =
    let one = plain_grows e.call e.before e.done n xs p in
    let more = all_grow es n one.ys ps in
    let new = law.newly e.call e.before e.done in
    record {
      ys = more.ys;
      is = ap (entered_after es) one.is ∙ more.is;
      same =
          more.same ∙ ap (λ (ts : List Transaction). ts ++ law.transactions (newly es)) one.same
          ∙ append_assoc (law.transactions xs) (law.transactions new) (law.transactions (newly es))
          ∙ ap (λ (ts : List Transaction). law.transactions xs ++ ts) (sym (transactions_append new (newly es)));
      first = λ h. more.first (one.first h);
    }

-- the events of a change
plain_append : (es fs : List store.Event) → AllPlain es → AllPlain fs → AllPlain (es ++ fs)
plain_append [] fs a b = b
plain_append (e ∷ es) fs (p, a) b = (p, plain_append es fs a b)

put_plain : (number : ℕ) (xs : List Edit) (h k : Held) (p : PutIn number xs h k) → AllPlain (putting number xs h k p)
put_plain number [] h k p = tt
put_plain number (x ∷ xs) h k (set, put, declares, writes, rest) = (tt, (tt, put_plain number xs put k rest))

put_enters : (number : ℕ) (xs : List Edit) (h k : Held) (p : PutIn number xs h k) → newly (putting number xs h k p) ≡ []
put_enters number [] h k p = refl
put_enters number (x ∷ xs) h k (set, put, declares, writes, rest) = put_enters number xs put k rest

newly_append : (es fs : List store.Event) → newly (es ++ fs) ≡ newly es ++ newly fs
newly_append [] fs = refl
newly_append (e ∷ es) fs =
    ap (λ (xs : List Entered). law.newly e.call e.before e.done ++ xs) (newly_append es fs)
    ∙ sym (append_assoc (law.newly e.call e.before e.done) (newly es) (newly fs))

module _ (h k : Held) (xs : List Edit) (flushed : Bool) (r : Result (ℕ × ℕ) StoreFault) (c : Changes h xs flushed r k) (done : List Act) (cut : Option Act) where
  abbrev commits : store.Event
  commits = event (store.commit c.token.number flushed r) (store.working c.prepared) done cut (store.working k)

  pub changing_plain : AllPlain (changing h xs flushed r k c done cut)
  changing_plain = (tt, plain_append (putting c.token.number xs c.begun c.prepared c.puts) (commits ∷ []) (put_plain c.token.number xs c.begun c.prepared c.puts) (tt, tt))

  pub changing_enters : newly (changing h xs flushed r k c done cut) ≡ law.newly (store.commit c.token.number flushed r) (store.working c.prepared) done
  changing_enters =
      newly_append (putting c.token.number xs c.begun c.prepared c.puts) (commits ∷ [])
      ∙ ap (λ (ys : List Entered). ys ++ newly (commits ∷ [])) (put_enters c.token.number xs c.begun c.prepared c.puts)
      ∙ append_none (law.newly (store.commit c.token.number flushed r) (store.working c.prepared) done)
