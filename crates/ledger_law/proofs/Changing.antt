-- A change that is made keeps what stands.
use Rattle.std.proofs.Common.{◌≡◌, ℕ, ◌+◌, ◌-◌, Bool, true, false, cond, not, ◌&&◌, ◌≢◌, ◌⊎◌, List, [], ◌∷◌, ◌++◌, map, length, Some, None, Ok, Err, Result, sym, refl, ap, ◌∙◌, subst, inl, inr, sum}
use mathlib.Core.Path.{fun_ext}
use Rattle.std.proofs.lemmas.Bool.{both_ways, and_from, and_left, and_right}
use Rattle.device.specs.Disk.{Disk, Plate}
use Rattle.image.specs.declared.run.Run.{Run}
use Rattle.image.specs.declared.state.Image.{Image}
use Rattle.image.specs.Calls.{declared, none}
use Rattle.transactions.specs.declared.fault.StoreFault.{StoreFault}
use Rattle.transactions.specs.declared.log.Log.{Log}
use Rattle.transactions.specs.declared.state.State.{State}
use Rattle.transactions.specs.Held as held
use Rattle.transactions.specs.Rows.{first_fit, Refuses, token_rows, commit_rows}
use Rattle.transactions.specs.State.{own}
use Rattle.law.specs.Transactions.{Transaction, made_of}
use Rattle.law.specs.Kept.{Entered}
use Rattle.law.specs.Events as store
use Rattle.law.specs.Law as law
use Rattle.book.specs.Layout.{byte_in}
use Rattle.book.specs.Book.{Book, Holds}
use Rattle.book.specs.Edits.{Edit, after_edits}
use Rattle.changes.specs.Changes.{Changes}
use Rattle.changes.proofs.Patches.{some_none, token_fits}
use Rattle.ledger.specs.Sound.{Held, is_on}
use Rattle.ledger.specs.Calls.{Change, Made}
use Rattle.ledger.proofs.Standing as ledger
use Rattle.ledger_law.specs.Below.{Does}
use Rattle.ledger_law.specs.Events.{working}
use Rattle.ledger_law.specs.Law.{entered_after, newly}
use Rattle.ledger_law.proofs.Sectors.{tried_plate}
use Rattle.ledger_law.proofs.Entering.{FirstKept, Grown, AllPlain, all_grow, changing_plain, changing_enters}
use Rattle.ledger_law.proofs.Memories.{AllInside, inside_append, own_inside, same_own}
use Rattle.ledger_law.proofs.Books.{Books, books_more}
use Rattle.ledger_law.proofs.Sums.{Sums}
use Rattle.ledger_law.proofs.Keeping.{Rests, RestsAt, Keeps, Whole, whole, Stands}

-- whether a commit enters

some_declared : (rs : List Run) → rs ≢ [] → not (none rs) ≡ true
some_declared [] some = absurd (some refl)
some_declared (r ∷ rs) some = refl

module _ (s : State) (number : ℕ) (flushed : Bool) where
  abbrev first : Bool
  first = store.fits_none (first_fit (token_rows s number))

  abbrev second : Bool
  second = not (none (declared s.image))

  abbrev third : Bool
  third = store.fits_none (first_fit (commit_rows s (length (own s)) flushed))

  pub passing : first_fit (token_rows s number) ≡ None → declared s.image ≢ [] → first_fit (commit_rows s (length (own s)) flushed) ≡ None → store.does_enter s number flushed ≡ true
  passing fits some c = and_from (first && second) third (and_from first second (ap store.fits_none fits) (some_declared (declared s.image) some)) (ap store.fits_none c)

  clean_passes : declared s.image ≡ [] → store.does_enter s number flushed ≡ false
  clean_passes clean = and_left (first && second) third (and_right first second (ap (λ (rs : List Run). not (none rs)) clean))

  refused_passes : (f : StoreFault) → Refuses (commit_rows s (length (own s)) flushed) f → store.does_enter s number flushed ≡ false
  refused_passes f fits = and_right (first && second) third (ap store.fits_none fits)

-- The memory of a ledger is that of this store, and nothing is declared.
pub record Same (k : Held) (p : held.Held) : Type 0 where
  pub memory : k.store.state.image.memory ≡ p.state.image.memory
  pub clean : declared k.store.state.image ≡ []

-- What a commit leaves: it entered, and the memory is that at the commit, or it did not, and the memory is that before.
abbrev pub Leaving : Bool → Held → held.Held → held.Held → Type 0
Leaving enters k p h = ((enters ≡ true) × (is_on k ≡ true → Same k p)) ⊎ ((enters ≡ false) × (is_on k ≡ true → Same k h))

leaving : (h : held.Held) (k : Held) (xs : List Edit) (flushed : Bool) (x : Result (ℕ × ℕ) StoreFault) (c : Changes h xs flushed x k.store) → declared h.state.image ≡ []
    → held.Commits c.token.number flushed c.prepared x k.store → Leaving (store.does_enter c.prepared.state c.token.number flushed) k c.prepared h
leaving h k xs flushed (Ok x) c clean (fits, inl n) =
    inr (
      clean_passes c.prepared.state c.token.number flushed n.clean,
      λ on.
          record {
            memory =
                ap (λ (y : Image). y.memory) n.state.image_is ∙ sym (ledger.unchanged c.prepared.state.image n.clean)
                ∙ c.prepares.before ∙ ledger.unchanged h.state.image clean;
            clean = ap (λ (y : Image). declared y) n.state.image_is ∙ n.clean;
          },
    )
leaving h k xs flushed (Ok x) c clean (fits, inr parts) =
    inl (passing c.prepared.state c.token.number flushed fits parts.some parts.passes, λ on. record { memory = parts.image.memory; clean = parts.image.clean })
leaving h k xs flushed (Err f) c clean (inl (fits, same, device)) =
    absurd (some_none (first_fit (token_rows c.prepared.state c.token.number)) _
    (token_fits c.prepared.state c.token.number
    (record { on = c.prepares.on; busy = c.prepares.busy; fits = c.begins.0.1 ∙ sym (ap (λ (l : Log). l.ordinal + 1) c.prepares.log) }))
    fits)
leaving h k xs flushed (Err f) c clean (inr (fits, inl refused)) =
    inr (
      refused_passes c.prepared.state c.token.number flushed f refused.refused,
      λ on. record { memory = refused.state.0.memory ∙ c.prepares.before ∙ ledger.unchanged h.state.image clean; clean = refused.state.0.clean },
    )
leaving h k xs flushed (Err f) c clean (inr (fits, inr cut)) =
    inl (passing c.prepared.state c.token.number flushed fits cut.some cut.passes, λ on. absurd (both_ways k.store.state.on cut.cut.state.off (ledger.is_on k.fit k.store.state on)))

append_none : {X : Type 0} (xs : List X) → xs ++ [] ≡ xs
append_none [] = refl
append_none (x ∷ xs) = ap (λ ys. x ∷ ys) (append_none xs)

-- What stands after a change by which so many transactions are entered newly.
pub record After (k : Held) (ts : List Transaction) (issued : List ℕ) (amount : ℕ) (new : List Entered) : Type 0 where
  pub books : Books (ts ++ law.transactions new) (issued ++ map (λ (x : Entered). amount) new)
  pub inside : AllInside (ts ++ law.transactions new)
  pub rests : RestsAt (working k) (ts ++ law.transactions new)

entering : (e : Bool) (x : Entered) (p : held.Held) (h k : Held) (ts : List Transaction) (issued : List ℕ) (amount : ℕ) (b : Book)
    → x.transaction ≡ law.own_transaction p.state → Books ts issued → AllInside ts
    → byte_in p.state.image.memory ≡ made_of (ts ++ (law.own_transaction p.state ∷ []))
    → byte_in h.store.state.image.memory ≡ made_of ts
    → Holds (made_of (ts ++ (law.own_transaction p.state ∷ []))) b → b.issued ≡ sum issued + amount → Leaving e k p h.store → After k ts issued amount (cond e (x ∷ []) [])
entering true x p h k ts issued amount b is books inside own was holds total (inl (so, same)) =
    subst (λ (t : Transaction). After k ts issued amount (record { transaction = t; since = x.since; found = x.found } ∷ [])) (sym is)
    (record {
      books = books_more ts issued (law.own_transaction p.state) amount books b holds total;
      inside = inside_append ts (law.own_transaction p.state ∷ []) inside (own_inside p.state, tt);
      rests = λ on. record { memory = ap byte_in (same on).memory ∙ own; clean = (same on).clean };
    })
entering true x p h k ts issued amount b is books inside own was holds total (inr (so, same)) = absurd (both_ways true so refl)
entering false x p h k ts issued amount b is books inside own was holds total (inl (so, same)) = absurd (both_ways false refl so)
entering false x p h k ts issued amount b is books inside own was holds total (inr (so, same)) =
    record {
      books = subst (λ (us : List Transaction). Books us (issued ++ [])) (sym (append_none ts)) (subst (Books ts) (sym (append_none issued)) books);
      inside = subst AllInside (sym (append_none ts)) inside;
      rests = λ on. record { memory = ap byte_in (same on).memory ∙ was ∙ ap made_of (sym (append_none ts)); clean = (same on).clean };
    }

module _ (c : Change) (flushed : Bool) (h k : Held) (x : Result (ℕ × ℕ) StoreFault) (amount : ℕ) (sums : Sums c amount) (m : Made c flushed h x k)
    (did : List store.Event) (d : Does h.store m.made flushed x k.store m.changes did) (xs : List Entered) (issued : List ℕ) (w : Keeps (working h) xs issued) where
  abbrev ch : Changes h.store m.made flushed x k.store
  ch = m.changes

  abbrev p : held.Held
  p = ch.prepared

  abbrev ts : List Transaction
  ts = law.transactions xs

  abbrev call : store.Call
  call = store.commit ch.token.number flushed x

  rests : Rests h ts
  rests = w.rests m.on

  before : byte_in p.state.image.before ≡ made_of ts
  before = ap byte_in (ch.prepares.before ∙ ledger.unchanged h.store.state.image rests.clean) ∙ rests.memory

  prepared : byte_in p.state.image.memory ≡ after_edits m.made (byte_in h.store.state.image.memory)
  prepared = fun_ext ch.prepares.memory

  b : Whole h issued
  b = whole h xs issued w m.on

  holds : Holds (made_of (ts ++ (law.own_transaction p.state ∷ []))) (c.after b.book)
  holds =
      let next = sums.lawful (byte_in h.store.state.image.memory) b.book b.holds (m.fits b.book b.holds) in
      let done = subst (λ (ys : List Edit). Holds (after_edits ys (byte_in h.store.state.image.memory)) (c.after b.book)) (sym (m.are b.book b.holds)) next in
      subst (λ (f : ℕ → ℕ). Holds f (c.after b.book)) (sym prepared ∙ same_own p.state ts before) done

  after : After k ts issued amount (law.newly call (store.working p) d.done)
  after =
      entering (store.does_enter p.state ch.token.number flushed) (record { transaction = law.own_transaction p.state; since = d.done; found = false }) p h k ts issued amount (c.after b.book) refl
      w.books w.inside (same_own p.state ts before) rests.memory holds (sums.total b.book ∙ ap (λ (i : ℕ). i + amount) b.total)
      (leaving h.store k m.made flushed x ch rests.clean d.commits.0)

  entered : newly did ≡ law.newly call (store.working p) d.done
  entered = ap newly d.events ∙ changing_enters h.store k.store m.made flushed x ch d.done d.cut

  grown : Grown (law.places_at (store.working h.store)) xs (newly did) (entered_after did (Some xs))
  grown =
      all_grow did (law.places_at (store.working h.store)) xs
      (subst AllPlain (sym d.events) (changing_plain h.store k.store m.made flushed x ch d.done d.cut))

  places : law.places_at (store.working k.store) ≡ law.places_at (store.working h.store)
  places =
      ap (λ (q : Plate). q.sectors - 64)
      (tried_plate (store.commit_plan p.state ch.token.number flushed) p.disk d.done d.cut x k.store.disk d.commits.1
      ∙ ap (λ (q : Disk). q.plate) (ledger.prepared_disk h.store k.store m.made flushed x ch))

  pub made_stands : Stands (working k) (entered_after did (Some xs)) (Some (issued ++ map (λ (y : Entered). amount) (newly did)))
  made_stands =
      let a = subst (After k ts issued amount) (sym entered) after in (
        grown.ys,
        grown.is,
        record {
          first = subst (λ (n : ℕ). FirstKept n grown.ys) (sym places) (grown.first w.first);
          books = subst (λ (us : List Transaction). Books us (issued ++ map (λ (y : Entered). amount) (newly did))) (sym grown.same) a.books;
          inside = subst AllInside (sym grown.same) a.inside;
          rests = subst (RestsAt (working k)) (sym grown.same) a.rests;
        },
      )
