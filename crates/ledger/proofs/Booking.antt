-- A call that changes the book, by what was planned and what was made of it.
use Rattle.std.proofs.Common.{◌≡◌, ℕ, Bool, true, List, None, Ok, Err, Result, sym, refl, ap, subst, inr}
use mathlib.Core.Logic.{∥∥₁_map}
use Rattle.transactions.specs.declared.fault.StoreFault.{StoreFault}
use Rattle.transactions.specs.declared.state.State.{State}
use Rattle.transactions.specs.Held as store
use Rattle.book.specs.declared.fault.LedgerFault.{LedgerFault}
use Rattle.book.specs.Layout.{byte_in}
use Rattle.book.specs.Book.{Book, Holds}
use Rattle.book.specs.Rows.{first_fit, collect_rows}
use Rattle.book.specs.Edits.{Edit, after_edits, collect_edits, front_of}
use Rattle.book.specs.declared.records.Entry.{Entry}
use Rattle.book.proofs.Unlinking.{collect_holds}
use Rattle.plans.specs.declared.plan.Plan.{Plan}
use Rattle.plans.specs.Plans.{edits_of, Planned, Collected}
use Rattle.changes.specs.Changes.{Changes}
use Rattle.ledger.specs.Sound.{HoldsBook, on, on_store, Sound}
use Rattle.ledger.specs.Calls.{Change, Made, Leaves, by_ordinal, ByOrdinal, OnBook, collecting, Collects}
use Rattle.ledger.specs.Steps.{ChangesTo}
use Rattle.ledger.proofs.Standing.{committed, done_changes, undone_leaves, holds_after, holds_same, is_on}

-- A change that takes each book to the next one.
abbrev pub Lawful : Change → Type 0
Lawful c = (f : ℕ → ℕ) (b : Book) → Holds f b → first_fit (c.rows b) ≡ None → Holds (after_edits (c.edits b) f) (c.after b)

-- What a look at the memory m planned for each book that it holds.
abbrev pub PlannedFor : Change → List ℕ → Result Plan LedgerFault → Type 0
PlannedFor c m planned = (b : Book) → Holds (byte_in m) b → Planned (c.rows b) (c.edits b) planned

-- The look was at this store's memory, and the ledger is on.
abbrev pub Seen : Bool → State → List ℕ → Type 0
Seen fit s m = (on fit s ≡ true) × (m ≡ s.image.memory)

seen_book : (s : State) (m : List ℕ) (b : Book) → m ≡ s.image.memory → HoldsBook s b → Holds (byte_in m) b
seen_book s m b e h = subst (λ (n : List ℕ). Holds (byte_in n) b) (sym e) h

-- A change as the ledger answers it, by what the store answered.
pub by_store : (h k : store.Held) (xs : List Edit) (flush : Bool) (r : Result ℕ LedgerFault) → ChangesTo h xs flush r k
    → (x : Result (ℕ × ℕ) StoreFault) × (r ≡ by_ordinal x) × Changes h xs flush x k
by_store h k xs flush (Ok o) (records, c) = (Ok (o, records), refl, c)
by_store h k xs flush (Err f) (fault, is, c) = (Err fault, ap Err is, c)

-- The plan was made.
module _ (c : Change) (fit : Bool) (h k : store.Held) (m : List ℕ) (plan : Plan) (flush : Bool)
    (law : Lawful c) (sound : Sound fit h.state) (seen : Seen fit h.state m) (plans : PlannedFor c m (Ok plan)) where
  next : (b : Book) → HoldsBook h.state b → Holds (after_edits (edits_of plan) (byte_in h.state.image.memory)) (c.after b)
  next b holds =
      let p = plans b (seen_book h.state m b seen.1 holds) in
      subst (λ (ys : List Edit). Holds (after_edits ys (byte_in h.state.image.memory)) (c.after b)) (sym p.1) (law (byte_in h.state.image.memory) b holds p.0)

  leaves : (x : Result (ℕ × ℕ) StoreFault) → Changes h (edits_of plan) flush x k → Leaves c (on_store fit h) x (on_store fit k)
  leaves (Ok x) d =
      λ b holds.
      holds_after h.state k.state (edits_of plan) (c.after b)
      (done_changes h.state k.state h.disk k.disk (edits_of plan) flush x (committed h k (edits_of plan) flush (Ok x) d))
      (next b holds)
  leaves (Err f) d =
      λ awake.
      (undone_leaves h.state k.state h.disk k.disk (edits_of plan) flush f (sound.clean seen.0) (committed h k (edits_of plan) flush (Err f) d)
      (is_on fit k.state awake)).memory

  pub made : (x : Result (ℕ × ℕ) StoreFault) → Changes h (edits_of plan) flush x k → Made c flush (on_store fit h) x (on_store fit k)
  made x d =
      record {
        on = seen.0;
        fits = λ b holds. (plans b (seen_book h.state m b seen.1 holds)).0;
        made = edits_of plan;
        are = λ b holds. (plans b (seen_book h.state m b seen.1 holds)).1;
        changes = d;
        leaves = leaves x d;
        fit = refl;
      }

  -- and how the ledger stands after it
  pub still_sound : (x : Result (ℕ × ℕ) StoreFault) → Changes h (edits_of plan) flush x k → Sound fit k.state
  still_sound (Ok x) d =
      let done = done_changes h.state k.state h.disk k.disk (edits_of plan) flush x (committed h k (edits_of plan) flush (Ok x) d) in
      record {
        books = λ _. ∥∥₁_map (sound.books seen.0) (λ y. (c.after y.0, holds_after h.state k.state (edits_of plan) (c.after y.0) done (next y.0 y.1)));
        free = λ _. done.free;
        clean = λ _. done.clean;
      }
  still_sound (Err f) d =
      let left = undone_leaves h.state k.state h.disk k.disk (edits_of plan) flush f (sound.clean seen.0) (committed h k (edits_of plan) flush (Err f) d) in
      record {
        books = λ awake. ∥∥₁_map (sound.books seen.0) (λ y. (y.0, holds_same h.state k.state y.0 (left (is_on fit k.state awake)).memory y.1));
        free = λ awake. (left (is_on fit k.state awake)).free;
        clean = λ awake. (left (is_on fit k.state awake)).clean;
      }

  pub on_book : (r : Result ℕ LedgerFault) → ChangesTo h (edits_of plan) flush r k → OnBook c ByOrdinal flush (on_store fit h) r (on_store fit k)
  on_book r d = let y = by_store h k (edits_of plan) flush r d in inr (inr (y.0, y.1, made y.0 y.2))

  pub sound_after : (r : Result ℕ LedgerFault) → ChangesTo h (edits_of plan) flush r k → Sound fit k.state
  sound_after r d = let y = by_store h k (edits_of plan) flush r d in still_sound y.0 y.2

-- Collecting: the front entry is answered too.

-- What a look at the memory m planned, and the entry that it found, for each book.
abbrev pub CollectedFor : ℕ → List ℕ → Plan → Entry → Type 0
CollectedFor a m plan entry =
    (b : Book) → Holds (byte_in m) b → Collected (collect_rows b a) (collect_edits b a) (front_of (b.entries a)) (Ok (plan, entry))

collect_law : (a : ℕ) → Lawful (collecting a)
collect_law a f b = collect_holds f b a

module _ (a : ℕ) (fit : Bool) (h k : store.Held) (m : List ℕ) (plan : Plan) (entry : Entry) (flush : Bool)
    (sound : Sound fit h.state) (seen : Seen fit h.state m) (plans : CollectedFor a m plan entry) where
  collect_plans : PlannedFor (collecting a) m (Ok plan)
  collect_plans b holds = let q = plans b holds in (q.0, q.1)

  collect_made : (x : Result (ℕ × ℕ) StoreFault) → Changes h (edits_of plan) flush x k → Made (collecting a) flush (on_store fit h) x (on_store fit k)
  collect_made = made (collecting a) fit h k m plan flush (collect_law a) sound seen collect_plans

  pub collects_done : (o : ℕ) → ChangesTo h (edits_of plan) flush (Ok o) k → Collects a flush (on_store fit h) (Ok (o, entry)) (on_store fit k)
  collects_done o (records, c) =
      inr (inr (Ok (o, records), (entry, refl, λ b holds. (plans b (seen_book h.state m b seen.1 holds)).2), collect_made (Ok (o, records)) c))

  pub collects_undone : (f : LedgerFault) → ChangesTo h (edits_of plan) flush (Err f) k → Collects a flush (on_store fit h) (Err f) (on_store fit k)
  collects_undone f (fault, is, c) =
      inr (inr (Err fault, (entry, ap Err is, λ b holds. (plans b (seen_book h.state m b seen.1 holds)).2), collect_made (Err fault) c))

  pub collect_sound : (r : Result ℕ LedgerFault) → ChangesTo h (edits_of plan) flush r k → Sound fit k.state
  collect_sound = sound_after (collecting a) fit h k m plan flush (collect_law a) sound seen collect_plans
