-- Edits declared and written, one and many.
use Rattle.std.proofs.Common.{◌≡◌, ℕ, ◌+◌, ◌<◌, ◌≤◌, min, max, Bool, true, false, cond, ltb, ◌⊎◌, List, [], ◌∷◌, ◌++◌, length, get_or, Some, None, Ok, Err, Option, Result, sym, refl, ap, ◌∙◌, subst, inl, inr, arith}
use Rattle.std.proofs.lemmas.Bool.{eq-eqb}
use Rattle.journal.specs.Memory.{overlaid}
use Rattle.image.specs.declared.run.Run.{Run}
use Rattle.image.specs.declared.run.ImageFault.TheVariants.{Range, Runs as Too-many, Undeclared}
use Rattle.image.specs.declared.state.Image.{Image}
use Rattle.image.specs.Runs.{run, joined, Declared}
use Rattle.image.specs.Calls.{declared, DeclaredMore, Written}
use Rattle.image.proofs.Alone.{runs_are_joined}
use Rattle.transactions.specs.declared.fault.StoreFault.{StoreFault}
use Rattle.transactions.specs.declared.log.Log.{Log}
use Rattle.transactions.specs.declared.state.State.{State}
use Rattle.transactions.specs.declared.token.Token.{Token}
use Rattle.transactions.specs.Calls as calls
use Rattle.transactions.specs.Held.{Held, Begins, SetsRange, WritesRange}
use Rattle.transactions.specs.Rows.{first_fit, busy, token_rows}
use Rattle.transactions.proofs.Plans.{on_past}
use Rattle.transactions.specs.State.{MadeOf}
use Rattle.book.specs.Edits.{Edit, edit, edited, declaring}
use Rattle.changes.specs.Changes.{Prepared, PutIn, Changes}
use Rattle.changes.specs.Steps.{Underway, Put, Puts, Finishes, Performs}

pub some_none : {A : Type 0} (o : Option A) (x : A) → o ≡ None → o ≡ Some x → ⊥
some_none o x a b = let z : ◌≡◌ {A = ℕ} 0 1 = cc in omega arith

-- a token that is the open transaction's fits
pub token_fits : (s : State) (number : ℕ) → Underway s number → first_fit (token_rows s number) ≡ None
token_fits s number u = rw (u.on, u.busy, eq-eqb number (s.log.ordinal + 1) u.fits) refl

-- one stretch more makes one run more at most
pub joined_length : (f t : ℕ) (rs : List Run) → length (joined f t rs) ≤ 1 + length rs
joined_length f t [] = omega arith
joined_length f t (r ∷ rs) = go (ltb t r.from) (ltb r.to f) (joined_length f t rs) (joined_length (min f r.from) (max t r.to) rs)
  where
    go : (b c : Bool) → length (joined f t rs) ≤ 1 + length rs → length (joined (min f r.from) (max t r.to) rs) ≤ 1 + length rs
        → length (cond b (run f t ∷ r ∷ rs) (cond c (r ∷ joined f t rs) (joined (min f r.from) (max t r.to) rs))) ≤ 1 + length (r ∷ rs)
    go true c h k = omega arith
    go false true h k = omega (arith, h)
    go false false h k = omega (arith, k)

-- The stretch is declared, and nothing but the memory moved.
pub record Set (start size : ℕ) (s m : State) : Type 0 where
  pub more : DeclaredMore start size s.image m.image
  pub made : MadeOf m m.image s.spool s.log s.busy s.on

set_passes : (s m : State) (number start size : ℕ) (r : Result (Unit {0}) StoreFault) → Underway s number → length (declared s.image) + 1 < 17
    → 1 ≤ size → start + size ≤ 6144 → calls.SetsRange s number start size r m → (r ≡ Ok tt) × Set start size s m
set_passes s m number start size (Ok _) u few some inside (fits, more, made) = (refl, record { more = more; made = made })
set_passes s m number start size (Err f) u few some inside (inl (fits, same)) = absurd (some_none (first_fit (token_rows s number)) _ (token_fits s number u) fits)
set_passes s m number start size (Err f) u few some inside (inr (Range at, fits, is, refused, made)) = absurd (out refused.out)
  where
    out : (size ≡ 0) ⊎ (6144 < start + size) → ⊥
    out (inl e) = omega arith
    out (inr h) = omega arith
set_passes s m number start size (Err f) u few some inside (inr (Too-many at, fits, is, refused, made)) =
    absurd (omega (arith, refused.many, ap (λ (rs : List Run). length rs) (runs_are_joined start (start + size) s.image.runs refused.runs (omega (arith, some)) refused.declares), joined_length start (start + size) (declared s.image)))
set_passes s m number start size (Err f) u few some inside (inr (Undeclared at, fits, is, never, made)) = absurd never

pub err_ok : (f : StoreFault) → ◌≡◌ {A = Result (Unit {0}) StoreFault} (Err f) (Ok tt) → ⊥
err_ok f e = let z : ◌≡◌ {A = ℕ} 0 1 = cc in omega arith

pub not_set : (s m : State) (number start : ℕ) (bytes : List ℕ) (f : StoreFault) → Underway s number → length (declared s.image) + 1 < 17
    → 1 ≤ length bytes → start + length bytes ≤ 6144 → calls.SetsRange s number start (length bytes) (Err f) m → ⊥
not_set s m number start bytes f u few some inside set = err_ok f (set_passes s m number start (length bytes) (Err f) u few some inside set).0

-- The bytes are written, and nothing but the memory moved.
pub record Got (start : ℕ) (bytes : List ℕ) (m p : State) : Type 0 where
  pub written : Written start bytes m.image p.image
  pub made : MadeOf p p.image m.spool m.log m.busy m.on

write_passes : (m p : State) (number start : ℕ) (bytes : List ℕ) (r : Result (Unit {0}) StoreFault) → Underway m number
    → ((i : ℕ) → start ≤ i → i < start + length bytes → Declared (declared m.image) i)
    → 1 ≤ length bytes → start + length bytes ≤ 6144 → calls.WritesRange m number start bytes r p → (r ≡ Ok tt) × Got start bytes m p
write_passes m p number start bytes (Ok _) u all some inside (fits, written, made) = (refl, record { written = written; made = made })
write_passes m p number start bytes (Err f) u all some inside (inl (fits, same)) = absurd (some_none (first_fit (token_rows m number)) _ (token_fits m number u) fits)
write_passes m p number start bytes (Err f) u all some inside (inr (Range at, fits, is, refused, made)) = absurd (out refused.out)
  where
    out : (length bytes ≡ 0) ⊎ (6144 < start + length bytes) → ⊥
    out (inl e) = omega arith
    out (inr h) = omega arith
write_passes m p number start bytes (Err f) u all some inside (inr (Too-many at, fits, is, never, made)) = absurd never
write_passes m p number start bytes (Err f) u all some inside (inr (Undeclared b, fits, is, refused, made)) =
    absurd (refused.undeclared (all b refused.from refused.below))

-- a transaction stays open while its bytes are declared and written
still_underway : (s m : State) (number : ℕ) → Underway s number → MadeOf m m.image s.spool s.log s.busy s.on → Underway m number
still_underway s m number u made =
    record {
      on = made.on_is ∙ u.on;
      busy = made.busy_is ∙ u.busy;
      fits = u.fits ∙ sym (ap (λ (l : Log). l.ordinal + 1) made.log_is);
    }

-- A patch that is put in: what it makes, and by which calls.
abbrev pub Made : ℕ → List Edit → Held → Held → Type 0
Made number xs h k = Put h.state xs k.state × PutIn number xs h k

pub put_done : (h m p : Held) (number start : ℕ) (bytes : List ℕ) (a : Unit {0}) (r : Result (Unit {0}) StoreFault) → Underway h.state number → length (declared h.state.image) + 1 < 17
    → 1 ≤ length bytes → start + length bytes ≤ 6144 → SetsRange number start (length bytes) h (Ok a) m → WritesRange number start bytes m r p
    → (r ≡ Ok tt) × Put h.state (edit start bytes ∷ []) p.state × PutIn number (edit start bytes ∷ []) h p
put_done h m p number start bytes a r u few some inside set write =
    let x = (set_passes h.state m.state number start (length bytes) (Ok a) u few some inside set.0).1 in
    let all : (i : ℕ) → start ≤ i → i < start + length bytes → Declared (declared m.state.image) i =
    λ i low high. x.more.declares.all i (inl (low, high)) in
    let y = write_passes m.state p.state number start bytes r (still_underway h.state m.state number u x.made) all some inside write.0 in
    let wrote = subst (λ (z : Result (Unit {0}) StoreFault). WritesRange number start bytes m z p) y.0 write in
    (y.0, both h.state m.state p.state start bytes x y.1, (m, p, set, wrote, refl))
  where
    both : (s m p : State) (start : ℕ) (bytes : List ℕ) → Set start (length bytes) s m → Got start bytes m p → Put s (edit start bytes ∷ []) p
    both s m p start bytes x y =
        record {
          on = y.made.on_is ∙ x.made.on_is;
          busy = y.made.busy_is ∙ x.made.busy_is;
          log = y.made.log_is ∙ x.made.log_is;
          spool = y.made.spool_is ∙ x.made.spool_is;
          before = y.written.before ∙ x.more.before;
          runs = y.written.runs ∙ runs_are_joined start (start + length bytes) s.image.runs (declared m.image) (omega (arith, x.more.in_range.0)) x.more.declares;
          memory = λ i. y.written.memory i ∙ ap (λ (l : List ℕ). overlaid start bytes i (get_or l i 0)) x.more.memory;
        }

-- edits one after the other, in two parts
declaring_append : (xs ys : List Edit) (rs : List Run) → declaring (xs ++ ys) rs ≡ declaring ys (declaring xs rs)
declaring_append [] ys rs = refl
declaring_append (x ∷ xs) ys rs = declaring_append xs ys (joined x.start (x.start + length x.bytes) rs)

edited_append : (xs ys : List Edit) (i v : ℕ) → edited (xs ++ ys) i v ≡ edited ys i (edited xs i v)
edited_append [] ys i v = refl
edited_append (x ∷ xs) ys i v = edited_append xs ys i (overlaid x.start x.bytes i v)

declaring_length : (xs : List Edit) (rs : List Run) → length (declaring xs rs) ≤ length xs + length rs
declaring_length [] rs = omega arith
declaring_length (x ∷ xs) rs =
    let to = x.start + length x.bytes in
    omega (arith, declaring_length xs (joined x.start to rs), joined_length x.start to rs)

put_both : (s m p : State) (xs ys : List Edit) → Put s xs m → Put m ys p → Put s (xs ++ ys) p
put_both s m p xs ys a b =
    record {
      on = b.on ∙ a.on;
      busy = b.busy ∙ a.busy;
      log = b.log ∙ a.log;
      spool = b.spool ∙ a.spool;
      before = b.before ∙ a.before;
      runs = b.runs ∙ ap (λ (rs : List Run). declaring ys rs) a.runs ∙ sym (declaring_append xs ys (declared s.image));
      memory = λ i. b.memory i ∙ ap (λ (v : ℕ). edited ys i v) (a.memory i) ∙ sym (edited_append xs ys i (get_or s.image.memory i 0));
    }

put_in_append : (number : ℕ) (h m p : Held) (xs ys : List Edit) → PutIn number xs h m → PutIn number ys m p → PutIn number (xs ++ ys) h p
put_in_append number h m p [] ys same b = subst (λ (q : Held). PutIn number ys q p) same b
put_in_append number h m p (x ∷ xs) ys (set, put, sets, writes, a) b = (set, put, sets, writes, put_in_append number put m p xs ys a b)

made_both : (number : ℕ) (h m p : Held) (xs ys : List Edit) → Made number xs h m → Made number ys m p → Made number (xs ++ ys) h p
made_both number h m p xs ys a b = (put_both h.state m.state p.state xs ys a.0 b.0, put_in_append number h m p xs ys a.1 b.1)

-- What is put in after something else is put in beside it; zs is all of it.
pub puts_then : (h m p : Held) (number a b : ℕ) (xs ys zs : List Edit) (v : Unit {0}) (r : Result (Unit {0}) StoreFault) → length xs ≤ a → xs ++ ys ≡ zs
    → Puts number a xs h (Ok v) m → Puts number b ys m r p → Puts number (a + b) zs h r p
puts_then h m p number a b xs ys zs v r long is first second u few =
    let one = first u (omega arith) in
    let x = one.1 in
    let still : Underway m.state number = record { on = x.on ∙ u.on; busy = x.busy ∙ u.busy; fits = u.fits ∙ sym (ap (λ (l : Log). l.ordinal + 1) x.log) } in
    let e = ap (λ (rs : List Run). length rs) x.runs in
    let y = second still (omega (arith, e, declaring_length xs (declared h.state.image))) in
    let all = subst (λ (l : List Edit). Made number l h p) is (made_both number h m p xs ys (x, one.2) (y.1, y.2)) in
    (y.0, all.0, all.1)

-- room for more is room for less, under whose name ever the edits go
pub puts_among : (h p : Held) (number a b : ℕ) (xs ys : List Edit) (r : Result (Unit {0}) StoreFault) → a ≤ b → xs ≡ ys → Puts number a xs h r p → Puts number b ys h r p
puts_among h p number a b xs ys r fewer is puts u few =
    let x = puts u (omega arith) in
    let all = subst (λ (l : List Edit). Made number l h p) is (x.1, x.2) in
    (x.0, all.0, all.1)

-- what comes after is not refused
pub never_refused : (h m p : Held) (number a b : ℕ) (xs ys : List Edit) (v : Unit {0}) (f : StoreFault) → length xs ≤ a
    → Puts number a xs h (Ok v) m → Puts number b ys m (Err f) p → Underway h.state number → length (declared h.state.image) + (a + b) < 17 → ⊥
never_refused h m p number a b xs ys v f long first second u few =
    err_ok f (puts_then h m p number a b xs ys (xs ++ ys) v (Err f) long refl first second u few).0

-- What was begun, put in and committed is a change.
pub change_made : (h m p k : Held) (t : Token) (xs : List Edit) (flush : Bool) (put : Result (Unit {0}) StoreFault) (r : Result (ℕ × ℕ) StoreFault)
    → Begins h (Ok t) m → Puts t.number 5 xs m put p → Finishes put t.number flush p r k → declared h.state.image ≡ [] → Changes h xs flush r k
change_made h m p k t xs flush put r begins puts finishes clean =
    let made = begins.0.2 in
    let none = ap (λ (i : Image). declared i) made.image_is ∙ clean in
    let log = ap (λ (l : Log). l.ordinal + 1) made.log_is in
    let on = made.on_is ∙ on_past h.state (busy h.state ∷ []) begins.0.0 in
    let few = ap (λ (rs : List Run). length rs) none in
    let q = puts (record { on = on; busy = made.busy_is; fits = begins.0.1 ∙ sym log }) (omega (arith, few)) in
    let commits = subst (λ (x : Result (Unit {0}) StoreFault). Finishes x t.number flush p r k) q.0 finishes in
    record { token = t; begun = m; begins = begins; prepared = p; puts = q.2; prepares = prepared begins.0 q.1 none; commits = commits }
  where
    prepared : calls.Begins h.state (Ok t) m.state → Put m.state xs p.state → declared m.state.image ≡ [] → Prepared h.state xs p.state
    prepared (fits, number, made) q none =
        record {
          on = q.on ∙ made.on_is ∙ on_past h.state (busy h.state ∷ []) fits;
          busy = q.busy ∙ made.busy_is;
          log = q.log ∙ made.log_is;
          spool = q.spool ∙ made.spool_is;
          before = q.before ∙ ap (λ (i : Image). i.before) made.image_is;
          runs = q.runs ∙ ap (λ (rs : List Run). declaring xs rs) none;
          memory = λ i. q.memory i ∙ ap (λ (x : Image). edited xs i (get_or x.memory i 0)) made.image_is;
        }

-- Begun, put in and committed.
pub performed : (h m p k : Held) (t : Token) (xs : List Edit) (flush : Bool) (put : Result (Unit {0}) StoreFault) (r : Result (ℕ × ℕ) StoreFault)
    → Begins h (Ok t) m → Puts t.number 5 xs m put p → Finishes put t.number flush p r k → Performs xs flush h r k
performed h m p k t xs flush put r begins puts finishes =
    inr (begins.0.0, λ clean. change_made h m p k t xs flush put r begins puts finishes clean)
