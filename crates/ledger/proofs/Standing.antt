-- What the store's memory is after a change, and how a ledger stands then.
use Rattle.std.proofs.Common.{◌≡◌, ℕ, ◌+◌, Bool, true, false, List, [], ◌∷◌, get_or, None, Ok, Err, Result, sym, refl, ap, ◌∙◌, subst, inl, inr}
use mathlib.Core.Logic.{∥∥₁_map}
use Rattle.std.proofs.Math.Path.{fun_ext}
use Rattle.std.proofs.lemmas.Bool.{both_ways, and_parts}
use Rattle.std.proofs.lemmas.List.{ext_get_or}
use Rattle.device.specs.Disk.{Disk}
use Rattle.image.specs.declared.run.Run.{Run}
use Rattle.image.specs.declared.state.Image.{Image}
use Rattle.image.specs.Runs.{Declared}
use Rattle.image.specs.Calls.{declared}
use Rattle.transactions.specs.declared.fault.StoreFault.{StoreFault}
use Rattle.transactions.specs.declared.log.Log.{Log}
use Rattle.transactions.specs.declared.state.State.{State}
use Rattle.transactions.specs.Truncation.{Truncates}
use Rattle.transactions.specs.Rows.{first_fit, token_rows}
use Rattle.book.specs.Layout.{byte_in}
use Rattle.book.specs.Book.{Book, Holds}
use Rattle.book.specs.Edits.{Edit, after_edits}
use Rattle.transactions.specs.Calls.{Flushes, Commits}
use Rattle.transactions.specs.Held.{Held}
use Rattle.changes.specs.Changes.{Prepared, PutIn, Changes}
use Rattle.changes.specs.Steps.{Performs}
use Rattle.changes.proofs.Patches.{some_none, token_fits}
use Rattle.ledger.specs.Sound.{HoldsBook, on, Sound}

-- where nothing is declared, the memory is as at begin
pub unchanged : (x : Image) → declared x ≡ [] → x.before ≡ x.memory
unchanged x clean =
    sym
    (ext_get_or 0 x.memory x.before (x.whole ∙ sym x.kept)
    (λ i h. x.same i (λ k. subst (λ (rs : List Run). Declared rs i) clean k)))

-- A change by what was prepared, and its commit.
abbrev pub Committed : State → Disk → List Edit → Bool → Result (ℕ × ℕ) StoreFault → State → Disk → Type 0
Committed s d xs flush r s' e = (p : State) × Prepared s xs p × Commits p d (s.log.ordinal + 1) flush r s' e

put_in_disk : (number : ℕ) (xs : List Edit) (h k : Held) → PutIn number xs h k → k.disk ≡ h.disk
put_in_disk number [] h k same = ap (λ (x : Held). x.disk) same
put_in_disk number (x ∷ xs) h k (set, put, sets, writes, rest) = put_in_disk number xs put k rest ∙ writes.1 ∙ sets.1

pub prepared_disk : (h k : Held) (xs : List Edit) (flush : Bool) (r : Result (ℕ × ℕ) StoreFault) (x : Changes h xs flush r k) → x.prepared.disk ≡ h.disk
prepared_disk h k xs flush r x = put_in_disk x.token.number xs x.begun x.prepared x.puts ∙ x.begins.1

pub committed : (h k : Held) (xs : List Edit) (flush : Bool) (r : Result (ℕ × ℕ) StoreFault) → Changes h xs flush r k → Committed h.state h.disk xs flush r k.state k.disk
committed h k xs flush r x =
    let here = prepared_disk h k xs flush r x in (
      x.prepared.state,
      x.prepares,
      subst (λ (n : ℕ). Commits x.prepared.state h.disk n flush r k.state k.disk) x.begins.0.1
          (subst (λ (d : Disk). Commits x.prepared.state d x.token.number flush r k.state k.disk) here x.commits),
    )

-- on a store with nothing declared a change that passes is made
pub made_on_clean : (h k : Held) (xs : List Edit) (flush : Bool) (x : ℕ × ℕ) → declared h.state.image ≡ [] → Performs xs flush h (Ok x) k → Changes h xs flush (Ok x) k
made_on_clean h k xs flush x clean (inl (f, fits, is, same)) = cc
made_on_clean h k xs flush x clean (inr (passes, made)) = made clean

-- The memory has the edits, no transaction is open, and nothing is declared.
pub record Changed (s : State) (xs : List Edit) (s' : State) : Type 0 where
  pub memory : byte_in s'.image.memory ≡ after_edits xs (byte_in s.image.memory)
  pub free : s'.busy ≡ false
  pub clean : declared s'.image ≡ []

pub done_changes : (s s' : State) (d e : Disk) (xs : List Edit) (flush : Bool) (x : ℕ × ℕ) → Committed s d xs flush (Ok x) s' e → Changed s xs s'
done_changes s s' d e xs flush x (p, made, (fits, inl none)) =
    record {
      memory = fun_ext (λ i. ap (λ (y : Image). get_or y.memory i 0) none.state.image_is ∙ made.memory i);
      free = none.state.busy_is;
      clean = ap (λ (y : Image). declared y) none.state.image_is ∙ none.clean;
    }
done_changes s s' d e xs flush x (p, made, (fits, inr parts)) =
    record {
      memory = fun_ext (λ i. ap (λ (m : List ℕ). get_or m i 0) parts.image.memory ∙ made.memory i);
      free = parts.free;
      clean = parts.image.clean;
    }

-- The memory is as it was, no transaction is open, and nothing is declared.
pub record Left (s s' : State) : Type 0 where
  pub memory : s'.image.memory ≡ s.image.memory
  pub free : s'.busy ≡ false
  pub clean : declared s'.image ≡ []

-- the token that was given fits
pub own_token : (s p : State) (xs : List Edit) → Prepared s xs p → first_fit (token_rows p (s.log.ordinal + 1)) ≡ None
own_token s p xs made =
    token_fits p (s.log.ordinal + 1) (record { on = made.on; busy = made.busy; fits = sym (ap (λ (l : Log). l.ordinal + 1) made.log) })

pub undone_leaves : (s s' : State) (d e : Disk) (xs : List Edit) (flush : Bool) (f : StoreFault) → declared s.image ≡ [] → Committed s d xs flush (Err f) s' e → s'.on ≡ true → Left s s'
undone_leaves s s' d e xs flush f clean (p, made, inl (fits, same, device)) awake =
    absurd (some_none (first_fit (token_rows p (s.log.ordinal + 1))) _ (own_token s p xs made) fits)
undone_leaves s s' d e xs flush f clean (p, made, inr (fits, inl refused)) awake =
    record {
      memory = refused.state.0.memory ∙ made.before ∙ unchanged s.image clean;
      free = refused.state.1.busy_is;
      clean = refused.state.0.clean;
    }
undone_leaves s s' d e xs flush f clean (p, made, inr (fits, inr cut)) awake = absurd (both_ways s'.on cut.cut.state.off awake)

-- a memory with the same bytes holds the same book
pub holds_after : (s s' : State) (xs : List Edit) (b : Book) → Changed s xs s' → Holds (after_edits xs (byte_in s.image.memory)) b → HoldsBook s' b
holds_after s s' xs b c h = subst (λ (f : ℕ → ℕ). Holds f b) (sym c.memory) h

pub holds_same : (s s' : State) (b : Book) → s'.image.memory ≡ s.image.memory → HoldsBook s b → HoldsBook s' b
holds_same s s' b e h = subst (λ (m : List ℕ). Holds (byte_in m) b) (sym e) h

-- on, part by part
pub is_fit : (fit : Bool) (s : State) → on fit s ≡ true → fit ≡ true
is_fit fit s h = (and_parts fit s.on h).0

pub is_on : (fit : Bool) (s : State) → on fit s ≡ true → s.on ≡ true
is_on fit s h = (and_parts fit s.on h).1

-- how the ledger stands after a call of the store's that leaves the memory

pub same_stands : (fit : Bool) (s s' : State) → s' ≡ s → Sound fit s → Sound fit s'
same_stands fit s s' e sound = subst (λ (x : State). Sound fit x) (sym e) sound

pub off_stands : (fit : Bool) (s : State) → on fit s ≡ false → Sound fit s
off_stands fit s off =
    record {
      books = λ k. absurd (both_ways (on fit s) off k);
      free = λ k. absurd (both_ways (on fit s) off k);
      clean = λ k. absurd (both_ways (on fit s) off k);
    }

store_off : (fit : Bool) (s : State) → s.on ≡ false → on fit s ≡ false
store_off true s e = e
store_off false s e = refl

pub kept_stands : (fit : Bool) (s s' : State) → on fit s ≡ true → s'.image ≡ s.image → s'.busy ≡ s.busy → Sound fit s → Sound fit s'
kept_stands fit s s' awake image busy sound =
    record {
      books = λ k. ∥∥₁_map (sound.books awake) (λ x. (x.0, holds_same s s' x.0 (ap (λ (y : Image). y.memory) image) x.1));
      free = λ k. busy ∙ sound.free awake;
      clean = λ k. ap (λ (y : Image). declared y) image ∙ sound.clean awake;
    }

pub flush_stands : (fit : Bool) (s s' : State) (d e : Disk) (r : Result ℕ StoreFault) → on fit s ≡ true → Flushes s d r s' e → Sound fit s → Sound fit s'
flush_stands fit s s' d e (Ok k) awake (passes, count, inl (none, state, device)) sound = same_stands fit s s' state sound
flush_stands fit s s' d e (Ok k) awake (passes, count, inr (some, done, written, image, free)) sound = kept_stands fit s s' awake image free sound
flush_stands fit s s' d e (Err f) awake (inl (fits, state, device)) sound = same_stands fit s s' state sound
flush_stands fit s s' d e (Err f) awake (inr (passes, some, cut)) sound = off_stands fit s' (store_off fit s' cut.state.off)

pub truncate_stands : (fit : Bool) (s s' : State) (d e : Disk) (r : Result ℕ StoreFault) → on fit s ≡ true → Truncates s d r s' e → Sound fit s → Sound fit s'
truncate_stands fit s s' d e (Ok k) awake (passes, inl none) sound = same_stands fit s s' none.state sound
truncate_stands fit s s' d e (Ok k) awake (passes, inr pages) sound = kept_stands fit s s' awake pages.state.image pages.state.busy sound
truncate_stands fit s s' d e (Err f) awake (inl (fits, state, device)) sound = same_stands fit s s' state sound
truncate_stands fit s s' d e (Err f) awake (inr cut) sound = off_stands fit s' (store_off fit s' cut.state.off)
