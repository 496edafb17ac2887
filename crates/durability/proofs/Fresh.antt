-- A new log: zeros everywhere, and one mark.
use Rattle.std.proofs.Common.{◌≡◌, ℕ, zero, suc, ◌+◌, ◌/◌, ◌%◌, ◌<◌, ◌≤◌, List, [], ◌∷◌, ◌++◌, sym, refl, ap, ◌∙◌, subst, inl, inr, ⊎_elim, mod-lt, arith}
use lib.ListN.{get_or-replicate}
use Rattle.std.proofs.lemmas.Bool.{cases_eq}
use Rattle.device.specs.Disk.{Disk, Shown, holds, Among}
use Rattle.device.specs.Trace.{Act, wrote, settled, Done}
use Rattle.record.specs.Entry.{Entry, laid_out}
use Rattle.record.specs.Good.{Sound}
use Rattle.record.proofs.Laws.{found_laid_out}
use Rattle.journal.specs.Log.{nothing, said, log}
use Rattle.journal.specs.Memory.{applied, replayed, byte_of, from_home}
use Rattle.journal.specs.Opening.{Here}
use Rattle.journal.proofs.Places.{said_zeros, serial_here, serial_else, serial_nothing}
use Rattle.journal.proofs.Overlay.{overlaid_above}
use Rattle.recovery.specs.Format.{blank, zeroing, mark, first}
use Rattle.durability.specs.Standing.{Firm}
use Rattle.durability.specs.Promises.{Formatted}
use Rattle.durability.proofs.Writes.{Steady, shown_written, done_split, quiet_settled}

-- the zeroing writes each sector, and zeros alone

zeroing_steady : (i k : ℕ) → Steady (zeroing i k)
unfolding zeroing
zeroing_steady i zero = tt
zeroing_steady i (suc k) = zeroing_steady (i + 1) k

zeroing_zeros : (i k p : ℕ) (bytes : List ℕ) → Among (wrote p bytes) (zeroing i k) → bytes ≡ blank
unfolding zeroing
zeroing_zeros i zero p bytes h = absurd h
zeroing_zeros i (suc k) p bytes (inl e) = cc
zeroing_zeros i (suc k) p bytes (inr h) = zeroing_zeros (i + 1) k p bytes h

zeroing_each : (i k p : ℕ) → i ≤ p → p < i + k → Among (wrote p blank) (zeroing i k)
unfolding zeroing
zeroing_each i zero p h l = absurd (omega arith)
zeroing_each i (suc k) p h l =
    ⊎_elim
    (λ (e : p ≡ i). inl (ap (λ (q : ℕ). wrote q blank) e))
    (λ ne. inr (zeroing_each (i + 1) k p (omega arith) (omega arith)))
    (cases_eq p i)

-- What a new log's sectors show.
record New (n : ℕ) (shows : ℕ → Shown) : Type 0 where
  marked : shows (1 % n) ≡ holds (laid_out (mark first))
  zeros : (i : ℕ) → i < n + 64 → (i ≡ 1 % n → ⊥) → shows i ≡ holds blank

new : (n : ℕ) (m e : Disk) → Done m (zeroing 0 (n + 64) ++ (settled ∷ wrote (1 % n) (laid_out (mark first)) ∷ settled ∷ [])) e → New n e.shows
new n m e done =
    let parts = done_split m e (zeroing 0 (n + 64)) (settled ∷ wrote (1 % n) (laid_out (mark first)) ∷ settled ∷ []) done in
    let z = parts.0 in
    let (a, settles, rest) = parts.2 in
    let (b, writes, last) = rest in
    let (c, again, same) = last in
    let end : (i : ℕ) → e.shows i ≡ b.shows i = λ i. ap (λ (v : Disk). v.shows i) same ∙ again.kept i in
    record {
      marked = end (1 % n) ∙ writes.shown;
      zeros =
          λ i h ne.
          end i ∙ writes.kept i ne ∙ settles.kept i
          ∙ shown_written m z (zeroing 0 (n + 64)) i blank (zeroing_steady 0 (n + 64)) (zeroing_each 0 (n + 64) i (omega arith) (omega arith)) (zeroing_zeros 0 (n + 64) i) parts.1;
    }

sound_mark : (n : ℕ) → 1 ≤ n → Sound n (1 % n) (mark first)
sound_mark n h =
    record {
      placed =
          record {
            serial_from = omega arith;
            serial_to = omega arith;
            here = refl;
            low_from = omega arith;
            low_to = omega arith;
            near = omega arith;
            ordinal_below = omega arith;
          };
      fits =
          record {
            known = (omega arith, omega arith);
            piece = λ k. absurd (omega arith);
            whole = λ k. absurd (omega arith);
            mark = λ k. (refl, refl, refl);
          };
    }

module _ (n : ℕ) (some : 1 ≤ n) (shows : ℕ → Shown) (w : New n shows) where
  said_mark : said n (1 % n) (shows (1 % n)) ≡ mark first
  said_mark = ap (λ (x : Shown). said n (1 % n) x) w.marked ∙ found_laid_out n (1 % n) (mark first) (sound_mark n some)

  the_mark : log n shows 1 ≡ mark first
  the_mark = serial_here 1 (mark first) (said n (1 % n) (shows (1 % n))) said_mark refl

  -- no other serial has a record
  no_other : (s : ℕ) → (s ≡ 1 → ⊥) → log n shows s ≡ nothing
  no_other s ne =
      ⊎_elim
      (λ (e : s % n ≡ 1 % n).
      serial_else s (mark first) (said n (s % n) (shows (s % n))) (ap (λ (p : ℕ). said n p (shows p)) e ∙ said_mark) (λ h. ne (sym h)))
      (λ other.
      serial_nothing s (said n (s % n) (shows (s % n)))
      (ap (λ (x : Shown). said n (s % n) x) (w.zeros (s % n) (omega (arith, mod-lt s some)) other) ∙ said_zeros n (s % n)))
      (cases_eq (s % n) (1 % n))

  only_mark : (s : ℕ) → Here (log n shows) s → s ≡ 1
  only_mark s h =
      ⊎_elim
      (λ e. e)
      (λ ne. absurd (omega (arith, h, ap (λ (x : Entry). x.kind) (no_other s ne))))
      (cases_eq s 1)

  home_zero : (p : ℕ) → p < 64 → shows (n + p) ≡ holds blank
  home_zero p h = w.zeros (n + p) (omega arith) (λ e. omega (arith, e, mod-lt 1 some))

  memory_zero : (i : ℕ) → i < 6144 → replayed (log n shows) 1 1 (from_home n shows) i ≡ 0
  unfolding replayed
  memory_zero i h =
      ap (λ (x : Entry). applied x i (from_home n shows i)) the_mark
      ∙ overlaid_above 0 [] i (from_home n shows i) (omega arith) (omega arith)
      ∙ ap (λ (x : Shown). byte_of x (i % 96)) (home_zero (i / 96) (omega arith))
      ∙ get_or-replicate 128 (i % 96) 0 0 (omega arith)

  new_firm : Firm n shows 1 1 0 (λ _. 0)
  new_firm =
      let kind : (log n shows 1).kind ≡ 4 = ap (λ (x : Entry). x.kind) the_mark in
      record {
        some = some;
        from = omega arith;
        near = omega arith;
        mark = kind;
        unbroken = λ s a b. let e : 1 ≡ s = omega arith in subst (λ (t : ℕ). Here (log n shows) t) e (omega arith);
        ends = omega arith;
        above = λ s h. omega (arith, only_mark s h);
        named = ap (λ (x : Entry). x.low) the_mark;
        number = ap (λ (x : Entry). x.ordinal) the_mark;
        homes = λ p h gone. absurd (let full = home_zero p h in let z : ◌≡◌ {A = ℕ} 0 1 = cc in omega arith);
        makes = memory_zero;
      }

pub formatted : Formatted
formatted n d e some (m, _, done) =
    let last : List Act = settled ∷ wrote (1 % n) (laid_out (mark first)) ∷ [] in
    let parts = done_split m e (zeroing 0 (n + 64)) (last ++ (settled ∷ [])) done in
    (new_firm n some e.shows (new n m e done), quiet_settled parts.0 e last parts.2)
