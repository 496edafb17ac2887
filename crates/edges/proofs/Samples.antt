-- Sectors in which a record is missing.
use Rattle.std.proofs.Common.{◌≡◌, ◌≢◌, ℕ, ◌+◌, ◌<◌, ◌≤◌, Bool, true, false, cond, eqb, [], ◌∷◌, replicate, sym, refl, ap, ◌∙◌, arith}
use Rattle.std.proofs.Math.Nat.{mod-eq_of_lt}
use Rattle.std.proofs.lemmas.Bool.{ne_eqb}
use Rattle.device.specs.Disk.{Shown, spoiled, holds}
use Rattle.record.specs.Entry.{Entry, laid_out}
use Rattle.record.specs.Good.{Sound}
use Rattle.record.proofs.Laws.{found_laid_out}
use Rattle.journal.specs.Log.{nothing, said}
use Rattle.journal.proofs.Places.{said_zeros}
use Rattle.edges.specs.Gaps.{Lies, Holds, SpoiledBetween, NoLastPart, HomesRead}

abbrev first_mark : Entry
first_mark = record { kind = 4; serial = 1; low = 1; ordinal = 0; page = 0; offset = 0; bytes = [] }

-- a part of one byte
abbrev small : ℕ → ℕ → Entry
small kind serial = record { kind = kind; serial = serial; low = 1; ordinal = 0; page = 0; offset = 0; bytes = 7 ∷ [] }

-- The mark, two parts, a spoiled sector 3 where none of them lies there, and zeros.
abbrev shown : ℕ → ℕ → ℕ → ℕ → Shown
shown kind other kind' p =
    cond (eqb p 1) (holds (laid_out first_mark))
    (cond (eqb p 2) (holds (laid_out (small kind 2)))
    (cond (eqb p other) (holds (laid_out (small kind' other)))
    (cond (eqb p 3) spoiled (holds (replicate 128 0)))))

sound_mark : (n : ℕ) → 160 ≤ n → Sound n 1 first_mark
sound_mark n h =
    record {
      placed =
          record {
            serial_from = omega arith;
            serial_to = omega arith;
            here = mod-eq_of_lt (omega (arith, h));
            low_from = omega arith;
            low_to = omega arith;
            near = omega (arith, h);
            ordinal_below = omega arith;
          };
      fits =
          record {
            known = (omega arith, omega arith);
            piece = λ e. absurd (omega (arith, e));
            whole = λ e. absurd (omega (arith, e));
            mark = λ e. (refl, refl, refl);
          };
    }

sound_small : (n kind serial : ℕ) → 160 ≤ n → (1 ≤ kind) × (kind ≤ 2) → (2 ≤ serial) × (serial < 160) → Sound n serial (small kind serial)
sound_small n kind serial h (a, b) (c, d) =
    record {
      placed =
          record {
            serial_from = omega (arith, c);
            serial_to = omega (arith, d);
            here = mod-eq_of_lt (omega (arith, h, d));
            low_from = omega arith;
            low_to = omega (arith, c);
            near = omega (arith, h, d);
            ordinal_below = omega (arith, c);
          };
      fits =
          record {
            known = (a, omega (arith, b));
            piece = λ e. (omega arith, omega arith, omega arith);
            whole = λ e. absurd (omega (arith, e, b));
            mark = λ e. absurd (omega (arith, e, b));
          };
    }

lies : (n serial kind : ℕ) (shows : ℕ → Shown) (e : Entry) → shows serial ≡ holds (laid_out e) → Sound n serial e → e.serial ≡ serial → e.kind ≡ kind → e.low ≡ 1 → Lies n shows serial kind
lies n serial kind shows e at sound a b c =
    let is = ap (said n serial) at ∙ found_laid_out n serial e sound in
    record {
      its_serial = ap (λ (x : Entry). x.serial) is ∙ a;
      its_kind = ap (λ (x : Entry). x.kind) is ∙ b;
      its_low = ap (λ (x : Entry). x.low) is ∙ c;
    }

-- elsewhere there are zeros, but for sector 3
elsewhere : (kind other kind' p : ℕ) → p ≢ 1 → p ≢ 2 → p ≢ other → shown kind other kind' p ≡ cond (eqb p 3) spoiled (holds (replicate 128 0))
elsewhere kind other kind' p a b c =
    let x = ne_eqb p 1 a in
    let y = ne_eqb p 2 b in
    let z = ne_eqb p other c in
    rw (x, y, z) refl

quiet : (n p : ℕ) (b : Bool) → said n p (cond b spoiled (holds (replicate 128 0))) ≡ nothing
quiet n p true = refl
quiet n p false = said_zeros n p

read : (kind other kind' n : ℕ) → 160 ≤ n → other < 160 → HomesRead n (shown kind other kind')
read kind other kind' n h k p inside gone =
    let e = elsewhere kind other kind' (n + p) (omega (arith, h)) (omega (arith, h)) (omega (arith, h, k)) in
    let f = ne_eqb (n + p) 3 (omega (arith, h)) in
    whole (sym (e ∙ ap (λ (b : Bool). cond b spoiled (holds (replicate 128 0))) f) ∙ gone)
  where
    whole : holds (replicate 128 0) ≡ spoiled → ⊥
    whole e = let z : ◌≡◌ {A = ℕ} 0 1 = cc in omega (arith, z)

holds_these : (n kind other kind' : ℕ) → 160 ≤ n → (1 ≤ kind) × (kind ≤ 2) → (2 < other) × (other < 160) → (1 ≤ kind') × (kind' ≤ 2) → shown kind other kind' other ≡ holds (laid_out (small kind' other)) → Holds n (shown kind other kind') kind other kind'
holds_these n kind other kind' h k o k' at =
    record {
      some = h;
      mark = lies n 1 4 (shown kind other kind') first_mark refl (sound_mark n h) refl refl refl;
      second = lies n 2 kind (shown kind other kind') (small kind 2) refl (sound_small n kind 2 h k (omega arith, omega arith)) refl refl refl;
      third = lies n other kind' (shown kind other kind') (small kind' other) at (sound_small n kind' other h k' (omega (arith, o.0), o.1)) refl refl refl;
      else = λ p inside a b c. ap (said n p) (elsewhere kind other kind' p a b c) ∙ quiet n p (eqb p 3);
    }

pub sectors_with_a_gap : (n : ℕ) → 160 ≤ n → (shows : ℕ → Shown) × SpoiledBetween n shows × HomesRead n shows
sectors_with_a_gap n h =
    let these = holds_these n 2 4 2 h (omega arith, omega arith) (omega arith, omega arith) (omega arith, omega arith) refl in
    (shown 2 4 2, record { lies = these; lost = refl }, read 2 4 2 n h (omega arith))

pub sectors_with_no_last : (n : ℕ) → 160 ≤ n → (shows : ℕ → Shown) × NoLastPart n shows × HomesRead n shows
sectors_with_no_last n h =
    let these = holds_these n 1 3 1 h (omega arith, omega arith) (omega arith, omega arith) (omega arith, omega arith) refl in
    (shown 1 3 1, these, read 1 3 1 n h (omega arith))
