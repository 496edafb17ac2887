-- A firm log stays firm while its records from low to last stay, nothing comes above, and its homes stay where they matter.
use Rattle.std.proofs.Common.{◌≡◌, ℕ, ◌+◌, ◌-◌, ◌/◌, ◌%◌, ◌<◌, ◌≤◌, ◌⊎◌, length, sym, refl, ap, ◌∙◌, subst, ⊎_elim, arith}
use Rattle.device.specs.Disk.{Shown}
use Rattle.record.specs.Entry.{Entry}
use Rattle.journal.specs.Log.{log}
use Rattle.journal.specs.Memory.{replayed, from_home, byte_of}
use Rattle.journal.specs.Opening.{Here, Covers, Usable}
use Rattle.journal.proofs.Places.{kept}
use Rattle.durability.specs.Standing.{Firm}
use Rattle.durability.proofs.Bytes.{Over, replayed_same, replayed_over}

-- a record that covers a page lies over each of its bytes
pub covers_over : (n : ℕ) (shows : ℕ → Shown) (low c i : ℕ) (h : Covers (log n shows) low c (i / 96)) → Here (log n shows) h.serial → Over (log n shows h.serial) i
covers_over n shows low c i h here =
    let start = (kept n shows h.serial here).start h.whole in
    let page = h.page in
    let whole = h.whole in
    record { from = omega arith; to = omega arith }

-- the same records cover the same pages
pub covers_same : (l l' : ℕ → Entry) (low c p : ℕ) → ((s : ℕ) → low ≤ s → s ≤ c → l' s ≡ l s) → Covers l low c p → Covers l' low c p
covers_same l l' low c p same h =
    let e = same h.serial h.from h.to in
    record {
      serial = h.serial;
      from = h.from;
      to = h.to;
      page = ap (λ (x : Entry). x.page) e ∙ h.page;
      whole = ap (λ (x : Entry). length x.bytes) e ∙ h.whole;
    }

-- The homes are the same, but for pages that the records from low to c cover.
abbrev pub HomesKept : ℕ → (ℕ → Shown) → (ℕ → Shown) → ℕ → ℕ → Type 0
HomesKept n shows shows' low c = (p : ℕ) → p < 64 → (shows' (n + p) ≡ shows (n + p)) ⊎ Covers (log n shows) low c p

pub usable_kept : (n : ℕ) (shows shows' : ℕ → Shown) (low c p : ℕ) → p < 64 → ((s : ℕ) → low ≤ s → s ≤ c → log n shows' s ≡ log n shows s) → HomesKept n shows shows' low c → Usable n shows (log n shows) low c p → Usable n shows' (log n shows') low c p
usable_kept n shows shows' low c p small same homes old gone =
    covers_same (log n shows) (log n shows') low c p same
    (⊎_elim (λ (e : shows' (n + p) ≡ shows (n + p)). old (sym e ∙ gone)) (λ h. h) (homes p small))

pub makes_kept : (n : ℕ) (shows shows' : ℕ → Shown) (low c i : ℕ) → i < 6144 → low ≤ c → ((s : ℕ) → low ≤ s → s ≤ c → Here (log n shows) s) → ((s : ℕ) → low ≤ s → s ≤ c → log n shows' s ≡ log n shows s) → HomesKept n shows shows' low c → replayed (log n shows') low (c + 1 - low) (from_home n shows') i ≡ replayed (log n shows) low (c + 1 - low) (from_home n shows) i
makes_kept n shows shows' low c i small from here same homes =
    let l = log n shows in
    let within : (s : ℕ) → low ≤ s → s < low + (c + 1 - low) → log n shows' s ≡ l s = λ s a b. same s a (omega arith) in
    ⊎_elim
    (λ (e : shows' (n + i / 96) ≡ shows (n + i / 96)).
    replayed_same l (log n shows') low (c + 1 - low) (from_home n shows) (from_home n shows') i within (ap (λ (x : Shown). byte_of x (i % 96)) e))
    (λ (h : Covers l low c (i / 96)).
    let a = h.from in
    let b = h.to in
    replayed_same l (log n shows') low (c + 1 - low) (from_home n shows') (from_home n shows') i within refl
    ∙ replayed_over l low (c + 1 - low) (from_home n shows) (from_home n shows') i h.serial a (omega arith) (covers_over n shows low c i h (here h.serial a b)))
    (homes (i / 96) (omega arith))

pub firm_kept : (n : ℕ) (shows shows' : ℕ → Shown) (low last ordinal : ℕ) (memory : ℕ → ℕ) → Firm n shows low last ordinal memory → ((s : ℕ) → low ≤ s → s ≤ last → log n shows' s ≡ log n shows s) → ((s : ℕ) → Here (log n shows') s → s ≤ last) → HomesKept n shows shows' low last → Firm n shows' low last ordinal memory
firm_kept n shows shows' low last ordinal memory f same above homes =
    let from = f.from in
    let bottom = same low (omega arith) from in
    let top = same last from (omega arith) in
    record {
      some = f.some;
      from = from;
      near = f.near;
      mark = ap (λ (x : Entry). x.kind) bottom ∙ f.mark;
      unbroken = λ s a b. subst (λ (x : Entry). 1 ≤ x.kind) (sym (same s a b)) (f.unbroken s a b);
      ends = subst (λ (x : Entry). 2 ≤ x.kind) (sym top) f.ends;
      above = above;
      named = ap (λ (x : Entry). x.low) top ∙ f.named;
      number = ap (λ (x : Entry). x.ordinal) top ∙ f.number;
      homes = λ p small. usable_kept n shows shows' low last p small same homes (f.homes p small);
      makes = λ i small. makes_kept n shows shows' low last i small from f.unbroken same homes ∙ f.makes i small;
    }
