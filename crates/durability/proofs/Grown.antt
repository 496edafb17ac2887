-- A firm log that grew by items opens to as many of them as end whole; where all are there, it stands firm.
use Rattle.std.proofs.Common.{◌≡◌, ℕ, ◌+◌, ◌-◌, ◌<◌, ◌≤◌, List, length, sym, ap, ◌∙◌, subst, inl, ⊎_elim, arith}
use Rattle.std.proofs.lemmas.Bool.{cases_lt, cases_eq}
use Rattle.device.specs.Disk.{Shown}
use Rattle.record.specs.Entry.{Entry}
use Rattle.journal.specs.Log.{log}
use Rattle.journal.specs.Memory.{replayed, from_home}
use Rattle.journal.specs.Opening.{Here, Usable}
use Rattle.durability.specs.Items.{Item, recorded, put_in, ordinal_after, kind_after, Appendable}
use Rattle.durability.specs.Standing.{Firm, OpensTo}
use Rattle.durability.proofs.Opening.{opens}
use Rattle.durability.proofs.Searches.{greatest_found}
use Rattle.durability.proofs.Carried.{usable_kept, makes_kept}
use Rattle.durability.proofs.Growth.{At, Maybe, Present, Reach, at_bounds, at_fits, item_of, ordinal_there, kind_there, ends_whole, memory_there}

-- These sectors hold the log that those held, and above it some of the items; homes are as they were.
pub record Grown (n : ℕ) (shows shows' : ℕ → Shown) (low last : ℕ) (xs : List Item) : Type 0 where
  pub old : (s : ℕ) → low ≤ s → s ≤ last → log n shows' s ≡ log n shows s
  pub new : Maybe low (log n shows') last xs
  pub homes : (p : ℕ) → shows' (n + p) ≡ shows (n + p)

module _ (n : ℕ) (shows shows' : ℕ → Shown) (low last ordinal : ℕ) (memory : ℕ → ℕ) (xs : List Item) (f : Firm n shows low last ordinal memory) (g : Grown n shows shows' low last xs) where
  last_same : log n shows' last ≡ log n shows last
  last_same = g.old last f.from (omega arith)

  mark_same : (log n shows' low).kind ≡ 4
  mark_same = ap (λ (e : Entry). e.kind) (g.old low (omega arith) f.from) ∙ f.mark

  -- every record from `last` up names the same low, and none is above the items
  names_low : (s : ℕ) → last ≤ s → Here (log n shows') s → (log n shows' s).low ≡ low
  names_low s a h =
      ⊎_elim
      (λ (e : s ≡ last). ap (λ (t : ℕ). (log n shows' t).low) e ∙ ap (λ (y : Entry). y.low) last_same ∙ f.named)
      (λ ne.
      ⊎_elim
      (λ none. absurd (omega (arith, none, h)))
      (λ (w : (x : Item) × At last xs s x × (log n shows' s ≡ recorded low s x)). ap (λ (y : Entry). y.low) w.2)
      (g.new s (omega arith)))
      (cases_eq s last)

  below_end : (s : ℕ) → Here (log n shows') s → s ≤ last + length xs
  below_end s h =
      ⊎_elim
      (λ (lt : last < s).
      ⊎_elim
      (λ none. absurd (omega (arith, none, h)))
      (λ (w : (x : Item) × At last xs s x × (log n shows' s ≡ recorded low s x)). (at_bounds last xs s w.0 w.1).1)
      (g.new s lt))
      (λ (ge : s ≤ last). omega arith)
      (cases_lt last s)

  unbroken_to : (stop : ℕ) → ((s : ℕ) → last < s → s ≤ stop → Here (log n shows') s) → (s : ℕ) → low ≤ s → s ≤ stop → Here (log n shows') s
  unbroken_to stop more s a b =
      ⊎_elim
      (λ (lt : last < s). more s lt b)
      (λ (ge : s ≤ last). subst (λ (y : Entry). 1 ≤ y.kind) (sym (g.old s a ge)) (f.unbroken s a ge))
      (cases_lt last s)

  -- a record that covered a page still does, and its home is as it was
  still_usable : (c : ℕ) → last ≤ c → (p : ℕ) → p < 64 → Usable n shows' (log n shows') low c p
  still_usable c a p h gone =
      let k = usable_kept n shows shows' low last p h g.old (λ q _. inl (g.homes q)) (f.homes p h) gone in
      record { serial = k.serial; from = k.from; to = omega (arith, k.to); page = k.page; whole = k.whole }

  -- what the log makes with the first of the items, which are there and end whole
  module _ (first : List Item) (there : Present low (log n shows') last first) where
    ends_there : 2 ≤ kind_after 4 first → 2 ≤ (log n shows' (last + length first)).kind
    ends_there whole =
        let kind : (log n shows' last).kind ≡ (log n shows last).kind = ap (λ (y : Entry). y.kind) last_same in
        omega (arith, kind_there low (log n shows') last first there, ends_whole (log n shows' last).kind first (omega (arith, f.ends)) whole)

    number_there : (log n shows' (last + length first)).ordinal ≡ ordinal_after ordinal first
    number_there =
        ordinal_there low (log n shows') last first there
        ∙ ap (λ (o : ℕ). ordinal_after o first) (ap (λ (y : Entry). y.ordinal) last_same ∙ f.number)

    makes_there : (i : ℕ) → i < 6144 → replayed (log n shows') low (last + length first + 1 - low) (from_home n shows') i ≡ put_in first i (memory i)
    makes_there i h =
        memory_there low (log n shows') last first (from_home n shows') i f.from there
        ∙ ap (λ (v : ℕ). put_in first i v)
        (makes_kept n shows shows' low last i h f.from f.unbroken g.old (λ q _. inl (g.homes q)) ∙ f.makes i h)

  pub grown_opens : (first rest : List Item) → Reach low (log n shows') last xs first rest → OpensTo n shows' low (last + length first) (ordinal_after ordinal first) (λ i. put_in first i (memory i))
  grown_opens first rest r =
      let c : ℕ = last + length first in
      let here : Here (log n shows') last = unbroken_to last (λ s a b. absurd (omega arith)) last f.from (omega arith) in
      let found = greatest_found (λ s. (log n shows' s).kind) last (length xs) here below_end in
      let top = found.1 in
      opens n shows' low c (ordinal_after ordinal first) (λ i. put_in first i (memory i))
      record {
        names =
            record {
              top = found.0;
              here = top.here;
              greatest = top.greatest;
              named = names_low found.0 top.from top.here;
            };
        mark = mark_same;
        run =
            record {
              last = r.stop;
              from = omega (arith, f.from);
              to = r.to;
              unbroken = unbroken_to r.stop r.unbroken;
              gap = r.gap;
              ends = ends_there first r.present r.whole;
              greatest = r.greatest;
            };
        homes = still_usable c (omega arith);
        number = number_there first r.present;
        makes = makes_there first r.present;
        named = λ s a h. names_low s (omega arith) h;
      }

  pub grown_firm : last + 1 - low + length xs ≤ n → Appendable last xs → Present low (log n shows') last xs → 2 ≤ kind_after 4 xs → Firm n shows' low (last + length xs) (ordinal_after ordinal xs) (λ i. put_in xs i (memory i))
  grown_firm room a there whole =
      let here : (s : ℕ) → last < s → s ≤ last + length xs → Here (log n shows') s =
      λ s h k.
      let x = item_of last xs s h k in
      subst (λ (y : Entry). 1 ≤ y.kind) (sym (there s x.0 x.1)) (at_fits last xs s x.0 a x.1).fits.known.0 in
      let unbroken = unbroken_to (last + length xs) here in
      record {
        some = f.some;
        from = omega (arith, f.from);
        near = omega (arith, f.from);
        mark = mark_same;
        unbroken = unbroken;
        ends = ends_there xs there whole;
        above = below_end;
        named = names_low (last + length xs) (omega arith) (unbroken (last + length xs) (omega (arith, f.from)) (omega arith));
        number = number_there xs there;
        homes = still_usable (last + length xs) (omega arith);
        makes = makes_there xs there;
      }
