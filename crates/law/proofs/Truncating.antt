-- What a truncation leaves: all that is entered is kept, and the log begins anew; or, where power cuts it, nothing
-- kept is lost. Each stage ends in a barrier, and the next begins from what then stands.
use Rattle.std.proofs.Common.{◌≡◌, ℕ, ◌+◌, ◌-◌, ◌/◌, ◌%◌, ◌^◌, ◌<◌, ◌≤◌, true, false, eqb, ◌≢◌, List, [], ◌∷◌, length, get_or, take, None, sym, refl, ap, ◌∙◌, subst, ⊎_elim, arith}
use Rattle.arrayvec.specs.ArrayVec.{array_vec_len}
use Rattle.std.proofs.lemmas.Bool.{cases_Bool, cases_lt, both_ways, eqb-true, cond-true, cond-false, ltb-false, not-false}
use Rattle.std.proofs.lemmas.List.{length-map, take_all}
use Rattle.device.specs.Disk.{Disk, Plate, Shown, spoiled, holds}
use Rattle.device.specs.Meaning.{Quiet}
use Rattle.device.specs.Trace.{Act, Done, CutShort}
use Rattle.device.proofs.Plans.{done_plate}
use Rattle.journal.specs.Log.{log}
use Rattle.journal.specs.Memory.{byte_of, from_home}
use Rattle.journal.proofs.Places.{kept}
use Rattle.journal.specs.Pages.{names}
use Rattle.durability.specs.Items.{Item, put_in, ordinal_after}
use Rattle.durability.specs.Promises.{BeforeItems, BeforeHomes, BeforeMark, AtHome}
use Rattle.durability.specs.Standing.{Firm, OpensTo, Choice}
use Rattle.durability.proofs.Growth.{At, Present, at_bounds}
use Rattle.durability.proofs.Appends.{appended, appended_says, append_cut}
use Rattle.durability.proofs.Homings.{homed, home_cut}
use Rattle.recovery.specs.Opening.{Divides}
use Rattle.image.specs.declared.run.Run.{Run}
use Rattle.image.specs.Runs.{Declared}
use Rattle.image.specs.Calls.{declared}
use Rattle.image.proofs.Cutting.{runs_lay, runs_fit, runs_none}
use Rattle.transactions.specs.declared.state.State.{State}
use Rattle.transactions.specs.Calls.{writing}
use Rattle.transactions.specs.Rows.{first_fit, off, busy, serials}
use Rattle.transactions.specs.State.{live, spooled}
use Rattle.transactions.specs.Truncation.{is_dirty, is_due, dirty_pages, due_pages, crowded, truncate_rows, flushing, covering, going_home}
use Rattle.transactions.proofs.Flagging.{chosen_has, chosen_passes, chosen_few}
use Rattle.law.specs.Transactions.{made_of}
use Rattle.law.proofs.History.{History, Resting, Safe}
use Rattle.law.proofs.Committing.{all_kept, no_fit, long_spool, none_spooled, empty_kept, flush_firm, flush_says}
use Rattle.law.proofs.Pages.{Inside, inside_all, appendable_pages, kind_pages, ordinal_pages, put_pages, first_pages}
use Rattle.law.proofs.Says.{unnamed, replayed_clean, names_of}
use Rattle.law.proofs.Covering.{due_items, flushed_to, end_of, Holds, named_dirty, covered_all, home_byte}

-- a log says the same where its numbers and its memory are given otherwise

pub firm_as : (n : ℕ) (shows : ℕ → Shown) (low last o last' o' : ℕ) (f g : ℕ → ℕ) → last ≡ last' → o ≡ o' → ((i : ℕ) → i < 6144 → f i ≡ g i) → Firm n shows low last o f → Firm n shows low last' o' g
firm_as n shows low last o last' o' f g end number same w =
    subst (λ (k : ℕ). Firm n shows low k o' g) end
    (subst (λ (k : ℕ). Firm n shows low last k g) number
    (record {
      some = w.some;
      from = w.from;
      near = w.near;
      mark = w.mark;
      unbroken = w.unbroken;
      ends = w.ends;
      above = w.above;
      named = w.named;
      number = w.number;
      homes = w.homes;
      makes = λ i small. w.makes i small ∙ same i small;
    }))

opens_as : (n : ℕ) (shows : ℕ → Shown) (low c o o' : ℕ) (f g : ℕ → ℕ) → o ≡ o' → ((i : ℕ) → i < 6144 → f i ≡ g i) → OpensTo n shows low c o f → OpensTo n shows low c o' g
opens_as n shows low c o o' f g number same w =
    subst (λ (k : ℕ). OpensTo n shows low c k g) number
    (record { count = w.count; bytes = w.bytes; finds = w.finds; agrees = λ i small. w.agrees i small ∙ same i small; named = w.named })

-- What the rows of a truncation let through.
pub record Clear (s : State) (due : ℕ) : Type 0 where
  pub on : s.on ≡ true
  pub free : s.busy ≡ false
  pub enough : s.log.last + array_vec_len s.spool + 65 < 2 ^ 63
  pub places : live s + array_vec_len s.spool + due + 1 ≤ s.log.places

pub clear : (s : State) (due : ℕ) → first_fit (truncate_rows s due) ≡ None → Clear s due
clear s due h =
    let a = no_fit (off s) (busy s ∷ serials s 0 ∷ crowded s due ∷ []) h in
    let b = no_fit (busy s) (serials s 0 ∷ crowded s due ∷ []) a.1 in
    let c = no_fit (serials s 0) (crowded s due ∷ []) b.1 in
    let d = no_fit (crowded s due) [] c.1 in
    record {
      on = not-false s.on a.0;
      free = b.0;
      enough = omega (arith, ltb-false (2 ^ 63 - 1) (s.log.last + array_vec_len s.spool + 0 + 65) c.0);
      places = ltb-false s.log.places (live s + array_vec_len s.spool + due + 1) d.0;
    }

module _ (s : State) (d : Disk) (h : History) (r : Resting s.log.places d s h) (calm : declared s.image ≡ []) (free : Clear s (length (due_pages s d.shows))) where
  abbrev n : ℕ
  n = s.log.places

  abbrev low : ℕ
  low = s.log.low

  abbrev memory : ℕ → ℕ
  memory i = get_or s.image.memory i 0

  abbrev due : List ℕ
  due = due_pages s d.shows

  abbrev dirty : List ℕ
  dirty = dirty_pages s d.shows

  abbrev items : List Item
  items = due_items s d.shows

  -- A quiet device holds this in a firm log up to here.
  pub record Stands (e : Disk) (last : ℕ) : Type 0 where
    pub firm : Firm n e.shows low last s.log.ordinal memory
    pub quiet : Quiet e
    pub plate : e.plate ≡ d.plate

  -- with nothing declared the memory is as at begin
  pub memory_is : (i : ℕ) → i < 6144 → memory i ≡ made_of h.entered i
  memory_is i small = s.image.same i (λ k. subst (λ (rs : List Run). Declared rs i) calm k) ∙ r.before i small

  many : length items ≡ length due
  many = length-map due _

  inside : Inside due
  inside = inside_all due (λ p k. omega (arith, (chosen_passes (is_due s d.shows) 0 64 p k).0))

  few : length due ≤ 64
  few = chosen_few (is_due s d.shows) 0 64

  from : low ≤ s.log.last
  from = r.firm.from

  -- what all of these open to is safe, with all kept
  pub recovers : (e : Disk) → e.plate ≡ d.plate → ((shows : ℕ → Shown) → Choice e shows → (at : ℕ) × (c : ℕ) × OpensTo n shows at c s.log.ordinal memory) → Safe n e (all_kept h.entered)
  recovers e plate opens =
      record {
        divides = subst (λ (p : Plate). Divides p.sectors n) (sym plate) r.divides;
        proper = r.proper;
        opens = λ shows choice.
            let o = opens shows choice in
            record {
              low = o.0;
              c = o.1;
              found = length h.entered;
              at_least = omega arith;
              at_most = omega arith;
              opens =
                  opens_as n shows o.0 o.1 s.log.ordinal (length h.entered) memory (made_of (take (length h.entered) h.entered)) r.number
                  (λ i small. memory_is i small ∙ ap (λ ts. made_of ts i) (sym (take_all (length h.entered) h.entered (omega arith))))
                  o.2;
            };
      }

  -- what waits is written

  pub record Flushed (m : Disk) : Type 0 where
    pub stands : Stands m (flushed_to s)
    pub old : (t : ℕ) → low ≤ t → t ≤ s.log.last → log n m.shows t ≡ log n d.shows t
    pub waited : Present low (log n m.shows) s.log.last (spooled s)

  none_flushed : (m : Disk) → array_vec_len s.spool ≡ 0 → m ≡ d → Flushed m
  none_flushed m none same = subst Flushed (sym same) here
    where
      here : Flushed d
      here =
          let all = empty_kept runs_lay runs_fit runs_none n d s h r none in
          record {
            stands = record {
              firm =
                  firm_as n d.shows low s.log.last h.kept (flushed_to s) s.log.ordinal (made_of (take h.kept h.entered)) memory (omega arith) (omega (arith, r.number))
                  (λ i small. ap (λ ts. made_of ts i) (take_all h.kept h.entered (omega arith)) ∙ sym (memory_is i small))
                  r.firm;
              quiet = r.quiet;
              plate = refl;
            };
            old = λ t a b. refl;
            waited = λ t x at. absurd (subst (λ (xs : List Item). At s.log.last xs t x) (none_spooled s none) at);
          }

  some_flushed : (m : Disk) → Done d (writing s (spooled s)) m → Flushed m
  some_flushed m done =
      let w = flush_firm runs_lay runs_fit runs_none n d s h r m done in
      let says = flush_says runs_lay runs_fit runs_none n d s h r m done in
      record {
        stands = record {
          firm =
              firm_as n m.shows low (flushed_to s) (length h.entered) (flushed_to s) s.log.ordinal (made_of h.entered) memory refl (sym r.number)
              (λ i small. sym (memory_is i small))
              w.0;
          quiet = w.1;
          plate = done_plate d m (writing s (spooled s)) done;
        };
        old = says.0;
        waited = says.1;
      }

  pub flushed : (m : Disk) → Done d (flushing s) m → Flushed m
  flushed m done =
      let none? = eqb (array_vec_len s.spool) 0 in
      let acts = writing s (spooled s) in
      ⊎_elim
      (λ (e : none? ≡ true).
      none_flushed m (eqb-true (array_vec_len s.spool) 0 e) (subst (λ (plan : List Act). Done d plan m) (cond-true none? [] acts e) done))
      (λ (e : none? ≡ false). some_flushed m (subst (λ (plan : List Act). Done d plan m) (cond-false none? [] acts e) done))
      (cases_Bool none?)

  -- then the due pages are covered
  module _ (m : Disk) (w : Flushed m) where
    before_items : BeforeItems n m low (flushed_to s) s.log.ordinal memory items
    before_items =
        record {
          firm = w.stands.firm;
          quiet = w.stands.quiet;
          room = omega (arith, free.places, many, from);
          serials = omega (arith, free.enough, many, few);
          appendable = appendable_pages s.log.ordinal s.image.memory s.image.whole (flushed_to s) due s.numbered inside;
        }

    pub covered : (m2 : Disk) → Done m (covering s due) m2 → Stands m2 (end_of s d.shows) × Holds s d.shows (log n m2.shows)
    covered m2 done =
        let b = before_items in
        let one = appended n m m2 low (flushed_to s) s.log.ordinal memory items b (kind_pages s.log.ordinal s.image.memory s.image.whole 4 due (omega arith)) done in
        let says = appended_says n m m2 low (flushed_to s) s.log.ordinal memory items b done in (
          record {
            firm =
                firm_as n m2.shows low (flushed_to s + length items) (ordinal_after s.log.ordinal items) (end_of s d.shows) s.log.ordinal (λ i. put_in items i (memory i)) memory
                (omega (arith, many)) (ordinal_pages s.log.ordinal s.image.memory s.image.whole due)
                (λ i small. put_pages s.log.ordinal s.image.memory s.image.whole due i inside)
                one.0;
            quiet = one.1;
            plate = done_plate m m2 (covering s due) done ∙ w.stands.plate;
          },
          record {
            old = λ t a b. says.0 t a (omega arith) ∙ w.old t a b;
            waited = λ t x at.
                let bounds = at_bounds s.log.last (spooled s) t x at in
                says.0 t (omega (arith, bounds.0, from)) (omega (arith, bounds.1, long_spool s)) ∙ w.waited t x at;
            paged = says.1;
          },
        )

    pub cover_cut : (o : ℕ) (e : Disk) → CutShort m (covering s due) o e → (shows : ℕ → Shown) → Choice e shows → (at : ℕ) × (c : ℕ) × OpensTo n shows at c s.log.ordinal memory
    cover_cut o e cut shows choice =
        let k = append_cut n m e o low (flushed_to s) s.log.ordinal memory items before_items cut shows choice in
        let first = k.0 in
        let p = first_pages s.log.ordinal s.image.memory s.image.whole due first k.1 inside k.2.all in (
          low,
          flushed_to s + length first,
          opens_as n shows low (flushed_to s + length first) (ordinal_after s.log.ordinal first) s.log.ordinal (λ i. put_in first i (memory i)) memory
              (ap (λ xs. ordinal_after s.log.ordinal xs) p.2 ∙ ordinal_pages s.log.ordinal s.image.memory s.image.whole p.0)
              (λ i small. ap (λ xs. put_in xs i (memory i)) p.2 ∙ put_pages s.log.ordinal s.image.memory s.image.whole p.0 i p.1)
              k.3,
        )

  -- then homes are written
  module _ (m : Disk) (w : Stands m (end_of s d.shows)) (held : Holds s d.shows (log n m.shows)) where
    before_homes : BeforeHomes n m low (end_of s d.shows) s.log.ordinal s.image.memory dirty
    before_homes =
        record {
          firm = w.firm;
          quiet = w.quiet;
          whole = s.image.whole;
          covered =
              covered_all s d.shows (log n m.shows) held from n m.shows refl dirty
              (λ p k. let c = chosen_passes (is_dirty s d.shows) 0 64 p k in (omega (arith, c.0), c.1));
        }

    -- a page that is not dirty has all its bytes at home
    clean_home : (i : ℕ) → i < 6144 → is_dirty s d.shows (i / 96) ≡ false → from_home n m.shows i ≡ memory i
    clean_home i small clean =
        let end = end_of s d.shows in
        sym (replayed_clean (log n m.shows) low (end + 1 - low) (from_home n m.shows) i
        (λ t v a b.
        let here = w.firm.unbroken t a (omega arith) in
        unnamed n t (log n m.shows t) i v (kept n m.shows t here)
        (⊎_elim
        (λ (is : names (log n m.shows t) (i / 96) ≡ true).
        absurd (both_ways (is_dirty s d.shows (i / 96)) clean (named_dirty s d.shows (log n m.shows) held from (i / 96) t a (omega arith) is)))
        (λ no. no)
        (cases_Bool (names (log n m.shows t) (i / 96))))))
        ∙ w.firm.makes i small

    clean_readable : (p : ℕ) → p < 64 → is_dirty s d.shows p ≡ false → m.shows (n + p) ≢ spoiled
    clean_readable p small clean gone =
        let c = w.firm.homes p small gone in
        let l = log n m.shows c.serial in
        let k = kept n m.shows c.serial (w.firm.unbroken c.serial c.from c.to) in
        let part : l.kind < 4 = ⊎_elim (λ (lt : l.kind < 4). lt) (λ (ge : 4 ≤ l.kind). absurd (omega (arith, c.whole, k.bare (omega (arith, k.known.1))))) (cases_lt l.kind 4) in
        both_ways (is_dirty s d.shows p) clean
        (named_dirty s d.shows (log n m.shows) held from p c.serial c.from c.to (names_of l p c.page k.known.0 part))

    -- once they are, the homes alone make the memory
    pub at_home : (m2 : Disk) → Done m (going_home s dirty) m2 → Stands m2 (end_of s d.shows) × BeforeMark n m2 low (end_of s d.shows) s.log.ordinal memory
    at_home m2 done =
        let end = end_of s d.shows in
        let g = homed n m m2 low end s.log.ordinal s.image.memory dirty before_homes done in
        let there : (p : ℕ) → p < 64 → is_dirty s d.shows p ≡ true → AtHome n m2.shows s.image.memory p =
        λ p small is. g.2 p small (chosen_has (is_dirty s d.shows) 0 64 p (omega arith) (omega arith) is) in
        let else : (p : ℕ) → p < 64 → is_dirty s d.shows p ≡ false → m2.shows (n + p) ≡ m.shows (n + p) =
        λ p small is. g.3 p small (λ k. both_ways (is_dirty s d.shows p) is (chosen_passes (is_dirty s d.shows) 0 64 p k).1) in (
          record { firm = g.0; quiet = g.1; plate = done_plate m m2 (going_home s dirty) done ∙ w.plate },
          record {
            firm = g.0;
            quiet = g.1;
            room = omega (arith, free.places, from);
            serials = omega (arith, free.enough, few);
            homes = λ i small.
                ⊎_elim
                (λ (is : is_dirty s d.shows (i / 96) ≡ true).
                ap (λ x. byte_of x (i % 96)) (there (i / 96) (omega arith) is) ∙ home_byte s.image.memory i small s.image.whole)
                (λ (is : is_dirty s d.shows (i / 96) ≡ false).
                ap (λ x. byte_of x (i % 96)) (else (i / 96) (omega arith) is) ∙ clean_home i small is)
                (cases_Bool (is_dirty s d.shows (i / 96)));
            readable = λ p small gone.
                ⊎_elim
                (λ (is : is_dirty s d.shows p ≡ true). not_holds (sym (there p small is) ∙ gone))
                (λ (is : is_dirty s d.shows p ≡ false). clean_readable p small is (sym (else p small is) ∙ gone))
                (cases_Bool (is_dirty s d.shows p));
          },
        )
      where
        not_holds : {bytes : List ℕ} → holds bytes ≡ spoiled → ⊥
        not_holds e = let z : ◌≡◌ {A = ℕ} 0 1 = cc in omega arith

    pub home_short : (o : ℕ) (e : Disk) → CutShort m (going_home s dirty) o e → (shows : ℕ → Shown) → Choice e shows → (at : ℕ) × (c : ℕ) × OpensTo n shows at c s.log.ordinal memory
    home_short o e cut shows choice =
        (low, end_of s d.shows, home_cut n m e o low (end_of s d.shows) s.log.ordinal s.image.memory dirty before_homes cut shows choice)
