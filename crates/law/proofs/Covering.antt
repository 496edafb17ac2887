-- The log once all dirty pages are covered: what it names, what it covers, and what its homes alone then make.
use Rattle.std.proofs.Common.{◌≡◌, ℕ, ◌+◌, ◌*◌, ◌/◌, ◌%◌, ◌<◌, ◌≤◌, Bool, true, false, cond, not, List, [], ◌∷◌, map, length, get_or, take, drop, replicate, sym, refl, ap, ◌∙◌, subst, inl, inr, ⊎_elim, arith}
use Rattle.std.proofs.lemmas.Bool.{cases_Bool, cases_lt}
use Rattle.std.proofs.lemmas.List.{length-map, get_or-take, get_or-drop, get_or_append_left}
use Rattle.arrayvec.specs.ArrayVec.{array_vec_len}
use Rattle.device.specs.Disk.{Shown, Among}
use Rattle.record.specs.Entry.{Entry}
use Rattle.journal.specs.Log.{log}
use Rattle.journal.specs.Opening.{Covers}
use Rattle.journal.specs.Pages.{names, covers, in_log}
use Rattle.durability.specs.Items.{Item, recorded}
use Rattle.durability.specs.Promises.{Covered, home_of}
use Rattle.durability.proofs.Growth.{Present, at_bounds, item_of}
use Rattle.transactions.specs.declared.state.State.{State}
use Rattle.transactions.specs.State.{live, spooled}
use Rattle.transactions.specs.Truncation.{in_items, is_dirty, is_due, said_of, due_pages, page_item, covered_to}
use Rattle.transactions.proofs.Flagging.{chosen_has, chosen_passes}
use Rattle.law.proofs.Pages.{long_page}
use Rattle.law.proofs.Says.{or_yes, or_left, or_right, log_yes, log_has, items_yes, items_has, page_at, at_page, names_page, covers_page}

-- The records of the pages that are due.
abbrev pub due_items : State → (ℕ → Shown) → List Item
due_items s shows = map (page_item s.log.ordinal s.image.memory) (due_pages s shows)

-- The serial of the last one that waits, and of the last page record.
abbrev pub flushed_to : State → ℕ
flushed_to s = s.log.last + array_vec_len s.spool

abbrev pub end_of : State → (ℕ → Shown) → ℕ
end_of s shows = covered_to s (length (due_pages s shows))

-- The log holds what it held, then what waited, and then records of the pages that were due.
pub record Holds (s : State) (shows : ℕ → Shown) (log' : ℕ → Entry) : Type 0 where
  pub old : (t : ℕ) → s.log.low ≤ t → t ≤ s.log.last → log' t ≡ log s.log.places shows t
  pub waited : Present s.log.low log' s.log.last (spooled s)
  pub paged : Present s.log.low log' (flushed_to s) (due_items s shows)

module _ (s : State) (shows : ℕ → Shown) (log' : ℕ → Entry) (h : Holds s shows log') (from : s.log.low ≤ s.log.last) where
  long : length (spooled s) ≡ array_vec_len s.spool
  long = length-map s.spool.items _

  many : length (due_items s shows) ≡ length (due_pages s shows)
  many = length-map (due_pages s shows) _

  -- what it names is dirty
  pub named_dirty : (p t : ℕ) → s.log.low ≤ t → t ≤ end_of s shows → names (log' t) p ≡ true → is_dirty s shows p ≡ true
  named_dirty p t a b is =
      let live? = in_log names (log s.log.places shows) s.log.low (live s) p in
      let waits? = in_items names (spooled s) p in
      ⊎_elim
      (λ (old : t < s.log.last + 1).
      or_left live? waits?
      (log_has names (log s.log.places shows) s.log.low (live s) p t a (omega arith)
      (ap (λ (e : Entry). names e p) (sym (h.old t a (omega arith))) ∙ is)))
      (λ (new : s.log.last + 1 ≤ t).
      ⊎_elim
      (λ (waited : t < flushed_to s + 1).
      let x = item_of s.log.last (spooled s) t (omega arith) (omega (arith, long)) in
      or_right live? waits?
      (items_has names s.log.last (spooled s) p t x.0 x.1 (ap (λ (e : Entry). names e p) (sym (h.waited t x.0 x.1)) ∙ is)))
      (λ (paged : flushed_to s + 1 ≤ t).
      let x = item_of (flushed_to s) (due_items s shows) t (omega arith) (omega (arith, many)) in
      let there = h.paged t x.0 x.1 in
      let page : x.0.page ≡ p = names_page (recorded s.log.low t x.0) p (ap (λ (e : Entry). names e p) (sym there) ∙ is) in
      let due = at_page s.log.ordinal s.image.memory (flushed_to s) (due_pages s shows) t x.0 x.1 in
      dirty_due p (subst (λ (q : ℕ). is_due s shows q ≡ true) page (chosen_passes (is_due s shows) 0 64 x.0.page due).1))
      (cases_lt t (flushed_to s + 1)))
      (cases_lt t (s.log.last + 1))
    where
      dirty_due : (p : ℕ) → is_due s shows p ≡ true → is_dirty s shows p ≡ true
      dirty_due p = go (is_dirty s shows p) (not (said_of covers s shows p))
        where
          go : (b c : Bool) → cond b c false ≡ true → b ≡ true
          go true c e = refl
          go false c e = e

  -- and it covers all that is dirty
  covered_page : (p : ℕ) → p < 64 → is_dirty s shows p ≡ true → Covers log' s.log.low (end_of s shows) p
  covered_page p small dirty =
      let live? = in_log covers (log s.log.places shows) s.log.low (live s) p in
      let waits? = in_items covers (spooled s) p in
      ⊎_elim
      (λ (covered : said_of covers s shows p ≡ true).
      ⊎_elim
      (λ (old : live? ≡ true).
      let t = log_yes covers (log s.log.places shows) s.log.low (live s) p old in
      let in-range : t.0 ≤ s.log.last = omega (arith, t.1, t.2) in
      let says = covers_page (log' t.0) p (ap (λ (e : Entry). covers e p) (h.old t.0 t.1 in-range) ∙ t.3) in
      record { serial = t.0; from = t.1; to = omega arith; page = says.0; whole = says.1 })
      (λ (waited : waits? ≡ true).
      let t = items_yes covers s.log.last (spooled s) p waited in
      let bounds = at_bounds s.log.last (spooled s) t.0 t.1 t.2 in
      let says = covers_page (log' t.0) p (ap (λ (e : Entry). covers e p) (h.waited t.0 t.1 t.2) ∙ t.3) in
      record { serial = t.0; from = omega (arith, bounds.0); to = omega (arith, bounds.1, long); page = says.0; whole = says.1 })
      (or_yes live? waits? covered))
      (λ (bare : said_of covers s shows p ≡ false).
      let due : is_due s shows p ≡ true = ap (λ (b : Bool). cond b (not (said_of covers s shows p)) false) dirty ∙ ap not bare in
      let t = page_at s.log.ordinal s.image.memory (flushed_to s) (due_pages s shows) p (chosen_has (is_due s shows) 0 64 p (omega arith) (omega arith) due) in
      let bounds = at_bounds (flushed_to s) (due_items s shows) t.0 (page_item s.log.ordinal s.image.memory p) t.1 in
      let there = h.paged t.0 (page_item s.log.ordinal s.image.memory p) t.1 in
      record {
        serial = t.0;
        from = omega (arith, bounds.0);
        to = omega (arith, bounds.1, many);
        page = ap (λ (e : Entry). e.page) there;
        whole = ap (λ (e : Entry). length e.bytes) there ∙ long_page s.log.ordinal s.image.memory s.image.whole p small;
      })
      (cases_Bool (said_of covers s shows p))

  pub covered_all : (n : ℕ) (shows' : ℕ → Shown) → log n shows' ≡ log' → (ps : List ℕ) → ((p : ℕ) → Among p ps → (p < 64) × (is_dirty s shows p ≡ true)) → Covered n shows' s.log.low (end_of s shows) ps
  covered_all n shows' is [] all = tt
  covered_all n shows' is (p ∷ ps) all =
      let one = all p (inl refl) in
      (one.0, subst (λ (l : ℕ → Entry). Covers l s.log.low (end_of s shows) p) (sym is) (covered_page p one.0 one.1), covered_all n shows' is ps (λ q k. all q (inr k)))

-- a home that holds a page has its bytes
pub home_byte : (m : List ℕ) (i : ℕ) → i < 6144 → length m ≡ 6144 → get_or (home_of m (i / 96)) (i % 96) 0 ≡ get_or m i 0
home_byte m i small whole =
    let p = i / 96 in
    let at : p * 96 + i % 96 ≡ i = omega arith in
    get_or_append_left (take 96 (drop (p * 96) m)) (replicate 32 0) 0 (i % 96) (omega (arith, long_page 0 m whole p (omega arith)))
    ∙ get_or-take 96 (drop (p * 96) m) (i % 96) 0 (omega arith)
    ∙ get_or-drop (p * 96) m (i % 96) 0
    ∙ ap (λ (j : ℕ). get_or m j 0) at
