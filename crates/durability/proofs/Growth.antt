-- A log that grew by items, some of which may be missing: how far it runs, and what it then makes.
use Rattle.std.proofs.Common.{◌≡◌, ℕ, suc, ◌+◌, ◌-◌, ◌<◌, ◌≤◌, ◌⊎◌, List, [], ◌∷◌, ◌++◌, length, sym, refl, ap, ◌∙◌, subst, inl, inr, ⊎_elim, arith}
use Rattle.std.proofs.lemmas.Bool.{cases_lt, cases_eq}
use Rattle.record.specs.Entry.{Entry}
use Rattle.record.specs.Good.{Fits}
use Rattle.journal.specs.Memory.{applied, replayed}
use Rattle.journal.specs.Opening.{Here}
use Rattle.durability.specs.Items.{Item, recorded, put_in, ordinal_after, kind_after, Appendable}

-- x is the item that gets serial s, if the items follow serial `last`.
abbrev pub At : ℕ → List Item → ℕ → Item → Type 0
At last [] s x = ⊥
At last (y ∷ ys) s x = ((s ≡ last + 1) × (x ≡ y)) ⊎ At (last + 1) ys s x

-- What a log says from `last` up once the items were appended there, and some perhaps not.
abbrev pub Maybe : ℕ → (ℕ → Entry) → ℕ → List Item → Type 0
Maybe low log last xs = (s : ℕ) → last < s → ((log s).kind ≡ 0) ⊎ ((x : Item) × At last xs s x × (log s ≡ recorded low s x))

-- Each of these items is there.
abbrev pub Present : ℕ → (ℕ → Entry) → ℕ → List Item → Type 0
Present low log last xs = (s : ℕ) (x : Item) → At last xs s x → log s ≡ recorded low s x

-- what is known of an item that may be appended
pub record Fit (last count s : ℕ) (x : Item) : Type 0 where
  pub after : last < s
  pub within : s ≤ last + count
  pub kind : x.kind ≤ 3
  pub fits : Fits x.kind x.page x.offset (length x.bytes)
  pub ordinal : x.ordinal < s

pub at_bounds : (last : ℕ) (xs : List Item) (s : ℕ) (x : Item) → At last xs s x → (last < s) × (s ≤ last + length xs)
at_bounds last [] s x h = absurd h
at_bounds last (y ∷ ys) s x (inl h) = (omega (arith, h.0), omega (arith, h.0))
at_bounds last (y ∷ ys) s x (inr h) = let b = at_bounds (last + 1) ys s x h in (omega arith, omega arith)

pub at_fits : (last : ℕ) (xs : List Item) (s : ℕ) (x : Item) → Appendable last xs → At last xs s x → Fit last (length xs) s x
at_fits last [] s x a h = absurd h
at_fits last (y ∷ ys) s x a (inl h) =
    record {
      after = omega (arith, h.0);
      within = omega (arith, h.0);
      kind = subst (λ (z : Item). z.kind ≤ 3) (sym h.1) a.0;
      fits = subst (λ (z : Item). Fits z.kind z.page z.offset (length z.bytes)) (sym h.1) a.1;
      ordinal = subst (λ (z : Item). z.ordinal < s) (sym h.1) (omega (arith, a.2, h.0));
    }
at_fits last (y ∷ ys) s x a (inr h) =
    let f = at_fits (last + 1) ys s x a.3 h in
    record { after = omega (arith, f.after); within = omega (arith, f.within); kind = f.kind; fits = f.fits; ordinal = f.ordinal }

-- one serial has one item
pub at_same : (last : ℕ) (xs : List Item) (s : ℕ) (x y : Item) → At last xs s x → At last xs s y → x ≡ y
at_same last [] s x y h k = absurd h
at_same last (z ∷ zs) s x y (inl h) (inl k) = h.1 ∙ sym k.1
at_same last (z ∷ zs) s x y (inl h) (inr k) = absurd (omega (arith, h.0, (at_bounds (last + 1) zs s y k).0))
at_same last (z ∷ zs) s x y (inr h) (inl k) = absurd (omega (arith, k.0, (at_bounds (last + 1) zs s x h).0))
at_same last (z ∷ zs) s x y (inr h) (inr k) = at_same (last + 1) zs s x y h k

-- a serial in the range has an item
pub item_of : (last : ℕ) (xs : List Item) (s : ℕ) → last < s → s ≤ last + length xs → (x : Item) × At last xs s x
item_of last [] s h k = absurd (omega arith)
item_of last (y ∷ ys) s h k =
    ⊎_elim
    (λ (e : s ≡ last + 1). (y, inl (e, refl)))
    (λ ne. let r = item_of (last + 1) ys s (omega arith) (omega arith) in (r.0, inr r.1))
    (cases_eq s (last + 1))

-- the first item, and the others
first_maybe : (low : ℕ) (log : ℕ → Entry) (last : ℕ) (x : Item) (xs : List Item) → Maybe low log last (x ∷ xs) → ((log (last + 1)).kind ≡ 0) ⊎ (log (last + 1) ≡ recorded low (last + 1) x)
first_maybe low log last x xs m =
    ⊎_elim
    (λ none. inl none)
    (λ (w : (y : Item) × At last (x ∷ xs) (last + 1) y × (log (last + 1) ≡ recorded low (last + 1) y)).
    inr (w.2 ∙ ap (λ (z : Item). recorded low (last + 1) z) (at_same last (x ∷ xs) (last + 1) w.0 x w.1 (inl (refl, refl)))))
    (m (last + 1) (omega arith))

later : (low : ℕ) (log : ℕ → Entry) (last : ℕ) (x : Item) (xs : List Item) → Maybe low log last (x ∷ xs) → Maybe low log (last + 1) xs
later low log last x xs m s h =
    ⊎_elim
    (λ none. inl none)
    (λ (w : (y : Item) × At last (x ∷ xs) s y × (log s ≡ recorded low s y)).
    ⊎_elim (λ (e : (s ≡ last + 1) × (w.0 ≡ x)). absurd (omega (arith, e.0))) (λ t. inr (w.0, t, w.2)) w.1)
    (m s (omega arith))

-- The log runs on from `last` as far as `stop`, and the last of these that ends a transaction is that of `first`.
pub record Reach (low : ℕ) (log : ℕ → Entry) (last : ℕ) (xs first rest : List Item) : Type 0 where
  pub all : first ++ rest ≡ xs
  pub whole : 2 ≤ kind_after 4 first
  pub stop : ℕ
  pub to : last + length first ≤ stop
  pub unbroken : (s : ℕ) → last < s → s ≤ stop → Here log s
  pub gap : (log (stop + 1)).kind ≡ 0
  pub greatest : (s : ℕ) → last + length first < s → s ≤ stop → (log s).kind ≤ 1
  pub present : Present low log last first

abbrev pub Reaches : ℕ → (ℕ → Entry) → ℕ → List Item → Type 0
Reaches low log last xs = (first : List Item) × (rest : List Item) × Reach low log last xs first rest

reach_none : (low : ℕ) (log : ℕ → Entry) (last : ℕ) (xs : List Item) → (log (last + 1)).kind ≡ 0 → Reaches low log last xs
reach_none low log last xs none = (
  [],
  xs,
  record {
    all = refl;
    whole = omega arith;
    stop = last;
    to = omega arith;
    unbroken = λ s a b. absurd (omega arith);
    gap = none;
    greatest = λ s a b. absurd (omega arith);
    present = λ s x h. absurd h;
  },
)

module _ (low : ℕ) (log : ℕ → Entry) (last : ℕ) (x : Item) (xs : List Item) (known : 1 ≤ x.kind) (here : log (last + 1) ≡ recorded low (last + 1) x) where
  kind_is : (log (last + 1)).kind ≡ x.kind
  kind_is = ap (λ (e : Entry). e.kind) here

  further : (stop : ℕ) → ((s : ℕ) → last + 1 < s → s ≤ stop → Here log s) → (s : ℕ) → last < s → s ≤ stop → Here log s
  further stop old s a b =
      ⊎_elim
      (λ (e : s ≡ last + 1). subst (λ (t : ℕ). Here log t) (sym e) (omega (arith, kind_is)))
      (λ ne. old s (omega arith) b)
      (cases_eq s (last + 1))

  with_first : (ys : List Item) → Present low log (last + 1) ys → Present low log last (x ∷ ys)
  with_first ys old s y (inl h) =
      ap log h.0 ∙ here ∙ ap (λ (t : ℕ). recorded low t x) (sym h.0) ∙ ap (λ (z : Item). recorded low s z) (sym h.1)
  with_first ys old s y (inr h) = old s y h

  -- the item itself ends a transaction, or a later one does
  reach_on : (first rest : List Item) → 2 ≤ kind_after x.kind first → Reach low log (last + 1) xs first rest → Reach low log last (x ∷ xs) (x ∷ first) rest
  reach_on first rest whole r =
      record {
        all = ap (λ (ys : List Item). x ∷ ys) r.all;
        whole = whole;
        stop = r.stop;
        to = omega (arith, r.to);
        unbroken = further r.stop r.unbroken;
        gap = r.gap;
        greatest = λ s a b. r.greatest s (omega arith) b;
        present = with_first first r.present;
      }

  -- neither does
  reach_part : (rest : List Item) → x.kind ≤ 1 → Reach low log (last + 1) xs [] rest → Reach low log last (x ∷ xs) [] (x ∷ xs)
  reach_part rest part r =
      record {
        all = refl;
        whole = omega arith;
        stop = r.stop;
        to = omega (arith, r.to);
        unbroken = further r.stop r.unbroken;
        gap = r.gap;
        greatest =
            λ s a b.
            ⊎_elim
            (λ (e : s ≡ last + 1). subst (λ (t : ℕ). (log t).kind ≤ 1) (sym e) (omega (arith, kind_is)))
            (λ ne. r.greatest s (omega arith) b)
            (cases_eq s (last + 1));
        present = λ s y h. absurd h;
      }

  reach_more : (first rest : List Item) → Reach low log (last + 1) xs first rest → Reaches low log last (x ∷ xs)
  reach_more [] rest r =
      ⊎_elim
      (λ (h : x.kind < 2). ([], x ∷ xs, reach_part rest (omega arith) r))
      (λ (h : 2 ≤ x.kind). (x ∷ [], rest, reach_on [] rest h r))
      (cases_lt x.kind 2)
  reach_more (y ∷ first) rest r = (x ∷ y ∷ first, rest, reach_on (y ∷ first) rest r.whole r)

-- every such log runs on so far and no farther
pub reaches : (low : ℕ) (log : ℕ → Entry) (last : ℕ) (xs : List Item) → Appendable last xs → Maybe low log last xs → Reaches low log last xs
reaches low log last [] a m =
    reach_none low log last [] (⊎_elim (λ none. none) (λ (w : (x : Item) × ⊥ × _). absurd w.1) (m (last + 1) (omega arith)))
reaches low log last (x ∷ xs) a m =
    ⊎_elim
    (λ none. reach_none low log last (x ∷ xs) none)
    (λ here.
    let r = reaches low log (last + 1) xs a.3 (later low log last x xs m) in
    reach_more low log last x xs a.1.known.0 here r.0 r.1 r.2)
    (first_maybe low log last x xs m)

-- what the last of the items that are there says

present_later : (low : ℕ) (log : ℕ → Entry) (last : ℕ) (x : Item) (xs : List Item) → Present low log last (x ∷ xs) → Present low log (last + 1) xs
present_later low log last x xs p s y h = p s y (inr h)

present_first : (low : ℕ) (log : ℕ → Entry) (last : ℕ) (x : Item) (xs : List Item) → Present low log last (x ∷ xs) → log (last + 1) ≡ recorded low (last + 1) x
present_first low log last x xs p = p (last + 1) x (inl (refl, refl))

pub ordinal_there : (low : ℕ) (log : ℕ → Entry) (last : ℕ) (xs : List Item) → Present low log last xs → (log (last + length xs)).ordinal ≡ ordinal_after (log last).ordinal xs
ordinal_there low log last [] p = let e : last + 0 ≡ last = omega arith in ap (λ (s : ℕ). (log s).ordinal) e
ordinal_there low log last (x ∷ xs) p =
    let e : last + length (x ∷ xs) ≡ last + 1 + length xs = omega arith in
    ap (λ (s : ℕ). (log s).ordinal) e
    ∙ ordinal_there low log (last + 1) xs (present_later low log last x xs p)
    ∙ ap (λ (y : Entry). ordinal_after y.ordinal xs) (present_first low log last x xs p)

pub kind_there : (low : ℕ) (log : ℕ → Entry) (last : ℕ) (xs : List Item) → Present low log last xs → (log (last + length xs)).kind ≡ kind_after (log last).kind xs
kind_there low log last [] p = let e : last + 0 ≡ last = omega arith in ap (λ (s : ℕ). (log s).kind) e
kind_there low log last (x ∷ xs) p =
    let e : last + length (x ∷ xs) ≡ last + 1 + length xs = omega arith in
    ap (λ (s : ℕ). (log s).kind) e
    ∙ kind_there low log (last + 1) xs (present_later low log last x xs p)
    ∙ ap (λ (y : Entry). kind_after y.kind xs) (present_first low log last x xs p)

-- where the items end whole after a mark, they do after any record that ends whole
pub ends_whole : (k : ℕ) (xs : List Item) → 2 ≤ k → 2 ≤ kind_after 4 xs → 2 ≤ kind_after k xs
ends_whole k [] h w = h
ends_whole k (x ∷ xs) h w = w

-- and what they make of the memory

replayed_next : (log : ℕ → Entry) (low last : ℕ) (base : ℕ → ℕ) (i : ℕ) → low ≤ last → replayed log low (last + 1 + 1 - low) base i ≡ applied (log (last + 1)) i (replayed log low (last + 1 - low) base i)
unfolding replayed
replayed_next log low last base i h =
    let e : last + 1 + 1 - low ≡ suc (last + 1 - low) = omega arith in
    let f : low + (last + 1 - low) ≡ last + 1 = omega arith in
    rw e (ap (λ (x : ℕ). applied (log x) i (replayed log low (last + 1 - low) base i)) f)

pub memory_there : (low : ℕ) (log : ℕ → Entry) (last : ℕ) (xs : List Item) (base : ℕ → ℕ) (i : ℕ) → low ≤ last → Present low log last xs → replayed log low (last + length xs + 1 - low) base i ≡ put_in xs i (replayed log low (last + 1 - low) base i)
memory_there low log last [] base i h p = let e : last + 0 ≡ last = omega arith in ap (λ (s : ℕ). replayed log low (s + 1 - low) base i) e
memory_there low log last (x ∷ xs) base i h p =
    let e : last + length (x ∷ xs) ≡ last + 1 + length xs = omega arith in
    ap (λ (s : ℕ). replayed log low (s + 1 - low) base i) e
    ∙ memory_there low log (last + 1) xs base i (omega arith) (present_later low log last x xs p)
    ∙ ap (λ (v : ℕ). put_in xs i v)
    (replayed_next log low last base i h ∙ ap (λ (y : Entry). applied y i (replayed log low (last + 1 - low) base i)) (present_first low log last x xs p))
