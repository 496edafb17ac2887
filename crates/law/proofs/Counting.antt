-- How the number of transactions that are counted as kept stands with those that are kept.
use Rattle.std.proofs.Common.{◌≡◌, ℕ, zero, suc, ◌+◌, ◌≤◌, Bool, true, false, cond, List, [], ◌∷◌, ◌++◌, map, length, take, drop, sym, refl, ap, ◌∙◌, subst, inl, inr, ⊎_elim, arith}
use Rattle.std.proofs.lemmas.Bool.{both_ways, cases_Bool}
use Rattle.std.proofs.lemmas.List.{take-map, drop-map, map-append, length-map, length-append, length-take-le, take-append-le, drop-append-le, take-append-drop, take_all, drop_all}
use Rattle.device.specs.Trace.{Act}
use Rattle.law.specs.Transactions.{Transaction, records_of}
use Rattle.law.specs.Kept.{Entered, Settled, Kept, AllKept, NoneKept}
use Rattle.law.specs.Law.{transactions, later, found_again}
use Rattle.law.proofs.History.{History, settles, with_barrier}
use Rattle.law.proofs.Settling.{settled_more, settled_after, settled_barrier, settles_neither, AllSettled}

-- One that waits is not kept: no opening found it, and no barrier has succeeded since.
pub record Waits (x : Entered) : Type 0 where
  pub found : x.found ≡ false
  pub since : settles x.since ≡ false

abbrev pub AllWait : List Entered → Type 0
AllWait [] = Unit {0}
AllWait (x ∷ xs) = Waits x × AllWait xs

-- The first so many are kept, and the others wait.
pub record Counted (n count : ℕ) (xs : List Entered) : Type 0 where
  pub few : count ≤ length xs
  pub kept : AllKept n 0 (take count xs)
  pub waits : AllWait (drop count xs)

-- What is entered and counted.
abbrev pub past : ℕ → List Entered → History
past count xs = record { entered = transactions xs; kept = count }

-- those that wait are not kept

waits_not : (n o : ℕ) (x : Entered) → Waits x → Kept n o x → ⊥
waits_not n o x w (inl found) = both_ways x.found w.found found
waits_not n o x w (inr s) = both_ways (settles x.since) w.since (settled_barrier n (records_of (o + 1) x.transaction) x.since s)

pub wait_none : (n o : ℕ) (xs : List Entered) → AllWait xs → NoneKept n o xs
wait_none n o [] w = tt
wait_none n o (x ∷ xs) (first, more) = (waits_not n o x first, wait_none n (o + 1) xs more)

wait_drop : (k : ℕ) (xs : List Entered) → AllWait xs → AllWait (drop k xs)
wait_drop zero xs w = w
wait_drop (suc k) [] w = tt
wait_drop (suc k) (x ∷ xs) (_, w) = wait_drop k xs w

pub wait_further : (count k : ℕ) (xs : List Entered) → count ≤ k → AllWait (drop count xs) → AllWait (drop k xs)
wait_further zero k xs le w = wait_drop k xs w
wait_further (suc count) zero xs le w = absurd (omega arith)
wait_further (suc count) (suc k) [] le w = tt
wait_further (suc count) (suc k) (x ∷ xs) le w = wait_further count k xs (omega arith) w

wait_append : (xs ys : List Entered) → AllWait xs → AllWait ys → AllWait (xs ++ ys)
wait_append [] ys a b = b
wait_append (x ∷ xs) ys (first, a) b = (first, wait_append xs ys a b)

wait_later : (done : List Act) (xs : List Entered) → settles done ≡ false → AllWait xs → AllWait (map (later done) xs)
wait_later done [] none w = tt
wait_later done (x ∷ xs) none (first, w) =
    (record { found = first.found; since = settles_neither x.since done first.since none }, wait_later done xs none w)

-- those that are kept stay so

kept_later : (n o : ℕ) (done : List Act) (xs : List Entered) → AllKept n o xs → AllKept n o (map (later done) xs)
kept_later n o done [] k = tt
kept_later n o done (x ∷ xs) (first, k) =
    (⊎_elim (λ found. inl found) (λ s. inr (settled_more n (records_of (o + 1) x.transaction) x.since done s)) first, kept_later n (o + 1) done xs k)

kept_append : (n o : ℕ) (xs ys : List Entered) → AllKept n o xs → AllKept n (o + length xs) ys → AllKept n o (xs ++ ys)
kept_append n o [] ys a b = let e : o + 0 ≡ o = omega arith in subst (λ (k : ℕ). AllKept n k ys) e b
kept_append n o (x ∷ xs) ys (first, a) b =
    let e : o + length (x ∷ xs) ≡ o + 1 + length xs = omega arith in
    (first, kept_append n (o + 1) xs ys a (subst (λ (k : ℕ). AllKept n k ys) e b))

-- those that were settled lately are

kept_settled : (n o : ℕ) (done : List Act) (xs : List Entered) → AllSettled n o (transactions xs) done → AllKept n o (map (later done) xs)
kept_settled n o done [] s = tt
kept_settled n o done (x ∷ xs) (first, s) =
    (inr (settled_after n (records_of (o + 1) x.transaction) x.since done first), kept_settled n (o + 1) done xs s)

-- What a call newly enters, while these calls succeed.
abbrev pub Fresh : List Act → List Entered → Type 0
Fresh done [] = Unit {0}
Fresh done (x ∷ xs) = (x.since ≡ done) × (x.found ≡ false) × Fresh done xs

fresh_waits : (done : List Act) (xs : List Entered) → settles done ≡ false → Fresh done xs → AllWait xs
fresh_waits done [] none f = tt
fresh_waits done (x ∷ xs) none (since, found, f) = (record { found = found; since = ap settles since ∙ none }, fresh_waits done xs none f)

fresh_kept : (n o : ℕ) (done : List Act) (xs : List Entered) → Fresh done xs → AllSettled n o (transactions xs) done → AllKept n o xs
fresh_kept n o done [] f s = tt
fresh_kept n o done (x ∷ xs) (since, _, f) (first, s) =
    (inr (subst (λ (acts : List Act). Settled n (records_of (o + 1) x.transaction) acts) (sym since) first), fresh_kept n (o + 1) done xs f s)

all_left : (n o : ℕ) (ts us : List Transaction) (acts : List Act) → AllSettled n o (ts ++ us) acts → AllSettled n o ts acts
all_left n o [] us acts s = tt
all_left n o (t ∷ ts) us acts (first, s) = (first, all_left n (o + 1) ts us acts s)

all_right : (n o : ℕ) (ts us : List Transaction) (acts : List Act) → AllSettled n o (ts ++ us) acts → AllSettled n (o + length ts) us acts
all_right n o [] us acts s = let e : o ≡ o + 0 = omega arith in subst (λ (k : ℕ). AllSettled n k us acts) e s
all_right n o (t ∷ ts) us acts (_, s) =
    let e : o + 1 + length ts ≡ o + length (t ∷ ts) = omega arith in
    subst (λ (k : ℕ). AllSettled n k us acts) e (all_right n (o + 1) ts us acts s)

-- What is entered after a call: those that were, and those that it newly enters.
abbrev pub joined : List Act → List Entered → List Entered → List Entered
joined done xs vs = map (later done) xs ++ vs

pub transactions_joined : (done : List Act) (xs vs : List Entered) → transactions (joined done xs vs) ≡ transactions xs ++ transactions vs
transactions_joined done [] vs = refl
transactions_joined done (x ∷ xs) vs = ap (λ (ts : List Transaction). x.transaction ∷ ts) (transactions_joined done xs vs)

module _ (n count : ℕ) (xs vs : List Entered) (done : List Act) (c : Counted n count xs) (f : Fresh done vs) where
  abbrev next : List Entered
  next = joined done xs vs

  long : length next ≡ length xs + length vs
  long = omega (arith, length-append (map (later done) xs) vs, length-map xs (later done))

  -- without a barrier as many are counted
  unsettled : settles done ≡ false → Counted n count next
  unsettled none =
      let few : count ≤ length (map (later done) xs) = omega (arith, c.few, length-map xs (later done)) in
      record {
        few = omega (arith, c.few, long);
        kept =
            subst (λ (ys : List Entered). AllKept n 0 ys) (sym (take-append-le count (map (later done) xs) vs few ∙ take-map (later done) count xs))
            (kept_later n 0 done (take count xs) c.kept);
        waits =
            subst AllWait (sym (drop-append-le count (map (later done) xs) vs few ∙ ap (λ (ys : List Entered). ys ++ vs) (drop-map (later done) count xs)))
            (wait_append (map (later done) (drop count xs)) vs (wait_later done (drop count xs) none c.waits) (fresh_waits done vs none f));
      }

  -- with one all are
  module _ (s : AllSettled n count (transactions (drop count xs) ++ transactions vs) done) where
    all_kept : AllKept n 0 next
    all_kept =
        let first = take count xs in
        let rest = drop count xs in
        let old : AllKept n 0 (map (later done) first) = kept_later n 0 done first c.kept in
        let new : AllKept n count (map (later done) rest) = kept_settled n count done rest (all_left n count (transactions rest) (transactions vs) done s) in
        let size : 0 + length (map (later done) first) ≡ count = omega (arith, length-map first (later done), length-take-le count xs c.few) in
        let both : AllKept n 0 (map (later done) first ++ map (later done) rest) =
        kept_append n 0 (map (later done) first) (map (later done) rest) old (subst (λ (k : ℕ). AllKept n k (map (later done) rest)) (sym size) new) in
        let whole : map (later done) first ++ map (later done) rest ≡ map (later done) xs =
        sym (map-append (later done) first rest) ∙ ap (λ (ys : List Entered). map (later done) ys) (take-append-drop count xs) in
        let end : count + length (transactions rest) ≡ 0 + length (map (later done) xs) =
        omega (arith, length-map rest (λ (x : Entered). x.transaction), length-map xs (later done), length-take-le count xs c.few, split) in
        kept_append n 0 (map (later done) xs) vs (subst (λ (ys : List Entered). AllKept n 0 ys) whole both)
        (subst (λ (k : ℕ). AllKept n k vs) end (fresh_kept n (count + length (transactions rest)) done vs f (all_right n count (transactions rest) (transactions vs) done s)))
      where
        split : length (take count xs) + length (drop count xs) ≡ length xs
        split = sym (length-append (take count xs) (drop count xs)) ∙ ap length (take-append-drop count xs)

    settled_all : Counted n (length next) next
    settled_all =
        record {
          few = omega arith;
          kept = subst (λ (ys : List Entered). AllKept n 0 ys) (sym (take_all (length next) next (omega arith))) all_kept;
          waits = subst AllWait (sym (drop_all (length next) next (omega arith))) tt;
        }

  -- The count after a call.
  abbrev pub next_count : ℕ
  next_count = cond (settles done) (length next) count

  pub counted : (settles done ≡ true → AllSettled n count (transactions (drop count xs) ++ transactions vs) done) → Counted n next_count next
  counted s =
      ⊎_elim
      (λ (is : settles done ≡ true). subst (λ (b : Bool). Counted n (cond b (length next) count) next) (sym is) (settled_all (s is)))
      (λ (is : settles done ≡ false). subst (λ (b : Bool). Counted n (cond b (length next) count) next) (sym is) (unsettled is))
      (cases_Bool (settles done))

  -- In the numbers of the memory: with a barrier all that is then entered counts.
  pub past_is : with_barrier done (transactions xs ++ transactions vs) count ≡ past next_count next
  past_is =
      let same = transactions_joined done xs vs in
      let size : length (transactions next) ≡ length next = length-map next (λ (x : Entered). x.transaction) in
      ap (λ (ts : List Transaction). with_barrier done ts count) (sym same)
      ∙ ap (λ (k : ℕ). record { entered = transactions next; kept = cond (settles done) k count }) size

-- where all count, all are kept
pub counted_kept : (n k : ℕ) (xs : List Entered) → Counted n k xs → k ≡ length xs → AllKept n 0 xs
counted_kept n k xs c e = subst (λ (ys : List Entered). AllKept n 0 ys) (take_all k xs (omega arith)) c.kept

-- those that an opening finds

found_kept : (n o : ℕ) (xs : List Entered) → AllKept n o (map found_again xs)
found_kept n o [] = tt
found_kept n o (x ∷ xs) = (inl refl, found_kept n (o + 1) xs)

pub counted_found : (n k : ℕ) (xs : List Entered) → k ≤ length xs → Counted n k (map found_again (take k xs))
counted_found n k xs le =
    let ys = map found_again (take k xs) in
    let size : length ys ≡ k = length-map (take k xs) found_again ∙ length-take-le k xs le in
    record {
      few = omega arith;
      kept = subst (λ (zs : List Entered). AllKept n 0 zs) (sym (take_all k ys (omega arith))) (found_kept n 0 (take k xs));
      waits = subst AllWait (sym (drop_all k ys (omega arith))) tt;
    }

pub transactions_found : (xs : List Entered) → transactions (map found_again xs) ≡ transactions xs
transactions_found [] = refl
transactions_found (x ∷ xs) = ap (λ (ts : List Transaction). x.transaction ∷ ts) (transactions_found xs)
