-- Records that are written and settled, in a list of device calls.
use Rattle.std.proofs.Common.{◌≡◌, ℕ, ◌+◌, true, false, List, [], ◌∷◌, ◌++◌, length, sym, refl, ap, ◌∙◌, subst, inl, inr, arith}
use Rattle.std.proofs.lemmas.List.{append_assoc}
use Rattle.std.proofs.lemmas.Bool.{both_ways}
use Rattle.device.specs.Trace.{Act, looked, wrote, settled, restarted}
use Rattle.durability.specs.Items.{Item, appending}
use Rattle.law.specs.Transactions.{Transaction, records_of, batch}
use Rattle.law.specs.Kept.{BarrierComes, Settles, Settled}
use Rattle.law.proofs.History.{settles}

-- calls that come later, or came earlier, take nothing back

comes_more : (acts more : List Act) → BarrierComes acts → BarrierComes (acts ++ more)
comes_more [] more h = absurd h
comes_more (looked ∷ acts) more h = comes_more acts more h
comes_more (wrote _ _ ∷ acts) more h = comes_more acts more h
comes_more (settled ∷ acts) more h = tt
comes_more (restarted ∷ acts) more h = absurd h

settles_more : (n : ℕ) (xs : List Item) (acts more : List Act) → Settles n xs acts → Settles n xs (acts ++ more)
settles_more n [] acts more h = comes_more acts more h
settles_more n (x ∷ xs) [] more h = absurd h
settles_more n (x ∷ xs) (a ∷ acts) more (inl (w, h)) = inl (w, settles_more n xs acts more h)
settles_more n (x ∷ xs) (a ∷ acts) more (inr (c, h)) = inr (c, settles_more n (x ∷ xs) acts more h)

pub settled_more : (n : ℕ) (xs : List Item) (acts more : List Act) → Settled n xs acts → Settled n xs (acts ++ more)
settled_more n xs acts more (before, after, all, h) =
    (before, after ++ more, sym (append_assoc before after more) ∙ ap (λ (ys : List Act). ys ++ more) all, settles_more n xs after more h)

pub settled_after : (n : ℕ) (xs : List Item) (earlier acts : List Act) → Settled n xs acts → Settled n xs (earlier ++ acts)
settled_after n xs earlier acts (before, after, all, h) =
    (earlier ++ before, after, append_assoc earlier before after ∙ ap (λ (ys : List Act). earlier ++ ys) all, h)

-- what is settled had a barrier

settles_right : (acts more : List Act) → settles more ≡ true → settles (acts ++ more) ≡ true
settles_right [] more h = h
settles_right (looked ∷ acts) more h = settles_right acts more h
settles_right (wrote _ _ ∷ acts) more h = settles_right acts more h
settles_right (settled ∷ acts) more h = refl
settles_right (restarted ∷ acts) more h = settles_right acts more h

comes_settles : (acts : List Act) → BarrierComes acts → settles acts ≡ true
comes_settles [] h = absurd h
comes_settles (looked ∷ acts) h = comes_settles acts h
comes_settles (wrote _ _ ∷ acts) h = comes_settles acts h
comes_settles (settled ∷ acts) h = refl
comes_settles (restarted ∷ acts) h = absurd h

settles_next : (a : Act) (acts : List Act) → settles acts ≡ true → settles (a ∷ acts) ≡ true
settles_next a acts h = settles_right (a ∷ []) acts h

settles_barrier : (n : ℕ) (xs : List Item) (acts : List Act) → Settles n xs acts → settles acts ≡ true
settles_barrier n [] acts h = comes_settles acts h
settles_barrier n (x ∷ xs) [] h = absurd h
settles_barrier n (x ∷ xs) (a ∷ acts) (inl (_, h)) = settles_next a acts (settles_barrier n xs acts h)
settles_barrier n (x ∷ xs) (a ∷ acts) (inr (_, h)) = settles_next a acts (settles_barrier n (x ∷ xs) acts h)

pub settled_barrier : (n : ℕ) (xs : List Item) (acts : List Act) → Settled n xs acts → settles acts ≡ true
settled_barrier n xs acts (before, after, all, h) =
    ap settles (sym all) ∙ settles_right before after (settles_barrier n xs after h)

-- two lists without a barrier have none together
pub settles_neither : (acts more : List Act) → settles acts ≡ false → settles more ≡ false → settles (acts ++ more) ≡ false
settles_neither [] more h k = k
settles_neither (looked ∷ acts) more h k = settles_neither acts more h k
settles_neither (wrote _ _ ∷ acts) more h k = settles_neither acts more h k
settles_neither (settled ∷ acts) more h k = absurd (both_ways true h refl)
settles_neither (restarted ∷ acts) more h k = settles_neither acts more h k

-- Each of these transactions, the first entered after o others, is settled in these calls.
abbrev pub AllSettled : ℕ → ℕ → List Transaction → List Act → Type 0
AllSettled n o [] acts = Unit {0}
AllSettled n o (t ∷ ts) acts = Settled n (records_of (o + 1) t) acts × AllSettled n (o + 1) ts acts

all_after : (n o : ℕ) (ts : List Transaction) (earlier acts : List Act) → AllSettled n o ts acts → AllSettled n o ts (earlier ++ acts)
all_after n o [] earlier acts h = tt
all_after n o (t ∷ ts) earlier acts (first, more) =
    (settled_after n (records_of (o + 1) t) earlier acts first, all_after n (o + 1) ts earlier acts more)

-- items that are written before a barrier are settled

own_settled : (n low last : ℕ) (xs : List Item) (acts : List Act) → BarrierComes acts → Settles n xs (appending n low last xs ++ acts)
own_settled n low last [] acts h = h
own_settled n low last (x ∷ xs) acts h = inl ((low, last + 1, refl), own_settled n low (last + 1) xs acts h)

appending_comes : (n low last : ℕ) (xs : List Item) (acts : List Act) → BarrierComes acts → BarrierComes (appending n low last xs ++ acts)
appending_comes n low last [] acts h = h
appending_comes n low last (x ∷ xs) acts h = appending_comes n low (last + 1) xs acts h

appending_append : (n low last : ℕ) (xs ys : List Item) (acts : List Act)
    → appending n low last (xs ++ ys) ++ acts ≡ appending n low last xs ++ (appending n low (last + length xs) ys ++ acts)
appending_append n low last [] ys acts =
    let e : last ≡ last + 0 = omega arith in
    ap (λ (k : ℕ). appending n low k ys ++ acts) e
appending_append n low last (x ∷ xs) ys acts =
    let e : last + 1 + length xs ≡ last + length (x ∷ xs) = omega arith in
    let rest = appending_append n low (last + 1) xs ys acts ∙ ap (λ (k : ℕ). appending n low (last + 1) xs ++ (appending n low k ys ++ acts)) e in
    cc

-- So are the transactions of a batch.
pub batch_settled : (n low last o : ℕ) (ts : List Transaction) (acts : List Act) → BarrierComes acts → AllSettled n o ts (appending n low last (batch o ts) ++ acts)
batch_settled n low last o [] acts h = tt
batch_settled n low last o (t ∷ ts) acts h =
    let own = records_of (o + 1) t in
    let more = batch (o + 1) ts in
    let next = last + length own in
    subst (λ (acts : List Act). AllSettled n o (t ∷ ts) acts) (sym (appending_append n low last own more acts)) (
      ([], appending n low last own ++ (appending n low next more ++ acts), refl, own_settled n low last own (appending n low next more ++ acts) (appending_comes n low next more acts h)),
      all_after n (o + 1) ts (appending n low last own) (appending n low next more ++ acts) (batch_settled n low next (o + 1) ts acts h),
    )

-- Where a barrier succeeded in a plan that begins by writing these items and settling them, that much was made.
pub first_made : (n low last : ℕ) (xs : List Item) (done rest more : List Act) → done ++ rest ≡ appending n low last xs ++ (settled ∷ more) → settles done ≡ true
    → (tail : List Act) × (done ≡ appending n low last xs ++ (settled ∷ tail))
first_made n low last xs [] rest more e h = absurd (both_ways false refl h)
first_made n low last [] (a ∷ done) rest more e h = (done, cc)
first_made n low last (x ∷ xs) (wrote s bytes ∷ done) rest more e h =
    let tail : done ++ rest ≡ appending n low (last + 1) xs ++ (settled ∷ more) = cc in
    let r = first_made n low (last + 1) xs done rest more tail h in
    (r.0, let again = r.1 in cc)
first_made n low last (x ∷ xs) (looked ∷ done) rest more e h = absurd (let z : ◌≡◌ {A = ℕ} 0 1 = cc in omega arith)
first_made n low last (x ∷ xs) (settled ∷ done) rest more e h = absurd (let z : ◌≡◌ {A = ℕ} 0 1 = cc in omega arith)
first_made n low last (x ∷ xs) (restarted ∷ done) rest more e h = absurd (let z : ◌≡◌ {A = ℕ} 0 1 = cc in omega arith)
