-- Parts of a list put over another, byte by byte.
use Rattle.std.proofs.Common.{◌≡◌, ℕ, ◌+◌, ◌-◌, ◌<◌, ◌≤◌, Bool, true, false, cond, List, [], ◌∷◌, length, get_or, take, drop, sym, refl, ap, ◌∙◌, ⊎_elim, arith, length-drop, length-take, rules}
use borrow.Rule.Slice.PartMut.{put_mid}
use Rattle.std.proofs.lemmas.List.{get_or-take, get_or-drop, ext_get_or, places}
use Rattle.std.proofs.lemmas.Bool.{cases_lt}
use Rattle.journal.specs.Memory.{overlaid}
use Rattle.journal.proofs.Overlay.{overlaid_below, overlaid_within, overlaid_above, put_overlaid}
use Rattle.image.specs.declared.run.Run.{Run}
use Rattle.image.specs.Runs.{run, Declared, is_declared}
use Rattle.image.proofs.Facts.{in_run, within_run, below_run, above_run, declared_true, declared_false, cases_declared}

-- byte i of s where the run has it, else v
abbrev pub over : Run → List ℕ → ℕ → ℕ → ℕ
over r s i v = cond (in_run r i) (get_or s i 0) v

part_length : (f n : ℕ) (s : List ℕ) → f + n ≤ length s → length (take n (drop f s)) ≡ n
part_length f n s h = simp (length-take, length-drop) (omega arith)

pub overlaid_part : (f n : ℕ) (s : List ℕ) (i v : ℕ) → f + n ≤ length s → overlaid f (take n (drop f s)) i v ≡ over (run f (f + n)) s i v
overlaid_part f n s i v h =
    let l = part_length f n s h in
    ⊎_elim
    (λ (k : i < f). overlaid_below f (take n (drop f s)) i v k ∙ sym (ap (λ b. cond b (get_or s i 0) v) (below_run (run f (f + n)) i k)))
    (λ (k : f ≤ i).
    ⊎_elim
    (λ (m : i < f + n).
    let e : f + (i - f) ≡ i = omega arith in
    overlaid_within f (take n (drop f s)) i v k (omega arith)
    ∙ get_or-take n (drop f s) (i - f) 0 (omega arith) ∙ get_or-drop f s (i - f) 0 ∙ ap (λ j. get_or s j 0) e
    ∙ sym (ap (λ b. cond b (get_or s i 0) v) (within_run (run f (f + n)) i k m)))
    (λ (m : f + n ≤ i). overlaid_above f (take n (drop f s)) i v k (omega arith) ∙ sym (ap (λ b. cond b (get_or s i 0) v) (above_run (run f (f + n)) i m)))
    (cases_lt i (f + n)))
    (cases_lt i f)

-- a part copied from one list to its place in another
pub copied_part : (r : Run) (s m : List ℕ) (i : ℕ) → r.from ≤ r.to → r.to ≤ length s → r.to ≤ length m
    → get_or (put_mid r.from (r.to - r.from) m (take (r.to - r.from) (drop r.from s))) i 0 ≡ over r s i (get_or m i 0)
copied_part r s m i h ls lm =
    let e : r.from + (r.to - r.from) ≡ r.to = omega arith in
    let l = part_length r.from (r.to - r.from) s (omega arith) in
    ap (λ (n : ℕ). get_or (put_mid r.from n m (take (r.to - r.from) (drop r.from s))) i 0) (sym l)
    ∙ put_overlaid r.from (take (r.to - r.from) (drop r.from s)) m (omega arith) i
    ∙ overlaid_part r.from (r.to - r.from) s i (get_or m i 0) (omega arith)
    ∙ ap (λ (n : ℕ). over (run r.from n) s i (get_or m i 0)) e

-- a run alone is a run
pub over_is : (r : Run) (s : List ℕ) (i v : ℕ) → cond (is_declared (r ∷ []) i) (get_or s i 0) v ≡ over r s i v
over_is r s i v = go (in_run r i)
  where
    go : (b : Bool) → cond (cond b true false) (get_or s i 0) v ≡ cond b (get_or s i 0) v
    go true = refl
    go false = refl

-- byte i once the bytes of these runs are copied from s, if it was v before
abbrev pub copied : List Run → List ℕ → ℕ → ℕ → ℕ
copied [] s i v = v
copied (r ∷ rs) s i v = copied rs s i (over r s i v)

again : (a b : Bool) (x v : ℕ) → cond b x (cond a x v) ≡ cond (cond a true b) x v
again true true x v = refl
again true false x v = refl
again false true x v = refl
again false false x v = refl

-- in any order, it is the bytes that are declared
pub over_declared : (r : Run) (rs : List Run) (s : List ℕ) (i v : ℕ) → cond (is_declared rs i) (get_or s i 0) (over r s i v) ≡ cond (is_declared (r ∷ rs) i) (get_or s i 0) v
over_declared r rs s i v = again (in_run r i) (is_declared rs i) (get_or s i 0) v

pub copied_is : (rs : List Run) (s : List ℕ) (i v : ℕ) → copied rs s i v ≡ cond (is_declared rs i) (get_or s i 0) v
copied_is [] s i v = refl
copied_is (r ∷ rs) s i v = copied_is rs s i (over r s i v) ∙ over_declared r rs s i v

-- lists that differed in declared bytes alone are the same once these are copied
pub settled : (rs : List Run) (s t u : List ℕ) → length u ≡ length s → ((i : ℕ) → (Declared rs i → ⊥) → get_or t i 0 ≡ get_or s i 0)
    → ((i : ℕ) → get_or u i 0 ≡ cond (is_declared rs i) (get_or s i 0) (get_or t i 0)) → u ≡ s
settled rs s t u l same made =
    ext_get_or 0 u s l
    (λ i h.
    made i
    ∙ ⊎_elim
    (λ d. ap (λ b. cond b (get_or s i 0) (get_or t i 0)) (declared_true rs i d))
    (λ n. ap (λ b. cond b (get_or s i 0) (get_or t i 0)) (declared_false rs i n) ∙ same i n)
    (cases_declared rs i))

-- bytes written over a part
pub written_byte : (start n : ℕ) (bytes ys m : List ℕ) → n ≡ length bytes → ys ≡ bytes → start + length bytes ≤ length m
    → (i : ℕ) → get_or (put_mid start n m ys) i 0 ≡ overlaid start bytes i (get_or m i 0)
written_byte start n bytes ys m e f h i =
    ap (λ (k : ℕ). get_or (put_mid start k m ys) i 0) e
    ∙ ap (λ (zs : List ℕ). get_or (put_mid start (length bytes) m zs) i 0) f ∙ put_overlaid start bytes m h i

pub written_length : (start n : ℕ) (bytes ys m : List ℕ) → n ≡ length bytes → ys ≡ bytes → start + length bytes ≤ length m → length (put_mid start n m ys) ≡ length m
written_length start n bytes ys m e f h =
    ap (λ (k : ℕ). length (put_mid start k m ys)) e ∙ ap (λ (zs : List ℕ). length (put_mid start (length bytes) m zs)) f ∙ put start bytes m h
  where
    put : (start : ℕ) (bytes m : List ℕ) → start + length bytes ≤ length m → length (put_mid start (length bytes) m bytes) ≡ length m
    put start bytes m h = search (rules, places)

-- bytes that are not written over stay
pub unwritten : (start : ℕ) (bytes : List ℕ) (i v : ℕ) → (start ≤ i → i < start + length bytes → ⊥) → overlaid start bytes i v ≡ v
unwritten start bytes i v h =
    ⊎_elim
    (λ k. overlaid_below start bytes i v k)
    (λ k. ⊎_elim (λ m. absurd (h k m)) (λ m. overlaid_above start bytes i v k m) (cases_lt i (start + length bytes)))
    (cases_lt i start)
