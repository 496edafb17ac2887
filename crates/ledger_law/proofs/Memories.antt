-- The memory that transactions make of zeros.
use Rattle.std.proofs.Common.{◌≡◌, ℕ, ◌<◌, ◌≤◌, Bool, true, false, cond, leb, List, [], ◌∷◌, ◌++◌, length, get_or, take, zero, suc, sym, refl, ap, ◌∙◌, inl, inr, ltb, ⊎_elim, arith}
use mathlib.Core.Path.{fun_ext}
use Rattle.std.proofs.lemmas.Bool.{cond-true, cond-false, le-leb, le-ltb, lt-ltb, both_ways, cases_lt, cases_Bool}
use Rattle.std.proofs.lemmas.List.{get_or_past}
use Rattle.image.specs.declared.run.Run.{Run}
use Rattle.image.specs.Runs.{Declared, is_declared, Inside}
use Rattle.image.specs.Calls.{declared}
use Rattle.image.proofs.Facts.{inside_out}
use Rattle.transactions.specs.declared.state.State.{State}
use Rattle.law.specs.Transactions.{Transaction, applied_all, made_of, changed}
use Rattle.law.specs.Law.{own_transaction}
use Rattle.book.specs.Layout.{byte_in}

-- Each of these declared bytes of the memory alone.
abbrev pub AllInside : List Transaction → Type 0
AllInside [] = Unit {0}
AllInside (t ∷ ts) = Inside t.runs × AllInside ts

pub inside_append : (ts us : List Transaction) → AllInside ts → AllInside us → AllInside (ts ++ us)
inside_append [] us a b = b
inside_append (t ∷ ts) us (p, a) b = (p, inside_append ts us a b)

pub inside_take : (j : ℕ) (ts : List Transaction) → AllInside ts → AllInside (take j ts)
inside_take zero ts a = tt
inside_take (suc j) [] a = tt
inside_take (suc j) (t ∷ ts) (p, a) = (p, inside_take j ts a)

pub own_inside : (s : State) → Inside (own_transaction s).runs
own_inside s = inside_out (declared s.image) s.image.runs.inside

-- no run reaches past the memory
outside : (rs : List Run) (i : ℕ) → Inside rs → 6144 ≤ i → is_declared rs i ≡ false
outside [] i h far = refl
outside (r ∷ rs) i (here, h) far = rw (le-ltb i r.to (omega (arith, here, far))) (neither (leb r.from i) (is_declared rs i) ∙ outside rs i h far)
  where
    neither : (b c : Bool) → cond (cond b false false) true c ≡ c
    neither true c = refl
    neither false c = refl

past : (ts : List Transaction) (i v : ℕ) → AllInside ts → 6144 ≤ i → applied_all ts i v ≡ v
past [] i v all far = refl
past (t ∷ ts) i v (inside, all) far =
    ap (λ (w : ℕ). applied_all ts i w) (cond-false (is_declared t.runs i) (get_or t.memory i 0) v (outside t.runs i inside far))
    ∙ past ts i v all far

-- So a memory that agrees with it does so past its end, where both are zeros.
pub same_memory : (memory : List ℕ) (ts : List Transaction) → length memory ≡ 6144 → AllInside ts → ((i : ℕ) → i < 6144 → get_or memory i 0 ≡ made_of ts i) → byte_in memory ≡ made_of ts
same_memory memory ts whole all here =
    fun_ext (λ i.
    ⊎_elim
    (λ (k : i < 6144). here i k)
    (λ (k : 6144 ≤ i). get_or_past memory i 0 (omega (arith, whole)) ∙ sym (past ts i 0 all k))
    (cases_lt i 6144))

-- a byte that the test does not find is not declared
undeclared : (rs : List Run) (i : ℕ) → is_declared rs i ≡ false → Declared rs i → ⊥
undeclared [] i e h = h
undeclared (r ∷ rs) i e (inl (a, b)) =
    let f = le-leb r.from i a in
    let g = lt-ltb i r.to b in
    let yes : is_declared (r ∷ rs) i ≡ true = rw (f, g) refl in
    both_ways (is_declared (r ∷ rs) i) e yes
undeclared (r ∷ rs) i e (inr h) = undeclared rs i (rest (cond (leb r.from i) (ltb i r.to) false) (is_declared rs i) e) h
  where
    rest : (b c : Bool) → cond b true c ≡ false → c ≡ false
    rest true c k = absurd (both_ways true k refl)
    rest false c k = k

applied_append : (ts us : List Transaction) (i v : ℕ) → applied_all (ts ++ us) i v ≡ applied_all us i (applied_all ts i v)
applied_append [] us i v = refl
applied_append (t ∷ ts) us i v = applied_append ts us i (changed t i v)

-- The memory at a commit is what its own transaction makes of the memory as at begin.
pub same_own : (s : State) (ts : List Transaction) → byte_in s.image.before ≡ made_of ts → byte_in s.image.memory ≡ made_of (ts ++ (own_transaction s ∷ []))
same_own s ts before =
    fun_ext (λ i.
    let test = is_declared (declared s.image) i in
    let new = get_or s.image.memory i 0 in
    let old = made_of ts i in
    let own-byte : new ≡ cond test new old =
    ⊎_elim
    (λ (e : test ≡ true). sym (cond-true test new old e))
    (λ (e : test ≡ false). s.image.same i (undeclared (declared s.image) i e) ∙ ap (λ (f : ℕ → ℕ). f i) before ∙ sym (cond-false test new old e))
    (cases_Bool test) in
    own-byte ∙ sym (applied_append ts (own_transaction s ∷ []) i 0))
