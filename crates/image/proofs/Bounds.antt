-- Pieces end where pages or runs end, and by that they are known.
use Rattle.std.proofs.Common.{◌≡◌, ℕ, zero, suc, ◌+◌, ◌-◌, ◌*◌, ◌/◌, ◌%◌, ◌<◌, ◌≤◌, min, ◌⊎◌, List, [], ◌∷◌, ◌++◌, sym, refl, ap, ◌∙◌, subst, inl, inr, ⊎_elim, arith}
use Rattle.std.proofs.lemmas.Bool.{cases_lt}
use Rattle.image.specs.declared.run.Run.{Run}
use Rattle.image.specs.declared.run.Piece.{Piece}
use Rattle.image.specs.Runs.{run, Declared, Apart, Inside}
use Rattle.image.specs.Cut.{piece, end, cut, cut_runs, FitsPage, Lies, EndsHere, Follow, Cuts, PiecesCut}
use Rattle.image.proofs.Alone.{above_floor}
use Rattle.image.proofs.Cutting.{cut_some, cut_none, cut_zero, Enough}

-- no byte is declared where one of these runs ends
abbrev Bare : List Run → List Run → Type 0
Bare all [] = Unit {0}
Bare all (r ∷ rs) = (Declared all r.to → ⊥) × Bare all rs

bare_more : (floor : ℕ) (q : Run) (all rs : List Run) → q.to ≤ floor → Apart floor rs → Bare all rs → Bare (q ∷ all) rs
bare_more floor q all [] h a b = tt
bare_more floor q all (r ∷ rs) h a b = (here, bare_more (r.to + 1) q all rs (omega (arith, a.0, a.1)) a.2 b.1)
  where
    here : Declared (q ∷ all) r.to → ⊥
    here (inl d) = omega (arith, d.1, h, a.0, a.1)
    here (inr d) = b.0 d

bare : (floor : ℕ) (rs : List Run) → Apart floor rs → Bare rs rs
bare floor [] a = tt
bare floor (r ∷ rs) a = (here, bare_more (r.to + 1) r rs rs (omega arith) a.2 (bare (r.to + 1) rs a.2))
  where
    here : Declared (r ∷ rs) r.to → ⊥
    here (inl d) = omega (arith, d.1)
    here (inr d) = let k = above_floor (r.to + 1) rs r.to a.2 d in omega (arith, k)

-- the pieces of a run, before those of the runs after it

lower : (all : List Run) (a b : ℕ) (ps : List Piece) → a ≤ b → Follow all b ps → Follow all a ps
lower all a b [] h f = tt
lower all a b (p ∷ ps) h f = (omega (arith, f.0), f.1, f.2, f.3)

follow_cut : (all : List Run) (n f t : ℕ) (ps : List Piece) → Enough n f t → f ≤ t → t ≤ 6144 → (Declared all t → ⊥) → Follow all t ps → Follow all f (cut n f t ++ ps)
follow_cut all zero f t ps e h k bare w =
    ⊎_elim
    (λ (l : f < t). let m = e l in absurd (omega arith))
    (λ (l : t ≤ f). subst (λ (qs : List Piece). Follow all f (qs ++ ps)) (sym (cut_none zero f t l)) (subst (λ (x : ℕ). Follow all x ps) (let m : t ≡ f = omega arith in m) w))
    (cases_lt f t)
follow_cut all (suc n) f t ps e h k bare w =
    ⊎_elim
    (λ (l : f < t).
    let size : f + (end f t - f) ≡ end f t = omega arith in
    let more = follow_cut all n (end f t) t ps (λ m. let x = e l in omega arith) (omega arith) k bare w in
    let fits : FitsPage (piece f (end f t - f)) = record { page = omega arith; some = omega arith; within = omega arith } in
    let ends : EndsHere all (f + (end f t - f)) =
    ⊎_elim
    (λ (m : end f t < t). inl (omega arith))
    (λ (m : t ≤ end f t). inr (λ d. bare (subst (λ (x : ℕ). Declared all x) (let y : f + (end f t - f) ≡ t = omega arith in y) d)))
    (cases_lt (end f t) t) in
    subst (λ (qs : List Piece). Follow all f (qs ++ ps)) (sym (cut_some n f t l))
    (omega arith, fits, ends, subst (λ (x : ℕ). Follow all x (cut n (end f t) t ++ ps)) (sym size) more))
    (λ (l : t ≤ f). subst (λ (qs : List Piece). Follow all f (qs ++ ps)) (sym (cut_none (suc n) f t l)) (subst (λ (x : ℕ). Follow all x ps) (let m : t ≡ f = omega arith in m) w))
    (cases_lt f t)

follow_runs : (all : List Run) (floor : ℕ) (rs : List Run) → Apart floor rs → Inside rs → Bare all rs → Follow all floor (cut_runs rs)
follow_runs all floor [] a h b = tt
follow_runs all floor (r ∷ rs) a h b =
    lower all floor r.from (cut 64 r.from r.to ++ cut_runs rs) a.0
    (follow_cut all 64 r.from r.to (cut_runs rs) (λ l. omega (arith, h.0)) (omega (arith, a.1)) h.0 b.0
    (lower all r.to (r.to + 1) (cut_runs rs) (omega arith) (follow_runs all (r.to + 1) rs a.2 h.1 b.1)))

-- they have the declared bytes

lies_cut : (n f t : ℕ) (ps : List Piece) (i : ℕ) → Enough n f t → f ≤ i → i < t → Lies (cut n f t ++ ps) i
lies_cut zero f t ps i e h k = absurd (let m = e (omega arith) in omega arith)
lies_cut (suc n) f t ps i e h k =
    let l : f < t = omega arith in
    subst (λ (qs : List Piece). Lies (qs ++ ps) i) (sym (cut_some n f t l))
    (⊎_elim
    (λ (m : i < end f t). inl (h, omega arith))
    (λ (m : end f t ≤ i). inr (lies_cut n (end f t) t ps i (λ x. let y = e l in omega arith) m k))
    (cases_lt i (end f t)))

lies_after : (n f t : ℕ) (ps : List Piece) (i : ℕ) → Lies ps i → Lies (cut n f t ++ ps) i
lies_after n f t ps i h = after (cut n f t)
  where
    after : (qs : List Piece) → Lies (qs ++ ps) i
    after [] = h
    after (q ∷ qs) = inr (after qs)

lies_or : (n f t : ℕ) (ps : List Piece) (i : ℕ) → f ≤ t → Lies (cut n f t ++ ps) i → ((f ≤ i) × (i < t)) ⊎ Lies ps i
lies_or zero f t ps i le h = inr (subst (λ (qs : List Piece). Lies (qs ++ ps) i) (cut_zero f t) h)
lies_or (suc n) f t ps i le h =
    ⊎_elim
    (λ (l : f < t). first l (λ m. lies_or n (end f t) t ps i (omega (arith, l)) m) (subst (λ (qs : List Piece). Lies (qs ++ ps) i) (cut_some n f t l) h))
    (λ (l : t ≤ f). inr (subst (λ (qs : List Piece). Lies (qs ++ ps) i) (cut_none (suc n) f t l) h))
    (cases_lt f t)
  where
    first : f < t → (Lies (cut n (end f t) t ++ ps) i → ((end f t ≤ i) × (i < t)) ⊎ Lies ps i) → Lies (piece f (end f t - f) ∷ (cut n (end f t) t ++ ps)) i
        → ((f ≤ i) × (i < t)) ⊎ Lies ps i
    first l later (inl m) = inl (m.0, omega (arith, m.1, l))
    first l later (inr m) = elim (later m) [ inl x ↦ inl (omega (arith, x.0, l), x.1) | inr x ↦ inr x ]

runs_lie : (floor : ℕ) (rs : List Run) (i : ℕ) → Apart floor rs → Inside rs → Declared rs i → Lies (cut_runs rs) i
runs_lie floor [] i a h d = d
runs_lie floor (r ∷ rs) i a h (inl d) = lies_cut 64 r.from r.to (cut_runs rs) i (λ l. omega (arith, h.0)) d.0 d.1
runs_lie floor (r ∷ rs) i a h (inr d) = lies_after 64 r.from r.to (cut_runs rs) i (runs_lie (r.to + 1) rs i a.2 h.1 d)

lie_runs : (floor : ℕ) (rs : List Run) (i : ℕ) → Apart floor rs → Lies (cut_runs rs) i → Declared rs i
lie_runs floor [] i a d = d
lie_runs floor (r ∷ rs) i a d =
    elim (lies_or 64 r.from r.to (cut_runs rs) i (omega (arith, a.1)) d) [ inl x ↦ inl x | inr x ↦ inr (lie_runs (r.to + 1) rs i a.2 x) ]

-- two such lists are one

lies_above : (rs : List Run) (floor : ℕ) (ps : List Piece) (i : ℕ) → Follow rs floor ps → Lies ps i → floor ≤ i
lies_above rs floor [] i f h = absurd h
lies_above rs floor (p ∷ ps) i f (inl h) = omega (arith, f.0, h.0)
lies_above rs floor (p ∷ ps) i f (inr h) = let k = lies_above rs (p.start + p.size) ps i f.3 h in omega (arith, f.0, k)

abbrev Within : List Piece → List Piece → Type 0
Within ps qs = (i : ℕ) → Lies ps i → Lies qs i

starts_by : (rs : List Run) (a b : ℕ) (p q : Piece) (ps qs : List Piece) → Follow rs a (p ∷ ps) → Follow rs b (q ∷ qs) → Within (p ∷ ps) (q ∷ qs) → q.start ≤ p.start
starts_by rs a b p q ps qs x y h =
    let some = x.1.some in
    lies_above rs q.start (q ∷ qs) p.start (omega arith, y.1, y.2, y.3) (h p.start (inl (omega arith, omega (arith, some))))

-- the one that begins with another ends no later, since that one ends where a page or a run does
stops_by : (rs : List Run) (a b : ℕ) (p q : Piece) (ps qs : List Piece) → Follow rs a (p ∷ ps) → Follow rs b (q ∷ qs)
    → ((i : ℕ) → Lies (p ∷ ps) i → Declared rs i) → p.start ≡ q.start → p.start + p.size ≤ q.start + q.size
stops_by rs a b p q ps qs x y only same =
    ⊎_elim
    (λ (k : q.start + q.size < p.start + p.size). absurd (stop k y.2))
    (λ (k : p.start + p.size ≤ q.start + q.size). k)
    (cases_lt (q.start + q.size) (p.start + p.size))
  where
    stop : q.start + q.size < p.start + p.size → EndsHere rs (q.start + q.size) → ⊥
    stop k (inl e) = let w = x.1.within in let s = y.1.some in omega (arith, k, e, w, s, same)
    stop k (inr e) = e (only (q.start + q.size) (inl (omega (arith, same), k)))

rest_within : (rs : List Run) (a b : ℕ) (p q : Piece) (ps qs : List Piece) → Follow rs a (p ∷ ps) → p.start + p.size ≡ q.start + q.size → Within (p ∷ ps) (q ∷ qs) → Within ps qs
rest_within rs a b p q ps qs x e h i d = past (lies_above rs (p.start + p.size) ps i x.3 d) (h i (inr d))
  where
    past : p.start + p.size ≤ i → Lies (q ∷ qs) i → Lies qs i
    past k (inl m) = absurd (omega (arith, m.1, k, e))
    past k (inr m) = m

same_pieces : (rs : List Run) (a b : ℕ) (ps qs : List Piece) → Follow rs a ps → Follow rs b qs → ((i : ℕ) → Lies ps i → Declared rs i)
    → ((i : ℕ) → Lies qs i → Declared rs i) → Within ps qs → Within qs ps → ps ≡ qs
same_pieces rs a b [] [] x y u v h k = refl
same_pieces rs a b [] (q ∷ qs) x y u v h k = let s = y.1.some in absurd (k q.start (inl (omega arith, omega (arith, s))))
same_pieces rs a b (p ∷ ps) [] x y u v h k = let s = x.1.some in absurd (h p.start (inl (omega arith, omega (arith, s))))
same_pieces rs a b (p ∷ ps) (q ∷ qs) x y u v h k =
    let f = starts_by rs a b p q ps qs x y h in
    let g = starts_by rs b a q p qs ps y x k in
    let start : p.start ≡ q.start = omega arith in
    let e = stops_by rs a b p q ps qs x y u start in
    let e' = stops_by rs b a q p qs ps y x v (sym start) in
    let stop : p.start + p.size ≡ q.start + q.size = omega arith in
    let size : p.size ≡ q.size = omega arith in
    let one : p ≡ q = ap (λ (n : ℕ). piece n p.size) start ∙ ap (λ (n : ℕ). piece q.start n) size in
    let rest = same_pieces rs (p.start + p.size) (q.start + q.size) ps qs x.3 y.3 (λ i d. u i (inr d)) (λ i d. v i (inr d))
    (rest_within rs a b p q ps qs x stop h) (rest_within rs b a q p qs ps y (sym stop) k) in
    ap (λ (r : Piece). r ∷ ps) one ∙ ap (λ (rs : List Piece). q ∷ rs) rest

pub runs_cut : PiecesCut
runs_cut rs apart inside =
    let made : Cuts rs (cut_runs rs) =
    record { order = follow_runs rs 0 rs apart inside (bare 0 rs apart); all = λ i d. runs_lie 0 rs i apart inside d; only = λ i d. lie_runs 0 rs i apart d } in
    (made, λ ps w. same_pieces rs 0 0 ps (cut_runs rs) w.order made.order w.only made.only (λ i d. made.all i (w.only i d)) (λ i d. w.all i (made.only i d)))
