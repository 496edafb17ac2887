-- Runs that lie apart are known by the bytes that they declare.
use Rattle.std.proofs.Common.{◌≡◌, ℕ, Bool, true, false, ◌+◌, ◌<◌, ◌≤◌, ◌⊎◌, List, [], ◌∷◌, length, get_or, subst, sym, refl, ap, ◌∙◌, inl, inr, ⊎_elim, arith}
use Rattle.std.proofs.Math.Nat.{ℕ_set}
use Rattle.std.proofs.lemmas.Bool.{cases_lt}
use Rattle.image.specs.declared.run.Run.{Run}
use Rattle.image.specs.declared.runs.Runs.{Runs}
use Rattle.image.specs.Runs.{run, Declared, Apart, DeclaresAlso, joined}
use Rattle.image.specs.declared.state.Image.{Image}
use Rattle.image.specs.Stretch.{InRange}
use Rattle.image.specs.Calls.{listed, declared, JoinedIn, RefusedRuns}
use Rattle.image.proofs.Facts.{apart_out}
use Rattle.image.proofs.Joining.{joined_apart, joined_covers, joined_only}

-- a declared byte lies above the floor
pub above_floor : (floor : ℕ) (rs : List Run) (i : ℕ) → Apart floor rs → Declared rs i → floor ≤ i
above_floor floor [] i a h = absurd h
above_floor floor (r ∷ rs) i a (inl h) = omega (arith, a.0, h.0)
above_floor floor (r ∷ rs) i a (inr h) = let k = above_floor (r.to + 1) rs i a.2 h in omega (arith, a.0, a.1, k)

-- every byte of the one is declared by the other
abbrev Within : List Run → List Run → Type 0
Within xs ys = (i : ℕ) → Declared xs i → Declared ys i

-- then the other begins no later,
begins_by : (a b : ℕ) (r s : Run) (rs ss : List Run) → Apart a (r ∷ rs) → Apart b (s ∷ ss) → Within (r ∷ rs) (s ∷ ss) → s.from ≤ r.from
begins_by a b r s rs ss x y h = above_floor s.from (s ∷ ss) r.from (omega arith, y.1, y.2) (h r.from (inl (omega arith, x.1)))

-- and its first run, where it begins with that of the one, ends no earlier
ends_by : (b : ℕ) (r s : Run) (rs ss : List Run) → Apart b (s ∷ ss) → r.from ≤ s.from → Within (r ∷ rs) (s ∷ ss) → r.to ≤ s.to
ends_by b r s rs ss y from h =
    ⊎_elim
    (λ (k : s.to < r.to). there (h s.to (inl (omega (arith, y.1), k))))
    (λ (k : r.to ≤ s.to). k)
    (cases_lt s.to r.to)
  where
    there : Declared (s ∷ ss) s.to → r.to ≤ s.to
    there (inl d) = omega (arith, d.1)
    there (inr d) = let k = above_floor (s.to + 1) ss s.to y.2 d in omega (arith, k)

-- the runs after the first two, where these end together
rest_within : (a : ℕ) (r s : Run) (rs ss : List Run) → Apart a (r ∷ rs) → r.to ≡ s.to → Within (r ∷ rs) (s ∷ ss) → Within rs ss
rest_within a r s rs ss x e h i d = past (above_floor (r.to + 1) rs i x.2 d) (h i (inr d))
  where
    past : r.to + 1 ≤ i → Declared (s ∷ ss) i → Declared ss i
    past k (inl m) = absurd (omega (arith, m.1, k, e))
    past k (inr m) = m

same_run : (r s : Run) → r.from ≡ s.from → r.to ≡ s.to → r ≡ s
same_run r s p q = ap (λ (x : ℕ). run x r.to) p ∙ ap (λ (y : ℕ). run s.from y) q

-- Two lists of runs that lie apart and declare the same bytes are one.
pub same_runs : (a b : ℕ) (xs ys : List Run) → Apart a xs → Apart b ys → Within xs ys → Within ys xs → xs ≡ ys
same_runs a b [] [] x y h k = refl
same_runs a b [] (s ∷ ss) x y h k = absurd (k s.from (inl (omega arith, y.1)))
same_runs a b (r ∷ rs) [] x y h k = absurd (h r.from (inl (omega arith, x.1)))
same_runs a b (r ∷ rs) (s ∷ ss) x y h k =
    let p = begins_by a b r s rs ss x y h in
    let q = begins_by b a s r ss rs y x k in
    let u = ends_by b r s rs ss y q h in
    let v = ends_by a s r ss rs x p k in
    let from : r.from ≡ s.from = omega arith in
    let to : r.to ≡ s.to = omega arith in
    let rest = same_runs (r.to + 1) (s.to + 1) rs ss x.2 y.2 (rest_within a r s rs ss x to h) (rest_within b s r ss rs y (sym to) k) in
    ap (λ (t : Run). t ∷ rs) (same_run r s from to) ∙ ap (λ (ts : List Run). s ∷ ts) rest

-- joining a stretch in is what declares it too
pub joined_also : (f t : ℕ) (rs : List Run) → f < t → Apart 0 rs → DeclaresAlso f t rs (joined f t rs)
joined_also f t rs some apart =
    record { apart = joined_apart 0 f t rs (omega arith) some apart; all = λ i h. joined_covers f t rs i h; only = λ i h. joined_only f t rs i h }

-- and nothing else does
pub also_joined : (f t : ℕ) (rs xs : List Run) → f < t → Apart 0 rs → DeclaresAlso f t rs xs → xs ≡ joined f t rs
also_joined f t rs xs some apart w =
    same_runs 0 0 xs (joined f t rs) w.apart (joined_apart 0 f t rs (omega arith) some apart)
    (λ i d. joined_covers f t rs i (w.only i d))
    (λ i d. w.all i (joined_only f t rs i d))

-- runs into which a stretch was joined
pub runs_joined : (f t : ℕ) (x y : Runs) → f < t → listed y ≡ joined f t (listed x) → DeclaresAlso f t (listed x) (listed y)
runs_joined f t x y some e =
    subst (λ (rs : List Run). DeclaresAlso f t (listed x) rs) (sym e) (joined_also f t (listed x) some (apart_out 0 (listed x) x.apart))

pub runs_are_joined : (f t : ℕ) (x : Runs) (ys : List Run) → f < t → DeclaresAlso f t (listed x) ys → ys ≡ joined f t (listed x)
runs_are_joined f t x ys some w = also_joined f t (listed x) ys some (apart_out 0 (listed x) x.apart) w

-- a stretch that was refused for want of room leaves the runs
pub runs_stay : (r : Run) (x z : Runs) (b : Bool) → b ≡ false → JoinedIn r.from r.to x b z → z ≡ x
runs_stay r x z b refused joins = (subst (λ (c : Bool). JoinedIn r.from r.to x c z) refused joins).1

-- an image with other runs is the image, where those are its own
abbrev With : Image → Runs → Type 0
With x r =
    (whole : length x.memory ≡ 6144) (kept : length x.before ≡ 6144)
    (same : (i : ℕ) → (Declared r.items.items i → ⊥) → get_or x.memory i 0 ≡ get_or x.before i 0)
    → ◌≡◌ {A = Image} (record { memory = x.memory; before = x.before; runs = r; whole = whole; kept = kept; same = same }) x

with_own : (x : Image) → With x x.runs
with_own x whole kept same =
    let one : IsProp ((i : ℕ) → (Declared x.runs.items.items i → ⊥) → get_or x.memory i 0 ≡ get_or x.before i 0) = hlevel ℕ_set in
    ap (λ (w : length x.memory ≡ 6144). record { memory = x.memory; before = x.before; runs = x.runs; whole = w; kept = kept; same = same }) (ℕ_set _ _ whole x.whole)
    ∙ ap (λ (k : length x.before ≡ 6144). record { memory = x.memory; before = x.before; runs = x.runs; whole = x.whole; kept = k; same = same }) (ℕ_set _ _ kept x.kept)
    ∙ ap (λ (t : (i : ℕ) → (Declared x.runs.items.items i → ⊥) → get_or x.memory i 0 ≡ get_or x.before i 0).
    record { memory = x.memory; before = x.before; runs = x.runs; whole = x.whole; kept = x.kept; same = t }) (one same x.same)

pub image_stays : (x : Image) (z : Runs) → z ≡ x.runs → With x z
image_stays x z e = subst (λ (r : Runs). With x r) (sym e) (with_own x)

-- the refusal says so
pub runs_refused : (start size : ℕ) (r : Run) (x y : Image) (b : Bool) (z : Runs) → r ≡ run start (start + size) → InRange start size → b ≡ false
    → JoinedIn r.from r.to x.runs b z → y ≡ x → RefusedRuns start size start x y
runs_refused start size r x y b z is range refused joins same =
    let many = (subst (λ (q : Run). JoinedIn q.from q.to x.runs false z) is (subst (λ (c : Bool). JoinedIn r.from r.to x.runs c z) refused joins)).0 in
    record {
      told = refl;
      in_range = range;
      runs = joined start (start + size) (declared x);
      declares = joined_also start (start + size) (declared x) (omega (arith, range.0)) (apart_out 0 (listed x.runs) x.runs.apart);
      many = many;
      same = same;
    }

-- and one that was joined in
pub runs_declare : (start size : ℕ) (r : Run) (x z : Runs) (b : Bool) → r ≡ run start (start + size) → InRange start size → b ≡ true
    → JoinedIn r.from r.to x b z → DeclaresAlso start (start + size) (listed x) (listed z)
runs_declare start size r x z b is range passed joins =
    let e = subst (λ (q : Run). JoinedIn q.from q.to x true z) is (subst (λ (c : Bool). JoinedIn r.from r.to x c z) passed joins) in
    runs_joined start (start + size) x z (omega (arith, range.0)) e
