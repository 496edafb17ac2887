-- What each call of a script makes of where the script stands.
use Rattle.std.proofs.Common.{◌≡◌, ℕ, zero, suc, ◌-◌, Bool, true, false, ◌&&◌, leb, arith, List, [], ◌∷◌, ◌++◌, length, take, drop, ◌+◌, ◌<◌, ◌≤◌, inl, inr, ⊎_elim, slice_set, Some, None, Option, Result, sym, refl, ap, ◌∙◌, subst, Bor}
use Rattle.std.proofs.lemmas.Bool.{and_left, and_right, le-leb, lt-leb}
use Rattle.std.proofs.lemmas.List.{drop-drop}
use Rattle.std.specs.Prelude.{MatchBool, is_some}
use Rattle.device.specs.Disk.{Disk}
use Rattle.device.specs.Trace.{Act}
use Rattle.transactions.specs.declared.fault.StoreFault.{StoreFault}
use Rattle.transactions.specs.declared.token.Token.{Token}
use Rattle.transactions.specs.Held.{Held, Formatted, Opened, Begins, SetsRange, WritesRange, ReadsRange, Commits, Aborts, Flushes, Truncates}
use Rattle.law.specs.declared.script.Call.TheVariants as script
use Rattle.law.specs.declared.script.Call as scripts
use Rattle.law.specs.declared.script.Answer.{Answer}
use Rattle.law.specs.declared.script.Answer.TheVariants as told
use Rattle.law.specs.Events.{Moment, working, closed, Call, format, opening, close, begin, set_range, write, read, commit, abort, flush, truncate, Event, Happens}
use Rattle.law.specs.Run.{Places, token_at, Stage, stage, NotMade, Made, begun, told_begun, is_free, fits, MadeAs, Steps}
use Rattle.law.specs.Deeds.{Does, Starts}
use Rattle.law.proofs.Tracing.{commit_tried, flush_tried, truncate_tried, format_tried, opening_tried}

-- A store works before it and after it.
abbrev pub StepsOn : scripts.Call → Held → Places → List ℕ → Answer → Held → Places → List ℕ → Type 0
StepsOn call h places buffer a k places' buffer' = Steps call (stage (working h) places buffer) a (stage (working k) places' buffer')

-- made, or not

pub made : (call : scripts.Call) (w w' : Stage) (a : Answer) → fits call w ≡ true → (es : List Event) → MadeAs call w a es w' → Steps call w a w'
made call w w' a so es h = (es, subst (λ (b : Bool). MatchBool b (MadeAs call w a es w') (NotMade w a es w')) (sym so) h)

pub passed : (call : scripts.Call) (w : Stage) → fits call w ≡ false → Steps call w told.NotMade w
passed call w so = ([], subst (λ (b : Bool). MatchBool b (MadeAs call w told.NotMade [] w) (NotMade w told.NotMade [] w)) (sym so) (refl, refl, refl))

-- the event of a call that was made
abbrev pub one : Call → Moment → List Act → Option Act → Moment → List Event
one call m done cut m' = record { call = call; before = m; done = done; cut = cut; after = m' } ∷ []

pub happened : (call : Call) (m m' : Moment) (done : List Act) (cut : Option Act) (places places' : Places) (buffer buffer' : List ℕ) → Happens call m done cut m'
    → Made call (stage m places buffer) places' buffer' (one call m done cut m') (stage m' places' buffer')
happened call m m' done cut places places' buffer buffer' h =
    record { done = done; cut = cut; happens = h; event = refl; places_are = refl; buffer_is = refl }

-- a device that lies alone

pub formats : (d : Disk) (k : Held) (r : Result (Unit {0}) StoreFault) (places : Places) (buffer : List ℕ) → Formatted d r k
    → Steps script.Format (stage (closed d) places buffer) (told.Formatted r) (stage (working k) places buffer)
formats d k r places buffer h =
    let t = format_tried d k r h in
    made script.Format (stage (closed d) places buffer) (stage (working k) places buffer) (told.Formatted r) refl (one (format r) (closed d) t.0 t.1 (working k))
    (r, refl, happened (format r) (closed d) (working k) t.0 t.1 places places buffer buffer (h, t.2))

pub opens : (d : Disk) (k : Held) (r : Result (ℕ × ℕ) StoreFault) (places : Places) (buffer : List ℕ) → Opened d r k
    → Steps script.Open (stage (closed d) places buffer) (told.Opened r) (stage (working k) places buffer)
opens d k r places buffer h =
    let t = opening_tried d k r h in
    made script.Open (stage (closed d) places buffer) (stage (working k) places buffer) (told.Opened r) refl (one (opening r) (closed d) t.0 t.1 (working k))
    (r, refl, happened (opening r) (closed d) (working k) t.0 t.1 places places buffer buffer (h, t.2))

-- a store that works

pub closes : (h : Held) (d : Disk) (places : Places) (buffer : List ℕ) → d ≡ h.disk
    → Steps script.Close (stage (working h) places buffer) told.Closed (stage (closed d) places buffer)
closes h d places buffer same =
    made script.Close (stage (working h) places buffer) (stage (closed d) places buffer) told.Closed refl (one close (working h) [] None (closed d))
    (refl, happened close (working h) (closed d) [] None places places buffer buffer (same, (refl, refl)))

pub flushes : (h k : Held) (r : Result ℕ StoreFault) (places : Places) (buffer : List ℕ) → Flushes h r k
    → StepsOn script.Flush h places buffer (told.Flushed r) k places buffer
flushes h k r places buffer does =
    let t = flush_tried h k r does in
    made script.Flush (stage (working h) places buffer) (stage (working k) places buffer) (told.Flushed r) refl (one (flush r) (working h) t.0 t.1 (working k))
    (r, refl, happened (flush r) (working h) (working k) t.0 t.1 places places buffer buffer (does, t.2))

pub truncates : (h k : Held) (r : Result ℕ StoreFault) (places : Places) (buffer : List ℕ) → Truncates h r k
    → StepsOn script.Truncate h places buffer (told.Truncated r) k places buffer
truncates h k r places buffer does =
    let t = truncate_tried h k r does in
    made script.Truncate (stage (working h) places buffer) (stage (working k) places buffer) (told.Truncated r) refl (one (truncate r) (working h) t.0 t.1 (working k))
    (r, refl, happened (truncate r) (working h) (working k) t.0 t.1 places places buffer buffer (does, t.2))

-- with a token

holds : (places : Places) (i : ℕ) (t : Token) → token_at places i ≡ Some t → is_some (token_at places i) ≡ true
holds places i t e = ap is_some e

pub commits : (h k : Held) (i : ℕ) (flushed : Bool) (t : Token) (r : Result (ℕ × ℕ) StoreFault) (places : Places) (buffer : List ℕ) → token_at places i ≡ Some t → Commits t.number flushed h r k
    → StepsOn (script.Commit i flushed) h places buffer (told.Committed r) k (slice_set places i None) buffer
commits h k i flushed t r places buffer there does =
    let y = commit_tried t.number flushed h k r does in
    let left = slice_set places i None in
    made (script.Commit i flushed) (stage (working h) places buffer) (stage (working k) left buffer) (told.Committed r) (holds places i t there)
    (one (commit t.number flushed r) (working h) y.0 y.1 (working k))
    (t, there, (r, refl, happened (commit t.number flushed r) (working h) (working k) y.0 y.1 places left buffer buffer (does, y.2)))

pub aborts : (h k : Held) (i : ℕ) (t : Token) (r : Result (Unit {0}) StoreFault) (places : Places) (buffer : List ℕ) → token_at places i ≡ Some t → Aborts t.number h r k
    → StepsOn (script.Abort i) h places buffer (told.Aborted r) k (slice_set places i None) buffer
aborts h k i t r places buffer there does =
    let left = slice_set places i None in
    made (script.Abort i) (stage (working h) places buffer) (stage (working k) left buffer) (told.Aborted r) (holds places i t there)
    (one (abort t.number r) (working h) [] None (working k))
    (t, there, (r, refl, happened (abort t.number r) (working h) (working k) [] None places left buffer buffer (does, (refl, refl))))

pub declares : (h k : Held) (i start size : ℕ) (t : Token) (r : Result (Unit {0}) StoreFault) (places : Places) (buffer : List ℕ) → token_at places i ≡ Some t → SetsRange t.number start size h r k
    → StepsOn (script.SetRange i start size) h places buffer (told.Declared r) k places buffer
declares h k i start size t r places buffer there does =
    made (script.SetRange i start size) (stage (working h) places buffer) (stage (working k) places buffer) (told.Declared r) (holds places i t there)
    (one (set_range t.number start size r) (working h) [] None (working k))
    (t, there, (r, refl, happened (set_range t.number start size r) (working h) (working k) [] None places places buffer buffer (does, (refl, refl))))

pub puts : (h k : Held) (i start : ℕ) (bytes : Bor (List ℕ)) (t : Token) (r : Result (Unit {0}) StoreFault) (places : Places) (buffer : List ℕ) → token_at places i ≡ Some t
    → WritesRange t.number start bytes.now h r k → StepsOn (script.Write i start bytes) h places buffer (told.Written r) k places buffer
puts h k i start bytes t r places buffer there does =
    made (script.Write i start bytes) (stage (working h) places buffer) (stage (working k) places buffer) (told.Written r) (holds places i t there)
    (one (write t.number start bytes.now r) (working h) [] None (working k))
    (t, there, (r, refl, happened (write t.number start bytes.now r) (working h) (working k) [] None places places buffer buffer (does, (refl, refl))))

pub begins : (h k : Held) (i : ℕ) (r : Result Token StoreFault) (places : Places) (buffer : List ℕ) → is_free places i ≡ true → Begins h r k
    → StepsOn (script.Begin i) h places buffer (told_begun r) k (begun places i r) buffer
begins h k i r places buffer free does =
    made (script.Begin i) (stage (working h) places buffer) (stage (working k) (begun places i r) buffer) (told_begun r) free
    (one (begin r) (working h) [] None (working k))
    (r, refl, happened (begin r) (working h) (working k) [] None places (begun places i r) buffer buffer (does, (refl, refl)))

pub reads : (h : Held) (start first end : ℕ) (r : Result (Unit {0}) StoreFault) (places : Places) (buffer bytes : List ℕ) → leb first end ≡ true → leb end (length buffer) ≡ true
    → ReadsRange start h (take (end - first) (drop first buffer)) r bytes
    → StepsOn (script.Read start first end) h places buffer (told.Read r) h places (take first buffer ++ (bytes ++ drop end buffer))
reads h start first end r places buffer bytes from within does =
    let filled = take first buffer ++ (bytes ++ drop end buffer) in
    let lent = take (end - first) (drop first buffer) in
    made (script.Read start first end) (stage (working h) places buffer) (stage (working h) places filled) (told.Read r) (both from within)
    (one (read start lent r bytes) (working h) [] None (working h))
    (r, bytes, refl, happened (read start lent r bytes) (working h) (working h) [] None places places buffer filled (does, refl, (refl, refl)))
  where
    both : leb first end ≡ true → leb end (length buffer) ≡ true → leb first end && leb end (length buffer) ≡ true
    both a b = ap (λ (x : Bool). x && leb end (length buffer)) a ∙ b

-- A place that holds no token has nothing to lose.
pub set_none : (places : Places) (i : ℕ) → token_at places i ≡ None → slice_set places i None ≡ places
set_none [] i e = refl
set_none (None ∷ places) zero e = refl
set_none (Some t ∷ places) zero e = absurd (let z : ◌≡◌ {A = ℕ} 0 1 = cc in omega arith)
set_none (x ∷ places) (suc i) e = ap (λ (ys : Places). x ∷ ys) (set_none places i e)

-- the same call by another name
pub steps_as : (call call' : scripts.Call) (w w' : Stage) (a : Answer) → call ≡ call' → Steps call' w a w' → Steps call w a w'
steps_as call call' w w' a e h = subst (λ (x : scripts.Call). Steps x w a w') (sym e) h

-- what a call does is its step

told_as : (call : scripts.Call) (w w' : Stage) (a b : Answer) → a ≡ b → Steps call w b w' → Steps call w a w'
told_as call w w' a b e h = subst (λ (x : Answer). Steps call w x w') (sym e) h

left_as : (call : scripts.Call) (w v w' : Stage) (a : Answer) → w' ≡ v → Steps call w a v → Steps call w a w'
left_as call w v w' a e h = subst (λ (x : Stage). Steps call w a x) (sym e) h

same_stage : (h k : Held) (ps qs : Places) (b c : List ℕ) → k ≡ h → qs ≡ ps → c ≡ b → stage (working k) qs c ≡ stage (working h) ps b
same_stage h k ps qs b c e f g = cc

not_made : (call : scripts.Call) (h k : Held) (ps qs : Places) (b c : List ℕ) (a : Answer) → fits call (stage (working h) ps b) ≡ false → a ≡ told.NotMade → k ≡ h → qs ≡ ps → c ≡ b → StepsOn call h ps b a k qs c
not_made call h k ps qs b c a fit same e f g =
    left_as call (stage (working h) ps b) (stage (working h) ps b) (stage (working k) qs c) a (same_stage h k ps qs b c e f g)
    (told_as call (stage (working h) ps b) (stage (working h) ps b) a told.NotMade same (passed call (stage (working h) ps b) fit))

left_so : (call : scripts.Call) (h k : Held) (ps qs qs' : Places) (b c c' : List ℕ) (a a' : Answer) → a ≡ a' → qs ≡ qs' → c ≡ c' → StepsOn call h ps b a' k qs' c' → StepsOn call h ps b a k qs c
left_so call h k ps qs qs' b c c' a a' e f g step =
    left_as call (stage (working h) ps b) (stage (working k) qs' c') (stage (working k) qs c) a (same_stage k k qs' qs c' c refl f g)
    (told_as call (stage (working h) ps b) (stage (working k) qs' c') a a' e step)

pub does_step : (call : scripts.Call) (h k : Held) (ps qs : Places) (b c : List ℕ) (a : Answer) → Does call h ps b a k qs c → StepsOn call h ps b a k qs c
does_step script.Format h k ps qs b c a (same, e, f, g) = not_made script.Format h k ps qs b c a refl same e f g
does_step script.Open h k ps qs b c a (same, e, f, g) = not_made script.Open h k ps qs b c a refl same e f g
does_step script.Close h k ps qs b c a does = absurd does
does_step (script.Begin i) h k ps qs b c a (inl (free, r, same, does, f), g) =
    left_so (script.Begin i) h k ps qs (begun ps i r) b c b a (told_begun r) same f g (begins h k i r ps b free does)
does_step (script.Begin i) h k ps qs b c a (inr (taken, same, e, f), g) = not_made (script.Begin i) h k ps qs b c a taken same e f g
does_step (script.SetRange i start size) h k ps qs b c a (inl (t, there, (r, same, does)), f, g) =
    left_so (script.SetRange i start size) h k ps qs ps b c b a (told.Declared r) same f g (declares h k i start size t r ps b there does)
does_step (script.SetRange i start size) h k ps qs b c a (inr (none, same, e), f, g) =
    not_made (script.SetRange i start size) h k ps qs b c a (ap is_some none) same e f g
does_step (script.Write i start bytes) h k ps qs b c a (inl (t, there, (r, same, does)), f, g) =
    left_so (script.Write i start bytes) h k ps qs ps b c b a (told.Written r) same f g (puts h k i start bytes t r ps b there does)
does_step (script.Write i start bytes) h k ps qs b c a (inr (none, same, e), f, g) =
    not_made (script.Write i start bytes) h k ps qs b c a (ap is_some none) same e f g
does_step (script.Read start first end) h k ps qs b c a (inl (from, within, r, bytes, same, does, g), e, f) =
    let rest : drop (end - first) (drop first b) ≡ drop end b = drop-drop (end - first) first b ∙ ap (λ (j : ℕ). drop j b) (whole first end from) in
    let filled : c ≡ take first b ++ (bytes ++ drop end b) = g ∙ ap (λ (ys : List ℕ). take first b ++ (bytes ++ ys)) rest in
    subst (λ (x : Held). StepsOn (script.Read start first end) h ps b a x qs c) (sym e)
    (left_so (script.Read start first end) h h ps qs ps b c (take first b ++ (bytes ++ drop end b)) a (told.Read r) same f filled
    (reads h start first end r ps b bytes (le-leb first end from) (le-leb end (length b) within) does))
  where
    whole : (first end : ℕ) → first ≤ end → first + (end - first) ≡ end
    whole first end h = omega arith
does_step (script.Read start first end) h k ps qs b c a (inr (outside, same, g), e, f) =
    not_made (script.Read start first end) h k ps qs b c a
    (⊎_elim
    (λ (over : end < first). and_left (leb first end) (leb end (length b)) (lt-leb first end over))
    (λ (past : length b < end). and_right (leb first end) (leb end (length b)) (lt-leb end (length b) past))
    outside) same e f g
does_step (script.Commit i flushed) h k ps qs b c a (inl (t, there, (r, same, does)), f, g) =
    left_so (script.Commit i flushed) h k ps qs (slice_set ps i None) b c b a (told.Committed r) same f g (commits h k i flushed t r ps b there does)
does_step (script.Commit i flushed) h k ps qs b c a (inr (none, same, e), f, g) =
    not_made (script.Commit i flushed) h k ps qs b c a (ap is_some none) same e (f ∙ set_none ps i none) g
does_step (script.Abort i) h k ps qs b c a (inl (t, there, (r, same, does)), f, g) =
    left_so (script.Abort i) h k ps qs (slice_set ps i None) b c b a (told.Aborted r) same f g (aborts h k i t r ps b there does)
does_step (script.Abort i) h k ps qs b c a (inr (none, same, e), f, g) =
    not_made (script.Abort i) h k ps qs b c a (ap is_some none) same e (f ∙ set_none ps i none) g
does_step script.Flush h k ps qs b c a ((r, same, does), f, g) = left_so script.Flush h k ps qs ps b c b a (told.Flushed r) same f g (flushes h k r ps b does)
does_step script.Truncate h k ps qs b c a ((r, same, does), f, g) = left_so script.Truncate h k ps qs ps b c b a (told.Truncated r) same f g (truncates h k r ps b does)

idle : (call : scripts.Call) (d : Disk) (a : Answer) (m : Moment) (ps : Places) (b : List ℕ) → fits call (stage (closed d) ps b) ≡ false → (a ≡ told.NotMade) × (m ≡ closed d) → Steps call (stage (closed d) ps b) a (stage m ps b)
idle call d a m ps b fit (same, e) =
    left_as call (stage (closed d) ps b) (stage (closed d) ps b) (stage m ps b) a (ap (λ (x : Moment). stage x ps b) e)
    (told_as call (stage (closed d) ps b) (stage (closed d) ps b) a told.NotMade same (passed call (stage (closed d) ps b) fit))

pub starts_step : (call : scripts.Call) (d : Disk) (a : Answer) (m : Moment) (ps : Places) (b : List ℕ) → Starts call d a m → Steps call (stage (closed d) ps b) a (stage m ps b)
starts_step script.Format d a (working k) ps b (r, same, h) = told_as script.Format (stage (closed d) ps b) (stage (working k) ps b) a (told.Formatted r) same (formats d k r ps b h)
starts_step script.Format d a (closed e) ps b (r, same, h) = absurd h
starts_step script.Open d a (working k) ps b (r, same, h) = told_as script.Open (stage (closed d) ps b) (stage (working k) ps b) a (told.Opened r) same (opens d k r ps b h)
starts_step script.Open d a (closed e) ps b (r, same, h) = absurd h
starts_step script.Close d a m ps b h = idle script.Close d a m ps b refl h
starts_step (script.Begin i) d a m ps b h = idle (script.Begin i) d a m ps b refl h
starts_step (script.SetRange i start size) d a m ps b h = idle (script.SetRange i start size) d a m ps b refl h
starts_step (script.Write i start bytes) d a m ps b h = idle (script.Write i start bytes) d a m ps b refl h
starts_step (script.Read start first end) d a m ps b h = idle (script.Read start first end) d a m ps b refl h
starts_step (script.Commit i flushed) d a m ps b h = idle (script.Commit i flushed) d a m ps b refl h
starts_step (script.Abort i) d a m ps b h = idle (script.Abort i) d a m ps b refl h
starts_step script.Flush d a m ps b h = idle script.Flush d a m ps b refl h
starts_step script.Truncate d a m ps b h = idle script.Truncate d a m ps b refl h
