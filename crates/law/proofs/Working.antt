-- A script that has come so far.
use Rattle.std.proofs.Common.{◌≡◌, ℕ, zero, suc, ◌+◌, ◌<◌, min, List, [], ◌∷◌, ◌++◌, length, get_or, take, drop, set, sym, refl, ap, ◌∙◌, subst, add-one}
use lib.Seq.{drop-nil}
use Rattle.std.proofs.Common.{Bool, true, false}
use Rattle.std.specs.Prelude.{MatchBool}
use Rattle.std.proofs.lemmas.List.{take_more, take_more_set, append-nil, append_assoc}
use Rattle.device.specs.Disk.{Disk}
use Rattle.law.specs.declared.script.Call.TheVariants as script
use Rattle.law.specs.declared.script.Call as scripts
use Rattle.law.specs.declared.script.Answer.{Answer}
use Rattle.law.specs.Events.{Moment, working, closed, Call, Event, Chain}
use Rattle.law.specs.Run.{Places, Stage, stage, NotMade, Made, MadeAs, fits, Plays, Steps, Played, Worked, Ends, Ended, Ran}

-- one call more
pub played_more : (calls : List scripts.Call) (answers : List Answer) (w mid : Stage) (es : List Event) (call : scripts.Call) (a : Answer) (last : List Event) (w' : Stage)
    → Played calls answers w es mid → Plays call mid a last w' → Played (calls ++ (call ∷ [])) (answers ++ (a ∷ [])) w (es ++ last) w'
played_more [] [] w mid es call a last w' (none, same) plays =
    (last, [], w', ap (λ (xs : List Event). xs ++ last) none ∙ sym (append-nil last), subst (λ (x : Stage). Plays call x a last w') same plays, (refl, refl))
played_more [] (b ∷ answers) w mid es call a last w' played plays = absurd played
played_more (c ∷ calls) [] w mid es call a last w' played plays = absurd played
played_more (c ∷ calls) (b ∷ answers) w mid es call a last w' (first, more, next, same, plays-first, played) plays =
    (first, more ++ last, next, ap (λ (xs : List Event). xs ++ last) same ∙ append_assoc first more last, plays-first, played_more calls answers next mid more call a last w' played plays)

-- the events of a script are a chain

made_chain : (call : Call) (w w' : Stage) (places : Places) (buffer : List ℕ) (es : List Event) → Made call w places buffer es w' → Chain w.moment es w'.moment
made_chain call w w' places buffer es m = subst (λ (xs : List Event). Chain w.moment xs w'.moment) (sym m.event) (refl, m.happens, refl)

made_as_chain : (call : scripts.Call) (w w' : Stage) (a : Answer) (es : List Event) → MadeAs call w a es w' → Chain w.moment es w'.moment
made_as_chain script.Format w w' a es (r, _, m) = made_chain _ w w' _ _ es m
made_as_chain script.Open w w' a es (r, _, m) = made_chain _ w w' _ _ es m
made_as_chain script.Close w w' a es (_, m) = made_chain _ w w' _ _ es m
made_as_chain (script.Begin i) w w' a es (r, _, m) = made_chain _ w w' _ _ es m
made_as_chain (script.SetRange i start size) w w' a es (t, _, (r, _, m)) = made_chain _ w w' _ _ es m
made_as_chain (script.Write i start bytes) w w' a es (t, _, (r, _, m)) = made_chain _ w w' _ _ es m
made_as_chain (script.Read start first end) w w' a es (r, bytes, _, m) = made_chain _ w w' _ _ es m
made_as_chain (script.Commit i flushed) w w' a es (t, _, (r, _, m)) = made_chain _ w w' _ _ es m
made_as_chain (script.Abort i) w w' a es (t, _, (r, _, m)) = made_chain _ w w' _ _ es m
made_as_chain script.Flush w w' a es (r, _, m) = made_chain _ w w' _ _ es m
made_as_chain script.Truncate w w' a es (r, _, m) = made_chain _ w w' _ _ es m

plays_chain : (call : scripts.Call) (w w' : Stage) (a : Answer) (es : List Event) → Plays call w a es w' → Chain w.moment es w'.moment
plays_chain call w w' a es plays = go (fits call w) plays
  where
    go : (b : Bool) → MatchBool b (MadeAs call w a es w') (NotMade w a es w') → Chain w.moment es w'.moment
    go true h = made_as_chain call w w' a es h
    go false (_, none, same) = subst (λ (xs : List Event). Chain w.moment xs w'.moment) (sym none) (ap (λ (x : Stage). x.moment) same)

pub chain_append : (m mid m' : Moment) (es fs : List Event) → Chain m es mid → Chain mid fs m' → Chain m (es ++ fs) m'
chain_append m mid m' [] fs same chain = subst (λ (x : Moment). Chain x fs m') same chain
chain_append m mid m' (e ∷ es) fs (first, happens, more) chain = (first, happens, chain_append e.after mid m' es fs more chain)

played_chain : (calls : List scripts.Call) (answers : List Answer) (w w' : Stage) (es : List Event) → Played calls answers w es w' → Chain w.moment es w'.moment
played_chain [] [] w w' es (none, same) = subst (λ (xs : List Event). Chain w.moment xs w'.moment) (sym none) (ap (λ (x : Stage). x.moment) same)
played_chain [] (b ∷ answers) w w' es played = absurd played
played_chain (c ∷ calls) [] w w' es played = absurd played
played_chain (c ∷ calls) (b ∷ answers) w w' es (first, more, next, same, plays, played) =
    subst (λ (xs : List Event). Chain w.moment xs w'.moment) (sym same)
    (chain_append w.moment next.moment w'.moment first more (plays_chain c w next b first plays) (played_chain calls answers next w' more played))

-- a store that still works is closed
ends_chain : (m : Moment) (es : List Event) (e : Disk) → Ends m es e → Chain m es (closed e)
ends_chain (working h) es e (event, same) = subst (λ (xs : List Event). Chain (working h) xs (closed e)) (sym event) (refl, (same, (refl, refl)), refl)
ends_chain (closed d) es e (none, same) = subst (λ (xs : List Event). Chain (closed d) xs (closed e)) (sym none) (ap closed same)

-- After i calls: their events; and the answers to come are as they were.
pub record SoFar (start : Stage) (calls : List scripts.Call) (before : List Answer) (i : ℕ) (answers : List Answer) (w : Stage) : Type 0 where
  pub events : List Event
  pub played : Played (take i calls) (take i answers) start events w
  pub rest : drop i answers ≡ drop i before

pub so_far_begins : (start : Stage) (calls : List scripts.Call) (answers : List Answer) → SoFar start calls answers 0 answers start
so_far_begins start calls answers = record { events = []; played = (refl, refl); rest = refl }

drop_set : {X : Type 0} (xs : List X) (i : ℕ) (x : X) → drop (suc i) (set xs i x) ≡ drop (suc i) xs
drop_set [] i x = refl
drop_set (y ∷ ys) zero x = refl
drop_set (y ∷ ys) (suc i) x = drop_set ys i x

drop_less : {X : Type 0} (xs ys : List X) (i : ℕ) → drop i xs ≡ drop i ys → drop (suc i) xs ≡ drop (suc i) ys
drop_less xs ys i h = sym (drop_one xs i) ∙ ap (λ zs. drop 1 zs) h ∙ drop_one ys i
  where
    drop_one : {X : Type 0} (xs : List X) (i : ℕ) → drop 1 (drop i xs) ≡ drop (suc i) xs
    drop_one [] i = ap (λ zs. drop 1 zs) (drop-nil i) ∙ sym (drop-nil (suc i))
    drop_one (x ∷ xs) zero = refl
    drop_one (x ∷ xs) (suc i) = drop_one xs i

pub so_far_goes : (start : Stage) (calls : List scripts.Call) (before : List Answer) (i : ℕ) (answers : List Answer) (w w' : Stage) (call : scripts.Call) (a : Answer)
    → i < length calls → i < length answers → call ≡ get_or calls i call → Steps call w a w' → SoFar start calls before i answers w → SoFar start calls before (i + 1) (set answers i a) w'
so_far_goes start calls before i answers w w' call a there room is (last, plays) s =
    let calls-are : take i calls ++ (call ∷ []) ≡ take (i + 1) calls = sym (take_more calls i call there ∙ ap (λ (c : scripts.Call). take i calls ++ (c ∷ [])) (sym is)) in
    let answers-are : take i answers ++ (a ∷ []) ≡ take (i + 1) (set answers i a) = sym (take_more_set answers i a room) in
    record {
      events = s.events ++ last;
      played =
          subst (λ (cs : List scripts.Call). Played cs (take (i + 1) (set answers i a)) start (s.events ++ last) w') calls-are
          (subst (λ (xs : List Answer). Played (take i calls ++ (call ∷ [])) xs start (s.events ++ last) w') answers-are
          (played_more (take i calls) (take i answers) start w s.events call a last w' s.played plays));
      rest = ap (λ (k : ℕ). drop k (set answers i a)) (add-one i) ∙ drop_set answers i a ∙ drop_less answers before i s.rest ∙ ap (λ (k : ℕ). drop k before) (sym (add-one i));
    }

pub so_far_ends : (start : Stage) (calls : List scripts.Call) (before : List Answer) (i : ℕ) (answers : List Answer) (w : Stage) → i ≡ min (length calls) (length before) → SoFar start calls before i answers w → Worked start calls before i answers w
so_far_ends start calls before i answers w all s = record { number = all; rest = s.rest; events = s.events; played = s.played }

-- The whole run.
pub ran : (d e : Disk) (calls : List scripts.Call) (places places' : Places) (buffer buffer' : List ℕ) (answers answers' : List Answer) (count : ℕ) (m : Moment)
    → Worked (stage (closed d) places buffer) calls answers count answers' (stage m places' buffer') → Ended m e → Ran d calls places buffer answers e count places' buffer' answers'
ran d e calls places places' buffer buffer' answers answers' count m w (last, ends) =
    record {
      end = m;
      worked = w;
      last = last;
      ends = ends;
      chain =
          chain_append (closed d) m (closed e) w.events last
          (played_chain (take count calls) (take count answers') (stage (closed d) places buffer) (stage m places' buffer') w.events w.played) (ends_chain m last e ends);
    }
