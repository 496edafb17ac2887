-- A run that has come so far.
use Rattle.std.proofs.Common.{◌≡◌, ℕ, zero, suc, ◌+◌, ◌<◌, min, List, [], ◌∷◌, ◌++◌, length, get_or, take, drop, set, append_assoc, sym, refl, ap, ◌∙◌, subst, add-one}
use lib.Seq.{drop-nil}
use Rattle.std.proofs.lemmas.List.{take_more, take_more_set}
use Rattle.device.specs.Disk.{Disk}
use Rattle.ledger_law.specs.declared.script.Call.{Call}
use Rattle.ledger_law.specs.declared.script.Answer.{Answer}
use Rattle.ledger_law.specs.Events.{Moment, working, closed, Event, Chain}
use Rattle.ledger_law.specs.Run.{Plays, Steps, Played, Worked, Ends, Ended, Ran}
use Rattle.ledger_law.proofs.Playing.{plays_chain, made_ends}

append_none : {X : Type 0} (xs : List X) → xs ++ [] ≡ xs
append_none [] = refl
append_none (x ∷ xs) = ap (λ ys. x ∷ ys) (append_none xs)

-- one call more
played_snoc : (calls : List Call) (answers : List Answer) (m m' m'' : Moment) (es more : List Event) (call : Call) (a : Answer) → Played calls answers m es m' → Plays call m' a more m''
    → Played (calls ++ (call ∷ [])) (answers ++ (a ∷ [])) m (es ++ more) m''
played_snoc [] [] m m' m'' es more call a (none, same) plays =
    (more, [], m'', ap (λ (xs : List Event). xs ++ more) none ∙ sym (append_none more), subst (λ (x : Moment). Plays call x a more m'') same plays, (refl, refl))
played_snoc [] (b ∷ bs) m m' m'' es more call a h plays = absurd h
played_snoc (c ∷ cs) [] m m' m'' es more call a h plays = absurd h
played_snoc (c ∷ cs) (b ∷ bs) m m' m'' es more call a (first, others, mid, is, one, rest) plays =
    (first, others ++ more, mid, ap (λ (xs : List Event). xs ++ more) is ∙ append_assoc first others more, one, played_snoc cs bs mid m' m'' others more call a rest plays)

-- After i calls.
pub record SoFar (start : Moment) (calls : List Call) (before : List Answer) (i : ℕ) (answers : List Answer) (m : Moment) : Type 0 where
  pub events : List Event
  pub played : Played (take i calls) (take i answers) start events m
  pub rest : drop i answers ≡ drop i before

pub so_far_begins : (start : Moment) (calls : List Call) (answers : List Answer) → SoFar start calls answers 0 answers start
so_far_begins start calls answers = record { events = []; played = (refl, refl); rest = refl }

drop_set : {X : Type 0} (xs : List X) (i : ℕ) (x : X) → drop (suc i) (set xs i x) ≡ drop (suc i) xs
drop_set [] i x = refl
drop_set (y ∷ ys) zero x = refl
drop_set (y ∷ ys) (suc i) x = drop_set ys i x

drop_less : {X : Type 0} (xs ys : List X) (i : ℕ) → drop i xs ≡ drop i ys → drop (suc i) xs ≡ drop (suc i) ys
drop_less xs ys i h = sym (drop_one xs i) ∙ ap (λ zs. drop 1 zs) h ∙ drop_one ys i
  where
    drop_one : {X : Type 0} (xs : List X) (i : ℕ) → drop 1 (drop i xs) ≡ drop (suc i) xs
    drop_one [] i = ap (λ zs. drop 1 zs) (drop-nil i) ∙ sym (drop-nil (suc i))
    drop_one (x ∷ xs) zero = refl
    drop_one (x ∷ xs) (suc i) = drop_one xs i

pub so_far_goes : (start : Moment) (calls : List Call) (before : List Answer) (i : ℕ) (answers : List Answer) (m m' : Moment) (call : Call) (a : Answer)
    → i < length calls → i < length answers → call ≡ get_or calls i call → Steps call m a m' → SoFar start calls before i answers m → SoFar start calls before (i + 1) (set answers i a) m'
so_far_goes start calls before i answers m m' call a there room is steps w =
    let more = played_snoc (take i calls) (take i answers) start m m' w.events steps.0 call a w.played steps.1 in
    let calls_are : take (i + 1) calls ≡ take i calls ++ (call ∷ []) = take_more calls i call there ∙ ap (λ (c : Call). take i calls ++ (c ∷ [])) (sym is) in
    let answers_are : take (i + 1) (set answers i a) ≡ take i answers ++ (a ∷ []) = take_more_set answers i a room in
    record {
      events = w.events ++ steps.0;
      played =
          subst (λ (cs : List Call). Played cs (take (i + 1) (set answers i a)) start (w.events ++ steps.0) m') (sym calls_are)
          (subst (λ (xs : List Answer). Played (take i calls ++ (call ∷ [])) xs start (w.events ++ steps.0) m') (sym answers_are) more);
      rest = ap (λ (k : ℕ). drop k (set answers i a)) (add-one i) ∙ drop_set answers i a ∙ drop_less answers before i w.rest ∙ ap (λ (k : ℕ). drop k before) (sym (add-one i));
    }

pub so_far_ends : (start : Moment) (calls : List Call) (before : List Answer) (i : ℕ) (answers : List Answer) (m : Moment) → i ≡ min (length calls) (length before) → SoFar start calls before i answers m → Worked start calls before i answers m
so_far_ends start calls before i answers m all w = record { number = all; rest = w.rest; events = w.events; played = w.played }

-- The events of what was played are a chain, and so are all of a run.
chain_append : (m n l : Moment) (xs ys : List Event) → Chain m xs n → Chain n ys l → Chain m (xs ++ ys) l
chain_append m n l [] ys same b = subst (λ (x : Moment). Chain x ys l) same b
chain_append m n l (x ∷ xs) ys (is, happens, rest) b = (is, happens, chain_append x.after n l xs ys rest b)

played_chain : (calls : List Call) (answers : List Answer) (m : Moment) (es : List Event) (m' : Moment) → Played calls answers m es m' → Chain m es m'
played_chain [] [] m es m' (none, same) = subst (λ (xs : List Event). Chain m xs m') (sym none) same
played_chain [] (b ∷ bs) m es m' h = absurd h
played_chain (c ∷ cs) [] m es m' h = absurd h
played_chain (c ∷ cs) (b ∷ bs) m es m' (first, more, mid, is, plays, rest) =
    subst (λ (xs : List Event). Chain m xs m') (sym is)
    (chain_append m mid m' first more (plays_chain c m b first mid plays) (played_chain cs bs mid more m' rest))

ends_chain : (m : Moment) (es : List Event) (e : Disk) → Ends m es e → Chain m es (closed e)
ends_chain (working h) es e x = made_ends (working h) es (closed e) x
ends_chain (closed d) es e (none, same) = subst (λ (xs : List Event). Chain (closed d) xs (closed e)) (sym none) (ap closed same)

pub ran : (d e : Disk) (calls : List Call) (before after : List Answer) (count : ℕ) (m : Moment) → Worked (closed d) calls before count after m → Ended m e → Ran d calls before e count after
ran d e calls before after count m w ended =
    record {
      end = m;
      worked = w;
      last = ended.0;
      ends = ended.1;
      chain =
          chain_append (closed d) m (closed e) w.events ended.0 (played_chain (take count calls) (take count after) (closed d) w.events m w.played) (ends_chain m ended.0 e ended.1);
    }
