-- What a format makes, what an opening finds again, and that no failing of power in it loses what is kept.
use Rattle.std.proofs.Common.{◌≡◌, ℕ, zero, suc, ◌<◌, ◌≤◌, false, ◌⊎◌, List, [], ◌∷◌, map, length, get_or, take, Ok, Err, sym, refl, ap, ◌∙◌, subst, inl, inr, ⊎_elim, arith}
use Rattle.arrayvec.specs.ArrayVec.{array_vec_len}
use mathlib.Core.Path.{fun_ext}
use Rattle.std.proofs.lemmas.List.{nil_from_length, take-take, drop_all, length-take-le, get_or-replicate}
use Rattle.device.specs.declared.fault.DeviceFault.TheVariants.{Power, Misaddressed, Unfit, Spoiled}
use Rattle.device.specs.Disk.{Disk, Plate, Shown, Stands}
use Rattle.device.specs.Meaning.{NothingNew, Quiet, Lost, Failed, Restarted}
use Rattle.device.specs.Trace.{Act, looked, wrote, settled, restarted, Cut, Done, CutShort}
use Rattle.device.proofs.Changes.{faded_failed, changed_cut}
use Rattle.device.proofs.Plans.{does_plate, done_plate}
use Rattle.journal.specs.Log.{log}
use Rattle.journal.specs.Opening.{Runs, Finds}
use Rattle.journal.proofs.Unique.{same_low, same_end, determined}
use Rattle.durability.specs.Standing.{Firm, OpensTo}
use Rattle.durability.proofs.Opening.{firm_opens, not_refused}
use Rattle.durability.proofs.Fresh.{formatted}
use Rattle.durability.proofs.Clearings.{cleared, clear_cut}
use Rattle.recovery.specs.declared.fault.RecoveryFault.{RecoveryFault}
use Rattle.recovery.specs.declared.fault.RecoveryFault.TheVariants.{Device, Size, NoLog, NoMark, Uncovered}
use Rattle.recovery.specs.Clearing.{clearing}
use Rattle.recovery.specs.Format.{formatting}
use Rattle.recovery.specs.declared.opening.Recovery.{Recovery}
use Rattle.recovery.specs.Opening.{Refuses, CutClearing, Recovers, Divides, NoRestart, Opens}
use Rattle.transactions.specs.declared.spool.Spooled.{Spooled}
use Rattle.transactions.specs.declared.fault.StoreFault.{StoreFault}
use Rattle.transactions.specs.declared.state.State.{State}
use Rattle.transactions.specs.Parts.{Spool, item_of, waiting}
use Rattle.transactions.specs.Fault.{number, from_recovery}
use Rattle.transactions.specs.State.{Formatted, Opened}
use Rattle.law.specs.Transactions.{Transaction, made_of, batch, AllProper}
use Rattle.law.proofs.History.{History, Resting, Recoverable, Safe, nothing_entered}

-- the same plate has the same log
divides_kept : (d e : Disk) (n : ℕ) → e.plate ≡ d.plate → Divides d.plate.sectors n → Divides e.plate.sectors n
divides_kept d e n same h = subst (λ (p : Plate). Divides p.sectors n) (sym same) h

-- A store at rest can lose power at any time: a restart shows what is shown now.
pub rest_safe : (n : ℕ) (d : Disk) (s : State) (h : History) → Resting n d s h → Safe n d h
rest_safe n d s h r =
    record {
      divides = r.divides;
      proper = r.proper;
      opens = λ shows choice.
          let same : shows ≡ d.shows = fun_ext (λ i. r.quiet i (shows i) (choice i)) in
          subst (λ (f : ℕ → Shown). Recoverable n f h) (sym same) here;
    }
  where
    here : Recoverable n d.shows h
    here =
        record {
          low = s.log.low;
          c = s.log.last;
          found = h.kept;
          at_least = omega arith;
          at_most = r.few;
          opens = firm_opens n d.shows s.log.low s.log.last h.kept (made_of (take h.kept h.entered)) r.firm;
        }

-- What is safe stays so where nothing new may stand.
pub safe_less : (n : ℕ) (d e : Disk) (h : History) → Safe n d h → e.plate ≡ d.plate → ((i : ℕ) → NothingNew d e i) → Safe n e h
safe_less n d e h w same old =
    record {
      divides = divides_kept d e n same w.divides;
      proper = w.proper;
      opens = λ shows choice. w.opens shows (λ i. old i (shows i) (choice i));
    }

pub safe_lost : (n : ℕ) (d e : Disk) (o : ℕ) (h : History) → Safe n d h → Lost d o e → Safe n e h
safe_lost n d e o h w l = safe_less n d e h w l.plate l.old

pub safe_failed : (n : ℕ) (d e : Disk) (o : ℕ) (h : History) → Safe n d h → Failed d o e → Safe n e h
safe_failed n d e o h w f = let l = faded_failed d e o f in safe_less n d e h w l.plate l.old

pub safe_restarted : (n : ℕ) (d e : Disk) (h : History) → Safe n d h → Restarted d e → Safe n e h
safe_restarted n d e h w r =
    safe_less n d e h w r.plate (λ i x stands. subst (λ (y : Shown). Stands d i y) (sym (r.quiet i x stands)) (r.chosen i))

-- an empty spool holds nothing
none_waits : (x : Spool) → array_vec_len x ≡ 0 → waiting x ≡ []
none_waits x none = ap (λ (xs : List Spooled). map item_of xs) (nil_from_length x.items none)

-- A new store has entered nothing.
pub new_rests : (d e : Disk) (s : State) (u : Unit {0}) → (f : Formatted d (Ok u) e s) → Resting f.0 e s nothing_entered
new_rests d e s u (n, (divides, done), fresh) =
    let new = formatted n d e (omega arith) done in
    let log = fresh.log in
    let idle = fresh.idle in
    let at : Firm n e.shows s.log.low s.log.last 0 (λ _. 0) =
    subst (λ (x : ℕ). Firm n e.shows x s.log.last 0 (λ _. 0)) (sym log.low_is)
    (subst (λ (x : ℕ). Firm n e.shows 1 x 0 (λ _. 0)) (sym log.last_is) new.0) in
    record {
      on = fresh.on;
      places = log.places_is;
      divides = divides_kept d e n (done_plate d e (formatting n) done) divides;
      quiet = new.1;
      firm = at;
      few = omega arith;
      proper = tt;
      number = log.ordinal_is;
      waits = none_waits s.spool idle.empty;
      room = omega arith;
      before = λ i h. ap (λ (x : List ℕ). get_or x i 0) (idle.before ∙ fresh.memory) ∙ get_or-replicate 6144 i 0 0 h;
    }

-- the transactions in the front of a list are proper where all are
proper_front : (k : ℕ) (ts : List Transaction) → AllProper ts → AllProper (take k ts)
proper_front zero ts h = tt
proper_front (suc k) [] h = tt
proper_front (suc k) (t ∷ ts) (first, rest) = (first, proper_front k ts rest)

-- what sectors open to, in the numbers that an opening of them gives
opens_as : (n : ℕ) (shows : ℕ → Shown) (low c k low' c' k' : ℕ) (ts : List Transaction) → low' ≡ low → c' ≡ c → k' ≡ k → OpensTo n shows low c k (made_of (take k ts)) → OpensTo n shows low' c' k' (made_of (take k' ts))
opens_as n shows low c k low' c' k' ts same end number o =
    subst (λ (x : ℕ). OpensTo n shows x c' k' (made_of (take k' ts))) (sym same)
    (subst (λ (x : ℕ). OpensTo n shows low x k' (made_of (take k' ts))) (sym end)
    (subst (λ (x : ℕ). OpensTo n shows low c x (made_of (take x ts))) (sym number) o))

-- What is entered and kept once an opening has found k transactions.
abbrev pub found_again : ℕ → History → History
found_again k h = record { entered = take k h.entered; kept = k }

-- An opening finds some of the first transactions, all kept ones among them, and the store rests on those.
pub open_found : (n : ℕ) (d e : Disk) (s : State) (h : History) (x : ℕ × ℕ) → Safe n d h → Opened d (Ok x) e s → (h.kept ≤ x.0) × (x.0 ≤ length h.entered) × ((i : ℕ) → i < 6144 → get_or s.image.memory i 0 ≡ made_of (take x.0 h.entered) i) × Resting n e s (found_again x.0 h)
open_found n d e s h x w o =
    let k : ℕ = x.0 in
    let ts = h.entered in
    let low : ℕ = s.log.low in
    let last : ℕ = s.log.last in
    let m = o.restarted in
    let r = w.opens m.shows o.restart.chosen in
    let places : o.places ≡ n = omega (arith, w.divides.homes, o.divides.homes) in
    let finds : Finds n m.shows k x.1 low last s.image.memory =
    subst (λ (p : ℕ). Finds p m.shows k x.1 low last s.image.memory) places o.finds in
    let one = determined n m.shows r.found r.opens.count r.low r.c r.opens.bytes k x.1 low last s.image.memory r.opens.finds finds in
    let again = opens_as n m.shows r.low r.c r.found low last k ts one.2 one.3 one.0 r.opens in
    let done : Done m (clearing n m.shows last) e = subst (λ (p : ℕ). Done m (clearing p m.shows last) e) places o.cleared in
    let some : 1 ≤ n = omega (arith, w.divides.least) in
    let stands = cleared n m e low last k (made_of (take k ts)) some again o.restart.quiet done in
    let firm = stands.0 in
    let least : h.kept ≤ k = omega (arith, one.0, r.at_least) in
    let most : k ≤ length ts = omega (arith, one.0, r.at_most) in
    let long : length (take k ts) ≡ k = length-take-le k ts most in
    let memory : (i : ℕ) → i < 6144 → get_or s.image.memory i 0 ≡ made_of (take k ts) i =
    λ i small.
    ap (λ (ys : List ℕ). get_or ys i 0) one.4 ∙ r.opens.agrees i small
    ∙ ap (λ (j : ℕ). made_of (take j ts) i) (sym one.0) in (
      least,
      most,
      memory,
      record {
        on = o.on;
        places = o.log_of ∙ places;
        divides = divides_kept d e n (done_plate m e (clearing n m.shows last) done ∙ o.restart.plate) w.divides;
        quiet = stands.1;
        firm = subst (λ (ys : List Transaction). Firm n e.shows low last k (made_of ys)) (sym (take-take k k ts (omega arith))) firm;
        few = omega arith;
        proper = proper_front k ts w.proper;
        number = o.number ∙ sym long;
        waits = none_waits s.spool o.idle.empty ∙ ap (λ (ys : List Transaction). batch k ys) (sym (drop_all k (take k ts) (omega arith)));
        room = omega (arith, firm.near, firm.from, o.idle.empty);
        before = λ i small. ap (λ (ys : List ℕ). get_or ys i 0) o.idle.before ∙ memory i small;
      },
    )

-- power that fails in a plan leaves the plate as it was
cut_plate : (a : Act) (d e : Disk) (o : ℕ) → Cut a d o e → e.plate ≡ d.plate
cut_plate looked d e o h = (faded_failed d e o h).plate
cut_plate (wrote s bytes) d e o h = (changed_cut d e s bytes o h).plate
cut_plate settled d e o h = (faded_failed d e o h).plate
cut_plate restarted d e o h = h.plate

pub short_plate : (d e : Disk) (plan : List Act) (o : ℕ) → CutShort d plan o e → e.plate ≡ d.plate
short_plate d e [] o h = absurd h
short_plate d e (a ∷ plan) o (inl h) = cut_plate a d e o h
short_plate d e (a ∷ plan) o (inr (m, does, rest)) = short_plate m e plan o rest ∙ does_plate a d m does

-- A clearing that power cuts leaves all that it would have kept.
safe_clearing : (n : ℕ) (d e : Disk) (o : ℕ) (h : History) → Safe n d h → Quiet d → CutClearing n d o e → Safe n e h
safe_clearing n d e o h w quiet k =
    let l = log n d.shows in
    let r = w.opens d.shows (λ i. inl refl) in
    let f = r.opens.finds in
    let same = same_low l r.low k.low f.names k.names in
    let end = same_end l r.low r.c k.c f.run (subst (λ (x : ℕ). Runs l x k.c) same k.run) in
    let cut : CutShort d (clearing n d.shows r.c) o e = subst (λ (x : ℕ). CutShort d (clearing n d.shows x) o e) end k.cut in
    let some : 1 ≤ n = omega (arith, w.divides.least) in
    record {
      divides = divides_kept d e n (short_plate d e (clearing n d.shows r.c) o cut) w.divides;
      proper = w.proper;
      opens = λ shows choice.
          record {
            low = r.low;
            c = r.c;
            found = r.found;
            at_least = r.at_least;
            at_most = r.at_most;
            opens = clear_cut n d e o r.low r.c r.found (made_of (take r.found h.entered)) some r.opens quiet cut shows choice;
          };
    }

-- What is safe is not refused.
safe_found : (n : ℕ) (d : Disk) (h : History) (g : RecoveryFault) → Safe n d h → Refuses n d.shows g → ⊥
safe_found n d h g w =
    let r = w.opens d.shows (λ i. inl refl) in
    not_refused n d.shows r.low r.c r.found (made_of (take r.found h.entered)) g r.opens

-- All that can fail in an opening is power, and then what was safe is safe.
abbrev Spared : ℕ → Disk → History → RecoveryFault → Type 0
Spared n e h g = (number (from_recovery g) ≡ 1) × Safe n e h

recovery_failed : (n : ℕ) (d e : Disk) (h : History) (memory : List ℕ) (g : RecoveryFault) → Safe n d h → Quiet d → Recovers n d (Err g) e memory → Spared n e h g
recovery_failed n d e h memory (Device (Power o)) w quiet r =
    (refl, ⊎_elim (λ f. safe_failed n d e o h w f) (λ k. safe_clearing n d e o h w quiet k) r)
recovery_failed n d e h memory (Device (Misaddressed t o)) w quiet r = absurd r
recovery_failed n d e h memory (Device Unfit) w quiet r = absurd r
recovery_failed n d e h memory (Device (Spoiled t o)) w quiet r = absurd r
recovery_failed n d e h memory (Size count) w quiet r = absurd (safe_found n d h (Size count) w r.1)
recovery_failed n d e h memory NoLog w quiet r = absurd (safe_found n d h NoLog w r.1)
recovery_failed n d e h memory (NoMark low) w quiet r = absurd (safe_found n d h (NoMark low) w r.1)
recovery_failed n d e h memory (Uncovered page) w quiet r = absurd (safe_found n d h (Uncovered page) w r.1)

restart_failed : (n : ℕ) (d e : Disk) (h : History) (g : RecoveryFault) → Safe n d h → NoRestart {A = Recovery} d (Err g) e → Spared n e h g
restart_failed n d e h (Device (Power o)) w r = (refl, safe_lost n d e o h w r)
restart_failed n d e h (Device (Misaddressed t o)) w r = absurd r
restart_failed n d e h (Device Unfit) w r = absurd r
restart_failed n d e h (Device (Spoiled t o)) w r = absurd r
restart_failed n d e h (Size count) w r = absurd r
restart_failed n d e h NoLog w r = absurd r
restart_failed n d e h (NoMark low) w r = absurd r
restart_failed n d e h (Uncovered page) w r = absurd r

-- a device that has room for a log is not refused for its size
right_size : (sectors n : ℕ) → Divides sectors n → (sectors < 224) ⊎ (1088 < sectors) → ⊥
right_size sectors n h (inl small) = omega arith
right_size sectors n h (inr large) = omega arith

opening_failed : (n : ℕ) (d e : Disk) (h : History) (memory : List ℕ) (g : RecoveryFault) → Safe n d h → Opens d (Err g) e memory → Spared n e h g
opening_failed n d e h memory g w (inl (count, _, (_, size), _)) = absurd (right_size d.plate.sectors n w.divides size)
opening_failed n d e h memory g w (inr (places, divides, inl r)) = restart_failed n d e h g w r
opening_failed n d e h memory g w (inr (places, divides, inr (m, restart, r))) =
    let same : places ≡ n = omega (arith, w.divides.homes, divides.homes) in
    recovery_failed n m e h memory g (safe_restarted n d m h w restart) restart.quiet (subst (λ (p : ℕ). Recovers p m (Err g) e memory) same r)

pub open_failed : (n : ℕ) (d e : Disk) (s : State) (h : History) (f : StoreFault) → Safe n d h → Opened d (Err f) e s → (number f ≡ 1) × (s.on ≡ false) × Safe n e h
open_failed n d e s h f w (g, memory, same, opening, blank) =
    let spared = opening_failed n d e h memory g w opening in
    (ap number same ∙ spared.0, blank.off, spared.1)
