-- Homes of covered pages are written: the log stands firm all the while.
use Rattle.std.proofs.Common.{◌≡◌, ℕ, ◌+◌, ◌<◌, ◌≤◌, List, [], ◌∷◌, ◌++◌, get_or, sym, refl, ap, ◌∙◌, subst, inl, inr, ⊎_elim, arith}
use Rattle.device.specs.Disk.{Disk, Shown, Among}
use Rattle.device.specs.Trace.{Act, wrote, settled}
use Rattle.device.proofs.Membership.{among_left, among_split}
use Rattle.record.specs.Entry.{Entry}
use Rattle.journal.specs.Log.{log}
use Rattle.journal.specs.Opening.{Covers}
use Rattle.journal.proofs.Places.{same_log}
use Rattle.durability.specs.Standing.{Firm, Choice}
use Rattle.durability.specs.Promises.{Covered, BeforeHomes, home_of, homing, Homed, HomeCut}
use Rattle.durability.proofs.Writes.{Steady, Written, Left, Spares, steady_append, left_done, left_short, chosen, unwritten, shown_spared, shown_written, quiet_settled, settling_writes}
use Rattle.durability.proofs.Opening.{firm_opens}
use Rattle.durability.proofs.Carried.{firm_kept}

-- This write is of the home of a page among these.
pub record HomeOf (n : ℕ) (memory : List ℕ) (ps : List ℕ) (i : ℕ) (bytes : List ℕ) : Type 0 where
  pub page : ℕ
  pub at : i ≡ n + page
  pub among : Among page ps
  pub bytes_are : bytes ≡ home_of memory page

-- every write of the plan is of a home,
homing_only : (n : ℕ) (memory ps : List ℕ) (i : ℕ) (bytes : List ℕ) → Among (wrote i bytes) (homing n memory ps) → HomeOf n memory ps i bytes
homing_only n memory [] i bytes h = absurd h
homing_only n memory (p ∷ ps) i bytes (inl e) = record { page = p; at = cc; among = inl refl; bytes_are = cc }
homing_only n memory (p ∷ ps) i bytes (inr h) =
    let w = homing_only n memory ps i bytes h in
    record { page = w.page; at = w.at; among = inr w.among; bytes_are = w.bytes_are }

-- and each page's home is written
homing_all : (n : ℕ) (memory ps : List ℕ) (p : ℕ) → Among p ps → Among (wrote (n + p) (home_of memory p)) (homing n memory ps)
homing_all n memory [] p h = absurd h
homing_all n memory (q ∷ ps) p (inl e) = inl (ap (λ (x : ℕ). wrote (n + x) (home_of memory x)) e)
homing_all n memory (q ∷ ps) p (inr h) = inr (homing_all n memory ps p h)

homing_steady : (n : ℕ) (memory ps : List ℕ) → Steady (homing n memory ps)
homing_steady n memory [] = tt
homing_steady n memory (p ∷ ps) = homing_steady n memory ps

-- the same with the barrier after it
abbrev plan : ℕ → List ℕ → List ℕ → List Act
plan n memory ps = homing n memory ps ++ (settled ∷ [])

plan_only : (n : ℕ) (memory ps : List ℕ) (i : ℕ) (bytes : List ℕ) → Among (wrote i bytes) (plan n memory ps) → HomeOf n memory ps i bytes
plan_only n memory ps i bytes h =
    ⊎_elim
    (λ first. homing_only n memory ps i bytes first)
    (λ last. absurd (settling_writes i bytes last))
    (among_split (wrote i bytes) (homing n memory ps) (settled ∷ []) h)

plan_steady : (n : ℕ) (memory ps : List ℕ) → Steady (plan n memory ps)
plan_steady n memory ps = steady_append (homing n memory ps) (settled ∷ []) (homing_steady n memory ps) tt

-- no place of the log is written
log_spared : (n : ℕ) (memory ps : List ℕ) (i : ℕ) → i < n → Spares (plan n memory ps) i
log_spared n memory ps i h bytes k = omega (arith, (plan_only n memory ps i bytes k).at)

covered_page : (n : ℕ) (shows : ℕ → Shown) (low last : ℕ) (ps : List ℕ) (p : ℕ) → Covered n shows low last ps → Among p ps → Covers (log n shows) low last p
covered_page n shows low last [] p c h = absurd h
covered_page n shows low last (q ∷ ps) p c (inl e) = subst (λ (x : ℕ). Covers (log n shows) low last x) (sym e) c.1
covered_page n shows low last (q ∷ ps) p c (inr h) = covered_page n shows low last ps p c.2 h

-- whatever may stand then is a firm log
homes_firm : (n : ℕ) (d e : Disk) (low last ordinal : ℕ) (memory ps : List ℕ) → BeforeHomes n d low last ordinal memory ps → Left d (plan n memory ps) e → (shows : ℕ → Shown) → Choice e shows → Firm n shows low last ordinal (λ i. get_or memory i 0)
homes_firm n d e low last ordinal memory ps b left shows c =
    let acts = plan n memory ps in
    let same : (s : ℕ) → log n shows s ≡ log n d.shows s =
    same_log n d.shows shows (λ p h. unwritten d e acts b.quiet left shows c p (log_spared n memory ps p h)) in
    firm_kept n d.shows shows low last ordinal (λ i. get_or memory i 0) b.firm
    (λ s _ _. same s)
    (λ s h. b.firm.above s (subst (λ (x : Entry). 1 ≤ x.kind) (same s) h))
    (λ p small.
    ⊎_elim
    inl
    (λ (w : Written acts (n + p) (shows (n + p))).
    let k = plan_only n memory ps (n + p) w.0 w.1 in
    let q : k.page ≡ p = omega (arith, k.at) in
    inr (covered_page n d.shows low last ps p b.covered (subst (λ (x : ℕ). Among x ps) q k.among)))
    (chosen d e acts b.quiet left shows c (n + p)))

pub homed : Homed
homed n d e low last ordinal memory ps b h =
    let acts = plan n memory ps in
    let calm = plan_steady n memory ps in (
      homes_firm n d e low last ordinal memory ps b (left_done d e acts calm h) e.shows (λ i. inl refl),
      quiet_settled d e (homing n memory ps) h,
      λ p small k.
          shown_written d e acts (n + p) (home_of memory p) calm
          (among_left (wrote (n + p) (home_of memory p)) (homing n memory ps) (settled ∷ []) (homing_all n memory ps p k))
          (λ other w.
          let o = plan_only n memory ps (n + p) other w in
          let q : o.page ≡ p = omega (arith, o.at) in
          o.bytes_are ∙ ap (λ (x : ℕ). home_of memory x) q)
          h,
      λ p small none.
          shown_spared d e acts calm h (n + p)
          (λ bytes w.
          let o = plan_only n memory ps (n + p) bytes w in
          let q : o.page ≡ p = omega (arith, o.at) in
          none (subst (λ (x : ℕ). Among x ps) q o.among)),
      same_log n d.shows e.shows (λ p k. shown_spared d e acts calm h p (log_spared n memory ps p k)),
    )

pub home_cut : HomeCut
home_cut n d e o low last ordinal memory ps b h shows c =
    firm_opens n shows low last ordinal (λ i. get_or memory i 0)
    (homes_firm n d e low last ordinal memory ps b (left_short d e (plan n memory ps) o (plan_steady n memory ps) h) shows c)
