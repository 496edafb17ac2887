-- Records written one after another.
use Rattle.std.proofs.Common.{◌≡◌, ℕ, suc, ◌+◌, ◌%◌, ◌<◌, ◌≤◌, List, [], ◌∷◌, ◌++◌, map, length, get_or, drop, Err, sym, refl, ap, ◌∙◌, subst, arith, length-append}
use Rattle.std.proofs.lemmas.List.{length-map, get_or-map, drop_all, drop_more}
use Rattle.arrayvec.specs.ArrayVec.{array_vec_len}
use Rattle.device.specs.declared.fault.DeviceFault.{DeviceFault}
use Rattle.device.specs.Disk.{Disk}
use Rattle.device.specs.Trace.{Act, wrote, Done, Tries}
use Rattle.device.proofs.Plans.{Working, plan_goes, work_ends, work_cut, done_plate}
use Rattle.record.specs.Entry.{laid_out}
use Rattle.durability.specs.Items.{Item, recorded, appending}
use Rattle.image.specs.declared.run.Piece.{Piece}
use Rattle.image.specs.Calls.{none, declared}
use Rattle.image.specs.Cut.{cut_runs}
use Rattle.transactions.specs.declared.state.State.{State}
use Rattle.transactions.specs.Parts.{Spool, parts, item_of, waiting}
use Rattle.transactions.specs.State as state

-- A plan goes on by its next act, or is cut in it.
pub going_on : (start here e : Disk) (all left rest : List Act) (a : Act) → left ≡ a ∷ rest → Working start all here left → Done here (a ∷ []) e → Working start all e rest
going_on start here e all left rest a next w done =
    plan_goes start here e all (a ∷ []) rest (subst (λ (p : List Act). Working start all here p) next w) done (done_plate here e (a ∷ []) done)

pub going_cut : (start here e : Disk) (all left rest : List Act) (a : Act) (f : DeviceFault) → left ≡ a ∷ rest → Working start all here left → Tries here (a ∷ []) (Err f) e
    → Tries start all (Err f) e
going_cut start here e all left rest a f next w did = work_cut start here e all rest a f (subst (λ (p : List Act). Working start all here p) next w) did

pub going_ends : (start here : Disk) (all left : List Act) → left ≡ [] → Working start all here left → Done start all here
going_ends start here all left none w = work_ends start here all (subst (λ (p : List Act). Working start all here p) none w)

-- a device has as many sectors as it had
pub still_room : (n : ℕ) (start here : Disk) (all left : List Act) → Working start all here left → n ≤ start.plate.sectors → n ≤ here.plate.sectors
still_room n start here all left w h = omega (arith, ap (λ v. v.sectors) w.plate)

-- The record with serial s is written.
abbrev pub written_as : ℕ → ℕ → ℕ → Item → Act
written_as n low s x = wrote (s % n) (laid_out (recorded low s x))

-- What is left to write after i of the items.
abbrev pub left : ℕ → ℕ → ℕ → List Item → ℕ → List Act
left n low last xs i = appending n low (last + i) (drop i xs)

-- All the items were to be written from `start`, and i of them are.
abbrev pub Appending : ℕ → ℕ → ℕ → List Item → Disk → Disk → ℕ → Type 0
Appending n low last xs start here i = Working start (appending n low last xs) here (left n low last xs i)

-- what is left begins with the next item
left_next : (n low last i : ℕ) (x : Item) (xs : List Item) → drop i xs ≡ x ∷ drop (i + 1) xs → left n low last xs i ≡ written_as n low (last + 1 + i) x ∷ left n low last xs (i + 1)
left_next n low last i x xs h =
    let e : last + i + 1 ≡ last + 1 + i = omega arith in
    let f : last + 1 + i ≡ last + (i + 1) = omega arith in
    ap (λ (ys : List Item). appending n low (last + i) ys) h
    ∙ ap (λ (s : ℕ). written_as n low s x ∷ appending n low s (drop (i + 1) xs)) e
    ∙ ap (λ (s : ℕ). written_as n low (last + 1 + i) x ∷ appending n low s (drop (i + 1) xs)) f

-- one item more is written
pub append_goes : (n low last i : ℕ) (x : Item) (xs : List Item) (start here e : Disk) → drop i xs ≡ x ∷ drop (i + 1) xs → Appending n low last xs start here i
    → Done here (written_as n low (last + 1 + i) x ∷ []) e → Appending n low last xs start e (i + 1)
append_goes n low last i x xs start here e next =
    going_on start here e (appending n low last xs) (left n low last xs i) (left n low last xs (i + 1)) (written_as n low (last + 1 + i) x) (left_next n low last i x xs next)

-- power failed in writing the next
pub append_cut : (n low last i : ℕ) (x : Item) (xs : List Item) (start here e : Disk) (f : DeviceFault) → drop i xs ≡ x ∷ drop (i + 1) xs → Appending n low last xs start here i
    → Tries here (written_as n low (last + 1 + i) x ∷ []) (Err f) e → Tries start (appending n low last xs) (Err f) e
append_cut n low last i x xs start here e f next =
    going_cut start here e (appending n low last xs) (left n low last xs i) (left n low last xs (i + 1)) (written_as n low (last + 1 + i) x) f (left_next n low last i x xs next)

-- all are written
pub append_ends : (n low last i : ℕ) (xs : List Item) (start here : Disk) → length xs ≤ i → Appending n low last xs start here i → Done start (appending n low last xs) here
append_ends n low last i xs start here h =
    going_ends start here (appending n low last xs) (left n low last xs i) (ap (appending n low (last + i)) (drop_all i xs h))

-- the next of a list is x, seen through f; ys is the list by another name
pub next_seen : {X : Type 0} (f : X → Item) (xs ys : List X) (i : ℕ) (x : X) → x ≡ get_or xs i x → xs ≡ ys → i < length xs
    → drop i (map f ys) ≡ f x ∷ drop (i + 1) (map f ys)
next_seen {X = X} f xs ys i x here same h =
    let there : i < length (map f xs) = simp length-map h in
    subst (λ (zs : List X). drop i (map f zs) ≡ f x ∷ drop (i + 1) (map f zs)) same
    (drop_more (map f xs) i (f x) there ∙ ap (λ (y : Item). y ∷ drop (i + 1) (map f xs)) (get_or-map f xs i x (f x) h ∙ ap f (sym here)))

-- the next of a list of numbers; ys is the list by another name
pub next_left : (xs ys : List ℕ) (i : ℕ) → xs ≡ ys → i < length xs → drop i ys ≡ get_or xs i 0 ∷ drop (i + 1) ys
next_left xs ys i same h = subst (λ (zs : List ℕ). drop i zs ≡ get_or xs i 0 ∷ drop (i + 1) zs) same (drop_more xs i 0 h)

pub length_parts : (o : ℕ) (memory : List ℕ) (ps : List Piece) → length (parts o memory ps) ≡ length ps
length_parts o memory [] = refl
length_parts o memory (p ∷ ps) = ap suc (length_parts o memory ps)

-- what waits, and what a state's transaction becomes
pub length_waiting : (s : Spool) → length (waiting s) ≡ array_vec_len s
length_waiting s = length-map s.items item_of

pub length_own : (s : State) → length (state.own s) ≡ length (cut_runs (declared s.image))
length_own s = length_parts (s.log.ordinal + 1) s.image.memory (cut_runs (declared s.image))

pub length_all : (s : State) → length (waiting s.spool ++ state.own s) ≡ array_vec_len s.spool + length (state.own s)
length_all s = omega (arith, length-append (waiting s.spool) (state.own s), length_waiting s.spool)
