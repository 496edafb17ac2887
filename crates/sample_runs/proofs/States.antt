-- The states that a store goes through.
use Rattle.std.proofs.Common.{◌≡◌, ℕ, ◌+◌, ◌^◌, ◌<◌, ◌≤◌, Bool, true, false, List, [], ◌∷◌, length, replicate, refl, arith}
use Rattle.std.proofs.lemmas.List.{length-replicate}
use Rattle.arrayvec.specs.ArrayVec.{array_vec_len}
use Rattle.journal.specs.Pages.{unsaid}
use Rattle.image.specs.declared.runs.Runs.{Runs}
use Rattle.image.specs.declared.state.Image.{Image}
use Rattle.image.specs.Runs.{run}
use Rattle.transactions.specs.declared.log.Log.{Log}
use Rattle.transactions.specs.declared.state.State.{State}
use Rattle.transactions.specs.Parts.{Spool}

abbrev pub zeros : List ℕ
zeros = replicate 6144 0

abbrev pub no_runs : Runs
no_runs = record { items = record { items = [] }; apart = ∣ tt ∣₁; inside = ∣ tt ∣₁ }

-- Byte 0 is declared.
abbrev pub one_run : Runs
one_run =
    record {
      items = record { items = run 0 1 ∷ [] };
      apart = ∣ (omega arith, omega arith, tt) ∣₁;
      inside = ∣ (omega arith, tt) ∣₁;
    }

-- A memory that is as at begin.
abbrev pub image_of : (memory : List ℕ) → length memory ≡ 6144 → Runs → Image
image_of memory whole runs = record { memory = memory; before = memory; runs = runs; whole = whole; kept = whole; same = λ _ _. refl }

abbrev pub log_of : ℕ → ℕ → ℕ → Log
log_of low last ordinal = record { places = 160; low = low; last = last; ordinal = ordinal; least = omega arith; most = omega arith }

abbrev pub no_spool : Spool
no_spool = record { items = [] }

-- A store with these in its spool.
abbrev pub state_of : Image → (spool : Spool) (low last ordinal : ℕ) → last + array_vec_len spool < 2 ^ 63 → ordinal ≤ last + array_vec_len spool → (busy on : Bool) → State
state_of image spool low last ordinal far numbered busy on =
    record {
      image = image;
      spool = spool;
      log = log_of low last ordinal;
      pages = unsaid;
      busy = busy;
      on = on;
      bounded = far;
      numbered = numbered;
    }

-- byte 0, as the last part of transaction 2
abbrev pub one_part : Spool
one_part =
    record {
      items =
          record { ordinal = 2; page = 0; offset = 0; size = 1; last = true; bytes = 0 ∷ replicate 95 0; paged = omega arith; some = omega arith; within = omega arith; sized = refl }
          ∷ [];
    }

pub zeros_long : length zeros ≡ 6144
zeros_long = length-replicate {A = ℕ} 6144 0

abbrev pub clean : Image
clean = image_of zeros zeros_long no_runs

abbrev pub dirty : Image
dirty = image_of zeros zeros_long one_run

-- A new store; a transaction is open; byte 0 is declared; it is committed with flush.
abbrev pub made_new : State
made_new = state_of clean no_spool 1 1 0 (omega arith) (omega arith) false true

abbrev pub first_begun : State
first_begun = state_of clean no_spool 1 1 0 (omega arith) (omega arith) true true

abbrev pub first_declared : State
first_declared = state_of dirty no_spool 1 1 0 (omega arith) (omega arith) true true

abbrev pub first_kept : State
first_kept = state_of clean no_spool 1 2 1 (omega arith) (omega arith) false true

-- The same once more; it waits. Then power fails.
abbrev pub second_begun : State
second_begun = state_of clean no_spool 1 2 1 (omega arith) (omega arith) true true

abbrev pub second_declared : State
second_declared = state_of dirty no_spool 1 2 1 (omega arith) (omega arith) true true

abbrev pub second_waits : State
second_waits = state_of clean one_part 1 2 2 (omega arith) (omega arith) false true

abbrev pub second_cut : State
second_cut = state_of clean one_part 1 2 2 (omega arith) (omega arith) false false

-- An opening that was cut leaves a blank store.
abbrev pub blank_store : State
blank_store = state_of clean no_spool 0 0 0 (omega arith) (omega arith) false false

-- The first transaction was found, with this memory.
abbrev pub reopened : (memory : List ℕ) → length memory ≡ 6144 → State
reopened memory whole = state_of (image_of memory whole no_runs) no_spool 1 2 1 (omega arith) (omega arith) false true
