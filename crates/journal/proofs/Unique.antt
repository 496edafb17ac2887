-- What an opening finds is determined by what the sectors show.
use Rattle.std.proofs.Common.{◌≡◌, ℕ, ◌+◌, ◌<◌, List, length, sym, ap, ◌∙◌, subst, ⊎_elim, arith}
use Rattle.std.proofs.lemmas.List.{same_lists, get_or_default}
use Rattle.std.proofs.lemmas.Bool.{cases_lt}
use Rattle.device.specs.Disk.{Shown}
use Rattle.record.specs.Entry.{Entry}
use Rattle.journal.specs.Log.{log}
use Rattle.journal.specs.Opening.{Names, Runs, Determined, Remembers, strays}

pub same_low : (log : ℕ → Entry) (low low' : ℕ) → Names log low → Names log low' → low' ≡ low
same_low log low low' n n' =
    let e : n'.top ≡ n.top = omega (arith, n.greatest n'.top n'.here, n'.greatest n.top n.here) in
    sym n'.named ∙ ap (λ s. (log s).low) e ∙ n.named

-- the run from low ends in one place
not_further : (log : ℕ → Entry) (low c c' : ℕ) (r : Runs log low c) (r' : Runs log low c') → r.last < r'.last → ⊥
not_further log low c c' r r' h = omega (arith, r'.unbroken (r.last + 1) (omega (arith, r.from, r.to)) (omega arith), r.gap)

same_last : (log : ℕ → Entry) (low c c' : ℕ) (r : Runs log low c) (r' : Runs log low c') → r'.last ≡ r.last
same_last log low c c' r r' =
    ⊎_elim
    (λ h. absurd (not_further log low c c' r r' h))
    (λ h. ⊎_elim (λ k. absurd (not_further log low c' c r' r k)) (λ k. omega arith) (cases_lt r'.last r.last))
    (cases_lt r.last r'.last)

no_later : (log : ℕ → Entry) (low c c' : ℕ) (r : Runs log low c) (r' : Runs log low c') → r'.last ≡ r.last → c < c' → ⊥
no_later log low c c' r r' e h = omega (arith, r.greatest c' h (omega (arith, r'.to)), r'.ends)

pub same_end : (log : ℕ → Entry) (low c c' : ℕ) → Runs log low c → Runs log low c' → c' ≡ c
same_end log low c c' r r' =
    let e = same_last log low c c' r r' in
    ⊎_elim
    (λ h. absurd (no_later log low c c' r r' e h))
    (λ h. ⊎_elim (λ k. absurd (no_later log low c' c r' r (sym e) k)) (λ k. omega arith) (cases_lt c' c))
    (cases_lt c c')

same_memory : (n : ℕ) (shows : ℕ → Shown) (low c : ℕ) (memory memory' : List ℕ) → length memory ≡ 6144 → length memory' ≡ 6144 → Remembers n shows low c memory → Remembers n shows low c memory' → memory' ≡ memory
same_memory n shows low c memory memory' l l' m m' =
    same_lists memory' memory (l' ∙ sym l) (λ k d h. get_or_default memory' k d 0 h ∙ m' k (omega arith) ∙ sym (m k (omega arith)) ∙ get_or_default memory k 0 d (omega arith))

moved_memory : (n : ℕ) (shows : ℕ → Shown) (low c low' c' : ℕ) (memory : List ℕ) → low' ≡ low → c' ≡ c → Remembers n shows low' c' memory → Remembers n shows low c memory
moved_memory n shows low c low' c' memory e f m =
    subst (λ (x : ℕ). Remembers n shows low x memory) f (subst (λ (x : ℕ). Remembers n shows x c' memory) e m)

pub determined : Determined
determined n shows ordinal count low c memory ordinal' count' low' c' memory' f f' =
    let same = same_low (log n shows) low low' f.names f'.names in
    let end = same_end (log n shows) low c c' f.run (subst (λ (x : ℕ). Runs (log n shows) x c') same f'.run) in (
      f'.number ∙ ap (λ s. (log n shows s).ordinal) end ∙ sym f.number,
      f'.astray ∙ ap (λ s. strays n shows s n) end ∙ sym f.astray,
      same,
      end,
      same_memory n shows low c memory memory' f.bytes f'.bytes f.memory_is (moved_memory n shows low c low' c' memory' same end f'.memory_is),
    )
