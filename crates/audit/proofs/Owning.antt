-- Chain after chain, each cell has its one owner.
use Rattle.std.proofs.Common.{◌≡◌, ℕ, ◌+◌, ◌<◌, ◌≤◌, List, Some, None, Option, sym, ◌∙◌, subst, ⊎_elim, arith}
use Rattle.std.proofs.lemmas.Bool.{cases_lt}
use Rattle.book.specs.Layout.{head_at}
use Rattle.book.specs.Book.{Book, Chains, cells_of}
use Rattle.book.proofs.Chaining.{numbers}
use Rattle.audit.specs.Owners.{index_at, Walk, Among, owner, Fresh, Followed, Listed, Met, Owned}
use Rattle.audit.proofs.Walks.{walk_same, walk_in, chain_walks, among_lies}
use Rattle.audit.proofs.Marking.{cases_option}

-- Before the first chain no cell has an owner.
pub nothing_owned : (f : ℕ → ℕ) (owners : List (Option ℕ)) → ((n : ℕ) → owner owners n ≡ None) → Owned f owners 0
nothing_owned f owners none =
    record {
      listed = λ c h. absurd (omega arith);
      met = λ n c i h. absurd (let e : Some c ≡ None = sym h ∙ none n in cc);
    }

-- One more chain.
pub one_owned : (f : ℕ → ℕ) (before after : List (Option ℕ)) (k : ℕ) → Owned f before k → Followed f before after k → Owned f after (k + 1)
one_owned f before after k owned w =
    let m = w.marked in
    record {
      listed = λ c h.
          ⊎_elim
          (λ (below : c < k).
          let l = owned.listed c below in
          record {
            cells = l.cells;
            walk = l.walk;
            here = λ n among.
                let was = l.here n among in
                ⊎_elim
                (λ (again : Among n w.cells × (owner after n ≡ Some k)). absurd (let e : Some c ≡ None = sym was ∙ m.fresh n again.0 in cc))
                (λ (same : owner after n ≡ owner before n). same ∙ was)
                (m.only n (walk_in f (index_at f (head_at c)) n l.cells l.walk among));
          })
          (λ (last : k ≤ c).
          let e : k ≡ c = omega arith in
          subst (λ (j : ℕ). Listed f after j) e (record { cells = w.cells; walk = w.walk; here = m.here }))
          (cases_lt c k);
      met = λ n c i h.
          ⊎_elim
          (λ (here : Among n w.cells × (owner after n ≡ Some k)).
          let found : Met f n k = record { cells = w.cells; walk = w.walk; among = here.0 } in
          let options : Some k ≡ Some c = sym here.1 ∙ h in
          let e : k ≡ c = cc in
          (omega arith, subst (λ (j : ℕ). Met f n j) e found))
          (λ (same : owner after n ≡ owner before n).
          let was = owned.met n c i (sym same ∙ h) in
          (omega (arith, was.0), was.1))
          (m.only n i);
    }

-- A cell that was met on a chain lies on that chain of any book.
pub met_lies : (f : ℕ → ℕ) (b : Book) (n c : ℕ) → Chains f b → c < 81 → Met f n c → Among n (numbers (cells_of b c))
met_lies f b n c chains h met =
    subst (λ (ns : List ℕ). Among n ns)
    (walk_same f (index_at f (head_at c)) met.cells (numbers (cells_of b c)) met.walk (chain_walks f (head_at c) (cells_of b c) (chains.chain c h)))
    met.among

-- So where a chain cannot be followed there is no book.
pub no_book : (f : ℕ → ℕ) (owners : List (Option ℕ)) (k : ℕ) → Owned f owners k → k < 81
    → ((ns : List ℕ) → Walk f (index_at f (head_at k)) ns → Fresh owners ns → ⊥)
    → (b : Book) → Chains f b → ⊥
no_book f owners k owned h none b chains =
    let ns = numbers (cells_of b k) in
    let walk = chain_walks f (head_at k) (cells_of b k) (chains.chain k h) in
    none ns walk
    (λ n among.
    ⊎_elim
    (λ (e : owner owners n ≡ None). e)
    (λ (c, e).
    let met = owned.met n c (walk_in f (index_at f (head_at k)) n ns walk among) e in
    let below : c < 81 = omega (arith, met.0) in
    let same : c ≡ k = chains.one n c k below h (among_lies n (cells_of b c) (met_lies f b n c chains below met.1)) (among_lies n (cells_of b k) among) in
    absurd (omega (arith, met.0)))
    (cases_option (owner owners n)))
