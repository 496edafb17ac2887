-- What the tests of a memory's parts say of the whole.
use Rattle.std.proofs.Common.{◌≡◌, ℕ, ◌<◌, ◌↔◌, IsTrue, Bool, true, false, List, Option}
use Rattle.std.proofs.lemmas.Bool.{false≢true}
use Rattle.book.specs.Book.{Book, Money, Chains, Records, Zeros, Holds}
use Rattle.audit.specs.Judging.{Judged, MoneyJudged, CellsJudged}
use Rattle.audit.specs.Owners.{Owned}
use Rattle.audit.specs.Contents.{AllFit, Once}
use Rattle.audit.proofs.Gathering.{Found, gathered, gathered_chains, gathered_records}
use Rattle.audit.proofs.Knowing.{book_fits, book_once}

-- The money of one book, and the cells of another.
joined : Book → Book → Book
joined m c = record { issued = m.issued; balances = m.balances; free = c.free; entries = c.entries; tags = c.tags }

holds_joined : (f : ℕ → ℕ) (m c : Book) → Zeros f → Money f m → Chains f c → Records c → Holds f (joined m c)
unfolding joined
holds_joined f m c zeros money chains records =
    record {
      money = record { issued = money.issued; balance = money.balance; bound = money.bound; sum = money.sum };
      chains = record { chain = chains.chain; some = chains.some; one = chains.one };
      records = record { entries = records.entries; tags = records.tags };
      zeros = zeros;
    }

-- Where zeros stand and the money adds up, the cells decide.
pub cells_decide : (f : ℕ → ℕ) (r : Bool) → Zeros f → MoneyJudged f true → CellsJudged f r → Judged f r
cells_decide f true zeros (m, money) (c, chains, records) = (joined m c, holds_joined f m c zeros money chains records)
cells_decide f false zeros money none = λ b h. none b h.chains h.records

-- Where the cells fit their chains, the tags decide.
pub tags_decide : (f : ℕ → ℕ) (owners : List (Option ℕ)) (r : Bool) → ((i : ℕ) → f i < 256) → Owned f owners 81 → AllFit f owners → (IsTrue r ↔ Once f) → CellsJudged f r
tags_decide f owners true small owned fit once =
    let h : Found f owners = record { small = small; owned = owned; fit = fit; once = once.0 (let e : true ≡ true = cc in e) } in
    (gathered f owners h, gathered_chains f owners h, gathered_records f owners h)
tags_decide f owners false small owned fit once = λ b chains records. false≢true (once.1 (book_once f b chains records))

-- Where they don't, there is no book.
pub none_fits : (f : ℕ → ℕ) (owners : List (Option ℕ)) → Owned f owners 81 → (AllFit f owners → ⊥) → CellsJudged f false
none_fits f owners owned none b chains records = none (book_fits f owners b owned chains records)
