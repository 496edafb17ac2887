-- What stands once a ledger was made.
use Rattle.std.proofs.Common.{◌≡◌, ℕ, ◌-◌, Bool, true, false, cond, List, [], ◌∷◌, ◌++◌, map, length, Some, None, Ok, sym, refl, ap, ◌∙◌, subst, inl, inr, arith}
use Rattle.device.specs.Disk.{Disk, Plate}
use Rattle.transactions.specs.Held as held
use Rattle.transactions.specs.Calls.{CommitsParts}
use Rattle.transactions.specs.Rows.{first_fit, token_rows}
use Rattle.law.specs.Transactions.{Transaction, made_of}
use Rattle.law.specs.Kept.{Entered, AllKept}
use Rattle.law.specs.Events as store
use Rattle.law.specs.Law as law
use Rattle.book.specs.Layout.{byte_in}
use Rattle.book.specs.Book.{Holds, new_book}
use Rattle.book.specs.Edits.{make_edits}
use Rattle.changes.specs.Changes.{Changes}
use Rattle.ledger.specs.Sound.{Held, HoldsBook}
use Rattle.ledger.specs.Calls.{Linked}
use Rattle.ledger.proofs.Fresh.{blank_memory}
use Rattle.ledger_law.specs.Below.{event, silent, putting, Does}
use Rattle.ledger_law.specs.Events.{working}
use Rattle.ledger_law.specs.Law.{entered_after, newly}
use Rattle.ledger_law.proofs.Sectors.{tried_plate}
use Rattle.ledger_law.proofs.Entering.{FirstKept, Grown, AllPlain, all_grow, changing_plain, changing_enters}
use Rattle.ledger_law.proofs.Memories.{AllInside, own_inside, same_own}
use Rattle.ledger_law.proofs.Books.{Books, no_books, books_more}
use Rattle.ledger_law.proofs.Keeping.{Stands}
use Rattle.ledger_law.proofs.Changing.{passing}

-- Events of the store in two parts.
pub lawful_split : (es fs : List store.Event) (h : law.History) → law.AllLawful (es ++ fs) h → law.AllLawful es h × law.AllLawful fs (entered_after es h)
lawful_split [] fs h all = (tt, all)
lawful_split (e ∷ es) fs h (first, all) = let r = lawful_split es fs (law.after e h) all in ((first, r.0), r.1)

pub entered_append : (es fs : List store.Event) (h : law.History) → entered_after (es ++ fs) h ≡ entered_after fs (entered_after es h)
entered_append [] fs h = refl
entered_append (e ∷ es) fs h = entered_append es fs (law.after e h)

-- the first of transactions that are all kept
first_of_all : (n : ℕ) (ys : List Entered) (t : Transaction) → law.transactions ys ≡ t ∷ [] → AllKept n 0 ys → FirstKept n ys
first_of_all n [] t is all = absurd (let z : ◌≡◌ {A = ℕ} 0 1 = ap length is in omega arith)
first_of_all n (y ∷ ys) t is all = all.0

parts_of : (h k : held.Held) (number : ℕ) → held.Commits number true h (Ok (1, 52)) k → CommitsParts h.state h.disk true (1, 52) k.state k.disk
parts_of h k number (fits, inl n) = absurd (let z : ◌≡◌ {A = ℕ} 52 0 = ap (λ (x : ℕ × ℕ). x.1) n.answer in omega arith)
parts_of h k number (fits, inr parts) = parts

token_of : (h k : held.Held) (number : ℕ) → held.Commits number true h (Ok (1, 52)) k → first_fit (token_rows h.state number) ≡ None
token_of h k number (fits, c) = fits

module _ (d : Disk) (k : Held) (l : Linked d (Ok (1, 52)) k) (did : List store.Event)
    (x : Does l.formatted make_edits true (Ok (1, 52)) k.store l.changes did)
    (all : law.AllLawful did (Some [])) (holds : HoldsBook k.store.state new_book) where
  abbrev ch : Changes l.formatted make_edits true (Ok (1, 52)) k.store
  ch = l.changes

  abbrev p : held.Held
  p = ch.prepared

  abbrev call : store.Call
  call = store.commit ch.token.number true (Ok (1, 52))

  abbrev own : Transaction
  own = law.own_transaction p.state

  parts : CommitsParts p.state p.disk true (1, 52) k.store.state k.store.disk
  parts = parts_of p k.store ch.token.number x.commits.0

  enters : store.does_enter p.state ch.token.number true ≡ true
  enters = passing p.state ch.token.number true (token_of p k.store ch.token.number x.commits.0) parts.some parts.passes

  abbrev mine : Entered
  mine = record { transaction = own; since = x.done; found = false }

  entered : newly did ≡ mine ∷ []
  entered =
      ap newly x.events ∙ changing_enters l.formatted k.store make_edits true (Ok (1, 52)) ch x.done x.cut
      ∙ ap (λ (b : Bool). cond b (mine ∷ []) []) enters

  places : law.places_at (store.working k.store) ≡ law.places_at (store.working p)
  places = ap (λ (q : Plate). q.sectors - 64) (tried_plate (store.commit_plan p.state ch.token.number true) p.disk x.done x.cut (Ok (1, 52)) k.store.disk x.commits.1)

  grown : Grown 0 [] (newly did) (entered_after did (Some []))
  grown = all_grow did 0 [] (subst AllPlain (sym x.events) (changing_plain l.formatted k.store make_edits true (Ok (1, 52)) ch x.done x.cut))

  stand : law.transactions grown.ys ≡ own ∷ []
  stand = grown.same ∙ ap law.transactions entered

  -- all is kept once the commit succeeded
  before_commit : List store.Event
  before_commit = silent (store.begin (Ok ch.token)) l.formatted ch.begun ∷ putting ch.token.number make_edits ch.begun p ch.puts

  commits : store.Event
  commits = event call (store.working p) x.done x.cut (store.working k.store)

  kept : AllKept (law.places_at (store.working p)) 0 grown.ys
  unfolding before_commit commits
  kept =
      let same : did ≡ before_commit ++ (commits ∷ []) = x.events in
      let all' = subst (λ (es : List store.Event). law.AllLawful es (Some [])) same all in
      let last = (lawful_split before_commit (commits ∷ []) (Some []) all').1.0 in
      let so = ap (λ (es : List store.Event). entered_after es (Some [])) same ∙ entered_append before_commit (commits ∷ []) (Some []) in
      keep (entered_after before_commit (Some [])) last (sym so ∙ grown.is)
    where
      keep : (g : law.History) → law.Lawful commits g → law.after commits g ≡ Some grown.ys → AllKept (law.places_at (store.working p)) 0 grown.ys
      keep None lawful is = absurd (let z : ◌≡◌ {A = ℕ} 0 1 = cc in omega arith)
      keep (Some zs) lawful is = subst (law.AllAreKept (store.working p)) is (lawful 1 52 refl refl (omega arith))

  before : byte_in p.state.image.before ≡ made_of []
  before = ap byte_in (ch.prepares.before ∙ l.format.2.idle.before) ∙ blank_memory l.format.0 l.formatted.state l.format.2

  memory : byte_in k.store.state.image.memory ≡ made_of ([] ++ (own ∷ []))
  memory = ap byte_in parts.image.memory ∙ same_own p.state [] before

  pub make_keeps : Stands (working k) (entered_after did (Some [])) (Some ([] ++ map (λ (y : Entered). 0) (newly did)))
  make_keeps =
      let books = books_more [] [] own 0 no_books new_book (subst (λ (f : ℕ → ℕ). Holds f new_book) memory holds) refl in (
        grown.ys,
        grown.is,
        record {
          first = subst (λ (n : ℕ). FirstKept n grown.ys) (sym places) (first_of_all (law.places_at (store.working p)) grown.ys own stand kept);
          books =
              subst (λ (us : List Transaction). Books us (map (λ (y : Entered). 0) (newly did))) (sym stand)
              (subst (λ (new : List Entered). Books (own ∷ []) (map (λ (y : Entered). 0) new)) (sym entered) books);
          inside = subst AllInside (sym stand) (own_inside p.state, tt);
          rests = λ on. record { memory = memory ∙ ap made_of (sym stand); clean = parts.image.clean };
        },
      )
