-- No record of the kind stands in a cell of another kind; elsewhere the content tells.
use Rattle.std.proofs.Common.{◌≡◌, ◌+◌, ◌∙◌, ℕ, get_or, refl, sym, subst, rules}
use Rattle.std.proofs.lemmas.Bool.{false≢true}
use Rattle.book.specs.Layout.{byte_in, Stands}
use Rattle.audit.proofs.Reading.{kind_of, zero_of, read_cell}
use Rattle.audit.proofs.contents.read_from.Goals as goal

pub returns-then-not-is_kind : goal.returns-then-not-is_kind
returns-then-not-is_kind g c x fit has =
    let m = c.args.memory.now in
    let e = sym c.cell_at-at.ensures in
    false≢true
    (c.if-not-is_kind.ensures.1 (
      subst (λ (a : ℕ). get_or m (a + 2) 0 ≡ c.KIND.result) e
          (kind_of (byte_in m) c.args.number g.R.CellRecord.KIND (g.R.CellRecord.content x) has ∙ sym c.KIND.ensures),
      subst (λ (a : ℕ). get_or m (a + 3) 0 ≡ 0) e
          (zero_of (byte_in m) c.args.number g.R.CellRecord.KIND (g.R.CellRecord.content x) has),
    ))

pub returns : goal.returns
returns g c =
    let m = c.args.memory.now in
    let e = c.cell_at-at.ensures in
    let kind = c.if-not-is_kind.ensures.0 refl in
    read_cell g.R.CellRecord.KIND g.R.CellRecord.content g.R.CellRecord.fits g.met.R.CellRecord.long (byte_in m) c.args.number c.part.result c.from_content.result
    (search rules)
    (subst (λ (a : ℕ). get_or m (a + 2) 0 ≡ g.R.CellRecord.KIND) e (kind.0 ∙ c.KIND.ensures))
    (subst (λ (a : ℕ). get_or m (a + 3) 0 ≡ 0) e kind.1)
    (subst (λ (a : ℕ). Stands (byte_in m) (a + 4) c.part.result) e c.part.ensures)
    c.from_content.ensures
