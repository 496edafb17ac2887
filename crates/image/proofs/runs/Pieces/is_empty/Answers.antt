-- Where a run is being cut up, there is a piece; else there is one where there is a run.
use Rattle.std.proofs.Common.{◌≡◌, Bool, eqb, List, [], ◌∷◌, length, sym, ◌∙◌, arith}
use Rattle.std.proofs.lemmas.Bool.{lt-leb, ne_eqb}
use Rattle.image.specs.declared.run.Run.{Run}
use Rattle.image.specs.Calls.{none}
use Rattle.image.proofs.Facts.{apart_out}
use Rattle.image.proofs.Cutting.{none_left, some_left}
use Rattle.image.proofs.runs.Pieces.is_empty.Goals as goal

is_none : (rs : List Run) (b : Bool) → b ≡ eqb (length rs) 0 → b ≡ none rs
is_none [] b h = h
is_none (r ∷ rs) b h = h ∙ ne_eqb (length (r ∷ rs)) 0 (λ e. omega arith)

pub returns-then-self : goal.returns-then-self
returns-then-self c =
    let p = c.args.self.now in
    is_none p.runs.now c.is_empty.result c.is_empty.ensures ∙ sym (none_left p.from p.to p.runs.now c.if-self.true (apart_out 0 p.runs.now p.apart))

pub returns-else-self : goal.returns-else-self
returns-else-self c =
    let p = c.args.self.now in
    lt-leb p.to p.from c.if-self.false ∙ sym (some_left p.from p.to p.runs.now c.if-self.false)
