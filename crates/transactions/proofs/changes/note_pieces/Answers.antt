-- Each turn notes one piece more.
use Rattle.std.proofs.Common.{ℕ, eqb, List, Option, sym, subst}
use Rattle.std.specs.Iterator.{YieldsFirst}
use Rattle.journal.specs.Pages.{Told}
use Rattle.image.specs.declared.run.Piece.{Piece}
use Rattle.image.specs.Calls.{left}
use Rattle.image.specs.Cut.{AllPieces}
use Rattle.image.proofs.Facts.{all_out}
use Rattle.transactions.specs.Pages.{Gains}
use Rattle.transactions.specs.Parts.{parts}
use Rattle.transactions.proofs.Noting.{gains_none, noted_next}
use Rattle.transactions.proofs.changes.note_pieces.Goals as goal

pub loop-piece-preserved : goal.loop-piece-preserved
loop-piece-preserved c =
    let w = c.loop-piece.invariant in
    let p = c.in-Some.piece in
    let x = c.args.image.now in
    let before = c.loop-piece.table in
    let next = subst (λ (r : Option Piece). YieldsFirst left c.loop-piece.pieces r c.next.new.self) c.in-Some.is c.next.ensures.steps in
    let fit = (subst AllPieces next (all_out (left c.loop-piece.pieces) c.loop-piece.pieces.fit)).0 in
    let told = subst (λ (k : ℕ). Told k (eqb p.size 96) before c.note.new.self) c.page.ensures c.note.ensures in
    record {
      can = tt;
      finite = tt;
      so = λ o after rest.
          w.so o after
          (subst (λ (ps : List Piece). Gains (parts o x.memory ps) before after) (sym next)
          (noted_next o x.memory p (left c.next.new.self) before c.note.new.self after x.whole fit told rest));
    }

pub returns : goal.returns
returns c =
    let table = c.loop-piece.table in
    let none = (subst (λ (r : Option Piece). YieldsFirst left c.loop-piece.pieces r c.next.new.self) c.in_default.is c.next.ensures.steps).0 in
    λ o.
    c.loop-piece.invariant.so o table
    (subst (λ (ps : List Piece). Gains (parts o c.args.image.now.memory ps) table table) (sym none) (gains_none table))
