-- Each turn loads one page more.
use Rattle.std.proofs.Common.{◌≡◌, ◌+◌, true, false, sym, ◌∙◌, subst, arith}
use Rattle.std.proofs.lemmas.Bool.{both_ways}
use Rattle.device.specs.Disk.{Disk, spoiled}
use Rattle.journal.specs.Pages.{covered_in}
use Rattle.recovery.proofs.Homes.{load_goes}
use Rattle.recovery.proofs.Rebuilding.{bare_home}
use Rattle.recovery.proofs.reading.load_homes.Goals as goal
use Rattle.recovery.proofs.reading.load_homes.Goals.{else-not-readable-via-then-not-readable+else-not-is_covered, else-not-readable-via-else-not-readable}

pub returns-then-not-is_covered-clause-loaded : goal.returns-then-not-is_covered-clause-loaded
returns-then-not-is_covered-clause-loaded g c =
    let d = g.D.Device.disk c.args.device.now in
    let old = c.loop-page.invariant in
    let h = c.in_ok-readable.ensures in
    let gone : d.shows (c.args.places.count + c.loop-page.page) ≡ spoiled =
    subst (λ (x : Disk). x.shows (c.args.places.count + c.loop-page.page) ≡ spoiled) old.same (h.1.told.1 c.if-not-readable.true)
    in
    (h.0 ∙ old.same, bare_home c.args.places.count d c.args.survey.now c.loop-page.page c.requires.seen (omega arith) gone (sym c.is_covered.ensures ∙ c.if-not-is_covered.true) old.spoiled_covered)

pub loop-page-preserved : goal.loop-page-preserved
loop-page-preserved g c =
    let d = g.D.Device.disk c.args.device.now in
    let m = g.D.Device.disk c.loop-page.device in
    let e = g.D.Device.disk c.load_home.new.device in
    let h = c.in_ok-readable.ensures in
    let covered : c.in_ok-readable.readable ≡ false → covered_in c.args.survey.now.pages c.loop-page.page ≡ true =
    elim c.else-not-readable.branch [
      | else-not-readable-via-then-not-readable+else-not-is_covered w ↦ λ _. sym w.is_covered.ensures ∙ w.if-not-is_covered.false
      | else-not-readable-via-else-not-readable w ↦ λ f. absurd (both_ways c.in_ok-readable.readable f w.if-not-readable.false)
    ]
    in
    load_goes c.args.places.count d m e c.loop-page.page c.args.survey.now.pages c.loop-page.memory c.load_home.new.memory c.in_ok-readable.readable c.loop-page.invariant h.0 h.1 covered
