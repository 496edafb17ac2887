-- The pages below are loaded, and those of them that are spoiled are covered.
use Rattle.recovery.proofs.Homes.{LoadedTo}
use Rattle.recovery.proofs.reading.load_homes.Given as goal

abbrev pub invariant-loop-page : goal.invariant-loop-page
invariant-loop-page g l =
    LoadedTo l.places.count (g.D.Device.disk l.initial.device) (g.D.Device.disk l.device) l.page l.survey.pages l.memory
