-- A mirror's value, as its two sides.
use Rattle.device.specs.declared.Device.{Ghosts}
use Rattle.mirror.specs.declared.Mirror.{Mirror}
use Rattle.mirror.specs.Sides.{Sides, sides}

abbrev pub view : {L R : Type 0} → Ghosts L → Ghosts R → Mirror L R → Sides
view l r m = sides m.power.on m.power.told (l.disk m.left) (r.disk m.right)
