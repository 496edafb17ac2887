-- The page is what its home shows.
use Rattle.std.proofs.Common.{◌≡◌, ℕ, cond, replicate, subst, arith}
use Rattle.recovery.specs.Reading.{Fetched}
use Rattle.recovery.proofs.Homes.{home_loaded}
use Rattle.recovery.proofs.reading.load_home.Goals as goal
use Rattle.recovery.proofs.reading.load_home.Goals.{then-not-readable, else-not-readable}

pub returns : goal.returns
returns g c =
    let d = g.D.Device.disk c.args.device.now in
    let n = c.args.places.count in
    let p = c.args.page in
    let bytes = c.fetch.new.buffer in
    let r = c.in_ok-readable.readable in
    let f = c.in_ok-readable.ensures (omega (arith, c.home_of.ensures)) in
    let is : c.if-not-readable.buffer ≡ cond r bytes (replicate 128 0) =
    elim c.if-not-readable.branch [
      | then-not-readable w ↦ let t = w.if-not-readable.true in rw t w.buffer-is
      | else-not-readable w ↦ let t = w.if-not-readable.false in rw t w.buffer-is
    ]
    in
    (f.0, home_loaded d n p c.args.memory.now c.put_page.new.memory bytes c.if-not-readable.buffer r (subst (λ (s : ℕ). Fetched d s bytes r) c.home_of.ensures f.1) is c.put_page.ensures)
