-- The first 96 bytes of the sector are the page.
use Rattle.std.proofs.Common.{◌≡◌, ℕ, ◌<◌, length, get_or, take, rules}
use Rattle.std.proofs.lemmas.List.{places}
use Rattle.recovery.proofs.Homes.{page_put}
use Rattle.recovery.proofs.reading.put_page.Goals as goal

pub returns : goal.returns
returns c =
    let sector = c.args.sector.now in
    let long : length (take 96 sector) ≡ 96 = search (rules, places) in
    let same : (j : ℕ) → j < 96 → get_or (take 96 sector) j 0 ≡ get_or sector j 0 = λ j h. search (rules, places) in
    page_put c.args.page c.args.memory.now c.put_bytes.new.memory sector (take 96 sector) long same c.put_bytes.ensures
