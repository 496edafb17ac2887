-- The records that a transaction becomes.
use Rattle.std.specs.Prelude.{ℕ, ◌/◌, ◌%◌, cond, List, [], ◌∷◌, map, take, drop}
use Rattle.arrayvec.specs.ArrayVec.{ArrayVec}
use Rattle.durability.specs.Items.{Item}
use Rattle.image.specs.declared.run.Piece.{Piece}
use Rattle.transactions.specs.declared.spool.Spooled.{Spooled}

-- The part that holds a piece of this memory.
abbrev pub part : ℕ → List ℕ → ℕ → Piece → Item
part ordinal memory kind p =
    record { kind = kind; ordinal = ordinal; page = p.start / 96; offset = p.start % 96; bytes = take p.size (drop p.start memory) }

-- The kind of a part: the last one, if none follow, and else one with more to come.
abbrev pub kind_before : List Piece → ℕ
kind_before [] = 2
kind_before (_ ∷ _) = 1

-- The parts of a transaction: its pieces in their order.
abbrev pub parts : ℕ → List ℕ → List Piece → List Item
parts ordinal memory [] = []
parts ordinal memory (p ∷ ps) = part ordinal memory (kind_before ps) p ∷ parts ordinal memory ps

-- What a spooled part stands for.
abbrev pub item_of : Spooled → Item
item_of x =
    record { kind = cond x.last 2 1; ordinal = x.ordinal; page = x.page; offset = x.offset; bytes = take x.size x.bytes }

-- The spool, and the records that it stands for.
abbrev pub Spool : Type 0
Spool = ArrayVec Spooled

abbrev pub waiting : Spool → List Item
waiting s = map item_of s.items
