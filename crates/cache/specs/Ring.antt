-- Where a ring's items lie in its slots.
use Rattle.std.specs.Prelude.{ℕ, List, ◌++◌, take, drop}

-- A list from place n on, round the end.
abbrev pub ring : {A : Type 0} → ℕ → List A → List A
ring n xs = drop n xs ++ take n xs
