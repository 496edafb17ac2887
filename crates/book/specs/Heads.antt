-- The chains that there are, and their numbers.
use Rattle.std.specs.Prelude.{ℕ, ◌<◌, ◌≤◌}
use Rattle.book.specs.declared.layout.Chain.{Chain}
use Rattle.book.specs.declared.layout.Chain.TheVariants.{Free, Account, Bucket}
use Rattle.book.specs.Layout.{bucket_chain}

-- The number of a chain, where it is one.
abbrev pub chain_number : Chain → ℕ
chain_number Free = 0
chain_number (Account a) = a
chain_number (Bucket k) = bucket_chain k

abbrev pub IsChain : Chain → Type 0
IsChain Free = Unit {0}
IsChain (Account a) = a ≤ 64
IsChain (Bucket k) = k < 16
