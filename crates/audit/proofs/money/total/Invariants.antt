-- The sum so far, which is within the bound.
use Rattle.std.proofs.Common.{◌≡◌, ◌^◌, ◌<◌, sum, take}
use Rattle.audit.proofs.money.total.Given as goal

abbrev pub invariant-loop-balance : goal.invariant-loop-balance
invariant-loop-balance l = record {
  is : l.total ≡ sum (take l.balance-index l.balances);
  bound : l.total < 2 ^ 63;
}
