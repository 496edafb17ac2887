-- The number of each refusal of a ledger, and the values it returns.
use Rattle.std.specs.Prelude.{ℕ, List, [], ◌∷◌}
use Rattle.transactions.specs.Fault as store
use Rattle.book.specs.declared.fault.LedgerFault.{LedgerFault}
use Rattle.book.specs.declared.fault.LedgerFault.TheVariants.{Store, NotLedger, Account, Unknown, Present, Same, Nothing, Short, Total, NoCell, NoEntry}

abbrev pub number : LedgerFault → ℕ
number (Store f) = store.number f
number NotLedger = 17
number (Account _) = 18
number (Unknown _) = 19
number (Present _) = 20
number (Same _) = 21
number (Nothing _) = 22
number (Short _) = 23
number (Total _) = 24
number (NoCell _) = 25
number (NoEntry _) = 26

abbrev pub values : LedgerFault → List ℕ
values (Store f) = store.values f
values NotLedger = []
values (Account number) = number ∷ []
values (Unknown bucket) = bucket ∷ []
values (Present account) = account ∷ []
values (Same payer) = payer ∷ []
values (Nothing account) = account ∷ []
values (Short balance) = balance ∷ []
values (Total issued) = issued ∷ []
values (NoCell account) = account ∷ []
values (NoEntry account) = account ∷ []
