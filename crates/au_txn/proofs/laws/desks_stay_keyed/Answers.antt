use Rattle.std.proofs.Common.{List, sym, subst}
use Rattle.au_rows.specs.declared.table.Table.{Table}
use Rattle.au_txn.specs.Desks.{key_of, open_of}
use Rattle.au_txn.specs.Keys.{IsKeyed}
use Rattle.au_txn.proofs.DeskKeys.{desk-committed, desk-dropped, desk-opened, desk-quiet, desk-same, desk-undone, desk-written}
use Rattle.au_txn.proofs.laws.desks_stay_keyed.Goals as goal

pub returns-clause-same : goal.returns-clause-same
returns-clause-same c = λ old new keyed tables rows changes.
    desk-same old new (λ t. key_of t new.tables) (subst (λ (ts : List Table). IsKeyed (λ t. key_of t ts) old.rows (open_of old)) (sym tables) keyed) rows changes

pub returns-clause-opened : goal.returns-clause-opened
returns-clause-opened c = λ old new table keyed rows-open changes-open shut tables rows changes. desk-opened old new table keyed rows-open changes-open shut tables rows changes

pub returns-clause-dropped : goal.returns-clause-dropped
returns-clause-dropped c = λ old new table keyed settled tables rows changes. desk-dropped old new table keyed settled tables rows changes

pub returns-clause-quiet : goal.returns-clause-quiet
returns-clause-quiet c = λ desk none differ. desk-quiet desk none differ

pub returns-clause-written : goal.returns-clause-written
returns-clause-written c = λ old new client changes keyed from once differ unlocked free tables rows one. desk-written old new client keyed tables changes from once differ unlocked free rows one

pub returns-clause-committed : goal.returns-clause-committed
returns-clause-committed c = λ old new client keyed tables rows one. desk-committed old new client keyed tables rows one

pub returns-clause-rolled_back : goal.returns-clause-rolled_back
returns-clause-rolled_back c = λ old new client keyed tables rows one. desk-undone old new client keyed tables rows one
