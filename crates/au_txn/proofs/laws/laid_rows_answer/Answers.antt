use Rattle.au_txn.proofs.Answering.{from-once, from-parts, laid-contains, named-content}
use Rattle.au_txn.proofs.Histories.{from-append, laid-untouched, laid_over-append}
use Rattle.au_txn.proofs.KeysStay.{left-once}
use Rattle.au_txn.proofs.Numbered.{contains-has}
use Rattle.au_txn.proofs.RowOrder.{row_at-with}
use Rattle.std.proofs.Common.{[]}
use Rattle.au_txn.proofs.laws.laid_rows_answer.Goals as goal

pub returns-clause-content : goal.returns-clause-content
returns-clause-content c = λ table other number at content rows. row_at-with table other number at content rows

pub returns-clause-untouched : goal.returns-clause-untouched
returns-clause-untouched c = λ rows changes table number none. laid-untouched table number rows changes none

pub returns-clause-named : goal.returns-clause-named
returns-clause-named c = λ rows changes table number named. named-content table number rows changes named

pub returns-clause-once : goal.returns-clause-once
returns-clause-once c = λ rows changes change once has. left-once rows [] changes change once (contains-has changes change has)

pub returns-clause-behind : goal.returns-clause-behind
returns-clause-behind c = λ rows a b. laid_over-append rows a b

pub returns-clause-old_behind : goal.returns-clause-old_behind
returns-clause-old_behind c = λ rows a b. (λ both. from-parts rows a b both, λ each. from-append rows a b each.0 each.1)

pub returns-clause-old_once : goal.returns-clause-old_once
returns-clause-old_once c = λ rows changes once each. from-once rows changes once each

pub returns-clause-laid : goal.returns-clause-laid
returns-clause-laid c = λ rows changes row has. laid-contains rows changes row has
