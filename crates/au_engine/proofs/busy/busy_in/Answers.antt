use Rattle.std.proofs.Common.{◌≡◌, ◌∙◌, ◌++◌, List, ap, ap₂, sym, arith}
use Rattle.au_base.specs.declared.numbers.ClientNo.{ClientNo}
use Rattle.au_base.specs.declared.table.TableName.{TableName}
use Rattle.au_txn.specs.declared.change.RowChange.{RowChange}
use Rattle.au_engine.specs.Inside.{busy_by}
use Rattle.au_engine.proofs.BusyTables.{among, busy_is}
use Rattle.au_engine.proofs.Taken.{flat_more}
use Rattle.au_engine.proofs.busy.busy_in.Goals as goal

pub loop-session-preserved : goal.loop-session-preserved
loop-session-preserved c =
    let a = c.args in
    let item = c.session-item.result in
    let logs = a.desk.now.logs in
    let here = ap (λ (cs : List RowChange). among a.tables.now cs item.client) c.transaction_at-changes.ensures ∙ sym (busy_is logs a.commits a.client a.tables.now item) in
    c.in_ok-add_busy.ensures
    ∙ (ap₂ (λ (x y : List (TableName × ClientNo)). x ++ y) c.loop-session.invariant here
    ∙ sym (flat_more (busy_by logs a.commits a.client a.tables.now) a.sessions.now c.loop-session.session-index item (omega arith) c.session-item.is))
