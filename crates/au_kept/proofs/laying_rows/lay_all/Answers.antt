use Rattle.std.proofs.Common.{◌∙◌, List, ap, subst, arith}
use Rattle.std.specs.List.{AllByRecursion}
use Rattle.au_entries.specs.declared.change.Change.{Change}
use Rattle.au_kept.specs.Staging.{IsOfRow}
use Rattle.au_kept.proofs.Steps.{next}
use Rattle.au_txn.specs.Logs.{Changes, changes_of}
use Rattle.au_kept.proofs.laying_rows.lay_all.Goals as goal

pub lay_one-requires-clause-row : goal.lay_one-requires-clause-row
lay_one-requires-clause-row c =
    let at = next c.args.changes.now c.loop-change.change-index c.change-item.result c.loop-change-test.true c.change-item.is in
    (subst (λ (xs : List Change). AllByRecursion IsOfRow xs) at c.loop-change.invariant.rows).0

pub lay_one-requires-clause-alone : goal.lay_one-requires-clause-alone
lay_one-requires-clause-alone c = λ client. ap (λ (logs : List Changes). changes_of client logs) c.loop-change.invariant.still.logs ∙ c.requires.alone client

pub lay_one-requires-clause-opened : goal.lay_one-requires-clause-opened
lay_one-requires-clause-opened c = c.loop-change.invariant.still.tables ∙ c.requires.opened

pub lay_one-requires-clause-spare : goal.lay_one-requires-clause-spare
lay_one-requires-clause-spare c =
    let covers = c.loop-change.invariant.spare in
    let all = c.requires.spare in
    let within = c.loop-change-test.true in
    omega (arith, covers, all, within)
