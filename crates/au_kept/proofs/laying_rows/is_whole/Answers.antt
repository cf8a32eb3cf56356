use Rattle.std.proofs.Common.{◌∙◌, List, ap, subst, sym}
use Rattle.std.specs.List.{Contains}
use Rattle.au_entries.specs.declared.table.Table.{Table}
use Rattle.au_entries.specs.Lawful.{IsFounded}
use Rattle.au_kept.specs.descent.Laying.{kept_seen}
use Rattle.au_kept.proofs.OpenKeys.{keyed_open}
use Rattle.au_kept.proofs.Shown.{founded_shown, told_kept}
use Rattle.au_rows.specs.declared.table.Table.{Table as OpenTable}
use Rattle.au_txn.specs.Desks.{Contents as Desk, key_of}
use Rattle.au_kept.proofs.laying_rows.is_whole.Goals as goal

pub touched_is_whole-requires-clause-founded : goal.touched_is_whole-requires-clause-founded
touched_is_whole-requires-clause-founded c = subst IsFounded (sym c.sight_of-sight.ensures.shown) (founded_shown (kept_seen c.args.catalog.now c.args.grants.now c.args.desk.now c.args.instance) c.requires.lawful.founded)

pub touched_is_whole-requires-clause-opened : goal.touched_is_whole-requires-clause-opened
touched_is_whole-requires-clause-opened c = λ table has.
    ap (λ (d : Desk). key_of table.name d.tables) c.sight_of-sight.ensures.desk ∙ ap (λ (ts : List OpenTable). key_of table.name ts) c.requires.opened
    ∙ keyed_open c.args.catalog.now.tables c.requires.lawful.ordered.tables table (subst (λ (ts : List Table). Contains ts table) c.sight_of-sight.ensures.tables has)

pub returns : goal.returns
returns c = told_kept c.args.changes.now (kept_seen c.args.catalog.now c.args.grants.now c.args.desk.now c.args.instance) _ c.sight_of-sight.ensures.shown c.touched_is_whole.result c.touched_is_whole.ensures
