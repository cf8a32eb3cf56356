use Rattle.std.proofs.Common.{◌∙◌, List, map, ap, subst, sym}
use Rattle.au_kept.specs.descent.Laying.{kept_seen}
use Rattle.au_kept.proofs.OpenKeys.{keys_differ}
use Rattle.au_kept.proofs.RowsLaid.{alone_still, none_open}
use Rattle.au_rows.specs.declared.table.Table.{Table as OpenTable}
use Rattle.au_txn.specs.Desks.{key_of}
use Rattle.au_txn.specs.Keys.{KeysDiffer}
use Rattle.au_txn.specs.Rows.{triple_of}
use Rattle.au_kept.proofs.laying_rows.keep.Goals as goal

pub returns-clause-keyed : goal.returns-clause-keyed
returns-clause-keyed c =
    let alone = alone_still c.args.desk.now c.keep_laid.new.self c.requires.alone c.keep_laid.ensures.listed c.keep_laid.ensures.lists in
    c.desks_stay_keyed.ensures.quiet c.keep_laid.new.self
    (none_open c.keep_laid.new.self c.keep_laid.ensures.laid alone)
    (λ table. subst (λ (tables : List OpenTable). KeysDiffer (key_of table tables) table c.keep_laid.new.self.rows) (sym (c.keep_laid.ensures.tables ∙ c.requires.opened))
    (keys_differ c.rows_stand_by_tables.ensures.there (kept_seen c.args.catalog.now c.args.grants.now c.args.desk.now c.args.instance) c.keep_laid.new.self.rows
    (ap (map triple_of) (sym c.keep_laid.ensures.rows)) c.requires.kept.whole.keys table))
