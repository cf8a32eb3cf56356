use Rattle.std.proofs.Common.{sym, subst}
use Rattle.std.specs.List.{AllByRecursion, Contains}
use Rattle.au_base.specs.declared.numbers.ClientNo.{ClientNo}
use Rattle.au_base.specs.declared.table.TableName.{TableName}
use Rattle.au_catalog.specs.declared.catalog.Catalog.{Catalog}
use Rattle.au_kept.specs.Keeping.{desk_of}
use Rattle.au_txn.specs.declared.change.RowChange.{RowChange}
use Rattle.au_txn.specs.Desks.{Contents as Desk, key_of, open_of}
use Rattle.au_txn.specs.Keys.{KeysDiffer}
use Rattle.au_txn.specs.Rows.{Row}
use Rattle.au_txn.specs.Transactions.{laid_over}
use Rattle.au_view.proofs.Sound.{all_from, audit_all, content_fits, entries_all, fga_all, of_kinds}
use Rattle.au_view.proofs.laws.keepings_are_sound_worlds.Goals as goal
use Rattle.au_world.specs.Sound.{AreTablesInOrder, FitsIfThere, FitsTable, IsLawful, IsOpenTable, IsSoundRecord}

pub returns : goal.returns
returns c = λ contents world h catalog desk records. record {
  catalog = subst IsLawful (sym catalog) (record {
    audit = audit_all contents.kept.policies h.kept_is.lawful.truths.audit;
    fga = fga_all contents.kept contents.kept.fga h.kept_is.lawful.founded.fga h.kept_is.lawful.truths.fga;
  });
  order = subst (λ (k : Catalog). AreTablesInOrder k.tables) (sym catalog) h.kept_is.lawful.ordered.tables;
  tables = subst (λ (k : Catalog). AllByRecursion (IsOpenTable world.desk.now) k.tables) (sym catalog) (subst (λ (d : Desk). AllByRecursion (IsOpenTable d) contents.kept.tables) (sym desk)
      (all_from (IsOpenTable (desk_of contents)) contents.kept.tables (λ table has.
      let facts = c.worlds_are_sound.ensures.tables contents table h has in record { there = facts.0; key = facts.1; within = facts.2 })));
  committed = subst (λ (k : Catalog). (row : Row) → Contains world.desk.now.rows row → FitsTable k.tables row.table row.cells) (sym catalog)
      (subst (λ (d : Desk). (row : Row) → Contains d.rows row → FitsTable contents.kept.tables row.table row.cells) (sym desk)
      (λ row has table kept named. let both = c.worlds_are_sound.ensures.committed contents row table h has (kept, named) in (of_kinds table.columns row.cells both.0, both.1)));
  changed = subst (λ (k : Catalog). (client : ClientNo) (change : RowChange) → Contains (open_of world.desk.now client) change → FitsIfThere k.tables change.table change.new) (sym catalog)
      (subst (λ (d : Desk). (client : ClientNo) (change : RowChange) → Contains (open_of d client) change → FitsIfThere contents.kept.tables change.table change.new) (sym desk)
      (λ client change has. content_fits contents.kept.tables change.table change.new (λ table kept named. c.worlds_are_sound.ensures.changed contents client change table h has (kept, named))));
  keys = subst (λ (d : Desk). (client : ClientNo) (table : TableName) → KeysDiffer (key_of table d.tables) table (laid_over d.rows (open_of d client))) (sym desk)
      (λ client table. c.worlds_are_sound.ensures.keys contents client table h);
  records = subst (AllByRecursion IsSoundRecord) (sym records) (entries_all contents.kept.trail (c.worlds_are_sound.ensures.records contents h));
}
