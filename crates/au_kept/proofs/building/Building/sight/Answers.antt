use Rattle.std.proofs.Common.{List, sym, subst}
use Rattle.au_entries.specs.declared.table.Table.{Table}
use Rattle.au_kept.proofs.OpenTables.{open_keyed}
use Rattle.au_replay.specs.Sights.{AreOpenKeyed}
use Rattle.au_kept.proofs.building.Building.sight.Goals as goal

pub returns-clause-opened : goal.returns-clause-opened
returns-clause-opened c =
    let building = c.args.self.now in
    subst (λ (tables : List Table). AreOpenKeyed tables building.desk.tables) (sym c.as_slice-3.ensures)
    (open_keyed building.catalog.tables building.desk.tables c.requires.firm.desk_is.tables_are c.requires.firm.lawful.ordered.tables)
