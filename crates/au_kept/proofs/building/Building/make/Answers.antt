use Rattle.std.proofs.Common.{◌∙◌, map, sym, ap, subst}
use Rattle.au_catalog.specs.declared.catalog.Catalog.{Catalog}
use Rattle.au_entries.specs.Lawful.{IsLawful}
use Rattle.au_image.specs.Image.{kept_rows, open_table}
use Rattle.au_kept.specs.Building.{kept_in, opened_after}
use Rattle.au_kept.proofs.Built.{can_take, new_in, parts_changed}
use Rattle.au_kept.proofs.OpenTables.{opened_too}
use Rattle.au_replay.specs.Reading.{conditions}
use Rattle.au_txn.specs.Desks.{replayer}
use Rattle.au_kept.proofs.building.Building.make.Goals as goal

pub change_desk-requires-clause-can : goal.change_desk-requires-clause-can
change_desk-requires-clause-can c = let (image, goes) = c.requires.goes in can_take c.args.self.now c.requires.firm image c.args.change.now goes

pub returns-clause-firm : goal.returns-clause-firm
returns-clause-firm c =
    let (image, goes) = c.requires.goes in
    let old = c.args.self.now in
    let change = c.args.change.now in
    let done = c.in_ok-change_desk.ensures in
    let made = parts_changed change old.catalog c.change_catalog.new.catalog old.grants c.change_grants.new.grants (kept_rows old.desk) (kept_rows c.change_desk.new.desk) old.instance c.instance_after-self.result
    c.in_ok-change_catalog.ensures c.in_ok-change_grants.ensures done.rows c.instance_after-self.ensures in
    record {
      lawful = subst (IsLawful conditions) (sym made) (c.changes_keep_laws.ensures.one conditions image (kept_in old) change c.requires.firm.lawful goes);
      desk_is = record {
        tables_are = done.tables ∙ ap (opened_after change) c.requires.firm.desk_is.tables_are ∙ opened_too change old.catalog.tables (new_in old image change goes)
            ∙ ap (λ (catalog : Catalog). map open_table catalog.tables) (sym c.in_ok-change_catalog.ensures);
        quiet = done.quiet replayer;
      };
      quiet = done.quiet;
    }
