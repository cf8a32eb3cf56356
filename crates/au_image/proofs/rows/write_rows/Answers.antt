use Rattle.std.proofs.Common.{◌≤◌, List, [], length, map, subst, sym}
use Rattle.std.specs.Prelude.{OnOk}
use Rattle.std.specs.List.{AllByRecursion}
use Rattle.au_entries.specs.Changing.{KeptRow}
use Rattle.au_entries.specs.Imaging.{row_change}
use Rattle.rec_codec.specs.Changes.{IsChangeSpellable}
use Rattle.rec_codec.specs.Images.{Wrote}
use Rattle.au_image.proofs.rows.write_rows.Goals as goal

pub write_by_tables-requires-clause-left : goal.write_by_tables-requires-clause-left
write_by_tables-requires-clause-left c = subst (λ (xs : List KeptRow). length xs ≤ c.args.writer.now.changes) (sym c.seen_stand_by_tables.ensures) c.requires.left

pub write_by_tables-requires-clause-spellable : goal.write_by_tables-requires-clause-spellable
write_by_tables-requires-clause-spellable c =
    subst (λ (xs : List KeptRow). AllByRecursion IsChangeSpellable (map row_change xs)) (sym c.seen_stand_by_tables.ensures) c.requires.spellable

pub returns : goal.returns
returns c =
    subst (λ (xs : List KeptRow). OnOk c.write_by_tables.result (Wrote c.args.writer.now c.write_by_tables.new.writer (map row_change xs) []))
    c.seen_stand_by_tables.ensures
    c.write_by_tables.ensures
