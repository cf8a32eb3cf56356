use Rattle.std.proofs.Common.{◌∙◌, [], map, ap, ap₂, sym, subst}
use Rattle.std.specs.List.{AllByRecursion}
use Rattle.au_audit.specs.TrailRows.{as_row}
use Rattle.au_entries.specs.declared.trail_record.Record.{Record}
use Rattle.au_query.specs.declared.source.Source.{Source}
use Rattle.au_query.specs.Combos.{IsSoundLine}
use Rattle.au_world.specs.BuiltInTables.{numbered}
use Rattle.au_world.specs.Selecting.{IsCountedFrom, range_of}
use Rattle.au_world.proofs.Counted.{bare_sound, counted_alike, numbers_alike}
use Rattle.au_world.proofs.Answered.{counted_told}
use Rattle.au_world.proofs.query.counted_records.Goals as goal

pub count-requires : goal.count-requires
count-requires c = (subst (AllByRecursion IsSoundLine) (sym c.in_ok-rows.ensures) (bare_sound c.args.world.now.records.now), tt)

pub returns : goal.returns
returns c =
    let session = c.args.session.now in
    let count = c.args.count.now in
    let records = c.args.world.now.records.now in
    let bare = numbered (map (λ (entry : Record). []) records) in
    let is_range = c.in_ok-range.ensures ∙ ap₂ (λ tables user. range_of tables user count.table) c.as_slice.ensures c.user.ensures in
    let source : Source = record { table = c.args.table; rows = c.in_ok-rows.rows } in
    subst (λ range. IsCountedFrom session range (c.args.table, numbered (map as_row records)) count c.in_ok-selected.selected) is_range
    (counted_alike session c.in_ok-range.range c.args.table bare (numbered (map as_row records)) count c.in_ok-selected.selected c.requires.condition (numbers_alike records)
    (counted_told session c.in_ok-range.range source (c.args.table, bare) count c.in_ok-selected.selected (ap (λ rows. (c.args.table, rows)) c.in_ok-rows.ensures) c.in_ok-selected.ensures))
