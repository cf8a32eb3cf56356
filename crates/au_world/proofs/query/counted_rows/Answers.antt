use Rattle.std.proofs.Common.{◌∙◌, ap, ap₂, sym, subst}
use Rattle.std.specs.Prelude.{IsTrue}
use Rattle.au_world.specs.Selecting.{IsCountedFrom, meant, range_of, seen_of}
use Rattle.au_world.specs.Sights.{is_there, sight_of}
use Rattle.au_world.proofs.query.counted_rows.Goals as goal

pub count_answered-requires-clause-found : goal.count_answered-requires-clause-found
count_answered-requires-clause-found c =
    let table = c.args.count.now.table in
    record {
      there = subst (λ name. IsTrue (is_there c.args.world.now.catalog.now.tables name)) (sym (c.in_ok-table.ensures.name ∙ ap (λ u. meant u table) c.user-user.ensures)) c.requires.there.0;
      made = c.in_ok-table.ensures.made;
    }

pub returns : goal.returns
returns c =
    let session = c.args.session.now in
    let count = c.args.count.now in
    let sight = sight_of c.args.world.now c.args.client in
    let range = c.in_ok-range.ensures ∙ ap₂ (λ tables user. range_of tables user count.table) c.as_slice.ensures c.user-user.ensures in
    let seen = ap (seen_of sight) (c.in_ok-table.ensures.name ∙ ap (λ u. meant u count.table) c.user-user.ensures) in
    subst (λ range. IsCountedFrom session range (seen_of sight (meant session.user count.table)) count c.in_ok-selected.selected) range
    (subst (λ seen. IsCountedFrom session c.in_ok-range.range seen count c.in_ok-selected.selected) seen c.in_ok-selected.ensures)
