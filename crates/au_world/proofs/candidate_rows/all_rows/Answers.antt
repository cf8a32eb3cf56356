use Rattle.std.proofs.Common.{◌≡◌, ◌∙◌, ap}
use Rattle.std.specs.List.{AllByRecursion}
use Rattle.au_query.specs.Combos.{IsSoundLine, lines}
use Rattle.au_world.specs.Cutting.{Suffices}
use Rattle.au_world.specs.Inside.{where_asked}
use Rattle.au_world.specs.Sights.{is_there_by, rows_seen, sight_of}
use Rattle.au_world.proofs.LookUps.{if_both}
use Rattle.au_world.proofs.Sufficing.{whole_suffices}
use Rattle.au_world.proofs.candidate_rows.all_rows.Goals as goal

pub created_rows-requires-clause-there : goal.created_rows-requires-clause-there
created_rows-requires-clause-there c = ap (is_there_by c.args.world.now.catalog.now.tables c.args.asked.now.table.now) c.requires.created ∙ c.requires.there

pub returns : goal.returns
returns c =
    let asked = c.args.asked.now in
    let seen = rows_seen (sight_of c.args.world.now asked.client) asked.table.now in
    if_both (λ rows. lines rows.items ≡ seen) (λ rows. AllByRecursion IsSoundLine (lines rows.items)) (λ rows. Suffices asked.session.now (where_asked asked) seen (lines rows.items))
    (λ rows are sound. whole_suffices asked.session.now (where_asked asked) seen (lines rows.items) are sound)
    c.created_rows.result c.created_rows.ensures.seen c.created_rows.ensures.sound
