use Rattle.au_fga.specs.Testing.{truth_over}
use Rattle.au_world.specs.Sights.{sight_of}
use Rattle.au_plan.proofs.Queries.{answered_plan}
use Rattle.au_plan.proofs.querying.allowed.Goals as goal

pub select-requires-clause-sound : goal.select-requires-clause-sound
select-requires-clause-sound c = c.sound_worlds_are_sound_for_clients.ensures c.args.world.now c.args.client c.requires.sound

pub returns-clause-answered : goal.returns-clause-answered
returns-clause-answered c =
    let world = c.args.world.now in
    answered_plan (truth_over c.args.session.now world.catalog.now.tables) (sight_of world c.args.client) c.args.session.now c.args.statement.now c.args.used _ _ c.in_ok-selected.ensures c.in_ok-plan.ensures
