use Rattle.au_view.proofs.keeping.world.Goals as goal

pub returns-clause-sound : goal.returns-clause-sound
returns-clause-sound c = c.keepings_are_sound_worlds.ensures c.args.keeping.now _ c.holds_together.ensures.together c.catalog.ensures c.desk.ensures c.trail.ensures
