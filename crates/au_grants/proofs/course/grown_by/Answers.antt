use Rattle.au_grants.proofs.course.grown_by.Goals as goal

pub make_growing-requires-clause-room : goal.make_growing-requires-clause-room
make_growing-requires-clause-room c = c.in_ok-after.ensures.room c.in_ok-edit.edit
