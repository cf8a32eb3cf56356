use Rattle.au_replay.proofs.touched.is_whole_by.Goals as goal

pub returns-in-Put : goal.returns-in-Put
returns-in-Put c = rw c.in-Put.is c.is_put_whole.ensures
