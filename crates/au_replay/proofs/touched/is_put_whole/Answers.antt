use Rattle.std.proofs.Common.{◌∙◌}
use Rattle.au_replay.specs.Sights.{shown}
use Rattle.au_replay.proofs.TouchedLaws.{put_none}
use Rattle.au_replay.proofs.touched.is_put_whole.Goals as goal

pub is_whole_in-requires-clause-only : goal.is_whole_in-requires-clause-only
is_whole_in-requires-clause-only c = λ other has same. c.in-Some.ensures.only other has (same ∙ c.in-Some.ensures.some.1)

pub returns-in-None : goal.returns-in-None
returns-in-None c = put_none (shown c.args.sight.now) c.args.table.now c.args.row c.requires.founded c.in-None.ensures.none
