use Rattle.std.proofs.Common.{◌∙◌, sym}
use Rattle.au_kept.specs.Building.{kept_in}
use Rattle.au_kept.proofs.Built.{seen_founded, whole_is}
use Rattle.au_replay.specs.Sights.{shown}
use Rattle.au_kept.proofs.building.Building.is_whole.Goals as goal

pub touched_is_whole-requires-clause-founded : goal.touched_is_whole-requires-clause-founded
touched_is_whole-requires-clause-founded c = seen_founded (kept_in c.args.self.now) (shown c.sight-sight.result) c.sight-sight.ensures.shown c.requires.firm.lawful.founded

pub returns : goal.returns
returns c =
    whole_is (kept_in c.args.self.now) (shown c.sight-sight.result) c.args.changes.now c.sight-sight.ensures.shown (sym c.has_sys.ensures ∙ c.if-not-has_sys.false) c.touched_is_whole.result c.touched_is_whole.ensures
