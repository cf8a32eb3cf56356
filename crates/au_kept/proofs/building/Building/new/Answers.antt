use Rattle.std.proofs.Common.{◌∙◌}
use Rattle.au_kept.proofs.Built.{new_is}
use Rattle.au_replay.specs.Reading.{conditions}
use Rattle.au_kept.proofs.building.Building.new.Goals as goal

pub returns : goal.returns
returns c = new_is (c.frames_hold.ensures.nothing conditions) c.new.result c.of.result c.in_ok-new.field-0 c.new.ensures (c.of.ensures ∙ c.new-2.ensures) c.in_ok-new.ensures
