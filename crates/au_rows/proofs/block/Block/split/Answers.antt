use Rattle.std.proofs.Common.{ap, arith, length, length-drop, length-take}
use Rattle.au_rows.proofs.block.Block.split.Goals as goal

pub invariant_of-self : goal.invariant_of-self
invariant_of-self c = (
  omega (arith, c.move_back.new.lower.ok.0, ap length c.move_back.ensures.lower, length-take 384 c.self.inside.places.items),
  omega (arith, c.move_back.ensures.lower_room, c.self.invariant.1),
)

pub invariant_of-upper : goal.invariant_of-upper
invariant_of-upper c = (
  omega (arith, c.move_back.new.upper.ok.0, ap length c.move_back.ensures.upper, length-drop 384 c.self.inside.places.items, c.self.invariant.0, c.self.inside.places.ok.0),
  omega (arith, c.move_back.ensures.upper_room, c.upper.invariant.1),
)
