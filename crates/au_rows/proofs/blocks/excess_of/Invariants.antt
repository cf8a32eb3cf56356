use Rattle.std.proofs.Common.{◌≡◌, take}
use Rattle.au_rows.specs.Blocks.{all_excess}
use Rattle.au_rows.proofs.blocks.excess_of.Given as goal

abbrev pub invariant-loop-block : goal.invariant-loop-block
invariant-loop-block l = l.excess ≡ all_excess (take l.block-index l.blocks)
