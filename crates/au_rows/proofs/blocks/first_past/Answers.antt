use Rattle.std.proofs.Common.{◌≡◌, ◌∙◌, ◌+◌, ◌-◌, ◌/◌, ◌<◌, [], ap, get_or, length, sym, arith}
use Rattle.au_rows.specs.Blocks.{starts_past}
use Rattle.au_rows.proofs.BlockLemmas.{before-block, same-default}
use Rattle.au_rows.proofs.blocks.first_past.Goals as goal

pub loop-low-preserved : goal.loop-low-preserved
loop-low-preserved c =
    let mid = c.loop-low.low + (c.loop-low.high - c.loop-low.low) / 2 in
    let within : mid < length c.args.blocks.now = omega arith in
    let is : c.index-blocks-mid.result ≡ get_or c.args.blocks.now mid [] = c.index-blocks-mid.is ∙ same-default c.args.blocks.now mid _ [] within in
    record {
      near = omega arith;
      within = c.loop-low.invariant.within;
      below = λ k lt.
          before-block c.args.table c.args.number c.args.blocks.now mid k within c.requires.order c.requires.filled
          (ap (starts_past c.args.table c.args.number) (sym is) ∙ (sym c.starts_past.ensures ∙ c.if-starts_past.false)) (omega (arith, lt));
      above = c.loop-low.invariant.above;
    }
