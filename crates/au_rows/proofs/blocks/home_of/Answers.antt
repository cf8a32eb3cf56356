use Rattle.std.proofs.Common.{◌≡◌, ◌∙◌, ◌-◌, [], ℕ, suc, get_or, ap, arith}
use Rattle.au_rows.specs.Blocks.{starts_past}
use Rattle.au_rows.proofs.BlockLemmas.{home-behind}
use Rattle.au_rows.proofs.blocks.home_of.Goals as goal

pub returns-else-past-eq0-clause-home : goal.returns-else-past-eq0-clause-home
returns-else-past-eq0-clause-home c =
    let past = c.first_past-past.result in
    let some = c.if-past-eq0.false in
    let within = c.first_past-past.ensures.within in
    let at : suc (past - 1) ≡ past = omega arith in
    home-behind c.args.table c.args.number c.args.blocks.now (past - 1) (omega arith) c.requires.order c.requires.filled
    (c.first_past-past.ensures.below (past - 1) (omega arith))
    (λ less. ap (λ (k : ℕ). starts_past c.args.table c.args.number (get_or c.args.blocks.now k [])) at ∙ c.first_past-past.ensures.above (omega (arith, less)))
