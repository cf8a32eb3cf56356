use Rattle.std.proofs.Common.{arith}
use Rattle.std.proofs.lemmas.Grind.{common_steps}
use Rattle.au_script.proofs.LineLaws.{names_nobody, names_no_other}
use Rattle.au_script.proofs.asks.logon.Goals as goal
use Rattle.au_script.proofs.asks.logon.Goals.{then-is_empty-via-then-is_empty, then-is_empty-via-else-is_empty+then-not-is_password}

pub returns-in-None : goal.returns-in-None
returns-in-None c = names_nobody c.args.names.now c.in-None.ensures

pub returns-then-is_empty : goal.returns-then-is_empty
returns-then-is_empty c =
    names_no_other c.args.names.now c.in-Some.parts.0.now c.in-Some.parts.1.now c.in-Some.ensures
    (λ a b d. elim c.then-is_empty.branch [
      | then-is_empty-via-then-is_empty w ↦ grind (arith, common_steps)
      | then-is_empty-via-else-is_empty+then-not-is_password w ↦ let yes = w.is_password.ensures.1 (b, d) in grind (arith, yes)
    ])
