use Rattle.std.proofs.lemmas.Result.{IfOk-weaker}
use Rattle.au_fga.specs.declared.testing.Test.{Test}
use Rattle.au_fga.specs.descent.Candidates.{AnswersFor}
use Rattle.au_fga.specs.descent.Comparing.{Decides, passes}
use Rattle.au_fga.proofs.Answering.{answers_some}
use Rattle.au_fga.proofs.candidates.tested.Goals as goal

pub returns-in-Some-Some : goal.returns-in-Some-Some
returns-in-Some-Some c =
    IfOk-weaker c.test_of.result (λ (test : Test). Decides c.in-Some-Some.table.now c.in-Some-Some.condition.tree (λ session. passes session test)) (AnswersFor c.args.tables.now c.args.name.now c.args.condition.now)
    (λ test decides. answers_some c.args.tables.now c.args.name.now c.args.condition.now c.in-Some-Some.condition c.in-Some-Some.table.now test c.in-Some-Some.is-0 (rw c.in-Some-Some.is-1 at c.table_of.ensures) decides)
    c.test_of.ensures
