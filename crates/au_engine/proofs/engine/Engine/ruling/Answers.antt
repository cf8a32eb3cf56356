use Rattle.std.proofs.Common.{subst, sym}
use Rattle.std.specs.Prelude.{Ok, Option}
use Rattle.au_ruling.specs.declared.ruling.Ruling.{Ruling}
use Rattle.au_ruling.specs.Rulings.{Comes}
use Rattle.au_step.specs.Planning.{IsPlanOfRead}
use Rattle.au_step.specs.Step.{decided_in, ground_of}
use Rattle.au_world.specs.declared.row_plan.RowPlan.{RowPlan}
use Rattle.au_engine.proofs.Rulings.{ruled_by_plan, unplanned}
use Rattle.au_engine.proofs.engine.Engine.ruling.Goals as goal

pub ruled-requires : goal.ruled-requires
ruled-requires c =
    let a = c.args in
    record {
      other = unplanned a.self.now.state a.session.now a.statement.now a.stamp.0
          (subst (λ (p : Option RowPlan). IsPlanOfRead a.self.now.state a.session.now a.stamp.0 (Ok a.statement.now) p) c.in-None.is c.requires.planned);
    }

pub returns-in-Some : goal.returns-in-Some
returns-in-Some c =
    let a = c.args in
    let m = a.self.now.state in
    let planned = subst (λ (p : Option RowPlan). IsPlanOfRead m a.session.now a.stamp.0 (Ok a.statement.now) p) c.in-Some.is c.requires.planned in
    subst (λ (r : Ruling). Comes (ground_of (decided_in m a.session.now.client a.statement.now) a.session.now a.statement.now a.stamp.0) a.statement.now r) (sym c.of_plan.ensures)
    (ruled_by_plan m a.session.now a.statement.now a.stamp.0 c.in-Some.plan planned)
