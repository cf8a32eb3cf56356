use Rattle.std.proofs.Common.{◌≡◌, subst}
use Rattle.std.specs.Prelude.{None}
use Rattle.sql_ast.specs.declared.rows.Assignment.{Assignment}
use Rattle.au_change.specs.Inside.{IsSetting, assignment_kind}
use Rattle.au_change.proofs.SetLemmas.{next_first, next_setting}
use Rattle.au_change.proofs.settings.settings.Goals as goal

pub loop-assignment-preserved : goal.loop-assignment-preserved
loop-assignment-preserved c =
    let told = rw c.in-Ok.is at c.in_ok-setting.ensures in
    let i = c.loop-assignment.assignment-index in
    let x = c.assignment-item.result in
    record {
      code = next_first (assignment_kind c.args.range.now) c.args.assignments.now i x _ c.loop-assignment-test.true
          (subst (λ (a : Assignment). assignment_kind c.args.range.now a ≡ None) c.assignment-item.is told.1) c.loop-assignment.invariant.code;
      settings = next_setting c.args.range.now c.args.assignments.now i x c.loop-assignment.settings.items c.push.new.self.items c.in-Ok.setting c.loop-assignment-test.true
          c.loop-assignment.invariant.settings
          (subst (λ (a : Assignment). IsSetting c.args.range.now a c.in-Ok.setting) c.assignment-item.is told.0)
          c.in_ok-push-in-Ok.ensures.items;
    }
