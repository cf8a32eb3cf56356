use Rattle.std.proofs.Common.{◌≡◌, true, ◌↔◌, Result, Ok, Err, subst}
use Rattle.std.specs.Prelude.{IfOk}
use Rattle.au_base.specs.Sameness.{same_table}
use Rattle.au_base.specs.declared.grant.GrantStatement.{GrantStatement}
use Rattle.au_base.specs.declared.table.TableName.{TableName}
use Rattle.au_define.specs.Granting.{DecidesGrant, of_decided}
use Rattle.au_define.specs.Settings.{Setting, lent}
use Rattle.au_define.specs.descent.Named.{known_named}
use Rattle.au_define.proofs.Named.{decided_by_names}
use Rattle.au_entries.specs.declared.decision.Decision.{Decision}
use Rattle.au_priv.specs.declared.decided.Decided.{Decided}
use Rattle.au_priv.specs.declared.decided.Known.{Known}
use Rattle.au_priv.specs.Deciding.{Decides}
use Rattle.au_define.proofs.granting.grant.Goals as goal

by_names : {E : Type 0} (table_is : (a b : TableName) → (same_table a b ≡ true) ↔ (a ≡ b)) (setting : Setting) (statement : GrantStatement) (known : Known) (decided : Decided) (result : Result Decision E)
    → known ≡ known_named setting statement → Decides setting.grants known setting.user statement decided → IfOk result (λ decision. decision ≡ of_decided decided) → IfOk result (DecidesGrant setting statement)
by_names table_is setting statement known decided (Ok decision) named decides is =
    (decided, decided_by_names table_is setting statement decided (subst (λ (k : Known). Decides setting.grants k setting.user statement decided) named decides), is)
by_names table_is setting statement known decided (Err error) named decides is = tt

pub returns : goal.returns
returns c = by_names c.same_is_equal.ensures.table (lent c.args.case.now) _ _ _ _ c.in_ok-known.ensures c.in_ok-decided.ensures.decided c.of_decided.ensures
