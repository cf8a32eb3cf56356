use Rattle.std.proofs.Common.{◌≤◌, ◌+◌, ℕ, [], ◌∷◌, length, Result, Ok, Err, subst}
use Rattle.std.specs.Prelude.{IfOk}
use Rattle.std.specs.List.{filter}
use Rattle.au_base.specs.declared.grant.GrantStatement.{GrantStatement}
use Rattle.au_base.specs.Limits.{GRANTS}
use Rattle.au_grants.specs.declared.change.GrantChange.{GrantChange}
use Rattle.au_grants.specs.declared.grants.Grants.{Grants}
use Rattle.au_grants.specs.Changing.{Closes, applied, applied_all, is_new}
use Rattle.au_grants.specs.Rights.{HasNoCircle, Name, grant_count}
use Rattle.au_priv.specs.declared.decided.Decided.{Decided}
use Rattle.au_priv.specs.declared.decided.Known.{Known}
use Rattle.au_priv.specs.Deciding.{Decides}
use Rattle.au_priv.proofs.Circles.{decides_keeps}
use Rattle.au_priv.proofs.Limits.{decides_stays}
use Rattle.au_priv.proofs.deciding.decide.Goals as goal

kept : {E : Type 0} (keeps : (grants : Grants) (change : GrantChange) → (Closes grants.role change → ⊥) → HasNoCircle grants.role → HasNoCircle (applied change grants).role)
    (grants : Grants) (known : Known) (user : Name) (statement : GrantStatement) (result : Result Decided E)
    → IfOk result (Decides grants known user statement) → IfOk result (λ decided. HasNoCircle grants.role → HasNoCircle (applied_all decided.grants grants).role)
kept keeps grants known user statement (Ok decided) is = decides_keeps keeps grants known user statement decided is
kept keeps grants known user statement (Err error) is = tt

pub returns-clause-no_circle : goal.returns-clause-no_circle
returns-clause-no_circle c = kept c.changes_keep_no_circle.ensures.kept _ _ _ _ _ c.decide_statement.ensures

few : {E : Type 0} (adds : (grants : Grants) (change : GrantChange) → grant_count (applied change grants) ≤ grant_count grants + length (filter (is_new grants) (change ∷ [])))
    (grants : Grants) (known : Known) (user : Name) (statement : GrantStatement) (result : Result Decided E)
    → IfOk result (Decides grants known user statement) → grant_count grants ≤ GRANTS → IfOk result (λ decided. grant_count (applied_all decided.grants grants) ≤ GRANTS)
few adds grants known user statement (Ok decided) is before = decides_stays adds grants known user statement decided is before
few adds grants known user statement (Err error) is before = tt

pub returns-clause-few : goal.returns-clause-few
returns-clause-few c = few c.changes_add_one_grant_at_most.ensures.new _ _ _ _ _ c.decide_statement.ensures (subst (λ (n : ℕ). n ≤ GRANTS) c.count.ensures.count c.count.ensures.few)
