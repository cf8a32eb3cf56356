use Rattle.std.proofs.Common.{◌≡◌, ◌∙◌, Some, inl, inr, refl, sym, subst}
use Rattle.std.proofs.lemmas.Option.{same_Some}
use Rattle.au_base.specs.declared.privilege.Privilege.{Privilege}
use Rattle.au_grants.specs.declared.grants.Grants.{Grants}
use Rattle.au_base.specs.declared.action.Action.{Action}
use Rattle.au_grants.specs.Rights.{HoldsPrivilege, Name}
use Rattle.au_priv.specs.Allowing.{HoldsAnyTable, any_table_privilege}
use Rattle.au_priv.proofs.FirstHeld.{behind_two, first_of_four, none_behind_two, second_of_four}
use Rattle.au_priv.proofs.allowing.by_right.Goals as goal

no_other : (grants : Grants) (user : Name) (action : Action) (privilege : Privilege) → any_table_privilege action ≡ Some privilege → ¬ HoldsPrivilege grants user privilege
    → (other : Privilege) → HoldsAnyTable grants user action other → ⊥
no_other grants user action privilege any lacks other (allows, holds) = lacks (subst (λ (p : Privilege). HoldsPrivilege grants user p) (same_Some other privilege (sym allows ∙ any)) holds)

pub returns-then-place-eq0 : goal.returns-then-place-eq0
returns-then-place-eq0 c = (c.requires.other, first_of_four c.args.grants.now c.args.user.now _ _ _ c.in-Some.place c.if-place-eq0.true ((c.in-Some.ensures.some c.in-Some.place).0 refl))

pub returns-then-place-eq1 : goal.returns-then-place-eq1
returns-then-place-eq1 c =
    let at = second_of_four c.args.grants.now c.args.user.now _ _ _ c.in-Some.place c.if-place-eq1.true ((c.in-Some.ensures.some c.in-Some.place).0 refl) in
    (c.requires.other, at.0, (c.requires.any, at.1))

pub returns-else-place-eq1 : goal.returns-else-place-eq1
returns-else-place-eq1 c =
    let at = behind_two c.args.grants.now c.args.user.now c.args.table.now _ _ _ c.in-Some.place (λ holds. holds) c.if-place-eq0.false c.if-place-eq1.false ((c.in-Some.ensures.some c.in-Some.place).0 refl) in
    (c.requires.other, at.0, no_other c.args.grants.now c.args.user.now c.args.action c.args.privilege c.requires.any at.1, inl (at.2, refl))

pub returns-in-None : goal.returns-in-None
returns-in-None c =
    let at = none_behind_two c.args.grants.now c.args.user.now c.args.table.now _ _ _ (λ has. has) (c.in-None.ensures.none.0 refl) in
    (c.requires.other, at.0, no_other c.args.grants.now c.args.user.now c.args.action c.args.privilege c.requires.any at.1, inr (at.2, refl))
