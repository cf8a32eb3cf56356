use Rattle.std.proofs.Common.{◌≡◌, ◌∙◌, None, Some, inl, inr, refl, sym}
use Rattle.au_base.specs.declared.action.Action.{Action}
use Rattle.au_base.specs.declared.privilege.Privilege.{Privilege}
use Rattle.au_grants.specs.declared.grants.Grants.{Grants}
use Rattle.au_grants.specs.Rights.{Name}
use Rattle.au_priv.specs.Allowing.{HoldsAnyTable, any_table_privilege}
use Rattle.au_priv.proofs.FirstHeld.{behind_one, first_of_three, none_behind_one}
use Rattle.au_priv.proofs.allowing.by_object_privilege.Goals as goal

no_other : (grants : Grants) (user : Name) (action : Action) → any_table_privilege action ≡ None → (other : Privilege) → HoldsAnyTable grants user action other → ⊥
no_other grants user action none other (allows, holds) = absurd (let e : None ≡ Some other = sym none ∙ allows in cc)

pub returns-in-Some-eq0 : goal.returns-in-Some-eq0
returns-in-Some-eq0 c = (c.requires.other, first_of_three c.args.grants.now c.args.user.now _ _ c.in-Some-eq0.field-0 c.in-Some-eq0.field-0-test ((c.in-Some-eq0.ensures.some c.in-Some-eq0.field-0).0 refl))

pub returns-in-Some : goal.returns-in-Some
returns-in-Some c =
    let at = behind_one c.args.grants.now c.args.user.now c.args.table.now _ _ c.in-Some.field-0 (λ holds. holds) c.in-Some.field-0-test.1 ((c.in-Some.ensures.some c.in-Some.field-0).0 refl) in
    (c.requires.other, at.0, no_other c.args.grants.now c.args.user.now c.args.action c.requires.none, inl (at.1, refl))

pub returns-in-None : goal.returns-in-None
returns-in-None c =
    let at = none_behind_one c.args.grants.now c.args.user.now c.args.table.now _ _ (λ has. has) (c.in-None.ensures.none.0 refl) in
    (c.requires.other, at.0, no_other c.args.grants.now c.args.user.now c.args.action c.requires.none, inr (at.1, refl))
