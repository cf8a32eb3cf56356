use Rattle.std.proofs.Common.{inl, inr, refl}
use Rattle.au_priv.proofs.FirstHeld.{behind_one, first_of_three, none_behind_one}
use Rattle.au_priv.proofs.deciding.privilege_refusal.Goals as goal

pub returns-in-Some-eq0 : goal.returns-in-Some-eq0
returns-in-Some-eq0 c code refuses =
    let holds = first_of_three c.args.case.grants.now c.args.case.user.now _ _ c.in-Some-eq0.field-0 c.in-Some-eq0.field-0-test ((c.in-Some-eq0.ensures.some c.in-Some-eq0.field-0).0 refl) in
    elim refuses [
      | inl built_in ↦ c.requires.not_built_in built_in.0
      | inr rest ↦ elim rest [
        | inl absent ↦ absent.1 c.requires.there
        | inr lacks ↦ lacks.3 holds
      ]
    ]

pub returns-in-Some : goal.returns-in-Some
returns-in-Some c =
    let at = behind_one c.args.case.grants.now c.args.case.user.now c.args.table.now _ _ c.in-Some.field-0 (λ holds. holds) c.in-Some.field-0-test.1 ((c.in-Some.ensures.some c.in-Some.field-0).0 refl) in
    inr (inr (c.requires.not_built_in, c.requires.there, c.requires.other, at.0, inl (at.1, refl)))

pub returns-in-None : goal.returns-in-None
returns-in-None c =
    let at = none_behind_one c.args.case.grants.now c.args.case.user.now c.args.table.now _ _ (λ has. has) (c.in-None.ensures.none.0 refl) in
    inr (inr (c.requires.not_built_in, c.requires.there, c.requires.other, at.0, inr (at.1, refl)))
