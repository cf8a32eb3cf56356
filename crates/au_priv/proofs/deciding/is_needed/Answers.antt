use Rattle.std.proofs.Common.{◌≡◌, ◌∙◌, false, true, inl, inr, refl, sym}
use Rattle.au_priv.proofs.FirstHeld.{first_of_two, neither_of_two, second_is}
use Rattle.au_priv.proofs.deciding.is_needed.Goals as goal

pub returns-then-needed : goal.returns-then-needed
returns-then-needed c = record {
  held = λ now. c.requires c.if-needed.true;
  needed_is = (λ now. inl c.if-needed.true, λ either. refl);
  suffices = inr (c.requires c.if-needed.true);
}

pub returns-in-Some-eq0 : goal.returns-in-Some-eq0
returns-in-Some-eq0 c =
    let holds = first_of_two c.args.case.grants.now c.args.case.user.now c.args.right _ c.in-Some-eq0.field-0 c.in-Some-eq0.field-0-test ((c.in-Some-eq0.ensures.some c.in-Some-eq0.field-0).0 refl) in
    record {
      held = λ now. absurd (let e : false ≡ true = now in cc);
      needed_is = (
        λ now. absurd (let e : false ≡ true = now in cc),
        λ either. elim either [
          | inl before ↦ absurd (let e : true ≡ false = sym before ∙ c.if-needed.false in cc)
          | inr lacks ↦ absurd (lacks holds)
        ],
      );
      suffices = inl holds;
    }

pub returns-in-Some : goal.returns-in-Some
returns-in-Some c =
    let at = second_is c.args.case.grants.now c.args.case.user.now c.args.right _ c.in-Some.field-0 c.in-Some.field-0-test.1 ((c.in-Some.ensures.some c.in-Some.field-0).0 refl) in
    record {
      held = λ now. at.1;
      needed_is = (λ now. inr at.0, λ either. refl);
      suffices = inr at.1;
    }

pub returns-in-None : goal.returns-in-None
returns-in-None c =
    let at = neither_of_two c.args.case.grants.now c.args.case.user.now c.args.right _ (c.in-None.ensures.none.0 refl) in
    (at.0, at.1, refl)
