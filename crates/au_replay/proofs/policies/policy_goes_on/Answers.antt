use Rattle.std.proofs.Common.{◌≡◌, ◌∙◌, true, false, sym}
use Rattle.au_base.specs.BuiltIn.{ora_mandatory}
use Rattle.au_replay.proofs.Readings.{policy_text}
use Rattle.au_replay.proofs.policies.policy_goes_on.Goals as goal

pub returns-in-Some : goal.returns-in-Some
returns-in-Some c =
    let other : c.args.name.now ≡ ora_mandatory → ⊥ = λ same. (let e : true ≡ false = sym (c.is_reserved.ensures.1 same) ∙ c.if-is_reserved.false in cc) in
    policy_text c.args.name.now c.args.when.now _ _ c.is_policy_condition.result other c.in-Some.is c.as_bytes.ensures.value c.is_policy_condition.ensures
