use Rattle.std.proofs.Common.{◌∙◌, Bool, ap}
use Rattle.au_logon.specs.Admitting.{admission_of}
use Rattle.au_logon.proofs.admitting.admit_user.Goals as goal

pub returns : goal.returns
returns c = (
  c.holds_privilege-held.result,
  c.holds_privilege-held.ensures,
  c.in_ok-admission.ensures ∙ ap (λ (known : Bool). admission_of known c.holds_privilege-held.result c.args.crowded c.args.name) c.is_known-known.ensures,
)
