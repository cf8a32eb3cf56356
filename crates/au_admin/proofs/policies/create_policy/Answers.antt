use Rattle.std.proofs.Common.{◌≡◌}
use Rattle.au_admin.specs.Policies.{DecidesCreatePolicy, create_policy}
use Rattle.au_calls.specs.Settings.{lent}
use Rattle.au_admin.proofs.Answered.{if_ok}
use Rattle.au_admin.proofs.policies.create_policy.Goals as goal

pub returns : goal.returns
returns c =
    let setting = lent c.args.case.now in
    let rights = c.in_ok-rights.rights in
    if_ok (λ decision. decision ≡ create_policy rights setting c.args.create.now) (DecidesCreatePolicy setting c.args.create.now) c.create_policy_by.result
    (λ decision is. (rights, c.in_ok-rights.ensures, is)) c.create_policy_by.ensures
