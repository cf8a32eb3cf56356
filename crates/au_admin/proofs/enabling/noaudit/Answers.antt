use Rattle.std.proofs.Common.{◌≡◌}
use Rattle.au_admin.specs.Enabling.{DecidesNoaudit, noaudit}
use Rattle.au_calls.specs.Settings.{lent}
use Rattle.au_admin.specs.Looking.{enablement_of}
use Rattle.au_entries.specs.Enabling.{noaudit_made}
use Rattle.au_admin.proofs.Answered.{if_ok, tells_same}
use Rattle.au_admin.proofs.enabling.noaudit.Goals as goal

pub returns : goal.returns
returns c =
    let setting = lent c.args.case.now in
    let policy = c.args.policy.now in
    let users = c.args.users.now in
    let rights = c.in_ok-rights.rights in
    let same = c.is_same-same.result in
    if_ok (λ decision. decision ≡ noaudit rights same setting policy users) (DecidesNoaudit setting policy users) c.noaudit_by.result
    (λ decision is. (
      rights,
      same,
      c.in_ok-rights.ensures,
      tells_same (noaudit_made users) (enablement_of setting policy) c.in_ok-standing.standing c.in_ok-made.made same c.in_ok-standing.ensures c.in_ok-made.ensures c.is_same-same.ensures,
      is,
    )) c.noaudit_by.ensures
