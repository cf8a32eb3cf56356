use Rattle.std.proofs.Common.{◌≡◌}
use Rattle.au_admin.specs.Enabling.{DecidesAudit, audit}
use Rattle.au_calls.specs.Settings.{lent}
use Rattle.au_admin.specs.Looking.{enablement_of}
use Rattle.au_entries.specs.Enabling.{audit_made}
use Rattle.au_admin.proofs.Answered.{if_ok, tells_same}
use Rattle.au_admin.proofs.enabling.audit.Goals as goal

pub returns : goal.returns
returns c =
    let setting = lent c.args.case.now in
    let statement = c.args.statement.now in
    let rights = c.in_ok-rights.rights in
    let same = c.is_same-same.result in
    if_ok (λ decision. decision ≡ audit rights same setting statement) (DecidesAudit setting statement) c.audit_by.result
    (λ decision is. (
      rights,
      same,
      c.in_ok-rights.ensures,
      tells_same (audit_made statement.users statement.whenever) (enablement_of setting statement.policy) c.in_ok-standing.standing c.in_ok-made.made same c.in_ok-standing.ensures c.in_ok-made.ensures c.is_same-same.ensures,
      is,
    )) c.audit_by.ensures
