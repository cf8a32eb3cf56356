use Rattle.std.proofs.lemmas.Result.{IfOk-weaker}
use Rattle.au_audit.proofs.Once.{without_once}
use Rattle.au_audit.proofs.enabling.without_users.Goals as goal

pub returns : goal.returns
returns c = IfOk-weaker c.without.result _ _ (λ left leaves. without_once c.args.users.now c.in_ok-once.once.keys c.args.listed.now left.items c.in_ok-once.ensures leaves) c.without.ensures
