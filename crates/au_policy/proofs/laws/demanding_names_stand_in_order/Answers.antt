use Rattle.au_base.specs.Order.{name_before}
use Rattle.au_entries.specs.declared.policy.AuditPolicy.{AuditPolicy}
use Rattle.au_entries.specs.Demand.{demands}
use Rattle.au_policy.proofs.Ordered.{order_kept}
use Rattle.au_policy.proofs.laws.demanding_names_stand_in_order.Goals as goal

pub returns : goal.returns
returns c when grants enabled policies facts ordered = order_kept name_before (λ (policy : AuditPolicy). policy.name) (demands when grants enabled facts) policies ordered
