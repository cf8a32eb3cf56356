use Rattle.std.proofs.Common.{ℕ, List, subst, sym}
use Rattle.std.specs.Prelude.{IsTrue}
use Rattle.au_audit.specs.Conditions.{when_of}
use Rattle.au_base.specs.Order.{is_in_order, name_before}
use Rattle.au_entries.specs.declared.policy.AuditPolicy.{AuditPolicy}
use Rattle.au_entries.specs.Demand.{demands}
use Rattle.au_policy.specs.Asking.{truth_now}
use Rattle.au_policy.proofs.Ordered.{order_kept}
use Rattle.au_policy.proofs.demanding.demanded.Goals as goal

pub place_mandatory-requires : goal.place_mandatory-requires
place_mandatory-requires c =
    let session = c.args.session.now in
    let when = when_of (truth_now session) session.session c.args.kept.now in
    record {
      order = subst (λ (names : List (List ℕ)). IsTrue (is_in_order name_before names)) (sym c.in_ok-found.ensures.names)
          (order_kept name_before (λ (policy : AuditPolicy). policy.name) (demands when c.args.grants.now c.args.catalog.now.enabled c.args.facts.now) c.args.catalog.now.policies c.requires.catalog.policies);
    }
