use Rattle.std.proofs.Common.{◌∙◌, List, ℕ, ap}
use Rattle.std.specs.List.{list_any}
use Rattle.std.specs.Str.{bytes_eq}
use Rattle.au_entries.specs.declared.policy.AuditPolicy.{AuditPolicy}
use Rattle.au_replay.proofs.policies.has_policy.Goals as goal

pub returns : goal.returns
returns c = c.has_named.ensures ∙ ap (λ (name : List ℕ). list_any (λ (policy : AuditPolicy). bytes_eq policy.name name) c.args.sight.now.policies.now) c.as_str.ensures
