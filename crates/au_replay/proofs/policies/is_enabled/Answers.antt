use Rattle.std.proofs.Common.{◌∙◌, List, ℕ, ap}
use Rattle.std.specs.List.{list_any}
use Rattle.std.specs.Str.{bytes_eq}
use Rattle.au_entries.specs.declared.policy.Enabled.{Enabled}
use Rattle.au_replay.proofs.policies.is_enabled.Goals as goal

pub returns : goal.returns
returns c = c.has_named.ensures ∙ ap (λ (name : List ℕ). list_any (λ (entry : List ℕ × Enabled). bytes_eq entry.0 name) c.args.sight.now.enabled.now) c.as_str.ensures
