use Rattle.std.proofs.Common.{◌∙◌, List, ℕ, ap}
use Rattle.std.specs.List.{list_any}
use Rattle.std.specs.Str.{bytes_eq}
use Rattle.au_replay.proofs.users.has_role.Goals as goal

pub returns : goal.returns
returns c = c.has_named.ensures ∙ ap (λ (name : List ℕ). list_any (λ (user : List ℕ). bytes_eq user name) c.args.sight.now.roles.now) c.as_str.ensures
