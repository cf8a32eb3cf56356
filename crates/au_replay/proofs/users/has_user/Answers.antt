use Rattle.std.proofs.Common.{◌∙◌, List, ℕ, ap}
use Rattle.std.specs.List.{list_any}
use Rattle.std.specs.Str.{bytes_eq}
use Rattle.au_replay.proofs.users.has_user.Goals as goal

pub returns : goal.returns
returns c = c.has_named.ensures ∙ ap (λ (name : List ℕ). list_any (λ (user : List ℕ × List ℕ). bytes_eq user.0 name) c.args.sight.now.users.now) c.as_str.ensures
