use Rattle.std.proofs.Common.{◌∙◌, ap, filter}
use Rattle.std.specs.List.{list_any}
use Rattle.au_world.specs.Rights.{uses}
use Rattle.au_world.proofs.rights.used.Goals as goal

pub returns : goal.returns
returns c = c.in_ok-used.ensures ∙ ap (filter (λ privilege. list_any (uses privilege) c.args.answers.now)) c.constants_are_as_listed.ensures.each.privileges
