use Rattle.std.proofs.Common.{ap, ◌∙◌}
use Rattle.std.specs.List.{filter}
use Rattle.std.proofs.lemmas.Fn.{filter_same}
use Rattle.au_base.proofs.list.List.retain.Goals as goal

pub returns-clause-kept : goal.returns-clause-kept
returns-clause-kept g c meets computes = filter_same _ meets c.args.test computes _ _ c.retain.ensures.filtered ∙ ap (filter meets) c.self.view_is
