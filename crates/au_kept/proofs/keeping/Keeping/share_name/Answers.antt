use Rattle.std.proofs.Common.{◌∙◌, ap, refl, sym}
use Rattle.std.specs.Option.{option_copied}
use Rattle.au_kept.proofs.Apart.{first_found, none_shares}
use Rattle.au_kept.proofs.keeping.Keeping.share_name.Goals as goal

pub share_name_of-requires-clause-there : goal.share_name_of-requires-clause-there
share_name_of-requires-clause-there c = (first_found c.args.self.now.kept c.args.changes.now c.in-Some.first.now (sym c.first_to_role.ensures ∙ ap option_copied c.in-Some.is)).0

pub share_name_of-requires-clause-to_role : goal.share_name_of-requires-clause-to_role
share_name_of-requires-clause-to_role c = (first_found c.args.self.now.kept c.args.changes.now c.in-Some.first.now (sym c.first_to_role.ensures ∙ ap option_copied c.in-Some.is)).1

pub returns-in-None : goal.returns-in-None
returns-in-None c = let shares = none_shares c.args.self.now.kept c.args.changes.now (sym c.first_to_role.ensures ∙ ap option_copied c.in-None.is) in ((λ is. shares), (λ share. refl))
