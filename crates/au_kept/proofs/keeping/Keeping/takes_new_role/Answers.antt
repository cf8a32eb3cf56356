use Rattle.au_kept.proofs.InPlace.{new_goes}
use Rattle.au_replay.specs.Reading.{conditions}
use Rattle.au_kept.proofs.keeping.Keeping.takes_new_role.Goals as goal

pub returns : goal.returns
returns c =
    let law = new_goes conditions c.args.self.now.kept c.args.changes.now c.holds_together.ensures.kept.lawful.founded c.requires in
    (λ is. law.0 (c.has_new_grantee.ensures.0 is), λ goes. c.has_new_grantee.ensures.1 (law.1 goes))
