use Rattle.std.proofs.Common.{◌∙◌, ◌↔◌, List, Option, ap, subst}
use Rattle.std.specs.Prelude.{IsTrue}
use Rattle.au_base.specs.declared.cell.Cell.{Cell}
use Rattle.au_rows.specs.Held.{HasKey}
use Rattle.au_rows.specs.Kept.{content_at}
use Rattle.au_rows.proofs.PutLemmas.{settled-found}
use Rattle.au_rows.proofs.keys.has_committed_key.Goals as goal

pub returns : goal.returns
returns c =
    subst (λ (content : Option (List Cell)). IsTrue c.has_key_in.result ↔ HasKey c.args.asked.now.places.now c.args.asked.now.key.now content)
    (ap (content_at c.args.versions.now.slots) c.settled-slot.ensures ∙ settled-found c.args.versions.now.slots c.args.change.now.table c.args.change.now.number c.args.places.now.listed)
    c.has_key_in.ensures
