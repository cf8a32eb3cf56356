use Rattle.std.proofs.Common.{◌≡◌, ◌∙◌, get_or, Some, None, sym, subst}
use Rattle.au_rows.specs.declared.sought.Sought.TheVariants.{Other}
use Rattle.au_rows.specs.declared.version.Version.{Version}
use Rattle.au_rows.specs.Sought.{IsMatch}
use Rattle.au_rows.proofs.OtherLemmas.{other-none, other-some}
use Rattle.au_rows.proofs.reading.other_index.Goals as goal

pub returns-in-Some-get-clause-some : goal.returns-in-Some-get-clause-some
returns-in-Some-get-clause-some c =
    let asked = c.args.asked.now in
    let slots = c.args.versions.now.slots in
    let version = c.in-Some-get.version.now in
    let is : get_or slots c.in-Some.slot None ≡ Some version = sym c.in-Some-get.ensures in
    let found = c.in-Some.ensures.some in
    let both : Some found.0 ≡ Some version = sym found.1 ∙ is in
    let same : found.0 ≡ version = cc in
    let match_it = subst (λ (v : Version). IsMatch (Other c.args.row) c.args.places.now.listed asked.table asked.places.now asked.key.now asked.by c.in-Some.slot v) same found.2 in
    other-some slots asked.by asked.table c.args.row c.args.places.now.listed asked.places.now asked.key.now c.in-Some.slot version is match_it

pub returns-in-None-clause-none : goal.returns-in-None-clause-none
returns-in-None-clause-none c =
    let asked = c.args.asked.now in
    other-none c.args.versions.now.slots asked.by asked.table c.args.row c.args.places.now.listed asked.places.now asked.key.now c.requires.order c.requires.whole c.requires.indexed c.requires.keyed c.in-None.ensures.none
