use Rattle.std.proofs.Common.{◌≡◌, ◌∙◌, get_or, List, Some, None, map, sym, subst}
use Rattle.std.specs.List.{Contains}
use Rattle.au_base.specs.declared.cell.Cell.{Cell}
use Rattle.au_rows.specs.declared.sought.Sought.TheVariants.{Seen}
use Rattle.au_rows.specs.declared.version.Version.{Version}
use Rattle.au_rows.specs.Held.{HasKey, view_of}
use Rattle.au_rows.specs.Kept.{held_of}
use Rattle.au_rows.specs.Sought.{IsMatch}
use Rattle.au_rows.proofs.SoughtLemmas.{under-none, under-some}
use Rattle.au_rows.proofs.reading.under_index.Goals as goal

pub returns-in-Some-get-clause-some : goal.returns-in-Some-get-clause-some
returns-in-Some-get-clause-some c =
    let asked = c.args.asked.now in
    let slots = c.args.versions.now.slots in
    let version = c.in-Some-get.version.now in
    let is : get_or slots c.in-Some.slot None ≡ Some version = sym c.in-Some-get.ensures in
    let found = c.in-Some.ensures.some in
    let both : Some found.0 ≡ Some version = sym found.1 ∙ is in
    let same : found.0 ≡ version = cc in
    let match_it = subst (λ (v : Version). IsMatch Seen c.args.places.now.listed asked.table asked.places.now asked.key.now asked.by c.in-Some.slot v) same found.2 in
    let view = view_of asked.table asked.by (map (held_of slots) c.args.places.now.listed) in (
      subst (λ (cells : List Cell). Contains view (version.number, cells)) (sym c.as_slice.ensures)
          (under-some slots asked.by asked.table c.args.places.now.listed asked.places.now asked.key.now c.in-Some.slot version is match_it),
      subst (λ (cells : List Cell). HasKey asked.places.now asked.key.now (Some cells)) (sym c.as_slice.ensures) match_it.1,
    )

pub returns-in-None-clause-none : goal.returns-in-None-clause-none
returns-in-None-clause-none c =
    let asked = c.args.asked.now in
    under-none c.args.versions.now.slots asked.by asked.table c.args.places.now.listed asked.places.now asked.key.now c.requires.order c.requires.whole c.requires.indexed c.requires.keyed c.in-None.ensures.none
