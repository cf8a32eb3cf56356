use Rattle.std.proofs.Common.{◌∙◌, ap}
use Rattle.au_entries.specs.Changing.{is_fga}
use Rattle.au_replay.proofs.Places.{fga_at, no_fga, past}
use Rattle.au_replay.proofs.finding.has_fga.Goals as goal

pub returns-then-place-policies : goal.returns-then-place-policies
returns-then-place-policies c =
    let read = c.index-policies-place in
    c.is_fga.ensures ∙ ap (is_fga c.args.table.now c.args.policy.now) read.is
    ∙ fga_at c.args.table.now c.args.policy.now c.args.policies.now _ read.result c.requires.order c.fga_place-place.ensures c.if-place-policies.true

pub returns-else-place-policies : goal.returns-else-place-policies
returns-else-place-policies c = past _ _ c.if-place-policies.false ∙ no_fga c.args.table.now c.args.policy.now c.args.policies.now _ c.fga_place-place.ensures c.if-place-policies.false
