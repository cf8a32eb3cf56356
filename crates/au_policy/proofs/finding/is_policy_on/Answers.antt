use Rattle.std.proofs.Common.{◌∙◌, ℕ, Bool, List, ap, sym}
use Rattle.std.specs.Prelude.{Option}
use Rattle.au_entries.specs.declared.policy.Enabled.{Enabled}
use Rattle.au_entries.specs.Demand.{enablement_found}
use Rattle.au_entries.specs.Enabling.{is_on}
use Rattle.au_policy.proofs.Found.{by_names, found_at, missed_at, missed_past}
use Rattle.au_policy.proofs.finding.is_policy_on.Goals as goal
use Rattle.au_policy.proofs.finding.is_policy_on.Goals.{else-place-enabled-via-then-place-enabled+else-eq, else-place-enabled-via-else-place-enabled}

abbrev of : Option (List ℕ × Enabled) → Bool
of found = is_on (enablement_found found)

pub name_place-place-requires : goal.name_place-place-requires
name_place-place-requires c = record { order = by_names c.args.enabled.now c.requires.order }

pub returns-then-eq : goal.returns-then-eq
returns-then-eq c =
    c.is_on.ensures
    ∙ sym (ap of (found_at c.args.policy.now c.args.enabled.now _ c.index-enabled-place.result c.index-enabled-place-then-eq.result c.name_place-place.ensures.place c.if-place-enabled.true (sym c.eq.ensures ∙ c.if-eq.true)))

pub returns : goal.returns
returns c = elim c.else-place-enabled.branch [
  | else-place-enabled-via-then-place-enabled+else-eq w ↦
      sym (ap of (missed_at c.args.policy.now c.args.enabled.now _ w.index-enabled-place.result (by_names c.args.enabled.now c.requires.order) c.name_place-place.ensures.place w.if-place-enabled.true (sym w.eq.ensures ∙ w.if-eq.false)))
  | else-place-enabled-via-else-place-enabled w ↦ sym (ap of (missed_past c.args.policy.now c.args.enabled.now _ c.name_place-place.ensures.place w.if-place-enabled.false))
]
