use Rattle.std.proofs.Common.{◌∙◌, ℕ, Bool, List, ap, sym}
use Rattle.std.specs.Prelude.{Option}
use Rattle.au_base.specs.declared.code.Code.{Code}
use Rattle.au_entries.specs.declared.policy.Enabled.{Enabled}
use Rattle.au_entries.specs.Demand.{enablement_found}
use Rattle.au_entries.specs.Matching.{is_enabled_for}
use Rattle.au_policy.proofs.Found.{by_names, found_at, missed_at, missed_past}
use Rattle.au_policy.proofs.finding.is_enabled.Goals as goal
use Rattle.au_policy.proofs.finding.is_enabled.Goals.{else-place-enabled-via-then-place-enabled+else-eq, else-place-enabled-via-else-place-enabled}

abbrev of : List ℕ → Code → Option (List ℕ × Enabled) → Bool
of user code found = is_enabled_for (enablement_found found) user code

pub name_place-place-requires : goal.name_place-place-requires
name_place-place-requires c = record { order = by_names c.args.enabled.now c.requires.order }

pub returns-then-eq : goal.returns-then-eq
returns-then-eq c =
    c.enabled_for.ensures
    ∙ sym (ap (of c.args.user.now c.args.code) (found_at c.args.policy.now c.args.enabled.now _ c.index-enabled-place.result c.index-enabled-place-then-eq.result c.name_place-place.ensures.place c.if-place-enabled.true (sym c.eq.ensures ∙ c.if-eq.true)))

pub returns : goal.returns
returns c = elim c.else-place-enabled.branch [
  | else-place-enabled-via-then-place-enabled+else-eq w ↦
      sym (ap (of c.args.user.now c.args.code) (missed_at c.args.policy.now c.args.enabled.now _ w.index-enabled-place.result (by_names c.args.enabled.now c.requires.order) c.name_place-place.ensures.place w.if-place-enabled.true (sym w.eq.ensures ∙ w.if-eq.false)))
  | else-place-enabled-via-else-place-enabled w ↦ sym (ap (of c.args.user.now c.args.code) (missed_past c.args.policy.now c.args.enabled.now _ c.name_place-place.ensures.place w.if-place-enabled.false))
]
