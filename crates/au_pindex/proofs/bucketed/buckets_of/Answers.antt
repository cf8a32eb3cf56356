use Rattle.std.proofs.Common.{◌≡◌, ◌∙◌, ◌+◌, ◌||◌, ◌&&◌, ℕ, Bool, ap, sym, take, add-one, subst}
use Rattle.std.proofs.lemmas.List.{take_all}
use Rattle.std.specs.Prelude.{◌==◌}
use Rattle.au_entries.specs.declared.policy.AuditPolicy.{AuditPolicy}
use Rattle.au_pindex.specs.Indexing.{AreBucketsOf, is_listed}
use Rattle.au_pindex.specs.Naming.{has_action_part, has_object_part, has_privilege_part, has_role_part}
use Rattle.au_pindex.specs.Places.{passes_at}
use Rattle.au_pindex.proofs.Placing.{one_more}
use Rattle.au_pindex.proofs.bucketed.buckets_of.Goals as goal

pub loop-place-preserved : goal.loop-place-preserved
loop-place-preserved c =
    let policies = c.args.policies.now in
    let enabled = c.args.enabled.now in
    let n = c.loop-place.place in
    let x = c.index-policies-place.result in
    let before = c.loop-place.invariant in
    let added = c.in_ok-add_enabled.ensures in
    let more : (test : AuditPolicy → Bool) (at : ℕ) → ((test x && (n == at)) || passes_at test (take n policies) at) ≡ passes_at test (take (n + 1) policies) at
    = λ test at. sym (ap (λ m. passes_at test (take m policies) at) (add-one n) ∙ one_more test policies n x at c.loop-place-test.true c.index-policies-place.is) in
    record {
      actions = λ action at. added.actions action at ∙ ap (λ old. (is_listed has_action_part enabled action x && (n == at)) || old) (before.actions action at) ∙ more (is_listed has_action_part enabled action) at;
      tables = λ table at. added.tables table at ∙ ap (λ old. (is_listed has_object_part enabled table x && (n == at)) || old) (before.tables table at) ∙ more (is_listed has_object_part enabled table) at;
      privileges = λ privilege at. added.privileges privilege at ∙ ap (λ old. (is_listed has_privilege_part enabled privilege x && (n == at)) || old) (before.privileges privilege at) ∙ more (is_listed has_privilege_part enabled privilege) at;
      roles = λ role at. added.roles role at ∙ ap (λ old. (is_listed has_role_part enabled role x && (n == at)) || old) (before.roles role at) ∙ more (is_listed has_role_part enabled role) at;
    }

pub returns : goal.returns
returns c = subst (λ policies. AreBucketsOf c.args.enabled.now policies c.loop-place.buckets) (take_all c.loop-place.place c.args.policies.now c.loop-place-test.false) c.loop-place.invariant
