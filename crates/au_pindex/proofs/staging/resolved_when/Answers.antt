use Rattle.std.proofs.Common.{◌≡◌, ◌∙◌, [], map, subst, sym, ap}
use Rattle.std.specs.Prelude.{option_map}
use Rattle.std.proofs.lemmas.Result.{IfOk-weaker}
use Rattle.au_catalog.specs.Settling.{when_texts}
use Rattle.au_entries.specs.Changing.{with_tree}
use Rattle.au_expr.specs.Resolving.{placed}
use Rattle.au_policy.specs.Asking.{IsTruthOverNone}
use Rattle.au_pindex.proofs.staging.resolved_when.Goals as goal

pub resolved_first-requires : goal.resolved_first-requires
resolved_first-requires c =
    let known = c.requires in (
      known.0 c.in-Some.field-0.1,
      sym (subst (λ when. map known.0 (when_texts when) ≡ c.args.trees.now) c.in-Some.is known.1),
      subst (λ when. IsTruthOverNone (with_tree known.0 when)) c.in-Some.is known.2,
    )

pub returns-in-Some : goal.returns-in-Some
returns-in-Some c =
    IfOk-weaker c.resolved_first.result _ _
    (λ condition said tree read.
    said (tree c.in-Some.field-0.1) (sym (subst (λ when. map tree (when_texts when) ≡ c.args.trees.now) c.in-Some.is read))
    ∙ ap (λ when. option_map (λ given. placed [] given.1.tree) (with_tree tree when)) (sym c.in-Some.is))
    c.resolved_first.ensures
