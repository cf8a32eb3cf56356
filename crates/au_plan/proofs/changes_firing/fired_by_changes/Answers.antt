use Rattle.std.proofs.Common.{◌≡◌, ◌∙◌, List, false, sym, ap}
use Rattle.au_audit.specs.Firing.{fired}
use Rattle.au_base.specs.declared.code.Code.{Code}
use Rattle.au_base.specs.Codes.{DONE}
use Rattle.au_fga.specs.Testing.{truth_over}
use Rattle.au_entries.specs.declared.fine_grained.FgaPolicy.{FgaPolicy}
use Rattle.au_plan.specs.Inside.{change_facts, is_watched}
use Rattle.au_plan.proofs.Unwatched.{unwatched}
use Rattle.au_plan.proofs.changes_firing.fired_by_changes.Goals as goal

pub returns-then-code-ne0 : goal.returns-then-code-ne0
returns-then-code-ne0 c =
    let world = c.args.world.now in
    c.new.ensures.items ∙ sym (c.refused_statements_fire_nothing.ensures (truth_over c.args.session.now world.catalog.now.tables) c.args.code (change_facts c.args.action c.args.named c.args.changes.now) world.catalog.now.fga c.if-code-ne0.true)

pub returns : goal.returns
returns c =
    let world = c.args.world.now in
    let done : DONE ≡ c.args.code = sym (λ i. record { 0 = c.if-code-ne0.false i }) in
    c.in_ok-names.ensures ∙ ap (λ (code : Code). fired (truth_over c.args.session.now world.catalog.now.tables) code (change_facts c.args.action c.args.named c.args.changes.now) world.catalog.now.fga) done

pub returns-then-not-is_watched : goal.returns-then-not-is_watched
returns-then-not-is_watched c =
    let world = c.args.world.now in
    let policies = world.catalog.now.fga in
    let watched : is_watched policies c.args.action c.args.named.0 ≡ false =
    ap (λ (policies : List FgaPolicy). is_watched policies c.args.action c.args.named.0) (sym c.as_slice.ensures) ∙ sym c.if-not-is_watched.ensures in
    c.new-then-not-is_watched.ensures.items
    ∙ sym (unwatched (λ a b. c.same_is_equal.ensures.table a b) (truth_over c.args.session.now world.catalog.now.tables) c.args.code c.args.action c.args.named c.args.changes.now policies watched)
