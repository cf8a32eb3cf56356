use Rattle.std.proofs.Common.{◌≡◌, ◌∙◌, map, sym, ap}
use Rattle.au_audit.specs.Firing.{fired}
use Rattle.au_base.specs.declared.code.Code.{Code}
use Rattle.au_base.specs.Codes.{DONE}
use Rattle.au_fga.specs.Testing.{truth_over}
use Rattle.au_world.specs.Plans.{cells_touched}
use Rattle.au_world.specs.Sights.{sight_of}
use Rattle.au_plan.specs.Inside.{query_facts}
use Rattle.au_plan.proofs.firing.fired.Goals as goal

pub returns-then-code-ne0 : goal.returns-then-code-ne0
returns-then-code-ne0 c =
    let world = c.args.world.now in
    c.new.ensures.items ∙ sym (c.refused_statements_fire_nothing.ensures (truth_over c.args.session.now world.catalog.now.tables) c.args.code (query_facts (map (cells_touched (sight_of world c.args.client)) c.args.touched.now) c.args.named) world.catalog.now.fga c.if-code-ne0.true)

pub returns : goal.returns
returns c =
    let world = c.args.world.now in
    let done : DONE ≡ c.args.code = sym (λ i. record { 0 = c.if-code-ne0.false i }) in
    c.in_ok-names.ensures ∙ ap (λ (code : Code). fired (truth_over c.args.session.now world.catalog.now.tables) code (query_facts (map (cells_touched (sight_of world c.args.client)) c.args.touched.now) c.args.named) world.catalog.now.fga) done
