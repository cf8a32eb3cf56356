use Rattle.std.proofs.Common.{◌≡◌, sym, subst}
use Rattle.std.specs.List.{AllByRecursion}
use Rattle.au_catalog.specs.declared.catalog.Catalog.{Catalog}
use Rattle.au_entries.specs.declared.fine_grained.FgaPolicy.{FgaPolicy}
use Rattle.au_fga.specs.Testing.{CanBeTested}
use Rattle.au_world.specs.declared.built_in.TableKind.TheVariants.{Created}
use Rattle.au_world.specs.BuiltInTables.{kind_of}
use Rattle.au_plan.specs.Planning.{HasColumnsApart}
use Rattle.au_plan.proofs.CreatedTables.{all_apart, all_created}
use Rattle.au_plan.proofs.laws.lawful_catalogues_can_be_planned.Goals as goal

pub returns : goal.returns
returns c = λ conditions kept world resolves lawful is. record {
  tested = subst CanBeTested (sym is) (c.lawful_policies_can_be_tested.ensures conditions kept resolves lawful);
  created = subst (λ (catalog : Catalog). AllByRecursion (λ (policy : FgaPolicy). kind_of policy.name.table ≡ Created) catalog.fga) (sym is)
      (all_created (λ a b. c.same_is_equal.ensures.table a b) kept lawful.founded);
  columns = subst (λ (catalog : Catalog). AllByRecursion HasColumnsApart catalog.tables) (sym is) (all_apart kept kept.tables lawful.founded.tables);
}
