-- When the statements on rows of a world can be planned (that no fine-grained policy stands on a built-in table is this
-- project's profile).
use Rattle.std.specs.Prelude.{◌≡◌, map}
use Rattle.std.specs.List.{AllByRecursion}
use Rattle.au_base.specs.declared.table.Column.{Column}
use Rattle.au_entries.specs.declared.fine_grained.FgaPolicy.{FgaPolicy}
use Rattle.au_entries.specs.declared.table.Table.{Table}
use Rattle.au_entries.specs.Replaying.{NamesDiffer}
use Rattle.au_fga.specs.Testing.{CanBeTested}
use Rattle.au_world.specs.declared.built_in.TableKind.TheVariants.{Created}
use Rattle.au_world.specs.declared.world.World.{World}
use Rattle.au_world.specs.BuiltInTables.{kind_of}

-- the names of the table's columns differ
abbrev pub HasColumnsApart : Table → Type 0
HasColumnsApart table = NamesDiffer (map (λ (column : Column). column.name) table.columns)

-- The fine-grained policies of the catalogue can be tested, and none stands on a built-in table. The columns of a table have
-- names that differ. It is so of all that is lawful.
pub record CanBePlanned (world : World) : Type 0 where
  pub tested : CanBeTested world.catalog.now
  pub created : AllByRecursion (λ (policy : FgaPolicy). kind_of policy.name.table ≡ Created) world.catalog.now.fga
  pub columns : AllByRecursion HasColumnsApart world.catalog.now.tables
