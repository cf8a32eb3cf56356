-- A fine-grained policy of what is lawful stands on a created table, and the columns of a table have names that differ.
use Rattle.std.proofs.Common.{◌≡◌, ◌≢◌, Bool, true, false, List, [], ◌∷◌, refl, subst}
use Rattle.std.specs.Prelude.{◌↔◌, IsTrue, if◌then◌else◌}
use Rattle.std.specs.List.{AllByRecursion}
use Rattle.au_base.specs.declared.table.TableName.{TableName}
use Rattle.au_base.specs.BuiltIn.{dual, trail}
use Rattle.au_base.specs.Sameness.{same_table}
use Rattle.au_entries.specs.declared.fine_grained.FgaPolicy.{FgaPolicy}
use Rattle.au_entries.specs.declared.kept.Kept.{Kept}
use Rattle.au_entries.specs.declared.table.Table.{Table}
use Rattle.au_entries.specs.Lawful.{IsFounded, IsTableFounded}
use Rattle.au_entries.specs.Replaying.{has_table}
use Rattle.au_world.specs.declared.built_in.TableKind.TheVariants.{Created, Dual, Trail}
use Rattle.au_world.specs.BuiltInTables.{kind_of}
use Rattle.au_plan.specs.Planning.{HasColumnsApart}
use Rattle.au_plan.proofs.Members.{all_of, any_from}
use Rattle.au_plan.proofs.Elements.{each_at}

kind_by : (d t : Bool) → d ≡ false → t ≡ false → (if d then Dual else (if t then Trail else Created)) ≡ Created
kind_by true t d_is t_is = absurd (let e : true ≡ false = d_is in cc)
kind_by false true d_is t_is = absurd (let e : true ≡ false = t_is in cc)
kind_by false false d_is t_is = refl

module _ (same : (a b : TableName) → same_table a b ≡ true ↔ (a ≡ b)) where
  differs : (a b : TableName) (t : Bool) → same_table a b ≡ t → a ≢ b → t ≡ false
  differs a b true is other = absurd (other ((same a b).0 is))
  differs a b false is other = refl

  created : (name : TableName) → name ≢ dual → name ≢ trail → kind_of name ≡ Created
  created name not_dual not_trail =
      kind_by (same_table name dual) (same_table name trail) (differs name dual (same_table name dual) refl not_dual) (differs name trail (same_table name trail) refl not_trail)

  kept_created : (kept : Kept) (name : TableName) → AllByRecursion (IsTableFounded kept) kept.tables → IsTrue (has_table kept name) → kind_of name ≡ Created
  kept_created kept name founded has =
      let found = any_from (λ (table : Table). same_table table.name name) kept.tables has in
      let on = each_at (IsTableFounded kept) kept.tables found.0 founded found.1 in
      subst (λ n. kind_of n ≡ Created) ((same found.0.name name).0 found.2) (created found.0.name on.0 on.1)

  pub all_created : (kept : Kept) → IsFounded kept → AllByRecursion (λ (policy : FgaPolicy). kind_of policy.name.table ≡ Created) kept.fga
  all_created kept founded =
      all_of (λ (policy : FgaPolicy). kind_of policy.name.table ≡ Created) kept.fga (λ policy has.
      kept_created kept policy.name.table founded.tables (each_at (λ (p : FgaPolicy). IsTrue (has_table kept p.name.table)) kept.fga policy founded.fga has))

pub all_apart : (kept : Kept) (tables : List Table) → AllByRecursion (IsTableFounded kept) tables → AllByRecursion HasColumnsApart tables
all_apart kept [] founded = tt
all_apart kept (table ∷ tables) founded = (founded.0.3.named, all_apart kept tables founded.1)
