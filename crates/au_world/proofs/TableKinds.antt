-- Which table a name is of, by what it is.
use Rattle.std.proofs.Common.{◌≡◌, ◌∙◌, Bool, true, false, if◌then◌else◌, refl, sym, ap, ap₂}
use Rattle.au_base.specs.declared.table.TableName.{TableName}
use Rattle.au_base.specs.BuiltIn.{dual, trail}
use Rattle.au_base.specs.Sameness.{same_table}
use Rattle.au_world.specs.declared.built_in.TableKind.TheVariants.{Dual, Trail, Created}
use Rattle.au_world.specs.BuiltInTables.{kind_of}

false_of : (b : Bool) → (b ≡ true → ⊥) → b ≡ false
false_of true isnt = absurd (isnt refl)
false_of false isnt = refl

pub dual_kind : (table : TableName) → same_table table dual ≡ true → Dual ≡ kind_of table
dual_kind table is = ap (λ (b : Bool). if b then Dual else (if same_table table trail then Trail else Created)) (sym is)

pub trail_kind : (table : TableName) → (same_table table dual ≡ true → ⊥) → same_table table trail ≡ true → Trail ≡ kind_of table
trail_kind table no_dual is =
    ap₂ (λ (a : Bool) (b : Bool). if a then Dual else (if b then Trail else Created)) (sym (false_of (same_table table dual) no_dual)) (sym is)

pub created_kind : (table : TableName) → (same_table table dual ≡ true → ⊥) → (same_table table trail ≡ true → ⊥) → Created ≡ kind_of table
created_kind table no_dual no_trail =
    ap₂ (λ (a : Bool) (b : Bool). if a then Dual else (if b then Trail else Created)) (sym (false_of (same_table table dual) no_dual)) (sym (false_of (same_table table trail) no_trail))

-- a test that was false isn't true
pub not_both : (b : Bool) → b ≡ false → b ≡ true → ⊥
not_both b isnt is = let e : false ≡ true = sym isnt ∙ is in cc
