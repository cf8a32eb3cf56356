-- The names of the object that a statement's record names.
use Rattle.std.proofs.Common.{◌≡◌, ◌<◌, ◌≤◌, Bool, true, false, List, [], ◌∷◌, ℕ, length, codes, Option, Some, None, refl, arith}
use Rattle.std.specs.Prelude.{if◌then◌else◌, get_or, nat_lt, IsUtf8}
use Rattle.std.specs.List.{AllByRecursion, list_all}
use Rattle.std.specs.Str.{bytes_eq}
use Rattle.std.proofs.lemmas.Bool.Decides.{nat_tests}
use Rattle.std.proofs.lemmas.List.Elements.{All-get_or, All-from_get_or}
use Rattle.std.proofs.lemmas.List.Sums.{AllPass-from_list_all}
use Rattle.std.proofs.lemmas.Str.{IsUtf8-from_ascii}
use Rattle.std.proofs.lemmas.Str.Ascii.{IsAscii-from_all}
use Rattle.au_admin.specs.Names as administration
use Rattle.au_audit.specs.Statements.{first_object, object_of, written_tables}
use Rattle.au_base.specs.BuiltIn.{audsys, dual_name, owner_in, sys, trail_name}
use Rattle.au_base.specs.Naming.{IsName}
use Rattle.au_base.specs.declared.table.TableReference.{TableReference}
use Rattle.au_define.specs.Names.{IsNamed, IsOwnerNamed, IsTableNamed}
use Rattle.au_ruling.specs.Sound.{IsNamedObject}
use Rattle.sql_ast.specs.Procedures.{package_of}
use Rattle.sql_ast.specs.declared.call.Procedure.{Procedure}
use Rattle.sql_ast.specs.declared.call.Procedure.TheVariants as procedure
use Rattle.sql_ast.specs.declared.statement.Statement.{Statement}
use Rattle.sql_ast.specs.declared.statement.Statement.TheVariants as is

abbrev is_ascii : ℕ → Bool
is_ascii b = nat_lt b 128

ascii_byte : (b : ℕ) → is_ascii b ≡ true → b < 128
ascii_byte b h = grind (arith, nat_tests)

ascii : (text : List ℕ) → list_all is_ascii text ≡ true → IsUtf8 text
ascii text h =
    IsUtf8-from_ascii text (IsAscii-from_all text (All-from_get_or (λ b. b < 128) text 0 (λ i inside. ascii_byte (get_or text i 0) (All-get_or (λ x. is_ascii x ≡ true) text i 0 inside (AllPass-from_list_all is_ascii text h)))))

named : (text : List ℕ) → 0 < length text → length text ≤ 128 → list_all is_ascii text ≡ true → IsName text
named text some capped h = (record { some = some; capped = capped }, ascii text h)

owner_by : (who : List ℕ) (dual_is trail_is : Bool) → IsName who → IsName (if dual_is then sys else (if trail_is then audsys else who))
owner_by who true trail_is is_name = named sys (omega arith) (omega arith) refl
owner_by who false true is_name = named audsys (omega arith) (omega arith) refl
owner_by who false false is_name = is_name

owner_at : (who written : List ℕ) (owner : Option (List ℕ)) → IsName who → IsOwnerNamed owner → IsName (owner_in who written owner)
owner_at who written (Some owner) is_name owned = owned
owner_at who written None is_name owned = owner_by who (bytes_eq written dual_name) (bytes_eq written trail_name) is_name

first_named : (user : List ℕ) (tables : List TableReference) → IsName user → AllByRecursion IsTableNamed tables → IsNamedObject (first_object user tables)
first_named user [] is_name all = tt
first_named user (table ∷ tables) is_name all = (owner_at user table.name table.owner is_name all.0.0, all.0.1)

package_named : (called : Procedure) → IsName (package_of called)
package_named procedure.AddPolicy = named (codes "DBMS_FGA") (omega arith) (omega arith) refl
package_named procedure.DropPolicy = named (codes "DBMS_FGA") (omega arith) (omega arith) refl
package_named procedure.EnablePolicy = named (codes "DBMS_FGA") (omega arith) (omega arith) refl
package_named procedure.DisablePolicy = named (codes "DBMS_FGA") (omega arith) (omega arith) refl
package_named procedure.SetLastArchiveTimestamp = named (codes "DBMS_AUDIT_MGMT") (omega arith) (omega arith) refl
package_named procedure.ClearLastArchiveTimestamp = named (codes "DBMS_AUDIT_MGMT") (omega arith) (omega arith) refl
package_named procedure.CleanAuditTrail = named (codes "DBMS_AUDIT_MGMT") (omega arith) (omega arith) refl

-- the names that the statement has itself
pub object_named : (user : List ℕ) (x : Statement) → IsName user → AllByRecursion IsTableNamed (written_tables x) → IsNamed x → administration.IsNamed x → IsNamedObject (object_of user x)
object_named user (is.Select x) is_name tables defined administered = first_named user (written_tables (is.Select x)) is_name tables
object_named user (is.Count x) is_name tables defined administered = first_named user (written_tables (is.Count x)) is_name tables
object_named user (is.Insert x) is_name tables defined administered = first_named user (written_tables (is.Insert x)) is_name tables
object_named user (is.Update x) is_name tables defined administered = first_named user (written_tables (is.Update x)) is_name tables
object_named user (is.Delete x) is_name tables defined administered = first_named user (written_tables (is.Delete x)) is_name tables
object_named user is.Commit is_name tables defined administered = tt
object_named user is.Rollback is_name tables defined administered = tt
object_named user (is.CreateTable x) is_name tables defined administered = first_named user (written_tables (is.CreateTable x)) is_name tables
object_named user (is.DropTable x) is_name tables defined administered = first_named user (written_tables (is.DropTable x)) is_name tables
object_named user (is.CreateUser x y) is_name tables defined administered = (tt, defined)
object_named user (is.AlterUser x y) is_name tables defined administered = (tt, defined)
object_named user (is.DropUser x) is_name tables defined administered = (tt, defined)
object_named user (is.CreateRole x) is_name tables defined administered = (tt, defined)
object_named user (is.DropRole x) is_name tables defined administered = (tt, defined)
object_named user (is.Grant x) is_name tables defined administered = first_named user (written_tables (is.Grant x)) is_name tables
object_named user (is.CreatePolicy x) is_name tables defined administered = (tt, administered.0)
object_named user (is.DropPolicy x) is_name tables defined administered = (tt, administered)
object_named user (is.Audit x) is_name tables defined administered = (tt, administered.0)
object_named user (is.Noaudit x y) is_name tables defined administered = (tt, administered.0)
object_named user (is.Call x) is_name tables defined administered = (named (codes "SYS") (omega arith) (omega arith) refl, package_named x.procedure)
