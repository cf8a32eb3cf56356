-- Each reader of the parts of an audit policy reads exactly its rule.
use Rattle.std.proofs.Common.{◌≡◌, ◌<◌, true, false, cond, List, ◌∷◌, ◌++◌, length, Option, Some, None, refl, sym, subst, arith, inl, inr}
use Rattle.std.specs.Prelude.{codes}
use Rattle.au_base.specs.declared.action.Action.{Action}
use Rattle.au_base.specs.declared.action.Action.TheVariants as a
use Rattle.au_base.specs.Actions.{each_action}
use Rattle.au_base.specs.declared.privilege.Privilege.{Privilege}
use Rattle.au_base.specs.declared.table.TableReference.{TableReference}
use Rattle.sql_lex.specs.declared.token.Kind.{Kind}
use Rattle.sql_lex.specs.declared.token.Kind.TheVariants.{Word}
use Rattle.sql_ast.specs.declared.administration.ActionPart.{ActionPart}
use Rattle.sql_parse.specs.Symbols.{sees, comma, dot}
use Rattle.sql_parse.specs.Rules.{Parted}
use Rattle.sql_parse.specs.descent.Reading.{under, behind}
use Rattle.sql_parse.specs.descent.ReadTables as tables
use Rattle.sql_parse.proofs.Exact.{bind_some, under_some, some_is, chosen, guard, sees_is, Exact, parted_exact}
use Rattle.sql_parse.proofs.Follow.{OneOf, unseen, LAST, Anywhere}
use Rattle.sql_parse.proofs.TableLaws.{NoComma, table_exact}
use Rattle.sql_parse.specs.Privileges.{IsPrivilege, tokens_of}
use Rattle.sql_parse.specs.Privileges as rights
use Rattle.sql_parse.specs.PolicyStatements as g
use Rattle.sql_parse.specs.PolicyStatements.{words_of_action}
use Rattle.sql_parse_admin.specs.descent.ReadPolicies as policies
use Rattle.sql_parse_admin.specs.descent.ReadPrivileges as reads
use Rattle.sql_parse_admin.specs.descent.ReadPrivileges.{privilege}
use Rattle.sql_parse_admin.proofs.PrivilegeLaws as privileges
use Rattle.sql_parse_admin.proofs.WordLaws.{first_sound}

-- ---- privileges

privilege_exact : Exact IsPrivilege privilege Anywhere
privilege_exact = record { sound = privileges.privilege_sound; complete = complete; shorter = shorter }
  where
    complete : (i o : List Kind) (x : Privilege) → IsPrivilege i x o → Anywhere o → privilege i ≡ Some (x, o)
    complete i o x rights.privilege f = privileges.each_read x o

    shorter : (i o : List Kind) (x : Privilege) → IsPrivilege i x o → length o < length i
    shorter i o x rights.privilege = privileges.each_longer x o

pub privileges_exact : Exact (Parted comma IsPrivilege) reads.privileges NoComma
unfolding reads.privileges
privileges_exact = parted_exact comma IsPrivilege privilege Anywhere privilege_exact refl (λ i. tt) NoComma (λ o f. tt) (λ o f. f)

-- ---- actions

action_sound : (i : List Kind) (y : Action × List Kind) → policies.action i ≡ Some y → g.IsAction i y.0 y.1
unfolding policies.action
action_sound i y h = subst (λ (j : List Kind). g.IsAction j y.0 y.1) (sym (first_sound words_of_action each_action i y h)) g.action

-- no action's words are the first of another's
each_read : (q : Action) (o : List Kind) → policies.action (tokens_of (words_of_action q) ++ o) ≡ Some (q, o)
unfolding policies.action
each_read a.All o = refl
each_read a.Select o = refl
each_read a.Insert o = refl
each_read a.Update o = refl
each_read a.Delete o = refl
each_read a.Commit o = refl
each_read a.Rollback o = refl
each_read a.CreateTable o = refl
each_read a.DropTable o = refl
each_read a.CreateUser o = refl
each_read a.AlterUser o = refl
each_read a.DropUser o = refl
each_read a.CreateRole o = refl
each_read a.DropRole o = refl
each_read a.Grant o = refl
each_read a.Revoke o = refl
each_read a.CreateAuditPolicy o = refl
each_read a.DropAuditPolicy o = refl
each_read a.Audit o = refl
each_read a.Noaudit o = refl
each_read a.Execute o = refl
each_read a.Logon o = refl
each_read a.Logoff o = refl

each_longer : (q : Action) (o : List Kind) → length o < length (tokens_of (words_of_action q) ++ o)
each_longer a.All o = omega arith
each_longer a.Select o = omega arith
each_longer a.Insert o = omega arith
each_longer a.Update o = omega arith
each_longer a.Delete o = omega arith
each_longer a.Commit o = omega arith
each_longer a.Rollback o = omega arith
each_longer a.CreateTable o = omega arith
each_longer a.DropTable o = omega arith
each_longer a.CreateUser o = omega arith
each_longer a.AlterUser o = omega arith
each_longer a.DropUser o = omega arith
each_longer a.CreateRole o = omega arith
each_longer a.DropRole o = omega arith
each_longer a.Grant o = omega arith
each_longer a.Revoke o = omega arith
each_longer a.CreateAuditPolicy o = omega arith
each_longer a.DropAuditPolicy o = omega arith
each_longer a.Audit o = omega arith
each_longer a.Noaudit o = omega arith
each_longer a.Execute o = omega arith
each_longer a.Logon o = omega arith
each_longer a.Logoff o = omega arith

-- an action that ON and a table may follow
may_have_table : (q : Action) (o : List Kind) → policies.may_have_table q ≡ true → g.IsTableAction (tokens_of (words_of_action q) ++ o) q o
may_have_table a.All o h = g.all
may_have_table a.Select o h = g.select
may_have_table a.Insert o h = g.insert
may_have_table a.Update o h = g.update
may_have_table a.Delete o h = g.delete
may_have_table a.Commit o h = absurd cc
may_have_table a.Rollback o h = absurd cc
may_have_table a.CreateTable o h = absurd cc
may_have_table a.DropTable o h = absurd cc
may_have_table a.CreateUser o h = absurd cc
may_have_table a.AlterUser o h = absurd cc
may_have_table a.DropUser o h = absurd cc
may_have_table a.CreateRole o h = absurd cc
may_have_table a.DropRole o h = absurd cc
may_have_table a.Grant o h = absurd cc
may_have_table a.Revoke o h = absurd cc
may_have_table a.CreateAuditPolicy o h = absurd cc
may_have_table a.DropAuditPolicy o h = absurd cc
may_have_table a.Audit o h = absurd cc
may_have_table a.Noaudit o h = absurd cc
may_have_table a.Execute o h = absurd cc
may_have_table a.Logon o h = absurd cc
may_have_table a.Logoff o h = absurd cc

table_action : (i o : List Kind) (q : Action) → g.IsAction i q o → policies.may_have_table q ≡ true → g.IsTableAction i q o
table_action i o q g.action h = may_have_table q o h

table_action_read : (i o : List Kind) (q : Action) → g.IsTableAction i q o → (policies.action i ≡ Some (q, o)) × (policies.may_have_table q ≡ true) × (length o < length i)
table_action_read i o q g.all = (each_read a.All o, refl, omega arith)
table_action_read i o q g.select = (each_read a.Select o, refl, omega arith)
table_action_read i o q g.insert = (each_read a.Insert o, refl, omega arith)
table_action_read i o q g.update = (each_read a.Update o, refl, omega arith)
table_action_read i o q g.delete = (each_read a.Delete o, refl, omega arith)

-- ---- parts

abbrev ON : Kind
ON = Word (codes "ON")

-- where a part ends
record PartEnds (o : List Kind) : Type 0 where
  dotless : sees dot o ≡ false
  tableless : sees ON o ≡ false

on_table_sound : (i j : List Kind) (q : Action) (z : Option TableReference × List Kind) → g.IsAction i q j → policies.on_table q j ≡ Some z → g.IsPart i (record { action = q; table = z.0 }) z.1
unfolding policies.on_table
on_table_sound i j q z d h =
    elim (chosen (sees ON j) (cond (policies.may_have_table q) (under (λ t. Some t) (tables.table (behind j))) None) (Some (None, j)) (Some z) h) [
      | inl t ↦
          let s = guard (policies.may_have_table q) (under (λ t. Some t) (tables.table (behind j))) z t.1 in
          let u = under_some (λ (t : TableReference). Some t) (tables.table (behind j)) z s.1 in
          let on : g.IsTableAction i q (ON ∷ behind j) = subst (λ (o : List Kind). g.IsTableAction i q o) (sees_is ON j t.0) (table_action i j q d s.0) in
          subst (λ (w : Option TableReference × List Kind). g.IsPart i (record { action = q; table = w.0 }) w.1) u.2 (g.on_table on (table_exact.sound (behind j) u.0 u.1))
      | inr t ↦ subst (λ (w : Option TableReference × List Kind). g.IsPart i (record { action = q; table = w.0 }) w.1) (some_is (None, j) z t.1) (g.anywhere d)
    ]

part_exact : Exact g.IsPart policies.part PartEnds
unfolding policies.part policies.on_table
part_exact = record { sound = sound; complete = complete; shorter = shorter }
  where
    sound : (i : List Kind) (y : ActionPart × List Kind) → policies.part i ≡ Some y → g.IsPart i y.0 y.1
    sound i y h =
        let b = bind_some (policies.action i) (λ x. under (λ t. record { action = x.0; table = t }) (policies.on_table x.0 x.1)) y h in
        let u = under_some (λ (t : Option TableReference). record { action = b.0.0; table = t }) (policies.on_table b.0.0 b.0.1) y b.2 in
        subst (λ (z : ActionPart × List Kind). g.IsPart i z.0 z.1) u.2 (on_table_sound i b.0.1 b.0.0 u.0 (action_sound i b.0 b.1) u.1)

    complete : (i o : List Kind) (x : ActionPart) → g.IsPart i x o → PartEnds o → policies.part i ≡ Some (x, o)
    complete i o x (g.anywhere {a = q} g.action) f = rw (each_read q o, f.tableless) refl
    complete i o x (g.on_table {j = j} {a = q} {t = t} d e) f =
        let r = table_action_read i (ON ∷ j) q d in rw (r.0, r.1, table_exact.complete j o t e f.dotless) refl

    shorter : (i o : List Kind) (x : ActionPart) → g.IsPart i x o → length o < length i
    shorter i o x (g.anywhere {a = q} g.action) = each_longer q o
    shorter i o x (g.on_table {j = j} {a = q} {t = t} d e) = let r = table_action_read i (ON ∷ j) q d in omega (arith, r.2, table_exact.shorter j o t e)

abbrev pub ROLES : Kind
ROLES = Word (codes "ROLES")

abbrev pub WHEN : Kind
WHEN = Word (codes "WHEN")

-- what may follow the parts
abbrev pub BEHIND_PARTS : List Kind
BEHIND_PARTS = ROLES ∷ WHEN ∷ LAST

pub parts_exact : Exact (Parted comma g.IsPart) policies.parts (OneOf BEHIND_PARTS)
unfolding policies.parts
parts_exact =
    parted_exact comma g.IsPart policies.part PartEnds part_exact refl (λ i. record { dotless = refl; tableless = refl }) (OneOf BEHIND_PARTS)
    (λ o f. record { dotless = unseen dot BEHIND_PARTS o refl f; tableless = unseen ON BEHIND_PARTS o refl f }) (λ o f. unseen comma BEHIND_PARTS o refl f)
