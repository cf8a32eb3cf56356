-- Each reader of what is granted privileges exactly its rule.
use Rattle.std.proofs.Common.{◌≡◌, ℕ, ◌<◌, Bool, true, false, not, ◌&&◌, List, [], ◌∷◌, ◌++◌, length, Option, Some, None, refl, sym, subst, arith, inl, inr}
use Rattle.std.specs.Prelude.{codes}
use Rattle.au_base.specs.declared.grant.ObjectRight.{ObjectRight}
use Rattle.au_base.specs.declared.grant.ObjectRight.TheVariants as on
use Rattle.au_base.specs.declared.grant.Right.{Right}
use Rattle.au_base.specs.declared.grant.Right.TheVariants as kind
use Rattle.au_base.specs.declared.privilege.Privilege.{Privilege}
use Rattle.au_base.specs.declared.privilege.Privilege.TheVariants as p
use Rattle.au_base.specs.Privileges.{each_privilege}
use Rattle.sql_lex.specs.declared.token.Kind.{Kind}
use Rattle.sql_lex.specs.declared.token.Kind.TheVariants.{Word}
use Rattle.sql_parse.specs.Symbols.{sees, comma, is_reserved}
use Rattle.sql_parse.specs.Rules.{without, written, Parted}
use Rattle.sql_parse.specs.Expressions.{IsName}
use Rattle.sql_parse.specs.Tables as rules
use Rattle.sql_parse.specs.descent.Reading as read
use Rattle.sql_parse.specs.descent.Reading.{under, behind}
use Rattle.sql_parse.specs.descent.ReadTables.{past}
use Rattle.sql_parse.proofs.Exact.{under_some, some_is, chosen, guard, sees_is, Exact, parted_exact}
use Rattle.sql_parse.proofs.Follow.{OneOf, unseen, Anywhere, past_sound, past_complete}
use Rattle.sql_parse.proofs.TableLaws.{name_exact, NoComma, name_unseen}
use Rattle.sql_parse.proofs.ExpressionLaws.{name_complete, name_sound}
use Rattle.sql_parse.specs.Privileges as g
use Rattle.sql_parse.specs.Privileges.{words_of, tokens_of}
use Rattle.sql_parse_admin.specs.descent.ReadPrivileges as privileges
use Rattle.sql_parse_admin.specs.descent.ReadGrants as lists
use Rattle.sql_parse_admin.proofs.WordLaws.{first_sound}

-- ---- system privileges

pub privilege_sound : (i : List Kind) (y : Privilege × List Kind) → privileges.privilege i ≡ Some y → g.IsPrivilege i y.0 y.1
unfolding privileges.privilege
privilege_sound i y h = subst (λ (j : List Kind). g.IsPrivilege j y.0 y.1) (sym (first_sound words_of each_privilege i y h)) g.privilege

-- no privilege's words are the first of another's
pub each_read : (q : Privilege) (o : List Kind) → privileges.privilege (tokens_of (words_of q) ++ o) ≡ Some (q, o)
unfolding privileges.privilege
each_read p.AlterUser o = refl
each_read p.AuditSystem o = refl
each_read p.CreateAnyTable o = refl
each_read p.CreateRole o = refl
each_read p.CreateSession o = refl
each_read p.CreateTable o = refl
each_read p.CreateUser o = refl
each_read p.DeleteAnyTable o = refl
each_read p.DropAnyRole o = refl
each_read p.DropAnyTable o = refl
each_read p.DropUser o = refl
each_read p.GrantAnyObjectPrivilege o = refl
each_read p.GrantAnyPrivilege o = refl
each_read p.GrantAnyRole o = refl
each_read p.InsertAnyTable o = refl
each_read p.SelectAnyTable o = refl
each_read p.UpdateAnyTable o = refl

pub each_longer : (q : Privilege) (o : List Kind) → length o < length (tokens_of (words_of q) ++ o)
each_longer p.AlterUser o = omega arith
each_longer p.AuditSystem o = omega arith
each_longer p.CreateAnyTable o = omega arith
each_longer p.CreateRole o = omega arith
each_longer p.CreateSession o = omega arith
each_longer p.CreateTable o = omega arith
each_longer p.CreateUser o = omega arith
each_longer p.DeleteAnyTable o = omega arith
each_longer p.DropAnyRole o = omega arith
each_longer p.DropAnyTable o = omega arith
each_longer p.DropUser o = omega arith
each_longer p.GrantAnyObjectPrivilege o = omega arith
each_longer p.GrantAnyPrivilege o = omega arith
each_longer p.GrantAnyRole o = omega arith
each_longer p.InsertAnyTable o = omega arith
each_longer p.SelectAnyTable o = omega arith
each_longer p.UpdateAnyTable o = omega arith

-- each privilege begins with a reserved word
no_privilege : (k : Kind) (n : List ℕ) (o : List Kind) → IsName k n → privileges.privilege (k ∷ o) ≡ None
unfolding privileges.privilege is_reserved
no_privilege k n o d =
    rw (
      name_unseen (codes "ALTER") k n o refl d,
      name_unseen (codes "AUDIT") k n o refl d,
      name_unseen (codes "CREATE") k n o refl d,
      name_unseen (codes "DELETE") k n o refl d,
      name_unseen (codes "DROP") k n o refl d,
      name_unseen (codes "GRANT") k n o refl d,
      name_unseen (codes "INSERT") k n o refl d,
      name_unseen (codes "SELECT") k n o refl d,
      name_unseen (codes "UPDATE") k n o refl d,
    ) refl

no_name : (i : List Kind) (y : Privilege × List Kind) → privileges.privilege i ≡ Some y → read.name i ≡ None
no_name i y h = go (read.name i) refl
  where
    go : (x : Option (List ℕ × List Kind)) → read.name i ≡ x → read.name i ≡ None
    go None at = at
    go (Some x) at =
        let n = name_sound i x at in
        let none : privileges.privilege i ≡ None = subst (λ (j : List Kind). privileges.privilege j ≡ None) (sym n.1) (no_privilege n.0 x.0 x.1 n.2) in absurd cc

-- ---- rights without a table

right_exact : Exact g.IsRight privileges.right Anywhere
unfolding privileges.right
right_exact = record { sound = sound; complete = complete; shorter = shorter }
  where
    sound : (i : List Kind) (y : Right × List Kind) → privileges.right i ≡ Some y → g.IsRight i y.0 y.1
    sound i y h = go (read.name i) refl h
      where
        go : (x : Option (List ℕ × List Kind)) → read.name i ≡ x → privileges.role_or i x ≡ Some y → g.IsRight i y.0 y.1
        go (Some x) at h = subst (λ (z : Right × List Kind). g.IsRight i z.0 z.1) (some_is (kind.Role x.0, x.1) y h) (g.role (name_exact.sound i x at))
        go None at h =
            let u = under_some kind.Privilege (privileges.privilege i) y h in
            subst (λ (z : Right × List Kind). g.IsRight i z.0 z.1) u.2 (g.system (privilege_sound i u.0 u.1))

    complete : (i o : List Kind) (x : Right) → g.IsRight i x o → Anywhere o → privileges.right i ≡ Some (x, o)
    complete i o x (g.system (g.privilege {p = q})) f =
        let there : privileges.privilege i ≡ Some (q, o) = each_read q o in rw (no_name i (q, o) there, there) refl
    complete i o x (g.role (rules.name {k = k} {n = n} d)) f = rw (name_complete k n o d) refl

    shorter : (i o : List Kind) (x : Right) → g.IsRight i x o → length o < length i
    shorter i o x (g.system (g.privilege {p = q})) = each_longer q o
    shorter i o x (g.role {n = n} d) = name_exact.shorter i o n d

pub rights_exact : Exact (Parted comma g.IsRight) lists.rights NoComma
unfolding lists.rights
rights_exact = parted_exact comma g.IsRight privileges.right Anywhere right_exact refl (λ i. tt) NoComma (λ o f. tt) (λ o f. f)

-- ---- rights on a table

abbrev PRIVILEGES : Kind
PRIVILEGES = Word (codes "PRIVILEGES")

NoPrivileges : List Kind → Type 0
NoPrivileges o = sees PRIVILEGES o ≡ false

object_right_exact : Exact g.IsObjectRight privileges.object_right NoPrivileges
unfolding privileges.object_right NoPrivileges
object_right_exact = record { sound = sound; complete = complete; shorter = shorter }
  where
    sound : (i : List Kind) (y : ObjectRight × List Kind) → privileges.object_right i ≡ Some y → g.IsObjectRight i y.0 y.1
    sound i y h =
        elim (chosen (sees (Word (codes "SELECT")) i) (Some (on.Select, behind i)) _ (Some y) h) [
          | inl t ↦ seen (codes "SELECT") on.Select (behind i) t.0 t.1 g.select
          | inr t ↦ elim (chosen (sees (Word (codes "INSERT")) i) (Some (on.Insert, behind i)) _ (Some y) t.1) [
            | inl t ↦ seen (codes "INSERT") on.Insert (behind i) t.0 t.1 g.insert
            | inr t ↦ elim (chosen (sees (Word (codes "UPDATE")) i) (Some (on.Update, behind i)) _ (Some y) t.1) [
              | inl t ↦ seen (codes "UPDATE") on.Update (behind i) t.0 t.1 g.update
              | inr t ↦ elim (chosen (sees (Word (codes "DELETE")) i) (Some (on.Delete, behind i)) _ (Some y) t.1) [
                | inl t ↦ seen (codes "DELETE") on.Delete (behind i) t.0 t.1 g.delete
                | inr t ↦
                    let s = guard (sees (Word (codes "ALL")) i) (Some (on.All, past PRIVILEGES (behind i))) y t.1 in
                    seen (codes "ALL") on.All (past PRIVILEGES (behind i)) s.0 s.1 (g.all (past_sound PRIVILEGES (behind i)))
              ]
            ]
          ]
        ]
      where
        seen : (w : List ℕ) (x : ObjectRight) (o : List Kind) → sees (Word w) i ≡ true → Some (x, o) ≡ Some y → g.IsObjectRight (Word w ∷ behind i) x o → g.IsObjectRight i y.0 y.1
        seen w x o s same d =
            subst (λ (z : ObjectRight × List Kind). g.IsObjectRight i z.0 z.1) (some_is (x, o) y same) (subst (λ (j : List Kind). g.IsObjectRight j x o) (sym (sees_is (Word w) i s)) d)

    complete : (i o : List Kind) (x : ObjectRight) → g.IsObjectRight i x o → NoPrivileges o → privileges.object_right i ≡ Some (x, o)
    complete i o x g.select f = refl
    complete i o x g.insert f = refl
    complete i o x g.update f = refl
    complete i o x g.delete f = refl
    complete i o x (g.all {i = j} d) f = rw (past_complete PRIVILEGES j o refl d f) refl

    shorter : (i o : List Kind) (x : ObjectRight) → g.IsObjectRight i x o → length o < length i
    shorter i o x g.select = omega arith
    shorter i o x g.insert = omega arith
    shorter i o x g.update = omega arith
    shorter i o x g.delete = omega arith
    shorter i o x (g.all without) = omega arith
    shorter i o x (g.all written) = omega arith

abbrev pub ON : Kind
ON = Word (codes "ON")

pub object_rights_exact : Exact (Parted comma g.IsObjectRight) lists.object_rights (OneOf (ON ∷ []))
unfolding lists.object_rights NoPrivileges
object_rights_exact =
    parted_exact comma g.IsObjectRight privileges.object_right NoPrivileges object_right_exact refl (λ i. refl) (OneOf (ON ∷ [])) (λ o f. unseen PRIVILEGES (ON ∷ []) o refl f) (λ o f. unseen comma (ON ∷ []) o refl f)

-- ---- the first right tells which of both

abbrev ANY : Kind
ANY = Word (codes "ANY")

-- no ANY follows a right on a table
pub object_first : (i o : List Kind) (x : ObjectRight) → g.IsObjectRight i x o → sees ANY o ≡ false → privileges.is_object_right i ≡ true
object_first i o x g.select f = rw f refl
object_first i o x g.insert f = rw f refl
object_first i o x g.update f = rw f refl
object_first i o x g.delete f = rw f refl
object_first i o x (g.all d) f = refl

privilege_first : (q : Privilege) (o : List Kind) → privileges.is_object_right (tokens_of (words_of q) ++ o) ≡ false
privilege_first p.AlterUser o = refl
privilege_first p.AuditSystem o = refl
privilege_first p.CreateAnyTable o = refl
privilege_first p.CreateRole o = refl
privilege_first p.CreateSession o = refl
privilege_first p.CreateTable o = refl
privilege_first p.CreateUser o = refl
privilege_first p.DeleteAnyTable o = refl
privilege_first p.DropAnyRole o = refl
privilege_first p.DropAnyTable o = refl
privilege_first p.DropUser o = refl
privilege_first p.GrantAnyObjectPrivilege o = refl
privilege_first p.GrantAnyPrivilege o = refl
privilege_first p.GrantAnyRole o = refl
privilege_first p.InsertAnyTable o = refl
privilege_first p.SelectAnyTable o = refl
privilege_first p.UpdateAnyTable o = refl

pub right_first : (i o : List Kind) (x : Right) → g.IsRight i x o → privileges.is_object_right i ≡ false
unfolding is_reserved
right_first i o x (g.system (g.privilege {p = q})) = privilege_first q o
right_first i o x (g.role (rules.name {k = k} {n = n} d)) =
    rw (
      name_unseen (codes "ALL") k n o refl d,
      name_unseen (codes "SELECT") k n o refl d,
      name_unseen (codes "INSERT") k n o refl d,
      name_unseen (codes "UPDATE") k n o refl d,
      name_unseen (codes "DELETE") k n o refl d,
      and_false (not (sees ANY o)),
    ) refl
  where
    and_false : (b : Bool) → (b && false) ≡ false
    and_false true = refl
    and_false false = refl
