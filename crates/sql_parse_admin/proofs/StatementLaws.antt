-- A statement about users, roles and rights, and what is read.
use Rattle.std.proofs.Common.{◌≡◌, ℕ, true, List, ◌∷◌, Option, Some, refl, sym, subst, inl, inr}
use Rattle.std.specs.Prelude.{Result, codes}
use Rattle.au_base.specs.declared.memory.Memory.{Memory}
use Rattle.sql_parse.specs.declared.stop.Stop.{Stop}
use Rattle.sql_lex.specs.declared.token.Kind.{Kind}
use Rattle.sql_lex.specs.declared.token.Kind.TheVariants.{Word}
use Rattle.sql_ast.specs.declared.statement.Statement.{Statement}
use Rattle.sql_ast.specs.declared.statement.Statement.TheVariants as statement
use Rattle.sql_parse.specs.Symbols.{sees, dot}
use Rattle.sql_parse.specs.Rules.{after}
use Rattle.sql_parse.specs.descent.Reading as read
use Rattle.sql_parse.specs.descent.Reading.{Gives, ◌>>=◌, under, behind, expect}
use Rattle.sql_parse.specs.descent.ReadTables as tables
use Rattle.sql_parse.specs.Conditions.{opens_few}
use Rattle.sql_parse.proofs.Exact.{bind_some, under_some, chosen, guard, sees_is, expect_is}
use Rattle.sql_parse.proofs.Follow.{OneOf, unseen, LAST}
use Rattle.sql_parse.proofs.TableLaws.{name_exact, table_exact}
use Rattle.sql_parse.specs.Whole.{Finds}
use Rattle.sql_parse.specs.descent.Ending.{Ends}
use Rattle.sql_parse.proofs.WholeLaws.{Reads, ended_gives, one_whole, whole_found}
use Rattle.sql_parse.specs.Grants as grant
use Rattle.sql_parse_admin.specs.descent.ReadGrants as grants
use Rattle.sql_parse_admin.specs.descent.ReadStatements as statements
use Rattle.sql_parse.specs.RightsStatements as g
use Rattle.sql_parse_admin.proofs.GrantLaws.{grant_sound, grant_complete, grant_object_complete, revoke_sound, revoke_complete, revoke_object_complete}

-- a statement whose first word was seen
seen : (w : List ℕ) (i : List Kind) (y : Statement × List Kind) → sees (Word w) i ≡ true → g.RightsStatement (Word w ∷ behind i) y.0 y.1 → g.RightsStatement i y.0 y.1
seen w i y s d = subst (λ (j : List Kind). g.RightsStatement j y.0 y.1) (sym (sees_is (Word w) i s)) d

drop_sound : (i : List Kind) (y : Statement × List Kind) → statements.drop i ≡ Some y → g.RightsStatement (Word (codes "DROP") ∷ i) y.0 y.1
unfolding statements.drop
drop_sound i y h =
    elim (chosen (sees (Word (codes "TABLE")) i) (under statement.DropTable (tables.table (behind i))) _ (Some y) h) [
      | inl t ↦
          let u = under_some statement.DropTable (tables.table (behind i)) y t.1 in
          second (codes "TABLE") t.0 (subst (λ (z : Statement × List Kind). g.RightsStatement (Word (codes "DROP") ∷ Word (codes "TABLE") ∷ behind i) z.0 z.1) u.2 (g.drops_table (after (after (table_exact.sound (behind i) u.0 u.1)))))
      | inr t ↦ elim (chosen (sees (Word (codes "USER")) i) (under statement.DropUser (read.name (behind i))) _ (Some y) t.1) [
        | inl t ↦
            let u = under_some statement.DropUser (read.name (behind i)) y t.1 in
            second (codes "USER") t.0 (subst (λ (z : Statement × List Kind). g.RightsStatement (Word (codes "DROP") ∷ Word (codes "USER") ∷ behind i) z.0 z.1) u.2 (g.drops_user (after (after (name_exact.sound (behind i) u.0 u.1)))))
        | inr t ↦
            let s = guard (sees (Word (codes "ROLE")) i) (under statement.DropRole (read.name (behind i))) y t.1 in
            let u = under_some statement.DropRole (read.name (behind i)) y s.1 in
            second (codes "ROLE") s.0 (subst (λ (z : Statement × List Kind). g.RightsStatement (Word (codes "DROP") ∷ Word (codes "ROLE") ∷ behind i) z.0 z.1) u.2 (g.drops_role (after (after (name_exact.sound (behind i) u.0 u.1)))))
      ]
    ]
  where
    second : (w : List ℕ) → sees (Word w) i ≡ true → g.RightsStatement (Word (codes "DROP") ∷ Word w ∷ behind i) y.0 y.1 → g.RightsStatement (Word (codes "DROP") ∷ i) y.0 y.1
    second w s d = subst (λ (j : List Kind). g.RightsStatement (Word (codes "DROP") ∷ j) y.0 y.1) (sym (sees_is (Word w) i s)) d

create_sound : (i : List Kind) (y : Statement × List Kind) → (expect (Word (codes "ROLE")) i >>= λ j. under statement.CreateRole (read.name j)) ≡ Some y → g.RightsStatement (Word (codes "CREATE") ∷ i) y.0 y.1
create_sound i y h =
    let a = bind_some (expect (Word (codes "ROLE")) i) (λ j. under statement.CreateRole (read.name j)) y h in
    let u = under_some statement.CreateRole (read.name a.0) y a.2 in
    subst (λ (z : Statement × List Kind). g.RightsStatement (Word (codes "CREATE") ∷ i) z.0 z.1) u.2
    (subst (λ (j : List Kind). g.RightsStatement (Word (codes "CREATE") ∷ j) (statement.CreateRole u.0.0) u.0.1) (sym (expect_is (Word (codes "ROLE")) i a.0 a.1))
    (g.creates_role (after (after (name_exact.sound a.0 u.0 u.1)))))

statement_sound : (i : List Kind) (y : Statement × List Kind) → statements.rights_statement i ≡ Some y → g.RightsStatement i y.0 y.1
unfolding statements.rights_statement
statement_sound i y h =
    elim (chosen (sees (Word (codes "GRANT")) i) (under statement.Grant (grants.grant (behind i))) _ (Some y) h) [
      | inl t ↦
          let u = under_some statement.Grant (grants.grant (behind i)) y t.1 in
          seen (codes "GRANT") i y t.0 (subst (λ (z : Statement × List Kind). g.RightsStatement (Word (codes "GRANT") ∷ behind i) z.0 z.1) u.2 (g.grants (grant_sound (behind i) u.0 u.1)))
      | inr t ↦ elim (chosen (sees (Word (codes "REVOKE")) i) (under statement.Grant (grants.revoke (behind i))) _ (Some y) t.1) [
        | inl t ↦
            let u = under_some statement.Grant (grants.revoke (behind i)) y t.1 in
            seen (codes "REVOKE") i y t.0 (subst (λ (z : Statement × List Kind). g.RightsStatement (Word (codes "REVOKE") ∷ behind i) z.0 z.1) u.2 (g.grants (revoke_sound (behind i) u.0 u.1)))
        | inr t ↦ elim (chosen (sees (Word (codes "DROP")) i) (statements.drop (behind i)) _ (Some y) t.1) [
          | inl t ↦ seen (codes "DROP") i y t.0 (drop_sound (behind i) y t.1)
          | inr t ↦
              let s = guard (sees (Word (codes "CREATE")) i) (expect (Word (codes "ROLE")) (behind i) >>= λ j. under statement.CreateRole (read.name j)) y t.1 in
              seen (codes "CREATE") i y s.0 (create_sound (behind i) y s.1)
        ]
      ]
    ]

statement_complete : (i o : List Kind) (x : Statement) → g.RightsStatement i x o → OneOf LAST o → statements.rights_statement i ≡ Some (x, o)
unfolding statements.rights_statement statements.drop
statement_complete i o x (g.drops_table {t = t} (after (after {i = j} d))) f = rw (table_exact.complete j o t d (unseen dot LAST o refl f)) refl
statement_complete i o x (g.drops_user {n = n} (after (after {i = j} d))) f = rw (name_exact.complete j o n d tt) refl
statement_complete i o x (g.creates_role {n = n} (after (after {i = j} d))) f = rw (name_exact.complete j o n d tt) refl
statement_complete i o x (g.drops_role {n = n} (after (after {i = j} d))) f = rw (name_exact.complete j o n d tt) refl
statement_complete i o x (g.grants (grant.grant {i = h} {j = j} {m = m} {rs = rs} {ns = ns} {b = b} d e a)) f = rw (grant_complete h o rs ns b j m d e a f) refl
statement_complete i o x (g.grants (grant.revoke {i = h} {j = j} {rs = rs} {ns = ns} d e)) f = rw (revoke_complete h o rs ns j d e f) refl
statement_complete i o x (g.grants (grant.grant_object {i = h} {j = j} {m = m} {rs = rs} {t = t} {ns = ns} d e a)) f = rw (grant_object_complete h o rs t ns j m d e a f) refl
statement_complete i o x (g.grants (grant.revoke_object {i = h} {j = j} {m = m} {rs = rs} {t = t} {ns = ns} d e a)) f = rw (revoke_object_complete h o rs t ns j m d e a f) refl

-- ---- all tokens

whole_reads : Reads (λ ks. ks) (λ depth. g.RightsStatement) statements.rights_statement
whole_reads = record { sound = λ i y h. (0, statement_sound i y h); complete = λ depth i o x few d f. statement_complete i o x d f }

pub one_way : (ts : List Kind) (x y : Statement) → g.IsRightsStatement ts x → g.IsRightsStatement ts y → x ≡ y
one_way = one_whole (λ ks. ks) (λ depth. g.RightsStatement) statements.rights_statement whole_reads

pub found : {X : Type 0} (ts : List Kind) (view : X → Statement × List Kind) (r : Result X Stop) (answer : Result (Option Statement) Memory)
    → Gives view r (statements.rights_statement ts) → Ends view r answer → opens_few 0 ts ≡ true → Finds (g.IsRightsStatement ts) answer
found ts view r answer gives ends = whole_found (λ ks. ks) (λ depth. g.RightsStatement) statements.rights_statement whole_reads ts answer (ended_gives (λ ks. ks) view r (statements.rights_statement ts) answer gives ends)
