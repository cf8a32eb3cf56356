-- AUDIT, NOAUDIT and DROP AUDIT POLICY are read exactly by their rules.
use Rattle.std.proofs.Common.{◌≡◌, ℕ, ◌<◌, true, List, ◌∷◌, length, Option, Some, None, refl, sym, ap, subst, ◌∙◌, arith, inl, inr}
use Rattle.std.specs.Prelude.{Result, codes}
use Rattle.au_base.specs.declared.memory.Memory.{Memory}
use Rattle.sql_parse.specs.declared.stop.Stop.{Stop}
use Rattle.sql_lex.specs.declared.token.Kind.{Kind}
use Rattle.sql_lex.specs.declared.token.Kind.TheVariants.{Word}
use Rattle.sql_ast.specs.declared.administration.AuditedUsers.{AuditedUsers}
use Rattle.sql_ast.specs.declared.administration.Whenever.{Whenever}
use Rattle.sql_ast.specs.declared.administration.Whenever.TheVariants as whenever
use Rattle.sql_ast.specs.declared.statement.Statement.{Statement}
use Rattle.sql_ast.specs.declared.statement.Statement.TheVariants as statement
use Rattle.sql_parse.specs.Symbols.{sees, comma}
use Rattle.sql_parse.specs.Rules.{Optional, absent, present}
use Rattle.sql_parse.specs.Tables.{Name}
use Rattle.sql_parse.specs.descent.Reading as read
use Rattle.sql_parse.specs.descent.Reading.{Gives, ◌>>=◌, under, behind, expect}
use Rattle.sql_parse.specs.descent.ReadTables as tables
use Rattle.sql_parse.specs.Conditions.{opens_few}
use Rattle.sql_parse.proofs.Exact.{bind_some, under_some, some_is, chosen, sees_is, expect_is, Exact}
use Rattle.sql_parse.proofs.Follow.{OneOf, unseen, LAST, Anywhere, clause_first, clause_sound, clause_complete}
use Rattle.sql_parse.proofs.TableLaws.{name_exact, names_exact, NoComma}
use Rattle.sql_parse.specs.Whole.{Finds}
use Rattle.sql_parse.specs.descent.Ending.{Ends}
use Rattle.sql_parse.proofs.WholeLaws.{Reads, ended_gives, one_whole, whole_found}
use Rattle.sql_parse.specs.Grants.{Names}
use Rattle.sql_parse.specs.AuditStatements as g
use Rattle.sql_parse_admin.specs.descent.ReadAudits as audits

abbrev BY : Kind
BY = Word (codes "BY")

abbrev EXCEPT : Kind
EXCEPT = Word (codes "EXCEPT")

abbrev WHENEVER : Kind
WHENEVER = Word (codes "WHENEVER")

abbrev NOT : Kind
NOT = Word (codes "NOT")

abbrev SUCCESSFUL : Kind
SUCCESSFUL = Word (codes "SUCCESSFUL")

abbrev POLICY : Kind
POLICY = Word (codes "POLICY")

-- ---- WHENEVER

outcome_exact : Exact g.Outcome audits.outcome Anywhere
unfolding audits.outcome
outcome_exact = record { sound = sound; complete = complete; shorter = shorter }
  where
    sound : (i : List Kind) (y : Whenever × List Kind) → audits.outcome i ≡ Some y → g.Outcome i y.0 y.1
    sound i y h =
        elim (chosen (sees NOT i) (expect SUCCESSFUL (behind i) >>= λ o. Some (whenever.NotSuccessful, o)) (expect SUCCESSFUL i >>= λ o. Some (whenever.Successful, o)) (Some y) h) [
          | inl t ↦
              let a = bind_some (expect SUCCESSFUL (behind i)) (λ o. Some (whenever.NotSuccessful, o)) y t.1 in
              let here : i ≡ NOT ∷ SUCCESSFUL ∷ a.0 = sees_is NOT i t.0 ∙ ap (λ (o : List Kind). NOT ∷ o) (expect_is SUCCESSFUL (behind i) a.0 a.1) in
              subst (λ (z : Whenever × List Kind). g.Outcome i z.0 z.1) (some_is (whenever.NotSuccessful, a.0) y a.2)
              (subst (λ (j : List Kind). g.Outcome j whenever.NotSuccessful a.0) (sym here) g.not_successful)
          | inr t ↦
              let a = bind_some (expect SUCCESSFUL i) (λ o. Some (whenever.Successful, o)) y t.1 in
              subst (λ (z : Whenever × List Kind). g.Outcome i z.0 z.1) (some_is (whenever.Successful, a.0) y a.2)
              (subst (λ (j : List Kind). g.Outcome j whenever.Successful a.0) (sym (expect_is SUCCESSFUL i a.0 a.1)) g.successful)
        ]

    complete : (i o : List Kind) (x : Whenever) → g.Outcome i x o → Anywhere o → audits.outcome i ≡ Some (x, o)
    complete i o x g.successful f = refl
    complete i o x g.not_successful f = refl

    shorter : (i o : List Kind) (x : Whenever) → g.Outcome i x o → length o < length i
    shorter i o x g.successful = omega arith
    shorter i o x g.not_successful = omega arith

-- ---- users

users_sound : (i : List Kind) (y : Option AuditedUsers × List Kind) → audits.users i ≡ Some y → Optional g.AreUsers i y.0 y.1
unfolding audits.users
users_sound i y h =
    elim (chosen (sees BY i) (under audits.by (tables.names (behind i))) _ (Some y) h) [
      | inl t ↦
          let u = under_some audits.by (tables.names (behind i)) y t.1 in
          subst (λ (z : Option AuditedUsers × List Kind). Optional g.AreUsers i z.0 z.1) u.2
          (subst (λ (j : List Kind). Optional g.AreUsers j (audits.by u.0.0) u.0.1) (sym (sees_is BY i t.0)) (present (g.by (names_exact.sound (behind i) u.0 u.1))))
      | inr t ↦ elim (chosen (sees EXCEPT i) (under audits.except (tables.names (behind i))) (Some (None, i)) (Some y) t.1) [
        | inl v ↦
            let u = under_some audits.except (tables.names (behind i)) y v.1 in
            subst (λ (z : Option AuditedUsers × List Kind). Optional g.AreUsers i z.0 z.1) u.2
            (subst (λ (j : List Kind). Optional g.AreUsers j (audits.except u.0.0) u.0.1) (sym (sees_is EXCEPT i v.0)) (present (g.except (names_exact.sound (behind i) u.0 u.1))))
        | inr v ↦ subst (λ (z : Option AuditedUsers × List Kind). Optional g.AreUsers i z.0 z.1) (some_is (None, i) y v.1) absent
      ]
    ]

users_complete : (i o : List Kind) (x : Option AuditedUsers) → Optional g.AreUsers i x o → OneOf (WHENEVER ∷ LAST) o → audits.users i ≡ Some (x, o)
unfolding audits.users
users_complete i o x absent f = rw (unseen BY (WHENEVER ∷ LAST) o refl f, unseen EXCEPT (WHENEVER ∷ LAST) o refl f) refl
users_complete i o x (present (g.by {i = j} {ns = ns} d)) f = rw (names_exact.complete j o ns d (unseen comma (WHENEVER ∷ LAST) o refl f)) refl
users_complete i o x (present (g.except {i = j} {ns = ns} d)) f = rw (names_exact.complete j o ns d (unseen comma (WHENEVER ∷ LAST) o refl f)) refl

-- ---- the statements

policy_sound : (i : List Kind) (y : List ℕ × List Kind) → audits.policy i ≡ Some y → (j : List Kind) × (i ≡ POLICY ∷ j) × Name j y.0 y.1
unfolding audits.policy
policy_sound i y h = let a = bind_some (expect POLICY i) (λ j. read.name j) y h in (a.0, expect_is POLICY i a.0 a.1, name_exact.sound a.0 y a.2)

policy_complete : (i o : List Kind) (p : List ℕ) → Name i p o → audits.policy (POLICY ∷ i) ≡ Some (p, o)
unfolding audits.policy
policy_complete i o p d = rw (name_exact.complete i o p d tt) refl

audit_sound : (i : List Kind) (y : Statement × List Kind) → audits.audit i ≡ Some y → g.AuditStatement (Word (codes "AUDIT") ∷ i) y.0 y.1
unfolding audits.audit
audit_sound i y h =
    let a = bind_some (audits.policy i) (λ p. audits.users p.1 >>= λ u. under (λ w. statement.Audit (record { policy = p.0; users = u.0; whenever = w })) (audits.outcomes u.1)) y h in
    let b = bind_some (audits.users a.0.1) (λ u. under (λ w. statement.Audit (record { policy = a.0.0; users = u.0; whenever = w })) (audits.outcomes u.1)) y a.2 in
    let u = under_some (λ (w : Option Whenever). statement.Audit (record { policy = a.0.0; users = b.0.0; whenever = w })) (audits.outcomes b.0.1) y b.2 in
    let p = policy_sound i a.0 a.1 in
    let w = clause_sound WHENEVER g.Outcome audits.outcome Anywhere outcome_exact refl b.0.1 u.0 u.1 in
    subst (λ (z : Statement × List Kind). g.AuditStatement (Word (codes "AUDIT") ∷ i) z.0 z.1) u.2
    (subst (λ (j : List Kind). g.AuditStatement (Word (codes "AUDIT") ∷ j) (statement.Audit (record { policy = a.0.0; users = b.0.0; whenever = u.0.0 })) u.0.1) (sym p.1)
    (g.audits p.2 (users_sound a.0.1 b.0 b.1) w))

noaudit_sound : (i : List Kind) (y : Statement × List Kind) → audits.noaudit i ≡ Some y → g.AuditStatement (Word (codes "NOAUDIT") ∷ i) y.0 y.1
unfolding audits.noaudit
noaudit_sound i y h =
    let a = bind_some (audits.policy i) (λ p. under (λ ns. statement.Noaudit p.0 ns) (audits.noaudit_users p.1)) y h in
    let u = under_some (λ (ns : Option (List (List ℕ))). statement.Noaudit a.0.0 ns) (audits.noaudit_users a.0.1) y a.2 in
    let p = policy_sound i a.0 a.1 in
    let by = clause_sound BY Names tables.names NoComma names_exact refl a.0.1 u.0 u.1 in
    subst (λ (z : Statement × List Kind). g.AuditStatement (Word (codes "NOAUDIT") ∷ i) z.0 z.1) u.2
    (subst (λ (j : List Kind). g.AuditStatement (Word (codes "NOAUDIT") ∷ j) (statement.Noaudit a.0.0 u.0.0) u.0.1) (sym p.1) (g.stops_auditing p.2 by))

drop_sound : (i : List Kind) (y : Statement × List Kind) → (expect (Word (codes "DROP")) i >>= λ j. expect (Word (codes "AUDIT")) j >>= λ k. under statement.DropPolicy (audits.policy k)) ≡ Some y → g.AuditStatement i y.0 y.1
drop_sound i y h =
    let a = bind_some (expect (Word (codes "DROP")) i) (λ j. expect (Word (codes "AUDIT")) j >>= λ k. under statement.DropPolicy (audits.policy k)) y h in
    let b = bind_some (expect (Word (codes "AUDIT")) a.0) (λ k. under statement.DropPolicy (audits.policy k)) y a.2 in
    let u = under_some statement.DropPolicy (audits.policy b.0) y b.2 in
    let p = policy_sound b.0 u.0 u.1 in
    let here : i ≡ Word (codes "DROP") ∷ Word (codes "AUDIT") ∷ POLICY ∷ p.0 =
    expect_is (Word (codes "DROP")) i a.0 a.1 ∙ ap (λ (o : List Kind). Word (codes "DROP") ∷ o) (expect_is (Word (codes "AUDIT")) a.0 b.0 b.1)
    ∙ ap (λ (o : List Kind). Word (codes "DROP") ∷ Word (codes "AUDIT") ∷ o) p.1 in
    subst (λ (z : Statement × List Kind). g.AuditStatement i z.0 z.1) u.2 (subst (λ (j : List Kind). g.AuditStatement j (statement.DropPolicy u.0.0) u.0.1) (sym here) (g.drops p.2))

statement_sound : (i : List Kind) (y : Statement × List Kind) → audits.audit_statement i ≡ Some y → g.AuditStatement i y.0 y.1
unfolding audits.audit_statement
statement_sound i y h =
    elim (chosen (sees (Word (codes "AUDIT")) i) (audits.audit (behind i)) _ (Some y) h) [
      | inl t ↦ subst (λ (j : List Kind). g.AuditStatement j y.0 y.1) (sym (sees_is (Word (codes "AUDIT")) i t.0)) (audit_sound (behind i) y t.1)
      | inr t ↦ elim (chosen (sees (Word (codes "NOAUDIT")) i) (audits.noaudit (behind i)) (expect (Word (codes "DROP")) i >>= λ j. expect (Word (codes "AUDIT")) j >>= λ k. under statement.DropPolicy (audits.policy k)) (Some y) t.1) [
        | inl u ↦ subst (λ (j : List Kind). g.AuditStatement j y.0 y.1) (sym (sees_is (Word (codes "NOAUDIT")) i u.0)) (noaudit_sound (behind i) y u.1)
        | inr u ↦ drop_sound i y u.1
      ]
    ]

statement_complete : (i o : List Kind) (x : Statement) → g.AuditStatement i x o → OneOf LAST o → audits.audit_statement i ≡ Some (x, o)
unfolding audits.audit_statement audits.audit audits.noaudit
statement_complete i o x (g.audits {i = j} {m = m} {n = n} {p = p} {u = u} {w = w} d us out) f =
    let at_n : OneOf (WHENEVER ∷ LAST) n = clause_first WHENEVER g.Outcome LAST n o w refl out f in
    rw (
      policy_complete j m p d,
      users_complete m n u us at_n,
      clause_complete WHENEVER g.Outcome audits.outcome Anywhere outcome_exact refl n o w out tt (unseen WHENEVER LAST o refl f),
    ) refl
statement_complete i o x (g.stops_auditing {i = j} {m = m} {p = p} {ns = ns} d by) f =
    rw (policy_complete j m p d, clause_complete BY Names tables.names NoComma names_exact refl m o ns by (unseen comma LAST o refl f) (unseen BY LAST o refl f)) refl
statement_complete i o x (g.drops {i = j} {p = p} d) f = rw (policy_complete j o p d) refl

-- ---- all tokens

whole_reads : Reads (λ ks. ks) (λ depth. g.AuditStatement) audits.audit_statement
whole_reads = record { sound = λ i y h. (0, statement_sound i y h); complete = λ depth i o x few d f. statement_complete i o x d f }

pub one_way : (ts : List Kind) (x y : Statement) → g.IsAuditStatement ts x → g.IsAuditStatement ts y → x ≡ y
one_way = one_whole (λ ks. ks) (λ depth. g.AuditStatement) audits.audit_statement whole_reads

pub found : {X : Type 0} (ts : List Kind) (view : X → Statement × List Kind) (r : Result X Stop) (answer : Result (Option Statement) Memory)
    → Gives view r (audits.audit_statement ts) → Ends view r answer → opens_few 0 ts ≡ true → Finds (g.IsAuditStatement ts) answer
found ts view r answer gives ends = whole_found (λ ks. ks) (λ depth. g.AuditStatement) audits.audit_statement whole_reads ts answer (ended_gives (λ ks. ks) view r (audits.audit_statement ts) answer gives ends)
