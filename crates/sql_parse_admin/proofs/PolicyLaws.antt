-- CREATE AUDIT POLICY is read exactly by its rules.
use Rattle.std.proofs.Common.{◌≡◌, ℕ, ◌<◌, true, cond, ◌||◌, List, [], ◌∷◌, length, Option, Some, None, refl, sym, ap, subst, ◌∙◌, arith, inl, inr}
use Rattle.std.specs.Prelude.{Result, codes, is_some}
use Rattle.sql_lex.specs.declared.token.Kind.{Kind}
use Rattle.sql_lex.specs.declared.token.Kind.TheVariants.{Word, Quoted, Number, Text, Mark}
use Rattle.sql_ast.specs.declared.administration.CreatePolicy.{CreatePolicy}
use Rattle.sql_ast.specs.declared.administration.Evaluation.{Evaluation}
use Rattle.sql_ast.specs.declared.administration.Evaluation.TheVariants as evaluation
use Rattle.sql_ast.specs.declared.administration.PolicyCondition.{PolicyCondition}
use Rattle.sql_ast.specs.declared.statement.Statement.{Statement}
use Rattle.sql_ast.specs.declared.statement.Statement.TheVariants as statement
use Rattle.sql_parse.specs.Symbols.{sees, comma}
use Rattle.sql_parse.specs.Rules.{Parted}
use Rattle.sql_parse.specs.Tables.{Name}
use Rattle.sql_parse.specs.Grants.{Names}
use Rattle.sql_parse.specs.Privileges.{IsPrivilege}
use Rattle.sql_parse.specs.descent.Reading as read
use Rattle.sql_parse.specs.descent.Reading.{◌>>=◌, Gives, under, behind, expect}
use Rattle.sql_parse.specs.descent.ReadTables as tables
use Rattle.sql_parse.specs.Conditions.{opens_few}
use Rattle.sql_parse.specs.Whole.{Finds}
use Rattle.sql_parse.specs.declared.stop.Stop.{Stop}
use Rattle.sql_parse.specs.descent.Ending.{Ends}
use Rattle.au_base.specs.declared.memory.Memory.{Memory}
use Rattle.sql_parse.proofs.Exact.{bind_some, under_some, some_is, chosen, guard, sees_is, expect_is, Exact}
use Rattle.sql_parse.proofs.Follow.{OneOf, unseen, LAST, Anywhere, clause_first, clause_sound, clause_complete}
use Rattle.sql_parse.proofs.TableLaws.{name_exact, names_exact, NoComma}
use Rattle.sql_parse.proofs.WholeLaws.{Reads, ended_gives, one_whole, whole_found}
use Rattle.sql_parse.specs.PolicyStatements as g
use Rattle.sql_parse_admin.specs.descent.ReadPolicies as policies
use Rattle.sql_parse_admin.specs.descent.ReadPrivileges as rights
use Rattle.sql_parse_admin.proofs.ActionLaws.{privileges_exact, parts_exact, ROLES, WHEN, BEHIND_PARTS}

abbrev CREATE : Kind
CREATE = Word (codes "CREATE")

abbrev AUDIT : Kind
AUDIT = Word (codes "AUDIT")

abbrev POLICY : Kind
POLICY = Word (codes "POLICY")

abbrev PRIVILEGES : Kind
PRIVILEGES = Word (codes "PRIVILEGES")

abbrev ACTIONS : Kind
ACTIONS = Word (codes "ACTIONS")

abbrev EVALUATE : Kind
EVALUATE = Word (codes "EVALUATE")

abbrev PER : Kind
PER = Word (codes "PER")

-- ---- WHEN

literal_of_sound : (k : Kind) (t : List ℕ) → read.literal_of k ≡ Some t → k ≡ Text t
literal_of_sound (Text u) t h = ap (λ (v : List ℕ). Text v) (some_is u t h)
literal_of_sound (Word u) t h = absurd cc
literal_of_sound (Quoted u) t h = absurd cc
literal_of_sound (Number u) t h = absurd cc
literal_of_sound (Mark u) t h = absurd cc

literal_sound : (i : List Kind) (y : List ℕ × List Kind) → read.literal i ≡ Some y → i ≡ Text y.0 ∷ y.1
unfolding read.literal
literal_sound [] y h = absurd cc
literal_sound (k ∷ o) y h =
    let b = bind_some (read.literal_of k) (λ t. Some (t, o)) y h in
    subst (λ (z : List ℕ × List Kind). k ∷ o ≡ Text z.0 ∷ z.1) (some_is (b.0, o) y b.2) (ap (λ (l : Kind). l ∷ o) (literal_of_sound k b.0 b.1))

evaluation_exact : Exact g.IsEvaluation policies.evaluated_per Anywhere
unfolding policies.evaluated_per
evaluation_exact = record { sound = sound; complete = complete; shorter = shorter }
  where
    sound : (i : List Kind) (y : Evaluation × List Kind) → policies.evaluated_per i ≡ Some y → g.IsEvaluation i y.0 y.1
    sound i y h =
        elim (chosen (sees (Word (codes "STATEMENT")) i) (Some (evaluation.Statement, behind i)) _ (Some y) h) [
          | inl t ↦ seen (codes "STATEMENT") evaluation.Statement t.0 t.1 g.per_statement
          | inr t ↦ elim (chosen (sees (Word (codes "SESSION")) i) (Some (evaluation.Session, behind i)) _ (Some y) t.1) [
            | inl t ↦ seen (codes "SESSION") evaluation.Session t.0 t.1 g.per_session
            | inr t ↦
                let s = guard (sees (Word (codes "INSTANCE")) i) (Some (evaluation.Instance, behind i)) y t.1 in
                seen (codes "INSTANCE") evaluation.Instance s.0 s.1 g.per_instance
          ]
        ]
      where
        seen : (w : List ℕ) (x : Evaluation) → sees (Word w) i ≡ true → Some (x, behind i) ≡ Some y → g.IsEvaluation (Word w ∷ behind i) x (behind i) → g.IsEvaluation i y.0 y.1
        seen w x s same d =
            subst (λ (z : Evaluation × List Kind). g.IsEvaluation i z.0 z.1) (some_is (x, behind i) y same)
            (subst (λ (j : List Kind). g.IsEvaluation j x (behind i)) (sym (sees_is (Word w) i s)) d)

    complete : (i o : List Kind) (x : Evaluation) → g.IsEvaluation i x o → Anywhere o → policies.evaluated_per i ≡ Some (x, o)
    complete i o x g.per_statement f = refl
    complete i o x g.per_session f = refl
    complete i o x g.per_instance f = refl

    shorter : (i o : List Kind) (x : Evaluation) → g.IsEvaluation i x o → length o < length i
    shorter i o x g.per_statement = omega arith
    shorter i o x g.per_session = omega arith
    shorter i o x g.per_instance = omega arith

condition_exact : Exact g.IsPolicyCondition policies.condition Anywhere
unfolding policies.condition read.literal
condition_exact = record { sound = sound; complete = complete; shorter = shorter }
  where
    sound : (i : List Kind) (y : PolicyCondition × List Kind) → policies.condition i ≡ Some y → g.IsPolicyCondition i y.0 y.1
    sound i y h =
        let a = bind_some (read.literal i) (λ t. expect EVALUATE t.1 >>= λ j. expect PER j >>= λ k. under (λ v. record { text = t.0; evaluation = v }) (policies.evaluated_per k)) y h in
        let b = bind_some (expect EVALUATE a.0.1) (λ j. expect PER j >>= λ k. under (λ v. record { text = a.0.0; evaluation = v }) (policies.evaluated_per k)) y a.2 in
        let d = bind_some (expect PER b.0) (λ k. under (λ v. record { text = a.0.0; evaluation = v }) (policies.evaluated_per k)) y b.2 in
        let u = under_some (λ (v : Evaluation). record { text = a.0.0; evaluation = v }) (policies.evaluated_per d.0) y d.2 in
        let here : i ≡ Text a.0.0 ∷ EVALUATE ∷ PER ∷ d.0 =
        literal_sound i a.0 a.1 ∙ ap (λ (j : List Kind). Text a.0.0 ∷ j) (expect_is EVALUATE a.0.1 b.0 b.1) ∙ ap (λ (j : List Kind). Text a.0.0 ∷ EVALUATE ∷ j) (expect_is PER b.0 d.0 d.1) in
        subst (λ (z : PolicyCondition × List Kind). g.IsPolicyCondition i z.0 z.1) u.2
        (subst (λ (j : List Kind). g.IsPolicyCondition j (record { text = a.0.0; evaluation = u.0.0 }) u.0.1) (sym here) (g.evaluated (evaluation_exact.sound d.0 u.0 u.1)))

    complete : (i o : List Kind) (x : PolicyCondition) → g.IsPolicyCondition i x o → Anywhere o → policies.condition i ≡ Some (x, o)
    complete i o x (g.evaluated {i = j} {v = v} d) f = rw (evaluation_exact.complete j o v d tt) refl

    shorter : (i o : List Kind) (x : PolicyCondition) → g.IsPolicyCondition i x o → length o < length i
    shorter i o x (g.evaluated {i = j} {v = v} d) = omega (arith, evaluation_exact.shorter j o v d)

-- ---- the statement

heading_sound : (i : List Kind) (y : List ℕ × List Kind) → policies.heading i ≡ Some y → (j : List Kind) × (i ≡ CREATE ∷ AUDIT ∷ POLICY ∷ j) × Name j y.0 y.1
unfolding policies.heading
heading_sound i y h =
    let a = bind_some (expect CREATE i) (λ j. expect AUDIT j >>= λ k. expect POLICY k >>= λ m. read.name m) y h in
    let b = bind_some (expect AUDIT a.0) (λ k. expect POLICY k >>= λ m. read.name m) y a.2 in
    let d = bind_some (expect POLICY b.0) (λ m. read.name m) y b.2 in
    let here : i ≡ CREATE ∷ AUDIT ∷ POLICY ∷ d.0 =
    expect_is CREATE i a.0 a.1 ∙ ap (λ (o : List Kind). CREATE ∷ o) (expect_is AUDIT a.0 b.0 b.1) ∙ ap (λ (o : List Kind). CREATE ∷ AUDIT ∷ o) (expect_is POLICY b.0 d.0 d.1) in
    (d.0, here, name_exact.sound d.0 y d.2)

heading_complete : (i o : List Kind) (p : List ℕ) → Name i p o → policies.heading (CREATE ∷ AUDIT ∷ POLICY ∷ i) ≡ Some (p, o)
unfolding policies.heading
heading_complete i o p d = rw (name_exact.complete i o p d tt) refl

clauses_sound : (p : List ℕ) (i j : List Kind) (y : CreatePolicy × List Kind) → Name i p j → policies.clauses p j ≡ Some y → policies.audits_some y.0 ≡ true
    → g.PolicyStatement (CREATE ∷ AUDIT ∷ POLICY ∷ i) (statement.CreatePolicy y.0) y.1
unfolding policies.clauses
clauses_sound p i j y named h t =
    let a = bind_some (policies.privileges_clause j) _ y h in
    let b = bind_some (policies.actions_clause a.0.1) _ y a.2 in
    let d = bind_some (policies.roles_clause b.0.1) (λ rs. under (λ c. record { policy = p; privileges = a.0.0; actions = b.0.0; roles = rs.0; condition = c }) (policies.condition_clause rs.1)) y b.2 in
    let u = under_some (λ (c : Option PolicyCondition). record { policy = p; privileges = a.0.0; actions = b.0.0; roles = d.0.0; condition = c }) (policies.condition_clause d.0.1) y d.2 in
    let some : (is_some a.0.0 || is_some b.0.0 || is_some d.0.0) ≡ true = subst (λ (z : CreatePolicy × List Kind). policies.audits_some z.0 ≡ true) (sym u.2) t in
    let privileges = clause_sound PRIVILEGES (Parted comma IsPrivilege) rights.privileges NoComma privileges_exact refl j a.0 a.1 in
    let actions = clause_sound ACTIONS (Parted comma g.IsPart) policies.parts (OneOf BEHIND_PARTS) parts_exact refl a.0.1 b.0 b.1 in
    let roles = clause_sound ROLES Names tables.names NoComma names_exact refl b.0.1 d.0 d.1 in
    let condition = clause_sound WHEN g.IsPolicyCondition policies.condition Anywhere condition_exact refl d.0.1 u.0 u.1 in
    subst (λ (z : CreatePolicy × List Kind). g.PolicyStatement (CREATE ∷ AUDIT ∷ POLICY ∷ i) (statement.CreatePolicy z.0) z.1) u.2 (g.creates named privileges actions roles condition some)

policy_sound : (i : List Kind) (y : Statement × List Kind) → policies.policy i ≡ Some y → g.PolicyStatement i y.0 y.1
unfolding policies.policy
policy_sound i y h =
    let a = bind_some (policies.heading i) (λ n. policies.clauses n.0 n.1 >>= λ x. cond (policies.audits_some x.0) (Some (statement.CreatePolicy x.0, x.1)) None) y h in
    let b = bind_some (policies.clauses a.0.0 a.0.1) (λ x. cond (policies.audits_some x.0) (Some (statement.CreatePolicy x.0, x.1)) None) y a.2 in
    let s = guard (policies.audits_some b.0.0) (Some (statement.CreatePolicy b.0.0, b.0.1)) y b.2 in
    let n = heading_sound i a.0 a.1 in
    subst (λ (z : Statement × List Kind). g.PolicyStatement i z.0 z.1) (some_is (statement.CreatePolicy b.0.0, b.0.1) y s.1)
    (subst (λ (j : List Kind). g.PolicyStatement j (statement.CreatePolicy b.0.0) b.0.1) (sym n.1) (clauses_sound a.0.0 n.0 a.0.1 b.0 n.2 b.1 s.0))

-- what may follow the privileges
abbrev BEHIND_PRIVILEGES : List Kind
BEHIND_PRIVILEGES = ACTIONS ∷ BEHIND_PARTS

policy_complete : (i o : List Kind) (x : Statement) → g.PolicyStatement i x o → OneOf LAST o → policies.policy i ≡ Some (x, o)
unfolding policies.policy policies.clauses
policy_complete i o x (g.creates {i = h} {j = j} {m = m} {n = n} {q = q} {p = p} {ps = ps} {parts = parts} {rs = rs} {c = c} named privileges actions roles condition some) f =
    let at_q : OneOf (WHEN ∷ LAST) q = clause_first WHEN g.IsPolicyCondition LAST q o c refl condition f in
    let at_n : OneOf BEHIND_PARTS n = clause_first ROLES Names (WHEN ∷ LAST) n q rs refl roles at_q in
    let at_m : OneOf BEHIND_PRIVILEGES m = clause_first ACTIONS (Parted comma g.IsPart) BEHIND_PARTS m n parts refl actions at_n in
    rw (
      heading_complete h j p named,
      clause_complete PRIVILEGES (Parted comma IsPrivilege) rights.privileges NoComma privileges_exact refl j m ps privileges (unseen comma BEHIND_PRIVILEGES m refl at_m) (unseen PRIVILEGES BEHIND_PRIVILEGES m refl at_m),
      clause_complete ACTIONS (Parted comma g.IsPart) policies.parts (OneOf BEHIND_PARTS) parts_exact refl m n parts actions at_n (unseen ACTIONS BEHIND_PARTS n refl at_n),
      clause_complete ROLES Names tables.names NoComma names_exact refl n q rs roles (unseen comma (WHEN ∷ LAST) q refl at_q) (unseen ROLES (WHEN ∷ LAST) q refl at_q),
      clause_complete WHEN g.IsPolicyCondition policies.condition Anywhere condition_exact refl q o c condition tt (unseen WHEN LAST o refl f),
      some,
    ) refl

-- ---- all tokens

policies_read : Reads (λ ks. ks) (λ depth. g.PolicyStatement) policies.policy
policies_read = record { sound = λ i y h. (0, policy_sound i y h); complete = λ depth i o x few d at. policy_complete i o x d at }

pub one_way : (ts : List Kind) (x y : Statement) → g.IsPolicyStatement ts x → g.IsPolicyStatement ts y → x ≡ y
one_way = one_whole (λ ks. ks) (λ depth. g.PolicyStatement) policies.policy policies_read

pub found : {X : Type 0} (ts : List Kind) (view : X → Statement × List Kind) (r : Result X Stop) (answer : Result (Option Statement) Memory)
    → Gives view r (policies.policy ts) → Ends view r answer → opens_few 0 ts ≡ true → Finds (g.IsPolicyStatement ts) answer
found ts view r answer gives ends = whole_found (λ ks. ks) (λ depth. g.PolicyStatement) policies.policy policies_read ts answer (ended_gives (λ ks. ks) view r (policies.policy ts) answer gives ends)
