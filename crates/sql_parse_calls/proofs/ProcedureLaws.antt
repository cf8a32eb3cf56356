-- The names of procedures and parameters are read exactly.
use Rattle.std.proofs.Common.{◌≡◌, ℕ, Bool, true, false, cond, ◌&&◌, List, [], ◌∷◌, Some, refl, sym, ap, subst, ◌∙◌, inl, inr}
use Rattle.std.specs.Prelude.{codes, find}
use Rattle.std.specs.Str.{bytes_eq}
use Rattle.std.proofs.lemmas.Slice.Eq.{bytes_eq-Decides}
use Rattle.sql_lex.specs.declared.token.Kind.{Kind}
use Rattle.sql_lex.specs.declared.token.Kind.TheVariants.{Word, Quoted, Number, Text, Mark}
use Rattle.sql_ast.specs.declared.call.Parameter.{Parameter}
use Rattle.sql_ast.specs.declared.call.Parameter.TheVariants as p
use Rattle.sql_ast.specs.declared.call.Procedure.{Procedure}
use Rattle.sql_ast.specs.declared.call.Procedure.TheVariants as f
use Rattle.sql_parse.specs.Symbols.{sees, dot, is_free, is_reserved}
use Rattle.sql_parse.specs.Expressions.{IsName, quoted, word}
use Rattle.sql_parse.specs.Tables.{Name, name}
use Rattle.sql_parse.specs.descent.Reading as read
use Rattle.sql_parse.specs.descent.Reading.{◌>>=◌, under, behind, expect}
use Rattle.sql_parse.proofs.Exact.{bind_some, under_some, some_is, chosen, sees_is, expect_is, Exact}
use Rattle.sql_parse.proofs.Follow.{Anywhere}
use Rattle.sql_parse.proofs.TableLaws.{name_exact}
use Rattle.sql_ast.specs.Procedures.{each_parameter, each_procedure, package_of, parameter_name, procedure_name}
use Rattle.sql_parse.specs.CallStatements.{Owner, unqualified, sys}
use Rattle.sql_parse_calls.specs.descent.ReadCalls as calls

found : {A : Type 0} (test : A → Bool) (xs : List A) (x : A) → find test xs ≡ Some x → test x ≡ true
found test [] x h = absurd cc
found {A} test (y ∷ ys) x h =
    elim (chosen (test y) (Some y) (find test ys) (Some x) h) [
      | inl t ↦ subst (λ (z : A). test z ≡ true) (some_is y x t.1) t.0
      | inr t ↦ found test ys x t.1
    ]

both : (a b : Bool) → (a && b) ≡ true → (a ≡ true) × (b ≡ true)
both true b h = (refl, h)
both false b h = absurd cc

-- ---- the names

procedure_of_sound : (q n : List ℕ) (x : Procedure) → calls.procedure_of q n ≡ Some x → (q ≡ package_of x) × (n ≡ procedure_name x)
unfolding calls.procedure_of
procedure_of_sound q n x h =
    let t = both (bytes_eq q (package_of x)) (bytes_eq n (procedure_name x)) (found (calls.is_called q n) each_procedure x h) in
    ((bytes_eq-Decides q (package_of x)).0 t.0, (bytes_eq-Decides n (procedure_name x)).0 t.1)

procedure_of_complete : (x : Procedure) → calls.procedure_of (package_of x) (procedure_name x) ≡ Some x
unfolding calls.procedure_of
procedure_of_complete f.AddPolicy = refl
procedure_of_complete f.DropPolicy = refl
procedure_of_complete f.EnablePolicy = refl
procedure_of_complete f.DisablePolicy = refl
procedure_of_complete f.SetLastArchiveTimestamp = refl
procedure_of_complete f.ClearLastArchiveTimestamp = refl
procedure_of_complete f.CleanAuditTrail = refl

parameter_of_sound : (n : List ℕ) (x : Parameter) → calls.parameter_of n ≡ Some x → n ≡ parameter_name x
unfolding calls.parameter_of calls.is_named
parameter_of_sound n x h = (bytes_eq-Decides n (parameter_name x)).0 (found (calls.is_named n) each_parameter x h)

parameter_of_complete : (x : Parameter) → calls.parameter_of (parameter_name x) ≡ Some x
unfolding calls.parameter_of calls.is_named
parameter_of_complete p.ObjectSchema = refl
parameter_of_complete p.ObjectName = refl
parameter_of_complete p.PolicyName = refl
parameter_of_complete p.AuditCondition = refl
parameter_of_complete p.AuditColumn = refl
parameter_of_complete p.HandlerSchema = refl
parameter_of_complete p.HandlerModule = refl
parameter_of_complete p.Enable = refl
parameter_of_complete p.StatementTypes = refl
parameter_of_complete p.AuditColumnOpts = refl
parameter_of_complete p.AuditTrailType = refl
parameter_of_complete p.LastArchiveTime = refl
parameter_of_complete p.UseLastArchTimestamp = refl

-- ---- a word or a quoted name as one of the names, which are no reserved words

package_free : (x : Procedure) → is_free (package_of x) ≡ true
unfolding is_reserved
package_free f.AddPolicy = refl
package_free f.DropPolicy = refl
package_free f.EnablePolicy = refl
package_free f.DisablePolicy = refl
package_free f.SetLastArchiveTimestamp = refl
package_free f.ClearLastArchiveTimestamp = refl
package_free f.CleanAuditTrail = refl

procedure_free : (x : Procedure) → is_free (procedure_name x) ≡ true
unfolding is_reserved
procedure_free f.AddPolicy = refl
procedure_free f.DropPolicy = refl
procedure_free f.EnablePolicy = refl
procedure_free f.DisablePolicy = refl
procedure_free f.SetLastArchiveTimestamp = refl
procedure_free f.ClearLastArchiveTimestamp = refl
procedure_free f.CleanAuditTrail = refl

parameter_free : (x : Parameter) → is_free (parameter_name x) ≡ true
unfolding is_reserved
parameter_free p.ObjectSchema = refl
parameter_free p.ObjectName = refl
parameter_free p.PolicyName = refl
parameter_free p.AuditCondition = refl
parameter_free p.AuditColumn = refl
parameter_free p.HandlerSchema = refl
parameter_free p.HandlerModule = refl
parameter_free p.Enable = refl
parameter_free p.StatementTypes = refl
parameter_free p.AuditColumnOpts = refl
parameter_free p.AuditTrailType = refl
parameter_free p.LastArchiveTime = refl
parameter_free p.UseLastArchTimestamp = refl

spelled_sound : (i : List Kind) (y : List ℕ × List Kind) → calls.spelled i ≡ Some y → is_free y.0 ≡ true → Name i y.0 y.1
unfolding calls.spelled
spelled_sound [] y h free = absurd cc
spelled_sound (Word w ∷ o) y h free = subst (λ (z : List ℕ × List Kind). is_free z.0 ≡ true → Name (Word w ∷ o) z.0 z.1) (some_is (w, o) y h) (λ known. name (word known)) free
spelled_sound (Quoted n ∷ o) y h free = subst (λ (z : List ℕ × List Kind). Name (Quoted n ∷ o) z.0 z.1) (some_is (n, o) y h) (name quoted)
spelled_sound (Number n ∷ o) y h free = absurd cc
spelled_sound (Text t ∷ o) y h free = absurd cc
spelled_sound (Mark m ∷ o) y h free = absurd cc

spelled_as : (i : List Kind) (y : List ℕ × List Kind) (n : List ℕ) → calls.spelled i ≡ Some y → y.0 ≡ n → is_free n ≡ true → Name i n y.1
spelled_as i y n h same free =
    subst (λ (w : List ℕ). Name i w y.1) same (spelled_sound i y h (subst (λ (w : List ℕ). is_free w ≡ true) (sym same) free))

spelled_complete : (i o : List Kind) (n : List ℕ) → Name i n o → calls.spelled i ≡ Some (n, o)
unfolding calls.spelled
spelled_complete i o n (name quoted) = refl
spelled_complete i o n (name (word free)) = refl

-- ---- name . name

pub dotted_sound : (i : List Kind) (y : (List ℕ × List ℕ) × List Kind) → calls.dotted i ≡ Some y → (m : List Kind) × Name i y.0.0 (dot ∷ m) × Name m y.0.1 y.1
unfolding calls.dotted
dotted_sound i y h =
    let a = bind_some (read.name i) (λ n. expect dot n.1 >>= λ j. under (λ c. (n.0, c)) (read.name j)) y h in
    let b = bind_some (expect dot a.0.1) (λ j. under (λ c. (a.0.0, c)) (read.name j)) y a.2 in
    let u = under_some (λ (c : List ℕ). (a.0.0, c)) (read.name b.0) y b.2 in
    let first : Name i a.0.0 (dot ∷ b.0) = subst (λ (o : List Kind). Name i a.0.0 o) (expect_is dot a.0.1 b.0 b.1) (name_exact.sound i a.0 a.1) in
    subst (λ (z : (List ℕ × List ℕ) × List Kind). (m : List Kind) × Name i z.0.0 (dot ∷ m) × Name m z.0.1 z.1) u.2 (b.0, first, name_exact.sound b.0 u.0 u.1)

pub dotted_complete : (i m o : List Kind) (q n : List ℕ) → Name i q (dot ∷ m) → Name m n o → calls.dotted i ≡ Some ((q, n), o)
unfolding calls.dotted
dotted_complete i m o q n d e = rw (name_exact.complete i (dot ∷ m) q d tt, name_exact.complete m o n e tt) refl

-- ---- SYS, which no package is called

abbrev SYS : Kind
SYS = Word (codes "SYS")

owner_sound : (i : List Kind) → Owner i (calls.past_owner i)
owner_sound i = go (sees SYS i && sees dot (behind i)) refl
  where
    go : (b : Bool) → (sees SYS i && sees dot (behind i)) ≡ b → Owner i (cond b (behind (behind i)) i)
    go false e = unqualified
    go true e =
        let t = both (sees SYS i) (sees dot (behind i)) e in
        let here : i ≡ SYS ∷ dot ∷ behind (behind i) = sees_is SYS i t.0 ∙ ap (λ (o : List Kind). SYS ∷ o) (sees_is dot (behind i) t.1) in
        subst (λ (j : List Kind). Owner j (behind (behind i))) (sym here) sys

no_package : (x : Procedure) → bytes_eq (codes "SYS") (package_of x) ≡ false
no_package f.AddPolicy = refl
no_package f.DropPolicy = refl
no_package f.EnablePolicy = refl
no_package f.DisablePolicy = refl
no_package f.SetLastArchiveTimestamp = refl
no_package f.ClearLastArchiveTimestamp = refl
no_package f.CleanAuditTrail = refl

not_sys : (k : Kind) (n : List ℕ) (o : List Kind) → bytes_eq (codes "SYS") n ≡ false → IsName k n → sees SYS (k ∷ o) ≡ false
not_sys k n o e quoted = refl
not_sys k n o e (word free) = e

none_owns : (i o : List Kind) (n : List ℕ) → bytes_eq (codes "SYS") n ≡ false → Name i n o → calls.past_owner i ≡ i
none_owns i o n e (name {k = k} d) = rw (not_sys k n o e d) refl

owner_complete : (i j o : List Kind) (x : Procedure) → Owner i j → Name j (package_of x) o → calls.past_owner i ≡ j
owner_complete i j o x unqualified d = none_owns i o (package_of x) (no_package x) d
owner_complete i j o x sys d = refl

-- ---- [SYS .] name . name

-- what the reader gives
pub record ProcedureOf (i : List Kind) (y : Procedure × List Kind) : Type 0 where
  pub named : List Kind
  pub rest : List Kind
  pub owner : Owner i named
  pub qualifier : Name named (package_of y.0) (dot ∷ rest)
  pub procedure : Name rest (procedure_name y.0) y.1

pub procedure_sound : (i : List Kind) (y : Procedure × List Kind) → calls.procedure i ≡ Some y → ProcedureOf i y
unfolding calls.procedure
procedure_sound i y h =
    let a = bind_some (calls.spelled (calls.past_owner i)) (λ q. expect dot q.1 >>= λ j. calls.spelled j >>= λ n. calls.procedure_of q.0 n.0 >>= λ x. Some (x, n.1)) y h in
    let b = bind_some (expect dot a.0.1) (λ j. calls.spelled j >>= λ n. calls.procedure_of a.0.0 n.0 >>= λ x. Some (x, n.1)) y a.2 in
    let c = bind_some (calls.spelled b.0) (λ n. calls.procedure_of a.0.0 n.0 >>= λ x. Some (x, n.1)) y b.2 in
    let d = bind_some (calls.procedure_of a.0.0 c.0.0) (λ x. Some (x, c.0.1)) y c.2 in
    let n = procedure_of_sound a.0.0 c.0.0 d.0 d.1 in
    let first : Name (calls.past_owner i) (package_of d.0) a.0.1 = spelled_as (calls.past_owner i) a.0 (package_of d.0) a.1 n.0 (package_free d.0) in
    let qualifier : Name (calls.past_owner i) (package_of d.0) (dot ∷ b.0) = subst (λ (o : List Kind). Name (calls.past_owner i) (package_of d.0) o) (expect_is dot a.0.1 b.0 b.1) first in
    let procedure : Name b.0 (procedure_name d.0) c.0.1 = spelled_as b.0 c.0 (procedure_name d.0) c.1 n.1 (procedure_free d.0) in
    subst (λ (z : Procedure × List Kind). ProcedureOf i z) (some_is (d.0, c.0.1) y d.2)
    (record { named = calls.past_owner i; rest = b.0; owner = owner_sound i; qualifier = qualifier; procedure = procedure })

pub procedure_complete : (i j m o : List Kind) (x : Procedure) → Owner i j → Name j (package_of x) (dot ∷ m) → Name m (procedure_name x) o → calls.procedure i ≡ Some (x, o)
unfolding calls.procedure
procedure_complete i j m o x s d e =
    rw (owner_complete i j (dot ∷ m) x s d, spelled_complete j (dot ∷ m) (package_of x) d, spelled_complete m o (procedure_name x) e, procedure_of_complete x) refl

-- ---- parameters

abbrev pub IsParameter : List Kind → Parameter → List Kind → Type 0
IsParameter i x o = Name i (parameter_name x) o

pub parameter_exact : Exact IsParameter calls.parameter Anywhere
unfolding calls.parameter
parameter_exact = record { sound = sound; complete = complete; shorter = λ i o x d. name_exact.shorter i o (parameter_name x) d }
  where
    sound : (i : List Kind) (y : Parameter × List Kind) → calls.parameter i ≡ Some y → IsParameter i y.0 y.1
    sound i y h =
        let a = bind_some (calls.spelled i) (λ n. calls.parameter_of n.0 >>= λ x. Some (x, n.1)) y h in
        let b = bind_some (calls.parameter_of a.0.0) (λ x. Some (x, a.0.1)) y a.2 in
        subst (λ (z : Parameter × List Kind). IsParameter i z.0 z.1) (some_is (b.0, a.0.1) y b.2)
        (spelled_as i a.0 (parameter_name b.0) a.1 (parameter_of_sound a.0.0 b.0 b.1) (parameter_free b.0))

    complete : (i o : List Kind) (x : Parameter) → IsParameter i x o → Anywhere o → calls.parameter i ≡ Some (x, o)
    complete i o x d at = rw (spelled_complete i o (parameter_name x) d, parameter_of_complete x) refl
