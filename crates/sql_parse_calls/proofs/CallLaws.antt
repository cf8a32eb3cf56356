-- Calls are read exactly by their rules.
use Rattle.std.proofs.Common.{◌≡◌, true, List, ◌∷◌, Option, Some, refl, sym, ap, subst, ◌∙◌, inl, inr}
use Rattle.std.specs.Prelude.{Result, codes, map}
use Rattle.sql_lex.specs.declared.token.Kind.{Kind}
use Rattle.sql_lex.specs.declared.token.Kind.TheVariants.{Word}
use Rattle.sql_ast.specs.declared.call.Argument.{Argument}
use Rattle.sql_ast.specs.declared.call.Call.{Call}
use Rattle.sql_ast.specs.declared.statement.Statement.{Statement}
use Rattle.sql_ast.specs.declared.statement.Statement.TheVariants as statement
use Rattle.sql_parse.specs.Symbols.{sees, opening, closing, comma, semicolon}
use Rattle.sql_parse.specs.Rules.{Parted}
use Rattle.sql_parse.specs.Tables.{Name}
use Rattle.sql_parse.specs.descent.Reading.{◌>>=◌, Gives, under, behind, expect}
use Rattle.sql_parse.specs.Conditions.{opens_few}
use Rattle.sql_parse.specs.Whole.{Finds}
use Rattle.sql_parse.specs.declared.stop.Stop.{Stop}
use Rattle.sql_parse.specs.descent.Ending.{Ends}
use Rattle.au_base.specs.declared.memory.Memory.{Memory}
use Rattle.sql_parse.proofs.Exact.{bind_some, under_some, some_is, chosen, guard, sees_is, expect_is}
use Rattle.sql_parse.proofs.WholeLaws.{Reads, ended_gives, one_whole, whole_found}
use Rattle.sql_parse.specs.CallStatements as g
use Rattle.sql_parse.specs.CallStatements.{procedure_name, are_taken}
use Rattle.sql_parse_calls.specs.descent.ReadCalls as calls
use Rattle.sql_parse_calls.proofs.ProcedureLaws.{procedure_sound, procedure_complete}
use Rattle.sql_parse_calls.proofs.ArgumentLaws.{arguments_exact}

abbrev BEGIN : Kind
BEGIN = Word (codes "BEGIN")

abbrev END : Kind
END = Word (codes "END")

abbrev CALL : Kind
CALL = Word (codes "CALL")

-- ---- calls

call_sound : (i : List Kind) (y : Call × List Kind) → calls.call i ≡ Some y → g.IsCall i y.0 y.1
unfolding calls.call
call_sound i y h =
    let a = bind_some (calls.procedure i) (λ f. expect opening f.1 >>= λ j. calls.arguments j >>= λ given. expect closing given.1 >>= λ o. calls.called f.0 given.0 o) y h in
    let b = bind_some (expect opening a.0.1) (λ j. calls.arguments j >>= λ given. expect closing given.1 >>= λ o. calls.called a.0.0 given.0 o) y a.2 in
    let c = bind_some (calls.arguments b.0) (λ given. expect closing given.1 >>= λ o. calls.called a.0.0 given.0 o) y b.2 in
    let d = bind_some (expect closing c.0.1) (λ o. calls.called a.0.0 c.0.0 o) y c.2 in
    let found : Call = record { procedure = a.0.0; arguments = c.0.0 } in
    let t = guard (are_taken a.0.0 (map (λ (x : Argument). x.parameter) c.0.0)) (Some (found, d.0)) y d.2 in
    let s = procedure_sound i a.0 a.1 in
    let named : Name s.rest (procedure_name a.0.0) (opening ∷ b.0) = subst (λ (o : List Kind). Name s.rest (procedure_name a.0.0) o) (expect_is opening a.0.1 b.0 b.1) s.procedure in
    let given : Parted comma g.IsArgument b.0 c.0.0 (closing ∷ d.0) = subst (λ (o : List Kind). Parted comma g.IsArgument b.0 c.0.0 o) (expect_is closing c.0.1 d.0 d.1) (arguments_exact.sound b.0 c.0 c.1) in
    subst (λ (z : Call × List Kind). g.IsCall i z.0 z.1) (some_is (found, d.0) y t.1) (g.IsCall.calls s.owner s.qualifier named given t.0)

call_complete : (i o : List Kind) (x : Call) → g.IsCall i x o → calls.call i ≡ Some (x, o)
unfolding calls.call
call_complete i o x (g.IsCall.calls {j = j} {m = m} {n = n} {f = f} {given = given} owner qualifier named parts taken) =
    rw (procedure_complete i j m (opening ∷ n) f owner qualifier named, arguments_exact.complete n (closing ∷ o) given parts refl, taken) refl

-- ---- the statements

block_sound : (i : List Kind) (y : Statement × List Kind) → calls.block i ≡ Some y → g.CallStatement (BEGIN ∷ i) y.0 y.1
unfolding calls.block
block_sound i y h =
    let a = bind_some (calls.call i) (λ x. expect semicolon x.1 >>= λ j. expect END j >>= λ o. Some (statement.Call x.0, o)) y h in
    let b = bind_some (expect semicolon a.0.1) (λ j. expect END j >>= λ o. Some (statement.Call a.0.0, o)) y a.2 in
    let c = bind_some (expect END b.0) (λ o. Some (statement.Call a.0.0, o)) y b.2 in
    let ends : a.0.1 ≡ semicolon ∷ END ∷ c.0 = expect_is semicolon a.0.1 b.0 b.1 ∙ ap (λ (o : List Kind). semicolon ∷ o) (expect_is END b.0 c.0 c.1) in
    subst (λ (z : Statement × List Kind). g.CallStatement (BEGIN ∷ i) z.0 z.1) (some_is (statement.Call a.0.0, c.0) y c.2)
    (g.block (subst (λ (o : List Kind). g.IsCall i a.0.0 o) ends (call_sound i a.0 a.1)))

statement_sound : (i : List Kind) (y : Statement × List Kind) → calls.call_statement i ≡ Some y → g.CallStatement i y.0 y.1
unfolding calls.call_statement
statement_sound i y h =
    elim (chosen (sees BEGIN i) (calls.block (behind i)) (expect CALL i >>= λ j. under statement.Call (calls.call j)) (Some y) h) [
      | inl t ↦ subst (λ (j : List Kind). g.CallStatement j y.0 y.1) (sym (sees_is BEGIN i t.0)) (block_sound (behind i) y t.1)
      | inr t ↦
          let a = bind_some (expect CALL i) (λ j. under statement.Call (calls.call j)) y t.1 in
          let u = under_some statement.Call (calls.call a.0) y a.2 in
          subst (λ (z : Statement × List Kind). g.CallStatement i z.0 z.1) u.2
          (subst (λ (j : List Kind). g.CallStatement j (statement.Call u.0.0) u.0.1) (sym (expect_is CALL i a.0 a.1)) (g.CallStatement.calls (call_sound a.0 u.0 u.1)))
    ]

statement_complete : (i o : List Kind) (x : Statement) → g.CallStatement i x o → calls.call_statement i ≡ Some (x, o)
unfolding calls.call_statement calls.block
statement_complete i o x (g.block {i = j} {x = y} d) = rw (call_complete j (semicolon ∷ END ∷ o) y d) refl
statement_complete i o x (g.CallStatement.calls {i = j} {x = y} d) = rw (call_complete j o y d) refl

-- ---- all tokens

calls_read : Reads (λ ks. ks) (λ depth. g.CallStatement) calls.call_statement
calls_read = record { sound = λ i y h. (0, statement_sound i y h); complete = λ depth i o x few d at. statement_complete i o x d }

pub one_way : (ts : List Kind) (x y : Statement) → g.IsCallStatement ts x → g.IsCallStatement ts y → x ≡ y
one_way = one_whole (λ ks. ks) (λ depth. g.CallStatement) calls.call_statement calls_read

pub found : {X : Type 0} (ts : List Kind) (view : X → Statement × List Kind) (r : Result X Stop) (answer : Result (Option Statement) Memory)
    → Gives view r (calls.call_statement ts) → Ends view r answer → opens_few 0 ts ≡ true → Finds (g.IsCallStatement ts) answer
found ts view r answer gives ends = whole_found (λ ks. ks) (λ depth. g.CallStatement) calls.call_statement calls_read ts answer (ended_gives (λ ks. ks) view r (calls.call_statement ts) answer gives ends)
