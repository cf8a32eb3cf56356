-- A condition's text and what is read.
use Rattle.std.proofs.Common.{◌≡◌, List, [], ◌∷◌, Option, Some, None, refl, sym, ap, subst, ◌∙◌, arith}
use Rattle.sql_lex.specs.declared.token.Kind.{Kind}
use Rattle.sql_ast.specs.declared.expression.Expr.{Expr}
use Rattle.sql_parse.specs.Expressions.{Within}
use Rattle.sql_parse.specs.descent.Reading as read
use Rattle.std.specs.Prelude.{ℕ, Result, Ok, Err, IfOk, MatchOption}
use Rattle.au_base.specs.declared.memory.Memory.{Memory}
use Rattle.sql_lex.specs.declared.token.Token.{Token}
use Rattle.sql_lex.specs.Tokens.{AreTokens}
use Rattle.sql_parse.specs.Symbols.{kinds}
use Rattle.sql_parse.specs.Conditions.{HasNoCondition, IsCondition, ReadsCondition, limit, opens_few}
use Rattle.sql_parse.specs.descent.Answers.{condition}
use Rattle.sql_parse.proofs.Exact.{some_is, given, guard}
use Rattle.sql_parse.proofs.ExpressionLaws.{cond_exact, inside_exact}
use Rattle.sql_parse.proofs.Depth.{at_limit}

whole_is : (o : Option (Expr × List Kind)) (x : Expr) → read.whole o ≡ Some x → o ≡ Some (x, [])
whole_is None x h = absurd cc
whole_is (Some (y, [])) x h = ap (λ (z : Expr). given (z, [])) (some_is y x h)
whole_is (Some (y, t ∷ ts)) x h = absurd cc

pub condition_is : (ts : List Kind) (x : Expr) → condition ts ≡ Some x → IsCondition ts x
condition_is ts x h =
    let t = guard (opens_few 0 ts) (read.whole (read.cond (read.inside limit) ts)) x h in
    record { few = t.0; depth = limit; derived = (cond_exact (Within limit) (read.inside limit) (inside_exact limit)).sound ts (x, []) (whole_is (read.cond (read.inside limit) ts) x t.1) }

pub condition_read : (ts : List Kind) (x : Expr) → IsCondition ts x → condition ts ≡ Some x
condition_read ts x c =
    rw (c.few, (cond_exact (Within limit) (read.inside limit) (inside_exact limit)).complete ts [] x (at_limit c.depth ts x c.derived c.few) (omega arith)) refl

pub no_condition : (ts : List Kind) → condition ts ≡ None → (x : Expr) → IsCondition ts x → ⊥
no_condition ts h x c = let read : condition ts ≡ Some x = condition_read ts x c in cc

one_reading : (ts : List Kind) (x y : Expr) → IsCondition ts x → IsCondition ts y → x ≡ y
one_reading ts x y c d = some_is x y (sym (condition_read ts x c) ∙ condition_read ts y d)

abbrev pub OneWay : List ℕ → Type 0
OneWay text = (ts us : List Token) → AreTokens text ts → AreTokens text us → ts ≡ us

-- what the one list of tokens is, the text is
pub condition_of_text : (text : List ℕ) (ts : List Token) (found : Result (Option Expr) Memory) → OneWay text → AreTokens text ts
    → IfOk found (λ f. MatchOption f ((x : Expr) → ¬ (IsCondition (kinds ts) x)) (λ x. IsCondition (kinds ts) x))
    → IfOk found (λ f. MatchOption f (HasNoCondition text) (ReadsCondition text))
condition_of_text text ts (Err e) one cut h = h
condition_of_text text ts (Ok None) one cut h =
    λ x r. h x (subst (λ (us : List Token). IsCondition (kinds us) x) (one r.tokens ts r.cut cut) r.condition)
condition_of_text text ts (Ok (Some x)) one cut h = record { tokens = ts; cut = cut; condition = h }

pub one_way : (text : List ℕ) (x y : Expr) → OneWay text → ReadsCondition text x → ReadsCondition text y → x ≡ y
one_way text x y one r s =
    one_reading (kinds s.tokens) x y (subst (λ (us : List Token). IsCondition (kinds us) x) (one r.tokens s.tokens r.cut s.cut) r.condition) s.condition
