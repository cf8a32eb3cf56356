-- The tree of a text is the condition that the text is.
use Rattle.std.proofs.Common.{◌≡◌, ℕ, List, Option, Some, None, refl, sym, ap}
use Rattle.std.specs.Prelude.{◌↔◌, Result, Ok, Err, IfOk, MatchOption}
use Rattle.au_base.specs.declared.memory.Memory.{Memory}
use Rattle.sql_lex.specs.declared.token.Token.{Token}
use Rattle.sql_lex.specs.Tokens.{AreTokens}
use Rattle.sql_lex.specs.descent.Cutting.{tokens_of}
use Rattle.sql_ast.specs.declared.expression.Expr.{Expr}
use Rattle.sql_parse.specs.Symbols.{kinds}
use Rattle.sql_parse.specs.Conditions.{HasNoCondition, ReadsCondition}
use Rattle.sql_parse.specs.descent.Answers.{condition}
use Rattle.sql_parse.specs.Trees.{or_null, tree_of, tree_or_null}
use Rattle.sql_parse.proofs.Exact.{bind_some}
use Rattle.sql_parse.proofs.ConditionLaws.{condition_is, condition_read}

-- what is known of tokens below
abbrev pub AsTold : Type 0
AsTold = (text : List ℕ) (ts : List Token) → (tokens_of text ≡ Some ts) ↔ AreTokens text ts

pub tree_is : AsTold → (text : List ℕ) (x : Expr) → tree_of text ≡ Some x → ReadsCondition text x
unfolding tree_of
tree_is told text x h =
    let b = bind_some (tokens_of text) (λ ts. condition (kinds ts)) x h in
    record { tokens = b.0; cut = (told text b.0).0 b.1; condition = condition_is (kinds b.0) x b.2 }

pub tree_read : AsTold → (text : List ℕ) (x : Expr) → ReadsCondition text x → tree_of text ≡ Some x
unfolding tree_of
tree_read told text x r = rw ((told text r.tokens).1 r.cut) (condition_read (kinds r.tokens) x r.condition)

pub some_tree : AsTold → (text : List ℕ) (x : Expr) → (tree_of text ≡ Some x) ↔ ReadsCondition text x
some_tree told text x = (tree_is told text x, tree_read told text x)

no_tree : AsTold → (text : List ℕ) → HasNoCondition text → tree_of text ≡ None
no_tree told text none = go (tree_of text) refl
  where
    go : (o : Option Expr) → tree_of text ≡ o → o ≡ None
    go None e = refl
    go (Some x) e = absurd (none x (tree_is told text x e))

pub none_tree : AsTold → (text : List ℕ) → (tree_of text ≡ None) ↔ HasNoCondition text
none_tree told text = (λ h x r. let found = tree_read told text x r in absurd cc, no_tree told text)

pub tree_given : AsTold → (text : List ℕ) (x : Expr) → ReadsCondition text x → tree_or_null text ≡ x
tree_given told text x r = ap or_null (tree_read told text x r)

-- what is found of a text is its tree
pub found_tree : (text : List ℕ) (found : Result (Option Expr) Memory)
    → ((x : Expr) → (tree_of text ≡ Some x) ↔ ReadsCondition text x) → ((tree_of text ≡ None) ↔ HasNoCondition text)
    → IfOk found (λ f. MatchOption f (HasNoCondition text) (ReadsCondition text)) → IfOk found (λ f. f ≡ tree_of text)
found_tree text (Err e) some none h = h
found_tree text (Ok None) some none h = sym (none.1 h)
found_tree text (Ok (Some x)) some none h = sym ((some x).1 h)
