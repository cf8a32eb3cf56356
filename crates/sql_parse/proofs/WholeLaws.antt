-- A whole statement is what its reader gives, where the reader gives what the rule derives.
use Rattle.std.proofs.Common.{◌≡◌, ℕ, true, cond, Bool, false, List, [], ◌∷◌, Option, Some, None, refl, sym, ap, subst, ◌∙◌}
use Rattle.std.specs.Prelude.{Result, Ok, Err, IfOk}
use Rattle.au_base.specs.declared.memory.Memory.{Memory}
use Rattle.sql_lex.specs.declared.token.Kind.{Kind}
use Rattle.sql_ast.specs.declared.statement.Statement.{Statement}
use Rattle.sql_parse.specs.declared.stop.Stop.{Stop}
use Rattle.sql_parse.specs.declared.stop.Stop.TheVariants as stop
use Rattle.sql_parse.specs.Symbols.{sees, semicolon}
use Rattle.sql_parse.specs.Rules.{Maybe, without, written}
use Rattle.sql_parse.specs.Conditions.{opens_few}
use Rattle.sql_parse.specs.Whole.{Finds, Whole}
use Rattle.sql_parse.specs.descent.Reading.{Gives, whole}
use Rattle.sql_parse.specs.descent.ReadStatements.{past_end}
use Rattle.sql_parse.specs.descent.Ending.{ended, Ends}
use Rattle.sql_parse.proofs.Exact.{some_is, sees_is}
use Rattle.sql_parse.proofs.Follow.{OneOf, LAST}

last : {A : Type 0} (r : List Kind) (x y : A) → whole (past_end (Some (x, r))) ≡ Some y → Maybe semicolon r [] × (x ≡ y)
last [] x y h = (without, some_is x y h)
last (t ∷ r) x y h = go (sees semicolon (t ∷ r)) refl r refl h
  where
    go : (b : Bool) → sees semicolon (t ∷ r) ≡ b → (s : List Kind) → r ≡ s → whole (Some (x, cond b s (t ∷ s))) ≡ Some y → Maybe semicolon (t ∷ r) [] × (x ≡ y)
    go true e [] same h = (subst (λ (o : List Kind). Maybe semicolon o []) (sym (sees_is semicolon (t ∷ r) e ∙ ap (λ (o : List Kind). semicolon ∷ o) same)) written, some_is x y h)
    go true e (u ∷ s) same h = absurd cc
    go false e s same h = absurd cc

ends_last : (ks : List Kind) → Maybe semicolon ks [] → OneOf LAST ks
ends_last ks without = tt
ends_last ks written = refl

ends_read : (ks : List Kind) (x : Statement) → Maybe semicolon ks [] → whole (past_end (Some (x, ks))) ≡ Some x
ends_read ks x without = refl
ends_read ks x written = refl

-- what the code's end makes of what was read is what reading gives
pub ended_gives : {T X : Type 0} (seen : List T → List Kind) (view : X → Statement × List T) (r : Result X Stop) (read : Option (Statement × List T)) (found : Result (Option Statement) Memory)
    → Gives view r read → Ends (λ x. ((view x).0, seen (view x).1)) r found → IfOk found (λ f. f ≡ ended seen read)
ended_gives seen view (Ok x) read (Ok f) gives ends = cc
ended_gives seen view (Ok x) read (Err e) gives ends = tt
ended_gives seen view (Err stop.Unread) read (Ok f) gives ends = cc
ended_gives seen view (Err stop.Unread) read (Err e) gives ends = tt
ended_gives seen view (Err stop.Memory) read (Ok f) gives ends = absurd cc
ended_gives seen view (Err stop.Memory) read (Err e) gives ends = tt

-- The reader gives what the rule derives, where the statement ends.
pub record Reads {T : Type 0} (seen : List T → List Kind) (Rule : ℕ → List T → Statement → List T → Type 0) (read : List T → Option (Statement × List T)) : Type 0 where
  pub sound : (i : List T) (y : Statement × List T) → read i ≡ Some y → (depth : ℕ) × Rule depth i y.0 y.1
  pub complete : (depth : ℕ) (i o : List T) (x : Statement) → opens_few 0 (seen i) ≡ true → Rule depth i x o → OneOf LAST (seen o) → read i ≡ Some (x, o)

module _ {T : Type 0} (seen : List T → List Kind) (Rule : ℕ → List T → Statement → List T → Type 0) (read : List T → Option (Statement × List T)) (r : Reads seen Rule read) where
  pub whole_is : (ts : List T) (x : Statement) → opens_few 0 (seen ts) ≡ true → ended seen (read ts) ≡ Some x → Whole seen Rule ts x
  whole_is ts x few h = go (read ts) refl h
    where
      go : (o : Option (Statement × List T)) → read ts ≡ o → ended seen o ≡ Some x → Whole seen Rule ts x
      go None e w = absurd cc
      go (Some y) e w =
          let l = last (seen y.1) y.0 x w in
          let d = r.sound ts y e in
          record { few = few; depth = d.0; behind = y.1; derived = subst (λ (z : Statement). Rule d.0 ts z y.1) l.1 d.1; ends = l.0 }

  pub whole_read : (ts : List T) (x : Statement) → Whole seen Rule ts x → ended seen (read ts) ≡ Some x
  whole_read ts x w =
      ap (ended seen) (r.complete w.depth ts w.behind x w.few w.derived (ends_last (seen w.behind) w.ends)) ∙ ends_read (seen w.behind) x w.ends

  pub one_whole : (ts : List T) (x y : Statement) → Whole seen Rule ts x → Whole seen Rule ts y → x ≡ y
  one_whole ts x y v w = some_is x y (sym (whole_read ts x v) ∙ whole_read ts y w)

  -- what was found of tokens that open few parentheses is what they are
  pub whole_found : (ts : List T) (found : Result (Option Statement) Memory) → IfOk found (λ f. f ≡ ended seen (read ts)) → opens_few 0 (seen ts) ≡ true → Finds (Whole seen Rule ts) found
  whole_found ts (Err e) h few = tt
  whole_found ts (Ok None) h few = λ x w. let is : ended seen (read ts) ≡ Some x = whole_read ts x w in cc
  whole_found ts (Ok (Some x)) h few = whole_is ts x few (sym h)

  pub none_opens_many : (ts : List T) → opens_few 0 (seen ts) ≡ false → (x : Statement) → ¬ (Whole seen Rule ts x)
  none_opens_many ts many x w = let few = w.few in cc
