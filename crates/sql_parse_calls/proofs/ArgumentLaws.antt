-- Each reader of arguments reads exactly its rule.
use Rattle.std.proofs.Common.{◌≡◌, ℕ, ◌<◌, true, List, [], ◌∷◌, length, Some, refl, sym, ap, subst, ◌∙◌, arith, inl, inr}
use Rattle.std.specs.Prelude.{codes}
use Rattle.sql_lex.specs.declared.token.Kind.{Kind}
use Rattle.sql_lex.specs.declared.token.Kind.TheVariants.{Word, Quoted, Number, Text, Mark}
use Rattle.sql_lex.specs.declared.token.Mark.TheVariants as mark
use Rattle.sql_ast.specs.declared.call.Argument.{Argument}
use Rattle.sql_ast.specs.declared.call.Value.{Value}
use Rattle.sql_ast.specs.declared.call.Value.TheVariants as values
use Rattle.sql_parse.specs.Symbols.{sees, comma, dot, is_reserved}
use Rattle.sql_parse.specs.Rules.{Parted}
use Rattle.sql_parse.specs.Expressions.{IsName, quoted, word}
use Rattle.sql_parse.specs.Tables.{Name, name}
use Rattle.sql_parse.specs.descent.Reading as read
use Rattle.sql_parse.specs.descent.Reading.{◌>>=◌, under, behind, expect}
use Rattle.sql_parse.specs.descent.MomentReading.{moment_read}
use Rattle.sql_parse.proofs.MomentLaws.{moment_sound, moment_complete}
use Rattle.sql_parse.proofs.Exact.{bind_some, under_some, some_is, chosen, sees_is, expect_is, Exact, parted_exact}
use Rattle.sql_parse.proofs.Follow.{Anywhere}
use Rattle.sql_parse.proofs.TableLaws.{name_unseen, NoComma}
use Rattle.sql_parse.specs.CallStatements as g
use Rattle.sql_parse_calls.specs.descent.ReadCalls as calls
use Rattle.sql_parse_calls.proofs.ProcedureLaws.{dotted_sound, dotted_complete, parameter_exact}

abbrev TIMESTAMP : Kind
TIMESTAMP = Word (codes "TIMESTAMP")

-- ---- values

literal_sound : (i : List Kind) (y : List ℕ × List Kind) → read.literal i ≡ Some y → i ≡ Text y.0 ∷ y.1
unfolding read.literal
literal_sound [] y h = absurd cc
literal_sound (Text t ∷ o) y h = ap (λ (z : List ℕ × List Kind). Text z.0 ∷ z.1) (some_is (t, o) y h)
literal_sound (Word w ∷ o) y h = absurd cc
literal_sound (Quoted w ∷ o) y h = absurd cc
literal_sound (Number n ∷ o) y h = absurd cc
literal_sound (Mark m ∷ o) y h = absurd cc

moment_value : (i : List Kind) (y : Value × List Kind) → calls.moment i ≡ Some y → g.IsValue (TIMESTAMP ∷ i) y.0 y.1
unfolding calls.moment
moment_value i y h =
    let a = bind_some (read.literal i) (λ t. moment_read t.0 >>= λ m. Some (values.Moment m, t.1)) y h in
    let b = bind_some (moment_read a.0.0) (λ m. Some (values.Moment m, a.0.1)) y a.2 in
    subst (λ (z : Value × List Kind). g.IsValue (TIMESTAMP ∷ i) z.0 z.1) (some_is (values.Moment b.0, a.0.1) y b.2)
    (subst (λ (j : List Kind). g.IsValue (TIMESTAMP ∷ j) (values.Moment b.0) a.0.1) (sym (literal_sound i a.0 a.1)) (g.moment (moment_sound a.0.0 b.0 b.1)))

constant_value : (i : List Kind) (y : Value × List Kind) → calls.constant i ≡ Some y → g.IsValue i y.0 y.1
unfolding calls.constant
constant_value i y h =
    let u = under_some (λ (n : List ℕ × List ℕ). values.Constant n.0 n.1) (calls.dotted i) y h in
    let d = dotted_sound i u.0 u.1 in
    subst (λ (z : Value × List Kind). g.IsValue i z.0 z.1) u.2 (g.constant d.1 d.2)

worded_sound : (i : List Kind) (y : Value × List Kind) → calls.worded_value i ≡ Some y → g.IsValue i y.0 y.1
unfolding calls.worded_value
worded_sound i y h =
    elim (chosen (sees (Word (codes "NULL")) i) (Some (values.Null, behind i)) _ (Some y) h) [
      | inl t ↦ seen (codes "NULL") values.Null t.0 t.1 g.null
      | inr t ↦ elim (chosen (sees (Word (codes "TRUE")) i) (Some (values.True, behind i)) _ (Some y) t.1) [
        | inl t ↦ seen (codes "TRUE") values.True t.0 t.1 g.true_
        | inr t ↦ elim (chosen (sees (Word (codes "FALSE")) i) (Some (values.False, behind i)) _ (Some y) t.1) [
          | inl t ↦ seen (codes "FALSE") values.False t.0 t.1 g.false_
          | inr t ↦ elim (chosen (sees (Word (codes "SYSTIMESTAMP")) i) (Some (values.Now, behind i)) _ (Some y) t.1) [
            | inl t ↦ seen (codes "SYSTIMESTAMP") values.Now t.0 t.1 g.now
            | inr t ↦ elim (chosen (sees TIMESTAMP i) (calls.moment (behind i)) (calls.constant i) (Some y) t.1) [
              | inl t ↦ subst (λ (j : List Kind). g.IsValue j y.0 y.1) (sym (sees_is TIMESTAMP i t.0)) (moment_value (behind i) y t.1)
              | inr t ↦ constant_value i y t.1
            ]
          ]
        ]
      ]
    ]
  where
    seen : (w : List ℕ) (x : Value) → sees (Word w) i ≡ true → Some (x, behind i) ≡ Some y → g.IsValue (Word w ∷ behind i) x (behind i) → g.IsValue i y.0 y.1
    seen w x s same d =
        subst (λ (z : Value × List Kind). g.IsValue i z.0 z.1) (some_is (x, behind i) y same) (subst (λ (j : List Kind). g.IsValue j x (behind i)) (sym (sees_is (Word w) i s)) d)

-- no constant's package is one of the words that are values
constant_complete : (k : Kind) (m o : List Kind) (q c : List ℕ) → IsName k q → Name m c o → calls.worded_value (k ∷ dot ∷ m) ≡ Some (values.Constant q c, o)
unfolding calls.worded_value calls.constant is_reserved
constant_complete k m o q c d e =
    rw (
      name_unseen (codes "NULL") k q (dot ∷ m) refl d,
      name_unseen (codes "TRUE") k q (dot ∷ m) refl d,
      name_unseen (codes "FALSE") k q (dot ∷ m) refl d,
      name_unseen (codes "SYSTIMESTAMP") k q (dot ∷ m) refl d,
      name_unseen (codes "TIMESTAMP") k q (dot ∷ m) refl d,
      dotted_complete (k ∷ dot ∷ m) m o q c (name d) e,
    ) refl

value_of_name : (k : Kind) (n : List ℕ) (o : List Kind) → IsName k n → calls.value (k ∷ o) ≡ calls.worded_value (k ∷ o)
unfolding calls.value
value_of_name k n o quoted = refl
value_of_name k n o (word free) = refl

value_exact : Exact g.IsValue calls.value Anywhere
unfolding calls.value calls.worded_value calls.moment read.literal
value_exact = record { sound = sound; complete = complete; shorter = shorter }
  where
    sound : (i : List Kind) (y : Value × List Kind) → calls.value i ≡ Some y → g.IsValue i y.0 y.1
    sound [] y h = absurd cc
    sound (Number n ∷ o) y h = subst (λ (z : Value × List Kind). g.IsValue (Number n ∷ o) z.0 z.1) (some_is (values.Number n, o) y h) g.number
    sound (Text t ∷ o) y h = subst (λ (z : Value × List Kind). g.IsValue (Text t ∷ o) z.0 z.1) (some_is (values.Literal t, o) y h) g.literal
    sound (Word w ∷ o) y h = worded_sound (Word w ∷ o) y h
    sound (Quoted w ∷ o) y h = worded_sound (Quoted w ∷ o) y h
    sound (Mark m ∷ o) y h = worded_sound (Mark m ∷ o) y h

    complete : (i o : List Kind) (x : Value) → g.IsValue i x o → Anywhere o → calls.value i ≡ Some (x, o)
    complete i o x g.literal at = refl
    complete i o x g.number at = refl
    complete i o x g.null at = refl
    complete i o x g.true_ at = refl
    complete i o x g.false_ at = refl
    complete i o x (g.constant {m = m} {p = q} {c = c} (name {k = k} d) e) at = value_of_name k q (dot ∷ m) d ∙ constant_complete k m o q c d e
    complete i o x g.now at = refl
    complete i o x (g.moment {t = t} {m = m} d) at = rw (moment_complete t m d) refl

    shorter : (i o : List Kind) (x : Value) → g.IsValue i x o → length o < length i
    shorter i o x g.literal = omega arith
    shorter i o x g.number = omega arith
    shorter i o x g.null = omega arith
    shorter i o x g.true_ = omega arith
    shorter i o x g.false_ = omega arith
    shorter i o x (g.constant (name d) (name e)) = omega arith
    shorter i o x g.now = omega arith
    shorter i o x (g.moment d) = omega arith

-- ---- arguments

abbrev ARROW : Kind
ARROW = Mark mark.Arrow

argument_exact : Exact g.IsArgument calls.argument Anywhere
unfolding calls.argument
argument_exact = record { sound = sound; complete = complete; shorter = shorter }
  where
    sound : (i : List Kind) (y : Argument × List Kind) → calls.argument i ≡ Some y → g.IsArgument i y.0 y.1
    sound i y h =
        let a = bind_some (calls.parameter i) (λ p. expect ARROW p.1 >>= λ j. under (λ v. record { parameter = p.0; value = v }) (calls.value j)) y h in
        let b = bind_some (expect ARROW a.0.1) (λ j. under (λ v. record { parameter = a.0.0; value = v }) (calls.value j)) y a.2 in
        let u = under_some (λ (v : Value). record { parameter = a.0.0; value = v }) (calls.value b.0) y b.2 in
        let named : Name i (g.parameter_name a.0.0) (ARROW ∷ b.0) = subst (λ (o : List Kind). Name i (g.parameter_name a.0.0) o) (expect_is ARROW a.0.1 b.0 b.1) (parameter_exact.sound i a.0 a.1) in
        subst (λ (z : Argument × List Kind). g.IsArgument i z.0 z.1) u.2 (g.argument named (value_exact.sound b.0 u.0 u.1))

    complete : (i o : List Kind) (x : Argument) → g.IsArgument i x o → Anywhere o → calls.argument i ≡ Some (x, o)
    complete i o x (g.argument {m = m} {p = p} {v = v} d e) at = rw (parameter_exact.complete i (ARROW ∷ m) p d tt, value_exact.complete m o v e tt) refl

    shorter : (i o : List Kind) (x : Argument) → g.IsArgument i x o → length o < length i
    shorter i o x (g.argument {m = m} {p = p} {v = v} d e) = omega (arith, parameter_exact.shorter i (ARROW ∷ m) p d, value_exact.shorter m o v e)

pub arguments_exact : Exact (Parted comma g.IsArgument) calls.arguments NoComma
unfolding calls.arguments
arguments_exact = parted_exact comma g.IsArgument calls.argument Anywhere argument_exact refl (λ i. tt) NoComma (λ o at. tt) (λ o at. at)
