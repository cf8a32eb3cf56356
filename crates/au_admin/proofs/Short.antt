-- Statements that are read have no more parts and no longer texts than the text that they are read from has bytes.
use Rattle.std.proofs.Common.{◌≡◌, ◌==◌, ◌+◌, ◌≤◌, ◌<◌, ℕ, Bool, true, false, List, [], ◌∷◌, ◌++◌, Option, Some, None, cond, find, length, subst, arith}
use Rattle.std.specs.Prelude.{⊤, IfSome, codes, option_map, if◌then◌else◌, unwrap_or}
use Rattle.std.specs.List.{AllByRecursion}
use Rattle.std.proofs.lemmas.List.{length-append}
use Rattle.au_admin.specs.Going.{IsTimely}
use Rattle.au_admin.specs.Names.{IsConditionShort, IsShort}
use Rattle.au_admin.proofs.Latest.{latest}
use Rattle.au_base.specs.Limits.{LAST_MOMENT, STATEMENT_BYTES}
use Rattle.au_base.specs.declared.action.Action.{Action}
use Rattle.au_base.specs.declared.privilege.Privilege.{Privilege}
use Rattle.au_base.specs.declared.table.TableReference.{TableReference}
use Rattle.au_calls.specs.Arguments.{given, same_parameter}
use Rattle.au_calls.specs.Written.{IsArgumentShort, IsValueShort}
use Rattle.sql_ast.specs.declared.administration.ActionPart.{ActionPart}
use Rattle.sql_ast.specs.declared.administration.PolicyCondition.{PolicyCondition}
use Rattle.sql_ast.specs.declared.call.Argument.{Argument}
use Rattle.sql_ast.specs.declared.call.Call.{Call as AnyCall}
use Rattle.sql_ast.specs.declared.call.Parameter.{Parameter}
use Rattle.sql_ast.specs.declared.call.Parameter.TheVariants.{LastArchiveTime}
use Rattle.sql_ast.specs.declared.call.Value.{Value}
use Rattle.sql_ast.specs.declared.call.Value.TheVariants as value
use Rattle.sql_ast.specs.declared.expression.Expr.{Expr}
use Rattle.sql_ast.specs.declared.statement.Statement.{Statement}
use Rattle.sql_ast.specs.declared.statement.Statement.TheVariants as statement
use Rattle.sql_lex.specs.declared.token.Kind.{Kind}
use Rattle.sql_lex.specs.declared.token.Kind.TheVariants as kind
use Rattle.sql_lex.specs.declared.token.Mark.{Mark}
use Rattle.sql_lex.specs.declared.token.Mark.TheVariants as marks
use Rattle.sql_lex.specs.declared.token.Token.{Token}
use Rattle.sql_lex.specs.Tokens as lex
use Rattle.sql_lex.specs.Tokens.{AreTokens, LeadsTo, Spells, doubled}
use Rattle.sql_parse.specs.AuditStatements as audits
use Rattle.sql_parse.specs.CallStatements as calls
use Rattle.sql_parse.specs.PolicyStatements as policies
use Rattle.sql_parse.specs.Privileges as privileges
use Rattle.sql_parse.specs.RightsStatements as rights
use Rattle.sql_parse.specs.RowStatements as rows
use Rattle.sql_parse.specs.Rules as rules
use Rattle.sql_parse.specs.Rules.{After, Many, Optional, Parted, after}
use Rattle.sql_parse.specs.Statements as all
use Rattle.sql_parse.specs.Statements.{IsStatement, Reads}
use Rattle.sql_parse.specs.Symbols.{comma, kinds}
use Rattle.sql_parse.specs.Tables as tables
use Rattle.sql_parse.specs.Tables.{Name}
use Rattle.sql_parse.specs.TableStatements as definitions
use Rattle.sql_parse.specs.UserStatements as users

-- what has to be so of a statement: it is short, and its moments aren't over the last one
abbrev IsSound : Statement → Type 0
IsSound x = IsShort x × IsTimely x

-- ---- tokens

-- a literal has at most so many bytes
abbrev IsKindShort : ℕ → Kind → Type 0
IsKindShort most (kind.Word word) = ⊤
IsKindShort most (kind.Quoted name) = ⊤
IsKindShort most (kind.Number number) = ⊤
IsKindShort most (kind.Text text) = length text ≤ most
IsKindShort most (kind.Mark mark) = ⊤

abbrev AreShort : ℕ → List Kind → Type 0
AreShort most ks = AllByRecursion (IsKindShort most) ks

mark_some : (m : Mark) → 0 < length (lex.spelling m)
mark_some marks.OpenParenthesis = omega arith
mark_some marks.CloseParenthesis = omega arith
mark_some marks.Comma = omega arith
mark_some marks.Period = omega arith
mark_some marks.Semicolon = omega arith
mark_some marks.Asterisk = omega arith
mark_some marks.Plus = omega arith
mark_some marks.Minus = omega arith
mark_some marks.Equal = omega arith
mark_some marks.Less = omega arith
mark_some marks.Greater = omega arith
mark_some marks.LessGreater = omega arith
mark_some marks.NotEqual = omega arith
mark_some marks.LessEqual = omega arith
mark_some marks.GreaterEqual = omega arith
mark_some marks.Arrow = omega arith

token_some : (text behind : List ℕ) (k : Kind) → Spells text behind k → 0 < length text
token_some [] behind k (lex.word first run short) = absurd cc
token_some (b ∷ text) behind k (lex.word first run short) = omega arith
token_some text behind k (lex.quoted_name all is) = omega arith
token_some [] behind k (lex.number first run stops small) = absurd cc
token_some (b ∷ text) behind k (lex.number first run stops small) = omega arith
token_some text behind k (lex.text_literal stops u) = omega arith
token_some text behind k (lex.longest_mark {m = m} h) = mark_some m

doubled_at : (b : ℕ) (rest more : List ℕ) (quote : Bool) → length rest ≤ length more → length (b ∷ rest) ≤ length (if quote then 39 ∷ 39 ∷ more else b ∷ more)
doubled_at b rest more true le = omega (arith, le)
doubled_at b rest more false le = omega (arith, le)

doubled_long : (text : List ℕ) → length text ≤ length (doubled text)
doubled_long [] = omega arith
doubled_long (b ∷ text) = doubled_at b text (doubled text) (b == 39) (doubled_long text)

literal_short : (most : ℕ) (text : List ℕ) → length (codes "'" ++ (doubled text ++ codes "'")) ≤ most → length text ≤ most
literal_short most text within =
    let long = length-append (doubled text) (codes "'") in let doubles = doubled_long text in omega (arith, within, long, doubles)

kind_short : (most : ℕ) (text behind : List ℕ) (k : Kind) → Spells text behind k → length text ≤ most → IsKindShort most k
kind_short most text behind k (lex.word first run short) within = tt
kind_short most text behind k (lex.quoted_name each is) within = tt
kind_short most text behind k (lex.number first run stops small) within = tt
kind_short most text behind k (lex.text_literal {text = literal} stops utf8) within = literal_short most literal within
kind_short most text behind k (lex.longest_mark stops) within = tt

-- there are no more tokens than bytes, and no literal is longer
tokens_short : (most at : ℕ) (bytes : List ℕ) (ts : List Token) (place : ℕ) (rest : List ℕ) → LeadsTo at bytes ts place rest → length bytes ≤ most → (length (kinds ts) ≤ length bytes) × AreShort most (kinds ts)
tokens_short most at bytes ts place rest lex.here within = (omega arith, tt)
tokens_short most at bytes ts place rest (lex.past_gap {text = text} {behind = behind} gap leads) within =
    let long = length-append text behind in
    let later = tokens_short most (at + length text) behind ts place rest leads (omega (arith, within, long)) in
    let count = later.0 in
    (omega (arith, long, count), later.1)
tokens_short most at bytes ts place rest (lex.past_token {text = text} {behind = behind} {token = token} {tokens = tokens} none spells from to leads) within =
    let long = length-append text behind in
    let some = token_some text behind token.kind spells in
    let later = tokens_short most token.to behind tokens place rest leads (omega (arith, within, long)) in
    let count = later.0 in
    (omega (arith, long, some, count), (kind_short most text behind token.kind spells (omega (arith, within, long)), later.1))

-- ---- what stands behind a rule

-- there are no more tokens behind than from the place on, and no longer literals
record Behind (i o : List Kind) : Type 0 where
  pub fewer : length o ≤ length i
  pub short : (most : ℕ) → AreShort most i → AreShort most o

itself : (o : List Kind) → Behind o o
itself o = record { fewer = omega arith; short = λ most each. each }

past : (k : Kind) (o : List Kind) → Behind (k ∷ o) o
past k o = record { fewer = omega arith; short = λ most each. each.1 }

join : (i m o : List Kind) → Behind i m → Behind m o → Behind i o
join i m o one two = let first = one.fewer in let second = two.fewer in record { fewer = omega (arith, first, second); short = λ most each. two.short most (one.short most each) }

past_all : (front o : List Kind) → Behind (front ++ o) o
past_all [] o = itself o
past_all (k ∷ front) o = join (k ∷ (front ++ o)) (front ++ o) o (past k (front ++ o)) (past_all front o)

of_name : (i o : List Kind) (n : List ℕ) → Name i n o → Behind i o
of_name i o n (tables.name {k = k} is) = past k o

-- a name, and the token behind it
of_name_and : (k : Kind) (i o : List Kind) (n : List ℕ) → Name i n (k ∷ o) → Behind i o
of_name_and k i o n called = join i (k ∷ o) o (of_name i (k ∷ o) n called) (past k o)

of_qualified : (i o : List Kind) (q : Option (List ℕ) × List ℕ) → tables.Qualified i q o → Behind i o
of_qualified i o q (tables.bare called) = of_name i o _ called
of_qualified i o q (tables.qualified {m = m} owner called) = join i m o (of_name_and _ i m _ owner) (of_name m o _ called)

of_table : (i o : List Kind) (t : TableReference) → tables.Table i t o → Behind i o
of_table i o t (tables.table {q = q} called) = of_qualified i o q called

of_privilege : (i o : List Kind) (p : Privilege) → privileges.IsPrivilege i p o → Behind i o
of_privilege i o p privileges.privilege = past_all (privileges.tokens_of (privileges.words_of p)) o

of_table_action : (i o : List Kind) (a : Action) → policies.IsTableAction i a o → Behind i o
of_table_action i o a policies.all = past _ o
of_table_action i o a policies.select = past _ o
of_table_action i o a policies.insert = past _ o
of_table_action i o a policies.update = past _ o
of_table_action i o a policies.delete = past _ o

of_action : (i o : List Kind) (a : Action) → policies.IsAction i a o → Behind i o
of_action i o a policies.action = past_all (privileges.tokens_of (policies.words_of_action a)) o

of_part : (i o : List Kind) (part : ActionPart) → policies.IsPart i part o → Behind i o
of_part i o part (policies.anywhere done) = of_action i o _ done
of_part i o part (policies.on_table {j = j} done place) = join i (kind.Word (codes "ON") ∷ j) o (of_table_action i _ _ done) (join _ j o (past _ j) (of_table j o _ place))

-- ---- lists

module _ {A : Type 0} (k : Kind) (Item : List Kind → A → List Kind → Type 0) (each : (i o : List Kind) (x : A) → Item i x o → Behind i o) where
  of_many : (i o : List Kind) (xs : List A) → Many (After k Item) i xs o → (length xs + length o ≤ length i) × ((most : ℕ) → AreShort most i → AreShort most o)
  of_many i o xs rules.none = (omega arith, λ most short. short)
  of_many i o xs (rules.more {m = m} {x = x} {xs = others} (after {i = j} first) rest) =
      let one = each j m x first in
      let more = of_many m o others rest in
      let count = one.fewer in
      let counts = more.0 in
      (omega (arith, count, counts), λ most short. more.1 most (one.short most short.1))

  -- items between tokens are no more than the tokens
  of_parted : (i o : List Kind) (xs : List A) → Parted k Item i xs o → (length xs + length o ≤ length i + 1) × Behind i o
  of_parted i o xs (rules.parted {m = m} {x = x} {xs = others} first rest) =
      let one = each i m x first in
      let more = of_many m o others rest in
      let count = one.fewer in
      let counts = more.0 in
      (omega (arith, count, counts), record { fewer = omega (arith, count, counts); short = λ most short. more.1 most (one.short most short) })

  -- so are those behind a word that may be there
  of_optional : (w : Kind) (i o : List Kind) (xs : Option (List A)) → Optional (After w (Parted k Item)) i xs o → (length (unwrap_or xs []) ≤ length i) × Behind i o
  of_optional w i o xs rules.absent = (omega arith, itself o)
  of_optional w i o xs (rules.present {x = list} (after {i = j} listed)) =
      let parts = of_parted j o list listed in
      let count = parts.0 in
      (omega (arith, count), join i j o (past w j) parts.1)

-- ---- CREATE AUDIT POLICY

-- a condition's text has at most so many bytes
abbrev IsConditionWithin : ℕ → Option PolicyCondition → Type 0
IsConditionWithin most None = ⊤
IsConditionWithin most (Some condition) = length condition.text ≤ most

of_condition : (w : Kind) (most : ℕ) (i o : List Kind) (condition : Option PolicyCondition) → Optional (After w policies.IsPolicyCondition) i condition o → AreShort most i → IsConditionWithin most condition
of_condition w most i o condition rules.absent short = tt
of_condition w most i o condition (rules.present (after (policies.evaluated often))) short = short.1.0

condition_short : (most : ℕ) (condition : Option PolicyCondition) → most ≤ STATEMENT_BYTES → IsConditionWithin most condition → IsConditionShort condition
condition_short most None few within = tt
condition_short most (Some condition) few within = omega (arith, few, within)

of_policy : (most : ℕ) (i o : List Kind) (x : Statement) → most ≤ STATEMENT_BYTES → length i ≤ most → AreShort most i → policies.PolicyStatement i x o → IsSound x
of_policy most i o x few long short (policies.creates {i = behind} {j = j} {m = m} {n = n} {q = q} {p = p} {ps = ps} {parts = parts} {rs = rs} {c = c} called granted acted listed condition some) =
    let one = of_name behind j p called in
    let two = of_optional comma privileges.IsPrivilege of_privilege _ j m ps granted in
    let three = of_optional comma policies.IsPart of_part _ m n parts acted in
    let four = of_optional comma Name of_name _ n q rs listed in
    let first = one.fewer in
    let second = two.1.fewer in
    let third = three.1.fewer in
    let actions = three.0 in
    let roles = four.0 in (
      (
        omega (arith, few, long, first, second, actions),
        omega (arith, few, long, first, second, third, roles),
        condition_short most c few (of_condition _ most q o c condition (four.1.short most (three.1.short most (two.1.short most (one.short most short.1.1.1))))),
      ),
      tt,
    )

-- ---- calls

-- a literal has at most so many bytes, and a moment isn't over the last one
abbrev IsValueGood : ℕ → Value → Type 0
IsValueGood most (value.Literal text) = length text ≤ most
IsValueGood most (value.Number number) = ⊤
IsValueGood most value.Null = ⊤
IsValueGood most value.True = ⊤
IsValueGood most value.False = ⊤
IsValueGood most (value.Constant home name) = ⊤
IsValueGood most value.Now = ⊤
IsValueGood most (value.Moment moment) = moment ≤ LAST_MOMENT

of_value : (i o : List Kind) (v : Value) → calls.IsValue i v o → Behind i o × ((most : ℕ) → AreShort most i → IsValueGood most v)
of_value i o v calls.literal = (past _ o, λ most short. short.0)
of_value i o v calls.number = (past _ o, λ most short. tt)
of_value i o v calls.null = (past _ o, λ most short. tt)
of_value i o v calls.true_ = (past _ o, λ most short. tt)
of_value i o v calls.false_ = (past _ o, λ most short. tt)
of_value i o v (calls.constant {m = m} home called) = (join i m o (of_name_and _ i m _ home) (of_name m o _ called), λ most short. tt)
of_value i o v calls.now = (past _ o, λ most short. tt)
of_value i o v (calls.moment {t = t} {m = m} tells) = (join i (kind.Text t ∷ o) o (past _ (kind.Text t ∷ o)) (past (kind.Text t) o), λ most short. latest t m tells)

of_argument : (i o : List Kind) (one : Argument) → calls.IsArgument i one o → Behind i o × ((most : ℕ) → AreShort most i → IsValueGood most one.value)
of_argument i o one (calls.argument {m = m} {v = v} called given) =
    let name = of_name_and _ i m _ called in
    let value = of_value m o v given in
    (join i m o name value.0, λ most short. value.1 most (name.short most short))

-- so of each argument
abbrev AreGood : ℕ → List Argument → Type 0
AreGood most arguments = AllByRecursion (λ (one : Argument). IsValueGood most one.value) arguments

of_others : (most : ℕ) (i o : List Kind) (arguments : List Argument) → Many (After comma calls.IsArgument) i arguments o → AreShort most i → AreGood most arguments
of_others most i o arguments rules.none short = tt
of_others most i o arguments (rules.more {m = m} {x = one} {xs = others} (after {i = j} first) rest) short =
    let read = of_argument j m one first in (read.1 most short.1, of_others most m o others rest (read.0.short most short.1))

of_arguments : (most : ℕ) (i o : List Kind) (arguments : List Argument) → Parted comma calls.IsArgument i arguments o → AreShort most i → AreGood most arguments
of_arguments most i o arguments (rules.parted {m = m} {x = one} {xs = others} first rest) short =
    let read = of_argument i m one first in (read.1 most short, of_others most m o others rest (read.0.short most short))

of_owner : (i o : List Kind) → calls.Owner i o → Behind i o
of_owner i o calls.unqualified = itself o
of_owner i o calls.sys = join i _ o (past _ _) (past _ o)

value_short : (most : ℕ) (v : Value) → most ≤ STATEMENT_BYTES → IsValueGood most v → IsValueShort v
value_short most (value.Literal text) few good = omega (arith, few, good)
value_short most (value.Number number) few good = tt
value_short most value.Null few good = tt
value_short most value.True few good = tt
value_short most value.False few good = tt
value_short most (value.Constant home name) few good = tt
value_short most value.Now few good = tt
value_short most (value.Moment moment) few good = tt

all_short : (most : ℕ) (arguments : List Argument) → most ≤ STATEMENT_BYTES → AreGood most arguments → AllByRecursion IsArgumentShort arguments
all_short most [] few good = tt
all_short most (one ∷ arguments) few good = (value_short most one.value few good.0, all_short most arguments few good.1)

moment_early : (most : ℕ) (found : Option Value) (moment : ℕ) → IfSome found (IsValueGood most) → found ≡ Some (value.Moment moment) → moment ≤ LAST_MOMENT
moment_early most found moment good is = subst (λ (f : Option Value). IfSome f (IsValueGood most)) is good

found_at : (P : Argument → Type 0) (one : Argument) (later : Option Argument) (b : Bool) → P one → IfSome later P → IfSome (cond b (Some one) later) P
found_at P one later true here more = here
found_at P one later false here more = more

found_in : (P : Argument → Type 0) (test : Argument → Bool) (arguments : List Argument) → AllByRecursion P arguments → IfSome (find test arguments) P
found_in P test [] all = tt
found_in P test (one ∷ arguments) all = found_at P one (find test arguments) (test one) all.0 (found_in P test arguments all.1)

valued : (P : Value → Type 0) (found : Option Argument) → IfSome found (λ argument. P argument.value) → IfSome (option_map (λ argument. argument.value) found) P
valued P None is = tt
valued P (Some argument) is = is

-- what holds of all that is given holds of what a parameter is given
given_so : (P : Value → Type 0) (arguments : List Argument) (parameter : Parameter) → AllByRecursion (λ argument. P argument.value) arguments → IfSome (given arguments parameter) P
given_so P arguments parameter all =
    valued P (find (λ argument. same_parameter argument.parameter parameter) arguments)
    (found_in (λ argument. P argument.value) (λ argument. same_parameter argument.parameter parameter) arguments all)

of_call : (most : ℕ) (i o : List Kind) (call : AnyCall) → most ≤ STATEMENT_BYTES → AreShort most i → calls.IsCall i call o → IsSound (statement.Call call)
of_call most front o call few short (calls.calls {j = j} {m = m} {n = n} {given = arguments} owner home called listed taken) =
    let before = join front j n (of_owner front j owner) (join j m n (of_name_and _ j m _ home) (of_name_and _ m n _ called)) in
    let good = of_arguments most n _ arguments listed (before.short most short) in
    (all_short most arguments few good, λ moment is. moment_early most (given arguments LastArchiveTime) moment (given_so (IsValueGood most) arguments LastArchiveTime good) is)

of_call_statement : (most : ℕ) (i o : List Kind) (x : Statement) → most ≤ STATEMENT_BYTES → AreShort most i → calls.CallStatement i x o → IsSound x
of_call_statement most i o x few short (calls.block {i = j} {x = call} a) = of_call most j _ call few short.1 a
of_call_statement most i o x few short (calls.calls {i = j} {x = call} a) = of_call most j o call few short.1 a

-- ---- the other statements

of_rows : (Inner : List Kind → Expr → List Kind → Type 0) (i o : List Kind) (x : Statement) → rows.RowStatement Inner i x o → IsSound x
of_rows Inner i o x (rows.selects a) = (tt, tt)
of_rows Inner i o x (rows.counts a) = (tt, tt)
of_rows Inner i o x (rows.inserts a) = (tt, tt)
of_rows Inner i o x (rows.updates a) = (tt, tt)
of_rows Inner i o x (rows.deletes a) = (tt, tt)
of_rows Inner i o x (rows.commits a) = (tt, tt)
of_rows Inner i o x (rows.rolls_back a) = (tt, tt)

of_definition : (i o : List Kind) (x : Statement) → definitions.TableStatement i x o → IsSound x
of_definition i o x (definitions.creates called elements column) = (tt, tt)

of_user : (text : List ℕ) (ts o : List Token) (x : Statement) → users.UserStatement text ts x o → IsSound x
of_user text ts o x (users.creates a b c d e p) = (tt, tt)
of_user text ts o x (users.alters a b c d e p) = (tt, tt)

of_rights : (i o : List Kind) (x : Statement) → rights.RightsStatement i x o → IsSound x
of_rights i o x (rights.drops_table a) = (tt, tt)
of_rights i o x (rights.drops_user a) = (tt, tt)
of_rights i o x (rights.creates_role a) = (tt, tt)
of_rights i o x (rights.drops_role a) = (tt, tt)
of_rights i o x (rights.grants a) = (tt, tt)

of_audit : (i o : List Kind) (x : Statement) → audits.AuditStatement i x o → IsSound x
of_audit i o x (audits.audits a b c) = (tt, tt)
of_audit i o x (audits.stops_auditing a b) = (tt, tt)
of_audit i o x (audits.drops a) = (tt, tt)

-- ---- all statements

of_statement : (most : ℕ) (text : List ℕ) (ts : List Token) (x : Statement) → most ≤ STATEMENT_BYTES → length (kinds ts) ≤ most → AreShort most (kinds ts) → IsStatement text ts x → IsSound x
of_statement most text ts x few long short (all.rows s) = of_rows _ _ s.behind x s.derived
of_statement most text ts x few long short (all.table s) = of_definition _ s.behind x s.derived
of_statement most text ts x few long short (all.user s) = of_user text ts s.behind x s.derived
of_statement most text ts x few long short (all.rights s) = of_rights _ s.behind x s.derived
of_statement most text ts x few long short (all.policy s) = of_policy most (kinds ts) s.behind x few long short s.derived
of_statement most text ts x few long short (all.audit s) = of_audit _ s.behind x s.derived
of_statement most text ts x few long short (all.call s) = of_call_statement most (kinds ts) s.behind x few short s.derived

sound : (text : List ℕ) (x : Statement) → Reads text x → IsSound x
sound text x reads =
    let tokens = tokens_short (length text) 0 text reads.tokens (length text) [] reads.cut (omega arith) in
    of_statement (length text) text reads.tokens x reads.short tokens.0 tokens.1 reads.statement

pub short : (text : List ℕ) (x : Statement) → Reads text x → IsShort x
short text x reads = (sound text x reads).0

pub timely : (text : List ℕ) (x : Statement) → Reads text x → IsTimely x
timely text x reads = (sound text x reads).1
