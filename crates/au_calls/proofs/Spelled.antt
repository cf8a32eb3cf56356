-- The changes of calls have a spelling.
use Rattle.std.proofs.Common.{◌≡◌, ◌==◌, ◌<◌, ◌≤◌, ◌+◌, ℕ, suc, Bool, true, false, ◌||◌, List, [], ◌∷◌, Option, Some, None, find, length, map, refl, ap, subst, cond, arith}
use Rattle.std.specs.Prelude.{⊤, IfSome, IsUtf8, codes, if◌then◌else◌, nat_le, option_map, unwrap_or}
use Rattle.std.specs.Cmp.Lexicographic.{nat_list_eq_equiv}
use Rattle.std.specs.List.{AllByRecursion, IsDistinct, list_all, list_any}
use Rattle.std.specs.Str.{bytes_eq}
use Rattle.std.proofs.lemmas.Bool.{and_from, and_parts, le-leb}
use Rattle.std.proofs.lemmas.List.Splits.{length-slice_split}
use Rattle.std.proofs.lemmas.List.Sums.{count_by-le-length}
use Rattle.au_calls.specs.declared.requests.FgaFlags.{FgaFlags}
use Rattle.au_calls.specs.declared.requests.FgaParts.{FgaParts}
use Rattle.au_calls.specs.Archiving.{moment_in}
use Rattle.au_calls.specs.Arguments.{given, same_parameter, truth_in}
use Rattle.au_calls.specs.Calling.{DecidesCall, IsCallTimely}
use Rattle.au_calls.specs.FineGrained.{flags_by, flags_of, has_handler, new_fga, parts_by, parts_of, target_by, target_of, with_enabled}
use Rattle.au_calls.specs.Literals.{column_of, columns_by, is_column, is_kind, is_name, is_word, kinds_by, kinds_named, name_in, name_of, option_in, owner_by, pieces, text_in, trimmed}
use Rattle.au_calls.specs.Once.{once}
use Rattle.au_calls.specs.Settings.{AuditSetting}
use Rattle.au_calls.specs.Written.{AreCallTexts, AreFgaSpelled, IsArgumentShort, IsArgumentText, IsCallShort, IsValueShort, IsValueText}
use Rattle.au_calls.proofs.Apart.{all_once, no_repeats, once_distinct, once_fewer}
use Rattle.au_calls.proofs.Made.{made}
use Rattle.au_calls.proofs.Members.{all_at}
use Rattle.au_calls.proofs.Naming.{to_name}
use Rattle.au_base.specs.Limits.{LAST_MOMENT, STATEMENT_BYTES}
use Rattle.au_base.specs.Naming.{IsName, identifier_of}
use Rattle.au_base.specs.declared.numbers.Stamp.{Stamp}
use Rattle.au_entries.specs.declared.decision.Decision.{Decision}
use Rattle.au_entries.specs.declared.fine_grained.FgaName.{FgaName}
use Rattle.au_entries.specs.declared.fine_grained.FgaPolicy.{FgaPolicy}
use Rattle.au_entries.specs.declared.policy.Condition.{Condition}
use Rattle.au_entries.specs.Imaging.{fga_change, written_text}
use Rattle.rec_codec.specs.Changes.{IsChangeSpellable, fga, fga_name, fga_parts, types}
use Rattle.rec_parts.specs.Parts.{name, names, stamp, table, text, truth}
use Rattle.rec_parts.specs.Spelling.{IsOptionSpellable}
use Rattle.sql_ast.specs.declared.call.Argument.{Argument}
use Rattle.sql_ast.specs.declared.call.Call.{Call}
use Rattle.sql_ast.specs.declared.call.Parameter.{Parameter}
use Rattle.sql_ast.specs.declared.call.Parameter.TheVariants.{AuditColumn, AuditColumnOpts, AuditCondition, Enable, LastArchiveTime, ObjectName, ObjectSchema, PolicyName, StatementTypes}
use Rattle.sql_ast.specs.declared.call.Value.{Value}
use Rattle.sql_ast.specs.declared.call.Value.TheVariants as value

some_is : {X : Type 0} (a b : X) → Some a ≡ Some b → a ≡ b
some_is a b is = ap (λ (o : Option _). unwrap_or o a) is

never_some : {X : Type 0} (b : X) → None ≡ Some b → ⊥
never_some b is = let e : None ≡ Some b = is in absurd cc

-- ---- names

name_spelled : (bytes : List ℕ) → IsName bytes → name.IsSpellable bytes
unfolding name
name_spelled bytes is = let capped = is.0.capped in (omega (arith, capped), is)

name_at : (bytes : List ℕ) (b : Bool) → (b ≡ true → IsName (identifier_of bytes)) → IfSome (if b then Some (identifier_of bytes) else None) IsName
name_at bytes true is = is refl
name_at bytes false is = tt

-- what a text is read as is a name
name_read : (bytes : List ℕ) → IfSome (name_of bytes) IsName
name_read bytes = name_at bytes (is_name bytes) (to_name bytes)

owner_read : (user : List ℕ) → IsName user → (schema : Option (Option (List ℕ))) → IfSome (owner_by user schema) IsName
owner_read user is None = tt
owner_read user is (Some None) = is
owner_read user is (Some (Some bytes)) = name_read bytes

name_given : (argument : Option Value) → IfSome (name_in argument) IsName
name_given None = tt
name_given (Some (value.Literal bytes)) = name_read bytes
name_given (Some (value.Number number)) = tt
name_given (Some value.Null) = tt
name_given (Some value.True) = tt
name_given (Some value.False) = tt
name_given (Some (value.Constant home one)) = tt
name_given (Some value.Now) = tt
name_given (Some (value.Moment moment)) = tt

-- the table's names and the policy's are names
abbrev IsTargetNamed : FgaName → Type 0
IsTargetNamed target = IsName target.table.owner × IsName target.table.name × IsName target.policy

target_at : (owner one policy : Option (List ℕ)) (target : FgaName) → IfSome owner IsName → IfSome one IsName → IfSome policy IsName → target_by owner one policy ≡ Some target → IsTargetNamed target
target_at (Some owner) (Some one) (Some policy) target first second third is =
    subst (λ (t : FgaName). IsName t.table.owner × IsName t.table.name × IsName t.policy) (some_is (record { table = record { owner = owner; name = one }; policy = policy }) target is) (first, second, third)
target_at None one policy target first second third is = absurd (never_some target is)
target_at (Some owner) None policy target first second third is = absurd (never_some target is)
target_at (Some owner) (Some one) None target first second third is = absurd (never_some target is)

target_named : (user : List ℕ) (arguments : List Argument) (target : FgaName) → IsName user → target_of user arguments ≡ Some target → IsTargetNamed target
target_named user arguments target is named =
    target_at (owner_by user (text_in (given arguments ObjectSchema))) (name_in (given arguments ObjectName)) (name_in (given arguments PolicyName)) target
    (owner_read user is (text_in (given arguments ObjectSchema))) (name_given (given arguments ObjectName)) (name_given (given arguments PolicyName)) named

target_spelled : (target : FgaName) → IsTargetNamed target → fga_name.IsSpellable (target.table, target.policy)
unfolding fga_name table
target_spelled target named = ((name_spelled target.table.owner named.0, name_spelled target.table.name named.1), name_spelled target.policy named.2)

-- ---- what is given

found_at : (P : Argument → Type 0) (one : Argument) (later : Option Argument) (b : Bool) → P one → IfSome later P → IfSome (cond b (Some one) later) P
found_at P one later true here more = here
found_at P one later false here more = more

found_in : (P : Argument → Type 0) (test : Argument → Bool) (arguments : List Argument) → AllByRecursion P arguments → IfSome (find test arguments) P
found_in P test [] all = tt
found_in P test (one ∷ arguments) all = found_at P one (find test arguments) (test one) all.0 (found_in P test arguments all.1)

valued : (P : Value → Type 0) (found : Option Argument) → IfSome found (λ argument. P argument.value) → IfSome (option_map (λ argument. argument.value) found) P
valued P None is = tt
valued P (Some argument) is = is

-- what holds of all that is given holds of what a parameter is given
given_so : (P : Value → Type 0) (arguments : List Argument) (parameter : Parameter) → AllByRecursion (λ argument. P argument.value) arguments → IfSome (given arguments parameter) P
given_so P arguments parameter all =
    valued P (find (λ argument. same_parameter argument.parameter parameter) arguments)
    (found_in (λ argument. P argument.value) (λ argument. same_parameter argument.parameter parameter) arguments all)

-- ---- the condition

-- a text of UTF-8 that isn't longer than a statement
abbrev IsShortText : List ℕ → Type 0
IsShortText bytes = IsUtf8 bytes × (length bytes ≤ STATEMENT_BYTES)

text_spelled : (bytes : List ℕ) → IsShortText bytes → text.IsSpellable bytes
unfolding text
text_spelled bytes is = let short = is.1 in (omega (arith, short), is.0)

abbrev IsTextRead : Option (Option (List ℕ)) → Type 0
IsTextRead None = ⊤
IsTextRead (Some None) = ⊤
IsTextRead (Some (Some bytes)) = IsShortText bytes

text_read : (argument : Option Value) → IfSome argument IsValueText → IfSome argument IsValueShort → IsTextRead (text_in argument)
text_read None utf8 short = tt
text_read (Some (value.Literal [])) utf8 short = tt
text_read (Some (value.Literal (byte ∷ bytes))) utf8 short = (utf8, short)
text_read (Some (value.Number number)) utf8 short = tt
text_read (Some value.Null) utf8 short = tt
text_read (Some value.True) utf8 short = tt
text_read (Some value.False) utf8 short = tt
text_read (Some (value.Constant home one)) utf8 short = tt
text_read (Some value.Now) utf8 short = tt
text_read (Some (value.Moment moment)) utf8 short = tt

option_spelled : (bytes : Option (List ℕ)) → IsTextRead (Some bytes) → IsOptionSpellable text bytes
option_spelled None is = tt
option_spelled (Some bytes) is = text_spelled bytes is

-- ---- the columns

each_column : (texts : List (List ℕ)) → list_all is_column texts ≡ true → AllByRecursion IsName (map column_of texts)
each_column [] all = tt
each_column (one ∷ texts) all =
    let parts = and_parts (is_column one) (list_all is_column texts) all in
    (to_name (trimmed one) parts.0, each_column texts parts.1)

all_spelled : (list : List (List ℕ)) → AllByRecursion IsName list → AllByRecursion name.IsSpellable list
all_spelled [] all = tt
all_spelled (one ∷ list) all = (name_spelled one all.0, all_spelled list all.1)

mapped_long : (texts : List (List ℕ)) → length (map column_of texts) ≡ length texts
mapped_long [] = refl
mapped_long (one ∷ texts) = ap suc (mapped_long texts)

-- names apart are spelled where they are few enough
names_spelled : (list : List (List ℕ)) → length list < 65_536 → AllByRecursion IsName list → IsDistinct bytes_eq list → names.IsSpellable list
unfolding names
names_spelled list few all apart = ((omega (arith, few), all_spelled list all), no_repeats bytes_eq nat_list_eq_equiv list apart)

-- so are names that count once
names_once_spelled : (list : List (List ℕ)) → length list < 65_536 → AllByRecursion IsName list → names.IsSpellable (once bytes_eq list)
names_once_spelled list few all =
    let fewer = once_fewer bytes_eq list in
    names_spelled (once bytes_eq list) (omega (arith, few, fewer)) (all_once IsName bytes_eq list all) (once_distinct bytes_eq nat_list_eq_equiv.symm list)

columns_at : (texts columns : List (List ℕ)) (b : Bool) → (b ≡ true → names.IsSpellable (once bytes_eq (map column_of texts))) → (if b then Some (once bytes_eq (map column_of texts)) else None) ≡ Some columns
    → names.IsSpellable columns
columns_at texts columns true spelled is = subst (λ (c : List (List ℕ)). names.IsSpellable c) (some_is (once bytes_eq (map column_of texts)) columns is) (spelled refl)
columns_at texts columns false spelled is = absurd (never_some columns is)

pieces_few : (bytes : List ℕ) → length bytes ≤ STATEMENT_BYTES → length (pieces bytes) < 65_536
pieces_few bytes short =
    let long = length-slice_split (λ (byte : ℕ). byte == 44) bytes in let few = count_by-le-length (λ (byte : ℕ). byte == 44) bytes in omega (arith, short, long, few)

no_columns : names.IsSpellable []
unfolding names
no_columns = ((omega arith, tt), refl)

columns_spelled : (read : Option (Option (List ℕ))) (columns : List (List ℕ)) → IsTextRead read → columns_by read ≡ Some columns → names.IsSpellable columns
columns_spelled None columns short is = absurd (never_some columns is)
columns_spelled (Some None) columns short is = subst (λ (c : List (List ℕ)). names.IsSpellable c) (some_is [] columns is) no_columns
columns_spelled (Some (Some bytes)) columns short is =
    let texts = pieces bytes in
    columns_at texts columns (list_all is_column texts)
    (λ all. (let few = pieces_few bytes short.1 in let long = mapped_long texts in names_once_spelled (map column_of texts) (omega (arith, few, long)) (each_column texts all))) is

-- ---- the kinds of statements

abbrev IsTypes : ℕ → Type 0
IsTypes number = (1 ≤ number) × (number ≤ 15)

abbrev sum_of : Bool → Bool → Bool → Bool → ℕ
sum_of a b c d = (if a then 1 else 0) + (if b then 2 else 0) + (if c then 4 else 0) + (if d then 8 else 0)

sum_within : (a b c d : Bool) → (a || (b || (c || d))) ≡ true → IsTypes (sum_of a b c d)
sum_within true true true true is = (omega arith, omega arith)
sum_within true true true false is = (omega arith, omega arith)
sum_within true true false true is = (omega arith, omega arith)
sum_within true true false false is = (omega arith, omega arith)
sum_within true false true true is = (omega arith, omega arith)
sum_within true false true false is = (omega arith, omega arith)
sum_within true false false true is = (omega arith, omega arith)
sum_within true false false false is = (omega arith, omega arith)
sum_within false true true true is = (omega arith, omega arith)
sum_within false true true false is = (omega arith, omega arith)
sum_within false true false true is = (omega arith, omega arith)
sum_within false true false false is = (omega arith, omega arith)
sum_within false false true true is = (omega arith, omega arith)
sum_within false false true false is = (omega arith, omega arith)
sum_within false false false true is = (omega arith, omega arith)
sum_within false false false false is = absurd (let e : false ≡ true = is in cc)

-- one of the kinds that the first piece is stands among all
some_kind : (a b c d p q r s : Bool) → (a || (b || (c || d))) ≡ true → ((a || p) || ((b || q) || ((c || r) || (d || s)))) ≡ true
some_kind true b c d p q r s is = refl
some_kind false true c d true q r s is = refl
some_kind false true c d false q r s is = refl
some_kind false false true d true q r s is = refl
some_kind false false true d false true r s is = refl
some_kind false false true d false false r s is = refl
some_kind false false false true true q r s is = refl
some_kind false false false true false true r s is = refl
some_kind false false false true false false true s is = refl
some_kind false false false true false false false s is = refl
some_kind false false false false p q r s is = absurd (let e : false ≡ true = is in cc)

kinds_within : (texts : List (List ℕ)) → 1 ≤ length texts → list_all is_kind texts ≡ true → IsTypes (kinds_named texts)
kinds_within [] some all = absurd (omega (arith, some))
kinds_within (one ∷ texts) some all =
    let first = and_parts (is_kind one) (list_all is_kind texts) all in
    sum_within (list_any (is_word (codes "SELECT")) (one ∷ texts)) (list_any (is_word (codes "INSERT")) (one ∷ texts)) (list_any (is_word (codes "UPDATE")) (one ∷ texts)) (list_any (is_word (codes "DELETE")) (one ∷ texts))
    (some_kind (is_word (codes "SELECT") one) (is_word (codes "INSERT") one) (is_word (codes "UPDATE") one) (is_word (codes "DELETE") one)
    (list_any (is_word (codes "SELECT")) texts) (list_any (is_word (codes "INSERT")) texts) (list_any (is_word (codes "UPDATE")) texts) (list_any (is_word (codes "DELETE")) texts) first.0)

kinds_at : (texts : List (List ℕ)) (number : ℕ) (b : Bool) → (b ≡ true → IsTypes (kinds_named texts)) → (if b then Some (kinds_named texts) else None) ≡ Some number → IsTypes number
kinds_at texts number true within is = subst (λ (n : ℕ). (1 ≤ n) × (n ≤ 15)) (some_is (kinds_named texts) number is) (within refl)
kinds_at texts number false within is = absurd (never_some number is)

kinds_read : (read : Option (Option (List ℕ))) (number : ℕ) → kinds_by read ≡ Some number → IsTypes number
kinds_read None number is = absurd (never_some number is)
kinds_read (Some None) number is = subst (λ (n : ℕ). (1 ≤ n) × (n ≤ 15)) (some_is 1 number is) (omega arith, omega arith)
kinds_read (Some (Some bytes)) number is =
    let long = length-slice_split (λ (byte : ℕ). byte == 44) bytes in
    kinds_at (pieces bytes) number (list_all is_kind (pieces bytes)) (kinds_within (pieces bytes) (omega (arith, long))) is

types_spelled : (number : ℕ) → IsTypes number → types.IsSpellable number
unfolding types
types_spelled number within =
    let most = within.1 in (omega (arith, most), and_from (nat_le 1 number) (nat_le number 15) (le-leb 1 number within.0) (le-leb number 15 within.1))

flags_at : (all : Option Bool) (kinds : Option ℕ) (enabled : Option Bool) (flags : FgaFlags) → ((number : ℕ) → kinds ≡ Some number → IsTypes number) → flags_by all kinds enabled ≡ Some flags → IsTypes flags.types
flags_at (Some all) (Some kinds) (Some enabled) flags within is =
    subst (λ (f : FgaFlags). (1 ≤ f.types) × (f.types ≤ 15)) (some_is (record { all = all; types = kinds; enabled = enabled }) flags is) (within kinds refl)
flags_at None kinds enabled flags within is = absurd (never_some flags is)
flags_at (Some all) None enabled flags within is = absurd (never_some flags is)
flags_at (Some all) (Some kinds) None flags within is = absurd (never_some flags is)

-- ---- a new policy

-- the parts of a policy can be written
abbrev ArePartsSpelled : FgaParts → Type 0
ArePartsSpelled parts = IsOptionSpellable text parts.condition × names.IsSpellable parts.columns × IsTypes parts.flags.types

parts_at : (condition : Option (Option (List ℕ))) (columns : Option (List (List ℕ))) (flags : Option FgaFlags) (parts : FgaParts) → IsTextRead condition → ((c : List (List ℕ)) → columns ≡ Some c → names.IsSpellable c)
    → ((f : FgaFlags) → flags ≡ Some f → IsTypes f.types) → parts_by condition columns flags ≡ Some parts → ArePartsSpelled parts
parts_at (Some condition) (Some columns) (Some flags) parts read named within is =
    subst (λ (p : FgaParts). IsOptionSpellable text p.condition × names.IsSpellable p.columns × IsTypes p.flags.types)
    (some_is (record { condition = condition; columns = columns; flags = flags }) parts is) (option_spelled condition read, named columns refl, within flags refl)
parts_at None columns flags parts read named within is = absurd (never_some parts is)
parts_at (Some condition) None flags parts read named within is = absurd (never_some parts is)
parts_at (Some condition) (Some columns) None parts read named within is = absurd (never_some parts is)

unless_handled : (handled : Bool) (read : Option FgaParts) (parts : FgaParts) → (if handled then None else read) ≡ Some parts → read ≡ Some parts
unless_handled true read parts is = absurd (never_some parts is)
unless_handled false read parts is = is

parts_spelled : (arguments : List Argument) (parts : FgaParts) → AllByRecursion IsArgumentText arguments → AllByRecursion IsArgumentShort arguments → parts_of arguments ≡ Some parts → ArePartsSpelled parts
parts_spelled arguments parts utf8 short is =
    let read : (parameter : Parameter) → IsTextRead (text_in (given arguments parameter)) =
    λ parameter. text_read (given arguments parameter) (given_so IsValueText arguments parameter utf8) (given_so IsValueShort arguments parameter short) in
    parts_at (text_in (given arguments AuditCondition)) (columns_by (text_in (given arguments AuditColumn))) (flags_of arguments) parts (read AuditCondition)
    (λ columns. columns_spelled (text_in (given arguments AuditColumn)) columns (read AuditColumn))
    (λ flags. flags_at (option_in (given arguments AuditColumnOpts)) (kinds_by (text_in (given arguments StatementTypes))) (truth_in (given arguments Enable)) flags
    (kinds_read (text_in (given arguments StatementTypes))))
    (unless_handled (has_handler arguments) _ parts is)

new_spelled : (target : FgaName) (parts : FgaParts) → IsTargetNamed target → ArePartsSpelled parts → IsChangeSpellable (new_fga target parts)
unfolding fga fga_parts truth
new_spelled target parts named spelled = (target_spelled target named, (spelled.0, (spelled.1, (tt, (types_spelled parts.flags.types spelled.2, tt)))))

-- ---- a policy that stands

standing_text : (condition : Option Condition) → IsOptionSpellable text (written_text condition) → IsOptionSpellable text (option_map (λ condition. condition.text) condition)
standing_text None is = is
standing_text (Some condition) is = is

again_spelled : (on : Bool) (policy : FgaPolicy) → IsChangeSpellable (fga_change policy) → IsChangeSpellable (with_enabled on policy)
unfolding fga fga_parts truth
again_spelled on policy is = (is.0, (standing_text policy.condition is.1.0, (is.1.1.0, (tt, (is.1.1.1.1.0, tt)))))

all_unmapped : (policies : List FgaPolicy) → AllByRecursion IsChangeSpellable (map fga_change policies) → AllByRecursion (λ policy. IsChangeSpellable (fga_change policy)) policies
all_unmapped [] all = tt
all_unmapped (policy ∷ policies) all = (all.0, all_unmapped policies all.1)

-- ---- the archive timestamp

stamp_spelled : (moment : Stamp) → moment.0 ≤ LAST_MOMENT → stamp.IsSpellable moment
unfolding stamp
stamp_spelled moment within = (omega (arith, within), le-leb moment.0 LAST_MOMENT within)

moment_spelled : (now : Stamp) → now.0 ≤ LAST_MOMENT → (argument : Option Value) → ((moment : ℕ) → argument ≡ Some (value.Moment moment) → moment ≤ LAST_MOMENT)
    → IsOptionSpellable stamp (moment_in now argument)
moment_spelled now early None timely = tt
moment_spelled now early (Some value.Now) timely = stamp_spelled now early
moment_spelled now early (Some (value.Moment moment)) timely = stamp_spelled (record { 0 = moment }) (timely moment refl)
moment_spelled now early (Some (value.Literal bytes)) timely = tt
moment_spelled now early (Some (value.Number number)) timely = tt
moment_spelled now early (Some value.Null) timely = tt
moment_spelled now early (Some value.True) timely = tt
moment_spelled now early (Some value.False) timely = tt
moment_spelled now early (Some (value.Constant home one)) timely = tt

-- ---- all calls

pub spelled : (setting : AuditSetting) (call : Call) (decision : Decision) → AreCallTexts call → IsCallShort call → IsCallTimely call → IsName setting.setting.user → setting.stamp.0 ≤ LAST_MOMENT
    → AreFgaSpelled setting.fga → DecidesCall setting call decision → AllByRecursion IsChangeSpellable decision.changes
spelled setting call decision utf8 short timely is early stand decides =
    made (λ changes. AllByRecursion IsChangeSpellable changes) setting call.arguments tt
    (λ target parts named read room. (new_spelled target parts (target_named setting.setting.user call.arguments target is named) (parts_spelled call.arguments parts utf8 short read), tt))
    (λ target named. (target_spelled target (target_named setting.setting.user call.arguments target is named), tt))
    (λ on policy has. (again_spelled on policy (all_at (λ (p : FgaPolicy). IsChangeSpellable (fga_change p)) setting.fga (all_unmapped setting.fga stand) policy has), tt))
    (tt, tt) (moment_spelled setting.stamp early (given call.arguments LastArchiveTime) timely, tt) call.procedure decision decides
