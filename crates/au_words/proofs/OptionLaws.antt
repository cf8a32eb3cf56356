-- What a command of options of one value each takes and finds.
use Rattle.std.specs.Bool.{MatchBool}
use Rattle.std.specs.List.{All, AllByRecursion, AllWithin, HoldsAt, IsDistinct, list_any}
use Rattle.std.specs.Prelude.{◌==◌, IsPermutation, IsSomeAnd, fold, is_some, map, ⊤}
use Rattle.std.specs.Str.{bytes_eq}
use Rattle.std.proofs.Common.{◌<◌, ◌↔◌, Bor, IsTrue, length, true≢false, ◌≡◌, ◌≢◌, ◌&&◌, ◌||◌, inl, inr, ℕ, Bool, true, false, not, List, [], ◌∷◌, ◌++◌, Option, Some, None, cond, refl, sym, ap, ap₂, ◌∙◌, subst, arith, append-nil}
use Rattle.std.proofs.lemmas.List.{append_assoc, get_or-map, length-map}
use Rattle.std.proofs.lemmas.List.Elements.{All-append, All-cons, All-from_all_within, All-from_recursion, All-map, All-nil, recursion_from_All}
use Rattle.std.proofs.lemmas.List.Sorted.{All-permutation, IsPermutation-append_left, IsPermutation-append_right, IsPermutation-map, IsPermutation-middle, IsPermutation-refl, IsPermutation-sym, IsPermutation-trans, length_permutation}
use Rattle.std.proofs.lemmas.Map.Keys.{IsDistinct-IsPermutation, IsDistinct-head, IsDistinct-tail}
use Rattle.std.proofs.lemmas.Slice.Eq.{bytes_eq-Decides}
use Rattle.clap.specs.Faults.{built_fault, default_fault, defaults_fault, fault_of, given_default_fault, settle_fault, walk_fault}
use Rattle.clap.specs.Kinds.{Kinds, or_else}
use Rattle.clap.specs.Matches.{first_value, found_of}
use Rattle.clap.specs.Simple.{App, built, filled_from, matches_of, names_of}
use Rattle.clap.specs.Takes.{is_given}
use Rattle.clap.specs.Values.{reading_of}
use Rattle.clap.specs.Walk.{Held, Row, Rule, Text, Walk, arg_by_index, arg_by_long, first_of, has_row, idle, nothing_held, rows_after, rows_of, settled, texts, walk, with_default, with_values, without}
use Rattle.clap.specs.declared.builder.value_parser.ValueParser.TheVariants as vp
use Rattle.clap.specs.declared.error.kind.ErrorKind.TheVariants.{MissingRequiredArgument}
use Rattle.clap.specs.declared.parser.matches.ArgMatches.{ArgMatches}
use Rattle.clap.specs.declared.parser.matches.ValueSource.TheVariants.{CommandLine}
use Rattle.clap.proofs.CutLemmas.{Lacks}
use Rattle.clap.proofs.FaultLemmas.{leaf_fault}
use Rattle.clap.proofs.WalkLemmas.{first_value-rows}
use Rattle.au_words.specs.descent.Options.{Finds, IsFormed, option_of, options_app}
use Rattle.au_words.specs.Words.{AreInTurn, AreOptions, IsOption, dashed, given_of, perhaps}
use Rattle.au_words.proofs.WalkLaws.{HasOptions, IsNamed, Lacks-cons, Passes, Reads, all_fault, at, built_shape, complete, ends, first_none, more_than_none, option_rule, or_else_assoc, rows_behind, second_none, sound, takes, with_option}

-- ---- the form of words

-- the test of all words
pub all_formed : (words : List (Bor Text)) (r : Bool) → MatchBool r (AllWithin (λ (w : Bor Text). IsFormed w.now) words 0 (length words))
    ((k : ℕ) × (k < length words) × HoldsAt (λ (w : Bor Text). IsFormed w.now → ⊥) words k) → IsTrue r ↔ All IsFormed (texts words)
all_formed words true all = (λ yes. All-map IsFormed (λ (w : Bor Text). w.now) words (All-from_all_within (λ (w : Bor Text). IsFormed w.now) words all), λ formed. refl)
all_formed words false some = (λ yes. absurd (true≢false (sym yes)), λ formed. absurd (at_place words some.0 some.1 formed some.2))
  where
    at_place : (ws : List (Bor Text)) (k : ℕ) → k < length ws → All IsFormed (texts ws) → HoldsAt (λ (w : Bor Text). IsFormed w.now → ⊥) ws k → ⊥
    at_place [] k lt all bad = absurd (omega arith)
    at_place (w ∷ ws) k lt all bad =
        bad w (subst IsFormed (get_or-map (λ (x : Bor Text). x.now) (w ∷ ws) k w [] lt) (all k [] (omega (arith, length-map (w ∷ ws) (λ (x : Bor Text). x.now)))))

option_formed : (n value : Text) (words : List Text) → n ≢ [] → IsOption n value words → All IsFormed words
option_formed n value words some (inl both) =
    subst (All IsFormed) (sym both.0) (All-cons IsFormed (dashed n) (value ∷ []) (inl (n, refl, some)) (All-cons IsFormed value [] (inr both.1) (All-nil IsFormed)))
option_formed n value words some (inr one) =
    subst (All IsFormed) (sym one) (All-cons IsFormed (dashed n ++ 61 ∷ value) [] (inl (n ++ 61 ∷ value, refl, more_than_none n value 61)) (All-nil IsFormed))

-- ---- texts

same_text : (n : Text) → bytes_eq n n ≡ true
same_text n = (bytes_eq-Decides n n).1 refl

turned : (n m : Text) → bytes_eq n m ≡ false → bytes_eq m n ≡ false
turned n m e = go (bytes_eq m n) refl
  where
    go : (t : Bool) → bytes_eq m n ≡ t → bytes_eq m n ≡ false
    go false t = t
    go true t = absurd (true≢false (sym (same_text m) ∙ ap (λ (x : Text). bytes_eq x m) ((bytes_eq-Decides m n).0 t) ∙ e))

flips : (n m : Text) → bytes_eq n m ≡ bytes_eq m n
flips n m = go (bytes_eq n m) refl
  where
    go : (t : Bool) → bytes_eq n m ≡ t → bytes_eq n m ≡ bytes_eq m n
    go false t = t ∙ sym (turned n m t)
    go true t = t ∙ sym (same_text m) ∙ ap (λ (x : Text). bytes_eq m x) (sym ((bytes_eq-Decides n m).0 t))

first_false : (a b : Bool) → (a || b) ≡ false → a ≡ false
first_false false b e = refl
first_false true b e = e

second_false : (a b : Bool) → (a || b) ≡ false → b ≡ false
second_false false b e = e
second_false true b e = absurd (true≢false e)

or_true : (a b : Bool) → b ≡ true → (a || b) ≡ true
or_true true b e = refl
or_true false b e = e

none_of : {X : Type 0} (o : Option X) → is_some o ≡ false → o ≡ None
none_of None e = refl
none_of (Some x) e = absurd (true≢false e)

-- ---- options with their values

abbrev pub Given : Type 0
Given = Text × Text

-- the value of the option of this name
abbrev pub value_of : Text → List Given → Option Text
value_of n [] = None
value_of n (g ∷ gs) = cond (bytes_eq g.0 n) (Some g.1) (value_of n gs)

value_more : (gs : List Given) (n k v : Text) → bytes_eq k n ≡ false → value_of n (gs ++ (k, v) ∷ []) ≡ value_of n gs
value_more [] n k v e = rw e refl
value_more (g ∷ gs) n k v e = ap (λ (o : Option Text). cond (bytes_eq g.0 n) (Some g.1) o) (value_more gs n k v e)

value_new : (gs : List Given) (k v : Text) → value_of k gs ≡ None → value_of k (gs ++ (k, v) ∷ []) ≡ Some v
value_new [] k v e = rw same_text refl
value_new (g ∷ gs) k v e = go (bytes_eq g.0 k) refl (value_new gs k v)
  where
    go : (t : Bool) → bytes_eq g.0 k ≡ t → (value_of k gs ≡ None → value_of k (gs ++ (k, v) ∷ []) ≡ Some v) → value_of k ((g ∷ gs) ++ (k, v) ∷ []) ≡ Some v
    go true t more = let bad : Some g.1 ≡ None = rw t at e in cc
    go false t more = let rest : value_of k gs ≡ None = rw t at e in rw t (more rest)

-- ---- what is found of them

abbrev row : Given → Row
row g = record { id = g.0; values = g.1 ∷ []; count = None; source = Some CommandLine; reading = reading_of vp.String }

abbrev rows_given : List Given → List Row
rows_given = map row

row_given : (n : Text) (gs : List Given) → has_row n (rows_given gs) ≡ is_some (value_of n gs)
row_given n [] = refl
row_given n (g ∷ gs) =
    elim (bytes_eq g.0 n) as (λ t. (t || has_row n (rows_given gs)) ≡ is_some (cond t (Some g.1) (value_of n gs))) [ true ↦ refl | false ↦ row_given n gs ]

first_given : (n : Text) (gs : List Given) → first_of n (rows_given gs) ≡ value_of n gs
first_given n [] = refl
first_given n (g ∷ gs) = go (bytes_eq g.0 n) refl (first_given n gs)
  where
    go : (t : Bool) → bytes_eq g.0 n ≡ t → first_of n (rows_given gs) ≡ value_of n gs → first_of n (rows_given (g ∷ gs)) ≡ value_of n (g ∷ gs)
    go true t more = rw t refl
    go false t more = rw t more

is_given_given : (n : Text) (gs : List Given) → is_given n (rows_given gs) ≡ is_some (value_of n gs)
is_given_given n [] = refl
is_given_given n (g ∷ gs) = go (bytes_eq g.0 n) refl (is_given_given n gs)
  where
    go : (t : Bool) → bytes_eq g.0 n ≡ t → is_given n (rows_given gs) ≡ is_some (value_of n gs) → is_given n (rows_given (g ∷ gs)) ≡ is_some (value_of n (g ∷ gs))
    go true t more = rw t refl
    go false t more = rw t more

without_new : (gs : List Given) (n : Text) → value_of n gs ≡ None → without n (rows_given gs) ≡ rows_given gs
without_new [] n e = refl
without_new (g ∷ gs) n e = go (bytes_eq g.0 n) refl (without_new gs n)
  where
    go : (t : Bool) → bytes_eq g.0 n ≡ t → (value_of n gs ≡ None → without n (rows_given gs) ≡ rows_given gs) → without n (rows_given (g ∷ gs)) ≡ rows_given (g ∷ gs)
    go true t more = let bad : Some g.1 ≡ None = rw t at e in cc
    go false t more = let rest : value_of n gs ≡ None = rw t at e in rw t (ap (λ (rs : List Row). row g ∷ rs) (more rest))

put_new : (gs : List Given) (n v : Text) → value_of n gs ≡ None → with_values n (reading_of vp.String) CommandLine (v ∷ []) (rows_given gs) ≡ rows_given (gs ++ (n, v) ∷ [])
put_new [] n v e = refl
put_new (g ∷ gs) n v e = go (bytes_eq g.0 n) refl (put_new gs n v)
  where
    go : (t : Bool) → bytes_eq g.0 n ≡ t → (value_of n gs ≡ None → with_values n (reading_of vp.String) CommandLine (v ∷ []) (rows_given gs) ≡ rows_given (gs ++ (n, v) ∷ []))
        → with_values n (reading_of vp.String) CommandLine (v ∷ []) (rows_given (g ∷ gs)) ≡ rows_given ((g ∷ gs) ++ (n, v) ∷ [])
    go true t more = let bad : Some g.1 ≡ None = rw t at e in cc
    go false t more = let rest : value_of n gs ≡ None = rw t at e in rw t (ap (λ (rs : List Row). row g ∷ rs) (more rest))

used_new : (gs : List Given) (n v : Text) → value_of n gs ≡ None → with_option n v (rows_given gs) ≡ rows_given (gs ++ (n, v) ∷ [])
used_new gs n v e = ap (with_values n (reading_of vp.String) CommandLine (v ∷ [])) (without_new gs n e) ∙ put_new gs n v e

-- ---- the options of a command

-- an option: its name, and whether it has to be given
abbrev pub Asked : Type 0
Asked = Text × Bool

abbrev rules : List Asked → List Rule
rules = map (λ o. option_rule o.0 o.1)

abbrev pub asks : Text → List Asked → Bool
asks n os = list_any (λ (o : Asked). bytes_eq o.0 n) os

-- none of the names is empty or has a `=`, and they differ
abbrev pub AreNames : List Asked → Type 0
AreNames [] = ⊤
AreNames (o ∷ os) = (o.0 ≢ []) × (list_any (λ x. x == 61) o.0 ≡ false) × (asks o.0 os ≡ false) × AreNames os

lacks_by : (xs : Text) → list_any (λ x. x == 61) xs ≡ false → Lacks 61 xs
lacks_by [] e = λ i lt. absurd (omega arith)
lacks_by (x ∷ xs) e = go (x == 61) refl (lacks_by xs)
  where
    go : (t : Bool) → (x == 61) ≡ t → (list_any (λ x. x == 61) xs ≡ false → Lacks 61 xs) → Lacks 61 (x ∷ xs)
    go true t rest = let no : true ≡ false = rw t at e in cc
    go false t rest = Lacks-cons x xs t (rest (rw t at e))

is_named : (os : List Asked) → AreNames os → (k : Text) → asks k os ≡ true → IsNamed (rules os) k
is_named [] names k e = absurd (true≢false (sym e))
is_named (o ∷ os) names k e = go (bytes_eq o.0 k) refl (is_named os names.3 k)
  where
    here : IsNamed (rules (o ∷ os)) o.0
    here = record { required = o.1; some = names.0; plain = lacks_by o.0 names.1; long = rw same_text refl; id = rw same_text refl }

    go : (t : Bool) → bytes_eq o.0 k ≡ t → (asks k os ≡ true → IsNamed (rules os) k) → IsNamed (rules (o ∷ os)) k
    go true t next = subst (IsNamed (rules (o ∷ os))) ((bytes_eq-Decides o.0 k).0 t) here
    go false t next =
        let more : asks k os ≡ true = rw t at e in
        let rest = next more in
        record { required = rest.required; some = rest.some; plain = rest.plain; long = rw t rest.long; id = rw t rest.id }

known : (os : List Asked) (k : Text) (r : Rule) → arg_by_long (rules os) k ≡ Some r → asks k os ≡ true
known [] k r e = let bad : None ≡ Some r = e in cc
known (o ∷ os) k r e = go (bytes_eq o.0 k) refl (known os k r)
  where
    go : (t : Bool) → bytes_eq o.0 k ≡ t → (arg_by_long (rules os) k ≡ Some r → asks k os ≡ true) → asks k (o ∷ os) ≡ true
    go true t more = rw t refl
    go false t more = let rest : arg_by_long (rules os) k ≡ Some r = rw t at e in rw t (more rest)

asked_by : (os : List Asked) (k : Text) → IsNamed (rules os) k → asks k os ≡ true
asked_by os k is = known os k (option_rule k is.required) is.long

no_place : (os : List Asked) → arg_by_index (rules os) 1 ≡ None
no_place [] = refl
no_place (o ∷ os) = no_place os

has_options : (os : List Asked) → AreNames os → HasOptions (rules os)
has_options os names = record { no_place = no_place os; named = λ n r e. is_named os names n (known os n r e) }

-- ---- words and the options that they are

-- options of the command, each of another name than those before it
abbrev AreApart : List Asked → List Given → List Given → Type 0
AreApart os before [] = ⊤
AreApart os before (g ∷ got) = (asks g.0 os ≡ true) × (value_of g.0 before ≡ None) × AreApart os (before ++ g ∷ []) got

record ReadAs (os : List Asked) (before : List Given) (words : List Text) (after : List Row) : Type 0 where
  got : List Given
  apart : AreApart os before got
  turn : AreInTurn got words
  rows : after ≡ rows_given (before ++ got)

read_as : (os : List Asked) (before : List Given) (rows after : List Row) (words : List Text) → rows ≡ rows_given before → Reads (rules os) rows words after → ReadAs os before words after
read_as os before _ _ _ is (ends rows after words none same) =
    record { got = []; apart = tt; turn = none; rows = same ∙ is ∙ ap rows_given (sym (append-nil before)) }
read_as os before _ _ _ is (takes rows after words front rest n value named new form split more) =
    let unset : value_of n before ≡ None = none_of (value_of n before) (sym (row_given n before) ∙ ap (has_row n) (sym is) ∙ new) in
    let next = read_as os (before ++ (n, value) ∷ []) (with_option n value rows) after rest (ap (with_option n value) is ∙ used_new before n value unset) more in
    record {
      got = (n, value) ∷ next.got;
      apart = (asked_by os n named, unset, next.apart);
      turn = (front, rest, split, form, next.turn);
      rows = next.rows ∙ ap rows_given (append_assoc before ((n, value) ∷ []) next.got);
    }

reads_of : (os : List Asked) → AreNames os → (before got : List Given) (words : List Text) → AreApart os before got → AreInTurn got words
    → Reads (rules os) (rows_given before) words (rows_given (before ++ got))
reads_of os names before [] words apart none = ends _ _ words none (ap rows_given (append-nil before))
reads_of os names before ((n, v) ∷ got) words apart turn =
    let here = before ++ (n, v) ∷ [] in
    let new : has_row n (rows_given before) ≡ false = row_given n before ∙ ap is_some apart.1 in
    let more = reads_of os names here got turn.1 apart.2 turn.4 in
    let all = subst (λ (l : List Given). Reads (rules os) (rows_given here) turn.1 (rows_given l)) (append_assoc before ((n, v) ∷ []) got) more in
    takes _ _ words turn.0 turn.1 n v (is_named os names n apart.0) new turn.3 turn.2
    (subst (λ (rows : List Row). Reads (rules os) rows turn.1 (rows_given (before ++ (n, v) ∷ got))) (sym (used_new before n v apart.1)) all)

formed : (os : List Asked) → AreNames os → (before got : List Given) (words : List Text) → AreApart os before got → AreInTurn got words → All IsFormed words
formed os names before [] words apart none = subst (All IsFormed) (sym none) (All-nil IsFormed)
formed os names before ((n, v) ∷ got) words apart turn =
    subst (All IsFormed) (sym turn.2)
    (All-append IsFormed turn.0 turn.1 (option_formed n v turn.0 (is_named os names n apart.0).some turn.3) (formed os names (before ++ (n, v) ∷ []) got turn.1 apart.2 turn.4))

-- ---- the options in the command's order

-- the value of each option of the command
abbrev pub values_in : List Asked → (Text → Option Text) → List (Text × Option Text)
values_in [] f = []
values_in (o ∷ os) f = (o.0, f o.0) ∷ values_in os f

abbrev gathered : List Asked → List Given → List Given
gathered os got = given_of (values_in os (λ n. value_of n got))

abbrev with_first : Text → Text → List Given → List Given
with_first n v gs = (n, v) ∷ gs

unasked : (os : List Asked) (k v : Text) (before : List Given) → asks k os ≡ false → gathered os (before ++ (k, v) ∷ []) ≡ gathered os before
unasked [] k v before e = refl
unasked (o ∷ os) k v before e =
    let other = turned o.0 k (first_false (bytes_eq o.0 k) (asks k os) e) in
    ap₂ (λ (x : Option Text) (l : List Given). perhaps o.0 x ++ l) (value_more before o.0 k v other) (unasked os k v before (second_false (bytes_eq o.0 k) (asks k os) e))

through : (front : List Given) (x : Given) (a b : List Given) → IsPermutation (x ∷ a) b → IsPermutation (x ∷ (front ++ a)) (front ++ b)
through front x a b p =
    IsPermutation-trans (x ∷ (front ++ a)) (front ++ x ∷ a) (front ++ b) (IsPermutation-sym (front ++ x ∷ a) (x ∷ (front ++ a)) (IsPermutation-middle front x a))
    (IsPermutation-append_right front (x ∷ a) b p)

one_more : (os : List Asked) → AreNames os → (k v : Text) (before : List Given) → asks k os ≡ true → value_of k before ≡ None
    → IsPermutation ((k, v) ∷ gathered os before) (gathered os (before ++ (k, v) ∷ []))
one_more [] names k v before e unset = absurd (true≢false (sym e))
one_more (o ∷ os) names k v before e unset = go (bytes_eq o.0 k) refl (λ more. one_more os names.3 k v before more unset)
  where
    after : List Given
    after = before ++ (k, v) ∷ []

    go : (t : Bool) → bytes_eq o.0 k ≡ t → (asks k os ≡ true → IsPermutation ((k, v) ∷ gathered os before) (gathered os after))
        → IsPermutation ((k, v) ∷ gathered (o ∷ os) before) (gathered (o ∷ os) after)
    go true t next =
        let same : o.0 ≡ k = (bytes_eq-Decides o.0 k).0 t in
        let left : gathered (o ∷ os) before ≡ gathered os before = ap (λ (x : Option Text). perhaps o.0 x ++ gathered os before) (ap (λ (n : Text). value_of n before) same ∙ unset) in
        let rest : gathered os after ≡ gathered os before = unasked os k v before (subst (λ (n : Text). asks n os ≡ false) same names.2) in
        let right : gathered (o ∷ os) after ≡ (k, v) ∷ gathered os before =
        ap₂ (λ (x : Option Text) (l : List Given). perhaps o.0 x ++ l) (ap (λ (n : Text). value_of n after) same ∙ value_new before k v unset) rest
        ∙ ap (λ (n : Text). with_first n v (gathered os before)) same in
        subst (λ (l : List Given). IsPermutation ((k, v) ∷ l) (gathered (o ∷ os) after)) (sym left)
        (subst (IsPermutation ((k, v) ∷ gathered os before)) (sym right) (IsPermutation-refl ((k, v) ∷ gathered os before)))
    go false t next =
        let more : asks k os ≡ true = rw t at e in
        let rest = next more in
        let stays = value_more before o.0 k v (turned o.0 k t) in
        subst (λ (x : Option Text). IsPermutation ((k, v) ∷ gathered (o ∷ os) before) (perhaps o.0 x ++ gathered os after)) (sym stays)
        (through (perhaps o.0 (value_of o.0 before)) (k, v) (gathered os before) (gathered os after) rest)

gathers_from : (os : List Asked) → AreNames os → (before got : List Given) → AreApart os before got → IsPermutation (gathered os before ++ got) (gathered os (before ++ got))
gathers_from os names before [] apart =
    subst (λ (l : List Given). IsPermutation l (gathered os (before ++ []))) (sym (append-nil (gathered os before)))
    (subst (λ (l : List Given). IsPermutation (gathered os before) (gathered os l)) (sym (append-nil before)) (IsPermutation-refl (gathered os before)))
gathers_from os names before ((n, v) ∷ got) apart =
    let x : Given = (n, v) in
    let old = gathered os before in
    let new = gathered os (before ++ x ∷ []) in
    let last = gathered os ((before ++ x ∷ []) ++ got) in
    subst (λ (l : List Given). IsPermutation (old ++ x ∷ got) (gathered os l)) (append_assoc before (x ∷ []) got)
    (IsPermutation-trans (old ++ x ∷ got) (x ∷ (old ++ got)) last (IsPermutation-middle old x got)
    (IsPermutation-trans (x ∷ (old ++ got)) (new ++ got) last (IsPermutation-append_left got (x ∷ old) new (one_more os names n v before apart.0 apart.1))
    (gathers_from os names (before ++ x ∷ []) got apart.2)))

nothing_gathered : (os : List Asked) → gathered os [] ≡ []
nothing_gathered [] = refl
nothing_gathered (o ∷ os) = nothing_gathered os

gathers : (os : List Asked) → AreNames os → (got : List Given) → AreApart os [] got → IsPermutation (gathered os got) got
gathers os names got apart =
    IsPermutation-sym got (gathered os got)
    (subst (λ (l : List Given). IsPermutation (l ++ got) (gathered os got)) (nothing_gathered os) (gathers_from os names [] got apart))

-- ---- options by name in any order

-- each option of the command by its name, with a value where it has to be given
abbrev pub AreFor : List Asked → List (Text × Option Text) → Type 0
AreFor [] [] = ⊤
AreFor (o ∷ os) (e ∷ es) = (e.0 ≡ o.0) × (o.1 ≡ true → is_some e.1 ≡ true) × AreFor os es
AreFor [] (e ∷ es) = ⊥
AreFor (o ∷ os) [] = ⊥

abbrev keys : List Given → List Text
keys = map (λ g. g.0)

abbrev Differs : Text → Text → Type 0
Differs k n = bytes_eq k n ≡ false

-- the names of a command are none that it doesn't ask for
not_for : (k : Text) (os : List Asked) (es : List (Text × Option Text)) → AreFor os es → asks k os ≡ false → AllByRecursion (λ e. Differs k e.0) es
not_for k [] [] fits e = tt
not_for k [] (x ∷ es) fits e = absurd fits
not_for k (o ∷ os) [] fits e = absurd fits
not_for k (o ∷ os) (x ∷ es) fits e = (
  subst (Differs k) (sym fits.0) (turned o.0 k (first_false (bytes_eq o.0 k) (asks k os) e)),
  not_for k os es fits.2 (second_false (bytes_eq o.0 k) (asks k os) e),
)

not_given : (k : Text) (es : List (Text × Option Text)) → AllByRecursion (λ e. Differs k e.0) es → AllByRecursion (Differs k) (keys (given_of es))
not_given k [] differ = tt
not_given k ((n, None) ∷ es) differ = not_given k es differ.1
not_given k ((n, Some v) ∷ es) differ = (differ.0, not_given k es differ.1)

no_value : (k : Text) (gs : List Given) → AllByRecursion (Differs k) (keys gs) → value_of k gs ≡ None
no_value k [] differ = refl
no_value k (g ∷ gs) differ = let other = turned k g.0 differ.0 in rw other (no_value k gs differ.1)

-- the name of the first isn't that of one behind it
head_apart : (o : Asked) (os : List Asked) (e : Text × Option Text) (es : List (Text × Option Text)) → AreNames (o ∷ os) → AreFor (o ∷ os) (e ∷ es) → AllByRecursion (λ x. Differs e.0 x.0) es
head_apart o os e es names fits = not_for e.0 os es fits.2 (subst (λ (n : Text). asks n os ≡ false) (sym fits.0) names.2)

distinct : (os : List Asked) (es : List (Text × Option Text)) → AreNames os → AreFor os es → IsDistinct bytes_eq (keys (given_of es))
unfolding IsDistinct
distinct [] [] names fits = tt
distinct [] (x ∷ es) names fits = absurd fits
distinct (o ∷ os) [] names fits = absurd fits
distinct (o ∷ os) ((n, None) ∷ es) names fits = distinct os es names.3 fits.2
distinct (o ∷ os) ((n, Some v) ∷ es) names fits = (not_given n es (head_apart o os (n, Some v) es names fits), distinct os es names.3 fits.2)

all_asked : (all os : List Asked) (es : List (Text × Option Text)) → ((k : Text) → asks k os ≡ true → asks k all ≡ true) → AreFor os es → AllByRecursion (λ g. asks g.0 all ≡ true) (given_of es)
all_asked all [] [] within fits = tt
all_asked all [] (x ∷ es) within fits = absurd fits
all_asked all (o ∷ os) [] within fits = absurd fits
all_asked all (o ∷ os) ((n, None) ∷ es) within fits = all_asked all os es (λ k e. within k (or_true (bytes_eq o.0 k) (asks k os) e)) fits.2
all_asked all (o ∷ os) ((n, Some v) ∷ es) within fits = (
  within n (subst (λ (m : Text). asks m (o ∷ os) ≡ true) (sym fits.0) (rw same_text refl)),
  all_asked all os es (λ k e. within k (or_true (bytes_eq o.0 k) (asks k os) e)) fits.2,
)

-- ---- the values of options, in any order

-- each is the value at its name
abbrev AreValues : List Given → List Given → Type 0
AreValues gs = AllByRecursion (λ g. value_of g.0 gs ≡ Some g.1)

values_behind : (n v : Text) (gs part : List Given) → AllByRecursion (Differs n) (keys part) → AreValues gs part → AreValues ((n, v) ∷ gs) part
values_behind n v gs [] differ are = tt
values_behind n v gs (g ∷ part) differ are = let other = differ.0 in (rw other are.0, values_behind n v gs part differ.1 are.1)

own_values : (gs : List Given) → IsDistinct bytes_eq (keys gs) → AreValues gs gs
own_values [] differ = tt
own_values ((n, v) ∷ gs) differ = (
  rw same_text refl,
  values_behind n v gs gs (IsDistinct-head bytes_eq n (keys gs) differ) (own_values gs (IsDistinct-tail bytes_eq n (keys gs) differ)),
)

value_among : (gs part : List Given) (n v : Text) → AreValues gs part → value_of n part ≡ Some v → value_of n gs ≡ Some v
value_among gs [] n v are e = let bad : None ≡ Some v = e in cc
value_among gs (g ∷ part) n v are e = go (bytes_eq g.0 n) refl (value_among gs part n v are.1)
  where
    go : (t : Bool) → bytes_eq g.0 n ≡ t → (value_of n part ≡ Some v → value_of n gs ≡ Some v) → value_of n gs ≡ Some v
    go true t more = let here : Some g.1 ≡ Some v = rw t at e in sym (ap (λ (k : Text). value_of k gs) ((bytes_eq-Decides g.0 n).0 t)) ∙ are.0 ∙ here
    go false t more = let rest : value_of n part ≡ Some v = rw t at e in more rest

module _ (gs hs : List Given) (same : IsPermutation gs hs) (differ : IsDistinct bytes_eq (keys gs)) where
  differ_too : IsDistinct bytes_eq (keys hs)
  differ_too = IsDistinct-IsPermutation bytes_eq flips (keys gs) (keys hs) (IsPermutation-map (λ (g : Given). g.0) gs hs same) differ

  -- what holds of all of the one list holds of all of the other
  carried : (P : Given → Type 0) → AllByRecursion P gs → AllByRecursion P hs
  carried P all = recursion_from_All P hs (All-permutation P gs hs same (All-from_recursion P gs all))

  carried_back : (P : Given → Type 0) → AllByRecursion P hs → AllByRecursion P gs
  carried_back P all = recursion_from_All P gs (All-permutation P hs gs (IsPermutation-sym gs hs same) (All-from_recursion P hs all))

  same_value : (n : Text) → value_of n hs ≡ value_of n gs
  same_value n = by_both (value_of n hs) (value_of n gs) refl refl
    where
      by_both : (a b : Option Text) → value_of n hs ≡ a → value_of n gs ≡ b → value_of n hs ≡ value_of n gs
      by_both None None a b = a ∙ sym b
      by_both (Some v) o a b = a ∙ sym (value_among gs hs n v (carried (λ g. value_of g.0 gs ≡ Some g.1) (own_values gs differ)) a)
      by_both None (Some v) a b =
          let there = value_among hs gs n v (carried_back (λ g. value_of g.0 hs ≡ Some g.1) (own_values hs differ_too)) b in
          let bad : None ≡ Some v = sym a ∙ there in
          cc

still_unset : (n v : Text) (before got : List Given) → AllByRecursion (Differs n) (keys got) → AllByRecursion (λ g. value_of g.0 before ≡ None) got
    → AllByRecursion (λ g. value_of g.0 (before ++ (n, v) ∷ []) ≡ None) got
still_unset n v before [] differ unset = tt
still_unset n v before (g ∷ got) differ unset = (value_more before g.0 n v differ.0 ∙ unset.0, still_unset n v before got differ.1 unset.1)

are_apart : (os : List Asked) (before got : List Given) → AllByRecursion (λ g. asks g.0 os ≡ true) got → AllByRecursion (λ g. value_of g.0 before ≡ None) got → IsDistinct bytes_eq (keys got) → AreApart os before got
are_apart os before [] asked unset differ = tt
are_apart os before ((n, v) ∷ got) asked unset differ = (
  asked.0,
  unset.0,
  are_apart os (before ++ (n, v) ∷ []) got asked.1 (still_unset n v before got (IsDistinct-head bytes_eq n (keys got) differ) unset.1) (IsDistinct-tail bytes_eq n (keys got) differ),
)

unset_at_first : (got : List Given) → AllByRecursion (λ g. value_of g.0 [] ≡ None) got
unset_at_first [] = tt
unset_at_first (g ∷ got) = (refl, unset_at_first got)

-- the values of the options by name
abbrev pub Agree : (Text → Option Text) → List (Text × Option Text) → Type 0
Agree f = AllByRecursion (λ e. f e.0 ≡ e.1)

agree_behind : (n : Text) (x : Option Text) (gs : List Given) (es : List (Text × Option Text)) → AllByRecursion (λ e. Differs n e.0) es → Agree (λ k. value_of k gs) es
    → Agree (λ k. value_of k (perhaps n x ++ gs)) es
agree_behind n None gs es differ agree = agree
agree_behind n (Some v) gs [] differ agree = tt
agree_behind n (Some v) gs (e ∷ es) differ agree = let other = differ.0 in (rw other agree.0, agree_behind n (Some v) gs es differ.1 agree.1)

agree_given : (os : List Asked) (es : List (Text × Option Text)) → AreNames os → AreFor os es → Agree (λ k. value_of k (given_of es)) es
agree_given [] [] names fits = tt
agree_given [] (e ∷ es) names fits = absurd fits
agree_given (o ∷ os) [] names fits = absurd fits
agree_given (o ∷ os) ((n, x) ∷ es) names fits = (first x, agree_behind n x (given_of es) es apart (agree_given os es names.3 fits.2))
  where
    apart : AllByRecursion (λ e. Differs n e.0) es
    apart = head_apart o os (n, x) es names fits

    first : (x : Option Text) → value_of n (perhaps n x ++ given_of es) ≡ x
    first None = no_value n (given_of es) (not_given n es apart)
    first (Some v) = rw same_text refl

agree_by : (f g : Text → Option Text) → ((n : Text) → f n ≡ g n) → (es : List (Text × Option Text)) → Agree g es → Agree f es
agree_by f g same [] agree = tt
agree_by f g same (e ∷ es) agree = (same e.0 ∙ agree.0, agree_by f g same es agree.1)

-- ---- what has to be given

abbrev Needed : List Asked → (Text → Bool) → Type 0
Needed os is = AllByRecursion (λ o. o.1 ≡ true → is o.0 ≡ true) os

-- an option that has to be given isn't
abbrev lacking : List Asked → List Row → Bool
lacking os rows = list_any (λ (a : Rule). a.required && not (is_given a.id rows)) (rules os)

needed_by : (os : List Asked) (rows : List Row) → lacking os rows ≡ false → Needed os (λ n. is_given n rows)
needed_by [] rows e = tt
needed_by (o ∷ os) rows e = (
  here o.1 (is_given o.0 rows) (first_false (o.1 && not (is_given o.0 rows)) (lacking os rows) e),
  needed_by os rows (second_false (o.1 && not (is_given o.0 rows)) (lacking os rows) e),
)
  where
    here : (q g : Bool) → (q && not g) ≡ false → q ≡ true → g ≡ true
    here q true e is = refl
    here true false e is = sym e
    here false false e is = is

none_lacks : (os : List Asked) (rows : List Row) → Needed os (λ n. is_given n rows) → lacking os rows ≡ false
none_lacks [] rows needed = refl
none_lacks (o ∷ os) rows needed = ap₂ (λ (a b : Bool). a || b) (here o.1 (is_given o.0 rows) needed.0) (none_lacks os rows needed.1)
  where
    here : (q g : Bool) → (q ≡ true → g ≡ true) → (q && not g) ≡ false
    here false g is = refl
    here true true is = refl
    here true false is = sym (is refl)

needed_for : (os : List Asked) (es : List (Text × Option Text)) (f : Text → Option Text) → AreFor os es → Agree f es → Needed os (λ n. is_some (f n))
needed_for [] [] f fits agree = tt
needed_for [] (e ∷ es) f fits agree = absurd fits
needed_for (o ∷ os) [] f fits agree = absurd fits
needed_for (o ∷ os) (e ∷ es) f fits agree = (
  λ q. ap (λ (n : Text). is_some (f n)) (sym fits.0) ∙ ap is_some agree.0 ∙ fits.1 q,
  needed_for os es f fits.2 agree.1,
)

needed_as : (os : List Asked) (f g : Text → Bool) → ((n : Text) → f n ≡ g n) → Needed os g → Needed os f
needed_as [] f g same needed = tt
needed_as (o ∷ os) f g same needed = (λ q. same o.0 ∙ needed.0 q, needed_as os f g same needed.1)

none_missing : (b : Bool) → cond b (MissingRequiredArgument ∷ []) [] ≡ [] → b ≡ false
none_missing false e = refl
none_missing true e = cc

abbrev with_named : Text → Option Text → List (Text × Option Text) → List (Text × Option Text)
with_named n x es = (n, x) ∷ es

found_as : (os : List Asked) (got : List Given) → values_in os (λ n. first_of n (rows_given got)) ≡ values_in os (λ n. value_of n got)
found_as [] got = refl
found_as (o ∷ os) got = ap₂ (with_named o.0) (first_given o.0 got) (found_as os got)

-- ---- the command

default_is : (k : Text) (q : Bool) (rows : List Row) → with_default rows (option_rule k q) ≡ rows
default_is k q rows = elim (has_row k rows) as (λ t. cond t rows rows ≡ rows) [ true ↦ refl | false ↦ refl ]

default_none : (k : Text) (q : Bool) (rows : List Row) → default_fault rows (option_rule k q) ≡ []
default_none k q rows = elim (has_row k rows) as (λ t. cond (t || true) [] (given_default_fault (option_rule k q) []) ≡ []) [ true ↦ refl | false ↦ refl ]

defaults_are : (os : List Asked) (rows : List Row) → fold with_default rows (rules os) ≡ rows
defaults_are [] rows = refl
defaults_are (o ∷ os) rows = ap (λ (rs : List Row). fold with_default rs (rules os)) (default_is o.0 o.1 rows) ∙ defaults_are os rows

no_default : (os : List Asked) (rows : List Row) → defaults_fault rows (rules os) ≡ []
unfolding defaults_fault
no_default [] rows = refl
no_default (o ∷ os) rows = ap₂ or_else (default_none o.0 o.1 rows) (no_default os (with_default rows (option_rule o.0 o.1)))

filled : (os : List Asked) → filled_from 1 (map (λ o. option_of o.0 o.1) os) ≡ rules os
filled [] = refl
filled (o ∷ os) = ap (λ (rs : List Rule). option_rule o.0 o.1 ∷ rs) (filled os)

-- the command takes the words, and finds these values
pub record IsTaken (app : App) (words : List Text) (es : List (Text × Option Text)) : Type 0 where
  pub formed : All IsFormed words
  pub passes : fault_of app words ≡ []
  pub values : Agree (λ n. first_of n (matches_of app words)) es

-- the words are the options with the values that were found, and what has to be given is
pub record IsGiven (os : List Asked) (words : List Text) (rows : List Row) : Type 0 where
  pub are : AreOptions (values_in os (λ n. first_of n rows)) words
  pub needed : AllByRecursion (λ o. o.1 ≡ true → is_some (first_of o.0 rows) ≡ true) os

module _ (name : Text) (os : List Asked) (names : AreNames os) where
  abbrev app : App
  app = options_app name os

  abbrev whole : App
  whole = record { top = built_shape name (rules os); subs = [] }

  abbrev start : Walk
  start = at nothing_held idle

  is_built : built app ≡ whole
  is_built = ap (λ (rs : List Rule). record { top = built_shape name rs; subs = [] }) (filled os)

  abbrev missing : List Row → Kinds
  missing rows = cond (lacking os rows) (MissingRequiredArgument ∷ []) []

  fault_is : (words : List Text) → fault_of app words ≡ or_else (all_fault name (rules os) start words) (missing (rows_behind name (rules os) start words))
  fault_is words =
      let end = (walk (rules os) [] nothing_held words).held in
      let walks = walk_fault (built_shape name (rules os)) [] start words in
      let settles = settle_fault (rules os) false end in
      ap (λ (a : App). built_fault a nothing_held words) is_built
      ∙ leaf_fault whole nothing_held words refl
      ∙ ap₂ (λ (ks : Kinds) (rows : List Row). or_else walks (or_else settles (or_else ks (missing rows)))) (no_default os (settled (rules os) end).rows) (defaults_are os (settled (rules os) end).rows)
      ∙ sym (or_else_assoc walks settles (missing (settled (rules os) end).rows))

  matches_are : (words : List Text) → matches_of app words ≡ rows_behind name (rules os) start words
  matches_are words =
      ap (λ (a : App). rows_after a.top.rules (names_of a) words) is_built ∙ defaults_are os (settled (rules os) (walk (rules os) [] nothing_held words).held).rows

  -- ---- words that the command takes are its options

  by_read : (words : List Text) (after : List Row) → ReadAs os [] words after → missing after ≡ [] → IsGiven os words after
  by_read words after read none =
      let rows : List Row = rows_given read.got in
      let ordered = subst (λ (es : List (Text × Option Text)). IsPermutation (given_of es) read.got) (sym (found_as os read.got)) (gathers os names read.got read.apart) in
      let there = needed_by os rows (none_missing (lacking os rows) (ap missing (sym read.rows) ∙ none)) in
      subst (IsGiven os words) (sym read.rows) (record {
        are = (read.got, ordered, read.turn);
        needed = needed_as os (λ n. is_some (first_of n rows)) (λ n. is_given n rows) (λ n. ap is_some (first_given n read.got) ∙ sym (is_given_given n read.got)) there;
      })

  pub taken : (words : List Text) → All IsFormed words → fault_of app words ≡ [] → IsGiven os words (matches_of app words)
  taken words formed e =
      let faults = all_fault name (rules os) start words in
      let after = rows_behind name (rules os) start words in
      let both : or_else faults (missing after) ≡ [] = sym (fault_is words) ∙ e in
      let good = sound name (rules os) (has_options os names) words formed nothing_held (first_none faults (missing after) both) in
      subst (IsGiven os words) (sym (matches_are words)) (by_read words after (read_as os [] [] after words refl good.reads) (second_none faults (missing after) both))

  -- ---- its options are words that the command takes

  module _ (words : List Text) (es : List (Text × Option Text)) (fits : AreFor os es) (are : AreOptions es words) where
    abbrev got : List Given
    got = are.0

    differ : IsDistinct bytes_eq (keys (given_of es))
    differ = distinct os es names fits

    apart : AreApart os [] got
    apart =
        are_apart os [] got (carried (given_of es) got are.1 differ (λ g. asks g.0 os ≡ true) (all_asked os os es (λ k there. there) fits)) (unset_at_first got)
        (differ_too (given_of es) got are.1 differ)

    passed : Passes name (rules os) nothing_held words (rows_given got)
    passed = complete name (rules os) [] (rows_given got) words (reads_of os names [] got words apart are.2) nothing_held refl refl

    values : Agree (λ n. value_of n got) es
    values = agree_by (λ n. value_of n got) (λ n. value_of n (given_of es)) (same_value (given_of es) got are.1 differ) es (agree_given os es names fits)

    rows_are : matches_of app words ≡ rows_given got
    rows_are = matches_are words ∙ passed.rows

    pub given : IsTaken app words es
    given = record {
      formed = formed os names [] got words apart are.2;
      passes = fault_is words ∙ ap₂ (λ (ks : Kinds) (rows : List Row). or_else ks (missing rows)) passed.passes passed.rows
          ∙ ap (λ (b : Bool). cond b (MissingRequiredArgument ∷ []) [])
          (none_lacks os (rows_given got) (needed_as os (λ n. is_given n (rows_given got)) (λ n. is_some (value_of n got)) (λ n. is_given_given n got) (needed_for os es (λ n. value_of n got) fits values)));
      values = agree_by (λ n. first_of n (matches_of app words)) (λ n. value_of n got) (λ n. ap (first_of n) rows_are ∙ first_given n got) es values;
    }

-- ---- no words

not_none : (n v : Text) (option rest : List Text) → IsOption n v option → [] ≡ option ++ rest → ⊥
not_none n v option rest (inl both) e = let bad : [] ≡ dashed n ∷ v ∷ rest = e ∙ ap (λ (l : List Text). l ++ rest) both.0 in cc
not_none n v option rest (inr one) e = let bad : [] ≡ (dashed n ++ 61 ∷ v) ∷ rest = e ∙ ap (λ (l : List Text). l ++ rest) one in cc

-- no words aren't options of which one has a value
pub not_without : (es : List (Text × Option Text)) (first : Given) (more : List Given) → given_of es ≡ first ∷ more → AreOptions es [] → ⊥
not_without es first more is are = go are.0 (subst (λ (l : List Given). IsPermutation l are.0) is are.1) are.2
  where
    go : (ordered : List Given) → IsPermutation (first ∷ more) ordered → AreInTurn ordered [] → ⊥
    go [] same turn = let long = length_permutation (first ∷ more) [] same in absurd (omega arith)
    go (g ∷ gs) same turn = not_none g.0 g.1 turn.0 turn.1 turn.3 turn.2

-- ---- what was found

pub record IsFound (app : App) (words : List Text) (rows : List Row) : Type 0 where
  pub formed : All IsFormed words
  pub passes : fault_of app words ≡ []
  pub rows_are : rows ≡ matches_of app words

module _ (command : App) (words : List Text) (m : ArgMatches) (found : IsFound command words (rows_of (found_of m))) where
  pub value_is : (name : Text) → first_value (found_of m) name ≡ first_of name (matches_of command words)
  value_is name = first_value-rows (found_of m) name ∙ ap (first_of name) found.rows_are

  -- the text of an option that is given
  pub named_text : (name : Text) (P : Text → Type 0) → IsSomeAnd (first_value (found_of m) name) P → (text : Text) × (first_of name (matches_of command words) ≡ Some text) × P text
  named_text name P is = go (first_value (found_of m) name) (value_is name) is
    where
      go : (o : Option Text) → o ≡ first_of name (matches_of command words) → IsSomeAnd o P → (text : Text) × (first_of name (matches_of command words) ≡ Some text) × P text
      go None same is = absurd is
      go (Some text) same is = (text, sym same, is)

pub some_found : (asked command : App) (ws words : List Text) (o : Option ArgMatches) (found : ArgMatches) → asked ≡ command → ws ≡ words → Finds asked ws o → o ≡ Some found
    → IsFound command words (rows_of (found_of found))
some_found asked command ws words o found same words_are finds is =
    let f = subst (Finds asked ws) is finds in
    subst (λ (a : App). IsFound a words (rows_of (found_of found))) same
    (subst (λ (l : List Text). IsFound asked l (rows_of (found_of found))) words_are (record { formed = f.0; passes = f.1; rows_are = f.2 }))

pub none_found : (asked command : App) (ws words : List Text) (o : Option ArgMatches) → asked ≡ command → ws ≡ words → Finds asked ws o → o ≡ None
    → All IsFormed words → fault_of command words ≡ [] → ⊥
none_found asked command ws words o same words_are finds is =
    subst (λ (a : App). All IsFormed words → fault_of a words ≡ [] → ⊥) same
    (subst (λ (l : List Text). All IsFormed l → fault_of asked l ≡ [] → ⊥) words_are (subst (Finds asked ws) is finds))
