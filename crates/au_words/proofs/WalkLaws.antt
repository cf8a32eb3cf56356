-- The walk of `clap` over the words of a command whose arguments are options of one value each.
use Rattle.std.specs.List.{All}
use Rattle.std.specs.Option.{option_map_or}
use Rattle.std.specs.Prelude.{◌==◌, fold, nat_lt}
use Rattle.std.proofs.Common.{◌≡◌, ◌≢◌, inl, inr, ℕ, zero, suc, Bool, true, false, List, [], ◌∷◌, ◌++◌, Option, Some, None, cond, refl, sym, ap, ap₂, ◌∙◌, subst, arith, eqb-true, ne_eqb}
use Rattle.std.proofs.lemmas.Bool.Decides.{nat_tests}
use Rattle.std.proofs.lemmas.List.Elements.{All-head, All-tail}
use Rattle.std.proofs.lemmas.Slice.Eq.{bytes_eq-Decides}
use Rattle.clap.specs.Faults.{long_fault, settle_fault, step_fault, turn_fault, use_fault, walk_fault}
use Rattle.clap.specs.Kinds.{Kinds, or_else}
use Rattle.clap.specs.Lexer.{name_and_value, short_of}
use Rattle.clap.specs.Simple.{Shape, new_rule, new_shape}
use Rattle.clap.specs.Walk.{Held, Row, Rule, Text, Waiting, Walk, after_flag, after_step, arg_by_id, arg_by_index, arg_by_long, has_row, idle, long_met, option, option_word, positional, reacted, settled, used, used_by_id, walked}
use Rattle.clap.specs.declared.builder.action.ArgAction.TheVariants.{Set}
use Rattle.clap.specs.declared.builder.value_parser.ValueParser.TheVariants as vp
use Rattle.clap.specs.declared.error.kind.ErrorKind.{ErrorKind}
use Rattle.clap.specs.declared.error.kind.ErrorKind.TheVariants.{ArgumentConflict, InvalidValue, UnknownArgument}
use Rattle.clap.proofs.CutLemmas.{Lacks}
use Rattle.clap.proofs.LexerLemmas.{name_and_value-at, name_and_value-without}
use Rattle.au_words.specs.descent.Options.{IsFormed}
use Rattle.au_words.specs.Words.{IsOption, IsOwnWord}

-- ---- the command

-- an option of one value, as the command has it when it is built
abbrev pub option_rule : Text → Bool → Rule
option_rule name required = record (new_rule name) {
  long = Some name;
  action = Some Set;
  range = Some (record { start_inclusive = 1; end_inclusive = 1 });
  parser = Some vp.String;
  required = required;
}

-- a command without subcommands, as it is when it is built
abbrev pub built_shape : Text → List Rule → Shape
built_shape name rules = record (new_shape name) {
  rules = rules;
  no_binary_name = true;
  disable_help_flag = true;
  disable_help_subcommand = true;
  is_built = true;
}

-- an option of the command, by its name
pub record IsNamed (c : List Rule) (n : Text) : Type 0 where
  pub required : Bool
  pub some : n ≢ []
  pub plain : Lacks 61 n
  pub long : arg_by_long c n ≡ Some (option_rule n required)
  pub id : arg_by_id c n ≡ Some (option_rule n required)

-- all arguments of the command are options of one value
pub record HasOptions (c : List Rule) : Type 0 where
  pub no_place : arg_by_index c 1 ≡ None
  pub named : (n : Text) (r : Rule) → arg_by_long c n ≡ Some r → IsNamed c n

-- ---- kinds of errors

pub or_else_assoc : (a b d : Kinds) → or_else (or_else a b) d ≡ or_else a (or_else b d)
or_else_assoc [] b d = refl
or_else_assoc (k ∷ ks) b d = refl

pub first_none : (a b : Kinds) → or_else a b ≡ [] → a ≡ []
first_none [] b e = refl
first_none (k ∷ ks) b e = e

pub second_none : (a b : Kinds) → or_else a b ≡ [] → b ≡ []
second_none [] b e = e
second_none (k ∷ ks) b e = cc

or_else_none : (a : Kinds) → or_else a [] ≡ a
or_else_none [] = refl
or_else_none (k ∷ ks) = refl

some_kind : (k : ErrorKind) (ks : Kinds) → k ∷ ks ≡ [] → ⊥
some_kind k ks e = cc

-- ---- names and values in a word

-- `clap` reads the text behind `--` as this name, and perhaps a value
record IsCut (text n : Text) (value : Option Text) : Type 0 where
  some : text ≢ []
  cut : name_and_value text ≡ (n, value)

pub Lacks-cons : (x : ℕ) (xs : Text) → (x == 61) ≡ false → Lacks 61 xs → Lacks 61 (x ∷ xs)
Lacks-cons x xs e h zero lt = λ (same : x ≡ 61). absurd (grind (arith, nat_tests))
Lacks-cons x xs e h (suc i) lt = h i (omega arith)

-- a text without `=`, or one that is parted at its first `=`
data Parted (text : Text) : Type 0 where
  whole : Lacks 61 text → Parted text
  parted : (n value : Text) → text ≡ n ++ 61 ∷ value → Lacks 61 n → Parted text

parts : (text : Text) → Parted text
parts [] = whole (λ i lt. absurd (omega arith))
parts (x ∷ xs) = go (x == 61) refl (parts xs)
  where
    go : (t : Bool) → (x == 61) ≡ t → Parted xs → Parted (x ∷ xs)
    go true e rest = parted [] xs (ap (λ (k : ℕ). k ∷ xs) (eqb-true x 61 e)) (λ i lt. absurd (omega arith))
    go false e (whole lacks) = whole (Lacks-cons x xs e lacks)
    go false e (parted n value is lacks) = parted (x ∷ n) value (ap (λ (t : Text). x ∷ t) is) (Lacks-cons x n e lacks)

pub more_than_none : (n t : Text) (x : ℕ) → n ++ x ∷ t ≢ []
more_than_none [] t x e = cc
more_than_none (y ∷ ys) t x e = cc

inline_cut : (n value : Text) → Lacks 61 n → IsCut (n ++ 61 ∷ value) n (Some value)
inline_cut n value lacks = record { some = more_than_none n value 61; cut = name_and_value-at n value lacks }

no_short : (y : ℕ) (ys : Text) → (y == 45) ≡ false → short_of (y ∷ ys) ≡ None
no_short y ys e = rw e refl

-- ---- what is read

-- the rows once this option was used
abbrev pub with_option : Text → Text → List Row → List Row
with_option n value rows = used (option_rule n false) (value ∷ []) rows

-- the words are options, none of them twice, that make these rows of those
pub data Reads (c : List Rule) : List Row → List Text → List Row → Type 0 where
  ends : (rows after : List Row) (words : List Text) → words ≡ [] → after ≡ rows → Reads c rows words after
  takes : (rows after : List Row) (words front rest : List Text) (n value : Text) → IsNamed c n → has_row n rows ≡ false
      → IsOption n value front → words ≡ front ++ rest → Reads c (with_option n value rows) rest after → Reads c rows words after

-- the walk stands before a word that nothing waits for, or this option
abbrev pub at : Held → Waiting → Walk
at h waiting = record { held = h; waiting = waiting; position = 1; is_trailing = false; stopped = None }

-- an option that has these values so far
abbrev pub pending_at : List Row → ℕ → Text → List Text → Held
pending_at rows skip n values = record { rows = rows; pending = Some (n, values); skip = skip }

module _ (name : Text) (c : List Rule) where
  abbrev s : Shape
  s = built_shape name c

  -- what a walk that goes on from here fails by, and the rows that it comes to
  abbrev pub all_fault : Walk → List Text → Kinds
  all_fault w words = or_else (walk_fault s [] w words) (settle_fault c false (fold (walked c []) w words).held)

  abbrev pub rows_behind : Walk → List Text → List Row
  rows_behind w words = (settled c (fold (walked c []) w words).held).rows

  -- ---- one word

  record Steps (w behind : Walk) (turn : Kinds) (words rest : List Text) : Type 0 where
    fault : all_fault w words ≡ or_else turn (all_fault behind rest)
    rows : rows_behind w words ≡ rows_behind behind rest

  steps : (w behind : Walk) (turn : Kinds) (word : Text) (rest : List Text) → turn_fault s [] w word ≡ turn → walked c [] w word ≡ behind → Steps w behind turn (word ∷ rest) rest
  unfolding walk_fault
  steps w behind turn word rest t b = record {
    fault = or_else_assoc (turn_fault s [] w word) (walk_fault s [] (walked c [] w word) rest) (settle_fault c false (fold (walked c []) (walked c [] w word) rest).held)
        ∙ ap₂ (λ (ks : Kinds) (v : Walk). or_else ks (all_fault v rest)) t b;
    rows = ap (λ (v : Walk). rows_behind v rest) b;
  }

  refused : (w : Walk) (k : ErrorKind) (ks : Kinds) (word : Text) (rest : List Text) → turn_fault s [] w word ≡ k ∷ ks → all_fault w (word ∷ rest) ≡ [] → ⊥
  refused w k ks word rest t e =
      let behind = walked c [] w word in
      let none : or_else (k ∷ ks) (all_fault behind rest) ≡ [] = sym (steps w behind (k ∷ ks) word rest t refl).fault ∙ e in
      some_kind k ks none

  -- a long word, by the argument that it names and its value
  abbrev long_turn : Waiting → Text → Held → Option Rule → Option Text → Kinds
  long_turn waiting word h found value =
      or_else (long_fault c false found value h)
      (step_fault s 1 (after_flag c waiting word (long_met c found value h).0 (long_met c found value h).1).0
      (after_flag c waiting word (long_met c found value h).0 (long_met c found value h).1).1)

  long_turn_is : (h : Held) (waiting : Waiting) (text n : Text) (value : Option Text) → IsCut text n value
      → turn_fault s [] (at h waiting) (45 ∷ 45 ∷ text) ≡ long_turn waiting (45 ∷ 45 ∷ text) h (arg_by_long c n) value
  long_turn_is h waiting [] n value is = absurd (is.some refl)
  long_turn_is h idle (x ∷ xs) n value is = ap (λ (p : Text × Option Text). long_turn idle (45 ∷ 45 ∷ x ∷ xs) h (arg_by_long c p.0) p.1) is.cut
  long_turn_is h (option id) (x ∷ xs) n value is = ap (λ (p : Text × Option Text). long_turn (option id) (45 ∷ 45 ∷ x ∷ xs) h (arg_by_long c p.0) p.1) is.cut
  long_turn_is h positional (x ∷ xs) n value is = ap (λ (p : Text × Option Text). long_turn positional (45 ∷ 45 ∷ x ∷ xs) h (arg_by_long c p.0) p.1) is.cut

  abbrev long_walk : Text → Held → Option Rule → Option Text → Walk
  long_walk word h found value =
      after_step c word (at h idle) (after_flag c idle word (long_met c found value h).0 (long_met c found value h).1).0
      (after_flag c idle word (long_met c found value h).0 (long_met c found value h).1).1

  long_walked : (h : Held) (text n : Text) (value : Option Text) → IsCut text n value → walked c [] (at h idle) (45 ∷ 45 ∷ text) ≡ long_walk (45 ∷ 45 ∷ text) h (arg_by_long c n) value
  unfolding walked
  long_walked h [] n value is = absurd (is.some refl)
  long_walked h (x ∷ xs) n value is = ap (λ (p : Text × Option Text). long_walk (45 ∷ 45 ∷ x ∷ xs) h (arg_by_long c p.0) p.1) is.cut

  -- `--name=value`
  inline_steps : (h : Held) (text n value : Text) (rest : List Text) (is : IsNamed c n) → IsCut text n (Some value)
      → Steps (at h idle) (at (reacted c (option_rule n is.required) (value ∷ []) h) idle)
      (or_else (settle_fault c false h) (use_fault false (option_rule n is.required) (value ∷ []) (settled c h).rows)) ((45 ∷ 45 ∷ text) ∷ rest) rest
  inline_steps h text n value rest is cut =
      steps (at h idle) _ _ (45 ∷ 45 ∷ text) rest
      (long_turn_is h idle text n (Some value) cut ∙ ap (λ (o : Option Rule). long_turn idle (45 ∷ 45 ∷ text) h o (Some value)) is.long ∙ or_else_none _)
      (long_walked h text n (Some value) cut ∙ ap (λ (o : Option Rule). long_walk (45 ∷ 45 ∷ text) h o (Some value)) is.long)

  -- `--name`
  name_steps : (h : Held) (n : Text) (rest : List Text) → IsNamed c n
      → Steps (at h idle) (at (pending_at (settled c h).rows h.skip n []) (option n)) (settle_fault c false h) ((45 ∷ 45 ∷ n) ∷ rest) rest
  name_steps h n rest is =
      let cut : IsCut n n None = record { some = is.some; cut = name_and_value-without n is.plain } in
      steps (at h idle) _ _ (45 ∷ 45 ∷ n) rest
      (long_turn_is h idle n n None cut ∙ ap (λ (o : Option Rule). long_turn idle (45 ∷ 45 ∷ n) h o None) is.long ∙ or_else_none _)
      (long_walked h n n None cut ∙ ap (λ (o : Option Rule). long_walk (45 ∷ 45 ∷ n) h o None) is.long)

  -- a word that doesn't begin with `-`
  own_turn : (h : Held) (n : Text) (y : ℕ) (ys : Text) → (y == 45) ≡ false → turn_fault s [] (at h (option n)) (y ∷ ys) ≡ []
  own_turn h n y ys e = rw (e, no_short y ys e) refl

  own_walked : (h : Held) (n : Text) (y : ℕ) (ys : Text) → (y == 45) ≡ false
      → walked c [] (at h (option n)) (y ∷ ys) ≡ at (option_word (arg_by_id c n) n (y ∷ ys) h).0 (option_word (arg_by_id c n) n (y ∷ ys) h).1
  unfolding walked
  own_walked h n y ys e = rw (e, no_short y ys e) refl

  -- the value behind `--name`
  value_steps : (rows : List Row) (skip : ℕ) (n : Text) (y : ℕ) (ys : Text) (rest : List Text) → IsNamed c n → y ≢ 45
      → Steps (at (pending_at rows skip n []) (option n)) (at (pending_at rows skip n ((y ∷ ys) ∷ [])) idle) [] ((y ∷ ys) ∷ rest) rest
  value_steps rows skip n y ys rest is own =
      let here = pending_at rows skip n [] in
      steps (at here (option n)) _ _ (y ∷ ys) rest (own_turn here n y ys (ne_eqb y 45 own))
      (own_walked here n y ys (ne_eqb y 45 own) ∙ ap (λ (o : Option Rule). at (option_word o n (y ∷ ys) here).0 (option_word o n (y ∷ ys) here).1) is.id
      ∙ ap (λ (b : Bool). at (pending_at rows skip n ((y ∷ ys) ∷ [])) (cond (nat_lt (cond b 1 0) 1) (option n) idle)) ((bytes_eq-Decides n n).1 refl))

  -- ---- an option that is used

  unused : (n value : Text) (required : Bool) (rows : List Row) → use_fault false (option_rule n required) (value ∷ []) rows ≡ [] → has_row n rows ≡ false
  unused n value required rows e = go (has_row n rows) refl
    where
      go : (t : Bool) → has_row n rows ≡ t → has_row n rows ≡ false
      go false t = t
      go true t = let no : ArgumentConflict ∷ [] ≡ [] = rw t at e in cc

  fresh : (n value : Text) (required : Bool) (rows : List Row) → has_row n rows ≡ false → use_fault false (option_rule n required) (value ∷ []) rows ≡ []
  fresh n value required rows e = rw e refl

  pending_fault : (rows : List Row) (skip : ℕ) (n : Text) (values : List Text) (is : IsNamed c n)
      → settle_fault c false (pending_at rows skip n values) ≡ use_fault false (option_rule n is.required) values rows
  pending_fault rows skip n values is = ap (λ (o : Option Rule). option_map_or (λ a. use_fault false a values rows) o []) is.id

  pending_rows : (rows : List Row) (skip : ℕ) (n value : Text) → IsNamed c n → (settled c (pending_at rows skip n (value ∷ []))).rows ≡ with_option n value rows
  pending_rows rows skip n value is = ap (λ (o : Option Rule). used_by_id o (value ∷ []) rows) is.id

  -- ---- words that the command takes are options

  pub record Good (h : Held) (words : List Text) : Type 0 where
    pub settles : settle_fault c false h ≡ []
    pub reads : Reads c (settled c h).rows words (rows_behind (at h idle) words)

  record Waits (rows : List Row) (skip : ℕ) (n : Text) (words : List Text) : Type 0 where
    value : Text
    rest : List Text
    split : words ≡ value ∷ rest
    own : IsOwnWord value
    new : has_row n rows ≡ false
    reads : Reads c (with_option n value rows) rest (rows_behind (at (pending_at rows skip n []) (option n)) words)

  abbrev AtIdle : List Text → Type 0
  AtIdle words = (h : Held) → all_fault (at h idle) words ≡ [] → Good h words

  abbrev AtOption : List Text → Type 0
  AtOption words = (rows : List Row) (skip : ℕ) (n : Text) → IsNamed c n → all_fault (at (pending_at rows skip n []) (option n)) words ≡ [] → Waits rows skip n words

  module _ (all : HasOptions c) (rest : List Text) (next : AtIdle rest) where
    idle_inline : (h : Held) (n value : Text) → IsNamed c n → all_fault (at h idle) ((45 ∷ 45 ∷ n ++ 61 ∷ value) ∷ rest) ≡ [] → Good h ((45 ∷ 45 ∷ n ++ 61 ∷ value) ∷ rest)
    idle_inline h n value is e =
        let word = 45 ∷ 45 ∷ n ++ 61 ∷ value in
        let rows = (settled c h).rows in
        let r = option_rule n is.required in
        let there = reacted c r (value ∷ []) h in
        let step = inline_steps h (n ++ 61 ∷ value) n value rest is (inline_cut n value is.plain) in
        let turn = or_else (settle_fault c false h) (use_fault false r (value ∷ []) rows) in
        let passes : or_else turn (all_fault (at there idle) rest) ≡ [] = sym step.fault ∙ e in
        let none = first_none turn _ passes in
        record {
          settles = first_none (settle_fault c false h) _ none;
          reads = takes rows _ (word ∷ rest) (word ∷ []) rest n value is (unused n value is.required rows (second_none (settle_fault c false h) _ none)) (inr refl) refl
              (subst (λ (after : List Row). Reads c (with_option n value rows) rest after) (sym step.rows) (next there (second_none turn _ passes)).reads);
        }

    idle_name : AtOption rest → (h : Held) (n : Text) → IsNamed c n → all_fault (at h idle) ((45 ∷ 45 ∷ n) ∷ rest) ≡ [] → Good h ((45 ∷ 45 ∷ n) ∷ rest)
    idle_name waits h n is e =
        let word = 45 ∷ 45 ∷ n in
        let rows = (settled c h).rows in
        let step = name_steps h n rest is in
        let passes : or_else (settle_fault c false h) (all_fault (at (pending_at rows h.skip n []) (option n)) rest) ≡ [] = sym step.fault ∙ e in
        let found = waits rows h.skip n is (second_none (settle_fault c false h) _ passes) in
        record {
          settles = first_none (settle_fault c false h) _ passes;
          reads = takes rows _ (word ∷ rest) (word ∷ found.value ∷ []) found.rest n found.value is found.new (inl (refl, found.own)) (ap (λ (l : List Text). word ∷ l) found.split)
              (subst (λ (after : List Row). Reads c (with_option n found.value rows) found.rest after) (sym step.rows) found.reads);
        }

    -- a name that the command doesn't know
    unknown : (h : Held) (text n : Text) (value : Option Text) → IsCut text n value → arg_by_long c n ≡ None → all_fault (at h idle) ((45 ∷ 45 ∷ text) ∷ rest) ≡ [] → ⊥
    unknown h text n value cut none =
        refused (at h idle) UnknownArgument _ (45 ∷ 45 ∷ text) rest (long_turn_is h idle text n value cut ∙ ap (λ (o : Option Rule). long_turn idle (45 ∷ 45 ∷ text) h o value) none)

    idle_long : AtOption rest → (text : Text) → text ≢ [] → AtIdle ((45 ∷ 45 ∷ text) ∷ rest)
    idle_long waits text some h e = by_parts (parts text)
      where
        by_whole : IsCut text text None → (found : Option Rule) → arg_by_long c text ≡ found → Good h ((45 ∷ 45 ∷ text) ∷ rest)
        by_whole cut None is = absurd (unknown h text text None cut is e)
        by_whole cut (Some r) is = idle_name waits h text (all.named text r is) e

        by_name : (n value : Text) → text ≡ n ++ 61 ∷ value → Lacks 61 n → (found : Option Rule) → arg_by_long c n ≡ found → Good h ((45 ∷ 45 ∷ text) ∷ rest)
        by_name n value split lacks None is = absurd (unknown h text n (Some value) (subst (λ (t : Text). IsCut t n (Some value)) (sym split) (inline_cut n value lacks)) is e)
        by_name n value split lacks (Some r) is =
            subst (λ (t : Text). all_fault (at h idle) ((45 ∷ 45 ∷ t) ∷ rest) ≡ [] → Good h ((45 ∷ 45 ∷ t) ∷ rest)) (sym split) (idle_inline h n value (all.named n r is)) e

        by_parts : Parted text → Good h ((45 ∷ 45 ∷ text) ∷ rest)
        by_parts (whole lacks) = by_whole (record { some = some; cut = name_and_value-without text lacks }) (arg_by_long c text) refl
        by_parts (parted n value split lacks) = by_name n value split lacks (arg_by_long c n) refl

    idle_own : (h : Held) (y : ℕ) (ys : Text) → y ≢ 45 → all_fault (at h idle) ((y ∷ ys) ∷ rest) ≡ [] → ⊥
    idle_own h y ys own = refused (at h idle) UnknownArgument [] (y ∷ ys) rest (let e = ne_eqb y 45 own in rw (e, no_short y ys e, all.no_place) refl)

    -- an option where a value is due
    option_long : (text : Text) → text ≢ [] → (rows : List Row) (skip : ℕ) (n : Text) → IsNamed c n → all_fault (at (pending_at rows skip n []) (option n)) ((45 ∷ 45 ∷ text) ∷ rest) ≡ [] → ⊥
    option_long text some rows skip n is e = by_rule (arg_by_long c (name_and_value text).0) refl (name_and_value text).1 refl
      where
        turn : (found : Option Rule) → arg_by_long c (name_and_value text).0 ≡ found → (v : Option Text) → (name_and_value text).1 ≡ v
            → turn_fault s [] (at (pending_at rows skip n []) (option n)) (45 ∷ 45 ∷ text) ≡ long_turn (option n) (45 ∷ 45 ∷ text) (pending_at rows skip n []) found v
        turn found is v cut =
            long_turn_is (pending_at rows skip n []) (option n) text (name_and_value text).0 v (record { some = some; cut = ap (λ (o : Option Text). ((name_and_value text).0, o)) cut })
            ∙ ap (λ (o : Option Rule). long_turn (option n) (45 ∷ 45 ∷ text) (pending_at rows skip n []) o v) is

        by_rule : (found : Option Rule) → arg_by_long c (name_and_value text).0 ≡ found → (v : Option Text) → (name_and_value text).1 ≡ v → ⊥
        by_rule None found v cut = refused (at (pending_at rows skip n []) (option n)) UnknownArgument _ (45 ∷ 45 ∷ text) rest (turn None found v cut) e
        by_rule (Some r) found (Some v) cut =
            let known = all.named (name_and_value text).0 r found in
            let other = option_rule (name_and_value text).0 known.required in
            refused (at (pending_at rows skip n []) (option n)) InvalidValue [] (45 ∷ 45 ∷ text) rest
            (turn (Some other) known.long (Some v) cut ∙ ap (λ (ks : Kinds). or_else (or_else ks (use_fault false other (v ∷ []) (settled c (pending_at rows skip n [])).rows)) []) (pending_fault rows skip n [] is)) e
        by_rule (Some r) found None cut =
            let known = all.named (name_and_value text).0 r found in
            refused (at (pending_at rows skip n []) (option n)) InvalidValue [] (45 ∷ 45 ∷ text) rest
            (turn (Some (option_rule (name_and_value text).0 known.required)) known.long None cut ∙ ap (λ (ks : Kinds). or_else ks []) (pending_fault rows skip n [] is)) e

    option_own : (y : ℕ) (ys : Text) → y ≢ 45 → AtOption ((y ∷ ys) ∷ rest)
    option_own y ys own rows skip n is e =
        let word = y ∷ ys in
        let there = pending_at rows skip n (word ∷ []) in
        let step = value_steps rows skip n y ys rest is own in
        let good = next there (sym step.fault ∙ e) in
        record {
          value = word;
          rest = rest;
          split = refl;
          own = own;
          new = unused n word is.required rows (sym (pending_fault rows skip n (word ∷ []) is) ∙ good.settles);
          reads = subst (λ (after : List Row). Reads c (with_option n word rows) rest after) (sym step.rows)
              (subst (λ (from : List Row). Reads c from rest (rows_behind (at there idle) rest)) (pending_rows rows skip n word is) good.reads);
        }

    idle_word : AtOption rest → (word : Text) → IsFormed word → AtIdle (word ∷ rest)
    idle_word waits word (inl long) h e = subst (λ (w : Text). AtIdle (w ∷ rest)) (sym long.1) (idle_long waits long.0 long.2) h e
    idle_word waits [] (inr own) h e = absurd own
    idle_word waits (y ∷ ys) (inr own) h e = absurd (idle_own h y ys own e)

    option_is : (word : Text) → IsFormed word → AtOption (word ∷ rest)
    option_is word (inl long) rows skip n is e =
        absurd (option_long long.0 long.2 rows skip n is (subst (λ (w : Text). all_fault (at (pending_at rows skip n []) (option n)) (w ∷ rest) ≡ []) long.1 e))
    option_is [] (inr own) rows skip n is e = absurd own
    option_is (y ∷ ys) (inr own) rows skip n is e = option_own y ys own rows skip n is e

  sound_at : HasOptions c → (words : List Text) → All IsFormed words → AtIdle words × AtOption words
  unfolding walk_fault
  sound_at all [] formed = (
    λ h e. record { settles = e; reads = ends _ _ [] refl refl },
    λ rows skip n is e. absurd (some_kind InvalidValue [] (sym (pending_fault rows skip n [] is) ∙ e)),
  )
  sound_at all (word ∷ rest) formed =
      let next = sound_at all rest (All-tail IsFormed word rest formed) in
      let first = All-head IsFormed word rest formed in
      (idle_word all rest next.0 next.1 word first, option_is all rest next.0 word first)

  pub sound : HasOptions c → (words : List Text) → All IsFormed words → (h : Held) → all_fault (at h idle) words ≡ [] → Good h words
  sound all words formed = (sound_at all words formed).0

  -- ---- options are words that the command takes

  pub record Passes (h : Held) (words : List Text) (after : List Row) : Type 0 where
    pub passes : all_fault (at h idle) words ≡ []
    pub rows : rows_behind (at h idle) words ≡ after

  onward : (h behind : Held) (turn : Kinds) (words rest : List Text) (after : List Row) → Steps (at h idle) (at behind idle) turn words rest → turn ≡ [] → Passes behind rest after → Passes h words after
  onward h behind turn words rest after step none passed = record {
    passes = step.fault ∙ ap₂ or_else none passed.passes;
    rows = step.rows ∙ passed.rows;
  }

  pub complete : (rows after : List Row) (words : List Text) → Reads c rows words after → (h : Held) → settle_fault c false h ≡ [] → (settled c h).rows ≡ rows → Passes h words after
  unfolding walk_fault
  complete _ _ _ (ends rows after words none is) h e at_rows =
      subst (λ (l : List Text). Passes h l after) (sym none) (record { passes = e; rows = at_rows ∙ sym is })
  complete _ _ _ (takes rows after words front rest n value is new (inr one) split more) h e at_rows =
      let used_fault = fresh n value is.required (settled c h).rows (ap (has_row n) at_rows ∙ new) in
      let there = reacted c (option_rule n is.required) (value ∷ []) h in
      let step = inline_steps h (n ++ 61 ∷ value) n value rest is (inline_cut n value is.plain) in
      subst (λ (l : List Text). Passes h l after) (sym (split ∙ ap (λ (l : List Text). l ++ rest) one))
      (onward h there _ _ rest after step (ap₂ or_else e used_fault) (complete _ _ _ more there refl (ap (with_option n value) at_rows)))
  complete _ _ _ (takes rows after words front rest n [] is new (inl both) split more) h e at_rows = absurd both.1
  complete _ _ _ (takes rows after words front rest n (y ∷ ys) is new (inl both) split more) h e at_rows =
      let held = (settled c h).rows in
      let value = y ∷ ys in
      let used_fault = fresh n value is.required held (ap (has_row n) at_rows ∙ new) in
      let there = pending_at held h.skip n (value ∷ []) in
      let first = name_steps h n (value ∷ rest) is in
      let second = value_steps held h.skip n y ys rest is both.1 in
      let step : Steps (at h idle) (at there idle) (settle_fault c false h) ((45 ∷ 45 ∷ n) ∷ value ∷ rest) rest =
      record { fault = first.fault ∙ ap (or_else (settle_fault c false h)) second.fault; rows = first.rows ∙ second.rows } in
      subst (λ (l : List Text). Passes h l after) (sym (split ∙ ap (λ (l : List Text). l ++ rest) both.0))
      (onward h there _ _ rest after step e
      (complete _ _ _ more there (pending_fault held h.skip n (value ∷ []) is ∙ used_fault) (pending_rows held h.skip n value is ∙ ap (with_option n value) at_rows)))
