-- Changes with trees for their conditions, as edits.
use Rattle.std.proofs.Common.{◌≡◌, ◌≤◌, ◌∙◌, ◌+◌, ℕ, List, [], ◌∷◌, ◌++◌, length, drop, get_or, map, refl, sym, ap, ap₂, append_assoc, add-one, arith}
use Rattle.std.proofs.Math.Seq.{drop-cons}
use Rattle.std.proofs.lemmas.List.{length-append, length-drop}
use Rattle.std.specs.Prelude.{◌<◌, Option, Some, None, option_to_list}
use Rattle.au_entries.specs.declared.change.Change.{Change}
use Rattle.au_entries.specs.declared.change.Change.TheVariants as change
use Rattle.au_catalog.specs.declared.edit.Edit.{Edit}
use Rattle.au_catalog.specs.Settling.{condition_texts, texts_in}
use Rattle.au_catalog.specs.Staging.{edit_of, edits_of, edits_with, first_of}
use Rattle.sql_ast.specs.declared.expression.Expr.{Expr}

-- ---- trees that texts are read as

-- the first of the trees is that of the text of the change
one_with : (tree : List ℕ → Expr) (c : Change) (more : List (List ℕ)) → edit_of (first_of (map tree (texts_in c ++ more))) c ≡ edit_of tree c
one_with tree (change.User name verifier) more = refl
one_with tree (change.UserGone name) more = refl
one_with tree (change.Role name) more = refl
one_with tree (change.RoleGone name) more = refl
one_with tree (change.SysGrant grantee privilege admin) more = refl
one_with tree (change.SysRevoke grantee privilege) more = refl
one_with tree (change.RoleGrant grantee role admin) more = refl
one_with tree (change.RoleRevoke grantee role) more = refl
one_with tree (change.ObjGrant grantee table action) more = refl
one_with tree (change.ObjRevoke grantee table action) more = refl
one_with tree (change.Table name columns key) more = refl
one_with tree (change.TableGone name) more = refl
one_with tree (change.Put table number cells) more = refl
one_with tree (change.Gone table number) more = refl
one_with tree (change.Policy name privileges actions roles None) more = refl
one_with tree (change.Policy name privileges actions roles (Some when)) more = refl
one_with tree (change.PolicyGone name) more = refl
one_with tree (change.Enable policy enabled) more = refl
one_with tree (change.Fga table policy None columns all types enabled) more = refl
one_with tree (change.Fga table policy (Some text) columns all types enabled) more = refl
one_with tree (change.FgaGone table policy) more = refl
one_with tree (change.Archive stamp) more = refl
one_with tree (change.Start instance) more = refl

mapped_left : {X Y : Type 0} (f : X → Y) (xs ys : List X) → drop (length xs) (map f (xs ++ ys)) ≡ map f ys
mapped_left f [] ys = refl
mapped_left f (x ∷ xs) ys = mapped_left f xs ys

with_trees : (tree : List ℕ → Expr) (changes : List Change) → edits_with (map tree (condition_texts changes)) changes ≡ edits_of tree changes
with_trees tree [] = refl
with_trees tree (c ∷ changes) =
    ap₂ (λ (edit : Option Edit) (edits : List Edit). option_to_list edit ++ edits) (one_with tree c (condition_texts changes))
    (ap (λ (trees : List Expr). edits_with trees changes) (mapped_left tree (texts_in c) (condition_texts changes)) ∙ with_trees tree changes)

-- trees that the texts are read as are staged so
pub read_trees : (tree : List ℕ → Expr) (changes : List Change) (trees : List Expr) → map tree (condition_texts changes) ≡ trees → edits_with trees changes ≡ edits_of tree changes
read_trees tree changes trees same = ap (λ (ts : List Expr). edits_with ts changes) (sym same) ∙ with_trees tree changes

-- ---- change by change

-- the change that comes next, and those behind it
pub next : (changes : List Change) (i : ℕ) (c : Change) → i < length changes → c ≡ get_or changes i c → drop i changes ≡ c ∷ drop (i + 1) changes
next changes i c within is = drop-cons changes i c within ∙ ap₂ (λ (x : Change) (n : ℕ). x ∷ drop n changes) (sym is) (sym (add-one i))

-- as many trees as all texts are enough for the first change
pub enough_first : (c : Change) (changes rest : List Change) (trees : List Expr) → changes ≡ c ∷ rest → length (condition_texts changes) ≤ length trees → length (texts_in c) ≤ length trees
enough_first c changes rest trees is enough =
    let all = ap (λ (cs : List Change). length (condition_texts cs)) is in
    let parts = length-append (texts_in c) (condition_texts rest) in
    omega (arith, all, parts, enough)

-- and what is left of them for the others
pub enough_left : (c : Change) (changes rest : List Change) (trees later : List Expr) → changes ≡ c ∷ rest → later ≡ drop (length (texts_in c)) trees → length (condition_texts changes) ≤ length trees
    → length (condition_texts rest) ≤ length later
enough_left c changes rest trees later is left enough =
    let all = ap (λ (cs : List Change). length (condition_texts cs)) is in
    let parts = length-append (texts_in c) (condition_texts rest) in
    let long = ap length left ∙ length-drop (length (texts_in c)) trees in
    omega (arith, all, parts, long, enough)

-- once the first is pushed, the others come behind it
pub pushed_left : (c : Change) (changes rest : List Change) (trees later : List Expr) (edits pushed whole : List Edit) → changes ≡ c ∷ rest → later ≡ drop (length (texts_in c)) trees
    → pushed ≡ edits ++ option_to_list (edit_of (first_of trees) c) → edits ++ edits_with trees changes ≡ whole → pushed ++ edits_with later rest ≡ whole
pushed_left c changes rest trees later edits pushed whole is left are so_far =
    ap₂ (λ (es : List Edit) (ts : List Expr). es ++ edits_with ts rest) are left
    ∙ append_assoc edits (option_to_list (edit_of (first_of trees) c)) (edits_with (drop (length (texts_in c)) trees) rest)
    ∙ ap (λ (cs : List Change). edits ++ edits_with trees cs) (sym is) ∙ so_far
