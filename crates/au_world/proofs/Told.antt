-- What is told of sources is told of their tables and rows alone.
use Rattle.std.proofs.Common.{◌≡◌, ◌∙◌, ◌+◌, ◌∷◌, [], ℕ, Bool, true, false, not, cond, ◌||◌, List, map, take, filter, refl, sym, ap, ap₂}
use Rattle.std.specs.List.{enumerate_from, list_any, slice_get}
use Rattle.std.proofs.lemmas.List.{take-map}
use Rattle.au_base.specs.declared.table.Column.{Column}
use Rattle.au_base.specs.declared.table.TableName.{TableName}
use Rattle.au_base.specs.Sameness.{same_table}
use Rattle.au_expr.specs.declared.placed.Placed.{Placed}
use Rattle.au_expr.specs.Rows.{Range}
use Rattle.au_query.specs.declared.source.Source.{Source}
use Rattle.au_query.specs.Answers as answers
use Rattle.au_query.specs.Answers.{Comes, IsReply, columns_at, is_named, takes_part, trees_of}
use Rattle.au_query.specs.Combos.{Line, combos, rows_of, views}
use Rattle.au_world.specs.Inside.{told_by}
use Rattle.au_world.specs.Selecting.{Seen, is_first, named_at, named_over, places_of, rows_of_seen, touched_at, touched_over}

-- what is made of the places that pass a test, where the test and what is made look at what is told alone
pub picked_at : {C : Type 0} (b c : Bool) (x y : C) (xs ys : List C) → c ≡ b → y ≡ x → ys ≡ xs → cond c (y ∷ ys) ys ≡ cond b (x ∷ xs) xs
picked_at b c x y xs ys tests makes rest = ap (λ (t : Bool). cond t (y ∷ ys) ys) tests ∙ ap₂ (λ (z : _) zs. cond b (z ∷ zs) zs) makes rest

pub map_cond : {A C : Type 0} (f : A → C) (b : Bool) (x : A) (xs : List A) → map f (cond b (x ∷ xs) xs) ≡ cond b (f x ∷ map f xs) (map f xs)
map_cond f true x xs = refl
map_cond f false x xs = refl

pub picked : {A B C : Type 0} (f : A → B) (keep : ℕ × A → Bool) (keeps : ℕ × B → Bool) (make : ℕ × A → C) (makes : ℕ × B → C)
    → ((p : ℕ × A) → keeps (p.0, f p.1) ≡ keep p) → ((p : ℕ × A) → makes (p.0, f p.1) ≡ make p)
    → (n : ℕ) (xs : List A) → map makes (filter keeps (enumerate_from n (map f xs))) ≡ map make (filter keep (enumerate_from n xs))
picked f keep keeps make makes tests made n [] = refl
picked f keep keeps make makes tests made n (x ∷ xs) =
    map_cond makes (keeps (n, f x)) (n, f x) (filter keeps (enumerate_from (n + 1) (map f xs)))
    ∙ picked_at (keep (n, x)) (keeps (n, f x)) (make (n, x)) (makes (n, f x))
    (map make (filter keep (enumerate_from (n + 1) xs))) (map makes (filter keeps (enumerate_from (n + 1) (map f xs))))
    (tests (n, x)) (made (n, x)) (picked f keep keeps make makes tests made (n + 1) xs)
    ∙ sym (map_cond make (keep (n, x)) (n, x) (filter keep (enumerate_from (n + 1) xs)))

pub any_mapped : {A B : Type 0} (f : A → B) (test : B → Bool) (xs : List A) → list_any test (map f xs) ≡ list_any (λ x. test (f x)) xs
any_mapped f test [] = refl
any_mapped f test (x ∷ xs) = ap (λ b. test (f x) || b) (any_mapped f test xs)

pub mapped_twice : {A B C : Type 0} (f : A → B) (g : B → C) (xs : List A) → map g (map f xs) ≡ map (λ x. g (f x)) xs
mapped_twice f g [] = refl
mapped_twice f g (x ∷ xs) = ap (λ ys. g (f x) ∷ ys) (mapped_twice f g xs)

pub views_told : (sources : List Source) → views sources ≡ rows_of_seen (map told_by sources)
views_told sources = sym (mapped_twice told_by (λ (table : Seen). table.1) sources)

first_told : (sources : List Source) (p : ℕ × Source) → is_first (map told_by sources) (p.0, told_by p.1) ≡ answers.is_first sources p
first_told sources p =
    ap not (ap (list_any (λ (earlier : Seen). same_table earlier.0 p.1.table)) (take-map told_by p.0 sources)
    ∙ any_mapped told_by (λ (earlier : Seen). same_table earlier.0 p.1.table) (take p.0 sources))

places_told : (table : TableName) (sources : List Source) → places_of table (map told_by sources) ≡ answers.places_of table sources
places_told table sources =
    picked told_by (λ (p : ℕ × Source). same_table p.1.table table) (λ (p : ℕ × Seen). same_table p.1.0 table)
    (λ (p : ℕ × Source). p.0) (λ (p : ℕ × Seen). p.0) (λ p. refl) (λ p. refl) 0 sources

pub touched_told : (combos : List (List Line)) (sources : List Source) → touched_over combos (map told_by sources) ≡ answers.touched_by combos sources
touched_told combos sources =
    picked told_by (answers.is_first sources) (is_first (map told_by sources)) (answers.touched_in combos sources) (touched_at combos (map told_by sources))
    (first_told sources)
    (λ p. ap (λ places. (p.1.table, map (λ (line : Line). line.0) (filter (takes_part combos places) (rows_of p.1)))) (places_told p.1.table sources)) 0 sources

pub named_told : (trees : List Placed) (ranges : List Range) (sources : List Source) → named_over trees ranges (map told_by sources) ≡ answers.named_by trees ranges sources
named_told trees ranges sources =
    picked told_by (answers.is_first sources) (is_first (map told_by sources)) (answers.named_in trees ranges sources) (named_at trees ranges (map told_by sources))
    (first_told sources)
    (λ p. ap (λ places. (p.1.table, map (λ (column : ℕ × Column). column.1.name) (filter (is_named trees places) (enumerate_from 0 (columns_at (slice_get ranges p.0)))))) (places_told p.1.table sources)) 0 sources
