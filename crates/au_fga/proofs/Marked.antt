-- Candidates are marked, piece by piece of the rows.
use Rattle.std.proofs.Common.{◌≡◌, ◌≤◌, ◌<◌, ◌∙◌, ℕ, zero, suc, Bool, true, false, ◌&&◌, ◌||◌, List, [], ◌∷◌, ◌++◌, map, length, get_or, take, drop, set, refl, sym, ap, ap₂, arith}
use Rattle.std.specs.Prelude.{replicate}
use Rattle.std.specs.Borrow.{Bor}
use Rattle.std.specs.List.{list_any}
use Rattle.std.proofs.Math.Bool.{or_assoc}
use Rattle.std.proofs.lemmas.List.Folds.{list_any-append}
use Rattle.au_base.specs.declared.cell.Cell.{Cell}
use Rattle.au_base.specs.declared.table.TableName.{TableName}
use Rattle.au_base.specs.Sameness.{same_table}
use Rattle.au_expr.specs.Sessions.{Session}
use Rattle.au_fga.specs.declared.candidates.Candidate.{Candidate}
use Rattle.au_fga.specs.descent.Candidates.{hits}
use Rattle.au_fga.specs.descent.Comparing.{passes}
use Rattle.au_fga.specs.descent.Rows.{some_lent}

pub map_alike : {X Y : Type 0} (f g : X → Y) → ((x : X) → f x ≡ g x) → (xs : List X) → map f xs ≡ map g xs
map_alike f g same [] = refl
map_alike f g same (x ∷ xs) = ap₂ (λ y ys. y ∷ ys) (same x) (map_alike f g same xs)

-- ---- one candidate after another

-- what stands at the place, where those before it are marked
pub marked_at : {X : Type 0} (f g : X → Bool) (xs : List X) (i : ℕ) (x : X) (d : Bool) → i < length xs → x ≡ get_or xs i x → get_or (map g (take i xs) ++ map f (drop i xs)) i d ≡ f x
marked_at f g [] i x d within is = absurd (omega arith)
marked_at f g (y ∷ xs) zero x d within is = ap f (sym is)
marked_at f g (y ∷ xs) (suc i) x d within is = marked_at f g xs i x d (omega arith) is

pub marked_next : {X : Type 0} (f g : X → Bool) (xs : List X) (i : ℕ) (x : X) (b : Bool) → i < length xs → x ≡ get_or xs i x → b ≡ g x
    → set (map g (take i xs) ++ map f (drop i xs)) i b ≡ map g (take (suc i) xs) ++ map f (drop (suc i) xs)
marked_next f g [] i x b within is marked = absurd (omega arith)
marked_next f g (y ∷ xs) zero x b within is marked = ap (λ (t : Bool). t ∷ map f xs) (marked ∙ ap g is)
marked_next f g (y ∷ xs) (suc i) x b within is marked = ap (λ (rest : List Bool). g y ∷ rest) (marked_next f g xs i x b (omega arith) is marked)

pub marked_all : {X : Type 0} (f g : X → Bool) (xs : List X) (n : ℕ) → length xs ≤ n → map g (take n xs) ++ map f (drop n xs) ≡ map g xs
marked_all f g [] zero end = refl
marked_all f g [] (suc n) end = refl
marked_all f g (x ∷ xs) zero end = absurd (omega arith)
marked_all f g (x ∷ xs) (suc n) end = ap (λ (rest : List Bool). g x ∷ rest) (marked_all f g xs n (omega arith))

none_marked : {X : Type 0} (xs : List X) (n : ℕ) → n ≡ length xs → replicate n false ≡ map (λ (x : X). false) xs
none_marked [] zero is = refl
none_marked [] (suc n) is = absurd (omega arith)
none_marked (x ∷ xs) zero is = absurd (omega arith)
none_marked (x ∷ xs) (suc n) is = ap (λ rest. false ∷ rest) (none_marked xs n (omega arith))

-- a list of so many that is new
pub cleared : {X : Type 0} (xs : List X) (items old : List Bool) (n m : ℕ) → items ≡ take n old ++ replicate m false → old ≡ [] → m ≡ length xs → items ≡ map (λ (x : X). false) xs
cleared xs items old n m is empty many = is ∙ ap (λ (bs : List Bool). take n bs ++ replicate m false) empty ∙ by_case n ∙ none_marked xs m many
  where
    by_case : (k : ℕ) → take k [] ++ replicate m false ≡ replicate m false
    by_case zero = refl
    by_case (suc k) = refl

-- ---- one piece of the rows after another

and_over : (a b c : Bool) → (a && (b || c)) ≡ ((a && b) || (a && c))
and_over true b c = refl
and_over false b c = refl

or_none : (b same : Bool) → (b || (same && false)) ≡ b
or_none true same = refl
or_none false true = refl
or_none false false = refl

hits_parted : (session : Session) (table : TableName) (piece later : List (Bor (List Cell))) (c : Candidate) → hits session table (piece ++ later) c ≡ (hits session table piece c || hits session table later c)
hits_parted session table piece later c =
    let same = same_table table c.name.now.table in
    ap (λ (b : Bool). same && b) (list_any-append (λ (cells : Bor (List Cell)). passes session c.test cells.now) piece later)
    ∙ and_over same (some_lent (passes session c.test) piece) (some_lent (passes session c.test) later)

-- so far marked, with what is left, is what is marked at last
abbrev pub Marking : Session → TableName → List Candidate → (Candidate → Bool) → List (Bor (List Cell)) → List Bool → List (Bor (List Cell)) → Type 0
Marking session table candidates before rows met rest =
    (now : Candidate → Bool) × (met ≡ map now candidates) × ((c : Candidate) → (now c || hits session table rest c) ≡ (before c || hits session table rows c))

pub piece_marked : (session : Session) (table : TableName) (candidates : List Candidate) (before : Candidate → Bool) (rows : List (Bor (List Cell))) (met new : List Bool) (rest piece later : List (Bor (List Cell)))
    → rest ≡ piece ++ later → ((now : Candidate → Bool) → met ≡ map now candidates → new ≡ map (λ (c : Candidate). now c || hits session table piece c) candidates)
    → Marking session table candidates before rows met rest → Marking session table candidates before rows new later
piece_marked session table candidates before rows met new rest piece later parted marked so_far =
    let now = so_far.0 in (
      (λ (c : Candidate). now c || hits session table piece c),
      marked now so_far.1,
      λ c. or_assoc (now c) (hits session table piece c) (hits session table later c)
          ∙ ap (λ (b : Bool). now c || b) (sym (hits_parted session table piece later c))
          ∙ ap (λ (xs : List (Bor (List Cell))). now c || hits session table xs c) (sym parted)
          ∙ so_far.2 c,
    )

pub all_marked : (session : Session) (table : TableName) (candidates : List Candidate) (before : Candidate → Bool) (rows : List (Bor (List Cell))) (met : List Bool) (rest : List (Bor (List Cell)))
    → rest ≡ [] → Marking session table candidates before rows met rest → met ≡ map (λ (c : Candidate). before c || hits session table rows c) candidates
all_marked session table candidates before rows met rest end so_far =
    let now = so_far.0 in
    so_far.1
    ∙ map_alike now (λ (c : Candidate). before c || hits session table rows c)
    (λ c. sym (or_none (now c) (same_table table c.name.now.table)) ∙ ap (λ (xs : List (Bor (List Cell))). now c || hits session table xs c) (sym end) ∙ so_far.2 c)
    candidates

-- ---- one table after another

pub any_more : {X : Type 0} (test : X → Bool) (xs : List X) (i : ℕ) (x : X) → i < length xs → x ≡ get_or xs i x → (list_any test (take i xs) || test x) ≡ list_any test (take (suc i) xs)
any_more test [] i x within is = absurd (omega arith)
any_more test (y ∷ xs) zero x within is = ap test is ∙ sym (last (test y))
  where
    last : (b : Bool) → (b || false) ≡ b
    last true = refl
    last false = refl
any_more test (y ∷ xs) (suc i) x within is = or_assoc (test y) (list_any test (take i xs)) (test x) ∙ ap (λ (b : Bool). test y || b) (any_more test xs i x (omega arith) is)
