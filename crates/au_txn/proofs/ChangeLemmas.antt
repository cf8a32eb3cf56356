-- The last change of a row, among all changes and among those of one client.
use Rattle.std.proofs.Common.{◌≡◌, ◌≢◌, ◌∙◌, ℕ, Bool, true, false, not, cond, ◌&&◌, ◌||◌, List, [], ◌∷◌, ◌++◌, filter, map, refl, sym, ap, ap₂, subst, arith, Option, None, Some}
use Rattle.std.specs.Prelude.{◌==◌}
use Rattle.std.specs.List.{AllByRecursion}
use Rattle.std.specs.Option.{option_map}
use Rattle.std.proofs.lemmas.Bool.{and_parts, and_from}
use Rattle.std.proofs.lemmas.Bool.Decides.{nat_tests}
use Rattle.au_base.specs.declared.cell.Cell.{Cell}
use Rattle.au_base.specs.declared.numbers.ClientNo.{ClientNo}
use Rattle.au_base.specs.declared.numbers.RowNo.{RowNo}
use Rattle.au_base.specs.declared.table.TableName.{TableName}
use Rattle.au_base.specs.Sameness.{same_table}
use Rattle.au_rows.specs.declared.table.Table.{Table}
use Rattle.au_rows.specs.Held.{Change, IsOpen, changes_of_others, is_others, is_this, last_change, number_of, or_else}
use Rattle.au_txn.specs.declared.change.RowChange.{RowChange}
use Rattle.au_txn.specs.Inside.{is_own, kept_change, own_changes}
use Rattle.au_txn.specs.Transactions.{is_of_row, names_row}
use Rattle.au_txn.proofs.Histories.{last_made}
use Rattle.au_txn.proofs.RowOrder.{number-self, same_table-self}
use Rattle.au_txn.proofs.TableLemmas.{same-number}

-- what is known of a change, where it is of the row
abbrev pub if_this : ℕ → RowNo → Change → Option (ClientNo × Option (List Cell))
if_this k n change = cond (is_this k n change.table change.number) (Some (change.by, change.content)) None

or-none : {A : Type 0} (a b : Option A) → or_else a b ≡ None → (a ≡ None) × (b ≡ None)
or-none None b e = (refl, e)
or-none (Some x) b e = absurd (let wrong : Some x ≡ None = e in cc)

none-at : (p : Change → Bool) (k : ℕ) (n : RowNo) (change : Change) (rest : List Change) (b : Bool) → if_this k n change ≡ None → last_change k n (filter p rest) ≡ None
    → last_change k n (cond b (change ∷ filter p rest) (filter p rest)) ≡ None
none-at p k n change rest true it later = ap₂ or_else later it
none-at p k n change rest false it later = later

-- fewer changes have no change of a row either
pub last-none : (p : Change → Bool) (k : ℕ) (n : RowNo) (changes : List Change) → last_change k n changes ≡ None → last_change k n (filter p changes) ≡ None
last-none p k n [] e = refl
last-none p k n (change ∷ rest) e =
    let parts = or-none (last_change k n rest) (if_this k n change) e in
    none-at p k n change rest (p change) parts.1 (last-none p k n rest parts.0)

module _ (p : Change → Bool) (k : ℕ) (n : RowNo) (d : ClientNo) (content : Option (List Cell)) (stays : (change : Change) → change.by ≡ d → p change ≡ true) where
  later-at : (change : Change) (rest : List Change) (b : Bool) → last_change k n (filter p rest) ≡ Some (d, content)
      → last_change k n (cond b (change ∷ filter p rest) (filter p rest)) ≡ Some (d, content)
  later-at change rest true later = ap (λ o. or_else o (if_this k n change)) later
  later-at change rest false later = later

  here-at : (change : Change) (rest : List Change) (b : Bool) → is_this k n change.table change.number ≡ b → last_change k n rest ≡ None
      → cond b (Some (let x : ClientNo × Option (List Cell) = (change.by, change.content) in x)) None ≡ Some (d, content)
      → last_change k n (cond (p change) (change ∷ filter p rest) (filter p rest)) ≡ Some (d, content)
  here-at change rest false e none is = absurd (let wrong : None ≡ Some (let x : ClientNo × Option (List Cell) = (d, content) in x) = is in cc)
  here-at change rest true e none is =
      let pair : ◌≡◌ {A = ClientNo × Option (List Cell)} (change.by, change.content) (d, content) = cc in
      let by : change.by ≡ d = ap (λ (x : ClientNo × Option (List Cell)). x.0) pair in
      ap (λ b. last_change k n (cond b (change ∷ filter p rest) (filter p rest))) (stays change by)
      ∙ (ap (λ o. or_else o (if_this k n change)) (last-none p k n rest none) ∙ (ap (λ b. cond b (Some (let x : ClientNo × Option (List Cell) = (change.by, change.content) in x)) None) e ∙ is))

  kept-at : (change : Change) (rest : List Change) (o : Option (ClientNo × Option (List Cell))) → last_change k n rest ≡ o → or_else o (if_this k n change) ≡ Some (d, content)
      → (last_change k n rest ≡ Some (d, content) → last_change k n (filter p rest) ≡ Some (d, content))
      → last_change k n (cond (p change) (change ∷ filter p rest) (filter p rest)) ≡ Some (d, content)
  kept-at change rest None none is more = here-at change rest (is_this k n change.table change.number) refl none is
  kept-at change rest (Some x) some is more = later-at change rest (p change) (more (some ∙ is))

  -- the last change stays the last where it is kept
  pub last-kept : (changes : List Change) → last_change k n changes ≡ Some (d, content) → last_change k n (filter p changes) ≡ Some (d, content)
  last-kept [] e = e
  last-kept (change ∷ rest) e = kept-at change rest (last_change k n rest) refl e (last-kept rest)

own-stays : (d : ClientNo) (change : Change) → change.by ≡ d → is_own d change ≡ true
own-stays d change by = subst (λ (c : ClientNo). (change.by.0 == c.0) ≡ true) by (number-self change.by.0)

-- the last change of a row is the last of its client's
pub last-own : (k : ℕ) (n : RowNo) (d : ClientNo) (content : Option (List Cell)) (changes : List Change) → last_change k n changes ≡ Some (d, content)
    → last_change k n (own_changes d changes) ≡ Some (d, content)
last-own k n d content changes e = last-kept (is_own d) k n d content (own-stays d) changes e

others-stay : (c d : ClientNo) → d.0 ≢ c.0 → (change : Change) → change.by ≡ d → is_others c change ≡ true
others-stay c d ne change by = ap not (subst (λ (x : ClientNo). (x.0 == c.0) ≡ false) (sym by) (grind (arith, nat_tests)))

pub last-others : (k : ℕ) (n : RowNo) (c d : ClientNo) (content : Option (List Cell)) (changes : List Change) → d.0 ≢ c.0 → last_change k n changes ≡ Some (d, content)
    → last_change k n (changes_of_others c changes) ≡ Some (d, content)
last-others k n c d content changes ne e = last-kept (is_others c) k n d content (others-stay c d ne) changes e

-- one more change
pub last-push : (k : ℕ) (n : RowNo) (changes : List Change) (change : Change) → last_change k n (changes ++ change ∷ []) ≡ cond (is_this k n change.table change.number) (Some (change.by, change.content)) (last_change k n changes)
last-push k n [] change = refl
last-push k n (x ∷ xs) change = ap (λ o. or_else o (if_this k n x)) (last-push k n xs change) ∙ go (is_this k n change.table change.number)
  where
    go : (b : Bool) → or_else (cond b (Some (let y : ClientNo × Option (List Cell) = (change.by, change.content) in y)) (last_change k n xs)) (if_this k n x)
        ≡ cond b (Some (let y : ClientNo × Option (List Cell) = (change.by, change.content) in y)) (or_else (last_change k n xs) (if_this k n x))
    go true = refl
    go false = refl

-- a content under its client
abbrev pub under : ClientNo → Option (List Cell) → ClientNo × Option (List Cell)
under c content = (c, content)

-- the last change that is kept of a client is the last that its list makes
pub last-made : (tables : List (Option Table)) (t : TableName) (n : RowNo) (c : ClientNo) (changes : List RowChange) → AllByRecursion (λ (change : RowChange). IsOpen change.table tables) changes
    → last_change (number_of t tables) n (map (kept_change tables c) changes) ≡ option_map (under c) (last_made t n changes)
last-made tables t n c [] opened = refl
last-made tables t n c (change ∷ changes) opened =
    ap₂ or_else (last-made tables t n c changes opened.1) (ap (λ b. cond b (Some (under c change.new)) None) same) ∙ go (is_of_row t n change) (last_made t n changes)
  where
    same : is_this (number_of t tables) n (number_of change.table tables) change.row ≡ is_of_row t n change
    same = ap (λ b. b && (change.row.0 == n.0)) (same-number change.table t tables opened.0)

    go : (b : Bool) (o : Option (Option (List Cell))) → or_else (option_map (under c) o) (cond b (Some (under c change.new)) None) ≡ option_map (under c) (or_else o (cond b (Some change.new) None))
    go true None = refl
    go false None = refl
    go b (Some x) = refl

-- where a list makes nothing of a row, it doesn't name it
pub made-none : (t : TableName) (n : RowNo) (changes : List RowChange) → last_made t n changes ≡ None → names_row t n changes ≡ false
made-none t n [] e = refl
made-none t n (change ∷ changes) e =
    let parts = or-none (last_made t n changes) (cond (is_of_row t n change) (Some change.new) None) e in
    go (is_of_row t n change) refl parts.1 (made-none t n changes parts.0)
  where
    go : (b : Bool) → is_of_row t n change ≡ b → cond b (Some change.new) None ≡ None → names_row t n changes ≡ false → (is_of_row t n change || names_row t n changes) ≡ false
    go true e is rest = absurd (let wrong : Some change.new ≡ None = is in cc)
    go false e is rest = rw (e, rest) refl

pub made-some : (t : TableName) (n : RowNo) (changes : List RowChange) (content : Option (List Cell)) → last_made t n changes ≡ Some content → names_row t n changes ≡ true
made-some t n [] content e = absurd (let wrong : None ≡ Some content = e in cc)
made-some t n (change ∷ changes) content e = go (is_of_row t n change) (last_made t n changes) refl refl e (λ o. made-some t n changes o)
  where
    right : (b : Bool) → (b || true) ≡ true
    right true = refl
    right false = refl

    go : (b : Bool) (o : Option (Option (List Cell))) → is_of_row t n change ≡ b → last_made t n changes ≡ o → or_else o (cond b (Some change.new) None) ≡ Some content
        → ((x : Option (List Cell)) → last_made t n changes ≡ Some x → names_row t n changes ≡ true) → (is_of_row t n change || names_row t n changes) ≡ true
    go true o f g is rest = rw f refl
    go false None f g is rest = absurd (let wrong : None ≡ Some content = is in cc)
    go false (Some x) f g is rest = rw (rest x g) (right (is_of_row t n change))

-- a change that is kept of a row is one of the list's, of a table with that number
pub kept-names : (tables : List (Option Table)) (k : ℕ) (n : RowNo) (c : ClientNo) (changes : List RowChange) (x : ClientNo × Option (List Cell))
    → AllByRecursion (λ (change : RowChange). IsOpen change.table tables) changes → last_change k n (map (kept_change tables c) changes) ≡ Some x
    → (t : TableName) × (number_of t tables ≡ k) × IsOpen t tables × (names_row t n changes ≡ true)
kept-names tables k n c [] x opened e = absurd (let wrong : None ≡ Some x = e in cc)
kept-names tables k n c (change ∷ changes) x opened e =
    go (last_change k n (map (kept_change tables c) changes)) (is_this k n (number_of change.table tables) change.row) refl refl e (λ y. kept-names tables k n c changes y opened.1)
  where
    right : (b : Bool) → (b || true) ≡ true
    right true = refl
    right false = refl

    go : (o : Option (ClientNo × Option (List Cell))) (b : Bool) → last_change k n (map (kept_change tables c) changes) ≡ o → is_this k n (number_of change.table tables) change.row ≡ b
        → or_else o (cond b (Some (under c change.new)) None) ≡ Some x
        → ((y : ClientNo × Option (List Cell)) → last_change k n (map (kept_change tables c) changes) ≡ Some y → (t : TableName) × (number_of t tables ≡ k) × IsOpen t tables × (names_row t n changes ≡ true))
        → (t : TableName) × (number_of t tables ≡ k) × IsOpen t tables × (names_row t n (change ∷ changes) ≡ true)
    go (Some y) b f g is rest = let it = rest y f in (it.0, it.1, it.2, rw it.3 (right (is_of_row it.0 n change)))
    go None true f g is rest =
        let parts = and_parts (number_of change.table tables == k) (change.row.0 == n.0) g in
        let place : number_of change.table tables ≡ k = grind (arith, nat_tests) in
        (change.table, place, opened.0, rw (and_from (same_table change.table change.table) (change.row.0 == n.0) (same_table-self change.table) parts.1) refl)
    go None false f g is rest = absurd (let wrong : None ≡ Some x = is in cc)

-- what is last of the changes that pass is one that passes
pub last-passes : (p : Change → Bool) (k : ℕ) (n : RowNo) (changes : List Change) (x : ClientNo × Option (List Cell)) → last_change k n (filter p changes) ≡ Some x
    → (change : Change) × (p change ≡ true) × (change.by ≡ x.0)
last-passes p k n [] x e = absurd (let wrong : None ≡ Some x = e in cc)
last-passes p k n (change ∷ rest) x e = go (p change) refl e (last-passes p k n rest x)
  where
    here : (o : Option (ClientNo × Option (List Cell))) (b : Bool) → last_change k n (filter p rest) ≡ o → p change ≡ true → or_else o (cond b (Some (under change.by change.content)) None) ≡ Some x
        → (last_change k n (filter p rest) ≡ Some x → (c : Change) × (p c ≡ true) × (c.by ≡ x.0)) → (c : Change) × (p c ≡ true) × (c.by ≡ x.0)
    here (Some y) b f passes is more = more (f ∙ is)
    here None true f passes is more = let pair : ◌≡◌ {A = ClientNo × Option (List Cell)} (change.by, change.content) x = cc in (change, passes, ap (λ (y : ClientNo × Option (List Cell)). y.0) pair)
    here None false f passes is more = absurd (let wrong : None ≡ Some x = is in cc)

    go : (b : Bool) → p change ≡ b → last_change k n (cond b (change ∷ filter p rest) (filter p rest)) ≡ Some x
        → (last_change k n (filter p rest) ≡ Some x → (c : Change) × (p c ≡ true) × (c.by ≡ x.0)) → (c : Change) × (p c ≡ true) × (c.by ≡ x.0)
    go true passes is more = here (last_change k n (filter p rest)) (is_this k n change.table change.number) refl passes is more
    go false passes is more = more is

-- filters of filters
both-at : {X : Type 0} (p r : X → Bool) (x : X) (xs : List X) (a b : Bool) → p x ≡ a → r x ≡ b → (a ≡ true → b ≡ true) → filter p (filter r xs) ≡ filter p xs
    → filter p (cond b (x ∷ filter r xs) (filter r xs)) ≡ cond a (x ∷ filter p xs) (filter p xs)
both-at p r x xs true true f g h rest = rw f (ap (λ ys. x ∷ ys) rest)
both-at p r x xs true false f g h rest = absurd (let wrong : false ≡ true = h refl in cc)
both-at p r x xs false true f g h rest = rw f rest
both-at p r x xs false false f g h rest = rest

pub filter-filter : {X : Type 0} (p r : X → Bool) → ((x : X) → p x ≡ true → r x ≡ true) → (xs : List X) → filter p (filter r xs) ≡ filter p xs
filter-filter p r more [] = refl
filter-filter p r more (x ∷ xs) = both-at p r x xs (p x) (r x) refl refl (more x) (filter-filter p r more xs)

none-of-at : {X : Type 0} (p r : X → Bool) (x : X) (xs : List X) (b : Bool) → r x ≡ b → (p x ≡ true → r x ≡ false) → filter p (filter r xs) ≡ [] → filter p (cond b (x ∷ filter r xs) (filter r xs)) ≡ []
none-of-at p r x xs true g h rest = go (p x) refl
  where
    go : (a : Bool) → p x ≡ a → cond (p x) (x ∷ filter p (filter r xs)) (filter p (filter r xs)) ≡ []
    go true f = absurd (let wrong : true ≡ false = sym g ∙ h f in cc)
    go false f = rw f rest
none-of-at p r x xs false g h rest = rest

pub filter-none : {X : Type 0} (p r : X → Bool) → ((x : X) → p x ≡ true → r x ≡ false) → (xs : List X) → filter p (filter r xs) ≡ []
filter-none p r never [] = refl
filter-none p r never (x ∷ xs) = none-of-at p r x xs (r x) refl (never x) (filter-none p r never xs)

pub others-own : (c q : ClientNo) → q.0 ≢ c.0 → (changes : List Change) → own_changes q (changes_of_others c changes) ≡ own_changes q changes
others-own c q ne changes = filter-filter (is_own q) (is_others c) (λ change own. ap not (other change own)) changes
  where
    other : (change : Change) → (change.by.0 == q.0) ≡ true → (change.by.0 == c.0) ≡ false
    other change own = grind (arith, nat_tests)

pub others-none : (c q : ClientNo) → (q.0 == c.0) ≡ true → (changes : List Change) → own_changes q (changes_of_others c changes) ≡ []
others-none c q same changes = filter-none (is_own q) (is_others c) (λ change own. ap not (mine change own)) changes
  where
    mine : (change : Change) → (change.by.0 == q.0) ≡ true → (change.by.0 == c.0) ≡ true
    mine change own = grind (arith, nat_tests)
