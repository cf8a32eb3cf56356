-- What is found among the rows that are kept, which stand in order, after one is written, some end, or a table goes.
use Rattle.std.proofs.Common.{◌≡◌, ◌∙◌, inl, inr, ℕ, Bool, true, false, cond, List, [], ◌∷◌, filter, map, refl, sym, ap, subst, arith, Option, None, Some}
use Rattle.std.specs.List.{list_all}
use Rattle.std.specs.Option.{option_and_then, option_map}
use Rattle.std.proofs.lemmas.Bool.{and_parts, and_from}
use Rattle.std.proofs.lemmas.Grind.{common_steps}
use Rattle.au_base.specs.declared.cell.Cell.{Cell}
use Rattle.au_base.specs.declared.numbers.ClientNo.{ClientNo}
use Rattle.au_base.specs.declared.numbers.RowNo.{RowNo}
use Rattle.au_rows.specs.Edits.{edited}
use Rattle.au_rows.specs.Held.{Held, held_at, held_from, is_this, row_at, settled_of, with_row}
use Rattle.au_txn.specs.Inside.{held_before, held_in_order}
use Rattle.au_txn.proofs.Ordered.{Has, all_from, all_to, was}

pub first-of : (h : Held) (hs : List Held) → held_in_order (h ∷ hs) ≡ true → list_all (held_before h) hs ≡ true
first-of h hs ordered = (and_parts (list_all (held_before h) hs) (held_in_order hs) ordered).0

pub rest-of : (h : Held) (hs : List Held) → held_in_order (h ∷ hs) ≡ true → held_in_order hs ≡ true
rest-of h hs ordered = (and_parts (list_all (held_before h) hs) (held_in_order hs) ordered).1

-- nothing later is an earlier row
pub none-after : (t : ℕ) (n : RowNo) (h : Held) (hs : List Held) → held_from t n h ≡ true → list_all (held_before h) hs ≡ true → row_at t n hs ≡ None
none-after t n h [] f later = refl
none-after t n h (q ∷ hs) f later =
    let before : held_before h q ≡ true = (and_parts (held_before h q) (list_all (held_before h) hs) later).0 in
    let from : held_from t n q ≡ true = later_from f before in
    let not_here : held_at t n q ≡ false = not_at f before in
    rw (from, not_here) refl
  where
    later_from : held_from t n h ≡ true → held_before h q ≡ true → held_from t n q ≡ true
    later_from f b = grind (arith, common_steps)

    not_at : held_from t n h ≡ true → held_before h q ≡ true → held_at t n q ≡ false
    not_at f b = grind (arith, common_steps)

-- what is found of a row and of the rows behind it
pub find-step : (t : ℕ) (n : RowNo) (h : Held) (hs : List Held) → held_in_order (h ∷ hs) ≡ true → row_at t n (h ∷ hs) ≡ cond (held_at t n h) (Some h) (row_at t n hs)
find-step t n h hs ordered = go (held_from t n h) (held_at t n h) refl refl
  where
    go : (f a : Bool) → held_from t n h ≡ f → held_at t n h ≡ a → cond f (cond a (Some h) None) (row_at t n hs) ≡ cond a (Some h) (row_at t n hs)
    go true true f a = refl
    go true false f a = sym (none-after t n h hs f (first-of h hs ordered))
    go false true f a = absurd (let wrong : held_from t n h ≡ true = from_at a in let both : true ≡ false = sym wrong ∙ f in cc)
      where
        from_at : held_at t n h ≡ true → held_from t n h ≡ true
        from_at a = grind (arith, common_steps)
    go false false f a = refl

-- a row isn't found behind itself
pub behind-none : (h : Held) (hs : List Held) → held_in_order (h ∷ hs) ≡ true → row_at h.table h.number hs ≡ None
behind-none h hs ordered = none-after h.table h.number h hs here (first-of h hs ordered)
  where
    here : held_from h.table h.number h ≡ true
    here = grind (arith, common_steps)

-- what is found is there, and is of the place
pub found-there : (t : ℕ) (n : RowNo) (hs : List Held) (h : Held) → held_in_order hs ≡ true → row_at t n hs ≡ Some h → Has hs h × (held_at t n h ≡ true)
found-there t n [] h ordered is = absurd (let wrong : None ≡ Some h = is in cc)
found-there t n (x ∷ xs) h ordered is = go (held_at t n x) refl (sym (find-step t n x xs ordered) ∙ is) (found-there t n xs h (rest-of x xs ordered))
  where
    go : (b : Bool) → held_at t n x ≡ b → cond b (Some x) (row_at t n xs) ≡ Some h → (row_at t n xs ≡ Some h → Has xs h × (held_at t n h ≡ true)) → Has (x ∷ xs) h × (held_at t n h ≡ true)
    go true e same rest = let is : x ≡ h = cc in (inl is, subst (λ y. held_at t n y ≡ true) is e)
    go false e same rest = let more = rest same in (inr more.0, more.1)

-- what is there is found
pub there-found : (hs : List Held) (h : Held) → held_in_order hs ≡ true → Has hs h → row_at h.table h.number hs ≡ Some h
there-found [] h ordered has = absurd has
there-found (x ∷ xs) h ordered has = find-step h.table h.number x xs ordered ∙ go has (there-found xs h (rest-of x xs ordered))
  where
    self : (y : Held) → held_at y.table y.number y ≡ true
    self y = grind (arith, common_steps)

    other : held_before x h ≡ true → held_at h.table h.number x ≡ false
    other b = grind (arith, common_steps)

    go : Has (x ∷ xs) h → (Has xs h → row_at h.table h.number xs ≡ Some h) → cond (held_at h.table h.number x) (Some x) (row_at h.table h.number xs) ≡ Some h
    go (inl same) rest = subst (λ (y : Held). cond (held_at y.table y.number x) (Some x) (row_at y.table y.number xs) ≡ Some y) same (rw (self x) refl)
    go (inr later) rest = rw (other (all_from (held_before x) xs (first-of x xs ordered) h later)) (rest later)

-- writing a row
all-edited : {X : Type 0} (p from at : X → Bool) (xs new : List X) → list_all p xs ≡ true → list_all p new ≡ true → list_all p (edited from at xs new) ≡ true
all-edited p from at [] new h n = n
all-edited p from at (x ∷ xs) new h n = grind (arith, common_steps, all-edited p from at xs new)

all_weaker : {X : Type 0} (p q : X → Bool) (xs : List X) → ((x : X) → p x ≡ true → q x ≡ true) → list_all p xs ≡ true → list_all q xs ≡ true
all_weaker p q xs more h = all_to q xs (λ x has. more x (all_from p xs h x has))

module _ (t : ℕ) (n : RowNo) (y : Held) (yt : y.table ≡ t) (yn : y.number.0 ≡ n.0) where
  same_before : (p : Held) → held_at t n p ≡ true → (x : Held) → held_before p x ≡ true → held_before y x ≡ true
  same_before p h x b = grind (arith, common_steps)

  is_first : (p : Held) → held_from t n p ≡ true → held_at t n p ≡ false → held_before y p ≡ true
  is_first p h a = grind (arith, common_steps)

  first_before : (p : Held) → held_from t n p ≡ true → held_at t n p ≡ false → (x : Held) → held_before p x ≡ true → held_before y x ≡ true
  first_before p h a x b = grind (arith, common_steps)

  is_last : (p : Held) → held_from t n p ≡ false → held_before p y ≡ true
  is_last p h = grind (arith, common_steps)

  step : (p : Held) (ps : List Held) (f a : Bool) → held_from t n p ≡ f → held_at t n p ≡ a
      → list_all (held_before p) ps ≡ true → held_in_order ps ≡ true → held_in_order (edited (held_from t n) (held_at t n) ps (y ∷ [])) ≡ true
      → held_in_order (edited (held_from t n) (held_at t n) (p ∷ ps) (y ∷ [])) ≡ true
  step p ps true true f a later o rest = rw (f, a, all_weaker (held_before p) (held_before y) ps (same_before p a) later) o
  step p ps true false f a later o rest =
      rw (f, a, is_first p f a, all_weaker (held_before p) (held_before y) ps (first_before p f a) later, later) o
  step p ps false a f e later o rest =
      rw (f, all-edited (held_before p) (held_from t n) (held_at t n) ps (y ∷ []) later (rw (is_last p f) refl)) rest

  pub written-order : (hs : List Held) → held_in_order hs ≡ true → held_in_order (edited (held_from t n) (held_at t n) hs (y ∷ [])) ≡ true
  written-order [] o = refl
  written-order (p ∷ ps) o = step p ps (held_from t n p) (held_at t n p) refl refl (first-of p ps o) (rest-of p ps o) (written-order ps (rest-of p ps o))

  from-own : held_from t n y ≡ true
  from-own = grind (arith, common_steps)

  at-own : held_at t n y ≡ true
  at-own = grind (arith, common_steps)

  own-step : (p : Held) (ps : List Held) (b : Bool) → held_from t n p ≡ b → row_at t n (edited (held_from t n) (held_at t n) ps (y ∷ [])) ≡ Some y
      → row_at t n (edited (held_from t n) (held_at t n) (p ∷ ps) (y ∷ [])) ≡ Some y
  own-step p ps true f rest = rw (f, from-own, at-own) refl
  own-step p ps false f rest = rw (f, f) rest

  -- the row that is written is found
  pub found-written : (hs : List Held) → row_at t n (edited (held_from t n) (held_at t n) hs (y ∷ [])) ≡ Some y
  found-written [] = rw (from-own, at-own) refl
  found-written (p ∷ ps) = own-step p ps (held_from t n p) refl (found-written ps)

  module _ (u : ℕ) (m : RowNo) (ne : is_this t n u m ≡ false) where
    not_y : held_at u m y ≡ false
    not_y = grind (arith, common_steps)

    not_this : (p : Held) → held_at t n p ≡ true → held_at u m p ≡ false
    not_this p a = grind (arith, common_steps)

    other-step : (p : Held) (ps : List Held) (f a : Bool) → held_from t n p ≡ f → held_at t n p ≡ a → held_in_order (p ∷ ps) ≡ true
        → held_in_order (edited (held_from t n) (held_at t n) (p ∷ ps) (y ∷ [])) ≡ true
        → (held_in_order (edited (held_from t n) (held_at t n) ps (y ∷ [])) ≡ true → row_at u m (edited (held_from t n) (held_at t n) ps (y ∷ [])) ≡ row_at u m ps)
        → row_at u m (edited (held_from t n) (held_at t n) (p ∷ ps) (y ∷ [])) ≡ row_at u m (p ∷ ps)
    other-step p ps true true f a o new rest =
        let now : held_in_order (y ∷ ps) ≡ true = rw (f, a) at new in
        rw (f, a) (find-step u m y ps now ∙ (ap (λ b. cond b (Some y) (row_at u m ps)) not_y ∙ (sym (ap (λ b. cond b (Some p) (row_at u m ps)) (not_this p a)) ∙ sym (find-step u m p ps o))))
    other-step p ps true false f a o new rest =
        let now : held_in_order (y ∷ p ∷ ps) ≡ true = rw (f, a) at new in
        rw (f, a) (find-step u m y (p ∷ ps) now ∙ ap (λ b. cond b (Some y) (row_at u m (p ∷ ps))) not_y)
    other-step p ps false a f e o new rest =
        let now : held_in_order (p ∷ edited (held_from t n) (held_at t n) ps (y ∷ [])) ≡ true = rw f at new in
        rw f (find-step u m p (edited (held_from t n) (held_at t n) ps (y ∷ [])) now ∙ (ap (cond (held_at u m p) (Some p)) (rest (rest-of p (edited (held_from t n) (held_at t n) ps (y ∷ [])) now)) ∙ sym (find-step u m p ps o)))

    -- another row is found as before
    pub found-other : (hs : List Held) → held_in_order hs ≡ true → row_at u m (edited (held_from t n) (held_at t n) hs (y ∷ [])) ≡ row_at u m hs
    found-other [] o = find-step u m y [] refl ∙ ap (λ b. cond b (Some y) None) not_y
    found-other (p ∷ ps) o = other-step p ps (held_from t n p) (held_at t n p) refl refl o (written-order (p ∷ ps) o) (λ _. found-other ps (rest-of p ps o))

-- the row that a client writes
abbrev pub written : ℕ → RowNo → ClientNo → Option (List Cell) → List Held → Held
written t n by content hs = record { table = t; number = n; settled = settled_of t n hs; owner = Some by; newest = content }

pub with_row-order : (t : ℕ) (n : RowNo) (by : ClientNo) (content : Option (List Cell)) (hs : List Held) → held_in_order hs ≡ true → held_in_order (with_row t n by content hs) ≡ true
unfolding with_row
with_row-order t n by content hs o = written-order t n (written t n by content hs) refl refl hs o

pub with_row-found : (t : ℕ) (n : RowNo) (by : ClientNo) (content : Option (List Cell)) (hs : List Held) → row_at t n (with_row t n by content hs) ≡ Some (written t n by content hs)
unfolding with_row
with_row-found t n by content hs = found-written t n (written t n by content hs) refl refl hs

pub with_row-other : (t : ℕ) (n : RowNo) (by : ClientNo) (content : Option (List Cell)) (hs : List Held) (u : ℕ) (m : RowNo) → is_this t n u m ≡ false → held_in_order hs ≡ true
    → row_at u m (with_row t n by content hs) ≡ row_at u m hs
unfolding with_row
with_row-other t n by content hs u m ne o = found-other t n (written t n by content hs) refl refl u m ne hs o

pub with_row-all : (p : Held → Bool) (t : ℕ) (n : RowNo) (by : ClientNo) (content : Option (List Cell)) (hs : List Held) → list_all p hs ≡ true → p (written t n by content hs) ≡ true
    → list_all p (with_row t n by content hs) ≡ true
unfolding with_row
with_row-all p t n by content hs all new = all-edited p (held_from t n) (held_at t n) hs (written t n by content hs ∷ []) all (rw new refl)

-- keeping some of the rows
kept-order-at : (p : Held → Bool) (h : Held) (hs : List Held) (b : Bool) → list_all (held_before h) hs ≡ true → held_in_order (filter p hs) ≡ true → held_in_order (cond b (h ∷ filter p hs) (filter p hs)) ≡ true
kept-order-at p h hs true first rest = and_from (list_all (held_before h) (filter p hs)) (held_in_order (filter p hs)) (all_to (held_before h) (filter p hs) (λ y has. all_from (held_before h) hs first y (was p hs y has).0)) rest
kept-order-at p h hs false first rest = rest

pub kept-order : (p : Held → Bool) (hs : List Held) → held_in_order hs ≡ true → held_in_order (filter p hs) ≡ true
kept-order p [] o = refl
kept-order p (h ∷ hs) o = kept-order-at p h hs (p h) (first-of h hs o) (kept-order p hs (rest-of h hs o))

-- the row, where it passes
abbrev pub if_passes : (Held → Bool) → Held → Option Held
if_passes p h = cond (p h) (Some h) None

pub kept-found : (p : Held → Bool) (t : ℕ) (n : RowNo) (hs : List Held) → held_in_order hs ≡ true → row_at t n (filter p hs) ≡ option_and_then (if_passes p) (row_at t n hs)
kept-found p t n [] o = refl
kept-found p t n (h ∷ hs) o = go (p h) (held_at t n h) refl refl (kept-order p (h ∷ hs) o) (kept-found p t n hs (rest-of h hs o))
    ∙ sym (ap (option_and_then (if_passes p)) (find-step t n h hs o))
  where
    at-own : held_at t n h ≡ true → row_at t n hs ≡ None
    at-own a = none-after t n h hs (from_at a) (first-of h hs o)
      where
        from_at : held_at t n h ≡ true → held_from t n h ≡ true
        from_at a = grind (arith, common_steps)

    go : (b a : Bool) → p h ≡ b → held_at t n h ≡ a → held_in_order (cond b (h ∷ filter p hs) (filter p hs)) ≡ true → row_at t n (filter p hs) ≡ option_and_then (if_passes p) (row_at t n hs)
        → row_at t n (cond b (h ∷ filter p hs) (filter p hs)) ≡ option_and_then (if_passes p) (cond a (Some h) (row_at t n hs))
    go true true e f ordered rest = find-step t n h (filter p hs) ordered ∙ (ap (λ x. cond x (Some h) (row_at t n (filter p hs))) f ∙ sym (ap (λ x. cond x (Some h) None) e))
    go true false e f ordered rest = find-step t n h (filter p hs) ordered ∙ (ap (λ x. cond x (Some h) (row_at t n (filter p hs))) f ∙ rest)
    go false true e f ordered rest = rest ∙ (ap (option_and_then (if_passes p)) (at-own f) ∙ sym (ap (λ x. cond x (Some h) None) e))
    go false false e f ordered rest = rest

-- rows that change in place
module _ (f : Held → Held) (tables : (h : Held) → (f h).table ≡ h.table) (numbers : (h : Held) → (f h).number ≡ h.number) where
  before-same : (a b : Held) → held_before (f a) (f b) ≡ held_before a b
  before-same a b = rw (tables a, tables b, numbers a, numbers b) refl

  map-all : (h : Held) (hs : List Held) → list_all (held_before h) hs ≡ true → list_all (held_before (f h)) (map f hs) ≡ true
  map-all h [] all = refl
  map-all h (x ∷ xs) all =
      let parts = and_parts (held_before h x) (list_all (held_before h) xs) all in
      and_from (held_before (f h) (f x)) (list_all (held_before (f h)) (map f xs)) (before-same h x ∙ parts.0) (map-all h xs parts.1)

  pub map-order : (hs : List Held) → held_in_order hs ≡ true → held_in_order (map f hs) ≡ true
  map-order [] o = refl
  map-order (h ∷ hs) o = and_from (list_all (held_before (f h)) (map f hs)) (held_in_order (map f hs)) (map-all h hs (first-of h hs o)) (map-order hs (rest-of h hs o))

  at-same : (t : ℕ) (n : RowNo) (h : Held) → held_at t n (f h) ≡ held_at t n h
  at-same t n h = rw (tables h, numbers h) refl

  from-same : (t : ℕ) (n : RowNo) (h : Held) → held_from t n (f h) ≡ held_from t n h
  from-same t n h = rw (tables h, numbers h) refl

  pub map-found : (t : ℕ) (n : RowNo) (hs : List Held) → row_at t n (map f hs) ≡ option_map f (row_at t n hs)
  map-found t n [] = refl
  map-found t n (h ∷ hs) = rw (from-same t n h, at-same t n h) (go (held_from t n h) (held_at t n h) (map-found t n hs))
    where
      go : (b a : Bool) → row_at t n (map f hs) ≡ option_map f (row_at t n hs)
          → cond b (cond a (Some (f h)) None) (row_at t n (map f hs)) ≡ option_map f (cond b (cond a (Some h) None) (row_at t n hs))
      go true true rest = refl
      go true false rest = refl
      go false a rest = rest
