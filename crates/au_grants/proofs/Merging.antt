-- Entries, and new ones that are placed among them.
use Rattle.std.proofs.Common.{◌≡◌, Bool, true, false, not, cond, ◌||◌, ◌&&◌, List, [], ◌∷◌, ◌++◌, map, inl, inr, refl, sym, ap, subst, ◌∙◌, append_assoc}
use Rattle.std.specs.List.{Contains, filter, list_all, list_any}
use Rattle.std.proofs.lemmas.Bool.{and_from, and_parts}
use Rattle.std.proofs.lemmas.List.{append-nil, map-append}
use Rattle.std.proofs.lemmas.List.Elements.{filter-append}
use Rattle.std.proofs.lemmas.List.Folds.{list_all-append, list_any-append}
use Rattle.au_base.specs.Order.{IsIrreflexive, IsTransitive}
use Rattle.au_grants.specs.Order.{is_in_order, placed}
use Rattle.au_grants.specs.descent.Growing.{merged}
use Rattle.au_grants.proofs.Members.{append_right, here, split, there}
use Rattle.au_grants.proofs.Ordered.{all_from, passes}

-- what two filters after one another leave
filters_at : {X : Type 0} (p q r : X → Bool) (x : X) (xs : List X) (b : Bool) → q x ≡ b → (q x ≡ true → p x ≡ r x) → (q x ≡ false → r x ≡ false)
    → filter p (filter q xs) ≡ filter r xs → filter p (cond b (x ∷ filter q xs) (filter q xs)) ≡ filter r (x ∷ xs)
filters_at p q r x xs true is passes fails more = λ i. cond (passes is i) (x ∷ more i) (more i)
filters_at p q r x xs false is passes fails more = more ∙ ap (λ b. cond b (x ∷ filter r xs) (filter r xs)) (sym (fails is))

filters : {X : Type 0} (p q r : X → Bool) → ((x : X) → q x ≡ true → p x ≡ r x) → ((x : X) → q x ≡ false → r x ≡ false) → (xs : List X) → filter p (filter q xs) ≡ filter r xs
filters p q r passes fails [] = refl
filters p q r passes fails (x ∷ xs) = filters_at p q r x xs (q x) refl (passes x) (fails x) (filters p q r passes fails xs)

-- a filter whose test fails after the other's leaves nothing
filters_none : {X : Type 0} (p q : X → Bool) → ((x : X) → q x ≡ true → p x ≡ false) → (xs : List X) → filter p (filter q xs) ≡ []
filters_none p q fails xs = filters p q (λ x. false) fails (λ x is. refl) xs ∙ nothing xs
  where
    nothing : {Y : Type 0} (ys : List Y) → filter (λ y. false) ys ≡ []
    nothing [] = refl
    nothing (y ∷ ys) = nothing ys

-- what a filter leaves where each element of the list fails its test
lacks : {X : Type 0} (p : X → Bool) (xs : List X) → ((x : X) → Contains xs x → p x ≡ false) → filter p xs ≡ []
lacks p [] fails = refl
lacks p (x ∷ xs) fails = ap (λ b. cond b (x ∷ filter p xs) (filter p xs)) (fails x (here x xs)) ∙ lacks p xs (λ y has. fails y (there x xs y has))

leaves : {X : Type 0} (p : X → Bool) (xs : List X) → ((x : X) → Contains xs x → p x ≡ false) → filter (λ x. not (p x)) xs ≡ xs
leaves p [] fails = refl
leaves p (x ∷ xs) fails =
    ap (λ b. cond (not b) (x ∷ filter (λ y. not (p y)) xs) (filter (λ y. not (p y)) xs)) (fails x (here x xs)) ∙ ap (λ ys. x ∷ ys) (leaves p xs (λ y has. fails y (there x xs y has)))

isnt : (t : Bool) → (t ≡ true → ⊥) → t ≡ false
isnt true never = absurd (never refl)
isnt false never = refl

clash : {A : Type 0} (t : Bool) → t ≡ true → t ≡ false → A
clash t one two = absurd (let e : true ≡ false = sym one ∙ two in cc)

not_true : (t : Bool) → not t ≡ true → t ≡ false
not_true true is = sym is
not_true false is = refl

-- the later entry isn't before the sooner
back : {X : Type 0} (before : X → X → Bool) → IsTransitive before → IsIrreflexive before → (a b : X) → before a b ≡ true → before b a ≡ false
back before joins apart a b one = isnt (before b a) (λ two. clash (before a a) (joins a b a one two) (apart a))

-- what isn't before an entry isn't before a sooner one
sooner : {X : Type 0} (before : X → X → Bool) → IsTransitive before → (e x a : X) → before x a ≡ true → before e a ≡ false → before e x ≡ false
sooner before joins e x a one two = isnt (before e x) (λ is. clash (before e a) (joins e x a is one) two)

cut_front : {X : Type 0} (p : X → Bool) (F G : List X) (x : X) → p x ≡ true → filter p F ≡ F → filter p (F ++ x ∷ G) ≡ F ++ x ∷ filter p G
cut_front p F G x is all = filter-append p F (x ∷ G) ∙ (λ i. all i ++ cond (is i) (x ∷ filter p G) (filter p G))

cut_rest : {X : Type 0} (p : X → Bool) (F G : List X) (x : X) → p x ≡ false → filter p F ≡ [] → filter p (F ++ x ∷ G) ≡ filter p G
cut_rest p F G x is none_is = filter-append p F (x ∷ G) ∙ (λ i. none_is i ++ cond (is i) (x ∷ filter p G) (filter p G))

-- two new entries are placed in either order
commute : {X : Type 0} (before : X → X → Bool) → IsTransitive before → IsIrreflexive before → (x a : X) → before x a ≡ true → (L : List X)
    → placed before a (placed before x L) ≡ placed before x (placed before a L)
commute {X} before joins apart x a less L =
    let lx : X → Bool = λ e. before e x in
    let la : X → Bool = λ e. before e a in
    let nx : X → Bool = λ e. not (before e x) in
    let na : X → Bool = λ e. not (before e a) in
    let F = filter lx L in
    let G = filter nx L in
    let H = filter la L in
    let K = filter na L in
    let within : filter la F ≡ F = filters la lx lx (λ e is. joins e x a is less ∙ sym is) (λ e is. is) L in
    let none_back : filter na F ≡ [] = filters_none na lx (λ e is. ap not (joins e x a is less)) L in
    let one : placed before a (placed before x L) ≡ (F ++ x ∷ filter la G) ++ a ∷ filter na G =
    λ i. cut_front la F G x less within i ++ a ∷ cut_rest na F G x (ap not less) none_back i in
    let front : filter lx H ≡ F = filters lx la lx (λ e is. refl) (λ e is. sooner before joins e x a less is) L in
    let none_front : filter lx K ≡ [] = filters_none lx na (λ e is. sooner before joins e x a less (not_true _ is)) L in
    let rest : filter nx K ≡ K = filters nx na na (λ e is. ap not (sooner before joins e x a less (not_true _ is)) ∙ sym is) (λ e is. is) L in
    let later : before a x ≡ false = back before joins apart x a less in
    let two_front : filter lx (H ++ a ∷ K) ≡ F = filter-append lx H (a ∷ K) ∙ (λ i. front i ++ cond (later i) (a ∷ none_front i) (none_front i)) ∙ append-nil F in
    let two_rest : filter nx (H ++ a ∷ K) ≡ filter nx H ++ a ∷ K = filter-append nx H (a ∷ K) ∙ (λ i. filter nx H ++ cond (not (later i)) (a ∷ rest i) (rest i)) in
    let middle : filter nx H ≡ filter la G =
    filters nx la (λ e. before e a && not (before e x)) (λ e is i. sym is i && not (before e x)) (λ e is i. is i && not (before e x)) L
    ∙ sym (filters la nx (λ e. before e a && not (before e x)) (λ e is. both_right _ _ is) (λ e is. none_right _ _ is) L) in
    let end : filter na G ≡ K = filters na nx na (λ e is. refl) (λ e is. ap not (joins e x a (not_false _ is) less)) L in
    one ∙ append_assoc F (x ∷ filter la G) (a ∷ filter na G) ∙ (λ i. F ++ x ∷ (sym middle i ++ a ∷ end i)) ∙ (λ i. sym two_front i ++ x ∷ sym two_rest i)
  where
    both_right : (s t : Bool) → t ≡ true → s ≡ (s && t)
    both_right true t is = sym is
    both_right false t is = refl

    none_right : (s t : Bool) → t ≡ false → (s && t) ≡ false
    none_right true t is = is
    none_right false t is = refl

    not_false : (t : Bool) → not t ≡ false → t ≡ true
    not_false true is = refl
    not_false false is = sym is

into_at : {X : Type 0} (before : X → X → Bool) → IsTransitive before → IsIrreflexive before → (x f : X) (fresh kept : List X) (b : Bool) → before f x ≡ b → list_all (before f) fresh ≡ true
    → merged before (placed before x fresh) kept ≡ placed before x (merged before fresh kept)
    → merged before (cond b (f ∷ filter (λ e. before e x) fresh) (filter (λ e. before e x) fresh) ++ x ∷ cond (not b) (f ∷ filter (λ e. not (before e x)) fresh) (filter (λ e. not (before e x)) fresh)) kept
    ≡ placed before x (merged before (f ∷ fresh) kept)
into_at before joins apart x f fresh kept true is first more = ap (placed before f) more ∙ sym (commute before joins apart f x is (merged before fresh kept))
into_at {X = X} before joins apart x f fresh kept false is first more =
    let behind : (e : X) → Contains fresh e → before e x ≡ false = λ e has. isnt (before e x) (λ one. clash (before f x) (joins f e x (all_from (before f) fresh first e has) one) is) in
    λ i. merged before (lacks (λ e. before e x) fresh behind i ++ x ∷ f ∷ leaves (λ e. before e x) fresh behind i) kept

-- a new entry is placed among the new ones, or among all
pub placed_into : {X : Type 0} (before : X → X → Bool) → IsTransitive before → IsIrreflexive before → (x : X) (fresh kept : List X) → is_in_order before fresh ≡ true
    → merged before (placed before x fresh) kept ≡ placed before x (merged before fresh kept)
placed_into before joins apart x [] kept ordered = refl
placed_into before joins apart x (f ∷ fresh) kept ordered =
    let parts = and_parts (list_all (before f) fresh) (is_in_order before fresh) ordered in
    into_at before joins apart x f fresh kept (before f x) refl parts.0 (placed_into before joins apart x fresh kept parts.1)

-- what stands behind an entry stays behind it
placed_front : {X : Type 0} (before : X → X → Bool) (f : X) (A T : List X) → ((t : X) → Contains T t → before t f ≡ false) → placed before f (A ++ T) ≡ placed before f A ++ T
placed_front before f A T behind =
    let front = filter (λ e. before e f) A in
    let rest = filter (λ e. not (before e f)) A in
    (λ i. (filter-append (λ e. before e f) A T ∙ (λ j. front ++ lacks (λ e. before e f) T behind j) ∙ append-nil front) i
    ++ f ∷ (filter-append (λ e. not (before e f)) A T ∙ (λ j. rest ++ leaves (λ e. before e f) T behind j)) i)
    ∙ sym (append_assoc front (f ∷ rest) T)

-- the last of the new entries goes to its place
pub last_placed : {X : Type 0} (before : X → X → Bool) → IsTransitive before → IsIrreflexive before → (fresh : List X) (y : X) (kept : List X) → is_in_order before (fresh ++ y ∷ []) ≡ true
    → merged before (fresh ++ y ∷ []) kept ≡ merged before fresh (filter (λ e. before e y) kept) ++ y ∷ filter (λ e. not (before e y)) kept
last_placed before joins apart [] y kept ordered = refl
last_placed {X} before joins apart (f ∷ fresh) y kept ordered =
    let parts = and_parts (list_all (before f) (fresh ++ y ∷ [])) (is_in_order before (fresh ++ y ∷ [])) ordered in
    let less : before f y ≡ true = all_from (before f) (fresh ++ y ∷ []) parts.0 y (append_right fresh (y ∷ []) y (here y [])) in
    let behind : (t : X) → Contains (y ∷ filter (λ e. not (before e y)) kept) t → before t f ≡ false =
    λ t has. elim (split y (filter (λ e. not (before e y)) kept) t has) [
      | inl same ↦ subst (λ z. before z f ≡ false) same (back before joins apart f y less)
      | inr later ↦ sooner before joins t f y less (not_true _ (passes (λ e. not (before e y)) kept t later))
    ] in
    ap (placed before f) (last_placed before joins apart fresh y kept parts.1) ∙ placed_front before f (merged before fresh (filter (λ e. before e y) kept)) (y ∷ filter (λ e. not (before e y)) kept) behind

-- the front of a list in order stands in order
pub front_ordered : {X : Type 0} (before : X → X → Bool) (xs ys : List X) → is_in_order before (xs ++ ys) ≡ true → is_in_order before xs ≡ true
front_ordered before [] ys ordered = refl
front_ordered before (x ∷ xs) ys ordered =
    let parts = and_parts (list_all (before x) (xs ++ ys)) (is_in_order before (xs ++ ys)) ordered in
    and_from _ _ (and_parts (list_all (before x) xs) (list_all (before x) ys) (sym (list_all-append (before x) xs ys) ∙ parts.0)).0 (front_ordered before xs ys parts.1)

-- what a test finds among all is what it finds in one part or the other
parted_at : (t s p q : Bool) → (cond t (s || p) p || cond (not t) (s || q) q) ≡ (s || (p || q))
parted_at true true p q = refl
parted_at true false p q = refl
parted_at false true true q = refl
parted_at false true false q = refl
parted_at false false p q = refl

spread : {X : Type 0} (test : X → Bool) (y : X) (ys zs : List X) (t : Bool) → (list_any test (cond t (y ∷ ys) ys) || list_any test (cond (not t) (y ∷ zs) zs))
    ≡ (cond t (test y || list_any test ys) (list_any test ys) || cond (not t) (test y || list_any test zs) (list_any test zs))
spread test y ys zs true = refl
spread test y ys zs false = refl

any_parted : {X : Type 0} (test q : X → Bool) (ys : List X) → (list_any test (filter q ys) || list_any test (filter (λ y. not (q y)) ys)) ≡ list_any test ys
any_parted test q [] = refl
any_parted test q (y ∷ ys) =
    spread test y (filter q ys) (filter (λ z. not (q z)) ys) (q y)
    ∙ parted_at (q y) (test y) (list_any test (filter q ys)) (list_any test (filter (λ z. not (q z)) ys)) ∙ ap (λ b. test y || b) (any_parted test q ys)

swap : (p q r : Bool) → (p || (q || r)) ≡ (q || (p || r))
swap true true r = refl
swap true false r = refl
swap false q r = refl

any_placed : {X : Type 0} (test : X → Bool) (before : X → X → Bool) (x : X) (xs : List X) → list_any test (placed before x xs) ≡ (test x || list_any test xs)
any_placed test before x xs =
    list_any-append test (filter (λ e. before e x) xs) (x ∷ filter (λ e. not (before e x)) xs)
    ∙ swap (list_any test (filter (λ e. before e x) xs)) (test x) (list_any test (filter (λ e. not (before e x)) xs)) ∙ ap (λ b. test x || b) (any_parted test (λ e. before e x) xs)

pub any_merged : {X : Type 0} (test : X → Bool) (before : X → X → Bool) (fresh kept : List X) → list_any test (merged before fresh kept) ≡ (list_any test fresh || list_any test kept)
any_merged test before [] kept = refl
any_merged test before (f ∷ fresh) kept = any_placed test before f (merged before fresh kept) ∙ ap (λ b. test f || b) (any_merged test before fresh kept) ∙ sym (joined (test f) (list_any test fresh) (list_any test kept))
  where
    joined : (p q r : Bool) → ((p || q) || r) ≡ (p || (q || r))
    joined true q r = refl
    joined false q r = refl

-- a change of the elements that leaves their order
map_filter : {X : Type 0} (f : X → X) (p q : X → Bool) → ((x : X) → p (f x) ≡ q x) → (xs : List X) → filter p (map f xs) ≡ map f (filter q xs)
map_filter f p q same [] = refl
map_filter f p q same (x ∷ xs) = (λ i. cond (same x i) (f x ∷ map_filter f p q same xs i) (map_filter f p q same xs i)) ∙ split_map (q x)
  where
    split_map : (b : Bool) → cond b (f x ∷ map f (filter q xs)) (map f (filter q xs)) ≡ map f (cond b (x ∷ filter q xs) (filter q xs))
    split_map true = refl
    split_map false = refl

map_placed : {X : Type 0} (before : X → X → Bool) (f : X → X) → ((x y : X) → before (f x) (f y) ≡ before x y) → (x : X) (xs : List X) → placed before (f x) (map f xs) ≡ map f (placed before x xs)
map_placed before f same x xs =
    (λ i. map_filter f (λ e. before e (f x)) (λ e. before e x) (λ e. same e x) xs i ++ f x ∷ map_filter f (λ e. not (before e (f x))) (λ e. not (before e x)) (λ e. ap not (same e x)) xs i)
    ∙ sym (map-append f (filter (λ e. before e x) xs) (x ∷ filter (λ e. not (before e x)) xs))

pub map_merged : {X : Type 0} (before : X → X → Bool) (f : X → X) → ((x y : X) → before (f x) (f y) ≡ before x y) → (fresh kept : List X)
    → merged before (map f fresh) (map f kept) ≡ map f (merged before fresh kept)
map_merged before f same [] kept = refl
map_merged before f same (x ∷ fresh) kept = ap (placed before (f x)) (map_merged before f same fresh kept) ∙ map_placed before f same x (merged before fresh kept)
