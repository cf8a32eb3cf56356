-- Pairs after one another.
use Rattle.std.proofs.Common.{◌≡◌, ℕ, ◌+◌, ◌≤◌, ◌<◌, List, [], ◌∷◌, ◌++◌, map, take, drop, get_or, length, refl, sym, subst, ap, ◌∙◌, append_assoc, inl, inr, Result, Ok, Err}
use Rattle.std.specs.List.{flat_map}
use Rattle.std.proofs.lemmas.List.{append-nil, take_more, take_all, take-append-drop, drop_more}
use Rattle.au_base.specs.declared.code.Code.{Code}
use Rattle.au_grants.specs.declared.change.GrantChange.{GrantChange}
use Rattle.au_grants.specs.declared.grants.Grants.{Grants}
use Rattle.au_grants.specs.Changing.{applied_all}
use Rattle.au_priv.specs.Pairs.{Pair}
use Rattle.au_priv.specs.Walking.{AllPass, RefusesPair, SomeRefused, made, made_all}
use Rattle.au_priv.specs.descent.Progressing.{Done, Walked}

pub applied_joined : (xs ys : List GrantChange) (grants : Grants) → applied_all (xs ++ ys) grants ≡ applied_all ys (applied_all xs grants)
applied_joined [] ys grants = refl
applied_joined (x ∷ xs) ys grants = applied_joined xs ys _

made_joined : (xs ys : List Pair) (grants : Grants) → made_all grants (xs ++ ys) ≡ made_all grants xs ++ made_all (applied_all (made_all grants xs) grants) ys
made_joined [] ys grants = refl
made_joined (x ∷ xs) ys grants =
    ap (λ rest. made grants x ++ rest) (made_joined xs ys (applied_all (made grants x) grants))
    ∙ (ap (λ (after : Grants). made grants x ++ (made_all (applied_all (made grants x) grants) xs ++ made_all after ys)) (sym (applied_joined (made grants x) (made_all (applied_all (made grants x) grants) xs) grants))
    ∙ sym (append_assoc (made grants x) _ _))

pass_joined : (xs ys : List Pair) (grants : Grants) → AllPass grants xs → AllPass (applied_all (made_all grants xs) grants) ys → AllPass grants (xs ++ ys)
pass_joined [] ys grants one two = two
pass_joined (x ∷ xs) ys grants one two = (
  one.0,
  pass_joined xs ys (applied_all (made grants x) grants) one.1
      (subst (λ (after : Grants). AllPass after ys) (applied_joined (made grants x) (made_all (applied_all (made grants x) grants) xs) grants) two),
)

refused_later : (xs ys : List Pair) (grants : Grants) (code : Code) → AllPass grants xs → SomeRefused (applied_all (made_all grants xs) grants) ys code → SomeRefused grants (xs ++ ys) code
refused_later [] ys grants code one two = two
refused_later (x ∷ xs) ys grants code one two =
    inr (
      one.0,
      refused_later xs ys (applied_all (made grants x) grants) code one.1
          (subst (λ (after : Grants). SomeRefused after ys code) (applied_joined (made grants x) (made_all (applied_all (made grants x) grants) xs) grants) two),
    )

refused_sooner : (xs ys : List Pair) (grants : Grants) (code : Code) → SomeRefused grants xs code → SomeRefused grants (xs ++ ys) code
refused_sooner [] ys grants code never = absurd never
refused_sooner (x ∷ xs) ys grants code (inl here) = inl here
refused_sooner (x ∷ xs) ys grants code (inr (passes, later)) = inr (passes, refused_sooner xs ys _ code later)

-- pairs, and then more pairs
walked_then : (start mid end : Done) (xs ys : List Pair) → Walked start xs (Ok mid) → Walked mid ys (Ok end) → Walked start (xs ++ ys) (Ok end)
walked_then start mid end xs ys (pass, changes, after) (passes, more, later) =
    let passes_on : AllPass (applied_all (made_all start.after xs) start.after) ys = subst (λ (grants : Grants). AllPass grants ys) after passes in (
      pass_joined xs ys start.after pass passes_on,
      more ∙ (ap (λ (grants : Grants). mid.changes ++ made_all grants ys) after
          ∙ (ap (λ (list : List GrantChange). list ++ made_all (applied_all (made_all start.after xs) start.after) ys) changes
          ∙ (append_assoc start.changes (made_all start.after xs) _
          ∙ ap (λ (list : List GrantChange). start.changes ++ list) (sym (made_joined xs ys start.after))))),
      later ∙ (ap (λ (grants : Grants). applied_all (made_all grants ys) grants) after
          ∙ (sym (applied_joined (made_all start.after xs) _ start.after)
          ∙ ap (λ (list : List GrantChange). applied_all list start.after) (sym (made_joined xs ys start.after)))),
    )

-- pairs, and then one that is refused
walked_refused : (start mid : Done) (xs ys : List Pair) (code : Code) → Walked start xs (Ok mid) → Walked mid ys (Err code) → Walked start (xs ++ ys) (Err code)
walked_refused start mid xs ys code (pass, changes, after) refused =
    refused_later xs ys start.after code pass (subst (λ (grants : Grants). SomeRefused grants ys code) after refused)

flat_map_joined : {X : Type 0} (F : X → List Pair) (xs ys : List X) → flat_map F (xs ++ ys) ≡ flat_map F xs ++ flat_map F ys
flat_map_joined F [] ys = refl
flat_map_joined F (x ∷ xs) ys = ap (λ rest. F x ++ rest) (flat_map_joined F xs ys) ∙ sym (append_assoc (F x) _ _)

-- a loop over the list, one element further
walked_more : {X : Type 0} (F : X → List Pair) (xs : List X) (i : ℕ) (read : X) (start mid end : Done) → i < length xs
    → Walked start (flat_map F (take i xs)) (Ok mid) → Walked mid (F (get_or xs i read)) (Ok end) → Walked start (flat_map F (take (i + 1) xs)) (Ok end)
walked_more F xs i read start mid end within before here =
    let one : flat_map F (get_or xs i read ∷ []) ≡ F (get_or xs i read) = append-nil (F (get_or xs i read)) in
    let list : flat_map F (take (i + 1) xs) ≡ flat_map F (take i xs) ++ F (get_or xs i read) =
    ap (flat_map F) (take_more xs i read within) ∙ (flat_map_joined F (take i xs) (get_or xs i read ∷ []) ∙ ap (λ (last : List Pair). flat_map F (take i xs) ++ last) one) in
    subst (λ (pairs : List Pair). Walked start pairs (Ok end)) (sym list) (walked_then start mid end _ _ before here)

-- a loop over the list that stops at an element
walked_stops : {X : Type 0} (F : X → List Pair) (xs : List X) (i : ℕ) (read : X) (start mid : Done) (code : Code) → i < length xs
    → Walked start (flat_map F (take i xs)) (Ok mid) → Walked mid (F (get_or xs i read)) (Err code) → Walked start (flat_map F xs) (Err code)
walked_stops {X = X} F xs i read start mid code within before here =
    let list : flat_map F xs ≡ flat_map F (take i xs) ++ (F (get_or xs i read) ++ flat_map F (drop (i + 1) xs)) =
    ap (flat_map F) (sym (take-append-drop i xs) ∙ ap (λ (rest : List X). take i xs ++ rest) (drop_more xs i read within)) ∙ flat_map_joined F (take i xs) _ in
    subst (λ (pairs : List Pair). Walked start pairs (Err code)) (sym list)
    (walked_refused start mid _ _ code before (refused_sooner (F (get_or xs i read)) _ mid.after code here))

-- a loop over the whole list
pub walked_all : {X : Type 0} (F : X → List Pair) (xs : List X) (i : ℕ) (start end : Done) → length xs ≤ i
    → Walked start (flat_map F (take i xs)) (Ok end) → Walked start (flat_map F xs) (Ok end)
walked_all {X = X} F xs i start end whole done = subst (λ (list : List X). Walked start (flat_map F list) (Ok end)) (take_all i xs whole) done

-- a pair for each element
abbrev pub single : {X : Type 0} → (X → Pair) → X → List Pair
single make x = make x ∷ []

each_single : {X : Type 0} (make : X → Pair) (xs : List X) → flat_map (single make) xs ≡ map make xs
each_single make [] = refl
each_single make (x ∷ xs) = ap (λ rest. make x ∷ rest) (each_single make xs)

pub walked_each : {X : Type 0} (make : X → Pair) (xs : List X) (start : Done) (end : Result Done Code) → Walked start (flat_map (single make) xs) end → Walked start (map make xs) end
walked_each make xs start end done = subst (λ (pairs : List Pair). Walked start pairs end) (each_single make xs) done

-- a step of a loop over the list, as its body knows it
step : {X : Type 0} (make : X → Pair) (xs : List X) (i : ℕ) (read : X) (mid : Done) (given pair : Pair) (walked end : Result Done Code)
    → Walked mid (given ∷ []) walked → given ≡ pair → pair ≡ make read → read ≡ get_or xs i read → walked ≡ end → Walked mid (single make (get_or xs i read)) end
step make xs i read mid given pair walked end done first second third last =
    subst (λ (r : Result Done Code). Walked mid (single make (get_or xs i read)) r) last
    (subst (λ (p : Pair). Walked mid (p ∷ []) walked) (first ∙ (second ∙ ap make third)) done)

pub stops_at : {X : Type 0} (make : X → Pair) (xs : List X) (i : ℕ) (read : X) (start mid : Done) (given pair : Pair) (walked : Result Done Code) (code : Code)
    → i < length xs → Walked start (flat_map (single make) (take i xs)) (Ok mid) → Walked mid (given ∷ []) walked → given ≡ pair → pair ≡ make read → read ≡ get_or xs i read → walked ≡ Err code
    → Walked start (map make xs) (Err code)
stops_at make xs i read start mid given pair walked code within before done first second third last =
    walked_each make xs start (Err code) (walked_stops (single make) xs i read start mid code within before (step make xs i read mid given pair walked (Err code) done first second third last))

pub more_at : {X : Type 0} (make : X → Pair) (xs : List X) (i : ℕ) (read : X) (start mid end : Done) (given pair : Pair) (walked : Result Done Code)
    → i < length xs → Walked start (flat_map (single make) (take i xs)) (Ok mid) → Walked mid (given ∷ []) walked → given ≡ pair → pair ≡ make read → read ≡ get_or xs i read → walked ≡ Ok end
    → Walked start (flat_map (single make) (take (i + 1) xs)) (Ok end)
more_at make xs i read start mid end given pair walked within before done first second third last =
    walked_more (single make) xs i read start mid end within before (step make xs i read mid given pair walked (Ok end) done first second third last)

pub stops_in : {X : Type 0} (F : X → List Pair) (xs : List X) (i : ℕ) (item read : X) (start mid : Done) (walked : Result Done Code) (code : Code)
    → i < length xs → Walked start (flat_map F (take i xs)) (Ok mid) → Walked mid (F item) walked → item ≡ get_or xs i read → walked ≡ Err code → Walked start (flat_map F xs) (Err code)
stops_in F xs i item read start mid walked code within before done third last =
    walked_stops F xs i read start mid code within before
    (subst (λ (r : Result Done Code). Walked mid (F (get_or xs i read)) r) last (subst (λ x. Walked mid (F x) walked) third done))

pub more_in : {X : Type 0} (F : X → List Pair) (xs : List X) (i : ℕ) (item read : X) (start mid end : Done) (walked : Result Done Code)
    → i < length xs → Walked start (flat_map F (take i xs)) (Ok mid) → Walked mid (F item) walked → item ≡ get_or xs i read → walked ≡ Ok end → Walked start (flat_map F (take (i + 1) xs)) (Ok end)
more_in F xs i item read start mid end walked within before done third last =
    walked_more F xs i read start mid end within before
    (subst (λ (r : Result Done Code). Walked mid (F (get_or xs i read)) r) last (subst (λ x. Walked mid (F x) walked) third done))

-- one pair more, which isn't refused
pub walked_one : (start mid end : Done) (pair : Pair) → mid ≡ start → ((code : Code) → ¬ RefusesPair start.after pair code) → end.changes ≡ mid.changes ++ made mid.after pair
    → end.after ≡ applied_all (made mid.after pair) mid.after → Walked start (pair ∷ []) (Ok end)
walked_one start mid end pair same free changes after =
    let all : made start.after pair ≡ made start.after pair ++ [] = sym (append-nil (made start.after pair)) in (
      (free, tt),
      subst (λ (d : Done). end.changes ≡ d.changes ++ made d.after pair) same changes ∙ ap (λ (list : List GrantChange). start.changes ++ list) all,
      subst (λ (d : Done). end.after ≡ applied_all (made d.after pair) d.after) same after ∙ ap (λ (list : List GrantChange). applied_all list start.after) all,
    )
