-- Lemmas on groups of changes that put the entries of a list in order, one behind the other.
use Rattle.std.proofs.Common.{◌≡◌, ◌∙◌, ℕ, Bool, true, false, cond, List, [], ◌∷◌, ◌++◌, map, refl, sym, ap, subst, append_assoc}
use Rattle.std.specs.List.{AllByRecursion, filter, list_all}
use Rattle.std.specs.declared.cmp.Ordering.{Ordering}
use Rattle.std.specs.declared.cmp.Ordering.TheVariants.{Less, Equal, Greater}
use Rattle.std.specs.Ordering.{is_gt, is_lt}
use Rattle.std.proofs.lemmas.Bool.{and_parts, and_from}
use Rattle.std.proofs.lemmas.List.{append-nil}
use Rattle.au_base.specs.Order.{is_in_order}
use Rattle.au_entries.specs.declared.change.Change.{Change}
use Rattle.au_entries.specs.declared.kept.Kept.{Kept}
use Rattle.au_entries.specs.Changing.{changed, changed_all, put_in_order}
use Rattle.au_entries.specs.Replaying.{AllGoOn, Conditions, GoesOn}

-- ---- changes one after another

made_joined : (conditions : Conditions) (xs ys : List Change) (kept : Kept) → changed_all conditions.tree (xs ++ ys) kept ≡ changed_all conditions.tree ys (changed_all conditions.tree xs kept)
made_joined conditions [] ys kept = refl
made_joined conditions (x ∷ xs) ys kept = made_joined conditions xs ys (changed conditions.tree x kept)

go_on_joined : (conditions : Conditions) (image : Bool) (kept : Kept) (xs ys : List Change) → AllGoOn conditions image kept xs → AllGoOn conditions image (changed_all conditions.tree xs kept) ys
    → AllGoOn conditions image kept (xs ++ ys)
go_on_joined conditions image kept [] ys one two = two
go_on_joined conditions image kept (x ∷ xs) ys one two = (one.0, go_on_joined conditions image (changed conditions.tree x kept) xs ys one.1 two)

-- the changes go on as those of an image, and make this
abbrev pub Leads : Conditions → Kept → List Change → Kept → Type 0
Leads conditions before changes after = AllGoOn conditions true before changes × (changed_all conditions.tree changes before ≡ after)

pub leads_on : (conditions : Conditions) (k l m : Kept) (xs ys : List Change) → Leads conditions k xs l → Leads conditions l ys m → Leads conditions k (xs ++ ys) m
leads_on conditions k l m xs ys one two = (
  go_on_joined conditions true k xs ys one.0 (subst (λ (x : Kept). AllGoOn conditions true x ys) (sym one.1) two.0),
  made_joined conditions xs ys k ∙ ap (changed_all conditions.tree ys) one.1 ∙ two.1,
)

-- ---- lists in order

-- a front of what is in order is in order
pub front_in_order : {X : Type 0} (before : X → X → Bool) (done rest : List X) → is_in_order before (done ++ rest) ≡ true → is_in_order before done ≡ true
front_in_order before [] rest ordered = refl
front_in_order {X} before (x ∷ done) rest ordered =
    let parts = and_parts (list_all (before x) (done ++ rest)) (is_in_order before (done ++ rest)) ordered in
    and_from (list_all (before x) done) _ (front_all (before x) done rest parts.0) (front_in_order before done rest parts.1)
  where
    front_all : {Y : Type 0} (test : Y → Bool) (ys zs : List Y) → list_all test (ys ++ zs) ≡ true → list_all test ys ≡ true
    front_all test [] zs all = refl
    front_all test (y ∷ ys) zs all =
        let parts = and_parts (test y) (list_all test (ys ++ zs)) all in
        and_from (test y) _ parts.0 (front_all test ys zs parts.1)

-- the keys stand in order, and so do the entries by their keys
keys_all : {X K : Type 0} (test : K → Bool) (key : X → K) (xs : List X) → list_all test (map key xs) ≡ list_all (λ x. test (key x)) xs
keys_all test key [] = refl
keys_all test key (x ∷ xs) = rw (keys_all test key xs) refl

pub by_keys : {X K : Type 0} (before : K → K → Bool) (key : X → K) (xs : List X) → is_in_order before (map key xs) ≡ true → is_in_order (λ a b. before (key a) (key b)) xs ≡ true
by_keys before key [] ordered = refl
by_keys before key (x ∷ xs) ordered =
    let parts = and_parts (list_all (before (key x)) (map key xs)) (is_in_order before (map key xs)) ordered in
    and_from (list_all (λ y. before (key x) (key y)) xs) _ (sym (keys_all (before (key x)) key xs) ∙ parts.0) (by_keys before key xs parts.1)

-- all entries before the last one come before it
pub before_last : {X : Type 0} (before : X → X → Bool) (done : List X) (entry : X) → is_in_order before (done ++ entry ∷ []) ≡ true → AllByRecursion (λ x. before x entry ≡ true) done
before_last before [] entry ordered = tt
before_last before (x ∷ done) entry ordered =
    let parts = and_parts (list_all (before x) (done ++ entry ∷ [])) (is_in_order before (done ++ entry ∷ [])) ordered in
    (last_of before x done entry parts.0, before_last before done entry parts.1)
  where
    last_of : {Y : Type 0} (before : Y → Y → Bool) (x : Y) (ys : List Y) (entry : Y) → list_all (before x) (ys ++ entry ∷ []) ≡ true → before x entry ≡ true
    last_of before x [] entry all = (and_parts (before x entry) true all).0
    last_of before x (y ∷ ys) entry all = last_of before x ys entry (and_parts (before x y) (list_all (before x) (ys ++ entry ∷ [])) all).1

-- ---- putting an entry behind all others

all_pass_at : {X : Type 0} (x : X) (ys xs : List X) (b : Bool) → b ≡ true → ys ≡ xs → cond b (x ∷ ys) ys ≡ x ∷ xs
all_pass_at {X} x ys xs true is same = ap (λ (zs : List X). x ∷ zs) same
all_pass_at x ys xs false is same = absurd (let e : false ≡ true = is in cc)

all_pass : {X : Type 0} (test : X → Bool) (xs : List X) → AllByRecursion (λ x. test x ≡ true) xs → filter test xs ≡ xs
all_pass test [] all = refl
all_pass test (x ∷ xs) all = all_pass_at x (filter test xs) xs (test x) all.0 (all_pass test xs all.1)

none_pass_at : {X : Type 0} (x : X) (ys : List X) (b : Bool) → b ≡ false → ys ≡ [] → cond b (x ∷ ys) ys ≡ []
none_pass_at x ys true is same = absurd (let e : true ≡ false = is in cc)
none_pass_at x ys false is same = same

none_pass : {X : Type 0} (test : X → Bool) (xs : List X) → AllByRecursion (λ x. test x ≡ false) xs → filter test xs ≡ []
none_pass test [] all = refl
none_pass test (x ∷ xs) all = none_pass_at x (filter test xs) (test x) all.0 (none_pass test xs all.1)

pub all_weaker : {X : Type 0} (P Q : X → Type 0) → ((x : X) → P x → Q x) → (xs : List X) → AllByRecursion P xs → AllByRecursion Q xs
all_weaker P Q weaker [] all = tt
all_weaker P Q weaker (x ∷ xs) all = (weaker x all.0, all_weaker P Q weaker xs all.1)

not_behind : (o : Ordering) → is_lt o ≡ true → is_gt o ≡ false
not_behind Less is = refl
not_behind Equal is = absurd (let e : false ≡ true = is in cc)
not_behind Greater is = absurd (let e : false ≡ true = is in cc)

pub put_last : {X : Type 0} (order : X → Ordering) (entry : X) (xs : List X) → AllByRecursion (λ x. is_lt (order x) ≡ true) xs → put_in_order order entry xs ≡ xs ++ entry ∷ []
put_last {X} order entry xs all =
    ap (λ (zs : List X). zs ++ entry ∷ filter (λ x. is_gt (order x)) xs) (all_pass (λ x. is_lt (order x)) xs all)
    ∙ ap (λ (zs : List X). xs ++ entry ∷ zs) (none_pass (λ x. is_gt (order x)) xs (all_weaker (λ x. is_lt (order x) ≡ true) (λ x. is_gt (order x) ≡ false) (λ x h. not_behind (order x) h) xs all))

-- ---- a group

-- each entry behind those before it: its change goes on there, and puts it last
abbrev pub Steps : {X : Type 0} → Conditions → (X → X → Bool) → (X → Change) → (List X → Kept) → (X → Type 0) → List X → Type 0
Steps {X} conditions before change at P all =
    (done : List X) (x : X) (rest : List X) → all ≡ done ++ x ∷ rest → is_in_order before (done ++ x ∷ []) ≡ true → P x
    → GoesOn conditions true (at done) (change x) × (changed conditions.tree (change x) (at done) ≡ at (done ++ x ∷ []))

group_at : {X : Type 0} (conditions : Conditions) (before : X → X → Bool) (change : X → Change) (at : List X → Kept) (P : X → Type 0) (all : List X) → Steps conditions before change at P all
    → is_in_order before all ≡ true → (done rest : List X) → all ≡ done ++ rest → AllByRecursion P rest → Leads conditions (at done) (map change rest) (at (done ++ rest))
group_at conditions before change at P all steps ordered done [] split each = (tt, ap at (sym (append-nil done)))
group_at conditions before change at P all steps ordered done (x ∷ rest) split each =
    let joined = append_assoc done (x ∷ []) rest in
    let further = split ∙ sym joined in
    let front = front_in_order before (done ++ x ∷ []) rest (ap (is_in_order before) (sym further) ∙ ordered) in
    let here = steps done x rest split front each.0 in
    let more = group_at conditions before change at P all steps ordered (done ++ x ∷ []) rest further each.1 in (
      (here.0, subst (λ (k : Kept). AllGoOn conditions true k (map change rest)) (sym here.1) more.0),
      ap (changed_all conditions.tree (map change rest)) here.1 ∙ more.1 ∙ ap at joined,
    )

pub group : {X : Type 0} (conditions : Conditions) (before : X → X → Bool) (change : X → Change) (at : List X → Kept) (P : X → Type 0) (all : List X) → Steps conditions before change at P all
    → is_in_order before all ≡ true → AllByRecursion P all → Leads conditions (at []) (map change all) (at all)
group conditions before change at P all steps ordered each = group_at conditions before change at P all steps ordered [] all refl each
