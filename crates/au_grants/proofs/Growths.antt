-- Lists that grow: a new entry, and what the lists are when the new ones are joined to the others.
use Rattle.std.proofs.Common.{◌≡◌, ◌≤◌, ◌+◌, ℕ, Bool, true, false, cond, ◌||◌, List, [], ◌∷◌, map, length, refl, sym, ap, ◌∙◌, arith}
use Rattle.std.specs.List.{filter, list_any}
use Rattle.au_grants.specs.declared.change.GrantChange.{GrantChange}
use Rattle.au_grants.specs.declared.growing.GrowingLists.{GrowingLists}
use Rattle.au_grants.specs.declared.kind.Kind.TheVariants as K
use Rattle.au_grants.specs.Changing.{applied, with_admin, with_grant}
use Rattle.std.specs.Ordering.{is_eq}
use Rattle.au_grants.specs.Order.{fields_before, is_in_order, object_before, placed, role_before, system_before}
use Rattle.au_grants.specs.Rights.{Grants}
use Rattle.au_grants.specs.descent.Editing.{adds, listed}
use Rattle.au_grants.specs.descent.Growing.{AreReady, HasGrowth, IsRoomy, KeepsGrowth, before_by, grown, merged}
use Rattle.au_grants.proofs.Limits.{fewer, placed_length}
use Rattle.au_grants.proofs.Merging.{any_merged, map_merged, placed_into}
use Rattle.au_grants.proofs.Ordered.{admin_same, cmp_by, placed_in_order, same_order, told_apart}
use Rattle.au_grants.proofs.Orders.{apart, joins}
use Rattle.au_grants.proofs.Rooms.{object_grows, parted, role_grows, system_grows}

pub merged_placed : {X : Type 0} (fields : X → List (List ℕ)) (entry : X) (fresh kept after : List X) → AreReady (before_by fields) fresh kept → after ≡ placed (before_by fields) entry fresh
    → merged (before_by fields) after kept ≡ placed (before_by fields) entry (merged (before_by fields) fresh kept)
merged_placed fields entry fresh kept after ready is = ap (λ xs. merged (before_by fields) xs kept) is ∙ placed_into (before_by fields) (joins fields) (apart fields) entry fresh kept ready.new

pub ready_placed : {X : Type 0} (fields : X → List (List ℕ)) (entry : X) (fresh kept after : List X) → AreReady (before_by fields) fresh kept → is_in_order (before_by fields) (placed (before_by fields) entry fresh) ≡ true
    → is_in_order (before_by fields) (placed (before_by fields) entry (merged (before_by fields) fresh kept)) ≡ true → after ≡ placed (before_by fields) entry fresh → AreReady (before_by fields) after kept
ready_placed fields entry fresh kept after ready ordered whole is = record {
  new = ap (is_in_order (before_by fields)) is ∙ ordered;
  old = ready.old;
  whole = ap (is_in_order (before_by fields)) (merged_placed fields entry fresh kept after ready is) ∙ whole;
}

pub merged_joined : {X : Type 0} (fields : X → List (List ℕ)) (fresh kept none joined : List X) → none ≡ [] → joined ≡ merged (before_by fields) fresh kept → merged (before_by fields) none joined ≡ merged (before_by fields) fresh kept
merged_joined fields fresh kept none joined empty is = ap (λ xs. merged (before_by fields) xs joined) empty ∙ is

pub ready_joined : {X : Type 0} (fields : X → List (List ℕ)) (fresh kept none joined : List X) → AreReady (before_by fields) fresh kept → none ≡ [] → joined ≡ merged (before_by fields) fresh kept
    → AreReady (before_by fields) none joined
ready_joined fields fresh kept none joined ready empty is = record {
  new = ap (is_in_order (before_by fields)) empty;
  old = ap (is_in_order (before_by fields)) is ∙ ready.whole;
  whole = ap (is_in_order (before_by fields)) (merged_joined fields fresh kept none joined empty is) ∙ ready.whole;
}

-- what is found among the new entries or the others is found among all
pub found_first : {X : Type 0} (test : X → Bool) (before : X → X → Bool) (fresh kept lent : List X) (a : Bool) → lent ≡ fresh → a ≡ list_any test lent → a ≡ true → a ≡ list_any test (merged before fresh kept)
found_first test before fresh kept lent a same told is =
    let there : list_any test fresh ≡ true = ap (list_any test) (sym same) ∙ sym told ∙ is in
    is ∙ sym (any_merged test before fresh kept ∙ ap (λ b. b || list_any test kept) there)

pub found_second : {X : Type 0} (test : X → Bool) (before : X → X → Bool) (fresh kept lent others : List X) (a b : Bool) → lent ≡ fresh → a ≡ list_any test lent → a ≡ false → others ≡ kept → b ≡ list_any test others
    → b ≡ list_any test (merged before fresh kept)
found_second test before fresh kept lent others a b same told is also found =
    let absent : list_any test fresh ≡ false = ap (list_any test) (sym same) ∙ sym told ∙ is in
    found ∙ ap (list_any test) also ∙ sym (any_merged test before fresh kept ∙ ap (λ x. x || list_any test kept) absent)

pub merged_length : {X : Type 0} (before : X → X → Bool) (fresh kept : List X) → length (merged before fresh kept) ≡ length fresh + length kept
merged_length before [] kept = omega arith
merged_length before (x ∷ fresh) kept = (let one = placed_length before x (merged before fresh kept) in let rest = merged_length before fresh kept in omega (arith, one, rest))

-- there are no new entries
pub ready_alone : {X : Type 0} (before : X → X → Bool) (fresh kept : List X) → fresh ≡ [] → is_in_order before kept ≡ true → AreReady before fresh kept
ready_alone before fresh kept empty ordered = record {
  new = ap (is_in_order before) empty;
  old = ordered;
  whole = ap (λ xs. is_in_order before (merged before xs kept)) empty ∙ ordered;
}

pub grown_alone : (lists : GrowingLists) → lists.fresh.system.items ≡ [] → lists.fresh.role.items ≡ [] → lists.fresh.object.items ≡ [] → grown lists ≡ listed lists.kept
grown_alone lists system role object =
    λ i. record {
      system = merged system_before (system i) lists.kept.system.items;
      role = merged role_before (role i) lists.kept.role.items;
      object = merged object_before (object i) lists.kept.object.items;
    }

-- a grant that is there gets its admin option
same_before : {X Y : Type 0} (fields : X × Y × Bool → List (List ℕ)) → ((x : X × Y × Bool) (a : Bool) → fields (x.0, x.1, a) ≡ fields x) → (test : X × Y × Bool → Bool) (admin : Bool) (x y : X × Y × Bool)
    → before_by fields (with_admin test admin x) (with_admin test admin y) ≡ before_by fields x y
same_before fields apart test admin x y = λ i. fields_before (admin_same fields apart test admin x i) (admin_same fields apart test admin y i)

pub set_merged : {X Y : Type 0} (fields : X × Y × Bool → List (List ℕ)) (test : X × Y × Bool → Bool) (entry : X × Y × Bool) (fresh kept new old : List (X × Y × Bool))
    → ((x : X × Y × Bool) (a : Bool) → fields (x.0, x.1, a) ≡ fields x) → new ≡ map (with_admin test entry.2) fresh → old ≡ map (with_admin test entry.2) kept → (b : Bool) → b ≡ list_any test (merged (before_by fields) fresh kept) → b ≡ true
    → merged (before_by fields) new old ≡ with_grant (before_by fields) test entry (merged (before_by fields) fresh kept)
set_merged fields test entry fresh kept new old apart is also b told there =
    (λ i. merged (before_by fields) (is i) (also i)) ∙ map_merged (before_by fields) (with_admin test entry.2) (same_before fields apart test entry.2) fresh kept
    ∙ ap (λ c. cond c (map (with_admin test entry.2) (merged (before_by fields) fresh kept)) (placed (before_by fields) entry (merged (before_by fields) fresh kept))) (sym there ∙ told)

pub set_ready : {X Y : Type 0} (fields : X × Y × Bool → List (List ℕ)) (test : X × Y × Bool → Bool) (entry : X × Y × Bool) (fresh kept new old : List (X × Y × Bool))
    → ((x : X × Y × Bool) (a : Bool) → fields (x.0, x.1, a) ≡ fields x) → new ≡ map (with_admin test entry.2) fresh → old ≡ map (with_admin test entry.2) kept → AreReady (before_by fields) fresh kept
    → AreReady (before_by fields) new old
set_ready fields test entry fresh kept new old apart is also ready =
    let before = before_by fields in
    let f = with_admin test entry.2 in
    let same = same_before fields apart test entry.2 in
    record {
      new = ap (is_in_order before) is ∙ same_order before f same fresh ∙ ready.new;
      old = ap (is_in_order before) also ∙ same_order before f same kept ∙ ready.old;
      whole = (λ i. is_in_order before (merged before (is i) (also i))) ∙ ap (is_in_order before) (map_merged before f same fresh kept) ∙ same_order before f same (merged before fresh kept) ∙ ready.whole;
    }

-- a grant that isn't there is placed in order
left_false : (p q : Bool) → (p || q) ≡ false → p ≡ false
left_false true q is = is
left_false false q is = refl

pub new_ordered : {X : Type 0} (fields : X → List (List ℕ)) (test : X → Bool) (entry : X) (fresh kept : List X) → ((x : X) → is_eq (cmp_by fields x entry) ≡ true → test x ≡ true) → AreReady (before_by fields) fresh kept
    → (b : Bool) → b ≡ list_any test (merged (before_by fields) fresh kept) → b ≡ false → is_in_order (before_by fields) (placed (before_by fields) entry fresh) ≡ true
new_ordered fields test entry fresh kept told ready b is absent =
    placed_in_order fields entry fresh (told_apart fields test entry fresh told (left_false _ _ (sym (any_merged test (before_by fields) fresh kept) ∙ sym is ∙ absent))) ready.new

pub new_whole : {X : Type 0} (fields : X → List (List ℕ)) (test : X → Bool) (entry : X) (fresh kept : List X) → ((x : X) → is_eq (cmp_by fields x entry) ≡ true → test x ≡ true) → AreReady (before_by fields) fresh kept
    → (b : Bool) → b ≡ list_any test (merged (before_by fields) fresh kept) → b ≡ false → is_in_order (before_by fields) (placed (before_by fields) entry (merged (before_by fields) fresh kept)) ≡ true
new_whole fields test entry fresh kept told ready b is absent =
    placed_in_order fields entry (merged (before_by fields) fresh kept) (told_apart fields test entry (merged (before_by fields) fresh kept) told (sym is ∙ absent)) ready.whole

-- whether an entry is there, by two of its parts as they were read
pub told_by : {A B X : Type 0} (test : A → B → X → Bool) (all : List X) (a read : A) (b asked : B) (there : Bool) → there ≡ list_any (test read asked) all → read ≡ a → asked ≡ b → there ≡ list_any (test a b) all
told_by test all a read b asked there is one two = is ∙ ap (λ x. list_any (test x asked) all) one ∙ ap (λ y. list_any (test a y) all) two

-- there is room for what a change adds
pub roomy_for : {X : Type 0} (before : X → X → Bool) (fresh kept : List X) (test : GrantChange → Bool) (change : GrantChange) (k m f l : ℕ) → IsRoomy (length kept + length fresh + 1) k m f l
    → IsRoomy (length (merged before fresh kept) + length (filter test (change ∷ []))) k m f l
roomy_for before fresh kept test change k m f l room =
    let long = merged_length before fresh kept in
    let one = fewer test (change ∷ []) in
    record {
      stand = (let stand = room.stand in omega (arith, long, one, stand));
      move = (let move = room.move in omega (arith, long, one, move));
      add = room.add;
    }

fewer_fit : (count less more k m f l : ℕ) → less ≤ more → IsRoomy (count + more) k m f l → IsRoomy (count + less) k m f l
fewer_fit count less more k m f l fewer_is room = record {
  stand = (let stand = room.stand in omega (arith, fewer_is, stand));
  move = (let move = room.move in omega (arith, fewer_is, move));
  add = room.add;
}

-- room for some changes is room for the first
pub growth_first : (change : GrantChange) (rest : List GrantChange) (lists : GrowingLists) → HasGrowth (change ∷ rest) lists → HasGrowth (change ∷ []) lists
growth_first change rest lists room = record {
  system = fewer_fit (length (grown lists).system) _ _ _ _ _ _ (let parts = parted (adds K.Privilege change) change (filter (adds K.Privilege) rest) in omega (arith, parts)) room.system;
  role = fewer_fit (length (grown lists).role) _ _ _ _ _ _ (let parts = parted (adds K.Role change) change (filter (adds K.Role) rest) in omega (arith, parts)) room.role;
  object = fewer_fit (length (grown lists).object) _ _ _ _ _ _ (let parts = parted (adds K.Object change) change (filter (adds K.Object) rest) in omega (arith, parts)) room.object;
}

-- and, once the first is made, for the others
pub growth_left : (change : GrantChange) (rest : List GrantChange) (lists later : GrowingLists) → HasGrowth (change ∷ rest) lists → grown later ≡ applied change (grown lists) → KeepsGrowth lists later → HasGrowth rest later
growth_left change rest lists later room makes keeps = record {
  system = (let parts = parted (adds K.Privilege change) change (filter (adds K.Privilege) rest) in
      let grows = system_grows change (grown lists) in
      let same : length (grown later).system ≡ length (applied change (grown lists)).system = ap (λ (g : Grants). length g.system) makes in
      let stand = room.system.stand in
      let move = room.system.move in
      let large = keeps.kept.system in
      let wide = keeps.moving.system in
      record { stand = omega (arith, parts, grows, same, stand, large); move = omega (arith, parts, grows, same, move, wide); add = keeps.system });
  role = (let parts = parted (adds K.Role change) change (filter (adds K.Role) rest) in
      let grows = role_grows change (grown lists) in
      let same : length (grown later).role ≡ length (applied change (grown lists)).role = ap (λ (g : Grants). length g.role) makes in
      let stand = room.role.stand in
      let move = room.role.move in
      let large = keeps.kept.role in
      let wide = keeps.moving.role in
      record { stand = omega (arith, parts, grows, same, stand, large); move = omega (arith, parts, grows, same, move, wide); add = keeps.role });
  object = (let parts = parted (adds K.Object change) change (filter (adds K.Object) rest) in
      let grows = object_grows change (grown lists) in
      let same : length (grown later).object ≡ length (applied change (grown lists)).object = ap (λ (g : Grants). length g.object) makes in
      let stand = room.object.stand in
      let move = room.object.move in
      let large = keeps.kept.object in
      let wide = keeps.moving.object in
      record { stand = omega (arith, parts, grows, same, stand, large); move = omega (arith, parts, grows, same, move, wide); add = keeps.object });
}
