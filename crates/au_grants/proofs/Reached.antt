-- What the search for held roles knows at each step.
use Rattle.std.proofs.Common.{◌≡◌, ◌≤◌, ◌<◌, ◌+◌, ℕ, zero, suc, Bool, true, false, not, inl, inr, List, [], ◌∷◌, ◌++◌, length, get_or, replicate, slice_set, refl, sym, ap, subst, ◌∙◌, ◌⊎◌, arith}
use Rattle.std.specs.Str.{bytes_eq}
use Rattle.std.proofs.lemmas.Bool.{cases_lt}
use Rattle.au_grants.specs.descent.Halving.{IsPlaceOf}
use Rattle.au_grants.specs.Order.{fields_before, is_in_order, role_before, role_fields}
use Rattle.au_grants.specs.Rights.{Name, RoleEntry, IsRoleGranted, IsChain, IsHolder, HoldsRole}
use Rattle.au_grants.specs.descent.Search.{AreSeen, EndAt, IsFirstGrant, IsQueued, IsReach, IsSearch, IsSeen, WentOn, grantee_at, mark_at, mark_count, queued_at, role_at}
use Rattle.au_grants.proofs.Chains.{holder_then, last}
use Rattle.au_grants.proofs.Entries.{same_name-to}
use Rattle.au_grants.proofs.Halving.{before_then, front_at, front_between, front_not_before, order_at, same_read}

abbrev nothing : RoleEntry
nothing = ([], [], false)

-- how many marks there are

count_bound : (marks : List Bool) → mark_count marks ≤ length marks
count_bound [] = omega arith
count_bound (true ∷ marks) = (let more = count_bound marks in omega (arith, more))
count_bound (false ∷ marks) = (let more = count_bound marks in omega (arith, more))

-- one that isn't marked leaves room
pub count_room : (marks : List Bool) (place : ℕ) → place < length marks → mark_at marks place ≡ false → mark_count marks < length marks
count_room [] place within is = absurd (omega (arith, within))
count_room (true ∷ marks) zero within is = absurd (let e : true ≡ false = is in cc)
count_room (false ∷ marks) zero within is = (let more = count_bound marks in omega (arith, more))
count_room (true ∷ marks) (suc place) within is = (let more = count_room marks place (omega (arith, within)) is in omega (arith, more))
count_room (false ∷ marks) (suc place) within is = (let more = count_room marks place (omega (arith, within)) is in omega (arith, more))

count_set : (marks : List Bool) (place : ℕ) → place < length marks → mark_at marks place ≡ false → mark_count (slice_set marks place true) ≡ suc (mark_count marks)
count_set [] place within is = absurd (omega (arith, within))
count_set (true ∷ marks) zero within is = absurd (let e : true ≡ false = is in cc)
count_set (false ∷ marks) zero within is = refl
count_set (true ∷ marks) (suc place) within is = ap suc (count_set marks place (omega (arith, within)) is)
count_set (false ∷ marks) (suc place) within is = count_set marks place (omega (arith, within)) is

set_length : {X : Type 0} (xs : List X) (k : ℕ) (x : X) → length (slice_set xs k x) ≡ length xs
set_length [] k x = refl
set_length (y ∷ xs) zero x = refl
set_length (y ∷ xs) (suc k) x = ap suc (set_length xs k x)

pub set_same : {X : Type 0} (xs : List X) (k : ℕ) (x d : X) → k < length xs → get_or (slice_set xs k x) k d ≡ x
set_same [] k x d within = absurd (omega (arith, within))
set_same (y ∷ xs) zero x d within = refl
set_same (y ∷ xs) (suc k) x d within = set_same xs k x d (omega (arith, within))

set_other : {X : Type 0} (xs : List X) (k j : ℕ) (x d : X) → (k ≡ j → ⊥) → get_or (slice_set xs k x) j d ≡ get_or xs j d
set_other [] k j x d apart = refl
set_other (y ∷ xs) zero zero x d apart = absurd (apart refl)
set_other (y ∷ xs) zero (suc j) x d apart = refl
set_other (y ∷ xs) (suc k) zero x d apart = refl
set_other (y ∷ xs) (suc k) (suc j) x d apart = set_other xs k j x d (λ same. apart (ap suc same))

marked_within : (marks : List Bool) (place : ℕ) → mark_at marks place ≡ true → place < length marks
marked_within [] place is = absurd (let e : false ≡ true = is in cc)
marked_within (b ∷ marks) zero is = omega arith
marked_within (b ∷ marks) (suc place) is = (let more = marked_within marks place is in omega (arith, more))

same_or_not : (j k : ℕ) → (j ≡ k) ⊎ (j ≡ k → ⊥)
same_or_not zero zero = inl refl
same_or_not zero (suc k) = inr (λ same. absurd (omega (arith, same)))
same_or_not (suc j) zero = inr (λ same. absurd (omega (arith, same)))
same_or_not (suc j) (suc k) = elim (same_or_not j k) [
  | inl same ↦ inl (ap suc same)
  | inr apart ↦ inr (λ same. apart (omega (arith, same)))
]

-- where nothing is marked, the queue is empty
none_marked : (n place : ℕ) → mark_at (replicate n false) place ≡ false
none_marked zero place = refl
none_marked (suc n) zero = refl
none_marked (suc n) (suc place) = none_marked n place

none_counted : (n : ℕ) → mark_count (replicate n false) ≡ 0
none_counted zero = refl
none_counted (suc n) = none_counted n

replicated : (n : ℕ) → length (replicate n false) ≡ n
replicated zero = refl
replicated (suc n) = ap suc (replicated n)

pub search_starts : (roles : List RoleEntry) (marks : List Bool) (queue : List ℕ) (n : ℕ) → marks ≡ replicate n false → n ≡ length roles → length roles ≤ length queue → IsSearch roles marks queue 0
search_starts roles marks queue n empty same fits = record {
  marks_fit = ap length empty ∙ replicated n ∙ same;
  queue_fits = fits;
  counted = ap mark_count empty ∙ none_counted n;
  queued = λ k less. absurd (omega (arith, less));
  marked = λ place is. absurd (let unmarked : mark_at marks place ≡ false = ap (λ ms. mark_at ms place) empty ∙ none_marked n place in let e : true ≡ false = sym is ∙ unmarked in cc);
}

-- going on

pub stays : (roles : List RoleEntry) (P : Name → Type 0) (marks : List Bool) (queue : List ℕ) (count : ℕ) → IsSearch roles marks queue count → WentOn roles P marks queue count marks queue count
stays roles P marks queue count search = record {
  search = search;
  grown = omega arith;
  marks_stay = λ place is. is;
  length_stays = refl;
  queue_stays = λ k less. refl;
  only = λ k from to. absurd (omega (arith, from, to));
}

pub goes_on : (roles : List RoleEntry) (P Q : Name → Type 0) (marks : List Bool) (queue : List ℕ) (count : ℕ) (marks2 : List Bool) (queue2 : List ℕ) (count2 : ℕ) (marks3 : List Bool) (queue3 : List ℕ) (count3 : ℕ)
    → ((name : Name) → Q name → P name) → WentOn roles P marks queue count marks2 queue2 count2 → WentOn roles Q marks2 queue2 count2 marks3 queue3 count3 → WentOn roles P marks queue count marks3 queue3 count3
goes_on roles P Q marks queue count marks2 queue2 count2 marks3 queue3 count3 weaker one two = record {
  search = two.search;
  grown = (let a = one.grown in let b = two.grown in omega (arith, a, b));
  marks_stay = λ place is. two.marks_stay place (one.marks_stay place is);
  length_stays = two.length_stays ∙ one.length_stays;
  queue_stays = λ k less. two.queue_stays k (let a = one.grown in omega (arith, a, less)) ∙ one.queue_stays k less;
  only = λ k from to. elim (cases_lt k count2) [
    | inl before ↦ subst (λ place. P (grantee_at roles place)) (sym (two.queue_stays k before)) (one.only k from before)
    | inr after ↦ weaker _ (two.only k after to)
  ];
}

-- there is room in the queue for one that isn't marked
pub room_for : (roles : List RoleEntry) (marks : List Bool) (queue : List ℕ) (count place : ℕ) → IsSearch roles marks queue count → place < length roles → mark_at marks place ≡ false → count < length queue
room_for roles marks queue count place search within unmarked =
    (let fit = search.marks_fit in let less = count_room marks place (omega (arith, fit, within)) unmarked in let counted = search.counted in let fits = search.queue_fits in omega (arith, less, counted, fit, fits))

-- the first grant to a name that isn't marked is marked and queued
pub found_more : (roles : List RoleEntry) (marks : List Bool) (queue : List ℕ) (count place : ℕ) → IsSearch roles marks queue count → IsFirstGrant roles place → mark_at marks place ≡ false
    → WentOn roles (λ other. other ≡ grantee_at roles place) marks queue count (slice_set marks place true) (slice_set queue count place) (count + 1)
found_more roles marks queue count place search first unmarked =
    let within : place < length marks = (let fit = search.marks_fit in let less = first.0 in omega (arith, fit, less)) in
    let room : count < length queue = (let less = count_room marks place within unmarked in let counted = search.counted in let fit = search.marks_fit in let fits = search.queue_fits in omega (arith, less, counted, fit, fits)) in
    let put : queued_at (slice_set queue count place) count ≡ place = set_same queue count place 0 room in
    record {
      search = record {
        marks_fit = set_length marks place true ∙ search.marks_fit;
        queue_fits = subst (λ n. length roles ≤ n) (sym (set_length queue count place)) search.queue_fits;
        counted = (let more = count_set marks place within unmarked in let counted = search.counted in omega (arith, more, counted));
        queued = λ k less. elim (same_or_not count k) [
          | inl same ↦ subst (λ j. IsFirstGrant roles (queued_at (slice_set queue count place) j)) same (subst (λ p. IsFirstGrant roles p) (sym put) first)
          | inr apart ↦ subst (λ p. IsFirstGrant roles p) (sym (set_other queue count k place 0 apart)) (search.queued k (later_not k apart less))
        ];
        marked = λ p is. elim (same_or_not place p) [
          | inl same ↦ (count, omega arith, put ∙ same)
          | inr apart ↦ (let old = search.marked p (sym (set_other marks place p true false apart) ∙ is) in
              (old.0, (let less = old.1 in omega (arith, less)), set_other queue count old.0 place 0 (λ same. (let less = old.1 in absurd (omega (arith, less, same)))) ∙ old.2))
        ];
      };
      grown = omega arith;
      marks_stay = λ p is. elim (same_or_not place p) [
        | inl same ↦ subst (λ q. mark_at (slice_set marks place true) q ≡ true) same (set_same marks place true false within)
        | inr apart ↦ set_other marks place p true false apart ∙ is
      ];
      length_stays = set_length queue count place;
      queue_stays = λ k less. set_other queue count k place 0 (λ same. absurd (omega (arith, less, same)));
      only = λ k from to. (let same : count ≡ k = omega (arith, from, to) in subst (λ j. grantee_at roles (queued_at (slice_set queue count place) j) ≡ grantee_at roles place) same (ap (grantee_at roles) put));
    }
  where
    later_not : (k : ℕ) → (count ≡ k → ⊥) → k < count + 1 → k < count
    later_not k apart less = elim (cases_lt k count) [
      | inl before ↦ before
      | inr after ↦ absurd (apart (omega (arith, less, after)))
    ]

-- a name that is seen stays so
pub seen_later : (roles : List RoleEntry) (marks later : List Bool) (name : Name) → ((place : ℕ) → mark_at marks place ≡ true → mark_at later place ≡ true) → IsSeen roles marks name → IsSeen roles later name
seen_later roles marks later name stay seen i within is = (let found = seen i within is in (found.0, stay found.0 found.1, found.2))

-- a name is seen where the first grant to it is marked
pub seen_at : (roles : List RoleEntry) (marks : List Bool) (place : ℕ) (name : Name) → grantee_at roles place ≡ name → mark_at marks place ≡ true → IsSeen roles marks name
seen_at roles marks place name is marked i within same = (place, marked, is)

-- the place that halving finds, by the names there
entry_there : (roles : List RoleEntry) (k : ℕ) (d : RoleEntry) → k < length roles → (get_or roles k d).0 ≡ grantee_at roles k
entry_there roles k d within = ap (λ (e : RoleEntry). e.0) (same_read roles k d nothing within)

pub read_grantee : (roles : List RoleEntry) (k : ℕ) (d : RoleEntry) → k < length roles → (get_or roles k d).0 ≡ grantee_at roles k
read_grantee roles k d within = entry_there roles k d within

pub read_role : (roles : List RoleEntry) (k : ℕ) (d : RoleEntry) → k < length roles → (get_or roles k d).1 ≡ role_at roles k
read_role roles k d within = ap (λ (e : RoleEntry). e.1) (same_read roles k d nothing within)

front_of_name : (roles : List RoleEntry) (name : Name) (place i : ℕ) → is_in_order role_before roles ≡ true → IsPlaceOf role_fields (name ∷ []) roles place → i < length roles → grantee_at roles i ≡ name
    → (place ≤ i) × (grantee_at roles place ≡ name)
front_of_name roles name place i ordered at within is = (let found = front_at role_fields (name ∷ []) roles place i nothing ordered at within (is, tt) in (found.0, found.1.0))

-- there is no grant to a name that doesn't stand at its place
pub no_grant : (roles : List RoleEntry) (marks : List Bool) (name : Name) (place : ℕ) → is_in_order role_before roles ≡ true → IsPlaceOf role_fields (name ∷ []) roles place
    → (place < length roles → grantee_at roles place ≡ name → ⊥) → IsSeen roles marks name
no_grant roles marks name place ordered at absent i within is =
    (let found = front_of_name roles name place i ordered at within is in absurd (absent (let le = found.0 in omega (arith, le, within)) found.1))

pub first_grant : (roles : List RoleEntry) (name : Name) (place : ℕ) → is_in_order role_before roles ≡ true → IsPlaceOf role_fields (name ∷ []) roles place → place < length roles → grantee_at roles place ≡ name
    → IsFirstGrant roles place
first_grant roles name place ordered at within is =
    (within, λ i less same. (let found = front_of_name roles name place i ordered at (omega (arith, less, within)) (same ∙ is) in let le = found.0 in absurd (omega (arith, le, less))))

-- what stands behind a grant to the grantee doesn't come before the grantee
not_before : (roles : List RoleEntry) (i j k : ℕ) → is_in_order role_before roles ≡ true → i < j → j < length roles → grantee_at roles i ≡ grantee_at roles k
    → fields_before (role_fields (get_or roles j nothing)) (grantee_at roles k ∷ []) ≡ false
not_before roles i j k ordered less within same = at _ refl
  where
    at : (b : Bool) → fields_before (role_fields (get_or roles j nothing)) (grantee_at roles k ∷ []) ≡ b → b ≡ false
    at true is = absurd (let first : fields_before (role_fields (get_or roles i nothing)) (grantee_at roles k ∷ []) ≡ true = before_then (role_fields (get_or roles i nothing)) (role_fields (get_or roles j nothing)) (grantee_at roles k ∷ []) (order_at role_before roles i j nothing ordered less within) is in
        let not_first : fields_before (role_fields (get_or roles i nothing)) (grantee_at roles k ∷ []) ≡ false = front_not_before (grantee_at roles k ∷ []) (role_fields (get_or roles i nothing)) (same, tt) in
        let e : true ≡ false = sym first ∙ not_first in cc)
    at false is = refl

-- grants to one grantee stand side by side
pub side_by_side : (roles : List RoleEntry) (i j k : ℕ) → is_in_order role_before roles ≡ true → i ≤ j → j ≤ k → k < length roles → grantee_at roles i ≡ grantee_at roles k → grantee_at roles j ≡ grantee_at roles k
side_by_side roles i j k ordered low high within same = elim (cases_lt i j) [
  | inr le ↦ (let is : i ≡ j = omega (arith, low, le) in subst (λ p. grantee_at roles p ≡ grantee_at roles k) is same)
  | inl after ↦ elim (cases_lt j k) [
    | inr le ↦ (let is : k ≡ j = omega (arith, high, le) in subst (λ p. grantee_at roles p ≡ grantee_at roles k) is refl)
    | inl before ↦ (front_between (grantee_at roles k ∷ []) (role_fields (get_or roles j nothing)) (role_fields (get_or roles k nothing))
        (not_before roles i j k ordered after (omega (arith, before, within)) same)
        (order_at role_before roles j k nothing ordered before within) (refl, tt)).0
  ]
]

-- a role that is granted to the grantee at a place is that of one of the places up to the end
pub granted_between : (roles : List RoleEntry) (place end : ℕ) (role : Name) → IsFirstGrant roles place → EndAt roles place end → IsRoleGranted roles (grantee_at roles place) role
    → (i : ℕ) × (place ≤ i) × (i < end) × (role_at roles i ≡ role)
granted_between roles place end role first ends (admin, (i, within, is)) =
    let read : get_or roles i nothing ≡ (grantee_at roles place, role, admin) = same_read roles i nothing (grantee_at roles place, role, admin) within ∙ is in
    let grantee : grantee_at roles i ≡ grantee_at roles place = ap (λ (e : RoleEntry). e.0) read in (
      i,
      elim (cases_lt i place) [
        | inl before ↦ absurd (first.1 i before grantee)
        | inr after ↦ after
      ],
      elim (cases_lt i end) [
        | inl before ↦ before
        | inr after ↦ absurd (ends.others i after within grantee)
      ],
      ap (λ (e : RoleEntry). e.1) read,
    )

get_back : (roles : List RoleEntry) (k : ℕ) (d : RoleEntry) → k < length roles → get_or roles k (get_or roles k d) ≡ get_or roles k d
get_back [] k d within = absurd (omega (arith, within))
get_back (x ∷ xs) zero d within = refl
get_back (x ∷ xs) (suc k) d within = get_back xs k d (omega (arith, within))

-- the role of a grant is granted to its grantee
pub granted_at : (roles : List RoleEntry) (i : ℕ) → i < length roles → IsRoleGranted roles (grantee_at roles i) (role_at roles i)
granted_at roles i within = ((get_or roles i nothing).2, (i, within, get_back roles i nothing within))

-- the role of a grant between is granted to the grantee
pub between_granted : (roles : List RoleEntry) (place end i : ℕ) → EndAt roles place end → place ≤ i → i < end → IsRoleGranted roles (grantee_at roles place) (role_at roles i)
between_granted roles place end i ends from to =
    let within : i < length roles = (let le = ends.within in omega (arith, to, le)) in
    let grantee : grantee_at roles i ≡ grantee_at roles place = ends.same i from to in
    subst (λ name. IsRoleGranted roles name (role_at roles i)) grantee (granted_at roles i within)

step_queued : (roles : List RoleEntry) (queue : List ℕ) (count : ℕ) → ((k : ℕ) (role : Name) → k < count → IsRoleGranted roles (grantee_at roles (queued_at queue k)) role → IsQueued roles queue count role)
    → (from role : Name) → IsQueued roles queue count from → IsRoleGranted roles from role → IsQueued roles queue count role
step_queued roles queue count closed from role queued (admin, (i, within, is)) =
    let read : get_or roles i nothing ≡ (from, role, admin) = same_read roles i nothing (from, role, admin) within ∙ is in
    let found = queued i within (ap (λ (e : RoleEntry). e.0) read) in
    closed found.0 role found.1 (subst (λ name. IsRoleGranted roles name role) (sym found.2) (admin, (i, within, is)))

-- a name that holds for the user, with a grant, is queued
chain_queued : (roles : List RoleEntry) (queue : List ℕ) (count : ℕ) → ((k : ℕ) (role : Name) → k < count → IsRoleGranted roles (grantee_at roles (queued_at queue k)) role → IsQueued roles queue count role)
    → (from role : Name) (path : List Name) → IsQueued roles queue count from → IsChain roles from (path ++ role ∷ []) → IsQueued roles queue count role
chain_queued roles queue count closed from role [] queued chain = step_queued roles queue count closed from role queued chain.0
chain_queued roles queue count closed from role (next ∷ path) queued chain =
    chain_queued roles queue count closed next role path (step_queued roles queue count closed from next queued chain.0) chain.1

pub holder_queued : (roles : List RoleEntry) (user : Name) (queue : List ℕ) (count : ℕ) (holder : Name) → IsReach roles user queue count → IsHolder roles user holder → IsQueued roles queue count holder
holder_queued roles user queue count holder reach is = elim is [
  | inl same ↦ subst (λ name. IsQueued roles queue count name) (sym same) reach.start
  | inr holds ↦ chain_queued roles queue count reach.closed user holder holds.0 reach.start holds.1
]

-- the user holds exactly the roles that are granted to what is queued
pub held_queued : (roles : List RoleEntry) (user : Name) (queue : List ℕ) (count : ℕ) (role : Name) → IsReach roles user queue count → HoldsRole roles user role
    → (k : ℕ) × (k < count) × IsRoleGranted roles (grantee_at roles (queued_at queue k)) role
held_queued roles user queue count role reach holds =
    let (holder, is, (admin, (i, within, at))) = last roles user role holds in
    let read : get_or roles i nothing ≡ (holder, role, admin) = same_read roles i nothing (holder, role, admin) within ∙ at in
    let found = holder_queued roles user queue count holder reach is i within (ap (λ (e : RoleEntry). e.0) read) in
    (found.0, found.1, subst (λ name. IsRoleGranted roles name role) (sym found.2) (admin, (i, within, at)))

pub queued_held : (roles : List RoleEntry) (user : Name) (queue : List ℕ) (count k : ℕ) (role : Name) → IsReach roles user queue count → k < count
    → IsRoleGranted roles (grantee_at roles (queued_at queue k)) role → HoldsRole roles user role
queued_held roles user queue count k role reach less granted = holder_then roles user (grantee_at roles (queued_at queue k)) role (reach.held k less) granted

-- what the search has at its end
pub reached : (roles : List RoleEntry) (user : Name) (marks : List Bool) (queue : List ℕ) (count done : ℕ) → IsSearch roles marks queue count → count ≤ done
    → ((k : ℕ) → k < count → IsHolder roles user (grantee_at roles (queued_at queue k))) → IsSeen roles marks user
    → ((k : ℕ) (role : Name) → k < done → k < count → IsRoleGranted roles (grantee_at roles (queued_at queue k)) role → IsSeen roles marks role)
    → IsReach roles user queue count
reached roles user marks queue count done search all held seen closed = record {
  within = (let bound = count_bound marks in let counted = search.counted in let fit = search.marks_fit in let fits = search.queue_fits in omega (arith, bound, counted, fit, fits));
  first = search.queued;
  held = held;
  start = queued user seen;
  closed = λ k role less granted. queued role (closed k role (omega (arith, less, all)) less granted);
}
  where
    queued : (name : Name) → IsSeen roles marks name → IsQueued roles queue count name
    queued name seen i within is =
        let found = seen i within is in
        let at = search.marked found.0 found.1 in
        (at.0, at.1, ap (grantee_at roles) at.2 ∙ found.2)

-- two names that are told apart aren't the same
pub told_apart : (a b : Name) (c d : Name) (r : Bool) → r ≡ not (bytes_eq a b) → r ≡ true → a ≡ c → b ≡ d → (c ≡ d → ⊥)
told_apart a b c d r is differs one two same =
    (let equal : bytes_eq a b ≡ true = same_name-to a b (one ∙ same ∙ sym two) in let e : true ≡ false = sym differs ∙ is ∙ ap not equal in absurd (let x : true ≡ false = e in cc))

-- where the grants to the grantee end
pub ends_at : (roles : List RoleEntry) (place end : ℕ) → is_in_order role_before roles ≡ true → place ≤ end → end < length roles → ((i : ℕ) → place ≤ i → i < end → grantee_at roles i ≡ grantee_at roles place)
    → (grantee_at roles end ≡ grantee_at roles place → ⊥) → EndAt roles place end
ends_at roles place end ordered from within same other = record {
  some = elim (cases_lt place end) [
    | inl less ↦ less
    | inr le ↦ absurd (let is : place ≡ end = omega (arith, from, le) in other (ap (grantee_at roles) (sym is)))
  ];
  within = omega (arith, within);
  same = same;
  others = λ i after less is. other (side_by_side roles place end i ordered from after less (sym is) ∙ is);
}

pub ends_last : (roles : List RoleEntry) (place end : ℕ) → place < length roles → length roles ≡ end → ((i : ℕ) → place ≤ i → i < end → grantee_at roles i ≡ grantee_at roles place) → EndAt roles place end
ends_last roles place end less last same = record {
  some = omega (arith, less, last);
  within = omega (arith, last);
  same = same;
  others = λ i after within is. absurd (omega (arith, after, within, last));
}

-- one more role of the grantee's grants is seen
pub one_more_seen : (roles : List RoleEntry) (marks later : List Bool) (place at : ℕ) (name : Name) → AreSeen roles marks place at → ((p : ℕ) → mark_at marks p ≡ true → mark_at later p ≡ true)
    → name ≡ role_at roles at → IsSeen roles later name → AreSeen roles later place (at + 1)
one_more_seen roles marks later place at name seen stay is last i from to = elim (cases_lt i at) [
  | inl before ↦ seen_later roles marks later (role_at roles i) stay (seen i from before)
  | inr after ↦ (let same : at ≡ i = omega (arith, to, after) in subst (λ j. IsSeen roles later (role_at roles j)) same (subst (λ n. IsSeen roles later n) is last))
]

pub all_seen : (roles : List RoleEntry) (marks : List Bool) (place end : ℕ) (role : Name) → IsFirstGrant roles place → EndAt roles place end → AreSeen roles marks place end → IsRoleGranted roles (grantee_at roles place) role → IsSeen roles marks role
all_seen roles marks place end role first ends seen granted =
    let found = granted_between roles place end role first ends granted in
    subst (λ name. IsSeen roles marks name) found.3 (seen found.0 found.1 found.2)

-- what is so while the queue is gone over
pub record Searching (roles : List RoleEntry) (user : Name) (marks : List Bool) (queue : List ℕ) (count done size : ℕ) : Type 0 where
  pub search : IsSearch roles marks queue count
  pub held : (k : ℕ) → k < count → IsHolder roles user (grantee_at roles (queued_at queue k))
  pub seen : IsSeen roles marks user
  pub closed : (k : ℕ) (role : Name) → k < done → IsRoleGranted roles (grantee_at roles (queued_at queue k)) role → IsSeen roles marks role
  pub length_is : length queue ≡ size
  pub up_to : done ≤ count

pub not_done : (roles : List RoleEntry) (user : Name) (marks : List Bool) (queue : List ℕ) (count done size : ℕ) → Searching roles user marks queue count done size → (done ≡ count → ⊥) → done < count
not_done roles user marks queue count done size at apart = (let le = at.up_to in elim (cases_lt done count) [
  | inl is ↦ is
  | inr is ↦ absurd (apart (omega (arith, le, is)))
])

pub searching_on : (roles : List RoleEntry) (user : Name) (marks : List Bool) (queue : List ℕ) (count done size : ℕ) (marks2 : List Bool) (queue2 : List ℕ) (count2 : ℕ)
    → Searching roles user marks queue count done size → (done ≡ count → ⊥)
    → WentOn roles (IsRoleGranted roles (grantee_at roles (queued_at queue done))) marks queue count marks2 queue2 count2
    → ((role : Name) → IsRoleGranted roles (grantee_at roles (queued_at queue done)) role → IsSeen roles marks2 role)
    → Searching roles user marks2 queue2 count2 (done + 1) size
searching_on roles user marks queue count done size marks2 queue2 count2 before apart went all =
    let less : done < count = (let le = before.up_to in elim (cases_lt done count) [
      | inl is ↦ is
      | inr is ↦ absurd (apart (omega (arith, le, is)))
    ]) in record {
      search = went.search;
      held = λ k within. elim (cases_lt k count) [
        | inl old ↦ subst (λ place. IsHolder roles user (grantee_at roles place)) (sym (went.queue_stays k old)) (before.held k old)
        | inr new ↦ inr (holder_then roles user (grantee_at roles (queued_at queue done)) (grantee_at roles (queued_at queue2 k)) (before.held done less) (went.only k new within))
      ];
      seen = seen_later roles marks marks2 user went.marks_stay before.seen;
      closed = λ k role within granted. elim (cases_lt k done) [
        | inl old ↦ seen_later roles marks marks2 role went.marks_stay
            (before.closed k role old (subst (λ place. IsRoleGranted roles (grantee_at roles place) role) (went.queue_stays k (omega (arith, old, less))) granted))
        | inr new ↦ (let is : k ≡ done = omega (arith, new, within) in
            all role (subst (λ place. IsRoleGranted roles (grantee_at roles place) role) (ap (queued_at queue2) is ∙ went.queue_stays done less) granted))
      ];
      length_is = went.length_stays ∙ before.length_is;
      up_to = (let grown = went.grown in omega (arith, grown, less));
    }

pub searched : (roles : List RoleEntry) (user : Name) (marks : List Bool) (queue : List ℕ) (count done size : ℕ) → Searching roles user marks queue count done size → count ≤ done → IsReach roles user queue count
searched roles user marks queue count done size at all =
    reached roles user marks queue count done at.search all at.held at.seen (λ k role less within granted. at.closed k role less granted)

-- at the end of the grants all are done
pub all_done : (roles : List RoleEntry) (user : Name) (marks : List Bool) (queue : List ℕ) (count done size : ℕ) → Searching roles user marks queue count done size → length roles ≤ done → count ≤ done
all_done roles user marks queue count done size at end =
    (let bound = count_bound marks in let counted = at.search.counted in let fit = at.search.marks_fit in omega (arith, bound, counted, fit, end))
