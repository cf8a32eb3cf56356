-- The search for the roles that a user holds, over grants of roles that stand in order. A place is a grant's in its
-- list; what is searched for are the first grants to those whose rights the user has.
use Rattle.std.specs.Prelude.{◌≡◌, ◌≢◌, ◌≤◌, ◌<◌, ℕ, List, [], Bool, true, false, length, slice_index_or}
use Rattle.std.specs.List.{filter}
use Rattle.au_grants.specs.descent.Direct.{IsGranted}
use Rattle.au_grants.specs.declared.right.Sought.{Sought}
use Rattle.au_grants.specs.declared.right.Sought.TheVariants.{Role, RoleWithAdmin, AnyTable}
use Rattle.au_grants.specs.Rights.{Grants, Name, RoleEntry, IsRoleGranted, IsHolder}

-- the grantee of the grant at the place
abbrev pub grantee_at : List RoleEntry → ℕ → Name
grantee_at roles place = (slice_index_or roles place ([], [], false)).0

-- the role of the grant at the place
abbrev pub role_at : List RoleEntry → ℕ → Name
role_at roles place = (slice_index_or roles place ([], [], false)).1

-- no grant to the same grantee stands before the place
abbrev pub IsFirstGrant : List RoleEntry → ℕ → Type 0
IsFirstGrant roles place = (place < length roles) × ((i : ℕ) → i < place → grantee_at roles i ≢ grantee_at roles place)

-- the grants to the grantee of the one at the place end before `end`
pub record EndAt (roles : List RoleEntry) (place end : ℕ) : Type 0 where
  pub some : place < end
  pub within : end ≤ length roles
  pub same : (i : ℕ) → place ≤ i → i < end → grantee_at roles i ≡ grantee_at roles place
  pub others : (i : ℕ) → end ≤ i → i < length roles → grantee_at roles i ≢ grantee_at roles place

-- whether the grant at the place is marked as found
abbrev pub mark_at : List Bool → ℕ → Bool
mark_at marks place = slice_index_or marks place false

-- the place that stands at this number in the queue
abbrev pub queued_at : List ℕ → ℕ → ℕ
queued_at queue k = slice_index_or queue k 0

abbrev pub mark_count : List Bool → ℕ
mark_count marks = length (filter (λ mark. mark) marks)

-- the queue has each place that is marked, and no other; each is a first grant
pub record IsSearch (roles : List RoleEntry) (marks : List Bool) (queue : List ℕ) (count : ℕ) : Type 0 where
  pub marks_fit : length marks ≡ length roles
  pub queue_fits : length roles ≤ length queue
  pub counted : mark_count marks ≡ count
  pub queued : (k : ℕ) → k < count → IsFirstGrant roles (queued_at queue k)
  pub marked : (place : ℕ) → mark_at marks place ≡ true → (k : ℕ) × (k < count) × (queued_at queue k ≡ place)

-- the search went on, by names of which P is so
pub record WentOn (roles : List RoleEntry) (P : Name → Type 0) (marks : List Bool) (queue : List ℕ) (count : ℕ) (later_marks : List Bool) (later_queue : List ℕ) (later_count : ℕ) : Type 0 where
  pub search : IsSearch roles later_marks later_queue later_count
  pub grown : count ≤ later_count
  pub marks_stay : (place : ℕ) → mark_at marks place ≡ true → mark_at later_marks place ≡ true
  pub length_stays : length later_queue ≡ length queue
  pub queue_stays : (k : ℕ) → k < count → queued_at later_queue k ≡ queued_at queue k
  pub only : (k : ℕ) → count ≤ k → k < later_count → P (grantee_at roles (queued_at later_queue k))

-- a grant to the name is marked, if there is any
abbrev pub IsSeen : List RoleEntry → List Bool → Name → Type 0
IsSeen roles marks name = (i : ℕ) → i < length roles → grantee_at roles i ≡ name → (j : ℕ) × (mark_at marks j ≡ true) × (grantee_at roles j ≡ name)

-- the roles of the grants from the one place up to the other are seen
abbrev pub AreSeen : List RoleEntry → List Bool → ℕ → ℕ → Type 0
AreSeen roles marks place end = (i : ℕ) → place ≤ i → i < end → IsSeen roles marks (role_at roles i)

-- a grant to the name is among the first of the queue, if there is any
abbrev pub IsQueued : List RoleEntry → List ℕ → ℕ → Name → Type 0
IsQueued roles queue count name = (i : ℕ) → i < length roles → grantee_at roles i ≡ name → (k : ℕ) × (k < count) × (grantee_at roles (queued_at queue k) ≡ name)

-- the first of the queue are the first grants to the user and to the roles that the user holds
pub record IsReach (roles : List RoleEntry) (user : Name) (queue : List ℕ) (count : ℕ) : Type 0 where
  pub within : count ≤ length queue
  pub first : (k : ℕ) → k < count → IsFirstGrant roles (queued_at queue k)
  pub held : (k : ℕ) → k < count → IsHolder roles user (grantee_at roles (queued_at queue k))
  pub start : IsQueued roles queue count user
  pub closed : (k : ℕ) (role : Name) → k < count → IsRoleGranted roles (grantee_at roles (queued_at queue k)) role → IsQueued roles queue count role

-- the right at the place in the list
abbrev pub right_at : List Sought → ℕ → Sought
right_at rights place = slice_index_or rights place AnyTable

-- whether the grant at the place has the admin option
abbrev pub admin_at : List RoleEntry → ℕ → Bool
admin_at roles place = (slice_index_or roles place ([], [], false)).2

-- the grant of a role at the place gives the right: it is the role that is looked for, or the right is granted to the role
abbrev pub IsGivenAt : Grants → ℕ → Sought → Type 0
IsGivenAt grants at (Role role) = role_at grants.role at ≡ role.now
IsGivenAt grants at (RoleWithAdmin role) = (role_at grants.role at ≡ role.now) × (admin_at grants.role at ≡ true)
IsGivenAt grants at right = IsGranted grants (role_at grants.role at) right

-- a grant to the user or to a held role gives the right
abbrev pub IsGivenByRole : Grants → Name → Sought → Type 0
IsGivenByRole grants user right = (at : ℕ) × (at < length grants.role) × IsHolder grants.role user (grantee_at grants.role at) × IsGivenAt grants at right

-- a grant to the grantee of the one at the place gives the right
abbrev pub IsGivenBehind : Grants → ℕ → Sought → Type 0
IsGivenBehind grants place right = (at : ℕ) × (at < length grants.role) × (grantee_at grants.role at ≡ grantee_at grants.role place) × IsGivenAt grants at right

-- the first number below the limit of which P is so, or the limit where there is none
pub record IsFirstOf (P : ℕ → Type 0) (limit first : ℕ) : Type 0 where
  pub within : first ≤ limit
  pub none : (j : ℕ) → j < first → ¬ P j
  pub found : first < limit → P first
