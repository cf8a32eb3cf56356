-- Two parts of policies are the same where the code finds them equal.
use Rattle.std.proofs.Common.{◌≡◌, ◌==◌, ◌∙◌, Bool, List, length, ap, refl}
use Rattle.std.proofs.lemmas.List.{map-id}
use Rattle.std.specs.Set.{distinct_count}
use denote.Enum.Bare.{sameb}
use denote.Enum.Declared.{tag_of}
use Rattle.au_base.specs.Actions.{code_of}
use Rattle.au_base.specs.contracts.action.Action.{the_type}
use Rattle.au_base.specs.declared.action.Action.{Action}
use Rattle.au_base.specs.declared.action.Action.TheVariants.{All, Select, Insert, Update, Delete, Commit, Rollback, CreateTable, DropTable, CreateUser, AlterUser, DropUser, CreateRole, DropRole, Grant, Revoke, CreateAuditPolicy, DropAuditPolicy, Audit, Noaudit, Execute, Logon, Logoff}
use Rattle.rec_parts.specs.Spelling.{is_without_repeats}
use Rattle.rec_parts.proofs.Counting.{same_count}

tag-code : (action : Action) → tag_of the_type action ≡ code_of action
tag-code All = refl
tag-code Select = refl
tag-code Insert = refl
tag-code Update = refl
tag-code Delete = refl
tag-code Commit = refl
tag-code Rollback = refl
tag-code CreateTable = refl
tag-code DropTable = refl
tag-code CreateUser = refl
tag-code AlterUser = refl
tag-code DropUser = refl
tag-code CreateRole = refl
tag-code DropRole = refl
tag-code Grant = refl
tag-code Revoke = refl
tag-code CreateAuditPolicy = refl
tag-code DropAuditPolicy = refl
tag-code Audit = refl
tag-code Noaudit = refl
tag-code Execute = refl
tag-code Logon = refl
tag-code Logoff = refl

pub same_actions : (a b : Action) → sameb the_type a b ≡ (code_of a == code_of b)
same_actions a b = rw (tag-code a, tag-code b) refl

pub same_repeats : {X : Type 0} (d e : X → X → Bool) → ((x y : X) → d x y ≡ e x y) → (xs : List X) → is_without_repeats d xs ≡ is_without_repeats e xs
same_repeats d e same xs = ap (λ n. n == length xs) (same_count (λ x. x) d e same xs ∙ ap (distinct_count e) (map-id xs))
