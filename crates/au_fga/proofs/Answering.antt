-- Candidates answer as the policies fire.
use Rattle.std.proofs.Common.{◌≡◌, ◌<◌, ◌+◌, ◌∙◌, ℕ, Bool, true, false, cond, ◌&&◌, List, [], ◌∷◌, ◌++◌, map, length, get_or, drop, refl, sym, ap, subst}
use Rattle.std.specs.Prelude.{Option, Some, None}
use Rattle.std.specs.List.{filter, list_any}
use Rattle.std.proofs.lemmas.Bool.{and_parts}
use Rattle.std.proofs.lemmas.List.{map-append}
use Rattle.std.proofs.lemmas.List.Elements.{filter-append}
use Rattle.au_audit.specs.Conditions.{is_yes}
use Rattle.au_audit.specs.Firing.{are_referenced, fires, meets, names_type, of_table}
use Rattle.au_base.specs.declared.cell.Cell.{Cell}
use Rattle.au_base.specs.declared.table.TableName.{TableName}
use Rattle.au_base.specs.Codes.{DONE}
use Rattle.au_entries.specs.declared.fine_grained.FgaName.{FgaName}
use Rattle.au_entries.specs.declared.fine_grained.FgaPolicy.{FgaPolicy}
use Rattle.au_entries.specs.declared.policy.Condition.{Condition}
use Rattle.au_entries.specs.declared.table.Table.{Table}
use Rattle.au_expr.specs.Sessions.{Session}
use Rattle.au_fga.specs.declared.candidates.Candidate.{Candidate}
use Rattle.au_fga.specs.declared.facts.RowFacts.{RowFacts}
use Rattle.au_fga.specs.declared.testing.Test.{Test}
use Rattle.au_fga.specs.Testing.{FitTable, RowsFit, seen, seen_rows, table_of, truth_in_table, truth_over}
use Rattle.au_fga.specs.descent.Candidates.{AnswersFor, name_of}
use Rattle.au_fga.specs.descent.Comparing.{Decides, passes}
use Rattle.au_fga.specs.descent.Rows.{some_of}
use Rattle.au_fga.proofs.Found.{found_alike}
use Rattle.au_fga.proofs.Tested.{decided_alike, rows_fit, skip, step, where_meant}
use Rattle.au_fga.proofs.Touched.{any_touched, none_there}

-- the test of a condition over its table
pub answers_some : (tables : List Table) (name : TableName) (given : Option Condition) (condition : Condition) (table : Table) (test : Test) → given ≡ Some condition → table_of tables name ≡ Some table
    → Decides table condition.tree (λ session. passes session test) → AnswersFor tables name given test
answers_some tables name given condition table test is found decides session rows fit =
    decided_alike table condition.tree (λ session. passes session test) decides session rows (subst (λ (t : Option Table). FitTable t rows) found fit)
    ∙ ap (λ (t : Option Table). list_any (λ (row : List Cell). is_yes (truth_in_table session t condition.tree row)) rows) (sym found)
    ∙ ap (λ (c : Option Condition). list_any (meets (truth_over session tables) name c) rows) (sym is)

-- the rows that are touched of a table fit it, if it is found
fits_of : (tables : List Table) (name : TableName) (touched : List (TableName × List (List Cell))) → RowsFit tables touched → (found : Option Table) → table_of tables name ≡ found
    → FitTable found (of_table name touched)
fits_of tables name touched fit None is = tt
fits_of tables name touched fit (Some table) is = rows_fit tables name table is (λ entry same. found_alike tables entry name same) touched fit

-- the policy is meant, and a row of its table is touched
abbrev pub may_fire : RowFacts → FgaPolicy → Bool
may_fire facts policy =
    (policy.enabled && (names_type policy.types facts.action && are_referenced policy.columns policy.all (of_table policy.name.table facts.named)))
    && list_any (λ (row : List Cell). true) (of_table policy.name.table (map seen_rows facts.touched))

pub answers_as_it_fires : (tables : List Table) (facts : RowFacts) (policy : FgaPolicy) (test : Test) (session : Session) → RowsFit tables (map seen_rows facts.touched)
    → AnswersFor tables policy.name.table policy.condition test → may_fire facts policy ≡ true
    → list_any (some_of (passes session test) policy.name.table) facts.touched ≡ fires (truth_over session tables) DONE (seen facts) policy
answers_as_it_fires tables facts policy test session fit answers may =
    let name = policy.name.table in
    let rows = of_table name (map seen_rows facts.touched) in
    let meant = (and_parts (policy.enabled && (names_type policy.types facts.action && are_referenced policy.columns policy.all (of_table name facts.named))) (list_any (λ (row : List Cell). true) rows) may).0 in
    sym (any_touched (passes session test) name facts.touched)
    ∙ answers session rows (fits_of tables name (map seen_rows facts.touched) fit (table_of tables name) refl)
    ∙ sym (where_meant policy.enabled (names_type policy.types facts.action) (are_referenced policy.columns policy.all (of_table name facts.named)) (list_any (meets (truth_over session tables) name policy.condition) rows) meant)

-- none of no rows
where_none : (a b c t d : Bool) → ((a && (b && c)) && t) ≡ false → (t ≡ false → d ≡ false) → (a && (b && (c && d))) ≡ false
where_none true true true t d is none = none is
where_none true true false t d is none = refl
where_none true false c t d is none = refl
where_none false b c t d is none = refl

pub never_fires : (tables : List Table) (facts : RowFacts) (policy : FgaPolicy) (session : Session) → may_fire facts policy ≡ false → fires (truth_over session tables) DONE (seen facts) policy ≡ false
never_fires tables facts policy session may =
    let name = policy.name.table in
    let rows = of_table name (map seen_rows facts.touched) in
    where_none policy.enabled (names_type policy.types facts.action) (are_referenced policy.columns policy.all (of_table name facts.named)) (list_any (λ (row : List Cell). true) rows) (list_any (meets (truth_over session tables) name policy.condition) rows)
    may (none_there (meets (truth_over session tables) name policy.condition) rows)

-- ---- one more of them

abbrev policy_name : FgaPolicy → FgaName
policy_name policy = policy.name

pushed : (test : Candidate → Bool) (done : List Candidate) (candidate : Candidate) (b : Bool) → test candidate ≡ b
    → map name_of (filter test (done ++ candidate ∷ [])) ≡ map name_of (filter test done) ++ cond b (name_of candidate ∷ []) []
pushed test done candidate b is =
    ap (map name_of) (filter-append test done (candidate ∷ []))
    ∙ map-append name_of (filter test done) (filter test (candidate ∷ []))
    ∙ ap (λ (t : Bool). map name_of (filter test done) ++ map name_of (cond t (candidate ∷ []) [])) is
    ∙ last b
  where
    last : (t : Bool) → map name_of (filter test done) ++ map name_of (cond t (candidate ∷ []) []) ≡ map name_of (filter test done) ++ cond t (name_of candidate ∷ []) []
    last true = refl
    last false = refl

nothing_more : {X : Type 0} (xs : List X) → xs ++ [] ≡ xs
nothing_more [] = refl
nothing_more (x ∷ xs) = ap (λ rest. x ∷ rest) (nothing_more xs)

-- a policy that may fire is added as a candidate that answers as it fires
pub candidate_added : (test : Candidate → Bool) (fired : FgaPolicy → Bool) (policies : List FgaPolicy) (i : ℕ) (policy : FgaPolicy) (done new : List Candidate) (candidate : Candidate) (whole : List FgaName)
    → i < length policies → policy ≡ get_or policies i policy → new ≡ done ++ candidate ∷ [] → name_of candidate ≡ policy.name → test candidate ≡ fired policy
    → map name_of (filter test done) ++ map policy_name (filter fired (drop i policies)) ≡ whole → map name_of (filter test new) ++ map policy_name (filter fired (drop (i + 1) policies)) ≡ whole
candidate_added test fired policies i policy done new candidate whole within is new_is named alike so_far =
    ap (λ (cs : List Candidate). map name_of (filter test cs) ++ map policy_name (filter fired (drop (i + 1) policies))) new_is
    ∙ ap (λ (names : List FgaName). names ++ map policy_name (filter fired (drop (i + 1) policies))) (pushed test done candidate (fired policy) alike)
    ∙ by_case (fired policy) refl
  where
    by_case : (b : Bool) → fired policy ≡ b → (map name_of (filter test done) ++ cond b (name_of candidate ∷ []) []) ++ map policy_name (filter fired (drop (i + 1) policies)) ≡ whole
    by_case true fires =
        ap (λ (name : FgaName). (map name_of (filter test done) ++ name ∷ []) ++ map policy_name (filter fired (drop (i + 1) policies))) named
        ∙ step policy_name fired policies i policy (map name_of (filter test done)) whole within is fires so_far
    by_case false silent =
        ap (λ (names : List FgaName). names ++ map policy_name (filter fired (drop (i + 1) policies))) (nothing_more (map name_of (filter test done)))
        ∙ skip policy_name fired policies i policy (map name_of (filter test done)) whole within is silent so_far

pub policy_passed : (test : Candidate → Bool) (fired : FgaPolicy → Bool) (policies : List FgaPolicy) (i : ℕ) (policy : FgaPolicy) (done : List Candidate) (whole : List FgaName)
    → i < length policies → policy ≡ get_or policies i policy → fired policy ≡ false
    → map name_of (filter test done) ++ map policy_name (filter fired (drop i policies)) ≡ whole → map name_of (filter test done) ++ map policy_name (filter fired (drop (i + 1) policies)) ≡ whole
policy_passed test fired policies i policy done whole within is silent so_far = skip policy_name fired policies i policy (map name_of (filter test done)) whole within is silent so_far
