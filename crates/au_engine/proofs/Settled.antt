-- What is ready can be made once a client's changes of rows have gone on, or are taken back.
use Rattle.std.proofs.Common.{◌≡◌, ◌≢◌, ◌∙◌, ◌≤◌, ◌==◌, ℕ, Bool, true, false, List, [], ◌∷◌, ◌++◌, length, min, sym, ap, ap₂, subst, refl, arith}
use Rattle.std.specs.Prelude.{⊤, None, Some, Option, if◌then◌else◌, not, filter}
use Rattle.std.proofs.lemmas.Bool.Decides.{nat_tests}
use Rattle.std.specs.List.{AllByRecursion, filter_map}
use Rattle.au_base.specs.declared.numbers.ClientNo.{ClientNo}
use Rattle.au_base.specs.declared.numbers.Stamp.{Stamp}
use Rattle.au_catalog.specs.Settling.{catalog_of}
use Rattle.au_catalog.specs.Staging as catalogs
use Rattle.au_entries.specs.declared.change.Change.{Change}
use Rattle.au_entries.specs.declared.kept.Kept.{Kept}
use Rattle.au_entries.specs.declared.trail_record.Record.{Record}
use Rattle.au_entries.specs.Changing.{changed, changed_all, grants_after}
use Rattle.au_entries.specs.Lawful.{IsWhole}
use Rattle.au_entries.specs.Replaying.{AllGoOn}
use Rattle.au_grants.specs.Staging as grants
use Rattle.au_grants.specs.declared.grants.Grants.{Grants}
use Rattle.au_kept.specs.declared.staged.Staged.{Staged}
use Rattle.au_kept.specs.declared.staged.TableEdit.{TableEdit}
use Rattle.au_kept.specs.Keeping.{Contents, desk_of}
use Rattle.au_kept.specs.Staging.{CanSettle, Fits, IsFree, IsStaged, opened_count, table_edit}
use Rattle.au_replay.specs.Reading.{conditions}
use Rattle.au_txn.specs.declared.change.RowChange.{RowChange}
use Rattle.au_step.specs.State.{OpenSession, State}
use Rattle.au_step.specs.Step.{transaction_of}
use Rattle.au_txn.specs.Desks.{open_of}
use Rattle.au_txn.specs.Logs.{Changes, changes_of, is_client, room_of}
use Rattle.sql_ast.specs.declared.expression.Expr.{Expr}
use Rattle.rec_codec.specs.Changes.{IsChangeSpellable}
use Rattle.au_engine.specs.declared.outcome.RowsChange.TheVariants as rows
use Rattle.au_engine.specs.declared.outcome.SessionChange.{SessionChange}
use Rattle.au_engine.specs.declared.outcome.SessionChange.TheVariants.{Nothing, Begins, Counts, Ends}
use Rattle.au_engine.specs.declared.settling.KeptChange.{KeptChange}
use Rattle.au_engine.specs.Inside.{CanKeep, CanWriteNow}
use Rattle.au_engine.specs.Prepared.{CanChange, HasSpare, committed_by}
use Rattle.au_engine.proofs.Changing.{Stands}
use Rattle.au_engine.proofs.Own.{same_client}

free_of_none : (contents : Contents) (changes : List Change) → changes ≡ [] → AllByRecursion (IsFree None (desk_of contents)) changes
free_of_none contents [] is = tt
free_of_none contents (change ∷ changes) is = absurd (let e : change ∷ changes ≡ [] = is in cc)

-- what changes nothing can be settled over any other transactions
still_settles : (before after : Contents) (changes : List Change) (records : List Record) (last : Stamp) → changes ≡ [] → after.kept ≡ before.kept → CanSettle before None changes records last → CanSettle after None changes records last
still_settles before after changes records last none same can = record {
  logged = changes;
  is_logged = refl;
  go_on = subst (λ (k : Kept). AllGoOn conditions false k changes) (sym same) (subst (λ (cs : List Change). AllGoOn conditions false before.kept cs) can.is_logged can.go_on);
  whole = subst (λ (k : Kept). IsWhole (changed_all conditions.tree changes k)) (sym same) (subst (λ (cs : List Change). IsWhole (changed_all conditions.tree cs before.kept)) can.is_logged can.whole);
  moment = can.moment;
  spelled = subst (λ (cs : List Change). AllByRecursion IsChangeSpellable cs) can.is_logged can.spelled;
  told = can.told;
  settled = free_of_none after changes none;
}

none_opened : (changes : List Change) (tables : List TableEdit) (spare : ℕ) → changes ≡ [] → tables ≡ filter_map table_edit changes → opened_count tables ≤ spare
none_opened changes tables spare none is =
    let nothing : tables ≡ [] = is ∙ ap (λ (cs : List Change). filter_map table_edit cs) none in
    subst (λ (ts : List TableEdit). opened_count ts ≤ spare) (sym nothing) (omega arith)

still_fits : (before after : Contents) (changes : List Change) (staged : Staged) → changes ≡ [] → IsStaged changes staged → after.kept ≡ before.kept → Fits staged before → Fits staged after
still_fits before after changes staged none is same fits = record {
  catalog = subst (λ (k : Kept). catalogs.Fits staged.catalog (catalog_of k)) (sym same) fits.catalog;
  grants = subst (λ (k : Kept). grants.Fits staged.grants k.grants) (sym same) fits.grants;
  tables = none_opened changes staged.tables.items after.spare none is.tables;
}

-- what is ready can be kept behind it
pub still_kept : (Is : List Change → Type 0) (before after : Contents) (kept : KeptChange) → CanKeep None Is before kept → ((changes : List Change) → Is changes → changes ≡ []) → after.kept ≡ before.kept → after.room ≡ before.room → CanKeep None Is after kept
still_kept Is before after kept can none same room = record {
  changes = can.changes;
  staged = can.staged;
  is_so = can.is_so;
  settles = still_settles before after can.changes kept.records.items kept.last (none can.changes can.is_so) same can.settles;
  fits = still_fits before after can.changes kept.staged (none can.changes can.is_so) can.staged same can.fits;
  room = subst (λ (n : ℕ). length kept.records.items ≤ n) (sym room) can.room;
}

-- ---- lists that are forgotten

same_number : (a b : ℕ) → (a == b) ≡ true → a ≡ b
same_number a b is = grind (arith, nat_tests)

forgotten_at : (client q : ClientNo) (log : Changes) (gone mine asked : Bool) (kept : List Changes) (all : List RowChange) → (log.client.0 == client.0) ≡ gone → (log.client.0 == q.0) ≡ mine → (q.0 == client.0) ≡ asked
    → changes_of q kept ≡ (if asked then [] else all)
    → changes_of q (if not gone then log ∷ kept else kept) ≡ (if asked then [] else (if mine then log.changes else all))
forgotten_at client q log true true true kept all gone mine asked rest = rest
forgotten_at client q log true true false kept all gone mine asked rest =
    absurd (let a : log.client.0 ≡ client.0 = same_number log.client.0 client.0 gone in let b : log.client.0 ≡ q.0 = same_number log.client.0 q.0 mine in
    let e : (q.0 == client.0) ≡ true = subst (λ (n : ℕ). (n == client.0) ≡ true) b gone in cc)
forgotten_at client q log true false true kept all gone mine asked rest = rest
forgotten_at client q log true false false kept all gone mine asked rest = rest
forgotten_at client q log false true true kept all gone mine asked rest =
    absurd (let b : log.client.0 ≡ q.0 = same_number log.client.0 q.0 mine in
    let e : (log.client.0 == client.0) ≡ true = subst (λ (n : ℕ). (n == client.0) ≡ true) (sym b) asked in cc)
forgotten_at client q log false true false kept all gone mine asked rest = ap (λ (b : Bool). if b then log.changes else changes_of q kept) mine
forgotten_at client q log false false true kept all gone mine asked rest = ap (λ (b : Bool). if b then log.changes else changes_of q kept) mine ∙ rest
forgotten_at client q log false false false kept all gone mine asked rest = ap (λ (b : Bool). if b then log.changes else changes_of q kept) mine ∙ rest

abbrev nothing : List RowChange
nothing = []

none_of : (b : Bool) → [] ≡ (if b then nothing else nothing)
none_of true = refl
none_of false = refl

-- without the client's list it has no changes, and the others have theirs
pub forgotten_list : (client : ClientNo) (logs : List Changes) (q : ClientNo) → changes_of q (filter (λ log. not (is_client client log)) logs) ≡ (if q.0 == client.0 then [] else changes_of q logs)
forgotten_list client [] q = none_of (q.0 == client.0)
forgotten_list client (log ∷ logs) q =
    forgotten_at client q log (log.client.0 == client.0) (log.client.0 == q.0) (q.0 == client.0) (filter (λ log. not (is_client client log)) logs) (changes_of q logs) refl refl refl (forgotten_list client logs q)

-- ---- lists that a commit or a step leaves

same_self : (n : ℕ) → (n == n) ≡ true
same_self n = grind (arith, nat_tests)

numbers_differ : (a b : ℕ) → (a == b) ≡ false → a ≢ b
numbers_differ a b is = grind (arith, nat_tests)

-- another client's number is another
pub other_number : (client q : ClientNo) → (q.0 == client.0) ≡ false → q.0 ≢ client.0
other_number client q is = numbers_differ q.0 client.0 is

-- the client that commits is no other
pub some_other : (client q : ClientNo) → (q.0 == client.0) ≡ false → Some client ≢ Some q
some_other client q apart same = let e : client ≡ q = (let s : Some client ≡ Some q = same in cc) in
    absurd (let f : (q.0 == client.0) ≡ true = subst (λ (c : ClientNo). (q.0 == c.0) ≡ true) (sym e) (same_self q.0) in cc)

by_test : (client q : ClientNo) (own other : List RowChange) (left : List RowChange) (b : Bool) → (q.0 == client.0) ≡ b → ((q.0 == client.0) ≡ true → left ≡ own) → ((q.0 == client.0) ≡ false → left ≡ other) → left ≡ (if b then own else other)
by_test client q own other left true is mine theirs = mine is
by_test client q own other left false is mine theirs = theirs is

-- a client's list, by whether it is the client's
pub left_by_test : (client q : ClientNo) (own other left : List RowChange) → (q ≡ client → left ≡ own) → ((q.0 == client.0) ≡ false → left ≡ other) → left ≡ (if q.0 == client.0 then own else other)
left_by_test client q own other left mine theirs = by_test client q own other left (q.0 == client.0) refl (λ is. mine (same_client q client is)) theirs

-- ---- what is so of a step is so now

-- what the step writes can be written now
pub can_now : (change : SessionChange) (m : State) (contents : Contents) → contents.kept ≡ m.kept → ((q : ClientNo) → open_of (desk_of contents) q ≡ transaction_of m.sessions q) → CanChange m change → HasSpare change (desk_of contents)
    → CanWriteNow change contents
can_now Nothing m contents same told can spare = tt
can_now (Begins session) m contents same told can spare = tt
can_now (Counts client statements entries results forgets rows.Nothing) m contents same told can spare = tt
can_now (Counts client statements entries results forgets rows.Commits) m contents same told can spare = tt
can_now (Counts client statements entries results forgets (rows.Writes changes written)) m contents same told can spare = record {
  some = can.some;
  can = can.rows.can contents same told;
  spare = spare;
  contents_are = can.rows.cells_are;
}
can_now (Counts client statements entries results forgets rows.Undoes) m contents same told can spare = tt
can_now (Ends client) m contents same told can spare = tt

-- the client whose session counts has one
pub stands_of : (change : SessionChange) (m : State) → CanChange m change → Stands change m.sessions
stands_of Nothing m can = tt
stands_of (Begins session) m can = tt
stands_of (Counts client statements entries results forgets change) m can = can.stands
stands_of (Ends client) m can = tt

spare_at : (room spare more needed : ℕ) → spare ≤ more → needed ≤ min room spare → needed ≤ min room more
spare_at room spare more needed grows is = omega arith

-- room stays
pub spare_stays : (change : SessionChange) (before after : Contents) → after.logs ≡ before.logs → before.spare ≤ after.spare → HasSpare change (desk_of before) → HasSpare change (desk_of after)
spare_stays Nothing before after same grows has = tt
spare_stays (Begins session) before after same grows has = tt
spare_stays (Counts client statements entries results forgets rows.Nothing) before after same grows has = tt
spare_stays (Counts client statements entries results forgets rows.Commits) before after same grows has = tt
spare_stays (Counts client statements entries results forgets (rows.Writes changes written)) before after same grows has =
    subst (λ (logs : List Changes). length changes ≤ min (room_of client logs) after.spare) (sym same) (spare_at (room_of client before.logs) before.spare after.spare (length changes) grows has)
spare_stays (Counts client statements entries results forgets rows.Undoes) before after same grows has = tt
spare_stays (Ends client) before after same grows has = tt

-- ---- changes behind others

-- what is so of all is so of those behind
pub all_behind : {X : Type 0} (P : X → Type 0) (front rest : List X) → AllByRecursion P (front ++ rest) → AllByRecursion P rest
all_behind P [] rest all = all
all_behind P (x ∷ front) rest all = all_behind P front rest all.1

-- grants change by themselves
pub grants_alone : (tree : List ℕ → Expr) (changes : List Change) (a b : Kept) → a.grants ≡ b.grants → (changed_all tree changes a).grants ≡ (changed_all tree changes b).grants
grants_alone tree [] a b same = same
grants_alone tree (change ∷ changes) a b same = grants_alone tree changes (changed tree change a) (changed tree change b) (ap (λ (g : Grants). grants_after change g) same)

-- a commit changes no grant
pub grants_committed : (commits : Option ClientNo) (m : State) → m.kept.grants ≡ (committed_by commits m).kept.grants
grants_committed None m = refl
grants_committed (Some client) m = refl

-- no client commits where none does
pub none_some : (q : ClientNo) → None ≢ Some q
none_some q same = absurd (let e : None ≡ Some q = same in cc)

-- a state from its parts
abbrev pub state_of : Kept → List OpenSession → ℕ → List (List ℕ × Bool) → State
state_of kept sessions drawn results = record { kept = kept; sessions = sessions; drawn = drawn; results = results }

pub same_parts : (a b : Kept) (s t : List OpenSession) (d e : ℕ) (r q : List (List ℕ × Bool)) → a ≡ b → s ≡ t → d ≡ e → r ≡ q → state_of a s d r ≡ state_of b t e q
same_parts a b s t d e r q kept sessions drawn results =
    ap₂ (λ (k : Kept) (xs : List OpenSession). state_of k xs d r) kept sessions ∙ ap₂ (λ (n : ℕ) (xs : List (List ℕ × Bool)). state_of b t n xs) drawn results
