-- What is kept once staged changes are made of it.
use Rattle.std.proofs.Common.{◌≡◌, ◌∙◌, ℕ, ◌≤◌, Bool, false, not, List, [], ◌∷◌, ◌++◌, map, refl, sym, ap, subst}
use Rattle.std.specs.Prelude.{◌==◌, ◌&&◌, IsTrue, Option, Some, None}
use Rattle.std.specs.List.{AllByRecursion, filter, filter_map, flat_map}
use Rattle.std.specs.Ordering.{is_gt, is_lt, nat_cmp}
use Rattle.std.specs.Cmp.Lexicographic.{slice_cmp}
use Rattle.au_base.specs.Limits.{LAST_MOMENT}
use Rattle.au_base.specs.Sameness.{same_table}
use Rattle.au_base.specs.declared.cell.Cell.{Cell}
use Rattle.au_base.specs.declared.numbers.ClientNo.{ClientNo}
use Rattle.au_base.specs.declared.numbers.RowNo.{RowNo}
use Rattle.au_base.specs.declared.numbers.Stamp.{Stamp}
use Rattle.au_base.specs.declared.table.TableName.{TableName}
use Rattle.au_catalog.specs.declared.catalog.Catalog.{Catalog}
use Rattle.au_catalog.specs.Settling.{catalog_after_all, catalog_of}
use Rattle.au_entries.specs.declared.change.Change.{Change}
use Rattle.au_entries.specs.declared.change.Change.TheVariants as change
use Rattle.au_entries.specs.declared.kept.Kept.{Kept}
use Rattle.au_entries.specs.declared.trail_record.Record.{Record}
use Rattle.au_entries.specs.Changing.{changed, changed_all, grant_changes}
use Rattle.au_entries.specs.Frames.{after_parts, trail_left}
use Rattle.au_entries.specs.Lawful.{IsLawful, IsWhole}
use Rattle.au_entries.specs.Replaying.{AllGoOn, Conditions}
use Rattle.au_grants.specs.declared.change.GrantChange.{GrantChange}
use Rattle.au_grants.specs.Changing.{applied_all}
use Rattle.au_grants.specs.Rights.{Grants}
use Rattle.au_image.specs.Image.{kept_of}
use Rattle.au_kept.specs.Keeping.{Contents, desk_of}
use Rattle.au_kept.specs.Sound.{IsKept}
use Rattle.au_kept.specs.Staging.{IsLogged, IsOfRow, committed_for, content_change, final_change, last_start, later_start, number_after, start_of, table_edit}
use Rattle.au_kept.specs.descent.Tabling.{rows_edited_all, rows_for}
use Rattle.au_kept.proofs.Frames.{AreSpellable, parts_spelled}
use Rattle.au_txn.specs.declared.change.RowChange.{RowChange}
use Rattle.au_txn.specs.declared.finals.Final.{Final}
use Rattle.au_txn.specs.Desks.{open_of}
use Rattle.au_txn.specs.Finals.{AreFinals}
use Rattle.au_txn.specs.Rows.{Row, are_in_order, is_in, laid_all, of_triple, place_of, triple_of, with_content, without}
use Rattle.au_txn.specs.Transactions.{laid_over}
use Rattle.sql_ast.specs.declared.expression.Expr.{Expr}

abbrev Triple : Type 0
Triple = TableName × RowNo × List Cell

-- rows as triples, as the law has them
pub record Triples : Type 0 where
  pub forth : (triples : List Triple) → map triple_of (map of_triple triples) ≡ triples
  pub gone : (table : TableName) (number : RowNo) (rows : List Row)
      → map triple_of (without table number rows) ≡ filter (λ (row : Triple). not (same_table row.0 table && (row.1.0 == number.0))) (map triple_of rows)
  pub left : (table : TableName) (rows : List Row) → map triple_of (filter (λ row. not (is_in table row)) rows) ≡ filter (λ (row : Triple). not (same_table row.0 table)) (map triple_of rows)
  pub put : (table : TableName) (number : RowNo) (cells : List Cell) (rows : List Row)
      → map triple_of (with_content table number (Some cells) rows)
      ≡ filter (λ (row : Triple). is_lt (slice_cmp (slice_cmp nat_cmp) (place_of row.0 row.1) (place_of table number))) (map triple_of rows)
      ++ (table, number, cells) ∷ filter (λ (row : Triple). is_gt (slice_cmp (slice_cmp nat_cmp) (place_of row.0 row.1) (place_of table number))) (map triple_of rows)

-- ---- changes one after another

pub changed_joined : (tree : List ℕ → Expr) (a b : List Change) (kept : Kept) → changed_all tree (a ++ b) kept ≡ changed_all tree b (changed_all tree a kept)
changed_joined tree [] b kept = refl
changed_joined tree (change ∷ a) b kept = changed_joined tree a b (changed tree change kept)

pub go_on_behind : (conditions : Conditions) (image : Bool) (a b : List Change) (kept : Kept) → AllGoOn conditions image kept (a ++ b) → AllGoOn conditions image (changed_all conditions.tree a kept) b
go_on_behind conditions image [] b kept goes = goes
go_on_behind conditions image (change ∷ a) b kept goes = go_on_behind conditions image a b (changed conditions.tree change kept) goes.1

applied_joined : (a b : List GrantChange) (grants : Grants) → applied_all (a ++ b) grants ≡ applied_all b (applied_all a grants)
applied_joined [] b grants = refl
applied_joined (change ∷ a) b grants = applied_joined a b _

pub grants_follow : (tree : List ℕ → Expr) (changes : List Change) (kept : Kept) → (changed_all tree changes kept).grants ≡ applied_all (flat_map grant_changes changes) kept.grants
grants_follow tree [] kept = refl
grants_follow tree (change ∷ changes) kept = grants_follow tree changes (changed tree change kept) ∙ sym (applied_joined (grant_changes change) (flat_map grant_changes changes) kept.grants)

number_joined : (a b : Option ℕ) (before : ℕ) → number_after (later_start a b) before ≡ number_after a (number_after b before)
number_joined None b before = refl
number_joined (Some n) b before = refl

number_one : (tree : List ℕ → Expr) (c : Change) (kept : Kept) → (changed tree c kept).instance ≡ number_after (start_of c) kept.instance
number_one tree (change.Start instance) kept = refl
number_one tree _ kept = refl

pub instance_follows : (tree : List ℕ → Expr) (changes : List Change) (kept : Kept) → (changed_all tree changes kept).instance ≡ number_after (last_start changes) kept.instance
instance_follows tree [] kept = refl
instance_follows tree (c ∷ changes) kept =
    instance_follows tree changes (changed tree c kept) ∙ ap (number_after (last_start changes)) (number_one tree c kept) ∙ sym (number_joined (last_start changes) (start_of c) kept.instance)

pub rows_follow : Triples → (tree : List ℕ → Expr) (changes : List Change) (kept : Kept) (rows : List Row) → AllByRecursion (λ change. ¬ IsOfRow change) changes → kept.rows ≡ map triple_of rows
    → (changed_all tree changes kept).rows ≡ map triple_of (rows_edited_all (filter_map table_edit changes) rows)
rows_follow triples tree [] kept rows rowless same = same
rows_follow triples tree (change.Put table number cells ∷ changes) kept rows rowless same = absurd (rowless.0 tt)
rows_follow triples tree (change.Gone table number ∷ changes) kept rows rowless same = absurd (rowless.0 tt)
rows_follow triples tree (change.TableGone table ∷ changes) kept rows rowless same =
    rows_follow triples tree changes (changed tree (change.TableGone table) kept) (filter (λ row. not (is_in table row)) rows) rowless.1
    (ap (filter (λ (row : Triple). not (same_table row.0 table))) same ∙ sym (triples.left table rows))
rows_follow triples tree (change.Table name columns key ∷ changes) kept rows rowless same = rows_follow triples tree changes (changed tree (change.Table name columns key) kept) rows rowless.1 same
rows_follow triples tree (_ ∷ changes) kept rows rowless same = rows_follow triples tree changes _ rows rowless.1 same

-- ---- what becomes of rows

pub content_follows : Triples → (tree : List ℕ → Expr) (table : TableName) (number : RowNo) (content : Option (List Cell)) (kept : Kept) (rows : List Row) → kept.rows ≡ map triple_of rows
    → changed tree (content_change table number content) kept ≡ record kept { rows = map triple_of (with_content table number content rows) }
content_follows triples tree table number None kept rows same =
    ap (λ (rs : List Triple). record kept { rows = rs }) (ap (filter (λ (row : Triple). not (same_table row.0 table && (row.1.0 == number.0)))) same ∙ sym (triples.gone table number rows))
content_follows triples tree table number (Some cells) kept rows same =
    ap (λ (rs : List Triple). record kept { rows = rs })
    (ap (λ (rs : List Triple).
    filter (λ (row : Triple). is_lt (slice_cmp (slice_cmp nat_cmp) (place_of row.0 row.1) (place_of table number))) rs
    ++ (table, number, cells) ∷ filter (λ (row : Triple). is_gt (slice_cmp (slice_cmp nat_cmp) (place_of row.0 row.1) (place_of table number))) rs) same
    ∙ sym (triples.put table number cells rows))

pub finals_follow : Triples → (tree : List ℕ → Expr) (finals : List Final) (kept : Kept) (rows : List Row) → kept.rows ≡ map triple_of rows
    → changed_all tree (map final_change finals) kept ≡ record kept { rows = map triple_of (laid_all rows finals) }
finals_follow triples tree [] kept rows same = ap (λ (rs : List Triple). record kept { rows = rs }) same
finals_follow triples tree (final ∷ finals) kept rows same =
    ap (changed_all tree (map final_change finals)) (content_follows triples tree final.table final.row final.content kept rows same)
    ∙ finals_follow triples tree finals (record kept { rows = map triple_of (with_content final.table final.row final.content rows) }) (with_content final.table final.row final.content rows) refl

-- what a transaction leaves, as the law has it
abbrev pub Settles : Type 0
Settles = (rows : List Row) (changes : List RowChange) (finals : List Final) → IsTrue (are_in_order rows) → AreFinals rows changes finals → laid_all rows finals ≡ laid_over rows changes

pub committed_by : Triples → Settles → (tree : List ℕ → Expr) (client : ClientNo) (contents : Contents) (finals : List Final) → IsTrue (are_in_order (desk_of contents).rows)
    → AreFinals (desk_of contents).rows (open_of (desk_of contents) client) finals → changed_all tree (map final_change finals) contents.kept ≡ committed_for (Some client) contents
committed_by triples settles tree client contents finals ordered are =
    finals_follow triples tree finals contents.kept (desk_of contents).rows (sym (triples.forth contents.kept.rows))
    ∙ ap (λ (rows : List Row). record contents.kept { rows = map triple_of rows }) (settles (desk_of contents).rows (open_of (desk_of contents) client) finals ordered are)

pub logged_follows : Triples → Settles → (tree : List ℕ → Expr) (commits : Option ClientNo) (contents : Contents) (changes logged : List Change) → IsTrue (are_in_order (desk_of contents).rows)
    → IsLogged commits contents changes logged → changed_all tree logged contents.kept ≡ changed_all tree changes (committed_for commits contents)
logged_follows triples settles tree None contents changes logged ordered is = ap (λ (all : List Change). changed_all tree all contents.kept) is
logged_follows triples settles tree (Some client) contents changes logged ordered (finals, are, is) =
    ap (λ (all : List Change). changed_all tree all contents.kept) is ∙ changed_joined tree (map final_change finals) changes contents.kept
    ∙ ap (changed_all tree changes) (committed_by triples settles tree client contents finals ordered are)

pub logged_goes : Triples → Settles → (conditions : Conditions) (image : Bool) (commits : Option ClientNo) (contents : Contents) (changes logged : List Change) → IsTrue (are_in_order (desk_of contents).rows)
    → IsLogged commits contents changes logged → AllGoOn conditions image contents.kept logged → AllGoOn conditions image (committed_for commits contents) changes
logged_goes triples settles conditions image None contents changes logged ordered is goes = subst (AllGoOn conditions image contents.kept) is goes
logged_goes triples settles conditions image (Some client) contents changes logged ordered (finals, are, is) goes =
    subst (λ (kept : Kept). AllGoOn conditions image kept changes) (committed_by triples settles conditions.tree client contents finals ordered are)
    (go_on_behind conditions image (map final_change finals) changes contents.kept (subst (AllGoOn conditions image contents.kept) is goes))

-- ---- all of it

parts_are : (next : Kept) (catalog : Catalog) (grants : Grants) (rows : List Triple) (trail : List Record) (last : Stamp) (instance : ℕ)
    → catalog ≡ catalog_of next → grants ≡ next.grants → rows ≡ next.rows → instance ≡ next.instance → kept_of catalog grants rows trail last instance ≡ record next { trail = trail; last = last }
parts_are next catalog grants rows trail last instance catalogs granted held numbered =
    ap (λ (c : Catalog). kept_of c grants rows trail last instance) catalogs
    ∙ ap (λ (g : Grants). kept_of (catalog_of next) g rows trail last instance) granted
    ∙ ap (λ (r : List Triple). kept_of (catalog_of next) next.grants r trail last instance) held
    ∙ ap (λ (n : ℕ). kept_of (catalog_of next) next.grants next.rows trail last n) numbered

-- a commit changes rows alone
catalog_stays : (commits : Option ClientNo) (contents : Contents) → catalog_of (committed_for commits contents) ≡ catalog_of contents.kept
catalog_stays None contents = refl
catalog_stays (Some client) contents = refl

grants_stay : (commits : Option ClientNo) (contents : Contents) → (committed_for commits contents).grants ≡ contents.kept.grants
grants_stay None contents = refl
grants_stay (Some client) contents = refl

pub tables_stay : (commits : Option ClientNo) (contents : Contents) → (committed_for commits contents).tables ≡ contents.kept.tables
tables_stay None contents = refl
tables_stay (Some client) contents = refl

number_stays : (commits : Option ClientNo) (contents : Contents) → (committed_for commits contents).instance ≡ contents.kept.instance
number_stays None contents = refl
number_stays (Some client) contents = refl

pub rows_stand : Triples → (commits : Option ClientNo) (contents : Contents) → (committed_for commits contents).rows ≡ map triple_of (rows_for commits (desk_of contents))
rows_stand triples None contents = sym (triples.forth contents.kept.rows)
rows_stand triples (Some client) contents = refl

-- the catalogue of what changes make, as the law has it
abbrev pub Catalogs : Type 0
Catalogs = (tree : List ℕ → Expr) (changes : List Change) (kept : Kept) → catalog_of (changed_all tree changes kept) ≡ catalog_after_all tree changes (catalog_of kept)

pub settled_kept : Triples → Settles → Catalogs → (tree : List ℕ → Expr) (commits : Option ClientNo) (contents : Contents) (changes logged : List Change) (purge : Option (Option Stamp)) (records : List Record) (last : Stamp)
    (catalog : Catalog) (grants : Grants) (rows : List Row) (trail : List Record) (instance : ℕ)
    → IsTrue (are_in_order (desk_of contents).rows) → IsLogged commits contents changes logged → AllByRecursion (λ change. ¬ IsOfRow change) changes
    → catalog ≡ catalog_after_all tree changes (catalog_of contents.kept)
    → grants ≡ applied_all (flat_map grant_changes changes) contents.kept.grants
    → rows ≡ rows_edited_all (filter_map table_edit changes) (rows_for commits (desk_of contents))
    → trail ≡ trail_left purge contents.kept.trail ++ records
    → instance ≡ number_after (last_start changes) contents.kept.instance
    → kept_of catalog grants (map triple_of rows) trail last instance ≡ after_parts tree last purge logged records contents.kept
settled_kept triples settles catalogs tree commits contents changes logged purge records last catalog grants rows trail instance ordered is rowless catalog_is grants_are rows_are trail_is number_is =
    let middle = committed_for commits contents in
    let next = changed_all tree changes middle in
    parts_are next catalog grants (map triple_of rows) trail last instance
    (catalog_is ∙ ap (catalog_after_all tree changes) (sym (catalog_stays commits contents)) ∙ sym (catalogs tree changes middle))
    (grants_are ∙ ap (applied_all (flat_map grant_changes changes)) (sym (grants_stay commits contents)) ∙ sym (grants_follow tree changes middle))
    (ap (map triple_of) rows_are ∙ sym (rows_follow triples tree changes middle (rows_for commits (desk_of contents)) rowless (rows_stand triples commits contents)))
    (number_is ∙ ap (number_after (last_start changes)) (sym (number_stays commits contents)) ∙ sym (instance_follows tree changes middle))
    ∙ ap (λ (told : List Record). record next { trail = told; last = last }) trail_is
    ∙ ap (λ (k : Kept). record k { trail = trail_left purge contents.kept.trail ++ records; last = last }) (sym (logged_follows triples settles tree commits contents changes logged ordered is))

-- ---- what is so of it

pub restamped : (conditions : Conditions) (next : Kept) (trail : List Record) (last : Stamp) → last.0 ≤ LAST_MOMENT → IsLawful conditions next → IsLawful conditions (record next { trail = trail; last = last })
restamped conditions next trail last moment h = record {
  ordered = record {
    users = h.ordered.users;
    roles = h.ordered.roles;
    grants = h.ordered.grants;
    tables = h.ordered.tables;
    rows = h.ordered.rows;
    policies = h.ordered.policies;
    enabled = h.ordered.enabled;
    fga = h.ordered.fga;
    on = h.ordered.on;
    unreserved = h.ordered.unreserved;
  };
  founded = record {
    system = h.founded.system;
    role = h.founded.role;
    no_circle = h.founded.no_circle;
    object = h.founded.object;
    tables = h.founded.tables;
    rows = h.founded.rows;
    enabled = h.founded.enabled;
    fga = h.founded.fga;
  };
  truths = record { audit = h.truths.audit; fga = h.truths.fga };
  last = moment;
  archive = h.archive;
  instance = h.instance;
}

pub whole_still : (next : Kept) (trail : List Record) (last : Stamp) → IsWhole next → IsWhole (record next { trail = trail; last = last })
whole_still next trail last h = record {
  fits = h.fits;
  keys = h.keys;
  few = record {
    users = h.few.users;
    roles = h.few.roles;
    tables = h.few.tables;
    policies = h.few.policies;
    fga = h.few.fga;
    grants = h.few.grants;
    columns = h.few.columns;
    rows = h.few.rows;
  };
}

-- all that is kept after changes that go on, as the law has it
abbrev pub StaysLawful : Type 0
StaysLawful = (conditions : Conditions) (image : Bool) (kept : Kept) (changes : List Change) → IsLawful conditions kept → AllGoOn conditions image kept changes → IsLawful conditions (changed_all conditions.tree changes kept)

pub settled_sound : StaysLawful → (conditions : Conditions) (kept : Kept) (last : Stamp) (purge : Option (Option Stamp)) (logged : List Change) (records : List Record)
    → IsKept conditions kept → AllGoOn conditions false kept logged → IsWhole (changed_all conditions.tree logged kept) → AreSpellable last logged records
    → IsKept conditions (after_parts conditions.tree last purge logged records kept)
settled_sound lawful conditions kept last purge logged records h goes whole can = record {
  lawful = restamped conditions (changed_all conditions.tree logged kept) (trail_left purge kept.trail ++ records) last can.moment (lawful conditions false kept logged h.lawful goes);
  whole = whole_still (changed_all conditions.tree logged kept) (trail_left purge kept.trail ++ records) last whole;
  spelled = parts_spelled conditions.tree last purge logged records kept can h.spelled;
}
