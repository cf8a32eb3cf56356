-- What is built anew, and how it takes the place of what was kept.
use Rattle.std.proofs.Common.{◌≡◌, ◌≤◌, ◌∙◌, ℕ, suc, Bool, true, false, ◌↔◌, List, [], ◌∷◌, ◌++◌, map, refl, sym, ap, ap₂, subst, inl, inr, arith}
use Rattle.std.specs.Prelude.{IsTrue, if◌then◌else◌, Option, Some, None, Result, Ok, Err, IfOk}
use Rattle.std.specs.List.{Contains}
use Rattle.std.proofs.lemmas.Option.{get_or_from_slice_get}
use Rattle.au_base.specs.BuiltIn.{sys}
use Rattle.au_base.specs.Limits.{GRANTS}
use Rattle.au_base.specs.Sameness.{same_table}
use Rattle.au_base.specs.declared.cell.Cell.{Cell}
use Rattle.au_base.specs.declared.cell.Cell.TheVariants.{Null}
use Rattle.au_base.specs.declared.numbers.ClientNo.{ClientNo}
use Rattle.au_base.specs.declared.numbers.RowNo.{RowNo}
use Rattle.au_base.specs.declared.table.TableName.{TableName}
use Rattle.au_entries.specs.declared.change.Change.{Change}
use Rattle.au_entries.specs.declared.kept.Kept.{Kept}
use Rattle.au_entries.specs.declared.table.Table.{Table}
use Rattle.au_entries.specs.declared.trail_record.Record.{Record}
use Rattle.au_entries.specs.Changing.{KeptRow, changed, changed_all}
use Rattle.au_entries.specs.Frames.{trail_left}
use Rattle.au_entries.specs.Lawful.{IsLawful, IsWhole, KeysDiffer as KeptKeysDiffer, key_of}
use Rattle.au_entries.specs.Replaying.{AllGoOn, GoesOn, has_user}
use Rattle.au_grants.specs.Rights.{grant_count}
use Rattle.au_entries.specs.Imaging.{image_changes, nothing}
use Rattle.au_image.specs.Image.{image_of, kept_of, kept_rows, open_table}
use Rattle.rec_codec.specs.declared.frame.Frame.{Frame}
use Rattle.rec_codec.specs.Frames.{IsFrame, IsSpellable, Reads, spelled}
use Rattle.au_kept.specs.declared.building.Building.{Building}
use Rattle.au_kept.specs.declared.parts.Parts.{Parts}
use Rattle.au_kept.specs.Anew.{AreChangesOf, CanReplay, GoOn, IsBuilt, Rests, after, untold}
use Rattle.au_kept.specs.Building.{IsFirm, IsQuiet, kept_in}
use Rattle.au_kept.specs.Keeping.{HoldsTogether}
use Rattle.au_kept.specs.Sound.{IsKept}
use Rattle.au_kept.proofs.Among.{here, none, split, there}
use Rattle.au_kept.proofs.OpenTables.{same_name}
use Rattle.au_kept.proofs.Sounds.{quiet_sound}
use Rattle.au_replay.specs.Reading.{conditions}
use Rattle.au_replay.specs.Sights.{showable}
use Rattle.au_replay.specs.Touched.{IsWholeRow, IsWholeWhereTouched}
use Rattle.au_rows.specs.Held.{HasKey}
use Rattle.au_txn.specs.declared.change.RowChange.{RowChange}
use Rattle.au_txn.specs.Desks.{Contents as Desk, key_of as open_key, open_in, open_of, replayer}
use Rattle.au_txn.specs.Keys.{IsKeyedDesk, KeysDiffer}
use Rattle.au_txn.specs.Logs.{Changes, changes_of}
use Rattle.au_txn.specs.Rows.{Row, row_at, triple_of}

-- ---- what no change is tested against

-- what a sight shows suffices
abbrev pub Suffices : Type 0
Suffices = (image : Bool) (kept : Kept) (change : Change) → GoesOn conditions image (showable kept) change ↔ GoesOn conditions image kept change

pub all_untold : Suffices → (image : Bool) (kept : Kept) (changes : List Change) → AllGoOn conditions image (untold kept) changes ↔ AllGoOn conditions image kept changes
all_untold law image kept [] = (λ is. is, λ is. is)
all_untold law image kept (change ∷ changes) =
    let one = law image (untold kept) change in
    let other = law image kept change in
    let more = all_untold law image (changed conditions.tree change kept) changes in
    (λ go. (other.0 (one.1 go.0), more.0 go.1), λ go. (one.0 (other.1 go.0), more.1 go.1))

pub changed_untold : (kept : Kept) (changes : List Change) → changed_all conditions.tree changes (untold kept) ≡ untold (changed_all conditions.tree changes kept)
changed_untold kept [] = refl
changed_untold kept (change ∷ changes) = changed_untold (changed conditions.tree change kept) changes

row_untold : (kept : Kept) (row : KeptRow) → IsWholeRow kept row → IsWholeRow (untold kept) row
row_untold kept row w = record { fits = w.fits; alone = w.alone }

row_told : (kept : Kept) (row : KeptRow) → IsWholeRow (untold kept) row → IsWholeRow kept row
row_told kept row w = record { fits = w.fits; alone = w.alone }

touched_untold : (changes : List Change) (kept : Kept) → IsWholeWhereTouched changes kept → IsWholeWhereTouched changes (untold kept)
touched_untold changes kept w = record {
  rows = λ row has puts. row_untold kept row (w.rows row has puts);
  columns = w.columns;
  counts = w.counts;
  few = record { users = w.few.users; roles = w.few.roles; tables = w.few.tables; policies = w.few.policies; fga = w.few.fga; grants = w.few.grants };
}

touched_told : (changes : List Change) (kept : Kept) → IsWholeWhereTouched changes (untold kept) → IsWholeWhereTouched changes kept
touched_told changes kept w = record {
  rows = λ row has puts. row_told kept row (w.rows row has puts);
  columns = w.columns;
  counts = w.counts;
  few = record { users = w.few.users; roles = w.few.roles; tables = w.few.tables; policies = w.few.policies; fga = w.few.fga; grants = w.few.grants };
}

-- ---- what is built

-- what is whole before stays so where what is touched is
abbrev pub TouchedSuffices : Type 0
TouchedSuffices = (image : Bool) (kept : Kept) (changes : List Change) → IsLawful conditions kept → IsWhole kept → AllGoOn conditions image kept changes
    → IsWhole (changed_all conditions.tree changes kept) ↔ IsWholeWhereTouched changes (changed_all conditions.tree changes kept)

pub none_goes : Suffices → (parts : Parts) (kept begun : Kept) (goes : Bool) → begun ≡ untold kept → goes ≡ false → (IsTrue goes ↔ AllGoOn conditions parts.image begun parts.changes) → ¬ Rests parts kept
none_goes law parts kept begun goes same fails is rests =
    let yes = is.1 (subst (λ (k : Kept). AllGoOn conditions parts.image k parts.changes) (sym same) ((all_untold law parts.image kept parts.changes).1 rests.go_on)) in
    let e : true ≡ false = sym yes ∙ fails in cc

made_of : (parts : Parts) (kept begun : Kept) (made : Kept) → begun ≡ untold kept → made ≡ changed_all conditions.tree parts.changes begun → made ≡ untold (changed_all conditions.tree parts.changes kept)
made_of parts kept begun made same is = is ∙ ap (changed_all conditions.tree parts.changes) same ∙ changed_untold kept parts.changes

pub not_whole : Suffices → TouchedSuffices → (parts : Parts) (kept begun made : Kept) (whole : Bool) → IsKept conditions kept → begun ≡ untold kept → made ≡ changed_all conditions.tree parts.changes begun
    → whole ≡ false → (IsTrue whole ↔ (IsTrue (has_user made sys) × IsWholeWhereTouched parts.changes made)) → ¬ Rests parts kept
not_whole law touched parts kept begun made whole h same is fails tells rests =
    let built = made_of parts kept begun made same is in
    let next = changed_all conditions.tree parts.changes kept in
    let w = (touched parts.image kept parts.changes h.lawful h.whole rests.go_on).0 rests.whole in
    let yes = tells.1 (subst (λ (k : Kept). IsTrue (has_user k sys)) (sym built) rests.sys, subst (IsWholeWhereTouched parts.changes) (sym built) (touched_untold parts.changes next w)) in
    let e : true ≡ false = sym yes ∙ fails in cc

pub all_whole : Suffices → TouchedSuffices → (parts : Parts) (kept begun : Kept) (building : Building) → IsKept conditions kept → begun ≡ untold kept → kept_in building ≡ changed_all conditions.tree parts.changes begun
    → IsFirm building → AllGoOn conditions parts.image begun parts.changes → (IsTrue (has_user (kept_in building) sys) × IsWholeWhereTouched parts.changes (kept_in building)) → IsBuilt parts kept building
all_whole law touched parts kept begun building h same is firm goes whole =
    let built = made_of parts kept begun (kept_in building) same is in
    let next = changed_all conditions.tree parts.changes kept in
    let go_on = (all_untold law parts.image kept parts.changes).0 (subst (λ (k : Kept). AllGoOn conditions parts.image k parts.changes) same goes) in
    record {
      rests = record {
        go_on = go_on;
        sys = subst (λ (k : Kept). IsTrue (has_user k sys)) built whole.0;
        whole = (touched parts.image kept parts.changes h.lawful h.whole go_on).1 (touched_told parts.changes next (subst (IsWholeWhereTouched parts.changes) built whole.1));
      };
      firm = firm;
      built = built;
    }

-- ---- what is taken

pub go_on_from : (parts : Parts) (kept : Kept) → kept.last.0 ≤ parts.stamp.0 → Rests parts kept → GoOn parts kept
go_on_from parts kept stamped rests = record { stamped = stamped; go_on = rests.go_on; sys = rests.sys; whole = rests.whole }

pub few_grants : (parts : Parts) (kept : Kept) (building : Building) → IsBuilt parts kept building → grant_count building.grants ≤ GRANTS
few_grants parts kept building b = subst (λ (k : Kept). grant_count k.grants ≤ GRANTS) (sym b.built) b.rests.whole.few.grants

pub taken : (parts : Parts) (kept : Kept) (building : Building) (trail : List Record) → IsBuilt parts kept building → trail ≡ trail_left parts.purge kept.trail ++ parts.records
    → kept_of building.catalog building.grants (kept_rows building.desk) trail parts.stamp building.instance ≡ after parts kept
taken parts kept building trail b is =
    ap (λ (k : Kept). record k { trail = trail; last = parts.stamp }) b.built
    ∙ ap (λ (t : List Record). record (changed_all conditions.tree parts.changes kept) { trail = t; last = parts.stamp }) is

key_is : (places : List ℕ) (key : List Cell) (cells : List Cell) → HasKey places key (Some cells) → key ≡ key_of places cells
key_is [] [] cells has = refl
key_is [] (cell ∷ key) cells has = absurd (let e = has.0 in omega (arith, e))
key_is (place ∷ places) [] cells has = absurd (let e = has.0 in omega (arith, e))
key_is (place ∷ places) (cell ∷ key) cells has =
    ap₂ (λ (a : Cell) (b : List Cell). a ∷ b) (sym (get_or_from_slice_get cells place cell Null (has.1 0 (omega arith))))
    (key_is places key cells ((let e = has.0 in omega (arith, e)), λ at least. has.1 (suc at) (omega (arith, least))))

abbrev HasTable : TableName → List ℕ → List Table → Type 0
HasTable name key tables = (t : Table) × Contains tables t × (t.name ≡ name) × (t.key ≡ key)

keyed_at : (name : TableName) (t : Table) (tables : List Table) (place : ℕ) (places : List ℕ) (b : Bool) → same_table t.name name ≡ b
    → (open_key name (map open_table tables) ≡ place ∷ places → HasTable name (place ∷ places) tables)
    → (if b then t.key else open_key name (map open_table tables)) ≡ place ∷ places → HasTable name (place ∷ places) (t ∷ tables)
keyed_at name t tables place places true same more is = (t, here t tables, same_name t.name name same, is)
keyed_at name t tables place places false same more is = let (u, among, named, keyed) = more is in (u, there t tables u among, named, keyed)

-- a key is that of a table
keyed_by : (name : TableName) (tables : List Table) (place : ℕ) (places : List ℕ) → open_key name (map open_table tables) ≡ place ∷ places → HasTable name (place ∷ places) tables
keyed_by name [] place places is = absurd (let e : [] ≡ place ∷ places = is in cc)
keyed_by name (t ∷ tables) place places is = keyed_at name t tables place places (same_table t.name name) refl (keyed_by name tables place places) is

mapped_to : {X Y : Type 0} (f : X → Y) (xs : List X) (x : X) → Contains xs x → Contains (map f xs) (f x)
mapped_to f [] x has = absurd (none x has)
mapped_to f (y ∷ xs) x has = elim (split y xs x has) [
  | inl same ↦ subst (λ z. Contains (f y ∷ map f xs) z) (ap f same) (here (f y) (map f xs))
  | inr later ↦ there (f y) (map f xs) (f x) (mapped_to f xs x later)
]

-- what rows answer stands among them
abbrev pub StandsThere : Type 0
StandsThere = (rows : List Row) (row : Row) → row_at row.table row.number rows ≡ Some row.cells → Contains rows row

abbrev pub AreKept : Kept → Desk → Type 0
AreKept kept desk = (desk.tables ≡ map open_table kept.tables) × (kept.rows ≡ map triple_of desk.rows)

row_of : StandsThere → (kept : Kept) (desk : Desk) → AreKept kept desk → (name : TableName) (number : RowNo) (cells : List Cell) → row_at name number desk.rows ≡ Some cells → Contains kept.rows (name, number, cells)
row_of stands kept desk same name number cells is =
    let row : Row = record { table = name; number = number; cells = cells } in
    subst (λ (rows : List KeptRow). Contains rows (name, number, cells)) (sym same.1) (mapped_to triple_of desk.rows row (stands desk.rows row is))

differ_at : StandsThere → (kept : Kept) (desk : Desk) → AreKept kept desk → KeptKeysDiffer kept → (name : TableName) (place : ℕ) (places : List ℕ) → HasTable name (place ∷ places) kept.tables
    → (m n : RowNo) (key : List Cell) (o p : Option (List Cell)) → row_at name m desk.rows ≡ o → row_at name n desk.rows ≡ p → HasKey (place ∷ places) key o → HasKey (place ∷ places) key p → m ≡ n
differ_at stands kept desk same differ name place places found m n key None p om on one two = absurd one
differ_at stands kept desk same differ name place places found m n key (Some a) None om on one two = absurd two
differ_at stands kept desk same differ name place places found m n key (Some a) (Some b) om on one two =
    let (t, among, named, keyed) = found in
    differ (name, m, a) (name, n, b) t (row_of stands kept desk same name m a om) (row_of stands kept desk same name n b on) (among, named) refl
    (λ e. (let bad : place ∷ places ≡ [] = sym keyed ∙ e in cc))
    (subst (λ (k : List ℕ). key_of k a ≡ key_of k b) (sym keyed) (sym (key_is (place ∷ places) key a one) ∙ key_is (place ∷ places) key b two))

differ_by : StandsThere → (kept : Kept) (desk : Desk) → AreKept kept desk → KeptKeysDiffer kept → (name : TableName) (places : List ℕ) → open_key name desk.tables ≡ places → KeysDiffer places name desk.rows
differ_by stands kept desk same differ name [] is = tt
differ_by stands kept desk same differ name (place ∷ places) is = λ m n key one two.
    differ_at stands kept desk same differ name place places (keyed_by name kept.tables place places (sym (ap (open_key name) same.0) ∙ is)) m n key
    (row_at name m desk.rows) (row_at name n desk.rows) refl refl one two

-- keys keep their discipline where no client has changes
abbrev pub Quiet : Type 0
Quiet = (desk : Desk) → ((client : ClientNo) → open_of desk client ≡ []) → ((table : TableName) → KeysDiffer (open_key table desk.tables) table desk.rows) → IsKeyedDesk desk

pub taken_holds : Quiet → StandsThere → (parts : Parts) (kept next : Kept) (building : Building) → kept.last.0 ≤ parts.stamp.0 → CanReplay parts kept → IsBuilt parts kept building
    → next ≡ after parts kept → next.tables ≡ building.catalog.tables → next.rows ≡ kept_rows building.desk → HoldsTogether next building.desk
taken_holds quiet stands parts kept next building stamped can b is tables rows =
    let h : IsKept conditions next = subst (IsKept conditions) (sym is) (can.keeps (go_on_from parts kept stamped b.rests)) in
    let tables_are : building.desk.tables ≡ map open_table next.tables = b.firm.desk_is.tables_are ∙ ap (map open_table) (sym tables) in
    record {
      kept_is = h;
      desk_is = record { tables_are = tables_are; quiet = b.firm.desk_is.quiet };
      keyed = quiet building.desk b.firm.quiet (λ name. differ_by stands next building.desk (tables_are, rows) h.whole.keys name (open_key name building.desk.tables) refl);
      changes = quiet_sound next building.desk b.firm.quiet rows h.lawful.founded.rows h.whole.few.rows;
    }

-- ---- clients without changes

front_none : (xs ys : List RowChange) → xs ++ ys ≡ [] → xs ≡ []
front_none [] ys empty = refl
front_none (x ∷ xs) ys empty = absurd (let e : x ∷ (xs ++ ys) ≡ [] = empty in cc)

pub quiet_lists : (desk : Desk) → IsQuiet desk → (client : ClientNo) → open_in [] desk.logs client ≡ []
quiet_lists desk quiet client =
    subst (λ (laid : List RowChange). open_in laid desk.logs client ≡ []) (front_none desk.laid (changes_of replayer desk.logs) (quiet replayer)) (quiet client)

-- ---- a copy by the image

pub copied_is : (kept begun made : Kept) (changes : List Change) (goes : Bool) → begun ≡ nothing → changes ≡ image_changes kept → AllGoOn conditions true nothing (image_changes kept)
    → changed_all conditions.tree (image_changes kept) nothing ≡ untold kept → (IsTrue goes ↔ AllGoOn conditions true begun changes) → (IsTrue goes → made ≡ changed_all conditions.tree changes begun) → made ≡ untold kept
copied_is kept begun made changes goes blank same all back is makes =
    let yes = is.1 (subst (λ (k : Kept). AllGoOn conditions true k changes) (sym blank) (subst (AllGoOn conditions true nothing) (sym same) all)) in
    makes yes ∙ ap₂ (λ (cs : List Change) (k : Kept). changed_all conditions.tree cs k) same blank ∙ back

-- the body of an image is read as that image
pub read_back : ((bytes : List ℕ) (a b : Frame) → IsFrame bytes a → IsFrame bytes b → a ≡ b) → (bytes : List ℕ) (kept : Kept) → bytes ≡ spelled (image_of kept) → IsSpellable (image_of kept) → (found : Option Frame) → Reads bytes found → found ≡ Some (image_of kept)
read_back one bytes kept is can None reads = absurd (reads (image_of kept) (record { spellable = can; bytes_are = is }))
read_back one bytes kept is can (Some frame) reads = ap Some (one bytes frame (image_of kept) reads (record { spellable = can; bytes_are = is }))

pub changes_back : {E : Type 0} (kept : Kept) (found : Option Frame) (answer : Result (List Change) E) → found ≡ Some (image_of kept) → IfOk answer (AreChangesOf found) → IfOk answer (λ changes. changes ≡ image_changes kept)
changes_back kept found (Ok changes) is holds = subst (λ (f : Option Frame). AreChangesOf f changes) is holds
changes_back kept found (Err e) is holds = holds
