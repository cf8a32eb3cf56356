-- What is kept without its trail and its last stamp, and the frames that it takes.
use Rattle.std.proofs.Common.{◌≡◌, ◌∙◌, ◌↔◌, ℕ, Bool, false, true, List, [], ◌∷◌, ◌++◌, map, Option, Some, None, Result, Ok, Err, refl, sym, ap, subst, drop, length, arith}
use Rattle.std.proofs.lemmas.List.{drop_all}
use Rattle.std.specs.Prelude.{IsTrue, OnOk}
use Rattle.au_base.specs.BuiltIn.{sys}
use Rattle.au_base.specs.declared.numbers.ClientNo.{ClientNo}
use Rattle.au_base.specs.declared.numbers.Stamp.{Stamp}
use Rattle.au_catalog.specs.declared.catalog.Catalog.{Catalog}
use Rattle.au_catalog.specs.Settling.{catalog_of}
use Rattle.au_entries.specs.declared.change.Change.{Change}
use Rattle.au_entries.specs.declared.kept.Kept.{Kept}
use Rattle.au_entries.specs.declared.trail_record.Record.{Record}
use Rattle.au_entries.specs.Changing.{KeptRow, changed, changed_all}
use Rattle.au_entries.specs.Frames.{PartsGoOn, after_parts, trail_left}
use Rattle.au_entries.specs.Imaging.{image_changes, nothing}
use Rattle.au_entries.specs.Lawful.{IsLawful, IsWhole}
use Rattle.au_entries.specs.Replaying.{AllGoOn, Conditions, GoesOn, has_user}
use Rattle.au_grants.specs.Rights.{Grants}
use Rattle.au_image.specs.declared.told.Told.{Told}
use Rattle.au_image.specs.Image.{IsWritable, image_of, kept_as_told, kept_of, open_table, trail_told}
use Rattle.au_kept.specs.Anew.{untold}
use Rattle.au_kept.specs.Frames.{IsReplayable, after_frame}
use Rattle.au_kept.specs.Keeping.{Contents, desk_of}
use Rattle.au_kept.specs.Sound.{IsKept}
use Rattle.au_replay.specs.Sights.{showable}
use Rattle.au_step.specs.Replaying.{IsImage}
use Rattle.au_step.specs.State.{State}
use Rattle.au_step.specs.Step.{transaction_of}
use Rattle.au_txn.specs.declared.change.RowChange.{RowChange}
use Rattle.au_txn.specs.Desks.{Contents as Desk, open_of, replayer}
use Rattle.au_txn.specs.Rows.{of_triple, triple_of}
use Rattle.au_txn.specs.Transactions.{laid_over}
use Rattle.au_engine.specs.Imaging.{seen_told, sees_as, told}
use Rattle.au_engine.specs.Prepared.{committed_by}
use Rattle.au_engine.specs.Reserved.{Reserved, contents_of}
use Rattle.rec_codec.specs.declared.frame.Frame.{Frame}
use Rattle.rec_codec.specs.declared.frame.Frame.TheVariants.{Image, Event, Purge}
use Rattle.sql_ast.specs.declared.expression.Expr.{Expr}

-- ---- what no change is tested against

-- what a sight shows suffices
abbrev pub Suffices : Type 0
Suffices = (rules : Conditions) (image : Bool) (kept : Kept) (change : Change) → GoesOn rules image (showable kept) change ↔ GoesOn rules image kept change

all_untold : Suffices → (rules : Conditions) (kept : Kept) (changes : List Change) → AllGoOn rules false kept changes → AllGoOn rules false (untold kept) changes
all_untold law rules kept [] go = tt
all_untold law rules kept (change ∷ changes) go = (
  (law rules false (untold kept) change).0 ((law rules false kept change).1 go.0),
  all_untold law rules (changed rules.tree change kept) changes go.1,
)

changed_untold : (tree : List ℕ → Expr) (kept : Kept) (changes : List Change) → changed_all tree changes (untold kept) ≡ untold (changed_all tree changes kept)
changed_untold tree kept [] = refl
changed_untold tree kept (change ∷ changes) = changed_untold tree (changed tree change kept) changes

whole_untold : (kept : Kept) → IsWhole kept → IsWhole (untold kept)
whole_untold kept h = record {
  fits = h.fits;
  keys = h.keys;
  few = record {
    users = h.few.users;
    roles = h.few.roles;
    tables = h.few.tables;
    policies = h.few.policies;
    fga = h.few.fga;
    grants = h.few.grants;
    columns = h.few.columns;
    rows = h.few.rows;
  };
}

parts_untold : Suffices → (rules : Conditions) (kept : Kept) (stamp : Stamp) (changes : List Change) → PartsGoOn rules false kept stamp changes → PartsGoOn rules false (untold kept) stamp changes
parts_untold law rules kept stamp changes goes =
    let same = sym (changed_untold rules.tree kept changes) in
    record {
      stamped = omega arith;
      go_on = all_untold law rules kept changes goes.go_on;
      sys = subst (λ (k : Kept). IsTrue (has_user k sys)) same goes.sys;
      whole = subst IsWhole same (whole_untold (changed_all rules.tree changes kept) goes.whole);
    }

-- a frame other than an image goes on from it, and leaves the same
pub frame_untold : Suffices → (rules : Conditions) (kept : Kept) (frame : Frame) → (IsImage frame → ⊥) → IsReplayable rules kept frame → IsReplayable rules (untold kept) frame
frame_untold law rules kept (Image last changes records) never goes = absurd (never tt)
frame_untold law rules kept (Event stamp changes records) never goes = parts_untold law rules kept stamp changes goes
frame_untold law rules kept (Purge stamp before changes records) never goes = parts_untold law rules kept stamp changes goes

pub after_untold : (tree : List ℕ → Expr) (kept : Kept) (frame : Frame) → untold (after_frame tree (untold kept) frame) ≡ untold (after_frame tree kept frame)
after_untold tree kept (Image last changes records) = ap untold (changed_untold tree kept changes)
after_untold tree kept (Event stamp changes records) = ap untold (changed_untold tree kept changes)
after_untold tree kept (Purge stamp before changes records) = ap untold (changed_untold tree kept changes)

-- ---- its image

-- the changes of an image go on from nothing, and make of nothing what was kept but for the trail and the last stamp
pub record ComesBack : Type 0 where
  pub goes : (rules : Conditions) (kept : Kept) → IsLawful rules kept → AllGoOn rules true nothing (image_changes kept)
  pub back : (rules : Conditions) (kept : Kept) → IsLawful rules kept → changed_all rules.tree (image_changes kept) nothing ≡ record kept { trail = []; last = record { 0 = 0 } }

pub image_goes : ComesBack → (rules : Conditions) (kept : Kept) → IsKept rules kept → IsTrue (has_user kept sys) → IsReplayable rules nothing (image_of (untold kept))
image_goes law rules kept h user =
    let same = sym (law.back rules kept h.lawful) in
    record {
      stamped = omega arith;
      go_on = law.goes rules kept h.lawful;
      sys = subst (λ (k : Kept). IsTrue (has_user k sys)) same user;
      whole = subst IsWhole same (whole_untold kept h.whole);
    }

pub image_back : ComesBack → (rules : Conditions) (kept : Kept) → IsKept rules kept → after_frame rules.tree nothing (image_of (untold kept)) ≡ untold kept
image_back law rules kept h = ap untold (law.back rules kept h.lawful)

pub untold_writable : (rules : Conditions) (kept : Kept) → IsKept rules kept → IsWritable (untold kept)
untold_writable rules kept h = record { last = omega arith; spelled = record { entries = h.spelled.entries; records = tt } }

pub kept_writable : (rules : Conditions) (kept : Kept) → IsKept rules kept → IsWritable kept
kept_writable rules kept h = record { last = h.lawful.last; spelled = h.spelled }

-- ---- with another trail and another last stamp

-- where nothing else is changed, it is what was kept
pub told_plain : (tree : List ℕ → Expr) (kept next : Kept) (last : Stamp) (purge : Option (Option Stamp)) (changes : List Change) (records trail : List Record) → changes ≡ []
    → next ≡ after_parts tree last purge changes records kept → trail ≡ trail_left purge kept.trail ++ records → told trail last kept ≡ next
told_plain tree kept next last purge changes records trail none leaves is =
    ap (λ (t : List Record). told t last kept) is ∙ sym (leaves ∙ ap (λ (cs : List Change). after_parts tree last purge cs records kept) none)

-- else it is what the copy has
pub told_changed : (tree : List ℕ → Expr) (kept copy next : Kept) (last : Stamp) (purge : Option (Option Stamp)) (changes : List Change) (records trail : List Record) → untold copy ≡ untold next
    → next ≡ after_parts tree last purge changes records kept → trail ≡ trail_left purge kept.trail ++ records → told trail last copy ≡ next
told_changed tree kept copy next last purge changes records trail same leaves is =
    ap (λ (k : Kept). told trail last k) same
    ∙ (ap (λ (t : List Record). told t last next) is
    ∙ (ap (λ (k : Kept). told (trail_left purge kept.trail ++ records) last k) leaves ∙ sym leaves))

-- with all records of a trail, and no others
pub told_all : (kept : Kept) (events : Told) (last : Stamp) → trail_told events ≡ [] → events.last ≡ last → told (trail_told events) events.last kept ≡ told [] last kept
told_all kept events last records stamped = ap (λ (t : List Record). told t events.last kept) records ∙ ap (λ (s : Stamp). told [] s kept) stamped

-- ---- as a client sees it

-- rows as triples, and back
abbrev pub Forth : Type 0
Forth = (rows : List KeptRow) → map triple_of (map of_triple rows) ≡ rows

-- the parts of a keeping, as an image is written of them
pub kept_seen : (contents : Contents) (catalog : Catalog) (grants : Grants) (desk : Desk) (client : ClientNo) (events : Told) (instance : ℕ)
    → catalog ≡ catalog_of contents.kept → grants ≡ contents.kept.grants → desk ≡ desk_of contents → instance ≡ contents.kept.instance
    → kept_as_told catalog grants desk client events instance ≡ seen_told client events contents
kept_seen contents catalog grants desk client events instance parts granted rows number =
    let kept = contents.kept in
    ap (λ (c : Catalog). kept_as_told c grants desk client events instance) parts
    ∙ (ap (λ (g : Grants). kept_as_told (catalog_of kept) g desk client events instance) granted
    ∙ (ap (λ (d : Desk). kept_as_told (catalog_of kept) kept.grants d client events instance) rows
    ∙ ap (λ (n : ℕ). kept_as_told (catalog_of kept) kept.grants (desk_of contents) client events n) number))

pub tables_seen : (contents : Contents) (catalog : Catalog) (desk : Desk) → catalog ≡ catalog_of contents.kept → desk ≡ desk_of contents → desk.tables ≡ map open_table catalog.tables
tables_seen contents catalog desk parts rows = ap (λ (d : Desk). d.tables) rows ∙ ap (λ (c : Catalog). map open_table c.tables) (sym parts)

-- as a client without changes sees it, it is what is kept
pub quiet_seen : Forth → (contents : Contents) (events : Told) → open_of (desk_of contents) replayer ≡ []
    → seen_told replayer events contents ≡ told (trail_told events) events.last contents.kept
quiet_seen forth contents events quiet =
    let kept = contents.kept in
    ap (λ (changes : List RowChange). kept_of (catalog_of kept) kept.grants (map triple_of (laid_over (map of_triple kept.rows) changes)) (trail_told events) events.last kept.instance) quiet
    ∙ ap (λ (rows : List KeptRow). kept_of (catalog_of kept) kept.grants rows (trail_told events) events.last kept.instance) (forth kept.rows)

-- as the client that commits sees it, it is what is kept once it has
pub committed_seen : Forth → (engine : Reserved) (commits : Option ClientNo) (events : Told) → open_of (desk_of (contents_of engine)) replayer ≡ []
    → ((client : ClientNo) → open_of (desk_of (contents_of engine)) client ≡ transaction_of engine.state.sessions client)
    → seen_told (sees_as commits) events (contents_of engine) ≡ told (trail_told events) events.last (committed_by commits engine.state).kept
committed_seen forth engine None events quiet is_open = quiet_seen forth (contents_of engine) events quiet
committed_seen forth engine (Some client) events quiet is_open =
    let kept = engine.state.kept in
    ap (λ (changes : List RowChange). kept_of (catalog_of kept) kept.grants (map triple_of (laid_over (map of_triple kept.rows) changes)) (trail_told events) events.last kept.instance) (is_open client)

-- a commit leaves the trail
pub committed_trail : (commits : Option ClientNo) (m : State) → (committed_by commits m).kept.trail ≡ m.kept.trail
committed_trail None m = refl
committed_trail (Some client) m = refl

-- where a step changes nothing beside the trail but the rows that are committed, what is kept after it is what that client sees
pub committed_after : Forth → (tree : List ℕ → Expr) (engine : Reserved) (commits : Option ClientNo) (events : Told) (last : Stamp) (purge : Option (Option Stamp)) (changes : List Change) (records : List Record) (finals : ℕ)
    → open_of (desk_of (contents_of engine)) replayer ≡ [] → ((client : ClientNo) → open_of (desk_of (contents_of engine)) client ≡ transaction_of engine.state.sessions client)
    → finals ≡ length changes → events.last ≡ last → trail_told events ≡ trail_left purge engine.state.kept.trail ++ records
    → seen_told (sees_as commits) events (contents_of engine) ≡ after_parts tree last purge (drop finals changes) records (committed_by commits engine.state).kept
committed_after forth tree engine commits events last purge changes records finals quiet is_open all stamped is =
    let kept = (committed_by commits engine.state).kept in
    let none = drop_all finals changes (omega (arith, all)) in
    committed_seen forth engine commits events quiet is_open
    ∙ (ap (λ (s : Stamp). told (trail_told events) s kept) stamped
    ∙ told_plain tree kept (after_parts tree last purge (drop finals changes) records kept) last purge (drop finals changes) records (trail_told events) none refl
    (is ∙ ap (λ (t : List Record). trail_left purge t ++ records) (sym (committed_trail commits engine.state))))

-- a fact on what succeeded
pub on_ok : {X E P Q : Type 0} (r : Result X E) → OnOk r P → (P → Q) → OnOk r Q
on_ok (Ok x) holds to = to holds
on_ok (Err e) holds to = tt
