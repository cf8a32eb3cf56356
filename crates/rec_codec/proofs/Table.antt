-- Changes, records and frames are read exactly where they are spelled.
use Rattle.std.proofs.Common.{◌≡◌, ℕ, List, ◌++◌, Some, None, refl}
use Rattle.std.specs.Prelude.{nat_le, ◌&&◌, length}
use Rattle.au_base.specs.Actions as actions
use Rattle.au_entries.specs.declared.change.Change.{Change}
use Rattle.au_entries.specs.declared.change.Change.TheVariants.{User, UserGone, Role, RoleGone, SysGrant, SysRevoke, RoleGrant, RoleRevoke, ObjGrant, ObjRevoke, Table, TableGone, Put, Gone, Policy, PolicyGone, Enable, Fga, FgaGone, Archive, Start}
use Rattle.au_entries.specs.declared.policy.Enabled.{Enabled}
use Rattle.au_entries.specs.declared.policy.Enabled.TheVariants.{Off, By, Except}
use Rattle.au_entries.specs.declared.policy.Evaluate.TheVariants.{Statement, Session, Instance}
use Rattle.rec_parts.specs.Spelling.{is_without_repeats}
use Rattle.rec_parts.specs.Parts.{same_part}
use Rattle.rec_parts.specs.PartsExact.{ArePartsExact}
use Rattle.rec_parts.specs.Exactness.{IsExact}
use Rattle.rec_parts.specs.ExactLaws.{IsBehind, behind_behind, below_behind, by_parts_exact, byte_exact, counted_exact, exact16, exact32, led_by_exact, no_other_behind, nothing_exact, option_exact, pair_exact, such_that_exact, tagged_takes}
use Rattle.rec_codec.specs.declared.frame.Frame.{Frame}
use Rattle.rec_codec.specs.declared.frame.Frame.TheVariants.{Image, Event, Purge}
use Rattle.rec_codec.specs.Changes.{Condition, parts, when, are_users, users, off, enabled, user, system_grant, system_revoke, role_grant, role_revoke, is_object_action, object_action, object_right, created, row, put, policy, enablement, types, fga_name, fga_parts, fga, change}
use Rattle.rec_codec.specs.Records.{done_action, statement_text, demanding, origin, deed, grounds, trail_record}
use Rattle.rec_codec.specs.Frames.{body, purge, frame}
use Rattle.rec_codec.specs.descent.Changes.{parts_first, when_behind, when_first, users_first, off_first, enabled_behind, enabled_first, object_action_first, object_right_first, policy_first, made_policy, types_first, fga_first, made_fga, named_behind, granted_behind, tabled_behind, audited_behind, change_behind, change_first}
use Rattle.rec_codec.specs.descent.Records.{done_action_first, statement_text_first, demanding_first, origin_first, deed_first, grounds_first, record_first}
use Rattle.rec_codec.specs.descent.Frames.{body_first, purge_first, frame_behind, frame_first}

-- ---- changes

parts_exact : ArePartsExact → IsExact parts parts_first
unfolding parts parts_first
parts_exact laws = such_that_exact (is_without_repeats same_part) (counted_exact exact16 (pair_exact laws.an_action (option_exact laws.a_table)))

when_reads : ArePartsExact → IsBehind when when_behind
unfolding when when_behind
when_reads laws =
    behind_behind when 0 (λ x. None) (λ x. refl) (λ x h. tt) nothing_exact
    (behind_behind when 1 (λ condition. Some (Statement, condition)) (λ x. refl) (λ x h. h) laws.a_text
    (behind_behind when 2 (λ condition. Some (Session, condition)) (λ x. refl) (λ x h. h) laws.a_text
    (behind_behind when 3 (λ condition. Some (Instance, condition)) (λ x. refl) (λ x h. h) laws.a_text
    (no_other_behind when))))

when_again : (laws : ArePartsExact) (x : Condition) (rest : List ℕ) → when.IsSpellable x → when_first (when.spelled x ++ rest) ≡ Some (x, rest)
unfolding when when_first when_behind
when_again laws None rest h = refl
when_again laws (Some (Statement, condition)) rest h = rw (laws.a_text.again condition rest h) refl
when_again laws (Some (Session, condition)) rest h = rw (laws.a_text.again condition rest h) refl
when_again laws (Some (Instance, condition)) rest h = rw (laws.a_text.again condition rest h) refl

when_exact : ArePartsExact → IsExact when when_first
unfolding when_first
when_exact laws = record { takes = tagged_takes (when_reads laws); again = when_again laws }

users_exact : ArePartsExact → IsExact users users_first
unfolding users users_first
users_exact laws = such_that_exact are_users (counted_exact exact16 (pair_exact laws.a_name laws.some_outcomes))

off_exact : IsExact off off_first
unfolding off off_first
off_exact = led_by_exact 0 (led_by_exact 0 (led_by_exact 0 nothing_exact))

off_fits : off.IsSpellable tt
unfolding off
off_fits = tt

enabled_reads : ArePartsExact → IsBehind enabled enabled_behind
unfolding enabled enabled_behind
enabled_reads laws =
    behind_behind enabled 0 (λ x. Off) (λ x. refl) (λ x h. tt) off_exact
    (behind_behind enabled 1 By (λ x. refl) (λ x h. h) (led_by_exact 0 (users_exact laws))
    (behind_behind enabled 2 (λ x. Except x.1 x.0) (λ x. refl) (λ x h. h) (pair_exact laws.some_outcomes laws.some_names)
    (no_other_behind enabled)))

enabled_again : (laws : ArePartsExact) (x : Enabled) (rest : List ℕ) → enabled.IsSpellable x → enabled_first (enabled.spelled x ++ rest) ≡ Some (x, rest)
unfolding enabled enabled_first enabled_behind
enabled_again laws Off rest h = rw (off_exact.again tt rest off_fits) refl
enabled_again laws (By us) rest h = rw ((users_exact laws).again us rest h) refl
enabled_again laws (Except ns o) rest h = rw ((pair_exact laws.some_outcomes laws.some_names).again (o, ns) rest h) refl

enabled_exact : ArePartsExact → IsExact enabled enabled_first
unfolding enabled_first
enabled_exact laws = record { takes = tagged_takes (enabled_reads laws); again = enabled_again laws }

object_right_exact : ArePartsExact → IsExact object_right object_right_first
unfolding object_right object_right_first object_action object_action_first
object_right_exact laws = pair_exact laws.a_name (pair_exact laws.a_table (such_that_exact is_object_action laws.an_action))

policy_exact : ArePartsExact → IsExact policy policy_first
unfolding policy policy_first
policy_exact laws = pair_exact laws.a_name (pair_exact laws.some_privileges (pair_exact (parts_exact laws) (pair_exact laws.some_names (when_exact laws))))

fga_exact : ArePartsExact → IsExact fga fga_first
unfolding fga fga_name fga_parts types fga_first types_first
fga_exact laws =
    pair_exact (pair_exact laws.a_table laws.a_name)
    (pair_exact (option_exact laws.a_text) (pair_exact laws.some_names (pair_exact laws.a_truth (pair_exact (such_that_exact (λ t. nat_le 1 t && nat_le t 15) byte_exact) laws.a_truth))))

named_reads : ArePartsExact → IsBehind change named_behind
unfolding change named_behind user
named_reads laws =
    behind_behind change 1 (λ x. User x.0 x.1) (λ x. refl) (λ x h. h) (pair_exact laws.a_name laws.a_verifier)
    (behind_behind change 2 UserGone (λ x. refl) (λ x h. h) laws.a_name
    (behind_behind change 3 Role (λ x. refl) (λ x h. h) laws.a_name
    (behind_behind change 4 RoleGone (λ x. refl) (λ x h. h) laws.a_name
    (no_other_behind change))))

granted_reads : ArePartsExact → IsBehind change granted_behind
unfolding change granted_behind system_grant system_revoke role_grant role_revoke
granted_reads laws =
    behind_behind change 5 (λ x. SysGrant x.0 x.1.0 x.1.1) (λ x. refl) (λ x h. h) (pair_exact laws.a_name (pair_exact laws.a_privilege laws.a_truth))
    (behind_behind change 6 (λ x. SysRevoke x.0 x.1) (λ x. refl) (λ x h. h) (pair_exact laws.a_name laws.a_privilege)
    (behind_behind change 7 (λ x. RoleGrant x.0 x.1.0 x.1.1) (λ x. refl) (λ x h. h) (pair_exact laws.a_name (pair_exact laws.a_name laws.a_truth))
    (behind_behind change 8 (λ x. RoleRevoke x.0 x.1) (λ x. refl) (λ x h. h) (pair_exact laws.a_name laws.a_name)
    (behind_behind change 9 (λ x. ObjGrant x.0 x.1.0 x.1.1) (λ x. refl) (λ x h. h) (object_right_exact laws)
    (behind_behind change 10 (λ x. ObjRevoke x.0 x.1.0 x.1.1) (λ x. refl) (λ x h. h) (object_right_exact laws)
    (no_other_behind change))))))

tabled_reads : ArePartsExact → IsBehind change tabled_behind
unfolding change tabled_behind created put row
tabled_reads laws =
    behind_behind change 11 (λ x. Table x.0 x.1.0 x.1.1) (λ x. refl) (λ x h. h) (pair_exact laws.a_table (pair_exact laws.some_columns laws.some_places))
    (behind_behind change 12 TableGone (λ x. refl) (λ x h. h) laws.a_table
    (behind_behind change 13 (λ x. Put x.0 x.1.0 x.1.1) (λ x. refl) (λ x h. h) (pair_exact laws.a_table (pair_exact laws.a_row_number laws.some_cells))
    (behind_behind change 14 (λ x. Gone x.0 x.1) (λ x. refl) (λ x h. h) (pair_exact laws.a_table laws.a_row_number)
    (no_other_behind change))))

audited_reads : ArePartsExact → IsBehind change audited_behind
unfolding change audited_behind enablement fga_name
audited_reads laws =
    behind_behind change 15 made_policy (λ x. refl) (λ x h. h) (policy_exact laws)
    (behind_behind change 16 PolicyGone (λ x. refl) (λ x h. h) laws.a_name
    (behind_behind change 17 (λ x. Enable x.0 x.1) (λ x. refl) (λ x h. h) (pair_exact laws.a_name (enabled_exact laws))
    (behind_behind change 18 made_fga (λ x. refl) (λ x h. h) (fga_exact laws)
    (behind_behind change 19 (λ x. FgaGone x.0 x.1) (λ x. refl) (λ x h. h) (pair_exact laws.a_table laws.a_name)
    (behind_behind change 20 Archive (λ x. refl) (λ x h. h) (option_exact laws.a_stamp)
    (behind_behind change 21 Start (λ x. refl) (λ x h. h) exact32
    (no_other_behind change)))))))

change_reads : ArePartsExact → IsBehind change change_behind
unfolding change_behind
change_reads laws = below_behind change 5 (named_reads laws) (below_behind change 11 (granted_reads laws) (below_behind change 15 (tabled_reads laws) (audited_reads laws)))

change_again : (laws : ArePartsExact) (x : Change) (rest : List ℕ) → change.IsSpellable x → change_first (change.spelled x ++ rest) ≡ Some (x, rest)
unfolding change change_first change_behind named_behind granted_behind tabled_behind audited_behind user system_grant system_revoke role_grant role_revoke created row put enablement fga_name
change_again laws (User n v) rest h = rw ((pair_exact laws.a_name laws.a_verifier).again (n, v) rest h) refl
change_again laws (UserGone n) rest h = rw (laws.a_name.again n rest h) refl
change_again laws (Role n) rest h = rw (laws.a_name.again n rest h) refl
change_again laws (RoleGone n) rest h = rw (laws.a_name.again n rest h) refl
change_again laws (SysGrant n p a) rest h = rw ((pair_exact laws.a_name (pair_exact laws.a_privilege laws.a_truth)).again (n, (p, a)) rest h) refl
change_again laws (SysRevoke n p) rest h = rw ((pair_exact laws.a_name laws.a_privilege).again (n, p) rest h) refl
change_again laws (RoleGrant n r a) rest h = rw ((pair_exact laws.a_name (pair_exact laws.a_name laws.a_truth)).again (n, (r, a)) rest h) refl
change_again laws (RoleRevoke n r) rest h = rw ((pair_exact laws.a_name laws.a_name).again (n, r) rest h) refl
change_again laws (ObjGrant n t a) rest h = rw ((object_right_exact laws).again (n, (t, a)) rest h) refl
change_again laws (ObjRevoke n t a) rest h = rw ((object_right_exact laws).again (n, (t, a)) rest h) refl
change_again laws (Table t cs k) rest h = rw ((pair_exact laws.a_table (pair_exact laws.some_columns laws.some_places)).again (t, (cs, k)) rest h) refl
change_again laws (TableGone t) rest h = rw (laws.a_table.again t rest h) refl
change_again laws (Put t r cs) rest h = rw ((pair_exact laws.a_table (pair_exact laws.a_row_number laws.some_cells)).again (t, (r, cs)) rest h) refl
change_again laws (Gone t r) rest h = rw ((pair_exact laws.a_table laws.a_row_number).again (t, r) rest h) refl
change_again laws (Policy n ps ts rs w) rest h = rw ((policy_exact laws).again (n, (ps, (ts, (rs, w)))) rest h) refl
change_again laws (PolicyGone n) rest h = rw (laws.a_name.again n rest h) refl
change_again laws (Enable n e) rest h = rw ((pair_exact laws.a_name (enabled_exact laws)).again (n, e) rest h) refl
change_again laws (Fga t n c cs a ts e) rest h = rw ((fga_exact laws).again ((t, n), (c, (cs, (a, (ts, e))))) rest h) refl
change_again laws (FgaGone t n) rest h = rw ((pair_exact laws.a_table laws.a_name).again (t, n) rest h) refl
change_again laws (Archive s) rest h = rw ((option_exact laws.a_stamp).again s rest h) refl
change_again laws (Start i) rest h = rw (exact32.again i rest h) refl

change_exact : ArePartsExact → IsExact change change_first
unfolding change_first
change_exact laws = record { takes = tagged_takes (change_reads laws); again = change_again laws }

-- ---- records

origin_exact : ArePartsExact → IsExact origin origin_first
unfolding origin origin_first
origin_exact laws = by_parts_exact _ _ (λ x. refl) (λ o. refl) (pair_exact laws.a_kind (pair_exact laws.a_session (pair_exact exact32 (pair_exact exact32 (pair_exact laws.a_stamp laws.a_name)))))

deed_exact : ArePartsExact → IsExact deed deed_first
unfolding deed deed_first done_action done_action_first statement_text statement_text_first
deed_exact laws =
    by_parts_exact _ _ (λ x. refl) (λ d. refl)
    (pair_exact (such_that_exact (λ a. nat_le 1 (actions.code_of a)) laws.an_action)
    (pair_exact (option_exact laws.a_name)
    (pair_exact (option_exact laws.a_name)
    (option_exact (such_that_exact (λ bytes. nat_le 1 (length bytes) && nat_le (length bytes) 32_767) laws.a_text)))))

grounds_exact : ArePartsExact → IsExact grounds grounds_first
unfolding grounds grounds_first demanding demanding_first
grounds_exact laws =
    by_parts_exact _ _ (λ x. refl) (λ g. refl)
    (pair_exact laws.some_privileges (pair_exact (such_that_exact (λ ns. nat_le (length ns) 10_001) laws.some_names) (pair_exact (option_exact laws.a_name) laws.a_return_code)))

trail_record_exact : ArePartsExact → IsExact trail_record record_first
unfolding trail_record record_first
trail_record_exact laws = by_parts_exact _ _ (λ x. refl) (λ r. refl) (pair_exact (origin_exact laws) (pair_exact (deed_exact laws) (grounds_exact laws)))

-- ---- frames

body_exact : ArePartsExact → IsExact body body_first
unfolding body body_first
body_exact laws = pair_exact laws.a_stamp (pair_exact (counted_exact exact32 (change_exact laws)) (counted_exact exact32 (trail_record_exact laws)))

purge_exact : ArePartsExact → IsExact purge purge_first
unfolding purge purge_first
purge_exact laws = pair_exact laws.a_stamp (pair_exact (option_exact laws.a_stamp) (pair_exact (counted_exact exact32 (change_exact laws)) (counted_exact exact32 (trail_record_exact laws))))

frame_reads : ArePartsExact → IsBehind frame frame_behind
unfolding frame frame_behind
frame_reads laws =
    behind_behind frame 1 (λ x. Image x.0 x.1.0 x.1.1) (λ x. refl) (λ x h. h) (body_exact laws)
    (behind_behind frame 2 (λ x. Event x.0 x.1.0 x.1.1) (λ x. refl) (λ x h. h) (body_exact laws)
    (behind_behind frame 3 (λ x. Purge x.0 x.1.0 x.1.1.0 x.1.1.1) (λ x. refl) (λ x h. h) (purge_exact laws)
    (no_other_behind frame)))

frame_again : (laws : ArePartsExact) (x : Frame) (rest : List ℕ) → frame.IsSpellable x → frame_first (frame.spelled x ++ rest) ≡ Some (x, rest)
unfolding frame frame_first frame_behind
frame_again laws (Image last changes records) rest h = rw ((body_exact laws).again (last, (changes, records)) rest h) refl
frame_again laws (Event moment changes records) rest h = rw ((body_exact laws).again (moment, (changes, records)) rest h) refl
frame_again laws (Purge moment before changes records) rest h = rw ((purge_exact laws).again (moment, (before, (changes, records))) rest h) refl

pub frame_exact : ArePartsExact → IsExact frame frame_first
unfolding frame_first
frame_exact laws = record { takes = tagged_takes (frame_reads laws); again = frame_again laws }
