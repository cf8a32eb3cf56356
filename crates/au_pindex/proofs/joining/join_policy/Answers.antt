use Rattle.std.proofs.Common.{◌∙◌, ap, sym}
use Rattle.std.specs.List.{list_any}
use Rattle.std.specs.Str.{bytes_eq}
use Rattle.au_base.specs.Sameness.{same_privilege}
use Rattle.au_pindex.specs.Naming.{is_of_action, is_on_table}
use Rattle.au_pindex.proofs.Ended.{takes_room}
use Rattle.au_pindex.proofs.joining.join_policy.Goals as goal

pub join_actions-requires : goal.join_actions-requires
join_actions-requires c = record {
  room = λ action named. takes_room c.args.place _ (c.requires.room.actions action (ap (list_any (is_of_action action)) (sym c.as_slice.ensures) ∙ named));
  on_tables = λ table named. takes_room c.args.place _ (c.requires.room.tables table (ap (list_any (is_on_table table)) (sym c.as_slice.ensures) ∙ named));
}

pub join_privileges-requires : goal.join_privileges-requires
join_privileges-requires c = record { room = λ privilege named. takes_room c.args.place _ (c.requires.room.privileges privilege (ap (list_any (λ part. same_privilege part privilege)) (sym c.as_slice-2.ensures) ∙ named)) }

pub join_roles-requires : goal.join_roles-requires
join_roles-requires c = record { room = λ role named. takes_room c.args.place _ (c.requires.room.roles role (ap (list_any (λ part. bytes_eq part role)) (sym c.as_slice-3.ensures) ∙ named)) }
