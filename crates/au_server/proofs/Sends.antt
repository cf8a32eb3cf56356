-- A store may go from one thread to another: its parts that hold expressions, each by those below it.
use denote.RattleType.{RattleType}
use denote.Param.Send.{IsSend, sendable}
use Rattle.std.proofs.Crossing.{crosses}
use Rattle.au_base.proofs.action.Action.TheSendSync.{the_send as action_send, the_field_send as action_field}
use Rattle.au_base.proofs.list.List.TheSendSync.{the_send as list_send}
use Rattle.au_base.proofs.name.Name.TheSendSync.{the_send as name_send}
use Rattle.au_base.proofs.numbers.Stamp.TheSendSync.{the_send as stamp_send, the_field_send as stamp_field}
use Rattle.au_base.proofs.privilege.Privilege.TheSendSync.{the_send as privilege_send, the_field_send as privilege_field}
use Rattle.au_base.proofs.table.TableName.TheSendSync.{the_send as table_name_send, the_field_send as table_name_field}
use Rattle.au_base.proofs.text.Text.TheSendSync.{the_send as text_send}
use Rattle.au_entries.proofs.fine_grained.FgaName.TheSendSync.{the_send as fga_name_send, the_field_send as fga_name_field}
use Rattle.au_entries.proofs.policy.Enabled.TheSendSync.{the_send as enabled_send, the_field_send as enabled_field}
use Rattle.au_entries.proofs.policy.Evaluate.TheSendSync.{the_send as evaluate_send, the_field_send as evaluate_field}
use Rattle.au_entries.proofs.table.Table.TheSendSync.{the_send as table_send, the_field_send as table_field}
use Rattle.au_entries.proofs.trail_record.Record.TheSendSync.{the_send as record_send}
use Rattle.au_expr.proofs.placed.Placed.TheLaws.TheKnot.{crosses as placed}
use Rattle.au_grants.proofs.grants.Grants.TheSendSync.{the_send as grants_send}
use Rattle.au_pindex.proofs.bucketed.Bucketed.TheSendSync.{the_field_send as bucketed_field}
use Rattle.au_session.proofs.door.Door.TheSendSync.{the_send as door_send}
use Rattle.au_step.proofs.session.Session.TheSendSync.{the_send as session_send}
use Rattle.au_turn.proofs.pass.Pass.TheSendSync.{the_field_send as pass_field}
use Rattle.au_turn.proofs.turn.Turn.TheSendSync.{the_sync as turn_sync, the_field_sync as turn_field}
use Rattle.au_txn.proofs.desk.Desk.TheSendSync.{the_send as desk_send}
use Rattle.sql_ast.proofs.expression.Expr.TheLaws.TheKnot.{crosses as expressions}
use Rattle.au_catalog.specs.contracts.catalog.Catalog.{the_field as catalog_field_row}
use Rattle.au_engine.specs.contracts.engine.Engine.{the_row as engine_row}
use Rattle.au_entries.specs.contracts.fine_grained.FgaPolicy.{the_field as fga_field_row}
use Rattle.au_entries.specs.contracts.policy.AuditPolicy.{the_field as policy_field_row}
use Rattle.au_entries.specs.contracts.policy.Condition.{the_field as condition_field_row}
use Rattle.au_expr.specs.contracts.resolved.Resolved.{the_row as resolved_row}
use Rattle.au_kept.specs.contracts.keeping.Keeping.{the_row as keeping_row}
use Rattle.au_kept.specs.contracts.keeping.Keeping.TheInside.{the_row as inside_row}
use Rattle.au_pindex.specs.contracts.index.Index.{the_row as index_row}
use Rattle.au_server.specs.contracts.worker.Worker.{the_row as worker_row}
use Rattle.au_store.specs.contracts.store.Store.{the_row as store_row}

ruleset small = (list_send, name_send, text_send, action_send, action_field, privilege_send, privilege_field, table_name_send, table_name_field, stamp_send, stamp_field, evaluate_send, evaluate_field, enabled_send, enabled_field, table_send, table_field, fga_name_send, fga_name_field)

resolved_send : IsSend resolved_row
resolved_send = search (placed, crosses, sendable) depth 60 fits 6000

index_send : IsSend index_row
index_send = search (bucketed_field, resolved_send, crosses, sendable) depth 60 fits 6000

condition_field : IsSend condition_field_row.row
condition_field = search (expressions, crosses, sendable) depth 60 fits 6000

policy_field : IsSend policy_field_row.row
policy_field = search (condition_field, small, crosses, sendable) depth 60 fits 6000

fga_field : IsSend fga_field_row.row
fga_field = search (condition_field, small, sendable) depth 60 fits 6000

catalog_field : IsSend catalog_field_row.row
catalog_field = search (policy_field, fga_field, small, crosses, sendable) depth 60 fits 6000

inside_send : IsSend inside_row
inside_send = search (catalog_field, grants_send, desk_send, record_send, stamp_field, crosses, sendable) depth 60 fits 6000

keeping_send : IsSend keeping_row
keeping_send = search (inside_send, sendable) depth 60 fits 6000

engine_send : IsSend engine_row
engine_send = search (keeping_send, session_send, index_send, crosses, sendable) depth 60 fits 6000

pub store_send : (D C : RattleType) (d : _) (c : _) → IsSend D → IsSend C → IsSend (store_row D C d c)
store_send D C d c send_d send_c = search (engine_send, crosses, sendable) depth 60 fits 6000

pub worker_send : (ℓ : _) (L D C K : RattleType) (lobby : _) (source : _) (stream : _) (sink : _) (link : _) (disk : _) (clock : _)
    → IsSend L → IsSend D → IsSend C → IsSend K → IsSend (worker_row ℓ L D C K lobby source stream sink link disk clock)
worker_send ℓ L D C K lobby source stream sink link disk clock send_l send_d send_c send_k =
    search (turn_sync, turn_field, pass_field, door_send, store_send, sendable) depth 60 fits 6000
