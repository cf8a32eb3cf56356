use Rattle.sql_parse_admin.proofs.AuditLaws.{one_way}
use Rattle.sql_parse_admin.proofs.audits.one_audit_statement.Goals as goal

pub returns : goal.returns
returns c = one_way
