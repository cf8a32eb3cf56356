-- That the constants of the program are those of the tables, one by one.
use Rattle.std.specs.Prelude.{◌≡◌}
use Rattle.au_base.specs.declared.action.TheConstants.Action as actions
use Rattle.au_base.specs.declared.arithmetic.TheConstants as sums
use Rattle.au_base.specs.declared.built_in.TheConstants as names
use Rattle.au_base.specs.declared.calendar.TheConstants as calendar
use Rattle.au_base.specs.declared.code.TheConstants.Code as codes
use Rattle.au_base.specs.declared.limits.TheConstants as limits
use Rattle.au_base.specs.declared.privilege.TheConstants.Privilege as privileges
use Rattle.au_base.specs.Actions.{each_action}
use Rattle.au_base.specs.BuiltIn as built_in
use Rattle.au_base.specs.Codes as listed_codes
use Rattle.au_base.specs.Limits as listed_limits
use Rattle.au_base.specs.Privileges.{each_privilege}

-- each code has its number
pub record AreCodesListed : Type 0 where
  pub done : codes.DONE ≡ listed_codes.DONE
  pub key_present : codes.KEY_PRESENT ≡ listed_codes.KEY_PRESENT
  pub too_many_sessions : codes.TOO_MANY_SESSIONS ≡ listed_codes.TOO_MANY_SESSIONS
  pub locked : codes.LOCKED ≡ listed_codes.LOCKED
  pub not_read : codes.NOT_READ ≡ listed_codes.NOT_READ
  pub unknown_column : codes.UNKNOWN_COLUMN ≡ listed_codes.UNKNOWN_COLUMN
  pub too_many_values : codes.TOO_MANY_VALUES ≡ listed_codes.TOO_MANY_VALUES
  pub ambiguous_column : codes.AMBIGUOUS_COLUMN ≡ listed_codes.AMBIGUOUS_COLUMN
  pub wrong_kind : codes.WRONG_KIND ≡ listed_codes.WRONG_KIND
  pub no_such_table : codes.NO_SUCH_TABLE ≡ listed_codes.NO_SUCH_TABLE
  pub too_few_values : codes.TOO_FEW_VALUES ≡ listed_codes.TOO_FEW_VALUES
  pub name_used : codes.NAME_USED ≡ listed_codes.NAME_USED
  pub column_twice : codes.COLUMN_TWICE ≡ listed_codes.COLUMN_TWICE
  pub not_logged_on : codes.NOT_LOGGED_ON ≡ listed_codes.NOT_LOGGED_ON
  pub bad_logon : codes.BAD_LOGON ≡ listed_codes.BAD_LOGON
  pub privilege_missing : codes.PRIVILEGE_MISSING ≡ listed_codes.PRIVILEGE_MISSING
  pub no_create_session : codes.NO_CREATE_SESSION ≡ listed_codes.NO_CREATE_SESSION
  pub null_inserted : codes.NULL_INSERTED ≡ listed_codes.NULL_INSERTED
  pub null_set : codes.NULL_SET ≡ listed_codes.NULL_SET
  pub overflow : codes.OVERFLOW ≡ listed_codes.OVERFLOW
  pub number_too_wide : codes.NUMBER_TOO_WIDE ≡ listed_codes.NUMBER_TOO_WIDE
  pub no_such_grantee : codes.NO_SUCH_GRANTEE ≡ listed_codes.NO_SUCH_GRANTEE
  pub no_such_user : codes.NO_SUCH_USER ≡ listed_codes.NO_SUCH_USER
  pub no_such_role : codes.NO_SUCH_ROLE ≡ listed_codes.NO_SUCH_ROLE
  pub user_name_used : codes.USER_NAME_USED ≡ listed_codes.USER_NAME_USED
  pub role_name_used : codes.ROLE_NAME_USED ≡ listed_codes.ROLE_NAME_USED
  pub user_owns_tables : codes.USER_OWNS_TABLES ≡ listed_codes.USER_OWNS_TABLES
  pub object_privilege_not_granted : codes.OBJECT_PRIVILEGE_NOT_GRANTED ≡ listed_codes.OBJECT_PRIVILEGE_NOT_GRANTED
  pub circular_role_grant : codes.CIRCULAR_ROLE_GRANT ≡ listed_codes.CIRCULAR_ROLE_GRANT
  pub user_connected : codes.USER_CONNECTED ≡ listed_codes.USER_CONNECTED
  pub role_not_granted : codes.ROLE_NOT_GRANTED ≡ listed_codes.ROLE_NOT_GRANTED
  pub privilege_not_granted : codes.PRIVILEGE_NOT_GRANTED ≡ listed_codes.PRIVILEGE_NOT_GRANTED
  pub second_primary_key : codes.SECOND_PRIMARY_KEY ≡ listed_codes.SECOND_PRIMARY_KEY
  pub text_too_long : codes.TEXT_TOO_LONG ≡ listed_codes.TEXT_TOO_LONG
  pub fine_grained_policy_present : codes.FINE_GRAINED_POLICY_PRESENT ≡ listed_codes.FINE_GRAINED_POLICY_PRESENT
  pub no_such_fine_grained_policy : codes.NO_SUCH_FINE_GRAINED_POLICY ≡ listed_codes.NO_SUCH_FINE_GRAINED_POLICY
  pub bad_argument : codes.BAD_ARGUMENT ≡ listed_codes.BAD_ARGUMENT
  pub bad_management_argument : codes.BAD_MANAGEMENT_ARGUMENT ≡ listed_codes.BAD_MANAGEMENT_ARGUMENT
  pub other_mode : codes.OTHER_MODE ≡ listed_codes.OTHER_MODE
  pub not_enabled_so : codes.NOT_ENABLED_SO ≡ listed_codes.NOT_ENABLED_SO
  pub no_such_policy : codes.NO_SUCH_POLICY ≡ listed_codes.NO_SUCH_POLICY
  pub policy_present : codes.POLICY_PRESENT ≡ listed_codes.POLICY_PRESENT
  pub policy_enabled : codes.POLICY_ENABLED ≡ listed_codes.POLICY_ENABLED
  pub trail_read_only : codes.TRAIL_READ_ONLY ≡ listed_codes.TRAIL_READ_ONLY
  pub too_many_combinations : codes.TOO_MANY_COMBINATIONS ≡ listed_codes.TOO_MANY_COMBINATIONS
  pub too_many_rows : codes.TOO_MANY_ROWS ≡ listed_codes.TOO_MANY_ROWS
  pub too_many_objects : codes.TOO_MANY_OBJECTS ≡ listed_codes.TOO_MANY_OBJECTS
  pub too_many_row_numbers : codes.TOO_MANY_ROW_NUMBERS ≡ listed_codes.TOO_MANY_ROW_NUMBERS
  pub bad_condition : codes.BAD_CONDITION ≡ listed_codes.BAD_CONDITION
  pub too_deep : codes.TOO_DEEP ≡ listed_codes.TOO_DEEP
  pub statement_too_long : codes.STATEMENT_TOO_LONG ≡ listed_codes.STATEMENT_TOO_LONG
  pub session_present : codes.SESSION_PRESENT ≡ listed_codes.SESSION_PRESENT
  pub too_many_changes : codes.TOO_MANY_CHANGES ≡ listed_codes.TOO_MANY_CHANGES
  pub no_part_left : codes.NO_PART_LEFT ≡ listed_codes.NO_PART_LEFT
  pub job_present : codes.JOB_PRESENT ≡ listed_codes.JOB_PRESENT
  pub no_such_job : codes.NO_SUCH_JOB ≡ listed_codes.NO_SUCH_JOB

-- each limit has its number
pub record AreLimitsListed : Type 0 where
  pub largest : sums.LARGEST ≡ listed_limits.LARGEST
  pub last_moment : calendar.LAST_MOMENT ≡ listed_limits.LAST_MOMENT
  pub name_bytes : limits.NAME_BYTES ≡ listed_limits.NAME_BYTES
  pub password_bytes : limits.PASSWORD_BYTES ≡ listed_limits.PASSWORD_BYTES
  pub statement_bytes : limits.STATEMENT_BYTES ≡ listed_limits.STATEMENT_BYTES
  pub open_parentheses : limits.OPEN_PARENTHESES ≡ listed_limits.OPEN_PARENTHESES
  pub from_tables : limits.FROM_TABLES ≡ listed_limits.FROM_TABLES
  pub combinations : limits.COMBINATIONS ≡ listed_limits.COMBINATIONS
  pub reply_rows : limits.REPLY_ROWS ≡ listed_limits.REPLY_ROWS
  pub catalog_objects : limits.CATALOG_OBJECTS ≡ listed_limits.CATALOG_OBJECTS
  pub grants : limits.GRANTS ≡ listed_limits.GRANTS
  pub table_columns : limits.TABLE_COLUMNS ≡ listed_limits.TABLE_COLUMNS
  pub number_digits : limits.NUMBER_DIGITS ≡ listed_limits.NUMBER_DIGITS
  pub text_column_bytes : limits.TEXT_COLUMN_BYTES ≡ listed_limits.TEXT_COLUMN_BYTES
  pub moment_digits : limits.MOMENT_DIGITS ≡ listed_limits.MOMENT_DIGITS
  pub table_row_numbers : limits.TABLE_ROW_NUMBERS ≡ listed_limits.TABLE_ROW_NUMBERS
  pub last_row_number : limits.LAST_ROW_NUMBER ≡ listed_limits.LAST_ROW_NUMBER
  pub transaction_changes : limits.TRANSACTION_CHANGES ≡ listed_limits.TRANSACTION_CHANGES
  pub open_sessions : limits.OPEN_SESSIONS ≡ listed_limits.OPEN_SESSIONS
  pub instance_sessions : limits.INSTANCE_SESSIONS ≡ listed_limits.INSTANCE_SESSIONS
  pub instances : limits.INSTANCES ≡ listed_limits.INSTANCES
  pub session_count : limits.SESSION_COUNT ≡ listed_limits.SESSION_COUNT
  pub record_policies : limits.RECORD_POLICIES ≡ listed_limits.RECORD_POLICIES
  pub journal_limit_min : limits.JOURNAL_LIMIT_MIN ≡ listed_limits.JOURNAL_LIMIT_MIN
  pub journal_limit_max : limits.JOURNAL_LIMIT_MAX ≡ listed_limits.JOURNAL_LIMIT_MAX
  pub journal_limit_default : limits.JOURNAL_LIMIT_DEFAULT ≡ listed_limits.JOURNAL_LIMIT_DEFAULT
  pub script_bytes : limits.SCRIPT_BYTES ≡ listed_limits.SCRIPT_BYTES
  pub line_bytes : limits.LINE_BYTES ≡ listed_limits.LINE_BYTES
  pub head_bytes : limits.HEAD_BYTES ≡ listed_limits.HEAD_BYTES
  pub head_fields : limits.HEAD_FIELDS ≡ listed_limits.HEAD_FIELDS
  pub body_bytes : limits.BODY_BYTES ≡ listed_limits.BODY_BYTES
  pub body_depth : limits.BODY_DEPTH ≡ listed_limits.BODY_DEPTH
  pub connections : limits.CONNECTIONS ≡ listed_limits.CONNECTIONS
  pub workers : limits.WORKERS ≡ listed_limits.WORKERS
  pub sample_rows : limits.SAMPLE_ROWS ≡ listed_limits.SAMPLE_ROWS
  pub action_parts : limits.ACTION_PARTS ≡ listed_limits.ACTION_PARTS
  pub role_parts : limits.ROLE_PARTS ≡ listed_limits.ROLE_PARTS
  pub identifier_bytes : limits.IDENTIFIER_BYTES ≡ listed_limits.IDENTIFIER_BYTES
  pub purge_jobs : limits.PURGE_JOBS ≡ listed_limits.PURGE_JOBS
  pub purge_hours : limits.PURGE_HOURS ≡ listed_limits.PURGE_HOURS
  pub archived_record_bytes : limits.ARCHIVED_RECORD_BYTES ≡ listed_limits.ARCHIVED_RECORD_BYTES
  pub message_bytes : limits.MESSAGE_BYTES ≡ listed_limits.MESSAGE_BYTES
  pub shipped_bytes : limits.SHIPPED_BYTES ≡ listed_limits.SHIPPED_BYTES
  pub standby_bytes : limits.STANDBY_BYTES ≡ listed_limits.STANDBY_BYTES

-- each name that is there from the start has its bytes
pub record AreNamesListed : Type 0 where
  pub sys : names.SYS.now ≡ built_in.sys
  pub audsys : names.AUDSYS.now ≡ built_in.audsys
  pub dual : names.DUAL.now ≡ built_in.dual_name
  pub unified_audit_trail : names.UNIFIED_AUDIT_TRAIL.now ≡ built_in.trail_name
  pub audit_admin : names.AUDIT_ADMIN.now ≡ built_in.audit_admin
  pub audit_viewer : names.AUDIT_VIEWER.now ≡ built_in.audit_viewer
  pub public : names.PUBLIC.now ≡ built_in.public_name
  pub ora_mandatory : names.ORA_MANDATORY.now ≡ built_in.ora_mandatory
  pub p_all : names.P_ALL.now ≡ built_in.p_all

-- actions and system privileges are listed in the order of their numbers
pub record AreEachListed : Type 0 where
  pub actions : actions.EACH ≡ each_action
  pub privileges : privileges.EACH ≡ each_privilege
