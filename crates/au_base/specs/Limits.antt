-- The limits of the product (all of them are this project's profile).
use Rattle.std.specs.Prelude.{ℕ, ℤ, pos}

-- the greatest number of 18 digits
abbrev pub LARGEST : ℤ
LARGEST = pos 999_999_999_999_999_999

-- the last moment of the year 9999, in microseconds since 1970-01-01 00:00:00 UTC
abbrev pub LAST_MOMENT : ℕ
LAST_MOMENT = 253_402_300_799_999_999

-- the most bytes of a name
abbrev pub NAME_BYTES : ℕ
NAME_BYTES = 128

-- the most bytes of a password
abbrev pub PASSWORD_BYTES : ℕ
PASSWORD_BYTES = 128

-- the most bytes of a statement's text
abbrev pub STATEMENT_BYTES : ℕ
STATEMENT_BYTES = 32_767

-- the most parentheses that are open at one place
abbrev pub OPEN_PARENTHESES : ℕ
OPEN_PARENTHESES = 100

-- the most tables in one FROM
abbrev pub FROM_TABLES : ℕ
FROM_TABLES = 8

-- the most combinations of rows that one query goes over
abbrev pub COMBINATIONS : ℕ
COMBINATIONS = 10_000_000

-- the most rows of a reply
abbrev pub REPLY_ROWS : ℕ
REPLY_ROWS = 100_000

-- the most users, and as many roles, tables, audit policies and fine-grained policies
abbrev pub CATALOG_OBJECTS : ℕ
CATALOG_OBJECTS = 10_000

-- the most grants of all kinds together
abbrev pub GRANTS : ℕ
GRANTS = 100_000

-- the most columns of a table
abbrev pub TABLE_COLUMNS : ℕ
TABLE_COLUMNS = 64

-- the most digits of a number, and the widest NUMBER column
abbrev pub NUMBER_DIGITS : ℕ
NUMBER_DIGITS = 18

-- the widest VARCHAR2 column, in bytes
abbrev pub TEXT_COLUMN_BYTES : ℕ
TEXT_COLUMN_BYTES = 4_000

-- the digits behind the point of a second, and the size of a TIMESTAMP column
abbrev pub MOMENT_DIGITS : ℕ
MOMENT_DIGITS = 6

-- the most row numbers of a table that committed rows and open transactions name
abbrev pub TABLE_ROW_NUMBERS : ℕ
TABLE_ROW_NUMBERS = 1_000_000

-- the last row number of a table
abbrev pub LAST_ROW_NUMBER : ℕ
LAST_ROW_NUMBER = 4_294_967_295

-- the most changes in one transaction
abbrev pub TRANSACTION_CHANGES : ℕ
TRANSACTION_CHANGES = 100_000

-- the most sessions that are open at once
abbrev pub OPEN_SESSIONS : ℕ
OPEN_SESSIONS = 256

-- the most sessions of an instance, and the number of its last one
abbrev pub INSTANCE_SESSIONS : ℕ
INSTANCE_SESSIONS = 999_999_999

-- the last number of an instance
abbrev pub INSTANCES : ℕ
INSTANCES = 999_999_999

-- where ENTRY_ID and STATEMENT_ID of a session stop rising
abbrev pub SESSION_COUNT : ℕ
SESSION_COUNT = 999_999_999

-- the most audit policies that one record names: all of the catalogue, and ORA$MANDATORY
abbrev pub RECORD_POLICIES : ℕ
RECORD_POLICIES = 10_001

-- the least limit of a journal area, in bytes
abbrev pub JOURNAL_LIMIT_MIN : ℕ
JOURNAL_LIMIT_MIN = 400

-- the greatest limit of a journal area, in bytes
abbrev pub JOURNAL_LIMIT_MAX : ℕ
JOURNAL_LIMIT_MAX = 2_147_483_647

-- the limit of a journal area that names none, in bytes
abbrev pub JOURNAL_LIMIT_DEFAULT : ℕ
JOURNAL_LIMIT_DEFAULT = 1_073_741_824

-- the most bytes of a script
abbrev pub SCRIPT_BYTES : ℕ
SCRIPT_BYTES = 4_294_967_295

-- the most bytes of a script's line, without its end
abbrev pub LINE_BYTES : ℕ
LINE_BYTES = 65_536

-- the most bytes of a request's head
abbrev pub HEAD_BYTES : ℕ
HEAD_BYTES = 8_192

-- the most fields of a request's head
abbrev pub HEAD_FIELDS : ℕ
HEAD_FIELDS = 64

-- the most bytes of a request's body
abbrev pub BODY_BYTES : ℕ
BODY_BYTES = 262_144

-- the deepest nesting of a request's JSON body
abbrev pub BODY_DEPTH : ℕ
BODY_DEPTH = 127

-- the most connections that one `serve` hands out, and the number of its last client
abbrev pub CONNECTIONS : ℕ
CONNECTIONS = 4_294_967_295

-- the most workers of `serve`
abbrev pub WORKERS : ℕ
WORKERS = 64

-- the most rows of `sample`
abbrev pub SAMPLE_ROWS : ℕ
SAMPLE_ROWS = 100_000

-- the most action parts of an audit policy
abbrev pub ACTION_PARTS : ℕ
ACTION_PARTS = 10_000

-- the most role parts of an audit policy
abbrev pub ROLE_PARTS : ℕ
ROLE_PARTS = 10_000

-- the most bytes of a session's client identifier
abbrev pub IDENTIFIER_BYTES : ℕ
IDENTIFIER_BYTES = 64

-- the most purge jobs
abbrev pub PURGE_JOBS : ℕ
PURGE_JOBS = 100

-- the longest interval of a purge job, in hours
abbrev pub PURGE_HOURS : ℕ
PURGE_HOURS = 999

-- the most bytes of one record in an archive
abbrev pub ARCHIVED_RECORD_BYTES : ℕ
ARCHIVED_RECORD_BYTES = 2_097_152

-- the most bytes of what a message to a standby carries
abbrev pub MESSAGE_BYTES : ℕ
MESSAGE_BYTES = 1_073_741_824

-- the most bytes that wait for a standby's acknowledgement
abbrev pub SHIPPED_BYTES : ℕ
SHIPPED_BYTES = 1_073_741_824

-- the most bytes that a standby takes
abbrev pub STANDBY_BYTES : ℕ
STANDBY_BYTES = 1_099_511_627_776
