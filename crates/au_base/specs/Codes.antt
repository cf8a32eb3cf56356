-- The return codes and their numbers (the numbers and their meanings are this project's own table, chosen near
-- Oracle's).
use Rattle.au_base.specs.declared.code.Code.{Code}

-- the statement was done
abbrev pub DONE : Code
DONE = record { 0 = 0 }

-- a row with this key is present
abbrev pub KEY_PRESENT : Code
KEY_PRESENT = record { 0 = 1 }

-- too many sessions are open, or were
abbrev pub TOO_MANY_SESSIONS : Code
TOO_MANY_SESSIONS = record { 0 = 18 }

-- the row, the key or the table is locked by another session
abbrev pub LOCKED : Code
LOCKED = record { 0 = 54 }

-- the text has no reading
abbrev pub NOT_READ : Code
NOT_READ = record { 0 = 900 }

-- no such column
abbrev pub UNKNOWN_COLUMN : Code
UNKNOWN_COLUMN = record { 0 = 904 }

-- more values than columns
abbrev pub TOO_MANY_VALUES : Code
TOO_MANY_VALUES = record { 0 = 913 }

-- the column is in more than one table
abbrev pub AMBIGUOUS_COLUMN : Code
AMBIGUOUS_COLUMN = record { 0 = 918 }

-- an expression of the wrong kind
abbrev pub WRONG_KIND : Code
WRONG_KIND = record { 0 = 932 }

-- no such table for this user
abbrev pub NO_SUCH_TABLE : Code
NO_SUCH_TABLE = record { 0 = 942 }

-- fewer values than columns
abbrev pub TOO_FEW_VALUES : Code
TOO_FEW_VALUES = record { 0 = 947 }

-- the name is used already
abbrev pub NAME_USED : Code
NAME_USED = record { 0 = 955 }

-- a column is named twice
abbrev pub COLUMN_TWICE : Code
COLUMN_TWICE = record { 0 = 957 }

-- the client has no session
abbrev pub NOT_LOGGED_ON : Code
NOT_LOGGED_ON = record { 0 = 1012 }

-- the user or the password is wrong
abbrev pub BAD_LOGON : Code
BAD_LOGON = record { 0 = 1017 }

-- a privilege is missing
abbrev pub PRIVILEGE_MISSING : Code
PRIVILEGE_MISSING = record { 0 = 1031 }

-- the user may not log on: CREATE SESSION is missing
abbrev pub NO_CREATE_SESSION : Code
NO_CREATE_SESSION = record { 0 = 1045 }

-- NULL is inserted into a column that is NOT NULL
abbrev pub NULL_INSERTED : Code
NULL_INSERTED = record { 0 = 1400 }

-- a column that is NOT NULL is set to NULL
abbrev pub NULL_SET : Code
NULL_SET = record { 0 = 1407 }

-- a number has over 18 digits
abbrev pub OVERFLOW : Code
OVERFLOW = record { 0 = 1426 }

-- a number is too wide for its column
abbrev pub NUMBER_TOO_WIDE : Code
NUMBER_TOO_WIDE = record { 0 = 1438 }

-- no such user or role to grant to
abbrev pub NO_SUCH_GRANTEE : Code
NO_SUCH_GRANTEE = record { 0 = 1917 }

-- no such user
abbrev pub NO_SUCH_USER : Code
NO_SUCH_USER = record { 0 = 1918 }

-- no such role
abbrev pub NO_SUCH_ROLE : Code
NO_SUCH_ROLE = record { 0 = 1919 }

-- the name of a new user is used already
abbrev pub USER_NAME_USED : Code
USER_NAME_USED = record { 0 = 1920 }

-- the name of a new role is used already
abbrev pub ROLE_NAME_USED : Code
ROLE_NAME_USED = record { 0 = 1921 }

-- the user owns tables
abbrev pub USER_OWNS_TABLES : Code
USER_OWNS_TABLES = record { 0 = 1922 }

-- an object privilege was not granted
abbrev pub OBJECT_PRIVILEGE_NOT_GRANTED : Code
OBJECT_PRIVILEGE_NOT_GRANTED = record { 0 = 1927 }

-- the grant would close a circle of roles
abbrev pub CIRCULAR_ROLE_GRANT : Code
CIRCULAR_ROLE_GRANT = record { 0 = 1934 }

-- the user is connected
abbrev pub USER_CONNECTED : Code
USER_CONNECTED = record { 0 = 1940 }

-- a role was not granted
abbrev pub ROLE_NOT_GRANTED : Code
ROLE_NOT_GRANTED = record { 0 = 1951 }

-- a system privilege was not granted
abbrev pub PRIVILEGE_NOT_GRANTED : Code
PRIVILEGE_NOT_GRANTED = record { 0 = 1952 }

-- a second primary key
abbrev pub SECOND_PRIMARY_KEY : Code
SECOND_PRIMARY_KEY = record { 0 = 2260 }

-- a text is too long for its column
abbrev pub TEXT_TOO_LONG : Code
TEXT_TOO_LONG = record { 0 = 12899 }

-- the fine-grained policy is there already
abbrev pub FINE_GRAINED_POLICY_PRESENT : Code
FINE_GRAINED_POLICY_PRESENT = record { 0 = 28101 }

-- no such fine-grained policy
abbrev pub NO_SUCH_FINE_GRAINED_POLICY : Code
NO_SUCH_FINE_GRAINED_POLICY = record { 0 = 28102 }

-- a bad argument of a package call
abbrev pub BAD_ARGUMENT : Code
BAD_ARGUMENT = record { 0 = 28104 }

-- a bad argument of DBMS_AUDIT_MGMT
abbrev pub BAD_MANAGEMENT_ARGUMENT : Code
BAD_MANAGEMENT_ARGUMENT = record { 0 = 46250 }

-- the audit policy is enabled in the other mode
abbrev pub OTHER_MODE : Code
OTHER_MODE = record { 0 = 46350 }

-- the audit policy is not enabled in this way
abbrev pub NOT_ENABLED_SO : Code
NOT_ENABLED_SO = record { 0 = 46351 }

-- no such audit policy
abbrev pub NO_SUCH_POLICY : Code
NO_SUCH_POLICY = record { 0 = 46357 }

-- the audit policy is there already
abbrev pub POLICY_PRESENT : Code
POLICY_PRESENT = record { 0 = 46358 }

-- the audit policy is enabled
abbrev pub POLICY_ENABLED : Code
POLICY_ENABLED = record { 0 = 46361 }

-- the audit trail can't be written
abbrev pub TRAIL_READ_ONLY : Code
TRAIL_READ_ONLY = record { 0 = 46385 }

-- too many tables in FROM, or too many combinations of rows
abbrev pub TOO_MANY_COMBINATIONS : Code
TOO_MANY_COMBINATIONS = record { 0 = 99001 }

-- too many rows in a reply
abbrev pub TOO_MANY_ROWS : Code
TOO_MANY_ROWS = record { 0 = 99002 }

-- too many objects of a kind
abbrev pub TOO_MANY_OBJECTS : Code
TOO_MANY_OBJECTS = record { 0 = 99003 }

-- too many row numbers in a table
abbrev pub TOO_MANY_ROW_NUMBERS : Code
TOO_MANY_ROW_NUMBERS = record { 0 = 99004 }

-- the condition of an audit policy is not read, or is not allowed
abbrev pub BAD_CONDITION : Code
BAD_CONDITION = record { 0 = 99005 }

-- too many parentheses are open
abbrev pub TOO_DEEP : Code
TOO_DEEP = record { 0 = 99006 }

-- the text of a statement is too long
abbrev pub STATEMENT_TOO_LONG : Code
STATEMENT_TOO_LONG = record { 0 = 99007 }

-- the client has a session
abbrev pub SESSION_PRESENT : Code
SESSION_PRESENT = record { 0 = 99008 }

-- too many changes in a transaction
abbrev pub TOO_MANY_CHANGES : Code
TOO_MANY_CHANGES = record { 0 = 99009 }

-- the audit policy would have no part
abbrev pub NO_PART_LEFT : Code
NO_PART_LEFT = record { 0 = 99010 }

-- the purge job is there already
abbrev pub JOB_PRESENT : Code
JOB_PRESENT = record { 0 = 99011 }

-- no such purge job
abbrev pub NO_SUCH_JOB : Code
NO_SUCH_JOB = record { 0 = 99012 }
