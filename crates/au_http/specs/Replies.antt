-- What clients are told, as compact JSON (RFC 8259, without insignificant white space; the members and
-- their order are this project's profile).
use Rattle.std.specs.Prelude.{ℕ, min, List, map, codes}
use Rattle.au_base.specs.declared.cell.Cell.{Cell}
use Rattle.au_base.specs.declared.cell.Cell.TheVariants as cell
use Rattle.au_base.specs.declared.reply.Reply.{Reply}
use Rattle.au_base.specs.declared.reply.Said.{Said}
use Rattle.au_base.specs.declared.reply.Said.TheVariants as said
use Rattle.au_base.specs.Moments.{text_of_moment}
use Rattle.serde_json.specs.Data.{Data, unsigned, null, number, string, array, object, no_members, member}
use Rattle.serde_json.specs.Find.{of_integer}
use Rattle.serde_json.specs.View.{items_of}
use Rattle.serde_json.specs.Written.{compact_text}

-- the last microsecond of the year 9999
abbrev pub last_moment : ℕ
last_moment = 253_402_300_799_999_999

-- the string of a moment's 26 bytes; one past the last moment is shown as the last
abbrev pub moment_data : ℕ → Data
moment_data moment = string (text_of_moment (min moment last_moment))

-- NULL is null, a number a number, a text or a moment a string
abbrev pub cell_data : Cell → Data
cell_data cell.Null = null
cell_data (cell.Num n) = number (of_integer n)
cell_data (cell.Text text) = string text
cell_data (cell.Moment moment) = moment_data moment

-- an array of a row's cells
abbrev pub row_data : List Cell → Data
row_data cells = array (items_of (map cell_data cells))

-- an array of the columns' names
abbrev pub columns_data : List (List ℕ) → Data
columns_data names = array (items_of (map string names))

-- an array of the rows
abbrev pub rows_data : List (List Cell) → Data
rows_data rows = array (items_of (map row_data rows))

-- an object with these four members
abbrev pub members_data : (code : ℕ) (columns : Data) (count : ℕ) (rows : Data) → Data
members_data code columns count rows =
    object (member (codes "code") (number (unsigned code))
    (member (codes "columns") columns
    (member (codes "count") (number (unsigned count))
    (member (codes "rows") rows no_members))))

-- the object that a reply is
abbrev pub reply_data : Reply → Data
reply_data r = members_data r.code.0 (columns_data r.columns) r.count (rows_data r.rows)

-- the text of a reply
unfoldable pub reply_text : Reply → List ℕ
reply_text r = compact_text (reply_data r)

-- an object that names the fault
unfoldable pub fault_text : List ℕ → List ℕ
fault_text name = compact_text (object (member (codes "fault") (string name) no_members))

-- the text of what is said: the reply's, or the fault's
abbrev pub said_text : Said → List ℕ
said_text (said.Replied r) = reply_text r
said_text said.Disk = fault_text (codes "disk")
said_text (said.Full needed limit) = fault_text (codes "full")
said_text said.Memory = fault_text (codes "memory")
