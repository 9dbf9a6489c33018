-- The SQL statements that store rows, and their parameters.
use Rattle.std.specs.Prelude.{ℕ, ◌^◌, ◌<◌, pos, List, [], ◌∷◌, codes, IsUtf8}
use Rattle.desk_io.specs.declared.rows.Row.{Row}
use Rattle.desk_io.specs.declared.rows.Change.{Change}
use Rattle.desk_io.specs.declared.rows.Change.TheVariants.{Put, Remove}
use Rattle.sqlite.specs.Order.{Row as Line, column}
use Rattle.sqlite.specs.declared.types.Value.TheVariants.{Int, Text}

-- creates the table
abbrev pub table_text : List ℕ
table_text =
    codes "CREATE TABLE kept (kind INTEGER NOT NULL, key INTEGER NOT NULL, body TEXT NOT NULL, PRIMARY KEY (kind, key)) STRICT"

-- selects the text by which a table of that name was created
abbrev pub schema_text : List ℕ
schema_text = codes "SELECT sql FROM sqlite_schema WHERE name = 'kept' COLLATE NOCASE"

-- selects all rows
abbrev pub all_text : List ℕ
all_text = codes "SELECT kind, key, body FROM kept ORDER BY kind, key"

abbrev pub put_text : List ℕ
put_text =
    codes "INSERT INTO kept (kind, key, body) VALUES (?1, ?2, ?3) ON CONFLICT (kind, key) DO UPDATE SET body = excluded.body"

abbrev pub remove_text : List ℕ
remove_text = codes "DELETE FROM kept WHERE kind = ?1 AND key = ?2"

-- the columns of a row in the table
abbrev pub line_of : Row → Line
line_of row = Int (pos row.kind) ∷ Int (pos row.key) ∷ Text row.body ∷ []

-- the first three columns of a line
abbrev pub columns : Line → Line
columns line = column line 0 ∷ column line 1 ∷ column line 2 ∷ []

-- the statement of a change
abbrev pub statement_of : Change → List ℕ
statement_of (Put row) = put_text
statement_of (Remove kind key) = remove_text

-- the parameters of that statement
abbrev pub values_of : Change → Line
values_of (Put row) = line_of row
values_of (Remove kind key) = Int (pos kind) ∷ Int (pos key) ∷ []

-- The change can be stored: its key is below 2^63, and the body of a row is UTF-8.
abbrev pub Fits : Change → Type 0
Fits (Put row) = (row.key < 2 ^ 63) × IsUtf8 row.body
Fits (Remove kind key) = key < 2 ^ 63
