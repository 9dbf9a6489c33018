-- How errors of the engine become troubles and faults of the keeper.
use Rattle.std.specs.Prelude.{ℕ, Bool, true, false, if◌then◌else◌, Result, Ok, Err}
use Rattle.sqlite.specs.declared.error.Error.{Error}
use Rattle.sqlite.specs.declared.error.Error.TheVariants.{SqliteFailure, SqlInputError}
use Rattle.sqlite.specs.declared.error.ErrorCode.TheVariants as code
use Rattle.sqlite_resolve.specs.declared.error.CompileError.TheVariants as compile
use Rattle.sqlite_syntax.specs.declared.error.ParseError.TheVariants as parse
use Rattle.sqlite_keeper.specs.declared.trouble.Trouble.{Trouble}
use Rattle.sqlite_keeper.specs.declared.trouble.Trouble.TheVariants.{OutOfMemory, Refused, Lost}
use Rattle.keeper.specs.declared.keeping.KeepFault.{KeepFault}
use Rattle.keeper.specs.declared.keeping.KeepFault.TheVariants as keep

-- the three errors by which the engine reports that memory ran out
abbrev pub is_memory : Error → Bool
is_memory (SqliteFailure code.OutOfMemory) = true
is_memory (SqlInputError compile.OutOfMemory) = true
is_memory (SqlInputError (compile.Parse parse.OutOfMemory)) = true
is_memory _ = false

-- any error except out of memory loses the file
abbrev pub trouble_of : Error → Trouble
trouble_of e = if is_memory e then OutOfMemory else Lost

-- the result of a statement
abbrev pub answer_of : Result ℕ Error → Result (Unit {0}) Trouble
answer_of (Ok count) = Ok tt
answer_of (Err e) = Err (trouble_of e)

-- the fault that a keeper returns: out of memory, or failed
abbrev pub told : {T : Type 0} → Result T Trouble → Result T KeepFault
told (Ok x) = Ok x
told (Err OutOfMemory) = Err keep.OutOfMemory
told (Err Refused) = Err keep.Failed
told (Err Lost) = Err keep.Failed
