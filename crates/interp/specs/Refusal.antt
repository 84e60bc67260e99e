-- The refusals by number and name, and how they print.
use Rattle.std.specs.Prelude.{ℕ, List, ◌++◌, codes}
use Rattle.std.specs.Fmt.{decimal}
use Rattle.interp.specs.declared.calls.CallError.{CallError}
use Rattle.interp.specs.declared.calls.CallError.TheVariants as calls
use Rattle.interp.specs.declared.class_table.TableError.{TableError}
use Rattle.interp.specs.declared.class_table.TableError.TheVariants as table

-- the numbers of the refusals of calls, and their names
abbrev pub call_error_number : CallError → ℕ
call_error_number calls.NoMethod = 1
call_error_number calls.InputTooLong = 2
call_error_number calls.NoMemory = 3

abbrev pub call_error_name : CallError → List ℕ
call_error_name calls.NoMethod = codes "NoMethod"
call_error_name calls.InputTooLong = codes "InputTooLong"
call_error_name calls.NoMemory = codes "NoMemory"

-- the numbers of the refusals of a table of classes, and their names
abbrev pub table_error_number : TableError → ℕ
table_error_number table.TooMany = 1
table_error_number table.NoMemory = 2

-- number, space and name
abbrev pub call_error_text : CallError → List ℕ
call_error_text e = decimal (call_error_number e) ++ codes " " ++ call_error_name e
