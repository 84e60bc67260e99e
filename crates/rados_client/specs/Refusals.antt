-- The refusals by number and name, and their texts.
use Rattle.std.specs.Prelude.{ℕ, List, ◌++◌, codes, Option, Some, None}
use Rattle.std.specs.Fmt.{decimal}
use Rattle.group_world.specs.declared.handle_error.HandleError.{HandleError}
use Rattle.group_world.specs.declared.handle_error.HandleError.TheVariants as node
use Rattle.rados_client.specs.declared.exec_error.ExecError.{ExecError}
use Rattle.rados_client.specs.declared.exec_error.ExecError.TheVariants as exec
use Rattle.rados_client.specs.declared.config_error.ConfigError.{ConfigError}
use Rattle.rados_client.specs.declared.config_error.ConfigError.TheVariants as config
use Rattle.rados_client.specs.declared.load_error.LoadError.{LoadError}
use Rattle.rados_client.specs.declared.load_error.LoadError.TheVariants as load
use Rattle.rados_client.specs.declared.open_error.OpenError.{OpenError}
use Rattle.rados_client.specs.declared.open_error.OpenError.TheVariants as opening

-- the table of a call's refusals: number and name
abbrev pub exec_error_number : ExecError → ℕ
exec_error_number exec.NotPrimary = 1
exec_error_number exec.Peering = 2
exec_error_number exec.LogFull = 3
exec_error_number exec.StaleNumber = 4
exec_error_number exec.NoClass = 5
exec_error_number exec.NoMethod = 6
exec_error_number exec.InputTooLong = 7
exec_error_number exec.NoMemory = 8
exec_error_number exec.Unanswered = 9
exec_error_number exec.NothingSent = 10
exec_error_number exec.NumbersUsedUp = 11
exec_error_number exec.NotTaken = 12

-- the names of a call's refusals
abbrev pub exec_error_name : ExecError → List ℕ
exec_error_name exec.NotPrimary = codes "NotPrimary"
exec_error_name exec.Peering = codes "Peering"
exec_error_name exec.LogFull = codes "LogFull"
exec_error_name exec.StaleNumber = codes "StaleNumber"
exec_error_name exec.NoClass = codes "NoClass"
exec_error_name exec.NoMethod = codes "NoMethod"
exec_error_name exec.InputTooLong = codes "InputTooLong"
exec_error_name exec.NoMemory = codes "NoMemory"
exec_error_name exec.Unanswered = codes "Unanswered"
exec_error_name exec.NothingSent = codes "NothingSent"
exec_error_name exec.NumbersUsedUp = codes "NumbersUsedUp"
exec_error_name exec.NotTaken = codes "NotTaken"

-- the text of a refusal: number, blank and name
abbrev pub exec_error_text : ExecError → List ℕ
exec_error_text e = decimal (exec_error_number e) ++ codes " " ++ exec_error_name e

-- a node's refusal as a session answers it; none if the session asks again
abbrev pub refusal_of_node : HandleError → Option ExecError
refusal_of_node node.NotPrimary = None
refusal_of_node node.Peering = None
refusal_of_node node.LogFull = Some exec.LogFull
refusal_of_node node.StaleNumber = Some exec.StaleNumber
refusal_of_node node.NoClass = Some exec.NoClass
refusal_of_node node.NoMethod = Some exec.NoMethod
refusal_of_node node.InputTooLong = Some exec.InputTooLong
refusal_of_node node.NoMemory = Some exec.NoMemory

-- the table of refusals of a new session
abbrev pub open_error_number : OpenError → ℕ
open_error_number opening.TooMany = 1
open_error_number opening.NoMemory = 2

-- the table of refusals of a new cluster
abbrev pub config_error_number : ConfigError → ℕ
config_error_number config.Limit = 1
config_error_number config.NoMemory = 2

-- and their texts, number and name
abbrev pub config_error_text : ConfigError → List ℕ
config_error_text config.Limit = codes "1 Limit"
config_error_text config.NoMemory = codes "2 NoMemory"

-- the table of refusals of a class that is to be loaded
abbrev pub load_error_number : LoadError → ℕ
load_error_number (load.Image e) = 1
load_error_number (load.Verdict r) = 2
load_error_number load.TooMany = 3
load_error_number load.NoMemory = 4
load_error_number load.Started = 5
