-- The refusals of a node and of the monitor, and how they are printed.
use Rattle.std.specs.Prelude.{ℕ, List, ◌++◌, codes}
use Rattle.std.specs.Fmt.{decimal}
use Rattle.pg_log.specs.declared.log_error.LogError.{LogError}
use Rattle.pg_log.specs.declared.log_error.LogError.TheVariants as log
use Rattle.group_world.specs.declared.handle_error.HandleError.{HandleError}
use Rattle.group_world.specs.declared.handle_error.HandleError.TheVariants as node
use Rattle.group_world.specs.declared.monitor_error.MonitorError.{MonitorError}
use Rattle.group_world.specs.declared.monitor_error.MonitorError.TheVariants as monitor

-- the table of a node's refusals: number and name
abbrev pub handle_error_number : HandleError → ℕ
handle_error_number node.NotPrimary = 1
handle_error_number node.Peering = 2
handle_error_number node.LogFull = 3
handle_error_number node.StaleNumber = 4
handle_error_number node.NoClass = 5
handle_error_number node.NoMethod = 6
handle_error_number node.InputTooLong = 7
handle_error_number node.NoMemory = 8

abbrev pub handle_error_name : HandleError → List ℕ
handle_error_name node.NotPrimary = codes "NotPrimary"
handle_error_name node.Peering = codes "Peering"
handle_error_name node.LogFull = codes "LogFull"
handle_error_name node.StaleNumber = codes "StaleNumber"
handle_error_name node.NoClass = codes "NoClass"
handle_error_name node.NoMethod = codes "NoMethod"
handle_error_name node.InputTooLong = codes "InputTooLong"
handle_error_name node.NoMemory = codes "NoMemory"

-- what a node's refusal prints: number, space and name
abbrev pub handle_error_text : HandleError → List ℕ
handle_error_text e = decimal (handle_error_number e) ++ codes " " ++ handle_error_name e

-- a refusal of the log as the node's refusal
abbrev pub of_log : LogError → HandleError
of_log log.LogFull = node.LogFull
of_log log.StaleNumber = node.StaleNumber
of_log log.NoMemory = node.NoMemory
of_log log.NoClass = node.NoClass
of_log log.NoMethod = node.NoMethod
of_log log.InputTooLong = node.InputTooLong

-- the table of the monitor's refusals: number and name
abbrev pub monitor_error_number : MonitorError → ℕ
monitor_error_number monitor.BadActing = 1
monitor_error_number monitor.NotNewest = 2
monitor_error_number monitor.EpochsUsedUp = 3
monitor_error_number monitor.NoMemory = 4

abbrev pub monitor_error_name : MonitorError → List ℕ
monitor_error_name monitor.BadActing = codes "BadActing"
monitor_error_name monitor.NotNewest = codes "NotNewest"
monitor_error_name monitor.EpochsUsedUp = codes "EpochsUsedUp"
monitor_error_name monitor.NoMemory = codes "NoMemory"

-- what a refusal of the monitor prints: number, space and name
abbrev pub monitor_error_text : MonitorError → List ℕ
monitor_error_text e = decimal (monitor_error_number e) ++ codes " " ++ monitor_error_name e
