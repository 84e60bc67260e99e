-- The refusals of placement and of the monitor, as the book passes them on. Only NoMemory occurs in
-- the book.
use Rattle.placement.specs.declared.placement_error.PlacementError.{PlacementError}
use Rattle.placement.specs.declared.placement_error.PlacementError.TheVariants as placement
use Rattle.group_world.specs.declared.monitor_error.MonitorError.{MonitorError}
use Rattle.group_world.specs.declared.monitor_error.MonitorError.TheVariants as monitor
use Rattle.map_book.specs.declared.map_error.MapError.{MapError}
use Rattle.map_book.specs.declared.map_error.MapError.TheVariants.{NoneUp, Limit, EpochsUsedUp, NoMemory}

-- a refusal of placement, and one of the monitor, as the book's
abbrev pub of_placement : PlacementError → MapError
of_placement placement.NoneUp = NoneUp
of_placement placement.Limit = Limit
of_placement placement.NoMemory = NoMemory

abbrev pub of_monitor : MonitorError → MapError
of_monitor monitor.BadActing = Limit
of_monitor monitor.NotNewest = Limit
of_monitor monitor.EpochsUsedUp = EpochsUsedUp
of_monitor monitor.NoMemory = NoMemory
