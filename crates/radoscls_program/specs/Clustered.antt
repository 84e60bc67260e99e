-- The run of a file of calls and maps on a cluster, and the text that it printed.
use Rattle.std.specs.Prelude.{◌≡◌, ◌⊎◌, Bool, true, false, Option}
use Rattle.program_files.specs.Files.{Disk}
use Rattle.program_files.specs.declared.failure.Failure.{Failure}
use Rattle.program_files.specs.declared.failure.Failure.TheVariants.{NoMemory}
use Rattle.cluster_tool.specs.Clustering.{Clusters, ClusteringFails}
use Rattle.cluster_tool.specs.declared.tool.ClusteringEnd.{ClusteringEnd}
use Rattle.cluster_tool.specs.declared.tool.ClusteringEnd.TheVariants as ending
use Rattle.cluster_tool.specs.declared.asked.Clustering.{Clustering}
use Rattle.radoscls_program.specs.Streams.{Stream, IsPrinted, IsTold, failure_line}
use Rattle.radoscls_program.specs.declared.task.ClusterTask.{ClusterTask}
use Rattle.radoscls_program.specs.declared.status.ExitStatus.{ExitStatus}
use Rattle.radoscls_program.specs.declared.status.ExitStatus.TheVariants.{Done, Refused, Usage}

-- the file was played to that end
abbrev pub Ran : Option Disk → Stream → Stream → Clustering → ClusteringEnd → Type 0
Ran disk old new c ending = Clusters disk c old.printed new.printed old.failed new.failed ending

-- memory was refused, nothing was printed of the calls, and a line says so
abbrev pub IsCut : Option Disk → Stream → Stream → Clustering → Type 0
IsCut disk old new c =
    (middle : Stream) × Ran disk old middle c ending.NoMemory × IsPrinted middle new (failure_line NoMemory)

-- nothing was done, and one line says why; with --explain a note follows
abbrev pub IsBarred : Option Disk → Stream → Stream → Clustering → Type 0
IsBarred disk old new c =
    (failure : Failure) × ClusteringFails disk c failure × IsTold old new failure c.is_explained

-- each call was made, and some were refused: with --strict that is no success
abbrev pub HasRefused : Option Disk → Stream → Stream → ClusterTask → Bool → Type 0
HasRefused disk old new task is_strict =
    (task.is_strict ≡ is_strict) × Ran disk old new task.clustering ending.SomeRefused

-- The ends of a run of a file: each call was made, and its line shows the answer that its session
-- gave; or a line is bad, the cluster or a map is refused, a write or a flush failed, memory was
-- refused, or nothing was done. If a call was refused by its session, the status is 1 with --strict,
-- and else 0.
abbrev pub ClusterEnds : Option Disk → Stream → Stream → ClusterTask → ExitStatus → Type 0
ClusterEnds disk old new task Done =
    Ran disk old new task.clustering ending.Done ⊎ HasRefused disk old new task false
ClusterEnds disk old new task Refused =
    let c = task.clustering in
    HasRefused disk old new task true ⊎ Ran disk old new c ending.Bad ⊎ Ran disk old new c ending.Refused ⊎
    Ran disk old new c ending.Unprinted
    ⊎ IsCut disk old new c ⊎ IsBarred disk old new c
ClusterEnds disk old new task Usage = ⊥
