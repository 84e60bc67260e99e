-- A task's end is the program's.
use Rattle.std.proofs.Common.{◌≡◌, ◌≢◌, ◌∙◌, inl, inr, refl, sym, ap, Bool, true, false, List, ℕ, Option, Result, Ok, Err, IfOk, IfErr}
use Rattle.command_line.specs.Parsed.{IsMemory, Text}
use Rattle.command_line.specs.declared.unparsed.Unparsed.{Unparsed}
use Rattle.program_files.specs.Files.{Disk}
use Rattle.radoscls_program.specs.Clustered.{ClusterEnds}
use Rattle.radoscls_program.specs.declared.task.ClusterTask.{ClusterTask}
use Rattle.class_tool.specs.declared.action_result.ActionResult.{ActionResult}
use Rattle.class_tool.specs.declared.action_result.ActionResult.TheVariants.{Ran}
use Rattle.program_files.specs.declared.failed.Failed.{Failed}
use Rattle.program_files.specs.declared.failure.Failure.TheVariants.{NoMemory}
use Rattle.pg_log.specs.Log.{Classes}
use Rattle.sim.specs.Simulating.{Plays}
use Rattle.sim.specs.declared.file.SimulationEnd.TheVariants as ending
use Rattle.radoscls_program.specs.Asked.{AreFor, AreForNone}
use Rattle.radoscls_program.specs.Change.{Change, KeepsFiles}
use Rattle.radoscls_program.specs.Program.{Ends, IsUnstarted, Responds, Starts, TaskEnds}
use Rattle.radoscls_program.specs.Streams.{IsPrinted, Stream, failure_line}
use Rattle.radoscls_program.specs.declared.status.ExitStatus.{ExitStatus}
use Rattle.radoscls_program.specs.declared.status.ExitStatus.TheVariants.{Done, Refused, Usage}
use Rattle.radoscls_program.specs.declared.task.Task.{Task}
use Rattle.radoscls_program.specs.declared.task.Task.TheVariants as task
use Rattle.radoscls_program.specs.declared.task.Telling.{Telling}

-- no result and no failure is usage
never_usage : (old new : Stream) (found : Result ActionResult Failed) (e : Telling) → Responds old new found e Usage → ⊥
never_usage old new (Ok answer) e none = none
never_usage old new (Err failed) e none = none

-- nor is the end of a task
no_usage : (change : Change) (task : Task) → TaskEnds change task Usage → ⊥
no_usage change (task.Class a e) acts = never_usage change.old change.new acts.found e acts.responds
no_usage change (task.Files asked) judged = judged.1
no_usage change (task.Each image e) judged = judged.1
no_usage change (task.Loops asked) judged = judged.1
no_usage change (task.Heads asked) none = none
no_usage change (task.PackHeads asked) none = none
no_usage change (task.Run call e) (inl on) = never_usage change.old change.new on.acts.found e on.acts.responds
no_usage change (task.Run call e) (inr un) = let bad : Usage ≡ Refused = un.0 in absurd cc
no_usage change (task.RunLoops call e) (inl on) = on.ended
no_usage change (task.RunLoops call e) (inr un) = let bad : Usage ≡ Refused = un.0 in absurd cc
no_usage change (task.Test asked e) tested = tested.1
no_usage change (task.Sim s) played = played.1
no_usage change (task.Cluster c) ran = ran.1

-- the end, if the words name the task
pub ended : (change : Change) (words : List Text) (task : Task) (status : ExitStatus) → AreFor words task → TaskEnds change task status → Ends change words status
ended change words task Done named end = record { task = task; named = named; ended = end }
ended change words task Refused named end = inl (record { task = task; named = named; ended = end })
ended change words task Usage named end = absurd (no_usage change task end)

-- the end, if the words name no task and the program says why
pub explained : (change : Change) (words : List Text) (e : Unparsed) (status : ExitStatus) → KeepsFiles change → ((IsMemory e → ⊥) → AreForNone words)
    → status ≢ Done → (status ≡ Refused → IsPrinted change.old change.new (failure_line NoMemory))
    → (status ≡ Usage → (IsMemory e → ⊥) × (change.new ≡ change.old)) → Ends change words status
explained change words e Done left none done refused usage = absurd (done refl)
explained change words e Refused left none done refused usage = inr (left, refused refl)
explained change words e Usage left none done refused usage = record { unasked = none (usage refl).0; silent = (left, (usage refl).1) }

-- a result that was printed left no failed write
printed_well : (old new : Stream) (found : Result ActionResult Failed) (e : Telling) → Responds old new found e Done → new.failed ≡ old.failed
printed_well old new (Ok answer) e shown = shown.well
printed_well old new (Err failed) e none = absurd none

-- nor did a file of events that was played to its end
plays_well : (b shown : Bool) (classes : Classes) (names : List (List ℕ)) (text : List ℕ) (old new : Option (List ℕ)) (failed fails : Bool)
    → Plays b shown classes names text old new failed fails ending.Done → fails ≡ failed
plays_well true shown classes names text old new failed fails shows = shows.shown.well
plays_well false shown classes names text old new failed fails prints = prints.shown.well

-- nor did a file of calls that were made, whether or not some were refused
ran_well : (disk : Option Disk) (old new : Stream) (task : ClusterTask) → ClusterEnds disk old new task Done → new.failed ≡ old.failed
ran_well disk old new task (inl ran) = ran.ends.well
ran_well disk old new task (inr refused) = refused.1.ends.well

-- nor does any task that is done
done_well : (change : Change) (task : Task) → TaskEnds change task Done → change.new.failed ≡ change.old.failed
done_well change (task.Class a e) acts = printed_well change.old change.new acts.found e acts.responds
done_well change (task.Files asked) files = files.1.shown.1.well
done_well change (task.Each image e) each = each.1.printed.well
done_well change (task.Loops asked) loops = loops.1.shown.1.well
done_well change (task.Heads asked) heads = ap (λ (s : Stream). s.failed) heads.1
done_well change (task.PackHeads asked) packed = ap (λ (s : Stream). s.failed) packed.1
done_well change (task.Run call e) (inl on) = printed_well change.old change.new on.acts.found e on.acts.responds
done_well change (task.Run call e) (inr un) = absurd (let bad : Done ≡ Refused = un.0 in cc)
done_well change (task.RunLoops call e) (inl on) = printed_well change.old change.new (Ok (Ran on.ended.report)) e on.ended.shown
done_well change (task.RunLoops call e) (inr un) = absurd (let bad : Done ≡ Refused = un.0 in cc)
done_well change (task.Test asked e) tests = tests.1.shown.1.well
done_well change (task.Sim s) played = let p = played.1 in plays_well s.is_drawn s.has_objects p.classes _ p.text _ _ _ _ p.played
done_well change (task.Cluster c) ran = ran_well change.before.disk change.old change.new c ran.1

-- if a write fails, the task was refused
pub failed_by : (change : Change) (words : List Text) (status : ExitStatus) → Ends change words status → change.old.failed ≡ false → change.new.failed ≡ true → status ≡ Refused
failed_by change words Done end well failed =
    let bad : false ≡ true = sym well ∙ sym (done_well change end.task end.ended) ∙ failed in absurd cc
failed_by change words Refused end well failed = refl
failed_by change words Usage end well failed =
    let bad : false ≡ true = sym well ∙ sym (ap (λ (s : Stream). s.failed) end.silent.1) ∙ failed in absurd cc

-- the end, whether or not the words were read
pub started : {A B : Type 0} (words : Result A B) (texts : A → List Text) (change : Change) (status : ExitStatus) → IfOk words (λ all. Ends change (texts all) status)
    → IfErr words (λ _. IsUnstarted change status) → Starts change status
started (Ok all) texts change status ends none = inl (texts all, ends)
started (Err e) texts change status none unread = inr unread
