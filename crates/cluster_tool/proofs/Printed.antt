-- The end of a file, by the text that was printed.
use Rattle.std.proofs.Common.{◌≡◌, ◌⊎◌, ◌++◌, inl, inr, ℕ, List, [], Option, Some, append-nil, Bool, true, false, Result, refl, map, Ok, Err, IfOk, string_bytes, sym, subst}
use Rattle.std.specs.Io.KnownBytes.{Appends}
use Rattle.pg_log.specs.Log.{Classes}
use Rattle.cluster_file.specs.Plan.{FilePlan, plan_of}
use Rattle.cluster_file.specs.Text.{all_lines, refused_line}
use Rattle.rados_client.specs.Session.{PlacedReply}
use Rattle.rados_client.specs.declared.exec_error.ExecError.{ExecError}
use Rattle.map_book.specs.Refusal.{map_error_text}
use Rattle.map_book.specs.declared.map_error.MapError.{MapError}
use Rattle.osd.specs.declared.config.Config.{Config}
use Rattle.cluster_tool.specs.Answers.{any_refused, shown}
use Rattle.cluster_advice.specs.Why.{IsWhy}
use Rattle.cluster_tool.specs.Clustering.{IsNoteOn, IsPrintoutOf, EndsSo, Prints, Says, end_by, groups_if}
use Rattle.cluster_tool.specs.Config.{config_of}
use Rattle.cluster_tool.specs.Played.{AreDone, IsMapRefused}
use Rattle.cluster_tool.specs.declared.asked.Clustering.{Clustering}
use Rattle.cluster_tool.specs.declared.tool.ClusteringEnd.{ClusteringEnd}
use Rattle.cluster_tool.specs.declared.tool.Printout.{Printout}
use Rattle.cluster_tool.specs.declared.tool.ClusteringEnd.TheVariants.{Done, SomeRefused, Bad, Refused, NoMemory, Unprinted}

-- a note that is asked for, and none
pub with_note : (c : Clustering) (line : ℕ) (said note printed : List ℕ) → c.is_explained ≡ true → IsWhy c.file.now line note → printed ≡ said ++ note → Says c line said printed
with_note c line said note printed asked is text =
    record { note = note; noted = subst (λ (b : Bool). IsNoteOn b c.file.now line note) (sym asked) is; text = text }

pub without_note : (c : Clustering) (line : ℕ) (said : List ℕ) → c.is_explained ≡ false → Says c line said said
without_note c line said unasked =
    record { note = []; noted = subst (λ (b : Bool). IsNoteOn b c.file.now line []) (sym unasked) refl; text = sym (append-nil said) }

not_printed : (c : Clustering) (classes : Classes) (r : Result FilePlan ℕ) (printed : List ℕ) → IsPrintoutOf c classes r printed NoMemory ⊎ IsPrintoutOf c classes r printed Unprinted → ⊥
not_printed c classes (Ok plan) printed (inl comes) = comes
not_printed c classes (Ok plan) printed (inr comes) = comes
not_printed c classes (Err line) printed (inl comes) = comes
not_printed c classes (Err line) printed (inr comes) = comes

was_printed : (c : Clustering) (classes : Classes) (names : List (List ℕ)) (text printed : List ℕ) (ending : ClusteringEnd) (old new : Option (List ℕ)) (failed fails : Bool) →
    IsPrintoutOf c classes (plan_of names text) printed ending → Appends old new printed → fails ≡ failed → EndsSo c classes names text old new failed fails ending
was_printed c classes names text printed Done old new failed fails comes grew well = record { printed = printed; comes = comes; grew = grew; well = well }
was_printed c classes names text printed SomeRefused old new failed fails comes grew well = record { printed = printed; comes = comes; grew = grew; well = well }
was_printed c classes names text printed Bad old new failed fails comes grew well = record { printed = printed; comes = comes; grew = grew; well = well }
was_printed c classes names text printed Refused old new failed fails comes grew well = record { printed = printed; comes = comes; grew = grew; well = well }
was_printed c classes names text printed NoMemory old new failed fails comes grew well = absurd (not_printed c classes (plan_of names text) printed (inl comes))
was_printed c classes names text printed Unprinted old new failed fails comes grew well = absurd (not_printed c classes (plan_of names text) printed (inr comes))

-- a printout that was printed, or that was cut off because a write or a flush failed
pub ends_so : (c : Clustering) (classes : Classes) (names : List (List ℕ)) (text printed : List ℕ) (ending result : ClusteringEnd) (old new : Option (List ℕ)) (failed fails : Bool) →
    IsPrintoutOf c classes (plan_of names text) printed ending → Prints printed ending old new failed fails result → EndsSo c classes names text old new failed fails result
ends_so c classes names text printed ending result old new failed fails comes (inl p) =
    subst (λ (e : ClusteringEnd). EndsSo c classes names text old new failed fails e) (sym p.0)
    (was_printed c classes names text printed ending old new failed fails comes p.1 p.2)
ends_so c classes names text printed ending result old new failed fails comes (inr p) =
    subst (λ (e : ClusteringEnd). EndsSo c classes names text old new failed fails e) (sym p.0)
    (record { printed = printed; ending = ending; comes = comes; begun = p.1; failed = p.2 })

-- all calls were made, whether or not one was refused
made_by : (c : Clustering) (classes : Classes) (plan : FilePlan) (config : Config) (printed : List ℕ) (all : List (List (Result PlacedReply ExecError))) (b : Bool) → config_of plan.numbers ≡ Some config →
    AreDone classes config plan.steps all → printed ≡ all_lines (groups_if c.is_shown config) plan.steps 1 (map (map shown) all) → any_refused all ≡ b →
    IsPrintoutOf c classes (Ok plan) printed (end_by b)
made_by c classes plan config printed all false is done lines some =
    record { config = config; is = is; comes = record { all = all; done = done; lines = lines; some = some } }
made_by c classes plan config printed all true is done lines some =
    record { config = config; is = is; comes = record { all = all; done = done; lines = lines; some = some } }

pub all_made : {E : Type 0} (c : Clustering) (classes : Classes) (plan : FilePlan) (config : Config) (all : List (List (Result PlacedReply ExecError))) (r : Result Printout E) → config_of plan.numbers ≡ Some config →
    AreDone classes config plan.steps all → IfOk r (λ o. string_bytes o.text ≡ all_lines (groups_if c.is_shown config) plan.steps 1 (map (map shown) all)) →
    IfOk r (λ o. o.ending ≡ end_by (any_refused all)) → IfOk r (λ o. IsPrintoutOf c classes (Ok plan) (string_bytes o.text) o.ending)
all_made c classes plan config all (Ok o) is done lines ends =
    subst (λ (e : ClusteringEnd). IsPrintoutOf c classes (Ok plan) (string_bytes o.text) e) (sym ends)
    (made_by c classes plan config (string_bytes o.text) all (any_refused all) is done lines refl)
all_made c classes plan config all (Err e) is done lines ends = tt

-- a map that was refused
pub map_refused : {E : Type 0} (c : Clustering) (classes : Classes) (plan : FilePlan) (config : Config) (line : ℕ) (why : MapError) (r : Result Printout E) → config_of plan.numbers ≡ Some config →
    IsMapRefused config plan.steps line why → IfOk r (λ o. o.ending ≡ Refused) → IfOk r (λ o. Says c line (refused_line line (map_error_text why)) (string_bytes o.text)) →
    IfOk r (λ o. IsPrintoutOf c classes (Ok plan) (string_bytes o.text) o.ending)
map_refused c classes plan config line why (Ok o) is refused ends text =
    subst (λ (e : ClusteringEnd). IsPrintoutOf c classes (Ok plan) (string_bytes o.text) e) (sym ends)
    (inr (record { config = config; is = is; comes = inr (record { line = line; why = why; refused = refused; text = text }) }))
map_refused c classes plan config line why (Err e) is refused ends text = tt
