-- The arguments of each subcommand.
use Rattle.std.specs.Prelude.{◌≡◌, ◌⊎◌, ◌==◌, ◌&&◌, ◌||◌, not, ℕ, Bool, true, false, [], Option, Some, None, is_none}
use Rattle.std.specs.Prelude.{if◌then◌else◌}
use Rattle.std.specs.Prelude.{length, map, nat_le, nat_lt, option_and_then, option_map, codes}
use Rattle.std.specs.Str.{bytes_eq}
use Rattle.bpf_decode.specs.declared.rule_set.RuleSet.{RuleSet}
use Rattle.bpf_decode.specs.declared.rule_set.RuleSet.TheVariants.{One, Two, Three}
use Rattle.class_reports.specs.declared.asked.FilesAsked.{FilesAsked}
use Rattle.class_reports.specs.declared.asked.ReportForm.{ReportForm}
use Rattle.class_reports.specs.declared.asked.ReportForm.TheVariants as form
use Rattle.class_tool.specs.declared.action.Action.{Action}
use Rattle.class_tool.specs.declared.action.Action.TheVariants.{Verify, Run, RunLarge, Assemble, Pack, Disassemble}
use Rattle.class_tool.specs.declared.action.Packing.{Packing}
use Rattle.cluster_tool.specs.declared.asked.Clustering.{Clustering}
use Rattle.command_line.specs.Parsed.{Parsed, Text, all_in, is_set_in, one_in}
use Rattle.file_words.specs.Words.{id_in, number_in}
use Rattle.loop_heads.specs.declared.limits.TheConstants.{BUDGET_LIMIT}
use Rattle.loop_tool.specs.declared.asked.HeadedPacking.{HeadedPacking}
use Rattle.loop_tool.specs.declared.asked.HeadsAsked.{HeadsAsked}
use Rattle.loop_tool.specs.declared.asked.LoopsAsked.{LoopsAsked}
use Rattle.sim.specs.declared.asked.Simulation.{Simulation}
use Rattle.radoscls_program.specs.Entries.{AreEntries}
use Rattle.radoscls_program.specs.Inputs.{UsesInputWell}
use Rattle.radoscls_program.specs.Raw.{AreRaw}
use Rattle.radoscls_program.specs.Tenants.{SpellsTenants}
use Rattle.radoscls_program.specs.declared.actions.Plain.{Plain}
use Rattle.class_tests.specs.Spelled.{of_kind}
use Rattle.radoscls_program.specs.declared.task.GivenCall.{GivenCall}
use Rattle.radoscls_program.specs.declared.task.GivenInput.{GivenInput}
use Rattle.radoscls_program.specs.declared.task.GivenInput.TheVariants.{Value, Bytes}
use Rattle.radoscls_program.specs.declared.task.Task.{Task}
use Rattle.radoscls_program.specs.declared.task.Task.TheVariants as task
use Rattle.radoscls_program.specs.declared.task.Telling.{Telling}
use Rattle.radoscls_program.specs.declared.task.Testing.{Testing}

-- the rule set that a text names
abbrev pub rules_named : Text → Option RuleSet
rules_named text =
    if bytes_eq text (codes "1") then Some One else
    if bytes_eq text (codes "2") then Some Two else
    if bytes_eq text (codes "3") then Some Three else None

-- the budget that a text spells, 1 to 1048576
abbrev pub budget_in : Text → Option ℕ
budget_in text =
    option_and_then (λ n. if nat_le 1 n && nat_le n BUDGET_LIMIT then Some n else None) (number_in text)

-- `pack` takes the file OUT of the image, the rule set --rules, and a method of each METHOD.
pub record TakesPacking (p : Parsed) (asked : Packing) : Type 0 where
  pub image : one_in p (codes "OUT") ≡ Some asked.image.now
  pub rules : option_and_then rules_named (one_in p (codes "rules")) ≡ Some asked.rules
  pub methods : AreRaw (all_in p (codes "METHOD")) asked.methods.items

-- `run` takes, not counting input and object: the file IN of the class, METHOD, and the client with
-- the number --caller.
pub record TakesPlain (p : Parsed) (call : Plain) : Type 0 where
  pub image : one_in p (codes "IN") ≡ Some call.image.now
  pub method : one_in p (codes "METHOD") ≡ Some call.method.now
  pub caller : option_and_then id_in (one_in p (codes "caller")) ≡ Some call.caller

-- that part of a call
abbrev pub plain_of : GivenCall → Plain
plain_of call = record { image = call.image; method = call.method; caller = call.caller }

-- the input has the bytes that a text spells, of a kind of the inputs of tests
abbrev pub IsOfKind : Text → Text → GivenInput → Type 0
IsOfKind kind text (Value value) = ⊥
IsOfKind kind text (Bytes bytes) = of_kind kind text ≡ Some bytes

-- the input is that value
abbrev pub IsValueOf : Text → GivenInput → Type 0
IsValueOf text (Value value) = value.now ≡ text
IsValueOf text (Bytes bytes) = ⊥

-- THE INPUT of a call: the value --input, or the bytes of the text --input-text, or of the numbers
-- --input-u64; no bytes if none of them is there. Two are none.
abbrev pub IsInputBy : Option Text → Option Text → Option Text → GivenInput → Type 0
IsInputBy None None None input = IsValueOf [] input
IsInputBy (Some value) None None input = IsValueOf value input
IsInputBy None (Some text) None input = IsOfKind (codes "text") text input
IsInputBy None None (Some numbers) input = IsOfKind (codes "u64") numbers input
IsInputBy value text numbers input = ⊥

-- by the words
abbrev pub TakesInput : Parsed → GivenInput → Type 0
TakesInput p input =
    IsInputBy (one_in p (codes "input")) (one_in p (codes "input-text")) (one_in p (codes "input-u64")) input

-- The object is that of the file --load, or that of words.
abbrev pub loads_alone : Parsed → Bool
loads_alone p =
    is_none (one_in p (codes "load"))
    || (is_none (one_in p (codes "object")) &&
    ((length (all_in p (codes "xattr")) == 0) && (length (all_in p (codes "key")) == 0)))

-- a file that isn't named by the word for the class's
abbrev pub is_another : Option Text → Option Text → Bool
is_another None class = true
is_another (Some saved) None = true
is_another (Some saved) (Some class) = not (bytes_eq saved class)

-- The object isn't saved over its class: the word of --save isn't that of IN.
abbrev pub saves_apart : Parsed → Bool
saves_apart p = is_another (one_in p (codes "save")) (one_in p (codes "IN"))

-- whether the limits that a text names are an OSD's
abbrev pub limits_named : Text → Option Bool
limits_named text =
    if bytes_eq text (codes "profile") then Some false else
    if bytes_eq text (codes "ceph") then Some true else None

-- those of --limits; a call by an OSD's has no trace
abbrev pub untraced : Bool → Bool → Option Bool
untraced true true = None
untraced true false = Some true
untraced false traced = Some false

abbrev pub takes_limits : Parsed → Option Bool
takes_limits p = option_and_then (λ large. untraced large (is_set_in p (codes "trace")))
    (option_and_then limits_named (one_in p (codes "limits")))

-- `run` takes that, an input, limits, the object's data --object, an xattr of each --xattr and a key of each --key,
-- the files --load and --save, and whether --show and --trace are there. A file may hold a value.
pub record TakesCall (p : Parsed) (call : GivenCall) : Type 0 where
  pub plain : TakesPlain p (plain_of call)
  pub input : TakesInput p call.input
  pub data_text : one_in p (codes "object") ≡ option_map (λ t. t.now) call.data
  pub xattrs : AreEntries (all_in p (codes "xattr")) call.xattrs.items
  pub keys : AreEntries (all_in p (codes "key")) call.keys.items
  pub load : one_in p (codes "load") ≡ option_map (λ t. t.now) call.load
  pub save : one_in p (codes "save") ≡ option_map (λ t. t.now) call.save
  pub alone : loads_alone p ≡ true
  pub apart : saves_apart p ≡ true
  pub shown : call.is_shown ≡ is_set_in p (codes "show")
  pub traced : call.is_traced ≡ is_set_in p (codes "trace")
  pub limits : takes_limits p ≡ Some call.is_large

-- With --json neither --all nor --explain is there.
abbrev pub json_is_alone : Parsed → Bool
json_is_alone p = not (is_set_in p (codes "json") && (is_set_in p (codes "all") || is_set_in p (codes "explain")))

-- `verify` is asked of several files, or of one in JSON
abbrev pub are_files : Parsed → Bool
are_files p = is_set_in p (codes "json") || nat_lt 1 (length (all_in p (codes "IN")))

-- how it tells the verdicts on them
abbrev pub form_of : Parsed → ReportForm
form_of p =
    if is_set_in p (codes "json") then form.Json else if is_set_in p (codes "all") then form.Each else form.Class

-- With --loops neither --all nor --json is there.
abbrev pub loops_are_alone : Parsed → Bool
loops_are_alone p = not (is_set_in p (codes "loops") && (is_set_in p (codes "all") || is_set_in p (codes "json")))

-- the limits that a text names are an OSD's
abbrev pub is_ceph : Option Text → Bool
is_ceph None = false
is_ceph (Some limits) = bytes_eq limits (codes "ceph")

-- With --loops a call has neither a trace nor an OSD's limits.
abbrev pub loops_are_plain : Parsed → Bool
loops_are_plain p =
    not (is_set_in p (codes "loops") && (is_set_in p (codes "trace") || is_ceph (one_in p (codes "limits"))))

-- It takes each file IN, and whether --explain is there.
pub record TakesFiles (p : Parsed) (asked : FilesAsked) : Type 0 where
  pub unlooped : is_set_in p (codes "loops") ≡ false
  pub several : are_files p ≡ true
  pub files : map (λ n. n.now) asked.files.items ≡ all_in p (codes "IN")
  pub form : asked.form ≡ form_of p
  pub explained : asked.is_explained ≡ is_set_in p (codes "explain")

-- With --loops it takes the same.
pub record TakesLoops (p : Parsed) (asked : LoopsAsked) : Type 0 where
  pub looped : is_set_in p (codes "loops") ≡ true
  pub files : map (λ n. n.now) asked.files.items ≡ all_in p (codes "IN")
  pub explained : asked.is_explained ≡ is_set_in p (codes "explain")

-- `verify` of one file takes it, by IN
pub record TakesOne (p : Parsed) (file : Text) (is_all : Bool) : Type 0 where
  pub unlooped : is_set_in p (codes "loops") ≡ false
  pub one : are_files p ≡ false
  pub image : one_in p (codes "IN") ≡ Some file
  pub all : is_set_in p (codes "all") ≡ is_all

-- how a result is told: with --explain a failure is explained, with --all of a text each wrong line is
-- told, and --json has it in JSON
abbrev pub telling_of : Parsed → Telling
telling_of p =
    record {
      notes = record { is_explained = is_set_in p (codes "explain"); is_each_line = is_set_in p (codes "all") };
      is_json = is_set_in p (codes "json");
    }

-- With --heads neither --all nor --explain is there, and without it no --budget.
abbrev pub heads_are_alone : Parsed → Bool
heads_are_alone p =
    if is_set_in p (codes "heads") then not (is_set_in p (codes "all") || is_set_in p (codes "explain"))
    else is_none (one_in p (codes "budget"))

-- a budget that may be given; else it is 131072
abbrev pub given_budget : Option Text → Option ℕ
given_budget None = Some 131072
given_budget (Some text) = budget_in text

-- --heads is there, and heads have the budget --budget
pub record FindsHeads (p : Parsed) (budget : ℕ) : Type 0 where
  pub headed : is_set_in p (codes "heads") ≡ true
  pub alone : heads_are_alone p ≡ true
  pub given : given_budget (one_in p (codes "budget")) ≡ Some budget

-- neither of them is there
pub record FindsNone (p : Parsed) : Type 0 where
  pub unheaded : is_set_in p (codes "heads") ≡ false
  pub alone : heads_are_alone p ≡ true

-- The arguments of each action but a call: to tell whether a class is safe, the file IN, without
-- --all; to assemble a text, the file IN and the file OUT of the image; to pack raw code, those of
-- `pack`; to give the text of a class, the file IN, with slots if --slots is there.
abbrev pub TakesAction : Parsed → Action → Type 0
TakesAction p (Verify image) = TakesOne p image.now false
TakesAction p (Run call) = ⊥
TakesAction p (RunLarge call) = ⊥
TakesAction p (Assemble text image) =
    (one_in p (codes "IN") ≡ Some text.now) × (one_in p (codes "OUT") ≡ Some image.now) × FindsNone p
TakesAction p (Pack asked) = TakesPacking p asked × FindsNone p
TakesAction p (Disassemble image has_slots) =
    (one_in p (codes "IN") ≡ Some image.now) × (has_slots ≡ is_set_in p (codes "slots"))

-- `heads` takes the file IN of the class, the file OUT of the image, and the budget --budget.
pub record TakesHeads (p : Parsed) (asked : HeadsAsked) : Type 0 where
  pub class : one_in p (codes "IN") ≡ Some asked.class.now
  pub image : one_in p (codes "OUT") ≡ Some asked.image.now
  pub budget : option_and_then budget_in (one_in p (codes "budget")) ≡ Some asked.budget

-- `asm --heads` takes the file IN of the text, and the same.
pub record TakesTextHeads (p : Parsed) (asked : HeadsAsked) : Type 0 where
  pub class : one_in p (codes "IN") ≡ Some asked.class.now
  pub image : one_in p (codes "OUT") ≡ Some asked.image.now
  pub heads : FindsHeads p asked.budget

-- `pack --heads` takes what `pack` does, and a budget.
pub record TakesPackedHeads (p : Parsed) (asked : HeadedPacking) : Type 0 where
  pub packing : TakesPacking p asked.packing
  pub heads : FindsHeads p asked.budget

-- HEADS of the class in a file are asked for by `heads`, and by `asm --heads`.
abbrev pub AsksHeads : Parsed → HeadsAsked → Type 0
AsksHeads p asked =
    ((p.name ≡ codes "heads") × TakesHeads p asked) ⊎ ((p.name ≡ codes "asm") × TakesTextHeads p asked)

-- With --objects a run isn't drawn.
abbrev pub objects_are_undrawn : Parsed → Bool
objects_are_undrawn p = not (is_set_in p (codes "objects") && is_set_in p (codes "trace"))

-- `sim` takes the file of events FILE, a tenant's class of each --class, and whether --trace,
-- --objects and --explain are there.
pub record TakesSim (p : Parsed) (s : Simulation) : Type 0 where
  pub undrawn : objects_are_undrawn p ≡ true
  pub file : one_in p (codes "FILE") ≡ Some s.file.now
  pub tenants : SpellsTenants (all_in p (codes "class")) s.tenants.items
  pub drawn : s.is_drawn ≡ is_set_in p (codes "trace")
  pub objects : s.has_objects ≡ is_set_in p (codes "objects")
  pub explained : s.is_explained ≡ is_set_in p (codes "explain")

-- `cluster` takes the file of calls and maps FILE, a tenant's class of each --class, and whether
-- --show and --explain are there.
pub record TakesCluster (p : Parsed) (c : Clustering) : Type 0 where
  pub file : one_in p (codes "FILE") ≡ Some c.file.now
  pub tenants : SpellsTenants (all_in p (codes "class")) c.tenants.items
  pub shown : c.is_shown ≡ is_set_in p (codes "show")
  pub explained : c.is_explained ≡ is_set_in p (codes "explain")

-- `test` takes the file IN of the class and the file FILE of its tests, and whether --trace or --loops is there: not
-- both of them.
pub record TakesTest (p : Parsed) (asked : Testing) : Type 0 where
  pub class : one_in p (codes "IN") ≡ Some asked.class.now
  pub file : one_in p (codes "FILE") ≡ Some asked.file.now
  pub traced : asked.is_traced ≡ is_set_in p (codes "trace")
  pub looped : asked.is_looped ≡ is_set_in p (codes "loops")
  pub plain : loops_are_plain p ≡ true

-- a task is one of these; --explain has a failure explained, --stats has a run measured, --follow has
-- it followed, and with --strict a refused call changes the status
abbrev pub TakesTask : Parsed → Task → Type 0
TakesTask p (task.Class action telling) = TakesAction p action × (telling ≡ telling_of p)
TakesTask p (task.Files asked) =
    TakesFiles p asked × (json_is_alone p ≡ true) × (is_none (one_in p (codes "IN")) ≡ false)
TakesTask p (task.Each image is_explained) =
    TakesOne p image.now true × (is_explained ≡ is_set_in p (codes "explain"))
TakesTask p (task.Loops asked) =
    TakesLoops p asked × (json_is_alone p ≡ true) × (loops_are_alone p ≡ true)
    × (is_none (one_in p (codes "IN")) ≡ false)
TakesTask p (task.Heads asked) = AsksHeads p asked
TakesTask p (task.PackHeads asked) = TakesPackedHeads p asked
TakesTask p (task.Run call telling) =
    TakesCall p call × (telling ≡ telling_of p) × (json_is_alone p ≡ true)
    × (is_set_in p (codes "loops") ≡ false)
TakesTask p (task.RunLoops call telling) =
    TakesCall p call × (telling ≡ telling_of p) × (json_is_alone p ≡ true)
    × (is_set_in p (codes "loops") ≡ true) × (loops_are_plain p ≡ true)
TakesTask p (task.Test asked is_explained) = TakesTest p asked × (is_explained ≡ is_set_in p (codes "explain"))
TakesTask p (task.Sim s) = TakesSim p s
TakesTask p (task.Cluster c) =
    TakesCluster p c.clustering × (c.is_measured ≡ is_set_in p (codes "stats"))
    × (c.is_strict ≡ is_set_in p (codes "strict")) × (c.is_followed ≡ is_set_in p (codes "follow"))

-- the subcommand of a task
abbrev pub subcommand_for : Action → Text
subcommand_for (Verify image) = codes "verify"
subcommand_for (Run call) = codes "run"
subcommand_for (RunLarge call) = codes "run"
subcommand_for (Assemble text image) = codes "asm"
subcommand_for (Pack asked) = codes "pack"
subcommand_for (Disassemble image has_slots) = codes "dis"

-- the subcommand that each task is asked for by; of the two for heads `AsksHeads` says which
abbrev pub IsNameFor : Task → Text → Type 0
IsNameFor (task.Class action telling) name = name ≡ subcommand_for action
IsNameFor (task.Files asked) name = name ≡ codes "verify"
IsNameFor (task.Each image is_explained) name = name ≡ codes "verify"
IsNameFor (task.Loops asked) name = name ≡ codes "verify"
IsNameFor (task.Heads asked) name = (name ≡ codes "heads") ⊎ (name ≡ codes "asm")
IsNameFor (task.PackHeads asked) name = name ≡ codes "pack"
IsNameFor (task.Run call telling) name = name ≡ codes "run"
IsNameFor (task.RunLoops call telling) name = name ≡ codes "run"
IsNameFor (task.Test asked is_explained) name = name ≡ codes "test"
IsNameFor (task.Sim s) name = name ≡ codes "sim"
IsNameFor (task.Cluster c) name = name ≡ codes "cluster"

-- The subcommand that words name is a task's, and its arguments ask for that task.
pub record Names (p : Parsed) (task : Task) : Type 0 where
  pub name : IsNameFor task p.name
  pub taken : TakesTask p task

-- Standard input is used well too.
pub record Asks (p : Parsed) (task : Task) : Type 0 where
  pub named : Names p task
  pub inputs : UsesInputWell p
