-- The class images `RCL1`, `RCL2` and `RCL3`: what a class is, and the one spelling of each.
use Rattle.std.specs.Prelude.{◌≡◌, ℕ, ◌≤◌, ◌-◌, Bool, true, false, List, [], ◌∷◌, ◌++◌, ◌⊎◌, Option, Some, None}
use Rattle.std.specs.Prelude.{length, replicate, codes}
use Rattle.std.specs.Ordering.{nat_cmp}
use Rattle.std.specs.List.{flat_map, AllByRecursion}
use Rattle.std.specs.Cmp.Lexicographic.{slice_cmp}
use Rattle.std.specs.declared.cmp.Ordering.TheVariants.{Less}
use Rattle.byteorder.specs.Endian.{little_bytes}
use Rattle.bpf_decode.specs.declared.insn.Insn.{Insn}
use Rattle.bpf_decode.specs.declared.rule_set.RuleSet.{RuleSet}
use Rattle.bpf_decode.specs.declared.rule_set.RuleSet.TheVariants.{One, Two, Three}
use Rattle.bpf_decode.specs.declared.limits.TheConstants.{METHOD_LIMIT, NAME_LIMIT, CAPACITY_LIMIT, SLOT_LIMIT}
use Rattle.loop_heads.specs.Loops.{PlainLoops, IsLoops}
use Rattle.loop_bytes.specs.HeadBytes.{loops_bytes, HeadFits, AreLoopsOf}
use Rattle.bpf_decode.specs.Instruction.{AllFit, spelling, slot_count, slot_total}
use Rattle.bpf_decode.specs.Limits.{capacity_limit}

-- a method without where it lies in memory
pub record ClassMethod : Type 0 where
  pub name : List ℕ
  pub flags : ℕ
  pub in_cap : ℕ
  pub out_cap : ℕ
  pub instructions : List Insn
  pub loops : Option PlainLoops

-- of each slot, whether an instruction begins there: those of one instruction, and of all
abbrev pub begins : Insn → List Bool
begins i = true ∷ replicate (slot_count i - 1) false

abbrev pub starts : List Insn → List Bool
starts is = flat_map begins is

-- a letter of a method's name: a to z, 0 to 9, or _
abbrev pub IsNameByte : ℕ → Type 0
IsNameByte b = ((97 ≤ b) × (b ≤ 122)) ⊎ ((48 ≤ b) × (b ≤ 57)) ⊎ (b ≡ 95)

-- a method within the limits that all rule sets have
pub record IsMethod (m : ClassMethod) : Type 0 where
  pub named : 1 ≤ length m.name
  pub short : length m.name ≤ NAME_LIMIT
  pub letters : AllByRecursion IsNameByte m.name
  pub some_flag : 1 ≤ m.flags
  pub known_flags : m.flags ≤ 3
  pub in_cap : m.in_cap ≤ CAPACITY_LIMIT
  pub out_cap : m.out_cap ≤ CAPACITY_LIMIT
  pub some_slot : 1 ≤ slot_total m.instructions
  pub slots : slot_total m.instructions ≤ SLOT_LIMIT
  pub fit : AllFit m.instructions
  pub loops : AreLoopsOf (starts m.instructions) m.loops

-- the names strictly rise, by their bytes
abbrev pub NamesRise : List ClassMethod → Type 0
NamesRise [] = Unit {0}
NamesRise (m ∷ []) = Unit {0}
NamesRise (m ∷ n ∷ ms) = (slice_cmp nat_cmp m.name n.name ≡ Less) × NamesRise (n ∷ ms)

-- methods of a class: 1 to 32 within the limits, each name once and in order
pub record IsClass (ms : List ClassMethod) : Type 0 where
  pub some : 1 ≤ length ms
  pub limit : length ms ≤ METHOD_LIMIT
  pub methods : AllByRecursion IsMethod ms
  pub names : NamesRise ms

-- loops that are made, with numbers that their bytes hold (a step of the code, in private contracts)
abbrev pub LoopsHold : Option PlainLoops → Type 0
LoopsHold None = Unit {0}
LoopsHold (Some l) = IsLoops l × AllByRecursion HeadFits l.heads

-- rule set 3 alone has loops
abbrev pub MayLoop : RuleSet → Option PlainLoops → Type 0
MayLoop One loops = loops ≡ None
MayLoop Two loops = loops ≡ None
MayLoop Three loops = Unit {0}

-- a method whose capacities and loops a rule set allows
pub record IsWithinSet (rules : RuleSet) (m : ClassMethod) : Type 0 where
  pub in_cap : m.in_cap ≤ capacity_limit rules
  pub out_cap : m.out_cap ≤ capacity_limit rules
  pub loops : MayLoop rules m.loops

-- methods whose capacities and loops a rule set allows
abbrev pub AreWithinSet : RuleSet → List ClassMethod → Type 0
AreWithinSet rules ms = AllByRecursion (IsWithinSet rules) ms

-- what follows a method's code: in rule set 3 its loops
abbrev pub heads_bytes : RuleSet → Option PlainLoops → List ℕ
heads_bytes One loops = []
heads_bytes Two loops = []
heads_bytes Three loops = loops_bytes loops

-- a method's bytes: its name after its length, flags, in_cap, out_cap, the number of slots, its
-- code, and its loops
abbrev pub method_bytes : RuleSet → ClassMethod → List ℕ
method_bytes rules m =
    (length m.name ∷ m.name)
    ++ (m.flags ∷ little_bytes 2 m.in_cap ++ little_bytes 2 m.out_cap ++ little_bytes 2 (slot_total m.instructions) ++
    spelling m.instructions ++ heads_bytes rules m.loops)

-- a class as it is written: by which rules it is verified, and its methods
pub record Class : Type 0 where
  pub rules : RuleSet
  pub methods : List ClassMethod

-- the first four bytes say the rule set
abbrev pub magic : RuleSet → List ℕ
magic One = codes "RCL1"
magic Two = codes "RCL2"
magic Three = codes "RCL3"

-- a class's bytes: its magic, the number of methods, a zero number, and each method
abbrev pub image_bytes : Class → List ℕ
image_bytes c =
    magic c.rules ++ little_bytes 2 (length c.methods) ++ (0 ∷ 0 ∷ flat_map (method_bytes c.rules) c.methods)

-- The grammar of images: the bytes spell the class, and nothing else.
pub record IsImage (bytes : List ℕ) (c : Class) : Type 0 where
  pub class : IsClass c.methods
  pub within : AreWithinSet c.rules c.methods
  pub spelled : bytes ≡ image_bytes c
