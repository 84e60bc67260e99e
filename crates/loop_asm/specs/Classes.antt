-- A class's text: what it says of the class and of its loops together.
use Rattle.std.specs.Prelude.{◌≡◌, ℕ, List, [], ◌∷◌, Option, None, Result, Ok, Err}
use Rattle.bpf_decode.specs.declared.rule_set.RuleSet.{RuleSet}
use Rattle.bpf_decode.specs.declared.rule_set.RuleSet.TheVariants.{One, Two, Three}
use Rattle.bpf_decode.specs.Class.{ClassMethod, Class, IsClass, AreWithinSet}
use Rattle.asm_lines.specs.declared.fault.AsmError.{AsmError}
use Rattle.loop_heads.specs.Loops.{PlainLoops}
use Rattle.loop_asm.specs.Reading.{Looped, read_looped_text}
use Rattle.loop_asm.specs.Canonical.{Written, alone, class_text}

-- a method with these loops
abbrev pub with_loops : ClassMethod → Option PlainLoops → ClassMethod
with_loops m loops = record {
  name = m.name;
  flags = m.flags;
  in_cap = m.in_cap;
  out_cap = m.out_cap;
  instructions = m.instructions;
  loops = loops;
}

-- methods, each with its loops; one for which none are given has none
abbrev pub attached : List ClassMethod → List (Option PlainLoops) → List ClassMethod
attached [] ls = []
attached (m ∷ ms) [] = with_loops m None ∷ attached ms []
attached (m ∷ ms) (l ∷ ls) = with_loops m l ∷ attached ms ls

-- a class with its loops: in sets 1 and 2 it has none
abbrev pub joined : RuleSet → Looped → Class
joined One x = x.0
joined Two x = x.0
joined Three x = record { rules = Three; methods = attached x.0.methods x.1 }

abbrev pub as_class : Result Looped AsmError → Result Class AsmError
as_class (Ok x) = Ok (joined x.0.rules x)
as_class (Err e) = Err e

-- Reading a class's text: the class, or the first line that is refused and the least fault there.
unfoldable pub read_class : List ℕ → Result Class AsmError
read_class text = as_class (read_looped_text text)

-- the text is that class's
abbrev pub SaysClass : List ℕ → Class → Type 0
SaysClass text c = read_class text ≡ Ok c

-- The text of each class is read as that class.
abbrev pub GivesBack : Written → Type 0
GivesBack write =
    (c : Class) → IsClass c.methods → AreWithinSet c.rules c.methods → read_class (class_text write c) ≡ Ok c

-- Classes that have one canonical text are one.
abbrev pub OneText : Type 0
OneText = (c d : Class) → IsClass c.methods → AreWithinSet c.rules c.methods → IsClass d.methods →
    AreWithinSet d.rules d.methods → class_text alone c ≡ class_text alone d → c ≡ d
