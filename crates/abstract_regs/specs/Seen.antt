-- The code's kinds in plain numbers.
use Rattle.std.specs.Prelude.{List, map}
use Rattle.abstract_num.specs.Plain.{Plain, Number, view}
use Rattle.abstract_regs.specs.declared.kind.Kind.{Kind}
use Rattle.abstract_regs.specs.declared.kind.Kinds.{Kinds}
use Rattle.abstract_regs.specs.declared.kind.Kind.TheVariants as code
use Rattle.abstract_regs.specs.Kind.{PlainKind, Unset, Num, Ptr}

-- a kind of the code, two of them, a list of them, and two numbers:
abbrev pub seen : Kind → PlainKind
seen code.Unset = Unset
seen (code.Num n) = Num (view n)
seen (code.Ptr r at) = Ptr r (view at)

abbrev pub seen_both : Kinds → PlainKind × PlainKind
seen_both s = (seen s.dst, seen s.source)

abbrev pub seen_each : List Kind → List PlainKind
seen_each ks = map seen ks

abbrev pub view_both : Number × Number → Plain × Plain
view_both s = (view s.0, view s.1)
