-- The code's pairs of pointers in plain numbers.
use Rattle.abstract_num.specs.Plain.{Number, view}
use Rattle.abstract_regs.specs.Kind.{PlainKind, Num}
use Rattle.loop_frames.specs.declared.pointer_pair.PointerPair as code
use Rattle.loop_frames.specs.Pairs.{PointerPair}

abbrev pub seen_pair : code.PointerPair → PointerPair
seen_pair p = record { region = p.region; first = view p.first; second = view p.second }

-- both numbers, as kinds
abbrev pub nums_of : Number × Number → PlainKind × PlainKind
nums_of s = (Num (view s.0), Num (view s.1))
