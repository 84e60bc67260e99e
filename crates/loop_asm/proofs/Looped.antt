-- The text of a class without loops, with loops beside it.
use Rattle.std.proofs.Common.{List, [], ◌∷◌, ◌++◌, ℕ, Option, None}
use Rattle.bpf_decode.specs.Class.{ClassMethod, Class}
use Rattle.asm_lines.specs.Canonical.{rules_text}
use Rattle.loop_heads.specs.Loops.{PlainLoops}
use Rattle.loop_asm.specs.Canonical.{Written, looped_method}

-- methods, each with its loops; one for which none are given has none
abbrev pub looped_methods : Written → List ClassMethod → List (Option PlainLoops) → List ℕ
looped_methods write [] ls = []
looped_methods write (m ∷ ms) [] = looped_method write m None ++ looped_methods write ms []
looped_methods write (m ∷ ms) (l ∷ ls) = looped_method write m l ++ looped_methods write ms ls

abbrev pub looped_text : Written → Class → List (Option PlainLoops) → List ℕ
looped_text write c ls = rules_text c.rules ++ looped_methods write c.methods ls
