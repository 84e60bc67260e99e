use Rattle.std.proofs.Common.{◌≡◌, ℕ, List, ◌++◌, Result, Ok, Err, OnOk, ap, ◌∙◌, codes, append_assoc, string_bytes}
use Rattle.asm_lines.specs.Canonical.{directive_line}
use Rattle.loop_asm.specs.Canonical.{looped_code}
use Rattle.loop_asm.specs.Printing.{written}
use Rattle.loop_asm.proofs.print.push_method.Goals as goal

-- three texts, one after the other
joined : {A E : Type 0} (r : Result A E) (old first line new d code : List ℕ) → first ≡ old ++ d → line ≡ first ++ codes "\n" → OnOk r (new ≡ line ++ code) → OnOk r (new ≡ old ++ (d ++ (codes "\n" ++ code)))
joined (Ok x) old first line new d code a b h =
    h ∙ ap (λ t. t ++ code) (b ∙ ap (λ t. t ++ codes "\n") a ∙ append_assoc old d (codes "\n")) ∙ append_assoc old (d ++ codes "\n") code ∙ ap (λ t. old ++ t) (append_assoc d (codes "\n") code)
joined (Err e) old first line new d code a b h = tt

pub returns : goal.returns
returns c =
    joined c.push_looped_code.result (string_bytes c.args.out.now) (string_bytes c.push_directive.new.out) (string_bytes c.push_str.new.self) (string_bytes c.push_looped_code.new.out) (directive_line c.args.method.now)
    (looped_code (written c.args.slots) c.args.method.now.loops c.args.method.now.instructions) c.in_ok-push_directive.ensures c.in_ok-push_str.ensures.bytes
    (rw (← c.instructions.ensures, ← c.loops.ensures) c.push_looped_code.ensures)
