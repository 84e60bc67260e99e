use Rattle.std.proofs.Common.{◌≡◌, ◌⊎◌, ◌++◌, ◌∷◌, ◌+◌, [], Ok, Err, drop, arith}
use Rattle.std.proofs.lemmas.Grind.{common_steps}
use Rattle.std.specs.List.{before_first}
use Rattle.bpf_decode.specs.ImageReading.{method_after}
use Rattle.asm_lines.specs.Fault.{no_memory}
use Rattle.bpf_asm.specs.Classes.{last_name, is_directive, method_at, class_from}
use Rattle.bpf_asm.proofs.ClassLemmas.{one_more, empty_goes_on, class_stops, class_goes_on, rest_whole}
use Rattle.bpf_asm.proofs.class_reader.push_line.Goals as goal

pub returns-in-Empty-clause-read : goal.returns-in-Empty-clause-read
returns-in-Empty-clause-read c =
    empty_goes_on c.args.rules c.args.methods.now.items (c.args.index + 1) c.args.index c.args.lines.now c.index-lines-index.result c.requires.inside c.index-lines-index.is c.in-Empty.is

pub returns-in_ok-push-in-Ok-clause-read : goal.returns-in_ok-push-in-Ok-clause-read
returns-in_ok-push-in-Ok-clause-read c =
    let done = c.args.methods.now.items in
    let lines = c.args.lines.now in
    let i = c.args.index in
    let m = c.in-Ok.method in
    let pushed : c.push.new.self.items ≡ done ++ (m ∷ []) = c.in_ok-push-in-Ok.ensures.items in
    let read : method_at c.args.rules done (i + 1) c.in-Directive.header (before_first is_directive (drop (i + 1) lines)) ≡ Ok m = rw (c.deref.ensures.value, c.lines_of_method.ensures.place, rest_whole lines (i + 1)) at c.in-Ok.ensures.read in
    rw pushed (class_goes_on c.args.rules done m (i + 1) i c.in-Directive.header lines c.index-lines-index.result c.requires.inside c.index-lines-index.is c.in-Directive.is read)

pub returns-in_ok-push-in-Ok-clause-right : goal.returns-in_ok-push-in-Ok-clause-right
returns-in_ok-push-in-Ok-clause-right c =
    let done = c.args.methods.now.items in
    let m = c.in-Ok.method in
    let pushed : c.push.new.self.items ≡ done ++ (m ∷ []) = c.in_ok-push-in-Ok.ensures.items in
    let behind : method_after c.args.rules (last_name [] done) m ≡ Ok m = rw c.deref.ensures.value at c.in-Ok.ensures.right in
    rw pushed (one_more c.args.rules 0 [] done m c.requires.right behind)

pub returns-in-Err-clause-read : goal.returns-in-Err-clause-read
returns-in-Err-clause-read c =
    let done = c.args.methods.now.items in
    let lines = c.args.lines.now in
    let i = c.args.index in
    let e = c.in-Err.error in
    let read : (e ≡ no_memory) ⊎ (method_at c.args.rules done (i + 1) c.in-Directive.header (before_first is_directive (drop (i + 1) lines)) ≡ Err e) = rw (c.deref.ensures.value, c.lines_of_method.ensures.place, rest_whole lines (i + 1)) at c.in-Err.ensures.read in
    class_stops c.args.rules done e (i + 1) i c.in-Directive.header lines c.index-lines-index.result c.requires.inside c.index-lines-index.is c.in-Directive.is read

-- turned by early_line_is_operand
pub returns-then-is_empty-clause-read : goal.returns-then-is_empty-clause-read
unfolding class_from
returns-then-is_empty-clause-read c = grind (arith, common_steps)
