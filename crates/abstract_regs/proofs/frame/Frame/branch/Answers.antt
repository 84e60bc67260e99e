use Rattle.std.proofs.Common.{rules, ◌≡◌, ◌++◌, true, false, ap, ◌∙◌}
use mathlib.Core.Path.{ap₂}
use Rattle.bpf_decode.specs.declared.insn.Operand.{Operand}
use Rattle.bpf_decode.specs.declared.insn.Operand.TheVariants.{Immediate}
use Rattle.abstract_num.specs.Plain.{view}
use Rattle.abstract_regs.specs.Kind.{Num}
use Rattle.abstract_regs.specs.Frame.{kind_at, compared_kind}
use Rattle.abstract_regs.specs.Flow.{edge_to, along_edge}
use Rattle.abstract_regs.proofs.Firsts.{first_edge}
use Rattle.abstract_regs.proofs.frame.Frame.branch.Goals as goal

-- turned by edge_of_an_immediate_swapped
pub returns-in-Num-Immediate : goal.returns-in-Num-Immediate
unfolding Rattle.abstract_regs.specs.Links.told
returns-in-Num-Immediate c = λ next.
    let f = c.args.self.now in
    let d = c.args.dst in
    let t = c.args.branch.target in
    let imm = c.in-Num-Immediate.imm in
    let x = view c.in-Num-Immediate.x in
    let y = view c.constant-y.result in
    let k : kind_at f d ≡ Num x = search rules in
    let l : compared_kind c.args.branch.bits f (Immediate imm) ≡ Num y = search rules in
    let edges : Operand → _ = λ o. edge_to t (along_edge c.args.branch.precision c.args.branch.bits c.args.branch.comparison true d o f) ++ edge_to next (along_edge c.args.branch.precision c.args.branch.bits c.args.branch.comparison false d o f) in
    ap edges c.in-Num-Immediate.is-1
    ∙ ap₂ (λ a b. edge_to t a ++ edge_to next b)
    (first_edge c.args.branch.precision c.args.branch.bits c.args.branch.comparison true d imm f x y c.first_along-taken.result k l c.first_along-taken.ensures)
    (first_edge c.args.branch.precision c.args.branch.bits c.args.branch.comparison false d imm f x y c.first_along-fallen.result k l c.first_along-fallen.ensures)
    ∙ c.fork_first.ensures next

-- turned by refinement_on_the_wrong_edge
pub returns : goal.returns
returns c = search rules
