-- The edges that the code gives, with their frames.
use Rattle.std.specs.Prelude.{ℕ, List, [], ◌∷◌, ◌++◌, Option, Some, None, Bool, ◌||◌, if◌then◌else◌}
use Rattle.bpf_decode.specs.declared.insn.Operand.{Operand}
use Rattle.bpf_decode.specs.declared.insn.Operand.TheVariants.{Immediate, Register}
use Rattle.abstract_regs.specs.declared.edges.Edges.{Edges}
use Rattle.abstract_regs.specs.declared.edges.Compared.{Compared}
use Rattle.abstract_regs.specs.declared.kind.Kinds.{Kinds}
use Rattle.abstract_regs.specs.declared.edges.Edges.TheVariants.{Leaves, Falls, Jumps, Branches, Forks}
use Rattle.abstract_num.specs.declared.precision.Precision.{Precision}
use Rattle.abstract_regs.specs.Kind.{PlainKind}
use Rattle.abstract_regs.specs.Frame.{PlainFrame}
use Rattle.abstract_regs.specs.Link.{is_linked, link_in}
use Rattle.abstract_regs.specs.Links.{told}
use Rattle.abstract_regs.specs.Flow.{edge_to, with_both}
use Rattle.abstract_regs.specs.Seen.{seen_both}

-- a frame with other kinds of what was compared
abbrev pub refined : PlainFrame → Compared → Kinds → PlainFrame
refined g compared kinds = with_both g compared.dst compared.source (seen_both kinds)

-- a frame that may be dead: if nothing is left, there is none
abbrev pub if_live : Bool → PlainFrame → Option PlainFrame
if_live live g = if live then Some g else None

-- a register of a comparison is linked
abbrev pub is_told : PlainFrame → ℕ → Operand → Bool
is_told f dst (Immediate imm) = is_linked (link_in f.links dst).form
is_told f dst (Register src) = is_linked (link_in f.links dst).form || is_linked (link_in f.links src).form

-- kinds that may be none
abbrev pub left_kinds : Bool → List PlainKind → Option (List PlainKind)
left_kinds live xs = if live then Some xs else None

-- the frame after what was compared has told its numbers
abbrev pub heard : Precision → PlainFrame → Compared → Option PlainFrame
heard precision g compared = told precision compared.dst compared.source g

-- The edges as pairs: the slot after the instruction is next, and the frame that flowed is g; the
-- lent place has these kinds.
abbrev pub with_edges : Precision → Edges → Kinds → ℕ → PlainFrame → List (ℕ × PlainFrame)
with_edges precision Leaves kinds next g = []
with_edges precision Falls kinds next g = (next, g) ∷ []
with_edges precision (Jumps q) kinds next g = (q, g) ∷ []
with_edges precision (Branches q compared) kinds next g = (q, g) ∷ (next, refined g compared kinds) ∷ []
with_edges precision (Forks q compared) kinds next g =
    edge_to q (heard precision g compared) ++ edge_to next (heard precision (refined g compared kinds) compared)
