-- The flow: where an instruction that no rule refuses goes on, and the frame along each edge.
use Rattle.std.specs.Prelude.{ℕ, ℤ, ◌+◌, List, [], ◌∷◌, ◌++◌, Option, Some, None, Bool, true, false, ◌==◌}
use Rattle.std.specs.Option.{option_map, option_and_then}
use Rattle.bpf_decode.specs.declared.insn.Operand.{Operand}
use Rattle.bpf_decode.specs.declared.insn.Operand.TheVariants.{Immediate, Register}
use Rattle.bpf_decode.specs.declared.insn.Insn.{Insn}
use Rattle.bpf_decode.specs.declared.insn.Insn.TheVariants.{Alu, Neg, Mov, MovSigned, End, LoadWide, Load, LoadSigned}
use Rattle.bpf_decode.specs.declared.insn.Insn.TheVariants.{Store, Jump, JumpLong, Branch, Call, CallLocal, Exit}
use Rattle.bpf_decode.specs.declared.operation.OpWidth.{OpWidth}
use Rattle.bpf_decode.specs.declared.operation.Comparison.{Comparison}
use Rattle.bpf_decode.specs.Jump.{jump_target}
use Rattle.bpf_decode.specs.Values.{extended}
use Rattle.bpf_decode.specs.Instruction.{byte_count}
use Rattle.abstract_num.specs.declared.precision.Precision.{Precision}
use Rattle.abstract_num.specs.Plain.{Plain, constant}
use Rattle.abstract_num.specs.Tighten.{tighten}
use Rattle.abstract_num.specs.Transfer.{ranged, signed_ranged, load_high, signed_low, signed_high}
use Rattle.abstract_regs.specs.Kind.{PlainKind, Num, alu_kind, neg_kind, mov_kind, signed_move_kind, end_kind}
use Rattle.abstract_regs.specs.Kind.{along_kinds}
use Rattle.abstract_regs.specs.Frame.{PlainFrame, kind_at, with_kind, after_call, kept_kind, after_store, operand_kind}
use Rattle.abstract_regs.specs.Frame.{compared_kind}
use Rattle.abstract_regs.specs.Links.{told, relinked}

-- where a jump at slot p goes: its distance counts from the slot after it (RFC 9669 section 4.3)
abbrev pub target : ℕ → ℤ → ℕ
target p distance = jump_target p (extended distance)

-- an edge to a slot; none if it is dead, since no value is left
abbrev pub edge_to : ℕ → Option PlainFrame → List (ℕ × PlainFrame)
edge_to q None = []
edge_to q (Some f) = (q, f) ∷ []

-- what an instruction computes, in its destination
abbrev pub computed : ℕ → PlainFrame → ℕ → Option PlainKind → List (ℕ × PlainFrame)
computed q f dst x = edge_to q (option_map (with_kind f dst) x)

-- whether the operand is that register
abbrev pub same_register : ℕ → Operand → Bool
same_register dst (Immediate imm) = false
same_register dst (Register r) = dst == r

-- the frame with another kind of an operand, if that is a register, and with others of both
-- operands of a comparison:
abbrev pub with_operand : PlainFrame → Operand → PlainKind → PlainFrame
with_operand f (Immediate imm) y = f
with_operand f (Register r) y = with_kind f r y

abbrev pub with_both : PlainFrame → ℕ → Operand → PlainKind × PlainKind → PlainFrame
with_both f dst source s = with_operand (with_kind f dst s.0) source s.1

-- The frame along the edge of a comparison if it holds, or if it doesn't: with what is left of both
-- kinds, and then of what these tell of linked places.
abbrev pub along_edge : Precision → OpWidth → Comparison → Bool → ℕ → Operand → PlainFrame → Option PlainFrame
along_edge precision bits comparison taken dst source f =
    option_and_then (told precision dst source)
    (option_map (with_both f dst source) (along_kinds precision bits comparison taken (same_register dst source)
    (kind_at f dst) (compared_kind bits f source)))

-- what a load gives: what is known of the slot that it is, as it stands, or else a number of that
-- many bytes
abbrev pub loaded_kind : Option PlainKind → Option PlainKind → Option PlainKind
loaded_kind (Some x) number = Some x
loaded_kind None number = number

-- The edges of an instruction, with the links as they stand. `room` is the first register of the
-- range that a helper writes, `answer` the number that it leaves in register 0.
abbrev pub edges_of : Precision → Option ℕ → Plain → Insn → ℕ → PlainFrame → List (ℕ × PlainFrame)
edges_of precision room answer (Alu bits operation dst source) p f =
    computed (p + 1) f dst (alu_kind precision bits operation (kind_at f dst) (operand_kind f source))
edges_of precision room answer (Neg bits dst) p f = computed (p + 1) f dst (neg_kind precision bits (kind_at f dst))
edges_of precision room answer (Mov bits dst source) p f =
    computed (p + 1) f dst (mov_kind precision bits (operand_kind f source))
edges_of precision room answer (MovSigned extension dst src) p f =
    computed (p + 1) f dst (signed_move_kind precision extension (kind_at f src))
edges_of precision room answer (End order width dst) p f =
    computed (p + 1) f dst (end_kind precision order width (kind_at f dst))
edges_of precision room answer (LoadWide dst value) p f = computed (p + 2) f dst (Some (Num (constant value)))
edges_of precision room answer (Load width dst base offset) p f =
    computed (p + 1) f dst (loaded_kind (kept_kind precision f (kind_at f base) (extended offset) (byte_count width))
    (option_map Num (tighten precision (ranged 0 (load_high width)))))
edges_of precision room answer (LoadSigned width dst base offset) p f =
    computed (p + 1) f dst (option_map Num (tighten precision (signed_ranged (signed_low width) (signed_high width))))
edges_of precision room answer (Store width base offset source) p f =
    (p + 1, after_store precision f (kind_at f base) (extended offset) (byte_count width) (operand_kind f source)) ∷ []
edges_of precision room answer (Jump offset) p f = (target p offset, f) ∷ []
edges_of precision room answer (JumpLong distance) p f = (target p distance, f) ∷ []
edges_of precision room answer (Branch bits comparison dst source offset) p f =
    edge_to (target p offset) (along_edge precision bits comparison true dst source f) ++
    edge_to (p + 1) (along_edge precision bits comparison false dst source f)
edges_of precision room answer (Call helper) p f = (p + 1, after_call room answer f) ∷ []
edges_of precision room answer (CallLocal distance) p f = []
edges_of precision room answer Exit p f = []

-- the edges of an instruction, with the links that it leaves
abbrev pub flow : Precision → Option ℕ → Plain → Insn → ℕ → PlainFrame → List (ℕ × PlainFrame)
flow precision room answer i p f = edges_of precision room answer i p (relinked precision room i p f)
