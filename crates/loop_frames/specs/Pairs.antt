-- What an instruction of a method with heads does with two pointers into one region: it compares them in 64 bits, or
-- takes one from the other.
use Rattle.std.specs.Prelude.{ℕ, ◌+◌, List, [], ◌++◌, Option, Some, None, Bool, true, false, if◌then◌else◌, ◌==◌}
use Rattle.std.specs.Prelude.{◌&&◌, ◌||◌, nat_le, slice_set}
use Rattle.std.specs.Option.{option_map}
use Rattle.bpf_decode.specs.declared.insn.Operand.TheVariants.{Register}
use Rattle.bpf_decode.specs.declared.insn.Insn.{Insn}
use Rattle.bpf_decode.specs.declared.insn.Insn.TheVariants.{Alu, Branch}
use Rattle.bpf_decode.specs.declared.operation.OpWidth.TheVariants.{Bits64}
use Rattle.bpf_decode.specs.declared.operation.Arithmetic.TheVariants.{Sub}
use Rattle.bpf_decode.specs.declared.operation.Comparison.{Comparison}
use Rattle.bpf_decode.specs.declared.region.Region.{Region}
use Rattle.abstract_num.specs.declared.precision.Precision.{Precision}
use Rattle.abstract_num.specs.Plain.{Plain}
use Rattle.abstract_regs.specs.Kind.{PlainKind, Unset, Num, Ptr, same_region, alu_kind, along_kinds}
use Rattle.abstract_regs.specs.Frame.{PlainFrame, kind_at, with_links}
use Rattle.abstract_regs.specs.Link.{no_link}
use Rattle.abstract_regs.specs.Flow.{target, edge_to, computed, with_both, flow}
use Rattle.bpf_machine.specs.declared.caps.Caps.{Caps}
use Rattle.bpf_machine.specs.State.{size}
use Rattle.loop_machine.specs.Typed.{is_equality, is_order}

-- two pointers into one region, by their kinds: the region and both offsets
pub record PointerPair : Type 0 where
  pub region : Region
  pub first : Plain
  pub second : Plain

abbrev pub pointers : PlainKind → PlainKind → Option PointerPair
pointers Unset y = None
pointers (Num k) y = None
pointers (Ptr r k) Unset = None
pointers (Ptr r k) (Num l) = None
pointers (Ptr r k) (Ptr q l) = if same_region r q then Some (record { region = r; first = k; second = l }) else None

-- they may be compared: for equality always, for order where both are surely within the region or at its end
abbrev pub may_compare : Caps → Comparison → PointerPair → Bool
may_compare caps c p =
    is_equality c ||
    (is_order c && (nat_le p.first.high (size caps p.region) && nat_le p.second.high (size caps p.region)))

-- a pair that may be compared
abbrev pub comparable : Caps → Comparison → Option PointerPair → Option PointerPair
comparable caps c None = None
comparable caps c (Some p) = if may_compare caps c p then Some p else None

-- the pair of an instruction that compares two, or takes one from the other; none of any other
abbrev pub pair_of : Caps → PlainFrame → Insn → Option PointerPair
pair_of caps f (Alu Bits64 Sub dst (Register src)) = pointers (kind_at f dst) (kind_at f src)
pair_of caps f (Branch Bits64 c dst (Register src) offset) =
    comparable caps c (pointers (kind_at f dst) (kind_at f src))
pair_of caps f i = None

-- offsets that are left, as pointers
abbrev pub as_pointer : Region → PlainKind → PlainKind
as_pointer r Unset = Unset
as_pointer r (Num k) = Ptr r k
as_pointer r (Ptr q k) = Ptr q k

abbrev pub as_pointers : Region → PlainKind × PlainKind → PlainKind × PlainKind
as_pointers r s = (as_pointer r s.0, as_pointer r s.1)

-- the frame along an edge of a comparison: the offsets are refined as numbers, and nothing is told
abbrev pub pair_edge : Precision → Comparison → Bool → ℕ → ℕ → PlainFrame → PointerPair → Option PlainFrame
pair_edge precision c taken dst src f p =
    option_map (λ s. with_both f dst (Register src) (as_pointers p.region s))
    (along_kinds precision Bits64 c taken (dst == src) (Num p.first) (Num p.second))

-- the edges of an instruction with such a pair
abbrev pub pair_edges : Precision → Insn → ℕ → PlainFrame → PointerPair → List (ℕ × PlainFrame)
pair_edges precision (Alu Bits64 Sub dst (Register src)) p f pair =
    computed (p + 1) (with_links f (slice_set f.links dst no_link)) dst
    (alu_kind precision Bits64 Sub (Num pair.first) (Num pair.second))
pair_edges precision (Branch Bits64 c dst (Register src) offset) p f pair =
    edge_to (target p offset) (pair_edge precision c true dst src f pair) ++
    edge_to (p + 1) (pair_edge precision c false dst src f pair)
pair_edges precision i p f pair = []

-- the edges of any instruction of a method with heads
abbrev pub edges_by : Precision → Option ℕ → Plain → Insn → ℕ → PlainFrame → Option PointerPair → List (ℕ × PlainFrame)
edges_by precision room answer i p f None = flow precision room answer i p f
edges_by precision room answer i p f (Some pair) = pair_edges precision i p f pair

abbrev pub loop_flow : Precision → Caps → Option ℕ → Plain → Insn → ℕ → PlainFrame → List (ℕ × PlainFrame)
loop_flow precision caps room answer i p f = edges_by precision room answer i p f (pair_of caps f i)

-- the last register is written
abbrev pub writes_r10 : Insn → Bool
writes_r10 (Alu bits operation dst source) = dst == 10
writes_r10 i = false
