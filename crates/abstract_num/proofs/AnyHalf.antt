-- With whole numbers, what is left has any half.
use Rattle.std.proofs.Common.{ℕ, ◌^◌, pos, Option, Some, None, refl}
use Rattle.std.specs.Prelude.{MatchOption, option_and_then, nat_lt, nat_le, int_lt, int_le, ◌==◌}
use Rattle.bpf_decode.specs.Arithmetic.{signed_move_value, end_value}
use Rattle.bpf_decode.specs.declared.operation.OpWidth.{OpWidth}
use Rattle.bpf_decode.specs.declared.operation.OpWidth.TheVariants.{Bits32, Bits64}
use Rattle.bpf_decode.specs.declared.operation.Arithmetic.{Arithmetic}
use Rattle.bpf_decode.specs.declared.operation.SignedMove.{SignedMove}
use Rattle.bpf_decode.specs.declared.operation.SignedMove.TheVariants.{Byte64, Half64, Word64, Byte32, Half32}
use Rattle.bpf_decode.specs.declared.operation.ByteOrder.{ByteOrder}
use Rattle.bpf_decode.specs.declared.operation.EndWidth.{EndWidth}
use Rattle.abstract_num.specs.proved.Cases.{cond_both}
use Rattle.abstract_num.specs.Plain.{Plain, any}
use Rattle.abstract_num.specs.Tighten.{by_bits, by_unsigned, by_signed, agrees_with, by_constant, tighten_whole, with_any_half, tighten}
use Rattle.abstract_num.specs.Transfer.{answered, is_constant, known, cut, moved, raised, answer32, answer64, finished32, transferred, extended_from, extended_of, sign_extended, ordered}
use Rattle.abstract_num.specs.Edges.{Pair, both, tightened, refined}
use Rattle.abstract_num.specs.Keeping.{HasAnyHalf, LeavesAnyHalf, WholeHasAnyHalf}
use Rattle.abstract_num.specs.declared.precision.Precision.TheVariants.{Whole}
use Rattle.abstract_num.specs.declared.row.Row.TheVariants as row
use Rattle.abstract_num.specs.declared.row.RowAnswer.{RowAnswer}
use Rattle.abstract_num.specs.declared.row.RowAnswer.TheVariants.{Exact, By, Raised, All}

-- the steps leave the half as it is
unsigned_leave : (x : Plain) → HasAnyHalf x → HasAnyHalf (by_unsigned x)
unsigned_leave x h =
    cond_both HasAnyHalf (nat_lt x.high (2 ^ 63)) _ _ (λ _. h) (λ _. cond_both HasAnyHalf (nat_le (2 ^ 63) x.low) _ _ (λ _. h) (λ _. h))

signed_leave : (x : Plain) → HasAnyHalf x → HasAnyHalf (by_signed x)
signed_leave x h =
    cond_both HasAnyHalf (int_le (pos 0) x.least) _ _ (λ _. h) (λ _. cond_both HasAnyHalf (int_lt x.greatest (pos 0)) _ _ (λ _. h) (λ _. h))

constant_leaves : (x : Plain) → HasAnyHalf x → LeavesAnyHalf (by_constant x)
constant_leaves x h =
    cond_both LeavesAnyHalf (x.low == x.high) _ _ (λ _. cond_both LeavesAnyHalf (agrees_with x x.low) _ _ (λ _. h) (λ _. tt)) (λ _. h)

whole_leaves : (x : Plain) → HasAnyHalf x → LeavesAnyHalf (tighten_whole x)
unfolding tighten_whole
whole_leaves x h =
    let y = by_bits x in
    let z = by_unsigned y in
    let w = by_signed z in
    let k : HasAnyHalf y = h in
    let l : HasAnyHalf w = signed_leave z (unsigned_leave y k) in
    cond_both LeavesAnyHalf (nat_lt y.high y.low) _ _ (λ _. tt)
    (λ _. cond_both LeavesAnyHalf (int_lt z.greatest z.least) _ _ (λ _. tt)
    (λ _. cond_both LeavesAnyHalf (nat_lt w.high w.low) _ _ (λ _. tt) (λ _. constant_leaves w l)))

tightened_leaves : (x : Plain) → LeavesAnyHalf (tighten Whole x)
tightened_leaves x = whole_leaves (with_any_half x) (refl, refl)

known_leaves : (v : ℕ) → HasAnyHalf (known Whole v)
known_leaves v = (refl, refl)

then_leaves : (o : Option Plain) (k : Plain → Option Plain) → ((a : Plain) → LeavesAnyHalf (k a)) → LeavesAnyHalf (option_and_then k o)
then_leaves None k f = tt
then_leaves (Some a) k f = f a

cut_leaves : (x : Plain) → LeavesAnyHalf (cut Whole x)
cut_leaves x = tightened_leaves (moved row.Cut x x)

finished_leaves : (answer : RowAnswer) (x y : Plain) → LeavesAnyHalf (finished32 Whole answer x y)
finished_leaves (Exact v) x y = known_leaves v
finished_leaves (By r) x y = cut_leaves (moved r x y)
finished_leaves Raised x y = cut_leaves (raised x)
finished_leaves All x y = cut_leaves any

arithmetic_leaves : (bits : OpWidth) (operation : Arithmetic) (x y : Plain) → LeavesAnyHalf (transferred Whole bits operation x y)
arithmetic_leaves Bits64 operation x y = tightened_leaves (answered (answer64 Whole operation x y) x y)
arithmetic_leaves Bits32 operation x y =
    then_leaves (cut Whole x) _ (λ a. then_leaves (cut Whole y) _ (λ b. finished_leaves (answer32 Whole operation a b) a b))

extends64 : (extension : SignedMove) (x : Plain) → LeavesAnyHalf (extended_of Whole extension Bits64 x)
extends64 extension x = cond_both LeavesAnyHalf (is_constant x) _ _ (λ _. known_leaves (signed_move_value extension x.low)) (λ _. tightened_leaves any)

extends32 : (extension : SignedMove) (x : Plain) → LeavesAnyHalf (extended_of Whole extension Bits32 x)
extends32 extension x =
    then_leaves (cut Whole x) _
    (λ a. cond_both LeavesAnyHalf (is_constant a) _ _ (λ _. known_leaves (signed_move_value extension a.low)) (λ _. then_leaves (extended_from Whole extension a) (cut Whole) cut_leaves))

extensions_leave : (extension : SignedMove) (x : Plain) → LeavesAnyHalf (sign_extended Whole extension x)
extensions_leave Byte64 x = extends64 Byte64 x
extensions_leave Half64 x = extends64 Half64 x
extensions_leave Word64 x = extends64 Word64 x
extensions_leave Byte32 x = extends32 Byte32 x
extensions_leave Half32 x = extends32 Half32 x

orders_leave : (order : ByteOrder) (width : EndWidth) (x : Plain) → LeavesAnyHalf (ordered Whole order width x)
orders_leave order width x = cond_both LeavesAnyHalf (is_constant x) _ _ (λ _. known_leaves (end_value order width x.low)) (λ _. tightened_leaves any)

abbrev BothLeave : Option Pair → Type 0
BothLeave o = MatchOption o (Unit {0}) (λ s. HasAnyHalf s.0 × HasAnyHalf s.1)

both_leave : (a b : Option Plain) → LeavesAnyHalf a → LeavesAnyHalf b → BothLeave (both a b)
both_leave None b h k = tt
both_leave (Some x) None h k = tt
both_leave (Some x) (Some y) h k = (h, k)

edges_leave : (o : Option Pair) → BothLeave (option_and_then (tightened Whole) o)
edges_leave None = tt
edges_leave (Some s) = both_leave (tighten Whole s.0) (tighten Whole s.1) (tightened_leaves s.0) (tightened_leaves s.1)

pub whole_has_any_half : WholeHasAnyHalf
whole_has_any_half =
    record {
      tightened = tightened_leaves;
      arithmetic = arithmetic_leaves;
      extensions = extensions_leave;
      orders = orders_leave;
      copies = cut_leaves;
      edges = λ bits comparison taken x y. edges_leave (refined bits comparison taken (with_any_half x) (with_any_half y));
    }
