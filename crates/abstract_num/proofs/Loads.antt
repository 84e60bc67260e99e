-- What loads read lies between their ends.
use Rattle.std.proofs.Common.{◌≡◌, ℕ, ℤ, ◌^◌, ◌<◌, ◌≤◌, Option, Some, subst, zero-le, arith}
use Rattle.std.specs.Prelude.{◌≤ℤ◌, IsSomeAnd}
use Rattle.std.proofs.lemmas.Int.{ints}
use Rattle.bpf_decode.specs.Arithmetic.{signed_load_value}
use Rattle.bpf_decode.specs.Instruction.{byte_count, signed_byte_count}
use Rattle.bpf_decode.specs.declared.access.Width.{Width}
use Rattle.bpf_decode.specs.declared.access.Width.TheVariants as width
use Rattle.bpf_decode.specs.declared.access.SignedWidth.{SignedWidth}
use Rattle.bpf_decode.specs.declared.access.SignedWidth.TheVariants.{Byte, Half, Word}
use Rattle.abstract_num.specs.declared.precision.Precision.{Precision}
use Rattle.abstract_num.specs.Signed.{signed}
use Rattle.abstract_num.specs.Plain.{Plain, Number, Holds, view}
use Rattle.abstract_num.specs.Tighten.{tighten}
use Rattle.abstract_num.specs.Transfer.{ranged, signed_ranged, load_high, signed_low, signed_high}
use Rattle.abstract_num.proofs.Tight.{tighten_sound}
use Rattle.abstract_num.proofs.Transfers.{any_holds}

pub load_small : (w : Width) (n : ℕ) → n < 256 ^ byte_count w → n ≤ load_high w
load_small width.Byte n h = omega arith
load_small width.Half n h = omega arith
load_small width.Word n h = omega arith
load_small width.Double n h = omega arith

pub signed_load_between : (w : SignedWidth) (n : ℕ) → n < 256 ^ signed_byte_count w
    → (signed_load_value w n < 2 ^ 64) × (signed_low w ≤ℤ signed (signed_load_value w n)) × (signed (signed_load_value w n) ≤ℤ signed_high w)
signed_load_between Byte n h = (omega (arith, ints), omega (arith, ints), omega (arith, ints))
signed_load_between Half n h = (omega (arith, ints), omega (arith, ints), omega (arith, ints))
signed_load_between Word n h = (omega (arith, ints), omega (arith, ints), omega (arith, ints))

-- what a named range holds, it holds tightened
pub range_holds : (precision : Precision) (low high : ℕ) (x : Number) → tighten precision (ranged low high) ≡ Some (view x) → (n : ℕ) → n < 2 ^ 64 → low ≤ n → n ≤ high → Holds (view x) n
range_holds precision low high x e n f l h =
    let a = any_holds n f in
    subst (λ (o : Option Plain). IsSomeAnd o (λ z. Holds z n)) e
    (tighten_sound precision (ranged low high) n (record { fits = f; above = l; below = h; at_least = a.at_least; at_most = a.at_most; agrees = a.agrees; half_at_least = a.half_at_least; half_at_most = a.half_at_most }))

pub signed_range_holds : (precision : Precision) (low high : ℤ) (x : Number) → tighten precision (signed_ranged low high) ≡ Some (view x) → (n : ℕ) → n < 2 ^ 64 → low ≤ℤ signed n → signed n ≤ℤ high → Holds (view x) n
signed_range_holds precision low high x e n f l h =
    let a = any_holds n f in
    subst (λ (o : Option Plain). IsSomeAnd o (λ z. Holds z n)) e
    (tighten_sound precision (signed_ranged low high) n (record { fits = f; above = a.above; below = a.below; at_least = l; at_most = h; agrees = a.agrees; half_at_least = a.half_at_least; half_at_most = a.half_at_most }))

pub load_fits : (w : Width) → load_high w < 2 ^ 64
load_fits width.Byte = omega arith
load_fits width.Half = omega arith
load_fits width.Word = omega arith
load_fits width.Double = omega arith

pub load_holds : (precision : Precision) (w : Width) (x : Number) → tighten precision (ranged 0 (load_high w)) ≡ Some (view x) → (n : ℕ) → n < 256 ^ byte_count w → Holds (view x) n
load_holds precision w x e n h =
    let s = load_small w n h in range_holds precision 0 (load_high w) x e n (omega (arith, load_fits w, s)) zero-le s

pub signed_load_holds : (precision : Precision) (w : SignedWidth) (x : Number) → tighten precision (signed_ranged (signed_low w) (signed_high w)) ≡ Some (view x)
    → (n : ℕ) → n < 256 ^ signed_byte_count w → Holds (view x) (signed_load_value w n)
signed_load_holds precision w x e n h =
    let s = signed_load_between w n h in signed_range_holds precision (signed_low w) (signed_high w) x e (signed_load_value w n) s.0 s.1 s.2
