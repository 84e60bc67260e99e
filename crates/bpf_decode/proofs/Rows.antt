-- The row of an opcode has that opcode.
use Rattle.std.proofs.Common.{◌≡◌, ℕ, ◌+◌, ◌*◌, ◌/◌, ◌%◌, ◌<◌, Bool, true, false, cond, List, [], ◌∷◌, Option, Some, None, refl, sym, ap, subst, ◌∙◌, arith}
use Rattle.std.specs.Prelude.{◌&&◌, ◌||◌, ◌==◌, option_map}
use Rattle.std.specs.List.{find}
use Rattle.std.proofs.lemmas.Bool.{eqb-true}
use Rattle.bpf_decode.specs.declared.row.OpcodeRow.{OpcodeRow}
use Rattle.bpf_decode.specs.declared.row.OpcodeRow.TheVariants.{AluImmediate, AluRegister, Neg, MovImmediate, MovRegister, End, BranchImmediate, BranchRegister}
use Rattle.bpf_decode.specs.declared.operation.OpWidth.{OpWidth}
use Rattle.bpf_decode.specs.declared.operation.OpWidth.TheVariants.{Bits32, Bits64}
use Rattle.bpf_decode.specs.declared.operation.Arithmetic.{Arithmetic}
use Rattle.bpf_decode.specs.declared.operation.Arithmetic.TheVariants.{Add, Sub, Mul, Div, Or, And, Lsh, Rsh, Mod, Xor, Arsh}
use Rattle.bpf_decode.specs.declared.operation.ByteOrder.{ByteOrder}
use Rattle.bpf_decode.specs.declared.operation.ByteOrder.TheVariants.{ToLittle, ToBig, Swap}
use Rattle.bpf_decode.specs.declared.operation.Comparison.{Comparison}
use Rattle.bpf_decode.specs.declared.operation.Comparison.TheVariants.{Equal, Greater, GreaterEqual, SharesBits, NotEqual, SignedGreater, SignedGreaterEqual, Less, LessEqual, SignedLess, SignedLessEqual}
use Rattle.bpf_decode.specs.Opcodes.{operation_of, order_of, comparison_of}
use Rattle.std.proofs.lemmas.Bool.{eqb-false}
use Rattle.bpf_decode.specs.Instruction.{alu_class, jump_class, operation_code, order_opcode, comparison_code}
use Rattle.bpf_decode.specs.Table.{opcode, rows, other_row, alu_row, branch_row, row_of}

head_or_tail : (test : OpcodeRow → Bool) (y : OpcodeRow) (ys : List OpcodeRow) (x : OpcodeRow) (b : Bool) → test y ≡ b → (find test ys ≡ Some x → test x ≡ true) → cond b (Some y) (find test ys) ≡ Some x → test x ≡ true
head_or_tail test y ys x true t later e =
    let same : y ≡ x = cc in
    subst (λ (z : OpcodeRow). test z ≡ true) same t
head_or_tail test y ys x false t later e = later e

find_true : (test : OpcodeRow → Bool) (xs : List OpcodeRow) (x : OpcodeRow) → find test xs ≡ Some x → test x ≡ true
find_true test [] x e = absurd cc
find_true test (y ∷ ys) x e = head_or_tail test y ys x (test y) refl (find_true test ys x) e

row_opcode : (n : ℕ) (row : OpcodeRow) → other_row n ≡ Some row → n ≡ opcode row
unfolding other_row
row_opcode n row e = sym (eqb-true (opcode row) n (find_true (λ r. opcode r == n) rows row e))

-- an if with a value takes one of its ways
by_if : {A : Type 0} {P : Type 0} (b : Bool) (x y z : A) → cond b x y ≡ z → (b ≡ true → x ≡ z → P) → (b ≡ false → y ≡ z → P) → P
by_if true x y z e f g = f refl e
by_if false x y z e f g = g refl e

-- a row that is one of a table's, and what it is made of
made_of : {A : Type 0} (make : A → OpcodeRow) (o : Option A) (row : OpcodeRow) → option_map make o ≡ Some row → (x : A) × (o ≡ Some x) × (make x ≡ row)
made_of make None row e = absurd cc
made_of make (Some x) row e = (x, refl, cc)

some_row : (x y : OpcodeRow) → Some x ≡ Some y → x ≡ y
some_row x y e = cc

some_operation : (x y : Arithmetic) → Some x ≡ Some y → x ≡ y
some_operation x y e = cc

some_comparison : (x y : Comparison) → Some x ≡ Some y → x ≡ y
some_comparison x y e = cc

none_operation : (y : Arithmetic) {P : Type 0} → None ≡ Some y → P
none_operation y e = absurd cc

none_comparison : (y : Comparison) {P : Type 0} → None ≡ Some y → P
none_comparison y e = absurd cc

operation_code_of : (code : ℕ) (x : Arithmetic) → operation_of code ≡ Some x → code ≡ operation_code x
operation_code_of code x e =
    by_if (code == 0x0) _ _ _ e (λ b h. eqb-true code 0x0 b ∙ ap operation_code (some_operation Add x h)) (λ b0 e0.
    by_if (code == 0x1) _ _ _ e0 (λ b h. eqb-true code 0x1 b ∙ ap operation_code (some_operation Sub x h)) (λ b1 e1.
    by_if (code == 0x2) _ _ _ e1 (λ b h. eqb-true code 0x2 b ∙ ap operation_code (some_operation Mul x h)) (λ b2 e2.
    by_if (code == 0x3) _ _ _ e2 (λ b h. eqb-true code 0x3 b ∙ ap operation_code (some_operation Div x h)) (λ b3 e3.
    by_if (code == 0x4) _ _ _ e3 (λ b h. eqb-true code 0x4 b ∙ ap operation_code (some_operation Or x h)) (λ b4 e4.
    by_if (code == 0x5) _ _ _ e4 (λ b h. eqb-true code 0x5 b ∙ ap operation_code (some_operation And x h)) (λ b5 e5.
    by_if (code == 0x6) _ _ _ e5 (λ b h. eqb-true code 0x6 b ∙ ap operation_code (some_operation Lsh x h)) (λ b6 e6.
    by_if (code == 0x7) _ _ _ e6 (λ b h. eqb-true code 0x7 b ∙ ap operation_code (some_operation Rsh x h)) (λ b7 e7.
    by_if (code == 0x9) _ _ _ e7 (λ b h. eqb-true code 0x9 b ∙ ap operation_code (some_operation Mod x h)) (λ b8 e8.
    by_if (code == 0xa) _ _ _ e8 (λ b h. eqb-true code 0xa b ∙ ap operation_code (some_operation Xor x h)) (λ b9 e9.
    by_if (code == 0xc) _ _ _ e9 (λ b h. eqb-true code 0xc b ∙ ap operation_code (some_operation Arsh x h)) (λ b10 e10.
    none_operation x e10)))))))))))

comparison_code_of : (code : ℕ) (x : Comparison) → comparison_of code ≡ Some x → code ≡ comparison_code x
comparison_code_of code x e =
    by_if (code == 0x1) _ _ _ e (λ b h. eqb-true code 0x1 b ∙ ap comparison_code (some_comparison Equal x h)) (λ b0 e0.
    by_if (code == 0x2) _ _ _ e0 (λ b h. eqb-true code 0x2 b ∙ ap comparison_code (some_comparison Greater x h)) (λ b1 e1.
    by_if (code == 0x3) _ _ _ e1 (λ b h. eqb-true code 0x3 b ∙ ap comparison_code (some_comparison GreaterEqual x h)) (λ b2 e2.
    by_if (code == 0x4) _ _ _ e2 (λ b h. eqb-true code 0x4 b ∙ ap comparison_code (some_comparison SharesBits x h)) (λ b3 e3.
    by_if (code == 0x5) _ _ _ e3 (λ b h. eqb-true code 0x5 b ∙ ap comparison_code (some_comparison NotEqual x h)) (λ b4 e4.
    by_if (code == 0x6) _ _ _ e4 (λ b h. eqb-true code 0x6 b ∙ ap comparison_code (some_comparison SignedGreater x h)) (λ b5 e5.
    by_if (code == 0x7) _ _ _ e5 (λ b h. eqb-true code 0x7 b ∙ ap comparison_code (some_comparison SignedGreaterEqual x h)) (λ b6 e6.
    by_if (code == 0xa) _ _ _ e6 (λ b h. eqb-true code 0xa b ∙ ap comparison_code (some_comparison Less x h)) (λ b7 e7.
    by_if (code == 0xb) _ _ _ e7 (λ b h. eqb-true code 0xb b ∙ ap comparison_code (some_comparison LessEqual x h)) (λ b8 e8.
    by_if (code == 0xc) _ _ _ e8 (λ b h. eqb-true code 0xc b ∙ ap comparison_code (some_comparison SignedLess x h)) (λ b9 e9.
    by_if (code == 0xd) _ _ _ e9 (λ b h. eqb-true code 0xd b ∙ ap comparison_code (some_comparison SignedLessEqual x h)) (λ b10 e10.
    none_comparison x e10)))))))))))

-- a source bit is 0 or 1
one_bit : (source : ℕ) → source < 2 → (source == 0) ≡ false → source ≡ 1
one_bit source h e = let n = eqb-false source 0 e in omega arith

order_is : (bits : OpWidth) (source : ℕ) (order : ByteOrder) → source < 2 → order_of bits source ≡ Some order → order_opcode order ≡ alu_class bits + 8 * source + 0xd0
order_is Bits32 source order h e =
    by_if (source == 0) _ _ _ e (λ b g. ap order_opcode (sym (some_order ToLittle order g)) ∙ ap (λ k. 4 + 8 * k + 0xd0) (sym (eqb-true source 0 b)))
    (λ b g. ap order_opcode (sym (some_order ToBig order g)) ∙ ap (λ k. 4 + 8 * k + 0xd0) (sym (one_bit source h b)))
  where
    some_order : (x y : ByteOrder) → Some x ≡ Some y → x ≡ y
    some_order x y e = cc
order_is Bits64 source order h e =
    by_if (source == 0) _ _ _ e (λ b g. ap order_opcode (sym (some_order Swap order g)) ∙ ap (λ k. 7 + 8 * k + 0xd0) (sym (eqb-true source 0 b)))
    (λ b g. none_order order g)
  where
    some_order : (x y : ByteOrder) → Some x ≡ Some y → x ≡ y
    some_order x y e = cc

    none_order : (y : ByteOrder) {P : Type 0} → None ≡ Some y → P
    none_order y e = absurd cc

-- the opcode of a row of arithmetic, from its class, source bit and code
alu_opcode : (bits : OpWidth) (source code : ℕ) (row : OpcodeRow) → source < 2 → alu_row bits source code ≡ Some row → opcode row ≡ alu_class bits + 8 * source + 16 * code
alu_opcode bits source code row h e =
    by_if (code == 0x8) _ _ _ e
    (λ b g. let k = eqb-true code 0x8 b in
    by_if (source == 0) _ _ _ g (λ t r. ap opcode (sym (some_row (Neg bits) row r)) ∙ omega (arith, k, eqb-true source 0 t)) (λ t r. absurd (none_row row r)))
    (λ b1 e1. by_if (code == 0xb) _ _ _ e1
    (λ b g. let k = eqb-true code 0xb b in
    by_if (source == 0) _ _ _ g (λ t r. ap opcode (sym (some_row (MovImmediate bits) row r)) ∙ omega (arith, k, eqb-true source 0 t))
    (λ t r. ap opcode (sym (some_row (MovRegister bits) row r)) ∙ omega (arith, k, one_bit source h t)))
    (λ b2 e2. by_if (code == 0xd) _ _ _ e2
    (λ b g. let k = eqb-true code 0xd b in let m = made_of End (order_of bits source) row g in
    ap opcode (sym m.2) ∙ order_is bits source m.0 h m.1 ∙ omega (arith, k))
    (λ b3 e3. by_if (source == 0) _ _ _ e3
    (λ t g. let m = made_of (AluImmediate bits) (operation_of code) row g in ap opcode (sym m.2) ∙ omega (arith, operation_code_of code m.0 m.1, eqb-true source 0 t))
    (λ t g. let m = made_of (AluRegister bits) (operation_of code) row g in ap opcode (sym m.2) ∙ omega (arith, operation_code_of code m.0 m.1, one_bit source h t)))))
  where
    none_row : (y : OpcodeRow) → None ≡ Some y → ⊥
    none_row y e = cc

branch_opcode : (bits : OpWidth) (source code : ℕ) (row : OpcodeRow) → source < 2 → branch_row bits source code ≡ Some row → opcode row ≡ jump_class bits + 8 * source + 16 * code
branch_opcode bits source code row h e =
    by_if (source == 0) _ _ _ e
    (λ t g. let m = made_of (BranchImmediate bits) (comparison_of code) row g in ap opcode (sym m.2) ∙ omega (arith, comparison_code_of code m.0 m.1, eqb-true source 0 t))
    (λ t g. let m = made_of (BranchRegister bits) (comparison_of code) row g in ap opcode (sym m.2) ∙ omega (arith, comparison_code_of code m.0 m.1, one_bit source h t))

parts_of : (n class : ℕ) → n % 8 ≡ class → n ≡ class + 8 * (n / 8 % 2) + 16 * (n / 16)
parts_of n class h = omega arith

bit_of : (n : ℕ) → n / 8 % 2 < 2
bit_of n = omega arith

pub opcode_of : (n : ℕ) (row : OpcodeRow) → row_of n ≡ Some row → n ≡ opcode row
opcode_of n row e =
    by_if (n % 8 == 4) _ _ _ e (λ b h. parts_of n 4 (eqb-true (n % 8) 4 b) ∙ sym (alu_opcode Bits32 (n / 8 % 2) (n / 16) row (bit_of n) h))
    (λ b1 e1. by_if (n % 8 == 7) _ _ _ e1 (λ b h. parts_of n 7 (eqb-true (n % 8) 7 b) ∙ sym (alu_opcode Bits64 (n / 8 % 2) (n / 16) row (bit_of n) h))
    (λ b2 e2. by_if ((n % 8 == 5) && (n / 16 == 0 || n / 16 == 8 || n / 16 == 9)) _ _ _ e2 (λ b h. row_opcode n row h)
    (λ b3 e3. by_if (n % 8 == 5) _ _ _ e3 (λ b h. parts_of n 5 (eqb-true (n % 8) 5 b) ∙ sym (branch_opcode Bits64 (n / 8 % 2) (n / 16) row (bit_of n) h))
    (λ b4 e4. by_if ((n % 8 == 6) && (n / 16 == 0)) _ _ _ e4 (λ b h. row_opcode n row h)
    (λ b5 e5. by_if (n % 8 == 6) _ _ _ e5 (λ b h. parts_of n 6 (eqb-true (n % 8) 6 b) ∙ sym (branch_opcode Bits32 (n / 8 % 2) (n / 16) row (bit_of n) h))
    (λ b6 e6. row_opcode n row e6))))))
