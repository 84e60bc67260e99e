-- The words: what stands first on an instruction's line.
use Rattle.std.specs.Prelude.{ℕ, List, [], ◌∷◌, Option, codes}
use Rattle.std.specs.List.{find}
use Rattle.std.specs.Str.{bytes_eq}
use Rattle.bpf_decode.specs.declared.access.Width.TheVariants.{Byte, Half, Word, Double}
use Rattle.bpf_decode.specs.declared.access.SignedWidth.TheVariants as signed
use Rattle.bpf_decode.specs.declared.operation.OpWidth.{OpWidth}
use Rattle.bpf_decode.specs.declared.operation.OpWidth.TheVariants.{Bits32, Bits64}
use Rattle.bpf_decode.specs.declared.operation.Arithmetic.{Arithmetic}
use Rattle.bpf_decode.specs.declared.operation.Arithmetic.TheVariants.{Add, Sub, Mul, Div, SignedDiv, Or, And, Lsh, Rsh}
use Rattle.bpf_decode.specs.declared.operation.Arithmetic.TheVariants.{Mod, SignedMod, Xor, Arsh}
use Rattle.bpf_decode.specs.declared.operation.SignedMove.{SignedMove}
use Rattle.bpf_decode.specs.declared.operation.SignedMove.TheVariants.{Byte64, Half64, Word64, Byte32, Half32}
use Rattle.bpf_decode.specs.declared.operation.ByteOrder.{ByteOrder}
use Rattle.bpf_decode.specs.declared.operation.ByteOrder.TheVariants.{ToLittle, ToBig, Swap}
use Rattle.bpf_decode.specs.declared.operation.EndWidth.{EndWidth}
use Rattle.bpf_decode.specs.declared.operation.EndWidth.TheVariants.{End16, End32, End64}
use Rattle.bpf_decode.specs.declared.operation.Comparison.{Comparison}
use Rattle.bpf_decode.specs.declared.operation.Comparison.TheVariants.{Equal, Greater, GreaterEqual, SharesBits}
use Rattle.bpf_decode.specs.declared.operation.Comparison.TheVariants.{NotEqual, SignedGreater, SignedGreaterEqual}
use Rattle.bpf_decode.specs.declared.operation.Comparison.TheVariants.{Less, LessEqual, SignedLess, SignedLessEqual}
use Rattle.asm_lines.specs.declared.form.Form.{Form}
use Rattle.asm_lines.specs.declared.form.Form.TheVariants.{Alu, Neg, Mov, MovSigned, End, LoadWide, Load, LoadSigned}
use Rattle.asm_lines.specs.declared.form.Form.TheVariants.{StoreNumber, StoreRegister, Jump, JumpLong, Branch, Call}
use Rattle.asm_lines.specs.declared.form.Form.TheVariants.{Exit}

-- arithmetic (RFC 9669 section 4.1)
unfoldable pub arithmetic_word : OpWidth → Arithmetic → List ℕ
arithmetic_word Bits64 Add = codes "add"
arithmetic_word Bits64 Sub = codes "sub"
arithmetic_word Bits64 Mul = codes "mul"
arithmetic_word Bits64 Div = codes "div"
arithmetic_word Bits64 SignedDiv = codes "sdiv"
arithmetic_word Bits64 Or = codes "or"
arithmetic_word Bits64 And = codes "and"
arithmetic_word Bits64 Lsh = codes "lsh"
arithmetic_word Bits64 Rsh = codes "rsh"
arithmetic_word Bits64 Mod = codes "mod"
arithmetic_word Bits64 SignedMod = codes "smod"
arithmetic_word Bits64 Xor = codes "xor"
arithmetic_word Bits64 Arsh = codes "arsh"
arithmetic_word Bits32 Add = codes "add32"
arithmetic_word Bits32 Sub = codes "sub32"
arithmetic_word Bits32 Mul = codes "mul32"
arithmetic_word Bits32 Div = codes "div32"
arithmetic_word Bits32 SignedDiv = codes "sdiv32"
arithmetic_word Bits32 Or = codes "or32"
arithmetic_word Bits32 And = codes "and32"
arithmetic_word Bits32 Lsh = codes "lsh32"
arithmetic_word Bits32 Rsh = codes "rsh32"
arithmetic_word Bits32 Mod = codes "mod32"
arithmetic_word Bits32 SignedMod = codes "smod32"
arithmetic_word Bits32 Xor = codes "xor32"
arithmetic_word Bits32 Arsh = codes "arsh32"

-- conditional jumps (section 4.3)
unfoldable pub comparison_word : OpWidth → Comparison → List ℕ
comparison_word Bits64 Equal = codes "jeq"
comparison_word Bits64 Greater = codes "jgt"
comparison_word Bits64 GreaterEqual = codes "jge"
comparison_word Bits64 SharesBits = codes "jset"
comparison_word Bits64 NotEqual = codes "jne"
comparison_word Bits64 SignedGreater = codes "jsgt"
comparison_word Bits64 SignedGreaterEqual = codes "jsge"
comparison_word Bits64 Less = codes "jlt"
comparison_word Bits64 LessEqual = codes "jle"
comparison_word Bits64 SignedLess = codes "jslt"
comparison_word Bits64 SignedLessEqual = codes "jsle"
comparison_word Bits32 Equal = codes "jeq32"
comparison_word Bits32 Greater = codes "jgt32"
comparison_word Bits32 GreaterEqual = codes "jge32"
comparison_word Bits32 SharesBits = codes "jset32"
comparison_word Bits32 NotEqual = codes "jne32"
comparison_word Bits32 SignedGreater = codes "jsgt32"
comparison_word Bits32 SignedGreaterEqual = codes "jsge32"
comparison_word Bits32 Less = codes "jlt32"
comparison_word Bits32 LessEqual = codes "jle32"
comparison_word Bits32 SignedLess = codes "jslt32"
comparison_word Bits32 SignedLessEqual = codes "jsle32"

-- copies with sign extension (section 4.1)
unfoldable pub signed_move_word : SignedMove → List ℕ
signed_move_word Byte64 = codes "movsx8"
signed_move_word Half64 = codes "movsx16"
signed_move_word Word64 = codes "movsx32"
signed_move_word Byte32 = codes "movsx8_32"
signed_move_word Half32 = codes "movsx16_32"

-- changes of byte order (section 4.2)
unfoldable pub end_word : ByteOrder → EndWidth → List ℕ
end_word ToLittle End16 = codes "le16"
end_word ToLittle End32 = codes "le32"
end_word ToLittle End64 = codes "le64"
end_word ToBig End16 = codes "be16"
end_word ToBig End32 = codes "be32"
end_word ToBig End64 = codes "be64"
end_word Swap End16 = codes "bswap16"
end_word Swap End32 = codes "bswap32"
end_word Swap End64 = codes "bswap64"

-- the word of a form: loads and stores are of section 5, jumps and calls of section 4.3
unfoldable pub word_of : Form → List ℕ
word_of (Alu bits operation) = arithmetic_word bits operation
word_of (Branch bits comparison) = comparison_word bits comparison
word_of (MovSigned extension) = signed_move_word extension
word_of (End order width) = end_word order width
word_of (Load Byte) = codes "ldxb"
word_of (Load Half) = codes "ldxh"
word_of (Load Word) = codes "ldxw"
word_of (Load Double) = codes "ldxdw"
word_of (LoadSigned signed.Byte) = codes "ldxsb"
word_of (LoadSigned signed.Half) = codes "ldxsh"
word_of (LoadSigned signed.Word) = codes "ldxsw"
word_of (StoreNumber Byte) = codes "stb"
word_of (StoreNumber Half) = codes "sth"
word_of (StoreNumber Word) = codes "stw"
word_of (StoreNumber Double) = codes "stdw"
word_of (StoreRegister Byte) = codes "stxb"
word_of (StoreRegister Half) = codes "stxh"
word_of (StoreRegister Word) = codes "stxw"
word_of (StoreRegister Double) = codes "stxdw"
word_of (Neg Bits64) = codes "neg"
word_of (Neg Bits32) = codes "neg32"
word_of (Mov Bits64) = codes "mov"
word_of (Mov Bits32) = codes "mov32"
word_of LoadWide = codes "lddw"
word_of Jump = codes "ja"
word_of JumpLong = codes "ja32"
word_of Call = codes "call"
word_of Exit = codes "exit"

-- every form, each once
abbrev pub forms : List Form
forms =
    Alu Bits64 Add ∷ Alu Bits64 Sub ∷ Alu Bits64 Mul ∷ Alu Bits64 Div ∷ Alu Bits64 SignedDiv ∷ Alu Bits64 Or
    ∷ Alu Bits64 And ∷ Alu Bits64 Lsh ∷ Alu Bits64 Rsh ∷ Alu Bits64 Mod ∷ Alu Bits64 SignedMod ∷ Alu Bits64 Xor
    ∷ Alu Bits64 Arsh ∷ Alu Bits32 Add ∷ Alu Bits32 Sub ∷ Alu Bits32 Mul ∷ Alu Bits32 Div ∷ Alu Bits32 SignedDiv
    ∷ Alu Bits32 Or ∷ Alu Bits32 And ∷ Alu Bits32 Lsh ∷ Alu Bits32 Rsh ∷ Alu Bits32 Mod ∷ Alu Bits32 SignedMod
    ∷ Alu Bits32 Xor ∷ Alu Bits32 Arsh ∷ Neg Bits64 ∷ Neg Bits32 ∷ Mov Bits64 ∷ Mov Bits32 ∷ MovSigned Byte64
    ∷ MovSigned Half64 ∷ MovSigned Word64 ∷ MovSigned Byte32 ∷ MovSigned Half32 ∷ End ToLittle End16
    ∷ End ToLittle End32 ∷ End ToLittle End64 ∷ End ToBig End16 ∷ End ToBig End32 ∷ End ToBig End64
    ∷ End Swap End16 ∷ End Swap End32 ∷ End Swap End64 ∷ LoadWide ∷ Load Byte ∷ Load Half ∷ Load Word
    ∷ Load Double ∷ LoadSigned signed.Byte ∷ LoadSigned signed.Half ∷ LoadSigned signed.Word ∷ StoreNumber Byte
    ∷ StoreNumber Half ∷ StoreNumber Word ∷ StoreNumber Double ∷ StoreRegister Byte ∷ StoreRegister Half
    ∷ StoreRegister Word ∷ StoreRegister Double ∷ Jump ∷ JumpLong ∷ Branch Bits64 Equal ∷ Branch Bits64 Greater
    ∷ Branch Bits64 GreaterEqual ∷ Branch Bits64 SharesBits ∷ Branch Bits64 NotEqual ∷ Branch Bits64 SignedGreater
    ∷ Branch Bits64 SignedGreaterEqual ∷ Branch Bits64 Less ∷ Branch Bits64 LessEqual ∷ Branch Bits64 SignedLess
    ∷ Branch Bits64 SignedLessEqual ∷ Branch Bits32 Equal ∷ Branch Bits32 Greater ∷ Branch Bits32 GreaterEqual
    ∷ Branch Bits32 SharesBits ∷ Branch Bits32 NotEqual ∷ Branch Bits32 SignedGreater
    ∷ Branch Bits32 SignedGreaterEqual ∷ Branch Bits32 Less ∷ Branch Bits32 LessEqual ∷ Branch Bits32 SignedLess
    ∷ Branch Bits32 SignedLessEqual ∷ Call ∷ Exit ∷ []

-- the form of a word, if it is one of the table
unfoldable pub form_of : List ℕ → Option Form
form_of word = find (λ f. bytes_eq (word_of f) word) forms
