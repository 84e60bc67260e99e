-- Each word has its form, and no word has a byte that cuts a line.
use Rattle.std.proofs.Common.{◌≡◌, true, Some, refl}
use Rattle.std.specs.List.{list_all}
use Rattle.bpf_decode.specs.declared.access.Width.TheVariants.{Byte, Half, Word, Double}
use Rattle.bpf_decode.specs.declared.access.SignedWidth.TheVariants as signed
use Rattle.bpf_decode.specs.declared.operation.OpWidth.TheVariants.{Bits32, Bits64}
use Rattle.bpf_decode.specs.declared.operation.Arithmetic.TheVariants.{Add, Sub, Mul, Div, SignedDiv, Or, And, Lsh, Rsh, Mod, SignedMod, Xor, Arsh}
use Rattle.bpf_decode.specs.declared.operation.SignedMove.TheVariants.{Byte64, Half64, Word64, Byte32, Half32}
use Rattle.bpf_decode.specs.declared.operation.ByteOrder.TheVariants.{ToLittle, ToBig, Swap}
use Rattle.bpf_decode.specs.declared.operation.EndWidth.TheVariants.{End16, End32, End64}
use Rattle.bpf_decode.specs.declared.operation.Comparison.TheVariants.{Equal, Greater, GreaterEqual, SharesBits, NotEqual, SignedGreater, SignedGreaterEqual, Less, LessEqual, SignedLess, SignedLessEqual}
use Rattle.asm_lines.specs.declared.form.Form.{Form}
use Rattle.asm_lines.specs.declared.form.Form.TheVariants.{Alu, Neg, Mov, MovSigned, End, LoadWide, Load, LoadSigned, StoreNumber, StoreRegister, Jump, JumpLong, Branch, Call, Exit}
use Rattle.asm_lines.specs.Words.{arithmetic_word, comparison_word, signed_move_word, end_word, word_of, form_of}
use Rattle.bpf_asm.proofs.PlainBytes.{is_plain}

pub form_known : (f : Form) → form_of (word_of f) ≡ Some f
unfolding form_of word_of arithmetic_word comparison_word signed_move_word end_word
form_known (Alu Bits64 Add) = refl
form_known (Alu Bits64 Sub) = refl
form_known (Alu Bits64 Mul) = refl
form_known (Alu Bits64 Div) = refl
form_known (Alu Bits64 SignedDiv) = refl
form_known (Alu Bits64 Or) = refl
form_known (Alu Bits64 And) = refl
form_known (Alu Bits64 Lsh) = refl
form_known (Alu Bits64 Rsh) = refl
form_known (Alu Bits64 Mod) = refl
form_known (Alu Bits64 SignedMod) = refl
form_known (Alu Bits64 Xor) = refl
form_known (Alu Bits64 Arsh) = refl
form_known (Alu Bits32 Add) = refl
form_known (Alu Bits32 Sub) = refl
form_known (Alu Bits32 Mul) = refl
form_known (Alu Bits32 Div) = refl
form_known (Alu Bits32 SignedDiv) = refl
form_known (Alu Bits32 Or) = refl
form_known (Alu Bits32 And) = refl
form_known (Alu Bits32 Lsh) = refl
form_known (Alu Bits32 Rsh) = refl
form_known (Alu Bits32 Mod) = refl
form_known (Alu Bits32 SignedMod) = refl
form_known (Alu Bits32 Xor) = refl
form_known (Alu Bits32 Arsh) = refl
form_known (Branch Bits64 Equal) = refl
form_known (Branch Bits64 Greater) = refl
form_known (Branch Bits64 GreaterEqual) = refl
form_known (Branch Bits64 SharesBits) = refl
form_known (Branch Bits64 NotEqual) = refl
form_known (Branch Bits64 SignedGreater) = refl
form_known (Branch Bits64 SignedGreaterEqual) = refl
form_known (Branch Bits64 Less) = refl
form_known (Branch Bits64 LessEqual) = refl
form_known (Branch Bits64 SignedLess) = refl
form_known (Branch Bits64 SignedLessEqual) = refl
form_known (Branch Bits32 Equal) = refl
form_known (Branch Bits32 Greater) = refl
form_known (Branch Bits32 GreaterEqual) = refl
form_known (Branch Bits32 SharesBits) = refl
form_known (Branch Bits32 NotEqual) = refl
form_known (Branch Bits32 SignedGreater) = refl
form_known (Branch Bits32 SignedGreaterEqual) = refl
form_known (Branch Bits32 Less) = refl
form_known (Branch Bits32 LessEqual) = refl
form_known (Branch Bits32 SignedLess) = refl
form_known (Branch Bits32 SignedLessEqual) = refl
form_known (MovSigned Byte64) = refl
form_known (MovSigned Half64) = refl
form_known (MovSigned Word64) = refl
form_known (MovSigned Byte32) = refl
form_known (MovSigned Half32) = refl
form_known (End ToLittle End16) = refl
form_known (End ToLittle End32) = refl
form_known (End ToLittle End64) = refl
form_known (End ToBig End16) = refl
form_known (End ToBig End32) = refl
form_known (End ToBig End64) = refl
form_known (End Swap End16) = refl
form_known (End Swap End32) = refl
form_known (End Swap End64) = refl
form_known (Load Byte) = refl
form_known (Load Half) = refl
form_known (Load Word) = refl
form_known (Load Double) = refl
form_known (LoadSigned signed.Byte) = refl
form_known (LoadSigned signed.Half) = refl
form_known (LoadSigned signed.Word) = refl
form_known (StoreNumber Byte) = refl
form_known (StoreNumber Half) = refl
form_known (StoreNumber Word) = refl
form_known (StoreNumber Double) = refl
form_known (StoreRegister Byte) = refl
form_known (StoreRegister Half) = refl
form_known (StoreRegister Word) = refl
form_known (StoreRegister Double) = refl
form_known (Neg Bits64) = refl
form_known (Neg Bits32) = refl
form_known (Mov Bits64) = refl
form_known (Mov Bits32) = refl
form_known LoadWide = refl
form_known Jump = refl
form_known JumpLong = refl
form_known Call = refl
form_known Exit = refl

pub word_plain : (f : Form) → list_all is_plain (word_of f) ≡ true
unfolding word_of arithmetic_word comparison_word signed_move_word end_word
word_plain (Alu Bits64 Add) = refl
word_plain (Alu Bits64 Sub) = refl
word_plain (Alu Bits64 Mul) = refl
word_plain (Alu Bits64 Div) = refl
word_plain (Alu Bits64 SignedDiv) = refl
word_plain (Alu Bits64 Or) = refl
word_plain (Alu Bits64 And) = refl
word_plain (Alu Bits64 Lsh) = refl
word_plain (Alu Bits64 Rsh) = refl
word_plain (Alu Bits64 Mod) = refl
word_plain (Alu Bits64 SignedMod) = refl
word_plain (Alu Bits64 Xor) = refl
word_plain (Alu Bits64 Arsh) = refl
word_plain (Alu Bits32 Add) = refl
word_plain (Alu Bits32 Sub) = refl
word_plain (Alu Bits32 Mul) = refl
word_plain (Alu Bits32 Div) = refl
word_plain (Alu Bits32 SignedDiv) = refl
word_plain (Alu Bits32 Or) = refl
word_plain (Alu Bits32 And) = refl
word_plain (Alu Bits32 Lsh) = refl
word_plain (Alu Bits32 Rsh) = refl
word_plain (Alu Bits32 Mod) = refl
word_plain (Alu Bits32 SignedMod) = refl
word_plain (Alu Bits32 Xor) = refl
word_plain (Alu Bits32 Arsh) = refl
word_plain (Branch Bits64 Equal) = refl
word_plain (Branch Bits64 Greater) = refl
word_plain (Branch Bits64 GreaterEqual) = refl
word_plain (Branch Bits64 SharesBits) = refl
word_plain (Branch Bits64 NotEqual) = refl
word_plain (Branch Bits64 SignedGreater) = refl
word_plain (Branch Bits64 SignedGreaterEqual) = refl
word_plain (Branch Bits64 Less) = refl
word_plain (Branch Bits64 LessEqual) = refl
word_plain (Branch Bits64 SignedLess) = refl
word_plain (Branch Bits64 SignedLessEqual) = refl
word_plain (Branch Bits32 Equal) = refl
word_plain (Branch Bits32 Greater) = refl
word_plain (Branch Bits32 GreaterEqual) = refl
word_plain (Branch Bits32 SharesBits) = refl
word_plain (Branch Bits32 NotEqual) = refl
word_plain (Branch Bits32 SignedGreater) = refl
word_plain (Branch Bits32 SignedGreaterEqual) = refl
word_plain (Branch Bits32 Less) = refl
word_plain (Branch Bits32 LessEqual) = refl
word_plain (Branch Bits32 SignedLess) = refl
word_plain (Branch Bits32 SignedLessEqual) = refl
word_plain (MovSigned Byte64) = refl
word_plain (MovSigned Half64) = refl
word_plain (MovSigned Word64) = refl
word_plain (MovSigned Byte32) = refl
word_plain (MovSigned Half32) = refl
word_plain (End ToLittle End16) = refl
word_plain (End ToLittle End32) = refl
word_plain (End ToLittle End64) = refl
word_plain (End ToBig End16) = refl
word_plain (End ToBig End32) = refl
word_plain (End ToBig End64) = refl
word_plain (End Swap End16) = refl
word_plain (End Swap End32) = refl
word_plain (End Swap End64) = refl
word_plain (Load Byte) = refl
word_plain (Load Half) = refl
word_plain (Load Word) = refl
word_plain (Load Double) = refl
word_plain (LoadSigned signed.Byte) = refl
word_plain (LoadSigned signed.Half) = refl
word_plain (LoadSigned signed.Word) = refl
word_plain (StoreNumber Byte) = refl
word_plain (StoreNumber Half) = refl
word_plain (StoreNumber Word) = refl
word_plain (StoreNumber Double) = refl
word_plain (StoreRegister Byte) = refl
word_plain (StoreRegister Half) = refl
word_plain (StoreRegister Word) = refl
word_plain (StoreRegister Double) = refl
word_plain (Neg Bits64) = refl
word_plain (Neg Bits32) = refl
word_plain (Mov Bits64) = refl
word_plain (Mov Bits32) = refl
word_plain LoadWide = refl
word_plain Jump = refl
word_plain JumpLong = refl
word_plain Call = refl
word_plain Exit = refl
