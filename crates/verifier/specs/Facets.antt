-- What an instruction does, facet by facet. Each facet has a row for every instruction, so that a
-- new one has to be given its row in each; the rules ask nothing else of an instruction.
use Rattle.std.specs.Prelude.{ℕ, Option, Some, None}
use Rattle.bpf_decode.specs.declared.insn.Operand.TheVariants.{Register}
use Rattle.bpf_decode.specs.declared.insn.Insn.{Insn}
use Rattle.bpf_decode.specs.declared.insn.Insn.TheVariants.{Alu, Neg, Mov, MovSigned, End, LoadWide, Load, LoadSigned}
use Rattle.bpf_decode.specs.declared.insn.Insn.TheVariants.{Store, Jump, JumpLong, Branch, Call, CallLocal, Exit}
use Rattle.bpf_decode.specs.Instruction.{byte_count, signed_byte_count}
use Rattle.verifier.specs.declared.facets.Goes.{Goes}
use Rattle.verifier.specs.declared.facets.Goes.TheVariants as goes
use Rattle.verifier.specs.declared.facets.Reads.{Reads}
use Rattle.verifier.specs.declared.facets.Reads.TheVariants as reads
use Rattle.verifier.specs.declared.facets.Uses.{Uses}
use Rattle.verifier.specs.declared.facets.Uses.TheVariants as uses
use Rattle.verifier.specs.declared.facets.Touches.{Touches}
use Rattle.verifier.specs.declared.facets.Touches.TheVariants as touches
use Rattle.verifier.specs.declared.facets.Callee.{Callee}
use Rattle.verifier.specs.declared.facets.Callee.TheVariants as callee

-- where a run goes on after it
abbrev pub goes_of : Insn → Goes
goes_of (Alu bits operation dst source) = goes.On
goes_of (Neg bits dst) = goes.On
goes_of (Mov bits dst source) = goes.On
goes_of (MovSigned extension dst src) = goes.On
goes_of (End order width dst) = goes.On
goes_of (LoadWide dst value) = goes.On
goes_of (Load width dst base offset) = goes.On
goes_of (LoadSigned width dst base offset) = goes.On
goes_of (Store width base offset source) = goes.On
goes_of (Jump offset) = goes.To offset
goes_of (JumpLong distance) = goes.To distance
goes_of (Branch bits comparison dst source offset) = goes.Either offset
goes_of (Call helper) = goes.On
goes_of (CallLocal distance) = goes.On
goes_of Exit = goes.Out

-- the register that it writes; a call leaves its answer in register 0 besides
abbrev pub writes_of : Insn → Option ℕ
writes_of (Alu bits operation dst source) = Some dst
writes_of (Neg bits dst) = Some dst
writes_of (Mov bits dst source) = Some dst
writes_of (MovSigned extension dst src) = Some dst
writes_of (End order width dst) = Some dst
writes_of (LoadWide dst value) = Some dst
writes_of (Load width dst base offset) = Some dst
writes_of (LoadSigned width dst base offset) = Some dst
writes_of (Store width base offset source) = None
writes_of (Jump offset) = None
writes_of (JumpLong distance) = None
writes_of (Branch bits comparison dst source offset) = None
writes_of (Call helper) = None
writes_of (CallLocal distance) = None
writes_of Exit = None

-- the registers that it reads, but for a helper's arguments
abbrev pub reads_of : Insn → Reads
reads_of (Alu bits operation dst source) = reads.Two (Register dst) source
reads_of (Neg bits dst) = reads.One (Register dst)
reads_of (Mov bits dst source) = reads.One source
reads_of (MovSigned extension dst src) = reads.One (Register src)
reads_of (End order width dst) = reads.One (Register dst)
reads_of (LoadWide dst value) = reads.Nothing
reads_of (Load width dst base offset) = reads.One (Register base)
reads_of (LoadSigned width dst base offset) = reads.One (Register base)
reads_of (Store width base offset source) = reads.Two (Register base) source
reads_of (Jump offset) = reads.Nothing
reads_of (JumpLong distance) = reads.Nothing
reads_of (Branch bits comparison dst source offset) = reads.Two (Register dst) source
reads_of (Call helper) = reads.Nothing
reads_of (CallLocal distance) = reads.Nothing
reads_of Exit = reads.Answer

-- what it does with the values of registers
abbrev pub uses_of : Insn → Uses
uses_of (Alu bits operation dst source) = uses.Computes bits operation dst source
uses_of (Neg bits dst) = uses.Changes dst
uses_of (Mov bits dst source) = uses.Copies bits source
uses_of (MovSigned extension dst src) = uses.Changes src
uses_of (End order width dst) = uses.Changes dst
uses_of (LoadWide dst value) = uses.Nothing
uses_of (Load width dst base offset) = uses.Nothing
uses_of (LoadSigned width dst base offset) = uses.Nothing
uses_of (Store width base offset source) = uses.Nothing
uses_of (Jump offset) = uses.Nothing
uses_of (JumpLong distance) = uses.Nothing
uses_of (Branch bits comparison dst source offset) = uses.Compares dst source
uses_of (Call helper) = uses.Nothing
uses_of (CallLocal distance) = uses.Nothing
uses_of Exit = uses.Answers

-- the memory that it reads or writes, but for a helper's ranges
abbrev pub touches_of : Insn → Touches
touches_of (Alu bits operation dst source) = touches.Nothing
touches_of (Neg bits dst) = touches.Nothing
touches_of (Mov bits dst source) = touches.Nothing
touches_of (MovSigned extension dst src) = touches.Nothing
touches_of (End order width dst) = touches.Nothing
touches_of (LoadWide dst value) = touches.Nothing
touches_of (Load width dst base offset) =
    touches.Loads (record { base = base; offset = offset; bytes = byte_count width })
touches_of (LoadSigned width dst base offset) =
    touches.Loads (record { base = base; offset = offset; bytes = signed_byte_count width })
touches_of (Store width base offset source) =
    touches.Stores (record { base = base; offset = offset; bytes = byte_count width }) source
touches_of (Jump offset) = touches.Nothing
touches_of (JumpLong distance) = touches.Nothing
touches_of (Branch bits comparison dst source offset) = touches.Nothing
touches_of (Call helper) = touches.Nothing
touches_of (CallLocal distance) = touches.Nothing
touches_of Exit = touches.Nothing

-- what it calls
abbrev pub callee_of : Insn → Callee
callee_of (Alu bits operation dst source) = callee.Nothing
callee_of (Neg bits dst) = callee.Nothing
callee_of (Mov bits dst source) = callee.Nothing
callee_of (MovSigned extension dst src) = callee.Nothing
callee_of (End order width dst) = callee.Nothing
callee_of (LoadWide dst value) = callee.Nothing
callee_of (Load width dst base offset) = callee.Nothing
callee_of (LoadSigned width dst base offset) = callee.Nothing
callee_of (Store width base offset source) = callee.Nothing
callee_of (Jump offset) = callee.Nothing
callee_of (JumpLong distance) = callee.Nothing
callee_of (Branch bits comparison dst source offset) = callee.Nothing
callee_of (Call helper) = callee.Helper helper
callee_of (CallLocal distance) = callee.Local
callee_of Exit = callee.Nothing
