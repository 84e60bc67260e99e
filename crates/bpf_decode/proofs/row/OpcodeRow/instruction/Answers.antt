use Rattle.std.proofs.Common.{refl, arith}
use Rattle.std.proofs.lemmas.Grind.{common_steps}
use Rattle.std.specs.Int.{w16, w32}
use Rattle.std.proofs.lemmas.Int.{to_z-of_z}
use Rattle.std.proofs.lemmas.Bool.{ne_eqb}
use Rattle.bpf_decode.proofs.row.OpcodeRow.instruction.Goals as goal

pub returns-in-AluImmediate : goal.returns-in-AluImmediate
returns-in-AluImmediate c = rw (c.in-AluImmediate.is, c.selected.ensures, to_z-of_z w32 c.cast_signed-imm.result (record { sfits = c.cast_signed-imm.type_inv }), c.cast_signed-imm.ensures, c.requires.dst_is) refl

pub returns-in-AluRegister : goal.returns-in-AluRegister
returns-in-AluRegister c = rw (c.in-AluRegister.is, c.selected-in-AluRegister.ensures, c.requires.dst_is, c.requires.src_is) refl

pub returns-in-Neg : goal.returns-in-Neg
returns-in-Neg c = rw (c.in-Neg.is, c.requires.dst_is) refl

pub returns-in-MovImmediate : goal.returns-in-MovImmediate
returns-in-MovImmediate c = rw (c.in-MovImmediate.is, to_z-of_z w32 c.cast_signed-imm.result (record { sfits = c.cast_signed-imm.type_inv }), c.cast_signed-imm.ensures, c.requires.dst_is) refl

pub returns-in-Load : goal.returns-in-Load
returns-in-Load c = rw (c.in-Load.is, to_z-of_z w16 c.cast_signed-offset.result (record { sfits = c.cast_signed-offset.type_inv }), c.cast_signed-offset.ensures, c.requires.dst_is, c.requires.src_is) refl

pub returns-in-LoadSigned : goal.returns-in-LoadSigned
returns-in-LoadSigned c = rw (c.in-LoadSigned.is, to_z-of_z w16 c.cast_signed-offset.result (record { sfits = c.cast_signed-offset.type_inv }), c.cast_signed-offset.ensures, c.requires.dst_is, c.requires.src_is) refl

pub returns-in-StoreImmediate : goal.returns-in-StoreImmediate
returns-in-StoreImmediate c = rw (c.in-StoreImmediate.is, to_z-of_z w16 c.cast_signed-offset.result (record { sfits = c.cast_signed-offset.type_inv }), c.cast_signed-offset.ensures, to_z-of_z w32 c.cast_signed-imm.result (record { sfits = c.cast_signed-imm.type_inv }), c.cast_signed-imm.ensures, c.requires.dst_is) refl

pub returns-in-StoreRegister : goal.returns-in-StoreRegister
returns-in-StoreRegister c = rw (c.in-StoreRegister.is, to_z-of_z w16 c.cast_signed-offset.result (record { sfits = c.cast_signed-offset.type_inv }), c.cast_signed-offset.ensures, c.requires.dst_is, c.requires.src_is) refl

pub returns-in-Jump : goal.returns-in-Jump
returns-in-Jump c = rw (c.in-Jump.is, to_z-of_z w16 c.cast_signed-offset.result (record { sfits = c.cast_signed-offset.type_inv }), c.cast_signed-offset.ensures) refl

pub returns-in-JumpLong : goal.returns-in-JumpLong
returns-in-JumpLong c = rw (c.in-JumpLong.is, to_z-of_z w32 c.cast_signed-imm.result (record { sfits = c.cast_signed-imm.type_inv }), c.cast_signed-imm.ensures) refl

pub returns-in-BranchImmediate : goal.returns-in-BranchImmediate
returns-in-BranchImmediate c = rw (c.in-BranchImmediate.is, to_z-of_z w16 c.cast_signed-offset.result (record { sfits = c.cast_signed-offset.type_inv }), c.cast_signed-offset.ensures, to_z-of_z w32 c.cast_signed-imm.result (record { sfits = c.cast_signed-imm.type_inv }), c.cast_signed-imm.ensures, c.requires.dst_is) refl

pub returns-in-BranchRegister : goal.returns-in-BranchRegister
returns-in-BranchRegister c = rw (c.in-BranchRegister.is, to_z-of_z w16 c.cast_signed-offset.result (record { sfits = c.cast_signed-offset.type_inv }), c.cast_signed-offset.ensures, c.requires.dst_is, c.requires.src_is) refl

pub returns-in-Exit : goal.returns-in-Exit
returns-in-Exit c = rw c.in-Exit.is refl

pub returns-in-MovRegister : goal.returns-in-MovRegister
returns-in-MovRegister c = rw (c.in-MovRegister.is, c.if-slot-eq0.true, c.requires.dst_is, c.requires.src_is) refl

pub returns-in-MovRegister-2 : goal.returns-in-MovRegister-2
returns-in-MovRegister-2 c = rw (c.in-MovRegister-2.is, ne_eqb c.args.slot.now.offset 0 c.if-slot-eq0.false, c.selected-in-MovRegister-2.ensures, c.requires.dst_is, c.requires.src_is) refl

pub returns-in-End : goal.returns-in-End
returns-in-End c = rw (c.in-End.is, c.selected-in-End.ensures, c.requires.dst_is) refl

pub returns-in-Call-2 : goal.returns-in-Call-2
returns-in-Call-2 c = grind (arith, common_steps)

pub returns-in-Wide : goal.returns-in-Wide
returns-in-Wide c = grind (arith, common_steps)
