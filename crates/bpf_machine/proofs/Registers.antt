-- Registers of the typed machine and of its image.
use Rattle.std.proofs.Common.{◌≡◌, ℕ, ◌+◌, ◌-◌, ◌%◌, ◌^◌, Option, Some, true, refl, ap, ◌∙◌, sym, add_comm}
use Rattle.bpf_decode.specs.declared.operation.OpWidth.{OpWidth}
use Rattle.bpf_decode.specs.declared.operation.OpWidth.TheVariants.{Bits32, Bits64}
use Rattle.bpf_decode.specs.declared.operation.Arithmetic.{Arithmetic}
use Rattle.bpf_decode.specs.declared.operation.Arithmetic.TheVariants.{Add, Sub}
use Rattle.bpf_decode.specs.declared.insn.Operand.{Operand}
use Rattle.bpf_decode.specs.declared.insn.Operand.TheVariants.{Immediate, Register}
use Rattle.bpf_decode.specs.declared.region.Region.{Region}
use Rattle.std.specs.Option.{option_map}
use Rattle.std.proofs.lemmas.List.{map-set}
use Rattle.bpf_decode.specs.declared.value.Value.{Value}
use Rattle.bpf_decode.specs.declared.value.Value.TheVariants.{Num, Ptr}
use Rattle.bpf_machine.specs.declared.caps.Caps.{Caps}
use Rattle.bpf_machine.specs.State.{◌>>=◌, State, reg, set_reg}
use Rattle.bpf_machine.specs.Flat.{Layout, base, flat_after}
use Rattle.bpf_machine.specs.Typed.{Typed, number, moves_pointer, is_addition, alu_values, mov_values, operand_value, typed_after, address, image_memory, image}
use Rattle.bpf_decode.specs.Arithmetic.{alu_value, mov_value}
use Rattle.bpf_machine.specs.Decoded.{operand_in}
use Rattle.bpf_machine.proofs.Sim.{Sim, Any, same, sim_none, sim_some, sim_if, sim_guard, sim_bind, reg_sim}
use Rattle.bpf_machine.proofs.Place.{shift}

module _ (caps : Caps) (lay : Layout) where
  pub register : (s : Typed) (r : ℕ) → Sim Any (address lay) (reg s r) (reg (image lay s) r)
  register s r = reg_sim (address lay) s.regs r

  pub sets : (s : Typed) (d : ℕ) (v : Value) → Sim Any (image lay) (set_reg s d v) (set_reg (image lay s) d (address lay v))
  sets s d v =
      sim_if _ _ _ _ _ (λ _. sim_some _ _ _ _ tt (ap (λ regs. record { slot = s.slot; regs = regs; memory = image_memory lay s.memory; object = s.object; out_len = s.out_len; caller = s.caller; limits = s.limits; edits = s.edits }) (sym (map-set (option_map (address lay)) s.regs d (Some v)))))

  -- a pointer that moves is moved in every layout
  moved : (bits : OpWidth) (operation : Arithmetic) (r : Region) (at b : ℕ) → moves_pointer bits operation ≡ true → alu_value bits operation ((base lay r + at) % 2 ^ 64) b ≡ (base lay r + alu_value bits operation at b) % 2 ^ 64
  moved Bits64 Add r at b h = shift (base lay r) at b (2 ^ 64)
  moved Bits64 Sub r at b h = shift (base lay r) at (2 ^ 64 - b) (2 ^ 64)
  moved bits operation r at b h = cc

  moved_by : (bits : OpWidth) (operation : Arithmetic) (r : Region) (at a : ℕ) → is_addition bits operation ≡ true → alu_value bits operation a ((base lay r + at) % 2 ^ 64) ≡ (base lay r + alu_value bits operation a at) % 2 ^ 64
  moved_by Bits64 Add r at a h =
      ap (λ n. n % 2 ^ 64) (add_comm a ((base lay r + at) % 2 ^ 64)) ∙ shift (base lay r) at a (2 ^ 64) ∙ ap (λ n. (base lay r + n % 2 ^ 64) % 2 ^ 64) (add_comm at a)
  moved_by bits operation r at a h = cc

  pub alus : (bits : OpWidth) (operation : Arithmetic) (x y : Value) → Sim Any (address lay) (alu_values bits operation x y) (Some (alu_value bits operation (address lay x) (address lay y)))
  alus bits operation (Num a) (Num b) = sim_some _ _ _ _ tt refl
  alus bits operation (Ptr r at) (Num b) =
      sim_guard _ _ (moves_pointer bits operation) _ _ (λ yes. sim_some _ _ _ _ tt (moved bits operation r at b yes))
  alus bits operation (Num a) (Ptr r at) =
      sim_guard _ _ (is_addition bits operation) _ _ (λ yes. sim_some _ _ _ _ tt (moved_by bits operation r at a yes))
  alus bits operation (Ptr r at) (Ptr q other) = sim_none _ _ _

  pub movs : (bits : OpWidth) (x : Value) → Sim Any (address lay) (mov_values bits x) (Some (mov_value bits (address lay x)))
  movs bits (Num n) = sim_some _ _ _ _ tt refl
  movs Bits64 (Ptr r at) = sim_some _ _ _ _ tt refl
  movs Bits32 (Ptr r at) = sim_none _ _ _

  -- what an instruction reads beside its destination
  pub operand : (s : Typed) (source : Operand) → Sim Any (address lay) (operand_value s source) (operand_in caps lay (image lay s) source)
  operand s (Immediate imm) = sim_some _ _ _ _ tt refl
  operand s (Register src) = register s src

  -- a number is itself in every layout
  pub numbers : (v : Value) → Sim Any same (number v) (Some (address lay v))
  numbers (Num n) = sim_some _ _ _ _ tt refl
  numbers (Ptr r o) = sim_none _ _ _

  -- a number in a register, and what follows
  pub number_in : {C D : Type 0} (k : C → D) (s : Typed) (r : ℕ) (f : ℕ → Option C) (g : ℕ → Option D) → ((n : ℕ) → Sim Any k (f n) (g n)) → Sim Any k (reg s r >>= λ v. number v >>= f) (reg (image lay s) r >>= g)
  number_in k s r f g h =
      sim_bind Any (address lay) Any k _ _ _ _ (register s r) (λ v _ _.
      sim_bind Any same Any k (number v) (Some (address lay v)) f g (numbers v) (λ n _ _. h n))

  -- on to the next slot
  pub after_sim : (s : Typed) (a : Option Typed) (b : Option (State ℕ)) → Sim Any (image lay) a b → Sim Any (image lay) (typed_after s a) (flat_after caps lay (image lay s) b)
  after_sim s a b h = sim_bind Any (image lay) Any (image lay) a b _ _ h (λ t _ g. sim_some _ _ _ _ g refl)
