-- No instruction but a call of a helper looks at the limits, the object or the list, or touches them.
-- A helper is given the same whatever object and list are, and the limits.
use Rattle.std.proofs.Common.{◌≡◌, ◌∙◌, ℕ, ◌+◌, ◌%◌, ◌^◌, Bool, true, false, List, [], ◌∷◌, Option, Some, None, refl, ap, sym}
use Rattle.std.specs.Prelude.{nat_lt, nat_le, slice_set, if◌then◌else◌}
use Rattle.std.specs.Option.{option_map}
use Rattle.bpf_decode.specs.declared.access.SignedWidth.{SignedWidth}
use Rattle.bpf_decode.specs.declared.insn.Operand.{Operand}
use Rattle.bpf_decode.specs.declared.insn.Operand.TheVariants.{Immediate, Register}
use Rattle.bpf_decode.specs.declared.insn.Insn.{Insn}
use Rattle.bpf_decode.specs.declared.insn.Insn.TheVariants.{Alu, Neg, Mov, MovSigned, End, LoadWide, Load, LoadSigned, Store, Jump, JumpLong, Branch, Call, CallLocal, Exit}
use Rattle.bpf_decode.specs.Instruction.{byte_count, signed_byte_count}
use Rattle.bpf_decode.specs.Arithmetic.{alu_value, neg_value, mov_value, signed_move_value, end_value, signed_load_value}
use Rattle.object_store.specs.declared.limits.Limits.{Limits}
use Rattle.object_store.specs.Object.{PlainObject, part}
use Rattle.txn.specs.Edits.{Edit}
use Rattle.helpers.specs.declared.argument.Argument.{Argument}
use Rattle.helpers.specs.declared.argument.Argument.TheVariants.{Number, OutputLength, Readable, Writable}
use Rattle.bpf_machine.specs.declared.caps.Caps.{Caps}
use Rattle.bpf_machine.specs.State.{◌>>=◌, only, le_value, cells, may_store, State, reg, set_reg, go}
use Rattle.bpf_machine.specs.Helper.{Given, with_number, with_text, with_room, bytes_in}
use Rattle.bpf_machine.specs.Flat.{Layout, find, range, load, load_signed, store, arguments, flat_after}
use Rattle.bpf_machine.specs.Typed.{extended}
use Rattle.bpf_machine.specs.Decoded.{operand_in, insn_act, insn_exit_of}
use Rattle.bpf_machine.specs.Blind.{NoCall, elsewhere, StepsAreBlind}

module _ {S : Type 0} (k : S → S) where
  pub map_bind : {A : Type 0} (a : Option A) (f g : A → Option S) → ((x : A) → option_map k (f x) ≡ g x) → option_map k (a >>= f) ≡ (a >>= g)
  map_bind None f g h = refl
  map_bind (Some x) f g h = h x

  pub map_only : (b : Bool) (a c : Option S) → option_map k a ≡ c → option_map k (only b a) ≡ only b c
  map_only true a c h = h
  map_only false a c h = refl

module _ (caps : Caps) (lay : Layout) (l : Limits) (o : PlainObject) (es : Option (List Edit)) where
  set_elsewhere : (s : State ℕ) (d v : ℕ) → option_map (elsewhere l o es) (set_reg s d v) ≡ set_reg (elsewhere l o es s) d v
  set_elsewhere s d v = by (nat_lt d 10)
    where
      by : (b : Bool) → option_map (elsewhere l o es) (if b then Some (record s { regs = slice_set s.regs d (Some v) }) else None) ≡ (if b then Some (record (elsewhere l o es s) { regs = slice_set s.regs d (Some v) }) else None)
      by true = refl
      by false = refl

  after_elsewhere : (s : State ℕ) (a b : Option (State ℕ)) → option_map (elsewhere l o es) a ≡ b → option_map (elsewhere l o es) (flat_after caps lay s a) ≡ flat_after caps lay (elsewhere l o es s) b
  after_elsewhere s None b h = ap (λ b. flat_after caps lay (elsewhere l o es s) b) h
  after_elsewhere s (Some t) b h = ap (λ b. flat_after caps lay (elsewhere l o es s) b) h

  go_elsewhere : (slot : ℕ) (a b : Option (State ℕ)) → option_map (elsewhere l o es) a ≡ b → option_map (elsewhere l o es) (a >>= λ t. Some (go slot t)) ≡ (b >>= λ t. Some (go slot t))
  go_elsewhere slot None b h = ap (λ (b : Option (State ℕ)). b >>= λ t. Some (go slot t)) h
  go_elsewhere slot (Some t) b h = ap (λ (b : Option (State ℕ)). b >>= λ t. Some (go slot t)) h

  load_elsewhere : (w dst at : ℕ) (s : State ℕ) → option_map (elsewhere l o es) (load caps lay w dst at s) ≡ load caps lay w dst at (elsewhere l o es s)
  load_elsewhere w dst at s =
      map_bind (elsewhere l o es) (find caps lay at w) _ _ (λ p. set_elsewhere s dst (le_value (part (cells s.memory p.0) p.1 w)))

  load_signed_elsewhere : (width : SignedWidth) (dst at : ℕ) (s : State ℕ) → option_map (elsewhere l o es) (load_signed caps lay width dst at s) ≡ load_signed caps lay width dst at (elsewhere l o es s)
  load_signed_elsewhere width dst at s =
      map_bind (elsewhere l o es) (find caps lay at (signed_byte_count width)) _ _ (λ p. set_elsewhere s dst (signed_load_value width (le_value (part (cells s.memory p.0) p.1 (signed_byte_count width)))))

  store_elsewhere : (w at n : ℕ) (s : State ℕ) → option_map (elsewhere l o es) (store caps lay w at n s) ≡ store caps lay w at n (elsewhere l o es s)
  store_elsewhere w at n s =
      map_bind (elsewhere l o es) (find caps lay at w) _ _ (λ p. map_only (elsewhere l o es) (may_store p.0) _ _ refl)

  operand_elsewhere : (s : State ℕ) (source : Operand) → operand_in caps lay s source ≡ operand_in caps lay (elsewhere l o es s) source
  operand_elsewhere s (Immediate imm) = refl
  operand_elsewhere s (Register src) = refl

  -- what reads its operand first
  by_operand : (s : State ℕ) (source : Operand) (f g : ℕ → Option (State ℕ)) → ((x : ℕ) → option_map (elsewhere l o es) (f x) ≡ g x) → option_map (elsewhere l o es) (operand_in caps lay s source >>= f) ≡ (operand_in caps lay (elsewhere l o es s) source >>= g)
  by_operand s source f g h =
      map_bind (elsewhere l o es) (operand_in caps lay s source) f g h ∙ ap (λ a. a >>= g) (operand_elsewhere s source)

  by_register : (s : State ℕ) (r : ℕ) (f g : ℕ → Option (State ℕ)) → ((x : ℕ) → option_map (elsewhere l o es) (f x) ≡ g x) → option_map (elsewhere l o es) (reg s r >>= f) ≡ (reg (elsewhere l o es s) r >>= g)
  by_register s r f g h = map_bind (elsewhere l o es) (reg s r) f g h

  act_elsewhere : (i : Insn) (s : State ℕ) → NoCall i → option_map (elsewhere l o es) (insn_act caps lay i s) ≡ insn_act caps lay i (elsewhere l o es s)
  act_elsewhere (Alu bits operation dst source) s other =
      by_operand s source _ _ (λ y. by_register s dst _ _ (λ x. after_elsewhere s _ _ (set_elsewhere s dst (alu_value bits operation x y))))
  act_elsewhere (Neg bits dst) s other = by_register s dst _ _ (λ x. after_elsewhere s _ _ (set_elsewhere s dst (neg_value bits x)))
  act_elsewhere (Mov bits dst source) s other =
      by_operand s source _ _ (λ y. after_elsewhere s _ _ (set_elsewhere s dst (mov_value bits y)))
  act_elsewhere (MovSigned extension dst src) s other =
      by_register s src _ _ (λ y. after_elsewhere s _ _ (set_elsewhere s dst (signed_move_value extension y)))
  act_elsewhere (End order width dst) s other =
      by_register s dst _ _ (λ x. after_elsewhere s _ _ (set_elsewhere s dst (end_value order width x)))
  act_elsewhere (LoadWide dst value) s other = go_elsewhere (s.slot + 2) (set_reg s dst value) _ (set_elsewhere s dst value)
  act_elsewhere (Load width dst base offset) s other =
      by_register s base _ _ (λ n. after_elsewhere s _ _ (load_elsewhere (byte_count width) dst ((n + extended offset) % 2 ^ 64) s))
  act_elsewhere (LoadSigned width dst base offset) s other =
      by_register s base _ _ (λ n. after_elsewhere s _ _ (load_signed_elsewhere width dst ((n + extended offset) % 2 ^ 64) s))
  act_elsewhere (Store width base offset source) s other =
      by_register s base _ _ (λ n. by_operand s source _ _ (λ y. after_elsewhere s _ _ (store_elsewhere (byte_count width) ((n + extended offset) % 2 ^ 64) y s)))
  act_elsewhere (Jump offset) s other = refl
  act_elsewhere (JumpLong distance) s other = refl
  act_elsewhere (Branch bits comparison dst source offset) s other =
      by_register s dst _ _ (λ x. by_operand s source _ _ (λ y. refl))
  act_elsewhere (Call helper) s other = absurd other
  act_elsewhere (CallLocal distance) s other = refl
  act_elsewhere Exit s other = refl

  exit_elsewhere : (i : Insn) (s : State ℕ) → insn_exit_of caps lay i s ≡ insn_exit_of caps lay i (elsewhere l o es s)
  exit_elsewhere (Alu bits operation dst source) s = refl
  exit_elsewhere (Neg bits dst) s = refl
  exit_elsewhere (Mov bits dst source) s = refl
  exit_elsewhere (MovSigned extension dst src) s = refl
  exit_elsewhere (End order width dst) s = refl
  exit_elsewhere (LoadWide dst value) s = refl
  exit_elsewhere (Load width dst base offset) s = refl
  exit_elsewhere (LoadSigned width dst base offset) s = refl
  exit_elsewhere (Store width base offset source) s = refl
  exit_elsewhere (Jump offset) s = refl
  exit_elsewhere (JumpLong distance) s = refl
  exit_elsewhere (Branch bits comparison dst source offset) s = refl
  exit_elsewhere (Call helper) s = refl
  exit_elsewhere (CallLocal distance) s = refl
  exit_elsewhere Exit s = refl

  -- what a helper is given, by the other limits
  abbrev by_limits : Given → Given
  by_limits g = record g { limits = l }

  -- one argument more on both sides
  one_more : (f : Given → Given) → ((g : Given) → by_limits (f g) ≡ f (by_limits g)) → (a b : Option Given) → b ≡ option_map by_limits a → option_map by_limits (a >>= λ g. Some (f g)) ≡ (b >>= λ g. Some (f g))
  one_more f same None b h = ap (λ (b : Option Given). b >>= λ g. Some (f g)) (sym h)
  one_more f same (Some g) b h = ap Some (same g) ∙ ap (λ (b : Option Given). b >>= λ g. Some (f g)) (sym h)

  given_elsewhere : (s : State ℕ) (args : List Argument) (k : ℕ) → arguments caps lay (elsewhere l o es s) args k ≡ option_map by_limits (arguments caps lay s args k)
  given_elsewhere s [] k = refl
  given_elsewhere s (Number ∷ more) k =
      sym (map_bind by_limits (reg s k) _ _ (λ n. one_more (with_number n) (λ g. refl) _ _ (given_elsewhere s more (k + 1))))
  given_elsewhere s (OutputLength ∷ more) k =
      sym (map_bind by_limits (reg s k) _ _ (λ n. map_only by_limits (nat_le n caps.out_cap) _ _
      (one_more (with_number n) (λ g. refl) _ _ (given_elsewhere s more (k + 1)))))
  given_elsewhere s (Readable ∷ more) k =
      sym (map_bind by_limits (reg s k) _ _ (λ at. map_bind by_limits (reg s (k + 1)) _ _ (λ n. map_bind by_limits (range caps lay false at n) _ _ (λ p.
      one_more (with_text (bytes_in s.memory p n)) (λ g. refl) _ _ (given_elsewhere s more (k + 2))))))
  given_elsewhere s (Writable ∷ more) k =
      sym (map_bind by_limits (reg s k) _ _ (λ at. map_bind by_limits (reg s (k + 1)) _ _ (λ n. map_bind by_limits (range caps lay true at n) _ _ (λ p.
      one_more (with_room n p) (λ g. refl) _ _ (given_elsewhere s more (k + 2))))))

pub steps_are_blind : StepsAreBlind
steps_are_blind = record { acts = act_elsewhere; exits = exit_elsewhere; arguments = given_elsewhere }
