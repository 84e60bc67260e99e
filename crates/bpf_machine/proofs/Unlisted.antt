-- The typed machine does the same whether a list is kept or not; and no instruction but a call of a
-- helper touches the limits, the object and the list.
use Rattle.std.proofs.Common.{◌≡◌, ℕ, ◌+◌, List, [], ◌∷◌, Option, Some, None, Bool, true, false, refl, ap, ◌∙◌, sym}
use Rattle.std.specs.Prelude.{nat_lt, nat_le, ◌||◌, not, unwrap_or, if◌then◌else◌, slice_set}
use Rattle.std.specs.Option.{option_map}
use Rattle.std.proofs.lemmas.Option.{same_Some}
use Rattle.bpf_decode.specs.declared.access.SignedWidth.{SignedWidth}
use Rattle.bpf_decode.specs.declared.insn.Operand.{Operand}
use Rattle.bpf_decode.specs.declared.insn.Operand.TheVariants.{Immediate, Register}
use Rattle.bpf_decode.specs.declared.insn.Insn.{Insn}
use Rattle.bpf_decode.specs.declared.insn.Insn.TheVariants.{Alu, Neg, Mov, MovSigned, End, LoadWide, Load, LoadSigned, Store, Jump, JumpLong, Branch, Call, CallLocal, Exit}
use Rattle.bpf_decode.specs.Instruction.{byte_count, signed_byte_count}
use Rattle.bpf_decode.specs.Arithmetic.{neg_value, signed_move_value, end_value, signed_load_value}
use Rattle.bpf_decode.specs.declared.value.Value.{Value}
use Rattle.bpf_decode.specs.declared.value.Value.TheVariants.{Num}
use Rattle.bpf_machine.specs.declared.caps.Caps.{Caps}
use Rattle.object_store.specs.declared.limits.Limits.{Limits}
use Rattle.object_store.specs.Object.{PlainObject}
use Rattle.txn.specs.Edits.{Edit}
use Rattle.helpers.specs.declared.argument.Argument.{Argument}
use Rattle.helpers.specs.declared.argument.Argument.TheVariants.{Number, OutputLength, Readable, Writable}
use Rattle.helpers.specs.Table.{signature_of, effect}
use Rattle.helpers.specs.Edits.{edits}
use Rattle.bpf_machine.specs.State.{◌>>=◌, only, le_value, may_store, reg, set_reg, go, with_edits}
use Rattle.bpf_machine.specs.Helper.{Given, with_number, with_text, with_room, asked, answered}
use Rattle.bpf_machine.specs.Typed.{Typed, extended, number, alu_values, mov_values, operand_value, locate, value_of, cells_at, plain_bytes, stored, typed_range, typed_text, typed_load, typed_load_signed, typed_store, typed_room, typed_arguments, typed_help, typed_after, typed_act, typed_exit_of}
pub use Rattle.bpf_machine.specs.Blind.{NoCall}
use Rattle.bpf_machine.proofs.Blind.{map_bind, map_only}

-- a state with other limits, another object and another list
abbrev pub with_both : Limits → PlainObject → Option (List Edit) → Typed → Typed
with_both l o es s = record s { limits = l; object = o; edits = es }

-- a state that keeps no list
abbrev pub unlisted : Typed → Typed
unlisted s = record s { edits = None }

bind_same : {A B : Type 0} (a : Option A) (f g : A → Option B) → ((x : A) → f x ≡ g x) → (a >>= f) ≡ (a >>= g)
bind_same None f g h = refl
bind_same (Some x) f g h = h x

module _ (caps : Caps) (l : Limits) (o : PlainObject) (es : Option (List Edit)) where
  set_both : (s : Typed) (d : ℕ) (v : Value) → option_map (with_both l o es) (set_reg s d v) ≡ set_reg (with_both l o es s) d v
  set_both s d v = by (nat_lt d 10)
    where
      by : (b : Bool) → option_map (with_both l o es) (if b then Some (record s { regs = slice_set s.regs d (Some v) }) else None) ≡ (if b then Some (record (with_both l o es s) { regs = slice_set s.regs d (Some v) }) else None)
      by true = refl
      by false = refl

  after_both : (s : Typed) (a b : Option Typed) → option_map (with_both l o es) a ≡ b → option_map (with_both l o es) (typed_after s a) ≡ typed_after (with_both l o es s) b
  after_both s None b h = ap (λ b. typed_after (with_both l o es s) b) h
  after_both s (Some t) b h = ap (λ b. typed_after (with_both l o es s) b) h

  go_both : (slot : ℕ) (a b : Option Typed) → option_map (with_both l o es) a ≡ b → option_map (with_both l o es) (a >>= λ t. Some (go slot t)) ≡ (b >>= λ t. Some (go slot t))
  go_both slot None b h = ap (λ b. b >>= λ t. Some (go slot t)) h
  go_both slot (Some t) b h = ap (λ b. b >>= λ t. Some (go slot t)) h

  load_both : (w dst : ℕ) (v : Value) (d : ℕ) (s : Typed) → option_map (with_both l o es) (typed_load caps w dst v d s) ≡ typed_load caps w dst v d (with_both l o es s)
  load_both w dst v d s =
      map_bind _ (locate caps v d w) _ _ (λ p. map_bind _ (value_of p w (cells_at s.memory p.0 p.1 w)) _ _ (λ x. set_both s dst x))

  load_signed_both : (width : SignedWidth) (dst : ℕ) (v : Value) (d : ℕ) (s : Typed) → option_map (with_both l o es) (typed_load_signed caps width dst v d s) ≡ typed_load_signed caps width dst v d (with_both l o es s)
  load_signed_both width dst v d s =
      map_bind _ (locate caps v d (signed_byte_count width)) _ _ (λ p. map_bind _ (plain_bytes (cells_at s.memory p.0 p.1 (signed_byte_count width))) _ _ (λ bytes. set_both s dst (Num (signed_load_value width (le_value bytes)))))

  store_both : (w : ℕ) (v : Value) (d : ℕ) (x : Value) (s : Typed) → option_map (with_both l o es) (typed_store caps w v d x s) ≡ typed_store caps w v d x (with_both l o es s)
  store_both w v d x s =
      map_bind _ (locate caps v d w) _ _ (λ p. map_only _ (may_store p.0) _ _ (map_bind _ (stored s.memory p w x) _ _ (λ m. refl)))

  operand_both : (s : Typed) (source : Operand) → operand_value s source ≡ operand_value (with_both l o es s) source
  operand_both s (Immediate imm) = refl
  operand_both s (Register src) = refl

  -- what reads its operand first
  by_operand : (s : Typed) (source : Operand) (f g : Value → Option Typed) → ((x : Value) → option_map (with_both l o es) (f x) ≡ g x) → option_map (with_both l o es) (operand_value s source >>= f) ≡ (operand_value (with_both l o es s) source >>= g)
  by_operand s source f g h = map_bind _ (operand_value s source) f g h ∙ ap (λ a. a >>= g) (operand_both s source)

  pub act_both : (i : Insn) (s : Typed) → NoCall i → option_map (with_both l o es) (typed_act caps i s) ≡ typed_act caps i (with_both l o es s)
  act_both (Alu bits operation dst source) s other =
      by_operand s source _ _ (λ y. map_bind _ (reg s dst) _ _ (λ x. after_both s _ _ (map_bind _ (alu_values bits operation x y) _ _ (λ v. set_both s dst v))))
  act_both (Neg bits dst) s other =
      map_bind _ (reg s dst) _ _ (λ x. map_bind _ (number x) _ _ (λ n. after_both s _ _ (set_both s dst (Num (neg_value bits n)))))
  act_both (Mov bits dst source) s other =
      by_operand s source _ _ (λ y. after_both s _ _ (map_bind _ (mov_values bits y) _ _ (λ v. set_both s dst v)))
  act_both (MovSigned extension dst src) s other =
      map_bind _ (reg s src) _ _ (λ y. map_bind _ (number y) _ _ (λ n. after_both s _ _ (set_both s dst (Num (signed_move_value extension n)))))
  act_both (End order width dst) s other =
      map_bind _ (reg s dst) _ _ (λ x. map_bind _ (number x) _ _ (λ n. after_both s _ _ (set_both s dst (Num (end_value order width n)))))
  act_both (LoadWide dst value) s other = go_both (s.slot + 2) (set_reg s dst (Num value)) _ (set_both s dst (Num value))
  act_both (Load width dst base offset) s other =
      map_bind _ (reg s base) _ _ (λ v. after_both s _ _ (load_both (byte_count width) dst v (extended offset) s))
  act_both (LoadSigned width dst base offset) s other =
      map_bind _ (reg s base) _ _ (λ v. after_both s _ _ (load_signed_both width dst v (extended offset) s))
  act_both (Store width base offset source) s other =
      map_bind _ (reg s base) _ _ (λ v. by_operand s source _ _ (λ y. after_both s _ _ (store_both (byte_count width) v (extended offset) y s)))
  act_both (Jump offset) s other = refl
  act_both (JumpLong distance) s other = refl
  act_both (Branch bits comparison dst source offset) s other =
      map_bind _ (reg s dst) _ _ (λ x. map_bind _ (number x) _ _ (λ m. by_operand s source _ _ (λ y. map_bind _ (number y) _ _ (λ n. refl))))
  act_both (Call helper) s other = absurd other
  act_both (CallLocal distance) s other = refl
  act_both Exit s other = refl

  pub exit_both : (i : Insn) (s : Typed) → typed_exit_of i s ≡ typed_exit_of i (with_both l o es s)
  exit_both (Alu bits operation dst source) s = refl
  exit_both (Neg bits dst) s = refl
  exit_both (Mov bits dst source) s = refl
  exit_both (MovSigned extension dst src) s = refl
  exit_both (End order width dst) s = refl
  exit_both (LoadWide dst value) s = refl
  exit_both (Load width dst base offset) s = refl
  exit_both (LoadSigned width dst base offset) s = refl
  exit_both (Store width base offset source) s = refl
  exit_both (Jump offset) s = refl
  exit_both (JumpLong distance) s = refl
  exit_both (Branch bits comparison dst source offset) s = refl
  exit_both (Call helper) s = refl
  exit_both (CallLocal distance) s = refl
  exit_both Exit s = refl

-- such an instruction leaves limits, object and list
pub leaves_both : (caps : Caps) (i : Insn) (s t : Typed) → NoCall i → typed_act caps i s ≡ Some t → t ≡ with_both s.limits s.object s.edits t
leaves_both caps i s t other e =
    same_Some t (with_both s.limits s.object s.edits t) (sym e ∙ sym (act_both caps s.limits s.object s.edits i s other) ∙ ap (option_map (with_both s.limits s.object s.edits)) e)

-- what a helper is given doesn't rest on a list
arguments_unlisted : (caps : Caps) (s : Typed) (more : List Argument) (k : ℕ) → typed_arguments caps s more k ≡ typed_arguments caps (unlisted s) more k
arguments_unlisted caps s [] k = refl
arguments_unlisted caps s (Number ∷ more) k =
    bind_same (reg s k) _ _ (λ v. bind_same (number v) _ _ (λ n. ap (λ a. a >>= λ g. Some (with_number n g)) (arguments_unlisted caps s more (k + 1))))
arguments_unlisted caps s (OutputLength ∷ more) k =
    bind_same (reg s k) _ _ (λ v. bind_same (number v) _ _ (λ n. ap (λ a. only (nat_le n caps.out_cap) (a >>= λ g. Some (with_number n g))) (arguments_unlisted caps s more (k + 1))))
arguments_unlisted caps s (Readable ∷ more) k =
    bind_same (reg s k) _ _ (λ at. bind_same (reg s (k + 1)) _ _ (λ v. bind_same (number v) _ _ (λ n. bind_same (typed_range caps false at n) _ _ (λ p. bind_same (typed_text s.memory p n) _ _ (λ text. ap (λ a. a >>= λ g. Some (with_text text g)) (arguments_unlisted caps s more (k + 2)))))))
arguments_unlisted caps s (Writable ∷ more) k =
    bind_same (reg s k) _ _ (λ at. bind_same (reg s (k + 1)) _ _ (λ v. bind_same (number v) _ _ (λ n. bind_same (typed_range caps true at n) _ _ (λ p. ap (λ a. a >>= λ g. Some (with_room n p g)) (arguments_unlisted caps s more (k + 2))))))

-- what a helper leaves of a state
abbrev helped_by : Caps → ℕ → Typed → Given → Option Typed
helped_by caps id s g =
    let e = effect id s.object (asked g) in
    Some (record { slot = s.slot; regs = answered s.regs (Num e.answer); memory = typed_room s.memory g.target e.bytes; object = e.object; out_len = unwrap_or e.out_len s.out_len; caller = s.caller; limits = s.limits; edits = with_edits (edits id s.object (asked g)) s.edits })

help_unlisted : (caps : Caps) (id : ℕ) (s : Typed) → option_map unlisted (typed_help caps id s) ≡ typed_help caps id (unlisted s)
help_unlisted caps id s =
    map_bind unlisted (signature_of id) _ _ (λ takes. map_only unlisted (not takes.writes || caps.writes) _ _
    (map_bind unlisted (typed_arguments caps s takes.arguments 1) _ (λ g. helped_by caps id (unlisted s) g) (λ g. refl)
    ∙ ap (λ a. a >>= helped_by caps id (unlisted s)) (arguments_unlisted caps s takes.arguments 1)))

after_unlisted : (s : Typed) (a b : Option Typed) → option_map unlisted a ≡ b → option_map unlisted (typed_after s a) ≡ typed_after (unlisted s) b
after_unlisted s None b h = ap (λ b. typed_after (unlisted s) b) h
after_unlisted s (Some t) b h = ap (λ b. typed_after (unlisted s) b) h

-- the step of a state that keeps no list is that of one which does
plain_unlisted : (caps : Caps) (i : Insn) (s : Typed) → NoCall i → option_map unlisted (typed_act caps i s) ≡ typed_act caps i (unlisted s)
plain_unlisted caps i s other = by (typed_act caps i s) refl ∙ act_both caps s.limits s.object None i s other
  where
    by : (o : Option Typed) → typed_act caps i s ≡ o → option_map unlisted (typed_act caps i s) ≡ option_map (with_both s.limits s.object None) (typed_act caps i s)
    by None e = ap (option_map unlisted) e ∙ sym (ap (option_map (with_both s.limits s.object None)) e)
    by (Some t) e =
        ap (option_map unlisted) e
        ∙ ap (λ t. Some (unlisted t)) (leaves_both caps i s t other e)
        ∙ sym (ap (option_map (with_both s.limits s.object None)) e)

pub act_unlisted : (caps : Caps) (i : Insn) (s : Typed) → option_map unlisted (typed_act caps i s) ≡ typed_act caps i (unlisted s)
act_unlisted caps (Alu bits operation dst source) s = plain_unlisted caps (Alu bits operation dst source) s tt
act_unlisted caps (Neg bits dst) s = plain_unlisted caps (Neg bits dst) s tt
act_unlisted caps (Mov bits dst source) s = plain_unlisted caps (Mov bits dst source) s tt
act_unlisted caps (MovSigned extension dst src) s = plain_unlisted caps (MovSigned extension dst src) s tt
act_unlisted caps (End order width dst) s = plain_unlisted caps (End order width dst) s tt
act_unlisted caps (LoadWide dst value) s = plain_unlisted caps (LoadWide dst value) s tt
act_unlisted caps (Load width dst base offset) s = plain_unlisted caps (Load width dst base offset) s tt
act_unlisted caps (LoadSigned width dst base offset) s = plain_unlisted caps (LoadSigned width dst base offset) s tt
act_unlisted caps (Store width base offset source) s = plain_unlisted caps (Store width base offset source) s tt
act_unlisted caps (Jump offset) s = plain_unlisted caps (Jump offset) s tt
act_unlisted caps (JumpLong distance) s = plain_unlisted caps (JumpLong distance) s tt
act_unlisted caps (Branch bits comparison dst source offset) s = plain_unlisted caps (Branch bits comparison dst source offset) s tt
act_unlisted caps (Call helper) s = after_unlisted s _ _ (help_unlisted caps helper s)
act_unlisted caps (CallLocal distance) s = plain_unlisted caps (CallLocal distance) s tt
act_unlisted caps Exit s = plain_unlisted caps Exit s tt
