-- What a frame says of the registers of a state that it is true of.
use Rattle.std.proofs.Common.{◌≡◌, ℕ, ℤ, pos, negsuc, zero, suc, ◌^◌, ◌<◌, List, [], ◌∷◌, Option, Some, None, true, false, refl, ◌∙◌, sym, arith, Bool}
use Rattle.std.specs.Prelude.{slice_get, FitsSigned, not}
use Rattle.std.specs.Int.{w16}
use Rattle.std.proofs.lemmas.Bool.{false≢true, cond-true}
use Rattle.bpf_decode.specs.declared.value.Value.{Value}
use Rattle.bpf_decode.specs.declared.value.Value.TheVariants as values
use Rattle.bpf_decode.specs.declared.operation.OpWidth.{OpWidth}
use Rattle.bpf_decode.specs.declared.operation.OpWidth.TheVariants.{Bits32, Bits64}
use Rattle.bpf_decode.specs.declared.operation.Arithmetic.{Arithmetic}
use Rattle.bpf_decode.specs.declared.insn.Operand.{Operand}
use Rattle.bpf_decode.specs.declared.insn.Operand.TheVariants.{Immediate, Register}
use Rattle.bpf_decode.specs.Values.{number, extended, moves_pointer, is_addition, alu_values, mov_values}
use Rattle.bpf_decode.specs.Arithmetic.{alu_value, mov_value}
use Rattle.bpf_machine.specs.State.{◌>>=◌, reg}
use Rattle.bpf_machine.specs.Typed.{Typed, operand_value}
use Rattle.abstract_regs.specs.Kind.{PlainKind, Unset, Num, Ptr, HoldsKind, is_unset, is_num, is_ptr}
use Rattle.abstract_regs.specs.Frame.{PlainFrame, or_unset, kind_at, operand_kind, HoldsEach}
use Rattle.abstract_regs.specs.Moves.{flat_option, value_at, operand_in}
use Rattle.verifier.specs.Kind.{alu_refused, mov_refused}
use Rattle.verifier.specs.Frame.{Holds}
use Rattle.verifier.specs.Rules.{operand_is_unset}

pub extended_small16 : (z : ℤ) → FitsSigned w16 z → extended z < 2 ^ 64
extended_small16 (pos n) h = let s = h.sfits in omega arith
extended_small16 (negsuc n) h = omega arith

pub not_false : (b : Bool) → not b ≡ false → b ≡ true
not_false true h = refl
not_false false h = sym h

-- a kind that is true of a value
abbrev pub HoldsValue : PlainKind → Value → Type 0
HoldsValue x v = HoldsKind x (Some v)

set_value : (x : PlainKind) (c : Option Value) → HoldsKind x c → is_unset x ≡ false → (v : Value) × (c ≡ Some v) × HoldsValue x v
set_value Unset c h e = absurd (false≢true (sym e))
set_value (Num k) None h e = absurd h
set_value (Num k) (Some v) h e = (v, refl, h)
set_value (Ptr r k) None h e = absurd h
set_value (Ptr r k) (Some v) h e = (v, refl, h)

set_in : (f : List PlainKind) (cs : List (Option Value)) (r : ℕ) → HoldsEach f cs → is_unset (or_unset (slice_get f r)) ≡ false → (v : Value) × ((slice_get cs r >>= λ c. c) ≡ Some v) × HoldsValue (or_unset (slice_get f r)) v
set_in [] cs r h e = absurd (false≢true (sym e))
set_in (x ∷ f) [] r h e = absurd h
set_in (x ∷ f) (c ∷ cs) zero h e = set_value x c h.0 e
set_in (x ∷ f) (c ∷ cs) (suc r) h e = set_in f cs r h.1 e

flat_is : (o : Option (Option Value)) → flat_option o ≡ (o >>= λ c. c)
flat_is None = refl
flat_is (Some c) = refl

-- a register's value, said in both ways
pub value_is : (s : Typed) (r : ℕ) (v : Value) → reg s r ≡ Some v → value_at s.regs r ≡ Some v
value_is s r v e = flat_is (slice_get s.regs r) ∙ e

pub operand_is : (s : Typed) (x : Operand) (v : Value) → operand_value s x ≡ Some v → operand_in s.regs x ≡ Some v
operand_is s (Immediate imm) v e = e
operand_is s (Register r) v e = value_is s r v e

-- a register that is set has a value of its kind
pub record Read (f : PlainFrame) (s : Typed) (r : ℕ) : Type 0 where
  pub value : Value
  pub there : reg s r ≡ Some value
  pub holds : HoldsValue (kind_at f r) value

pub read : {known : ℕ} (f : PlainFrame) (s : Typed) (r : ℕ) → Holds known f s → is_unset (kind_at f r) ≡ false → Read f s r
read f s r h e = let v = set_in f.registers s.regs r h.regs e in record { value = v.0; there = v.1; holds = v.2 }

pub num_is_set : (x : PlainKind) → is_num x ≡ true → is_unset x ≡ false
num_is_set Unset h = absurd (false≢true h)
num_is_set (Num k) h = refl
num_is_set (Ptr r k) h = refl

pub ptr_is_set : (x : PlainKind) → is_ptr x ≡ true → is_unset x ≡ false
ptr_is_set Unset h = absurd (false≢true h)
ptr_is_set (Num k) h = refl
ptr_is_set (Ptr r k) h = refl

pub not_ptr_is_num : (x : PlainKind) → is_unset x ≡ false → is_ptr x ≡ false → is_num x ≡ true
not_ptr_is_num Unset h e = absurd (false≢true (sym h))
not_ptr_is_num (Num k) h e = refl
not_ptr_is_num (Ptr r k) h e = absurd (false≢true (sym e))

-- the number of a value whose kind is a number
pub numbered : (x : PlainKind) (v : Value) → HoldsValue x v → is_num x ≡ true → (n : ℕ) × (number v ≡ Some n) × (n < 2 ^ 64) × (v ≡ values.Num n)
numbered Unset v h b = absurd (false≢true b)
numbered (Ptr r k) v h b = absurd (false≢true b)
numbered (Num k) (values.Num n) h b = (n, refl, h.fits, refl)
numbered (Num k) (values.Ptr r at) h b = absurd h

-- a value is a number where its kind is one, and a pointer where its kind is
abbrev pub HasForm : PlainKind → Value → Type 0
HasForm Unset v = Unit {0}
HasForm (Num k) (values.Num n) = Unit {0}
HasForm (Num k) (values.Ptr r at) = ⊥
HasForm (Ptr r k) (values.Num n) = ⊥
HasForm (Ptr r k) (values.Ptr q at) = Unit {0}

pub form_of : (x : PlainKind) (v : Value) → HoldsValue x v → HasForm x v
form_of Unset v h = tt
form_of (Num k) (values.Num n) h = tt
form_of (Num k) (values.Ptr r at) h = h
form_of (Ptr r k) (values.Num n) h = h
form_of (Ptr r k) (values.Ptr q at) h = tt

-- what an instruction reads beside its destination
pub operand_read : {known : ℕ} (f : PlainFrame) (s : Typed) (source : Operand) → Holds known f s → operand_is_unset f source ≡ false → (v : Value) × (operand_value s source ≡ Some v) × HasForm (operand_kind f source) v
operand_read f s (Immediate imm) h e = (values.Num (extended imm), refl, tt)
operand_read f s (Register r) h e = let v = read f s r h e in (v.value, v.there, form_of (kind_at f r) v.value v.holds)

pub operand_is_set : (f : PlainFrame) (source : Operand) → operand_is_unset f source ≡ false → is_unset (operand_kind f source) ≡ false
operand_is_set f (Immediate imm) e = refl
operand_is_set f (Register r) e = e

-- the number of a value whose kind is set and no pointer
pub number_of : (x : PlainKind) (v : Value) → HasForm x v → is_unset x ≡ false → is_ptr x ≡ false → (n : ℕ) × (number v ≡ Some n) × (v ≡ values.Num n)
number_of Unset v h e g = absurd (false≢true (sym e))
number_of (Num k) (values.Num n) h e g = (n, refl, refl)
number_of (Num k) (values.Ptr q at) h e g = absurd h
number_of (Ptr q k) v h e g = absurd (false≢true (sym g))

-- arithmetic that no rule refuses gives a value
pub computes : (bits : OpWidth) (operation : Arithmetic) (x y : PlainKind) (v u : Value) → HasForm x v → HasForm y u → is_unset x ≡ false → is_unset y ≡ false → alu_refused bits operation x y ≡ false → (w : Value) × (alu_values bits operation v u ≡ Some w)
computes bits operation Unset y v u h i e g r = absurd (false≢true (sym e))
computes bits operation (Num k) Unset v u h i e g r = absurd (false≢true (sym g))
computes bits operation (Ptr q k) Unset v u h i e g r = absurd (false≢true (sym g))
computes bits operation (Num k) (Num l) (values.Num m) (values.Num n) h i e g r = (values.Num (alu_value bits operation m n), refl)
computes bits operation (Num k) (Num l) (values.Ptr p m) u h i e g r = absurd h
computes bits operation (Num k) (Num l) (values.Num m) (values.Ptr p n) h i e g r = absurd i
computes bits operation (Ptr q k) (Num l) (values.Ptr p m) (values.Num n) h i e g r =
    (values.Ptr p (alu_value bits operation m n), cond-true (moves_pointer bits operation) _ None (not_false _ r))
computes bits operation (Ptr q k) (Num l) (values.Num m) u h i e g r = absurd h
computes bits operation (Ptr q k) (Num l) (values.Ptr p m) (values.Ptr o n) h i e g r = absurd i
computes bits operation (Num k) (Ptr q l) (values.Num m) (values.Ptr p n) h i e g r =
    (values.Ptr p (alu_value bits operation m n), cond-true (is_addition bits operation) _ None (not_false _ r))
computes bits operation (Num k) (Ptr q l) (values.Ptr p m) u h i e g r = absurd h
computes bits operation (Num k) (Ptr q l) (values.Num m) (values.Num n) h i e g r = absurd i
computes bits operation (Ptr q k) (Ptr o l) v u h i e g r = absurd (false≢true (sym r))

-- so does a copy
pub copies : (bits : OpWidth) (x : PlainKind) (v : Value) → HasForm x v → is_unset x ≡ false → mov_refused bits x ≡ false → (w : Value) × (mov_values bits v ≡ Some w)
copies bits Unset v h e r = absurd (false≢true (sym e))
copies bits (Num k) (values.Num n) h e r = (values.Num (mov_value bits n), refl)
copies bits (Num k) (values.Ptr p n) h e r = absurd h
copies Bits64 (Ptr q k) (values.Ptr p n) h e r = (values.Ptr p n, refl)
copies Bits32 (Ptr q k) v h e r = absurd (false≢true (sym r))
copies Bits64 (Ptr q k) (values.Num n) h e r = absurd h
