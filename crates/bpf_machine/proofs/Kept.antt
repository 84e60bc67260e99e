-- A step keeps what is within the limits, and so does a run.
use Rattle.std.proofs.Common.{◌≡◌, ℕ, zero, suc, ◌+◌, ◌-◌, ◌*◌, ◌/◌, ◌%◌, ◌^◌, ◌≤◌, List, [], ◌∷◌, Option, Some, None, Bool, true, false, refl, sym, subst, arith, length, take, drop, length-append, ◌⊎◌, inl, inr}
use Rattle.std.specs.Prelude.{if◌then◌else◌, nat_lt, ◌==◌, replicate}
use Rattle.std.specs.List.{AllByRecursion}
use Rattle.std.proofs.lemmas.List.{length-take, length-replicate}
use Rattle.std.proofs.lemmas.Option.{none-some, same_Some}
use Rattle.bpf_decode.specs.Fields.{Fields, fields_of}
use Rattle.bpf_decode.specs.declared.access.SignedWidth.{SignedWidth}
use Rattle.bpf_decode.specs.Instruction.{spelling, signed_byte_count}
use Rattle.bpf_decode.specs.Opcodes.{operation_of, selected, order_of, end_width_of, signed_move_of, comparison_of}
use Rattle.bpf_decode.specs.Arithmetic.{alu_value, neg_value, mov_value, signed_move_value, end_value, is_taken, signed_load_value}
use Rattle.bpf_decode.specs.declared.operation.OpWidth.{OpWidth}
use Rattle.bpf_decode.specs.declared.operation.OpWidth.TheVariants.{Bits32, Bits64}
use Rattle.bpf_machine.specs.declared.limits.TheConstants.{STACK_SIZE}
use Rattle.bpf_decode.specs.declared.region.Region.{Region}
use Rattle.bpf_decode.specs.declared.region.Region.TheVariants.{Input, Output, Stack}
use Rattle.object_store.specs.Limits.{profile}
use Rattle.object_store.specs.Object.{PlainObject, IsObject, AreBytes, part}
use Rattle.helpers.specs.declared.argument.Argument.{Argument}
use Rattle.helpers.specs.declared.argument.Argument.TheVariants.{Number, OutputLength, Readable, Writable}
use Rattle.helpers.specs.Table.{signature_of, effect}
use Rattle.helpers.specs.Laws.{EffectsAreWithinLimits}
use Rattle.bpf_machine.specs.declared.caps.Caps.{Caps}
use Rattle.bpf_machine.specs.State.{◌>>=◌, only, le_value, le_bytes, cells, put, size, State, reg, set_reg, go, opening, Outcome, outcome_of, Ending, Ended, Stuck, Unfinished, goes_on, ends}
use Rattle.bpf_machine.specs.Helper.{Given, asked, bytes_in, write_room}
use Rattle.bpf_machine.specs.Flat.{Layout, base, operand, at_slot, at_base, signed16, signed32, width_of, signed_width_of, find, range, load, load_signed, store, arguments, help, flat_after, operation_row, neg_row, mov_row, end_row, alu_row, ldx_row, st_row, stx_row, wide_row, call_row, branch_row, act, step, exit_code, run, entry}
use Rattle.bpf_decode.specs.Jump.{jump_target, branch_to}
use Rattle.bpf_machine.specs.Safe.{caps_of, first_layout, outcome_or_none}
use Rattle.bpf_machine.specs.Address.{IsMemory}
use Rattle.bpf_machine.specs.Within.{IsWithinLimits, OutcomesAreWithinLimits, CallsAreWithinLimits}
use Rattle.bpf_machine.proofs.Bytes.{are_append, are_take, are_zeros, are_part, are_le_bytes, are_written}
use Rattle.bpf_machine.proofs.Cells.{length-le_bytes}
use Rattle.bpf_machine.proofs.OneMemory.{IsPlace, find_place, put_same, put_other, put_sized}
use Rattle.bpf_machine.proofs.Counting.{one_less}

-- what holds of a result, if there is one
pub record Where {A : Type 0} (P : A → Type 0) (o : Option A) : Type 0 where
  pub by : (x : A) → o ≡ Some x → P x

module _ {A : Type 0} (P : A → Type 0) where
  where_none : Where P None
  where_none = record { by = λ x e. absurd (none-some x e) }

  pub where_some : (x : A) → P x → Where P (Some x)
  where_some x p = record { by = λ y e. subst P (same_Some x y e) p }

  where_if : (b : Bool) (a c : Option A) → Where P a → Where P c → Where P (if b then a else c)
  where_if true a c h k = h
  where_if false a c h k = k

  pub where_only : (b : Bool) (a : Option A) → Where P a → Where P (only b a)
  where_only true a h = h
  where_only false a h = where_none

  pub where_bind : {B : Type 0} (a : Option B) (f : B → Option A) → ((x : B) → a ≡ Some x → Where P (f x)) → Where P (a >>= f)
  where_bind None f h = where_none
  where_bind (Some x) f h = h x refl

-- the regions hold that many bytes, and the object is within its limits
pub record IsGood (caps : Caps) (s : State ℕ) : Type 0 where
  pub sized : IsMemory caps s.memory
  pub bytes : (r : Region) → AreBytes (cells s.memory r)
  pub object : IsObject s.object
  pub limits : s.limits ≡ profile

-- the limits are those of all objects, every text is bytes, and the writable range is a region's
pub record IsGiven (caps : Caps) (g : Given) : Type 0 where
  pub limits : g.limits ≡ profile
  pub texts : AllByRecursion AreBytes g.texts
  pub room : (p : Region × ℕ) → g.target ≡ Some p → p.1 + g.room ≤ size caps p.0

module _ (caps : Caps) (law : EffectsAreWithinLimits) (lay : Layout) where
  -- bytes written at a place leave the state good
  put_good : (s : State ℕ) (r : Region) (place : ℕ) (bytes : List ℕ) → IsGood caps s → place + length bytes ≤ size caps r → AreBytes bytes → IsGood caps (record s { memory = put s.memory r place bytes })
  put_good s r place bytes g h k =
      let i : IsPlace caps lay (base lay r + place) (length bytes) (r, place) = record { address = refl; inside = h } in
      record {
        sized = put_sized caps lay s.memory g.sized (base lay r + place) bytes r place i;
        bytes = λ q. by q (put_other s.memory r q place bytes);
        object = g.object;
        limits = g.limits;
      }
    where
      by : (q : Region) → (r ≡ q) ⊎ (cells (put s.memory r place bytes) q ≡ cells s.memory q) → AreBytes (cells (put s.memory r place bytes) q)
      by q (inl e) = subst (λ x. AreBytes (cells (put s.memory r place bytes) x)) e (subst AreBytes (sym (put_same s.memory r place bytes)) (are_written (cells s.memory r) place bytes (g.bytes r) k))
      by q (inr e) = subst AreBytes (sym e) (g.bytes q)

  sets : (s : State ℕ) (d v : ℕ) → IsGood caps s → Where (IsGood caps) (set_reg s d v)
  sets s d v g = where_if (IsGood caps) (nat_lt d 10) _ _ (where_some (IsGood caps) _ (record { sized = g.sized; bytes = g.bytes; object = g.object; limits = g.limits })) (where_none (IsGood caps))

  goes : (s : State ℕ) (slot : ℕ) → IsGood caps s → IsGood caps (go slot s)
  goes s slot g = record { sized = g.sized; bytes = g.bytes; object = g.object; limits = g.limits }

  after : (s : State ℕ) (o : Option (State ℕ)) → Where (IsGood caps) o → Where (IsGood caps) (flat_after caps lay s o)
  after s o w = where_bind (IsGood caps) o (λ t. Some (go (s.slot + 1) t)) (λ t e. where_some (IsGood caps) _ (goes t (s.slot + 1) (w.by t e)))

  stores : (s : State ℕ) (w at n : ℕ) → IsGood caps s → Where (IsGood caps) (store caps lay w at n s)
  stores s w at n g =
      where_bind (IsGood caps) (find caps lay at w) _ (λ p e.
      where_only (IsGood caps) _ _ (where_some (IsGood caps) _
      (let i = find_place caps lay at w p e in
      put_good s p.0 p.1 (le_bytes w n) g (omega (arith, i.inside, length-le_bytes w n)) (are_le_bytes w n))))

  -- the place of a helper's range is a region's
  abbrev IsRange : ℕ → Option (Region × ℕ) → Type 0
  IsRange n t = (p : Region × ℕ) → t ≡ Some p → p.1 + n ≤ size caps p.0

  ranges : (writes : Bool) (at n : ℕ) → Where (IsRange n) (range caps lay writes at n)
  ranges writes at n =
      where_if (IsRange n) (n == 0) _ _ (where_some (IsRange n) None (λ p e. absurd (none-some p e)))
      (where_bind (IsRange n) (find caps lay at n) _ (λ p e.
      let one : Where (IsRange n) (Some (Some p)) = where_some (IsRange n) (Some p) (λ q f. subst (λ x. x.1 + n ≤ size caps x.0) (same_Some p q f) (find_place caps lay at n p e).inside) in
      where_if (IsRange n) writes _ _ (where_only (IsRange n) _ _ one) one))

  text_is : (s : State ℕ) (p : Option (Region × ℕ)) (n : ℕ) → IsGood caps s → AreBytes (bytes_in s.memory p n)
  text_is s None n g = tt
  text_is s (Some p) n g = are_part (cells s.memory p.0) p.1 n (g.bytes p.0)

  given : (s : State ℕ) → IsGood caps s → (takes : List Argument) (k : ℕ) → Where (IsGiven caps) (arguments caps lay s takes k)
  given s g [] k = where_some (IsGiven caps) _ (record { limits = g.limits; texts = tt; room = λ p e. absurd (none-some p e) })
  given s g (Number ∷ more) k =
      where_bind (IsGiven caps) (reg s k) _ (λ n e.
      where_bind (IsGiven caps) (arguments caps lay s more (k + 1)) _ (λ x f.
      let i = (given s g more (k + 1)).by x f in where_some (IsGiven caps) _ (record { limits = i.limits; texts = i.texts; room = i.room })))
  given s g (OutputLength ∷ more) k =
      where_bind (IsGiven caps) (reg s k) _ (λ n e.
      where_only (IsGiven caps) _ _ (where_bind (IsGiven caps) (arguments caps lay s more (k + 1)) _ (λ x f.
      let i = (given s g more (k + 1)).by x f in where_some (IsGiven caps) _ (record { limits = i.limits; texts = i.texts; room = i.room }))))
  given s g (Readable ∷ more) k =
      where_bind (IsGiven caps) (reg s k) _ (λ at e.
      where_bind (IsGiven caps) (reg s (k + 1)) _ (λ n e2.
      where_bind (IsGiven caps) (range caps lay false at n) _ (λ p e3.
      where_bind (IsGiven caps) (arguments caps lay s more (k + 2)) _ (λ x f.
      let i = (given s g more (k + 2)).by x f in where_some (IsGiven caps) _ (record { limits = i.limits; texts = (text_is s p n g, i.texts); room = i.room })))))
  given s g (Writable ∷ more) k =
      where_bind (IsGiven caps) (reg s k) _ (λ at e.
      where_bind (IsGiven caps) (reg s (k + 1)) _ (λ n e2.
      where_bind (IsGiven caps) (range caps lay true at n) _ (λ p e3.
      where_bind (IsGiven caps) (arguments caps lay s more (k + 2)) _ (λ x f.
      let i = (given s g more (k + 2)).by x f in where_some (IsGiven caps) _ (record { limits = i.limits; texts = i.texts; room = (ranges true at n).by p e3 })))))

  wrote : (s : State ℕ) (target : Option (Region × ℕ)) (room : ℕ) (bytes : List ℕ) → IsGood caps s → IsRange room target → length bytes ≤ room → AreBytes bytes → IsGood caps (record s { memory = write_room s.memory target bytes })
  wrote s None room bytes g i h k = record { sized = g.sized; bytes = g.bytes; object = g.object; limits = g.limits }
  wrote s (Some p) room bytes g i h k = put_good s p.0 p.1 bytes g (omega (arith, i p refl)) k

  helps : (id : ℕ) (s : State ℕ) → IsGood caps s → Where (IsGood caps) (help caps lay id s)
  helps id s g =
      where_bind (IsGood caps) (signature_of id) _ (λ takes e.
      where_only (IsGood caps) _ _ (where_bind (IsGood caps) (arguments caps lay s takes.arguments 1) _ (λ x f.
      let i = (given s g takes.arguments 1).by x f in
      let e = law id s.object (asked x) i.limits g.object i.texts in
      let m = wrote s x.target x.room (effect id s.object (asked x)).bytes g i.room e.short e.bytes in
      where_some (IsGood caps) _ (record { sized = m.sized; bytes = m.bytes; object = e.object; limits = g.limits }))))

  module _ (s : State ℕ) (g : IsGood caps s) where
    -- a register is set, and the machine goes on at the next slot
    sets_next : (d v : ℕ) → Where (IsGood caps) (flat_after caps lay s (set_reg s d v))
    sets_next d v = after s (set_reg s d v) (sets s d v g)

    only_good : (b : Bool) (o : Option (State ℕ)) → Where (IsGood caps) o → Where (IsGood caps) (only b o)
    only_good b o w = where_only (IsGood caps) b o w

    stays : (slot : ℕ) → Where (IsGood caps) (Some (go slot s))
    stays slot = where_some (IsGood caps) (go slot s) (goes s slot g)

    operations : (bits : OpWidth) (f : Fields) → Where (IsGood caps) (operation_row bits f s)
    operations bits f =
        where_bind (IsGood caps) (operation_of (f.opcode / 16)) _ (λ row _. only_good _ _ (where_bind (IsGood caps) (operand f s) _ (λ y _. where_bind (IsGood caps) (reg s f.dst) _ (λ x _. sets_next f.dst (alu_value bits (selected row f.offset) x y)))))

    negs : (bits : OpWidth) (f : Fields) → Where (IsGood caps) (neg_row bits f s)
    negs bits f = only_good _ _ (where_bind (IsGood caps) (reg s f.dst) _ (λ x _. sets_next f.dst (neg_value bits x)))

    movs : (bits : OpWidth) (f : Fields) → Where (IsGood caps) (mov_row bits f s)
    movs bits f =
        where_if (IsGood caps) (f.offset == 0) _ _ (where_bind (IsGood caps) (operand f s) _ (λ y _. sets_next f.dst (mov_value bits y)))
        (only_good _ _ (where_bind (IsGood caps) (reg s f.src) _ (λ y _. sets_next f.dst (signed_move_value (signed_move_of bits f.offset) y))))

    ends_of : (bits : OpWidth) (f : Fields) → Where (IsGood caps) (end_row bits f s)
    ends_of bits f = where_bind (IsGood caps) (order_of bits (f.opcode / 8 % 2)) _ (λ order _. only_good _ _ (where_bind (IsGood caps) (reg s f.dst) _ (λ x _. sets_next f.dst (end_value order (end_width_of f.imm) x))))

    alus : (bits : OpWidth) (f : Fields) → Where (IsGood caps) (alu_row bits f s)
    alus bits f =
        where_if (IsGood caps) (f.opcode / 16 == 0x8) _ _ (negs bits f)
        (where_if (IsGood caps) (f.opcode / 16 == 0xb) _ _ (movs bits f)
        (where_if (IsGood caps) (f.opcode / 16 == 0xd) _ _ (ends_of bits f) (operations bits f)))

    loaded : (w dst at : ℕ) → Where (IsGood caps) (load caps lay w dst at s)
    loaded w dst at = where_bind (IsGood caps) (find caps lay at w) _ (λ p _. sets s dst (le_value (part (cells s.memory p.0) p.1 w)) g)

    loaded_signed : (width : SignedWidth) (dst at : ℕ) → Where (IsGood caps) (load_signed caps lay width dst at s)
    loaded_signed width dst at =
        where_bind (IsGood caps) (find caps lay at (signed_byte_count width)) _ (λ p _. sets s dst (signed_load_value width (le_value (part (cells s.memory p.0) p.1 (signed_byte_count width)))) g)

    loads : (f : Fields) → Where (IsGood caps) (ldx_row caps lay f s)
    loads f =
        only_good _ _ (where_if (IsGood caps) (f.opcode / 32 == 3) _ _
        (where_bind (IsGood caps) (reg s f.src) _ (λ n _. after s (load caps lay (width_of f.opcode) f.dst (at_base f n) s) (loaded (width_of f.opcode) f.dst (at_base f n))))
        (only_good _ _ (where_bind (IsGood caps) (signed_width_of f.opcode) _ (λ width _. where_bind (IsGood caps) (reg s f.src) _ (λ n _. after s (load_signed caps lay width f.dst (at_base f n) s) (loaded_signed width f.dst (at_base f n)))))))

    immediates : (f : Fields) → Where (IsGood caps) (st_row caps lay f s)
    immediates f = only_good _ _ (where_bind (IsGood caps) (reg s f.dst) _ (λ n _. after s (store caps lay (width_of f.opcode) (at_base f n) (signed32 f.imm) s) (stores s (width_of f.opcode) (at_base f n) (signed32 f.imm) g)))

    registers : (f : Fields) → Where (IsGood caps) (stx_row caps lay f s)
    registers f = only_good _ _ (where_bind (IsGood caps) (reg s f.dst) _ (λ n _. where_bind (IsGood caps) (reg s f.src) _ (λ y _. after s (store caps lay (width_of f.opcode) (at_base f n) y s) (stores s (width_of f.opcode) (at_base f n) y g))))

    wides : (f : Fields) (next : Option Fields) → Where (IsGood caps) (wide_row f next s)
    wides f next =
        only_good _ _ (where_bind (IsGood caps) next _ (λ half _. only_good _ _ (where_bind (IsGood caps) (set_reg s f.dst (f.imm + 2 ^ 32 * half.imm)) _ (λ t e.
        where_some (IsGood caps) _ (goes t (s.slot + 2) ((sets s f.dst (f.imm + 2 ^ 32 * half.imm) g).by t e))))))

    calls : (f : Fields) → Where (IsGood caps) (call_row caps lay f s)
    calls f = only_good _ _ (after s (help caps lay f.imm s) (helps f.imm s g))

    branches : (bits : OpWidth) (f : Fields) → Where (IsGood caps) (branch_row bits f s)
    branches bits f =
        where_bind (IsGood caps) (comparison_of (f.opcode / 16)) _ (λ comparison _. where_bind (IsGood caps) (reg s f.dst) _ (λ x _. where_bind (IsGood caps) (operand f s) _ (λ y _.
        stays (branch_to (is_taken bits comparison x y) s.slot (signed16 f.offset)))))

    acts : (f : Fields) (next : Option Fields) → Where (IsGood caps) (act caps lay f next s)
    acts f next =
        where_if (IsGood caps) (f.opcode % 8 == 4) _ _ (alus Bits32 f)
        (where_if (IsGood caps) (f.opcode % 8 == 7) _ _ (alus Bits64 f)
        (where_if (IsGood caps) (f.opcode % 8 == 1) _ _ (loads f)
        (where_if (IsGood caps) (f.opcode % 8 == 2) _ _ (immediates f)
        (where_if (IsGood caps) (f.opcode % 8 == 3) _ _ (registers f)
        (where_if (IsGood caps) (f.opcode == 0x18) _ _ (wides f next)
        (where_if (IsGood caps) (f.opcode == 0x05) _ _ (only_good _ _ (stays (jump_target s.slot (signed16 f.offset))))
        (where_if (IsGood caps) (f.opcode == 0x06) _ _ (only_good _ _ (stays (jump_target s.slot (signed32 f.imm))))
        (where_if (IsGood caps) (f.opcode == 0x85) _ _ (calls f)
        (where_if (IsGood caps) (f.opcode % 8 == 5) _ _ (branches Bits64 f)
        (where_if (IsGood caps) (f.opcode % 8 == 6) _ _ (branches Bits32 f) (where_none (IsGood caps))))))))))))

    steps : (code : List ℕ) → Where (IsGood caps) (step caps lay code s)
    steps code = where_bind (IsGood caps) (fields_of (at_slot code s.slot)) _ (λ f _. acts f (fields_of (drop 8 (at_slot code s.slot))))

  outcome_good : (before : PlainObject) (code : ℕ) (s : State ℕ) → IsObject before → IsGood caps s → IsWithinLimits caps (outcome_of before code s)
  outcome_good before code s h g = by (nat_lt code (2 ^ 63))
    where
      by : (b : Bool) → IsWithinLimits caps (if b then record { code = code; output = take s.out_len s.memory.output; object = s.object } else record { code = code; output = []; object = before })
      by true = record {
        object = g.object;
        bytes = are_take s.out_len s.memory.output (g.bytes Output);
        short = omega (arith, length-take s.out_len s.memory.output, g.sized.lengths Output);
      }
      by false = record { object = h; bytes = tt; short = omega arith }

  module _ (code : List ℕ) (before : PlainObject) (h : IsObject before) where
    at : (n : ℕ) (s : State ℕ) (o : Outcome) (k : ℕ) → IsGood caps s → ((t : State ℕ) (j : ℕ) → IsGood caps t → run caps lay code before n t ≡ Ended o j → IsWithinLimits caps o) → (x : Option ℕ) → (y : Option (State ℕ)) → step caps lay code s ≡ y → ends before s x (goes_on y (run caps lay code before n)) ≡ Ended o k → IsWithinLimits caps o
    at n s o k g more (Some c) y st e =
        let same : outcome_of before c s ≡ o = cc in
        subst (IsWithinLimits caps) same (outcome_good before c s h g)
    at n s o k g more None None st e = cc
    at n s o k g more None (Some t) st e =
        let l = one_less (run caps lay code before n t) o k e in
        more t l.0 ((steps s g code).by t st) l.1

    runs : (n : ℕ) (s : State ℕ) (o : Outcome) (k : ℕ) → IsGood caps s → run caps lay code before n s ≡ Ended o k → IsWithinLimits caps o
    runs zero s o k g e = cc
    runs (suc n) s o k g e = at n s o k g (λ t j m f. runs n t o j m f) (exit_code code s) (step caps lay code s) refl e

  entry_good : (before : PlainObject) (caller : ℕ) (input : List ℕ) → IsObject before → AreBytes input → length input ≤ caps.in_cap → IsGood caps (entry caps lay before caller input)
  entry_good before caller input h k short = record {
    sized = record { lengths = sizes };
    bytes = each;
    object = h;
    limits = refl;
  }
    where
      sizes : (r : Region) → length (cells (opening caps input) r) ≡ size caps r
      sizes Input = omega (arith, length-append input (replicate (caps.in_cap - length input) 0), length-replicate {A = ℕ} (caps.in_cap - length input) 0)
      sizes Output = length-replicate {A = ℕ} caps.out_cap 0
      sizes Stack = length-replicate {A = ℕ} STACK_SIZE 0

      each : (r : Region) → AreBytes (cells (opening caps input) r)
      each Input = are_append input (replicate (caps.in_cap - length input) 0) k (are_zeros (caps.in_cap - length input))
      each Output = are_zeros caps.out_cap
      each Stack = are_zeros STACK_SIZE

pub outcomes_are_within_limits : EffectsAreWithinLimits → OutcomesAreWithinLimits
outcomes_are_within_limits law caps lay code before caller input count o k within h bytes short e =
    runs caps law lay code before h count (entry caps lay before caller input) o k (entry_good caps law lay before caller input h bytes short) e

pub calls_are_within_limits : EffectsAreWithinLimits → CallsAreWithinLimits
calls_are_within_limits law m within object caller input call =
    by (run (caps_of m) (first_layout (caps_of m)) (spelling m.instructions) object (length m.instructions) (entry (caps_of m) (first_layout (caps_of m)) object caller input)) refl
  where
    by : (e : Ending) → run (caps_of m) (first_layout (caps_of m)) (spelling m.instructions) object (length m.instructions) (entry (caps_of m) (first_layout (caps_of m)) object caller input) ≡ e → IsWithinLimits (caps_of m) (outcome_or_none object e)
    by (Ended o k) e = outcomes_are_within_limits law (caps_of m) (first_layout (caps_of m)) (spelling m.instructions) object caller input (length m.instructions) o k within call.within_limits call.bytes call.short e
    by Stuck e = record { object = call.within_limits; bytes = tt; short = omega arith }
    by Unfinished e = record { object = call.within_limits; bytes = tt; short = omega arith }
