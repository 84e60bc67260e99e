-- What a step is: that of an instruction which is no call, and leaves limits, object and list, or a
-- call of a helper, which is given the same whatever object and list are.
use Rattle.std.proofs.Common.{◌≡◌, ◌∙◌, ℕ, ◌+◌, Bool, true, false, List, Option, Some, None, refl, ap, sym}
use Rattle.std.specs.Prelude.{not, ◌||◌, unwrap_or}
use Rattle.std.specs.Option.{option_map}
use Rattle.std.proofs.lemmas.Option.{none-some, same_Some}
use Rattle.bpf_decode.specs.declared.insn.Insn.{Insn}
use Rattle.bpf_decode.specs.declared.insn.Insn.TheVariants.{Alu, Neg, Mov, MovSigned, End, LoadWide, Load, LoadSigned, Store, Jump, JumpLong, Branch, Call, CallLocal, Exit}
use Rattle.bpf_decode.specs.Instruction.{spelling, slots, AllFit}
use Rattle.object_store.specs.Object.{PlainObject}
use Rattle.txn.specs.Edits.{Edit}
use Rattle.helpers.specs.declared.argument.Argument.{Argument}
use Rattle.helpers.specs.Effect.{Takes}
use Rattle.helpers.specs.Table.{signature_of, effect}
use Rattle.helpers.specs.Edits.{edits}
use Rattle.bpf_machine.specs.declared.caps.Caps.{Caps}
use Rattle.bpf_machine.specs.State.{◌>>=◌, only, State, go, with_edits}
use Rattle.bpf_machine.specs.Helper.{Given, asked, answered, write_room}
use Rattle.bpf_machine.specs.Flat.{Layout, arguments, help, step}
use Rattle.bpf_machine.specs.Typed.{fetch}
use Rattle.bpf_machine.specs.Decoded.{insn_act}
use Rattle.bpf_machine.specs.Blind.{NoCall, elsewhere, StepsAreBlind}
use Rattle.bpf_machine.specs.Safe.{BytesAreInstructions, ElsewhereIsStuck}
use Rattle.footprint.specs.Calls.{given_in}

-- what holds of each instruction that is no call, and of each call, holds of each
pub each_insn : (P : Insn → Type 0) → ((i : Insn) → NoCall i → P i) → ((id : ℕ) → P (Call id)) → (i : Insn) → P i
each_insn P plain call (Alu bits operation dst source) = plain (Alu bits operation dst source) tt
each_insn P plain call (Neg bits dst) = plain (Neg bits dst) tt
each_insn P plain call (Mov bits dst source) = plain (Mov bits dst source) tt
each_insn P plain call (MovSigned extension dst src) = plain (MovSigned extension dst src) tt
each_insn P plain call (End order width dst) = plain (End order width dst) tt
each_insn P plain call (LoadWide dst value) = plain (LoadWide dst value) tt
each_insn P plain call (Load width dst base offset) = plain (Load width dst base offset) tt
each_insn P plain call (LoadSigned width dst base offset) = plain (LoadSigned width dst base offset) tt
each_insn P plain call (Store width base offset source) = plain (Store width base offset source) tt
each_insn P plain call (Jump offset) = plain (Jump offset) tt
each_insn P plain call (JumpLong distance) = plain (JumpLong distance) tt
each_insn P plain call (Branch bits comparison dst source offset) = plain (Branch bits comparison dst source offset) tt
each_insn P plain call (Call id) = call id
each_insn P plain call (CallLocal distance) = plain (CallLocal distance) tt
each_insn P plain call Exit = plain Exit tt

-- the state that a helper leaves
abbrev pub helped : ℕ → State ℕ → Given → State ℕ
helped id s g =
    let e = effect id s.object (asked g) in
    record {
      slot = s.slot;
      regs = answered s.regs e.answer;
      memory = write_room s.memory g.target e.bytes;
      object = e.object;
      out_len = unwrap_or e.out_len s.out_len;
      caller = s.caller;
      limits = s.limits;
      edits = with_edits (edits id s.object (asked g)) s.edits;
    }

-- what gives a value was there
pub bind_some : {A B : Type 0} (o : Option A) (f : A → Option B) (y : B) → (o >>= f) ≡ Some y → (x : A) × (o ≡ Some x) × (f x ≡ Some y)
bind_some None f y e = absurd (none-some y e)
bind_some (Some x) f y e = (x, refl, e)

pub only_some : {B : Type 0} (b : Bool) (o : Option B) (y : B) → only b o ≡ Some y → o ≡ Some y
only_some true o y e = e
only_some false o y e = absurd (none-some y e)

module _ (blind : StepsAreBlind) (caps : Caps) (lay : Layout) where
  -- a helper is given the state's limits
  pub given_limits : (s : State ℕ) (args : List Argument) (k : ℕ) (g : Given) → arguments caps lay s args k ≡ Some g → g.limits ≡ s.limits
  given_limits s args k g e =
      let here = blind.arguments caps lay s.limits s.object s.edits s args k in
      ap (λ (x : Given). x.limits)
      (same_Some g (record g { limits = s.limits }) (sym e ∙ here ∙ ap (option_map (λ (x : Given). record x { limits = s.limits })) e))

  -- and the same whatever object and list are
  pub arguments_elsewhere : (o : PlainObject) (es : Option (List Edit)) (s : State ℕ) (args : List Argument) (k : ℕ) → arguments caps lay (elsewhere s.limits o es s) args k ≡ arguments caps lay s args k
  arguments_elsewhere o es s args k =
      blind.arguments caps lay s.limits o es s args k
      ∙ sym (blind.arguments caps lay s.limits s.object s.edits s args k)

  pub given_elsewhere : (o : PlainObject) (es : Option (List Edit)) (id : ℕ) (s : State ℕ) → given_in caps lay id (elsewhere s.limits o es s) ≡ given_in caps lay id s
  given_elsewhere o es id s = by (signature_of id)
    where
      by : (a : Option Takes) → (a >>= λ takes. only (not takes.writes || caps.writes) (arguments caps lay (elsewhere s.limits o es s) takes.arguments 1)) ≡ (a >>= λ takes. only (not takes.writes || caps.writes) (arguments caps lay s takes.arguments 1))
      by None = refl
      by (Some takes) =
          ap (only (not takes.writes || caps.writes)) (arguments_elsewhere o es s takes.arguments 1)

  -- an instruction that is no call leaves limits, object and list
  pub plain_leaves : (i : Insn) (s t : State ℕ) → NoCall i → insn_act caps lay i s ≡ Some t → t ≡ elsewhere s.limits s.object s.edits t
  plain_leaves i s t other e =
      same_Some t (elsewhere s.limits s.object s.edits t)
      (sym e ∙ sym (blind.acts caps lay s.limits s.object s.edits i s other) ∙ ap (option_map (elsewhere s.limits s.object s.edits)) e)

module _ (caps : Caps) (lay : Layout) where
  -- a call, by what it is given
  pub help_is : (id : ℕ) (s : State ℕ) → help caps lay id s ≡ (given_in caps lay id s >>= λ g. Some (helped id s g))
  help_is id s = by_signature (signature_of id)
    where
      by_leave : (b : Bool) (a : Option Given) → only b (a >>= λ g. Some (helped id s g)) ≡ (only b a >>= λ g. Some (helped id s g))
      by_leave true a = refl
      by_leave false a = refl

      by_signature : (o : Option Takes) → (o >>= λ takes. only (not takes.writes || caps.writes) (arguments caps lay s takes.arguments 1 >>= λ g. Some (helped id s g))) ≡ ((o >>= λ takes. only (not takes.writes || caps.writes) (arguments caps lay s takes.arguments 1)) >>= λ g. Some (helped id s g))
      by_signature None = refl
      by_signature (Some takes) = by_leave (not takes.writes || caps.writes) (arguments caps lay s takes.arguments 1)

  module _ (is : List Insn) where
    -- a step, by the instruction
    pub data Stepped (s t : State ℕ) : Type 0 where
      plain : (i : Insn) → NoCall i → fetch (slots is) s.slot ≡ Some i → insn_act caps lay i s ≡ Some t → Stepped s t
      called : (id : ℕ) (g : Given) → fetch (slots is) s.slot ≡ Some (Call id) → given_in caps lay id s ≡ Some g → go (s.slot + 1) (helped id s g) ≡ t → Stepped s t

    by_given : (s t : State ℕ) (id : ℕ) → fetch (slots is) s.slot ≡ Some (Call id) → (a : Option Given) → given_in caps lay id s ≡ a → ((a >>= λ g. Some (helped id s g)) >>= λ u. Some (go (s.slot + 1) u)) ≡ Some t → Stepped s t
    by_given s t id at None is_given e = absurd (none-some t e)
    by_given s t id at (Some g) is_given e =
        called id g at is_given (same_Some (go (s.slot + 1) (helped id s g)) t e)

    by_insn : (s t : State ℕ) (i : Insn) → fetch (slots is) s.slot ≡ Some i → insn_act caps lay i s ≡ Some t → Stepped s t
    by_insn s t =
        each_insn (λ (i : Insn). fetch (slots is) s.slot ≡ Some i → insn_act caps lay i s ≡ Some t → Stepped s t)
        (λ i other at e. plain i other at e)
        (λ id at e. by_given s t id at (given_in caps lay id s) refl
        (sym (ap (λ (o : Option (State ℕ)). o >>= λ u. Some (go (s.slot + 1) u)) (help_is id s)) ∙ e))

    pub stepped : AllFit is → BytesAreInstructions → ElsewhereIsStuck → (s t : State ℕ) → step caps lay (spelling is) s ≡ Some t → Stepped s t
    stepped fit begins outside s t e = by (fetch (slots is) s.slot) refl
      where
        by : (f : Option Insn) → fetch (slots is) s.slot ≡ f → Stepped s t
        by None f = absurd (none-some t (sym (outside caps lay is s f).no_step ∙ e))
        by (Some i) f = by_insn s t i f (sym (begins caps lay is fit s i f).acts ∙ e)
