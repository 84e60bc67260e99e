-- What is known of an instruction that no rule refuses, and of one that a rule does.
use Rattle.std.proofs.Common.{◌≡◌, ℕ, List, [], ◌∷◌, Option, Some, None, Bool, true, false, refl, ap, ◌∙◌, sym}
use Rattle.std.specs.Prelude.{◌||◌, if◌then◌else◌}
use Rattle.std.proofs.lemmas.Bool.{false≢true}
use Rattle.std.proofs.lemmas.Option.{none-some, same_Some}
use Rattle.bpf_decode.specs.declared.insn.Insn.{Insn}
use Rattle.bpf_decode.specs.declared.rule_set.RuleSet.{RuleSet}
use Rattle.bpf_machine.specs.declared.caps.Caps.{Caps}
use Rattle.verifier.specs.declared.rule.Rule.{Rule}
use Rattle.verifier.specs.declared.fault.Fault.TheVariants.{NotSet, OutOfRegion, ReadOnly, HasPointer}
use Rattle.verifier.specs.Facets.{reads_of, touches_of, callee_of}
use Rattle.abstract_regs.specs.Frame.{PlainFrame}
use Rattle.verifier.specs.Rules.{is_backward, misses, falls_off, is_local_call, writes_r10, computes_with_pointer, compares_pointer, stores_pointer, calls_unknown, passes_wrong_kind, writes_in_reader, returns_pointer, unset_among, loads_unset, loads_pointer, leaves, stores_read_only, asks, breaks_shape, breaks_frame, breaks, shape_rules, frame_rules, first_broken, shape_rule, frame_rule, else_under, rule_at}

pub neither : (a b : Bool) → (a || b) ≡ false → (a ≡ false) × (b ≡ false)
neither true b h = absurd (false≢true (sym h))
neither false b h = (refl, h)

abbrev AllFalse : (Rule → Bool) → List Rule → Type 0
AllFalse test [] = Unit {0}
AllFalse test (rule ∷ rules) = (test rule ≡ false) × AllFalse test rules

tested : (t : Bool) (rule : Rule) (rest : Option Rule) → (if t then Some rule else rest) ≡ None → (t ≡ false) × (rest ≡ None)
tested true rule rest h = absurd (none-some rule (sym h))
tested false rule rest h = (refl, h)

all_false : (test : Rule → Bool) (rules : List Rule) → first_broken test rules ≡ None → AllFalse test rules
all_false test [] h = tt
all_false test (rule ∷ rules) h =
    let t = tested (test rule) rule (first_broken test rules) h in (t.0, all_false test rules t.1)

chosen : (test : Rule → Bool) (t : Bool) (rule r : Rule) (rest : Option Rule) → test rule ≡ t → (rest ≡ Some r → test r ≡ true) → (if t then Some rule else rest) ≡ Some r → test r ≡ true
chosen test true rule r rest e later h = ap test (sym (same_Some rule r h)) ∙ e
chosen test false rule r rest e later h = later h

-- the rule that is found is broken
first_is_broken : (test : Rule → Bool) (rules : List Rule) (r : Rule) → first_broken test rules ≡ Some r → test r ≡ true
first_is_broken test [] r h = absurd (none-some r h)
first_is_broken test (rule ∷ rules) r h =
    chosen test (test rule) rule r (first_broken test rules) refl (first_is_broken test rules r) h

or_right : (a b : Bool) → b ≡ true → (a || b) ≡ true
or_right true b h = refl
or_right false b h = h

or_left : (a b : Bool) → a ≡ true → (a || b) ≡ true
or_left true b h = refl
or_left false b h = absurd (false≢true h)

module _ (rules : RuleSet) (caps : Caps) (code : List (Option Insn)) (p : ℕ) (i : Insn) (r : Rule) where
  shape_is_broken : shape_rule code p i ≡ Some r → breaks_shape code p i r ≡ true
  shape_is_broken h = first_is_broken (breaks_shape code p i) shape_rules r h

  either_is_broken : (f : PlainFrame) (o : Option Rule) → shape_rule code p i ≡ o → else_under o (Some f) (λ f. frame_rule rules caps f i) ≡ Some r → (breaks_shape code p i r || breaks_frame rules caps f i r) ≡ true
  either_is_broken f (Some rule) e h = or_left _ _ (shape_is_broken (e ∙ h))
  either_is_broken f None e h = or_right _ _ (first_is_broken (breaks_frame rules caps f i) frame_rules r h)

  alone_is_broken : (o : Option Rule) → shape_rule code p i ≡ o → else_under o None (λ f. frame_rule rules caps f i) ≡ Some r → breaks_shape code p i r ≡ true
  alone_is_broken (Some rule) e h = shape_is_broken (e ∙ h)
  alone_is_broken None e h = absurd (none-some r h)

  -- the rule that refuses an instruction is broken
  pub rule_is_broken : (frame : Option PlainFrame) → rule_at rules caps code p i frame ≡ Some r → breaks rules caps code p i frame r ≡ true
  rule_is_broken None h = alone_is_broken (shape_rule code p i) refl h
  rule_is_broken (Some f) h = either_is_broken f (shape_rule code p i) refl h

-- no rule refuses it, under its frame
pub record Passed (rules : RuleSet) (caps : Caps) (code : List (Option Insn)) (p : ℕ) (i : Insn) (f : PlainFrame) : Type 0 where
  pub backward : is_backward i ≡ false
  pub target : misses code p i ≡ false
  pub falls : falls_off code p i ≡ false
  pub local : is_local_call i ≡ false
  pub unset : unset_among f (reads_of i) ≡ false
  pub loads_set : loads_unset rules caps f (touches_of i) ≡ false
  pub asks_set : asks rules caps f NotSet (callee_of i) ≡ false
  pub r10 : writes_r10 i ≡ false
  pub computed : computes_with_pointer f i ≡ false
  pub compared : compares_pointer f i ≡ false
  pub stored : stores_pointer rules f i ≡ false
  pub bounds : leaves rules caps f (touches_of i) ≡ false
  pub asks_bounds : asks rules caps f OutOfRegion (callee_of i) ≡ false
  pub read_only : stores_read_only f (touches_of i) ≡ false
  pub asks_read_only : asks rules caps f ReadOnly (callee_of i) ≡ false
  pub unknown : calls_unknown rules i ≡ false
  pub kinds : passes_wrong_kind rules caps f i ≡ false
  pub writes : writes_in_reader rules caps i ≡ false
  pub returns : returns_pointer f i ≡ false
  pub parts : loads_pointer rules caps f (touches_of i) ≡ false
  pub asks_parts : asks rules caps f HasPointer (callee_of i) ≡ false

neither_rule : (o : Option Rule) (f : PlainFrame) (rule_of : PlainFrame → Option Rule) → else_under o (Some f) rule_of ≡ None → (o ≡ None) × (rule_of f ≡ None)
neither_rule None f rule_of h = (refl, h)
neither_rule (Some rule) f rule_of h = absurd (none-some rule (sym h))

pub passed : (rules : RuleSet) (caps : Caps) (code : List (Option Insn)) (p : ℕ) (i : Insn) (f : PlainFrame) → rule_at rules caps code p i (Some f) ≡ None → Passed rules caps code p i f
passed rules caps code p i f h =
    let both = neither_rule (shape_rule code p i) f (λ f. frame_rule rules caps f i) h in
    let a = all_false (breaks_shape code p i) shape_rules both.0 in
    let b = all_false (breaks_frame rules caps f i) frame_rules both.1 in
    let c = b.1.1.1.1 in
    let set = neither (unset_among f (reads_of i)) (loads_unset rules caps f (touches_of i) || asks rules caps f NotSet (callee_of i)) b.0 in
    let later = neither (loads_unset rules caps f (touches_of i)) (asks rules caps f NotSet (callee_of i)) set.1 in
    let bounds = neither (leaves rules caps f (touches_of i)) (asks rules caps f OutOfRegion (callee_of i)) c.1.0 in
    let read_only = neither (stores_read_only f (touches_of i)) (asks rules caps f ReadOnly (callee_of i)) c.1.1.0 in
    let parts = neither (loads_pointer rules caps f (touches_of i)) (asks rules caps f HasPointer (callee_of i)) c.1.1.1.1.1.1.1.0 in
    record {
      backward = a.0;
      target = a.1.0;
      falls = a.1.1.0;
      local = a.1.1.1.0;
      unset = set.0;
      loads_set = later.0;
      asks_set = later.1;
      r10 = b.1.0;
      computed = b.1.1.0;
      compared = b.1.1.1.0;
      stored = c.0;
      bounds = bounds.0;
      asks_bounds = bounds.1;
      read_only = read_only.0;
      asks_read_only = read_only.1;
      unknown = c.1.1.1.0;
      kinds = c.1.1.1.1.0;
      writes = c.1.1.1.1.1.0;
      returns = c.1.1.1.1.1.1.0;
      parts = parts.0;
      asks_parts = parts.1;
    }
