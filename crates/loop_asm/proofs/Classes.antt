-- Classes and their loops together: what is read is a class, and the text of each class is read as it.
use Rattle.std.proofs.Common.{◌≡◌, ◌∙◌, ◌++◌, ℕ, ◌≤◌, List, [], ◌∷◌, length, Option, Some, None, Result, Ok, Err, refl, sym, ap, subst, suc}
use Rattle.std.specs.List.{AllByRecursion, flat_map}
use Rattle.std.proofs.lemmas.List.Concat.{flat_map-cons}
use Rattle.bpf_decode.specs.declared.insn.Insn.{Insn}
use Rattle.bpf_decode.specs.declared.rule_set.RuleSet.{RuleSet}
use Rattle.bpf_decode.specs.declared.rule_set.RuleSet.TheVariants.{One, Two, Three}
use Rattle.bpf_decode.specs.Class as class
use Rattle.bpf_decode.specs.Class.{ClassMethod, Class, IsMethod, IsClass, NamesRise, LoopsHold, MayLoop, IsWithinSet, AreWithinSet}
use Rattle.bpf_decode.specs.declared.limits.TheConstants.{METHOD_LIMIT}
use Rattle.asm_lines.specs.declared.fault.AsmError.{AsmError}
use Rattle.asm_lines.specs.Canonical.{rules_text}
use Rattle.bpf_asm.specs.Laws.{HaveNoLoops}
use Rattle.loop_heads.specs.Loops.{PlainLoops}
use Rattle.loop_bytes.specs.HeadBytes.{AreLoopsOf}
use Rattle.loop_asm.specs.Reading.{read_looped_text}
use Rattle.loop_asm.specs.Canonical.{Written, alone, with_slot, method_text, class_text}
use Rattle.loop_asm.specs.Classes.{with_loops, attached, joined, as_class, read_class, GivesBack, OneText}
use Rattle.loop_asm.specs.Starts.{StandAt, AreAtInstructions}
use Rattle.loop_asm.proofs.Given.{same_starts, MayHave, AreLoops}
use Rattle.loop_asm.proofs.Looped.{looped_methods, looped_text}
use Rattle.loop_asm.proofs.OneText.{gives_back, gives_back_with_slots}

-- ---- what is read is a class

-- loops that are made, and whose heads stand at instructions, are a method's
loops_of : (is : List Insn) (l : Option PlainLoops) → StandAt is l → LoopsHold l → AreLoopsOf (class.starts is) l
loops_of is None stand hold = tt
loops_of is (Some l) stand hold = (hold.0, stand, hold.1)

method_with : (m : ClassMethod) (l : Option PlainLoops) → IsMethod m → AreLoopsOf (class.starts m.instructions) l → IsMethod (with_loops m l)
method_with m l h are = record {
  named = h.named;
  short = h.short;
  letters = h.letters;
  some_flag = h.some_flag;
  known_flags = h.known_flags;
  in_cap = h.in_cap;
  out_cap = h.out_cap;
  some_slot = h.some_slot;
  slots = h.slots;
  fit = h.fit;
  loops = are;
}

methods_with : (ms : List ClassMethod) (ls : List (Option PlainLoops)) → AllByRecursion IsMethod ms → AreAtInstructions ms ls → AllByRecursion LoopsHold ls → AllByRecursion IsMethod (attached ms ls)
methods_with [] ls h stand hold = tt
methods_with (m ∷ ms) [] h stand hold = absurd stand
methods_with (m ∷ ms) (l ∷ ls) h stand hold = (method_with m l h.0 (loops_of m.instructions l stand.0 hold.0), methods_with ms ls h.1 stand.1 hold.1)

same_count : (ms : List ClassMethod) (ls : List (Option PlainLoops)) → length (attached ms ls) ≡ length ms
same_count [] ls = refl
same_count (m ∷ ms) [] = ap (λ (n : ℕ). suc n) (same_count ms [])
same_count (m ∷ ms) (l ∷ ls) = ap (λ (n : ℕ). suc n) (same_count ms ls)

names_rise : (ms : List ClassMethod) (ls : List (Option PlainLoops)) → NamesRise ms → NamesRise (attached ms ls)
names_rise [] ls h = tt
names_rise (m ∷ []) [] h = tt
names_rise (m ∷ []) (l ∷ ls) h = tt
names_rise (m ∷ n ∷ ms) [] h = (h.0, names_rise (n ∷ ms) [] h.1)
names_rise (m ∷ n ∷ ms) (l ∷ []) h = (h.0, names_rise (n ∷ ms) [] h.1)
names_rise (m ∷ n ∷ ms) (l ∷ k ∷ ls) h = (h.0, names_rise (n ∷ ms) (k ∷ ls) h.1)

within_three : (ms : List ClassMethod) (ls : List (Option PlainLoops)) → AreWithinSet Three ms → AreWithinSet Three (attached ms ls)
within_three [] ls h = tt
within_three (m ∷ ms) [] h = (record { in_cap = h.0.in_cap; out_cap = h.0.out_cap; loops = tt }, within_three ms [] h.1)
within_three (m ∷ ms) (l ∷ ls) h = (record { in_cap = h.0.in_cap; out_cap = h.0.out_cap; loops = tt }, within_three ms ls h.1)

pub class_with : (ms : List ClassMethod) (ls : List (Option PlainLoops)) → IsClass ms → AreWithinSet Three ms → AreAtInstructions ms ls → AllByRecursion LoopsHold ls → IsClass (attached ms ls) × AreWithinSet Three (attached ms ls)
class_with ms ls c w stand hold = (
  record {
    some = subst (λ (n : ℕ). 1 ≤ n) (sym (same_count ms ls)) c.some;
    limit = subst (λ (n : ℕ). n ≤ METHOD_LIMIT) (sym (same_count ms ls)) c.limit;
    methods = methods_with ms ls c.methods stand hold;
    names = names_rise ms ls c.names;
  },
  within_three ms ls w,
)

-- ---- the text of a class is read as it

-- methods without their loops, and their loops
abbrev bare : List ClassMethod → List ClassMethod
bare [] = []
bare (m ∷ ms) = with_loops m None ∷ bare ms

abbrev own : List ClassMethod → List (Option PlainLoops)
own [] = []
own (m ∷ ms) = m.loops ∷ own ms

whole_again : (ms : List ClassMethod) → attached (bare ms) (own ms) ≡ ms
whole_again [] = refl
whole_again (m ∷ ms) = ap (λ (r : List ClassMethod). m ∷ r) (whole_again ms)

bare_none : (ms : List ClassMethod) → HaveNoLoops (bare ms)
bare_none [] = tt
bare_none (m ∷ ms) = (refl, bare_none ms)

bare_methods : (ms : List ClassMethod) → AllByRecursion IsMethod ms → AllByRecursion IsMethod (bare ms)
bare_methods [] h = tt
bare_methods (m ∷ ms) h = (method_with m None h.0 tt, bare_methods ms h.1)

bare_names : (ms : List ClassMethod) → NamesRise ms → NamesRise (bare ms)
bare_names [] h = tt
bare_names (m ∷ []) h = tt
bare_names (m ∷ n ∷ ms) h = (h.0, bare_names (n ∷ ms) h.1)

bare_count : (ms : List ClassMethod) → length (bare ms) ≡ length ms
bare_count [] = refl
bare_count (m ∷ ms) = ap (λ (n : ℕ). suc n) (bare_count ms)

bare_class : (ms : List ClassMethod) → IsClass ms → IsClass (bare ms)
bare_class ms c = record {
  some = subst (λ (n : ℕ). 1 ≤ n) (sym (bare_count ms)) c.some;
  limit = subst (λ (n : ℕ). n ≤ METHOD_LIMIT) (sym (bare_count ms)) c.limit;
  methods = bare_methods ms c.methods;
  names = bare_names ms c.names;
}

no_loops_may : (rules : RuleSet) → MayLoop rules None
no_loops_may One = refl
no_loops_may Two = refl
no_loops_may Three = tt

bare_within : (rules : RuleSet) (ms : List ClassMethod) → AreWithinSet rules ms → AreWithinSet rules (bare ms)
bare_within rules [] h = tt
bare_within rules (m ∷ ms) h = (record { in_cap = h.0.in_cap; out_cap = h.0.out_cap; loops = no_loops_may rules }, bare_within rules ms h.1)

own_may : (rules : RuleSet) (m : ClassMethod) → AreLoopsOf (class.starts m.instructions) m.loops → MayLoop rules m.loops → MayHave rules (with_loops m None) m.loops
own_may One m are may = may
own_may Two m are may = may
own_may Three m are may = subst (λ s. AreLoopsOf s m.loops) (same_starts m.instructions) are

own_loops : (rules : RuleSet) (ms : List ClassMethod) → AllByRecursion IsMethod ms → AreWithinSet rules ms → AreLoops rules (bare ms) (own ms)
own_loops rules [] h w = tt
own_loops rules (m ∷ ms) h w = (own_may rules m h.0.loops w.0.loops, own_loops rules ms h.1 w.1)

-- its text is that of the methods without loops, with their loops beside them
same_methods : (write : Written) (ms : List ClassMethod) → flat_map (method_text write) ms ≡ looped_methods write (bare ms) (own ms)
same_methods write [] = refl
same_methods write (m ∷ ms) = flat_map-cons (method_text write) m ms ∙ ap (λ (t : List ℕ). method_text write m ++ t) (same_methods write ms)

abbrev class_of : RuleSet → List ClassMethod → Class
class_of rules ms = record { rules = rules; methods = ms }

same_text : (write : Written) (rules : RuleSet) (ms : List ClassMethod) → class_text write (class_of rules ms) ≡ looped_text write (class_of rules (bare ms)) (own ms)
same_text write rules ms = ap (λ (t : List ℕ). rules_text rules ++ t) (same_methods write ms)

-- without loops the methods are the same
none_bare : (ms : List ClassMethod) → HaveNoLoops ms → bare ms ≡ ms
none_bare [] h = refl
none_bare (m ∷ ms) h = ap (λ (l : Option PlainLoops). with_loops m l ∷ bare ms) (sym h.0) ∙ ap (λ (r : List ClassMethod). m ∷ r) (none_bare ms h.1)

one_none : (ms : List ClassMethod) → AreWithinSet One ms → HaveNoLoops ms
one_none [] w = tt
one_none (m ∷ ms) w = (w.0.loops, one_none ms w.1)

two_none : (ms : List ClassMethod) → AreWithinSet Two ms → HaveNoLoops ms
two_none [] w = tt
two_none (m ∷ ms) w = (w.0.loops, two_none ms w.1)

abbrev read : Class → Result Class AsmError
read c = Ok c

joined_again : (rules : RuleSet) (ms : List ClassMethod) → AreWithinSet rules ms → joined rules (class_of rules (bare ms), own ms) ≡ class_of rules ms
joined_again One ms w = ap (class_of One) (none_bare ms (one_none ms w))
joined_again Two ms w = ap (class_of Two) (none_bare ms (two_none ms w))
joined_again Three ms w = ap (class_of Three) (whole_again ms)

by_looped : (write : Written) (rules : RuleSet) (ms : List ClassMethod) → AreWithinSet rules ms → read_looped_text (looped_text write (class_of rules (bare ms)) (own ms)) ≡ Ok (class_of rules (bare ms), own ms) → read_class (class_text write (class_of rules ms)) ≡ Ok (class_of rules ms)
unfolding read_class
by_looped write rules ms w e =
    ap (λ (t : List ℕ). as_class (read_looped_text t)) (same_text write rules ms) ∙ ap as_class e ∙ ap read (joined_again rules ms w)

pub text_gives_back : GivesBack alone
text_gives_back c h w =
    by_looped alone c.rules c.methods w (gives_back (class_of c.rules (bare c.methods)) (own c.methods) (bare_class c.methods h) (bare_within c.rules c.methods w) (bare_none c.methods) (own_loops c.rules c.methods h.methods w))

pub slots_give_back : GivesBack with_slot
slots_give_back c h w =
    by_looped with_slot c.rules c.methods w (gives_back_with_slots (class_of c.rules (bare c.methods)) (own c.methods) (bare_class c.methods h) (bare_within c.rules c.methods w) (bare_none c.methods) (own_loops c.rules c.methods h.methods w))

same_class : (c d : Class) → read c ≡ read d → c ≡ d
same_class c d e = cc

pub one_text : OneText
one_text c d h w k v e = same_class c d (sym (text_gives_back c h w) ∙ ap read_class e ∙ text_gives_back d k v)

-- a text that is refused is no class's
pub is_none : (r : Result Class AsmError) (e : AsmError) → r ≡ Err e → (c : Class) → r ≡ Ok c → ⊥
is_none (Ok d) e g c h = absurd cc
is_none (Err d) e g c h = absurd cc
