-- The text of a class with loops is read as that class and those loops.
use Rattle.std.proofs.Common.{◌≡◌, ℕ, ◌&&◌, ◌+◌, ◌≤◌, Bool, true, false, List, [], ◌∷◌, nat_le, Option, Some, None, Ok, refl, ap, ◌∙◌, arith, codes, cond}
use Rattle.std.specs.List.{AllByRecursion}
use Rattle.std.proofs.lemmas.Bool.{and_parts}
use Rattle.std.proofs.lemmas.Bool.Decides.{nat_tests}
use Rattle.bpf_decode.specs.declared.insn.Insn.{Insn}
use Rattle.bpf_decode.specs.declared.rule_set.RuleSet.{RuleSet}
use Rattle.bpf_decode.specs.declared.rule_set.RuleSet.TheVariants.{One, Two, Three}
use Rattle.bpf_decode.specs.Class.{ClassMethod, Class, IsClass, AreWithinSet}
use Rattle.asm_lines.specs.declared.statement.Statement.{Statement}
use Rattle.asm_lines.specs.Texts.{content}
use Rattle.loop_heads.specs.declared.place.PlaceKind.{PlaceKind}
use Rattle.loop_heads.specs.declared.place.PlaceKind.TheVariants.{Unset, Any, Unsigned, Signed, Input, Output, Stack}
use Rattle.loop_heads.specs.declared.place.HeadPlace.{HeadPlace}
use Rattle.loop_heads.specs.declared.loops_error.LoopsError.{LoopsError}
use Rattle.loop_heads.specs.declared.loops_error.LoopsError.TheVariants.{Head}
use Rattle.loop_heads.specs.Loops as heads
use Rattle.loop_heads.specs.Loops.{PlainHead, PlainLoops, IsLoops, are_places, heads_refusal}
use Rattle.loop_heads.proofs.Heads.{loops_right}
use Rattle.loop_lines.specs.HeadText.{HasBits}
use Rattle.loop_bytes.specs.HeadBytes.{KindFits, HeadFits, StartAt, AreLoopsOf}
use Rattle.loop_asm.specs.Canonical.{Written, alone, with_slot}
use Rattle.loop_asm.proofs.Looped.{looped_text}
use Rattle.bpf_asm.specs.Laws.{HaveNoLoops}
use Rattle.loop_asm.proofs.Given.{starts, AreLoops}
use Rattle.loop_asm.specs.Reading.{is_of_three, says_three, looped, loops_from, read_looped_text}
use Rattle.loop_asm.proofs.Written.{IsWritten, is_alone, is_with_slot}
use Rattle.loop_asm.proofs.SaidLines.{plain_three}
use Rattle.loop_asm.proofs.Contents.{HavePlaces, MayBeLoops, class_lines, three_contents}
use Rattle.loop_asm.proofs.HeadLines.{starts_at, RiseFrom, Stand}
use Rattle.loop_asm.proofs.HeadReads.{AreOf}
use Rattle.loop_asm.proofs.PlainTexts.{one_alone, one_slots, two_alone, two_slots}
use Rattle.loop_asm.proofs.ClassReads.{AreOfEach, may_be_loops, loops_read, three_lines, three_class, class_read}

-- ---- loops that a method may declare

bits : (k : PlaceKind) → KindFits k → HasBits k
bits Unset h = tt
bits Any h = tt
bits (Unsigned a b) h = h
bits (Signed a b) h = h
bits (Input a b) h = h
bits (Output a b) h = h
bits (Stack a b) h = h

all_bits : (ps : List HeadPlace) → AllByRecursion (λ p. KindFits p.kind) ps → AllByRecursion (λ p. HasBits p.kind) ps
all_bits [] h = tt
all_bits (p ∷ ps) h = (bits p.kind h.0, all_bits ps h.1)

-- where no head is refused, the test of the first held
passed : (b : Bool) (o : Option LoopsError) (e : LoopsError) → cond b o (Some e) ≡ None → (b ≡ true) × (o ≡ None)
passed true o e h = (refl, h)
passed false o e h = cc

record Risen (least : ℕ) (hs : List PlainHead) : Type 0 where
  rise : RiseFrom least hs
  places : HavePlaces hs

risen : (least : ℕ) (hs : List PlainHead) → heads_refusal least hs ≡ None → AllByRecursion HeadFits hs → Risen least hs
risen least [] e f = record { rise = tt; places = tt }
risen least (h ∷ hs) e f =
    let a = passed (nat_le least h.slot && heads.is_head h) (heads_refusal (h.slot + 1) hs) (Head h.slot) e in
    let b = and_parts (nat_le least h.slot) (heads.is_head h) a.0 in
    let low = b.0 in
    let from : least ≤ h.slot = grind (arith, nat_tests) in
    let more = risen (h.slot + 1) hs a.1 f.1 in
    record { rise = (from, more.rise); places = (record { places = b.1; bits = all_bits h.places f.0.bounds }, more.places) }

stand : (is : List Insn) (hs : List PlainHead) → AllByRecursion (λ h. StartAt (starts is) h.slot) hs → Stand 0 is hs
stand is [] s = tt
stand is (h ∷ hs) s = (starts_at (starts is) h.slot s.0, stand is hs s.1)

are_of : (is : List Insn) (o : Option PlainLoops) → AreLoopsOf (starts is) o → AreOf is o
are_of is None a = tt
are_of is (Some l) a =
    let r = risen 0 l.heads ((loops_right l.budget l.heads a.0.some a.0.few a.0.paid a.0.bounded).1 a.0) a.2 in
    (a.0.paid, a.0.bounded, a.0.some, a.0.few, record { rise = r.rise; stand = stand is l.heads a.1; places = r.places })

of_each : (ms : List ClassMethod) (ls : List (Option PlainLoops)) → AreLoops Three ms ls → AreOfEach ms ls
of_each [] [] a = tt
of_each [] (l ∷ ls) a = a
of_each (m ∷ ms) [] a = a
of_each (m ∷ ms) (l ∷ ls) a = (are_of m.instructions l a.0, of_each ms ls a.1)

may_be_each : (ms : List ClassMethod) (ls : List (Option PlainLoops)) → AreOfEach ms ls → AllByRecursion MayBeLoops ls
may_be_each [] [] a = tt
may_be_each [] (l ∷ ls) a = absurd a
may_be_each (m ∷ ms) [] a = absurd a
may_be_each (m ∷ ms) (l ∷ ls) a = (may_be_loops m.instructions l a.0, may_be_each ms ls a.1)

-- ---- rule set 3

first_line : (rest : List (List ℕ)) → loops_from [] 1 (content (codes ".rules 3") ∷ rest) ≡ loops_from [] 2 rest
unfolding loops_from
first_line rest = rw (plain_three.method, plain_three.no_loops) refl

of_three : (rest : List (List ℕ)) → is_of_three (content (codes ".rules 3") ∷ rest) ≡ true
of_three rest = ap (λ (s : Statement). says_three s (is_of_three rest)) plain_three.own

both_read : (ms : List ClassMethod) (ls : List (Option PlainLoops)) → IsClass ms → AreWithinSet Three ms → HaveNoLoops ms → AreOfEach ms ls → looped (three_lines ms ls) ≡ Ok (three_class ms, ls)
both_read ms ls c w n a =
    rw (of_three (class_lines ms ls), class_read ms ls c w n a, first_line (class_lines ms ls), loops_read ms ls c.methods a [] 2) refl

read_three : (write : Written) → IsWritten write → (ms : List ClassMethod) (ls : List (Option PlainLoops)) → IsClass ms → AreWithinSet Three ms → HaveNoLoops ms → AreLoops Three ms ls → read_looped_text (looped_text write (three_class ms) ls) ≡ Ok (three_class ms, ls)
unfolding read_looped_text
read_three write w ms ls c within n a =
    let each = of_each ms ls a in
    ap looped (three_contents write w ms ls c.methods (may_be_each ms ls each)) ∙ both_read ms ls c within n each

-- ---- the law

-- a class of a rule set
abbrev class_of : RuleSet → List ClassMethod → Class
class_of rules ms = record { rules = rules; methods = ms }

alone_by : (rules : RuleSet) (ms : List ClassMethod) (ls : List (Option PlainLoops)) → IsClass ms → AreWithinSet rules ms → HaveNoLoops ms → AreLoops rules ms ls → read_looped_text (looped_text alone (class_of rules ms) ls) ≡ Ok (class_of rules ms, ls)
alone_by One ms ls c w n a = one_alone ms ls c w n a
alone_by Two ms ls c w n a = two_alone ms ls c w n a
alone_by Three ms ls c w n a = read_three alone is_alone ms ls c w n a

slots_by : (rules : RuleSet) (ms : List ClassMethod) (ls : List (Option PlainLoops)) → IsClass ms → AreWithinSet rules ms → HaveNoLoops ms → AreLoops rules ms ls → read_looped_text (looped_text with_slot (class_of rules ms) ls) ≡ Ok (class_of rules ms, ls)
slots_by One ms ls c w n a = one_slots ms ls c w n a
slots_by Two ms ls c w n a = two_slots ms ls c w n a
slots_by Three ms ls c w n a = read_three with_slot is_with_slot ms ls c w n a

-- the text of a class and its loops gives both back
pub gives_back : (c : Class) (ls : List (Option PlainLoops)) → IsClass c.methods → AreWithinSet c.rules c.methods → HaveNoLoops c.methods → AreLoops c.rules c.methods ls → read_looped_text (looped_text alone c ls) ≡ Ok (c, ls)
gives_back c ls h w n a = alone_by c.rules c.methods ls h w n a

pub gives_back_with_slots : (c : Class) (ls : List (Option PlainLoops)) → IsClass c.methods → AreWithinSet c.rules c.methods → HaveNoLoops c.methods → AreLoops c.rules c.methods ls → read_looped_text (looped_text with_slot c ls) ≡ Ok (c, ls)
gives_back_with_slots c ls h w n a = slots_by c.rules c.methods ls h w n a
