-- The lines of a text with loops, by their contents.
use Rattle.std.proofs.Common.{◌≡◌, ℕ, ◌==◌, ◌+◌, ◌≤◌, not, Bool, true, false, List, [], ◌∷◌, ◌++◌, cond, map, Option, Some, None, refl, sym, ap, ◌∙◌, arith, codes, append_assoc}
use Rattle.std.specs.List.{list_all, AllByRecursion}
use Rattle.bpf_decode.specs.declared.insn.Insn.{Insn}
use Rattle.bpf_decode.specs.declared.limits.TheConstants.{SLOT_LIMIT}
use Rattle.bpf_decode.specs.declared.rule_set.RuleSet.TheVariants.{Three}
use Rattle.bpf_decode.specs.Instruction.{AllFit, slot_total, slot_count}
use Rattle.bpf_decode.specs.Class.{ClassMethod, IsMethod}
use Rattle.asm_lines.specs.Texts.{trim_start, trim_end, trim, content}
use Rattle.asm_lines.specs.Statements.{lines_of}
use Rattle.asm_lines.specs.Canonical.{line_of, directive_line}
use Rattle.bpf_asm.proofs.PlainBytes.{is_quiet, Free, free_where, quiet_feed}
use Rattle.bpf_asm.proofs.CutRelations.{free_not}
use Rattle.bpf_asm.proofs.BodyTexts.{split_line}
use Rattle.bpf_asm.proofs.ClassTexts.{directive_quiet, rules_quiet}
use Rattle.loop_heads.specs.declared.place.HeadPlace.{HeadPlace}
use Rattle.loop_heads.specs.declared.limits.TheConstants.{BUDGET_LIMIT}
use Rattle.loop_heads.specs.Loops.{PlainHead, PlainLoops, head_at}
use Rattle.loop_lines.specs.HeadText.{ArePlaces, head_line, budget_line}
use Rattle.loop_lines.proofs.RoundTrip.{budget_content, head_content}
use Rattle.loop_asm.specs.Canonical.{Written, head_text, code_text, looped_code}
use Rattle.loop_asm.proofs.Looped.{looped_methods}
use Rattle.loop_asm.proofs.Written.{IsWritten}

-- ---- one line

-- what stands on each line of a text
abbrev pub contents : List ℕ → List (List ℕ)
contents text = map content (lines_of text)

pub one_content : (line rest : List ℕ) → Free (λ c. c == 10) line → contents (line ++ (10 ∷ rest)) ≡ content line ∷ contents rest
one_content line rest f = ap (map content) (split_line line rest f)

pub no_content : contents [] ≡ [] ∷ []
unfolding content trim trim_start trim_end
no_content = refl

-- the same of a line with its end, above others
pub line_content : (line rest : List ℕ) → Free (λ c. c == 10) line → contents ((line ++ codes "\n") ++ rest) ≡ content line ∷ contents rest
line_content line rest f = ap contents (append_assoc line (codes "\n") rest) ∙ one_content line rest f

own_content : (line rest : List ℕ) → (content line ≡ line) × (list_all (λ c. not (c == 10)) line ≡ true) → contents (line ++ (10 ∷ rest)) ≡ line ∷ contents rest
own_content line rest h = one_content line rest (free_not (λ c. c == 10) line h.1) ∙ ap (λ (t : List ℕ). t ∷ contents rest) h.0

-- ---- instructions and heads

abbrev pub head_lines : Option (List HeadPlace) → List (List ℕ)
head_lines None = []
head_lines (Some places) = head_line places ∷ []

-- the lines of instructions, the first of them at that slot
abbrev pub coded : List PlainHead → ℕ → List Insn → List (List ℕ)
coded heads slot [] = []
coded heads slot (i ∷ is) = head_lines (head_at heads slot) ++ (content (line_of i) ∷ coded heads (slot + slot_count i) is)

-- places that may be written, of each head
abbrev pub HavePlaces : List PlainHead → Type 0
HavePlaces hs = AllByRecursion (λ h. ArePlaces h.places) hs

abbrev pub MayBePlaces : Option (List HeadPlace) → Type 0
MayBePlaces None = Unit {0}
MayBePlaces (Some ps) = ArePlaces ps

places_by : (b : Bool) (ps : List HeadPlace) (o : Option (List HeadPlace)) → ArePlaces ps → MayBePlaces o → MayBePlaces (cond b (Some ps) o)
places_by true ps o h k = h
places_by false ps o h k = k

pub places_at : (hs : List PlainHead) (slot : ℕ) → HavePlaces hs → MayBePlaces (head_at hs slot)
places_at [] slot h = tt
places_at (x ∷ xs) slot h = places_by (x.slot == slot) x.places (head_at xs slot) h.0 (places_at xs slot h.1)

head_contents : (o : Option (List HeadPlace)) (rest : List ℕ) → MayBePlaces o → contents (head_text o ++ rest) ≡ head_lines o ++ contents rest
head_contents None rest h = refl
head_contents (Some ps) rest h = ap contents (append_assoc (head_line ps) (codes "\n") rest) ∙ own_content (head_line ps) rest (head_content ps h)

pub code_contents : (write : Written) → IsWritten write → (hs : List PlainHead) → HavePlaces hs → (slot : ℕ) (is : List Insn) (rest : List ℕ) → AllFit is → slot + slot_total is ≤ SLOT_LIMIT
    → contents (code_text write hs slot is ++ rest) ≡ coded hs slot is ++ contents rest
code_contents write w hs h slot [] rest fit few = refl
code_contents write w hs h slot (i ∷ is) rest fit few =
    let o = head_at hs slot in
    let tail = code_text write hs (slot + slot_count i) is in
    let lines = coded hs (slot + slot_count i) is in
    ap contents (append_assoc (head_text o) (write slot i ++ (codes "\n" ++ tail)) rest)
    ∙ head_contents o ((write slot i ++ (codes "\n" ++ tail)) ++ rest) (places_at hs slot h)
    ∙ ap (λ (r : List (List ℕ)). head_lines o ++ r)
    (ap contents (append_assoc (write slot i) (codes "\n" ++ tail) rest)
    ∙ one_content (write slot i) (tail ++ rest) (w.free slot i fit.0 (omega arith))
    ∙ ap (λ (t : List ℕ). t ∷ contents (tail ++ rest)) (w.same slot i fit.0)
    ∙ ap (λ (r : List (List ℕ)). content (line_of i) ∷ r) (code_contents write w hs h (slot + slot_count i) is rest fit.1 (omega arith)))
    ∙ sym (append_assoc (head_lines o) (content (line_of i) ∷ lines) (contents rest))

-- ---- methods

-- the lines of a method below its first
abbrev pub code_lines : Option PlainLoops → List Insn → List (List ℕ)
code_lines None is = coded [] 0 is
code_lines (Some l) is = budget_line l.budget ∷ coded l.heads 0 is

-- loops that may be written
abbrev pub MayBeLoops : Option PlainLoops → Type 0
MayBeLoops None = Unit {0}
MayBeLoops (Some l) = (1 ≤ l.budget) × (l.budget ≤ BUDGET_LIMIT) × HavePlaces l.heads

looped_contents : (write : Written) → IsWritten write → (o : Option PlainLoops) → MayBeLoops o → (is : List Insn) (rest : List ℕ) → AllFit is → slot_total is ≤ SLOT_LIMIT
    → contents (looped_code write o is ++ rest) ≡ code_lines o is ++ contents rest
looped_contents write w None h is rest fit few = code_contents write w [] tt 0 is rest fit (omega arith)
looped_contents write w (Some l) h is rest fit few =
    let code = code_text write l.heads 0 is in
    ap contents (append_assoc (budget_line l.budget) (codes "\n" ++ code) rest)
    ∙ own_content (budget_line l.budget) (code ++ rest) (budget_content l.budget h.1)
    ∙ ap (λ (r : List (List ℕ)). budget_line l.budget ∷ r) (code_contents write w l.heads h.2 0 is rest fit (omega arith))

-- the lines of methods, and the empty one after the last line feed
abbrev pub class_lines : List ClassMethod → List (Option PlainLoops) → List (List ℕ)
class_lines [] ls = [] ∷ []
class_lines (m ∷ ms) [] = content (directive_line m) ∷ (code_lines None m.instructions ++ class_lines ms [])
class_lines (m ∷ ms) (l ∷ ls) = content (directive_line m) ∷ (code_lines l m.instructions ++ class_lines ms ls)

method_contents : (write : Written) → IsWritten write → (m : ClassMethod) → IsMethod m → (o : Option PlainLoops) → MayBeLoops o → (rest : List ℕ)
    → contents ((directive_line m ++ (codes "\n" ++ looped_code write o m.instructions)) ++ rest) ≡ content (directive_line m) ∷ (code_lines o m.instructions ++ contents rest)
method_contents write w m h o p rest =
    let code = looped_code write o m.instructions in
    ap contents (append_assoc (directive_line m) (codes "\n" ++ code) rest)
    ∙ one_content (directive_line m) (code ++ rest) (free_where (λ c. c == 10) is_quiet quiet_feed (directive_line m) (directive_quiet m h))
    ∙ ap (λ (r : List (List ℕ)). content (directive_line m) ∷ r) (looped_contents write w o p m.instructions rest h.fit h.slots)

pub methods_contents : (write : Written) → IsWritten write → (ms : List ClassMethod) (ls : List (Option PlainLoops)) → AllByRecursion IsMethod ms → AllByRecursion MayBeLoops ls
    → contents (looped_methods write ms ls) ≡ class_lines ms ls
methods_contents write w [] ls h p = no_content
methods_contents write w (m ∷ ms) [] h p =
    method_contents write w m h.0 None tt (looped_methods write ms [])
    ∙ ap (λ (r : List (List ℕ)). content (directive_line m) ∷ (code_lines None m.instructions ++ r)) (methods_contents write w ms [] h.1 tt)
methods_contents write w (m ∷ ms) (l ∷ ls) h p =
    method_contents write w m h.0 l p.0 (looped_methods write ms ls)
    ∙ ap (λ (r : List (List ℕ)). content (directive_line m) ∷ (code_lines l m.instructions ++ r)) (methods_contents write w ms ls h.1 p.1)

-- the text of a class of set 3
pub three_contents : (write : Written) → IsWritten write → (ms : List ClassMethod) (ls : List (Option PlainLoops)) → AllByRecursion IsMethod ms → AllByRecursion MayBeLoops ls
    → contents (codes ".rules 3\n" ++ looped_methods write ms ls) ≡ content (codes ".rules 3") ∷ class_lines ms ls
three_contents write w ms ls h p =
    line_content (codes ".rules 3") (looped_methods write ms ls) (free_where (λ c. c == 10) is_quiet quiet_feed (codes ".rules 3") (rules_quiet Three))
    ∙ ap (λ (r : List (List ℕ)). content (codes ".rules 3") ∷ r) (methods_contents write w ms ls h p)
