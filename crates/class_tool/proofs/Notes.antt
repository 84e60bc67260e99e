-- Notes are texts, and the text of `verify --all` is that of its methods.
use Rattle.std.proofs.Common.{◌≡◌, ◌+◌, ◌≤◌, Bool, true, List, [], ◌∷◌, ◌++◌, ℕ, zero, suc, Result, Ok, Err, IfOk, String, string_bytes, refl, sym, subst, append_assoc, append-nil, arith, drop, length}
use Rattle.std.proofs.lemmas.Str.{IsUtf8-string_bytes}
use Rattle.bpf_decode.specs.Class.{ClassMethod}
use Rattle.bpf_decode.specs.declared.rule_set.RuleSet.{RuleSet}
use Rattle.verifier.specs.Verdict.{method_verdict}
use Rattle.class_tool.specs.Each.{IsEachText, IsVerdictText}
use Rattle.class_tool.specs.Note.{IsNote}

pub any_noted : {Z E : Type 0} (e : Bool) (r : Result (String Z) E) → e ≡ true → IfOk r (λ note. IsNote e (string_bytes note))
any_noted e (Ok note) asked = subst (λ (b : Bool). IsNote b (string_bytes note)) (sym asked) (IsUtf8-string_bytes note)
any_noted e (Err x) asked = tt

-- the text of the first methods, before that of the others
abbrev pub Before : Bool → RuleSet → List ClassMethod → ℕ → List ℕ → Type 0
Before e rules all number text = (rest : List ℕ) → IsEachText e rules number (drop number all) rest → IsEachText e rules 0 all (text ++ rest)

-- the text of one method more
pub one_before : (e : Bool) (rules : RuleSet) (all : List ClassMethod) (number : ℕ) (m : ClassMethod) (text line whole : List ℕ) → drop number all ≡ m ∷ drop (number + 1) all
    → Before e rules all number text → IsVerdictText e number m (method_verdict rules m) line → whole ≡ text ++ line → Before e rules all (number + 1) whole
one_before e rules all number m text line whole next before said is rest each =
    let here : IsEachText e rules number (drop number all) (line ++ rest) =
    subst (λ (ms : List ClassMethod). IsEachText e rules number ms (line ++ rest)) (sym next) (line, rest, said, each, refl) in
    subst (λ (t : List ℕ). IsEachText e rules 0 all (t ++ rest)) (sym is)
    (subst (λ (t : List ℕ). IsEachText e rules 0 all t) (sym (append_assoc text line rest)) (before (line ++ rest) here))

past : (n : ℕ) (all : List ClassMethod) → length all ≤ n → drop n all ≡ []
past zero [] h = refl
past (suc n) [] h = refl
past zero (m ∷ ms) h = absurd (omega arith)
past (suc n) (m ∷ ms) h = past n ms (omega arith)

-- the text of all
pub all_before : (e : Bool) (rules : RuleSet) (all : List ClassMethod) (number : ℕ) (text : List ℕ) → length all ≤ number → Before e rules all number text → IsEachText e rules 0 all text
all_before e rules all number text done before =
    subst (λ (t : List ℕ). IsEachText e rules 0 all t) (append-nil text)
    (before [] (subst (λ (ms : List ClassMethod). IsEachText e rules number ms []) (sym (past number all done)) refl))
