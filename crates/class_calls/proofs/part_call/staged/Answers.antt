use Rattle.std.proofs.Common.{◌≡◌, ◌∙◌, ℕ, List, Option, Some, None, ap, sym, subst}
use Rattle.std.specs.Option.{option_copied}
use Rattle.part_bytes.specs.Part.{PlainPart}
use Rattle.part_bytes.specs.View.{part_view}
use Rattle.std.specs.Prelude.{IfSome, IsTrue}
use Rattle.part_names.specs.Order.{is_held}
use Rattle.parts.specs.Agreed.{AgreesPart, HasAllNames, KnowsPart}
use Rattle.parts.specs.Known.{KnownObject}
use Rattle.class_calls.specs.Parts.{HasCounted}
use Rattle.class_calls.proofs.Counted.{not_both}
use Rattle.class_calls.proofs.part_call.staged.Goals as goal

pub returns-then-not-has_counted-clause-refused : goal.returns-then-not-has_counted-clause-refused
returns-then-not-has_counted-clause-refused c = λ p s.
    let found = c.in-Ok.ensures.found in
    let q : PlainPart = part_view c.in-Ok.part in
    let same : p ≡ q = c.one_part.ensures p q s.spelled.part found.part (s.spelled.spelled ∙ sym found.spelled) in
    let is : q ≡ part_view (option_copied c.as_ref.result) = ap part_view (sym c.as_ref.ensures.value) in
    let counted : HasCounted c.args.limits (part_view (option_copied c.as_ref.result)) = subst (λ (r : PlainPart). HasCounted c.args.limits r) (same ∙ is) s.counted in
    not_both c.has_counted.result (c.has_counted.ensures.1 counted) c.if-not-has_counted.true

if_counted : (count : Option ℕ) (P Q : Type 0) → (P → Q) → IfSome count (λ _. P) → IfSome count (λ _. Q)
if_counted None P Q f h = tt
if_counted (Some n) P Q f h = f h

pub returns-in-Ok-of-clause-found : goal.returns-in-Ok-of-clause-found
returns-in-Ok-of-clause-found c =
    let found = c.in-Ok.ensures.found in
    let k : KnownObject = c.in-Ok-of.known in
    let q : PlainPart = part_view c.in-Ok.part in
    let p : PlainPart = part_view (option_copied c.as_ref-2.result) in
    let asked : q ≡ part_view (option_copied c.as_ref.result) = ap part_view (sym c.as_ref.ensures.value) in
    let given : q ≡ p = ap part_view (sym c.as_ref-2.ensures.value) in
    let counted : HasCounted c.args.limits q = subst (HasCounted c.args.limits) (sym asked) (c.has_counted.ensures.0 c.if-not-has_counted.false) in
    let whole : HasCounted c.args.limits p = subst (HasCounted c.args.limits) given counted in
    let some = c.some_object.ensures in
    record {
      plain = q;
      spelled = record { spelled = found; counted = counted };
      says = record {
        agree = λ o. (
          λ a. c.in-Ok-of.ensures.stands o (subst (λ (r : PlainPart). AgreesPart r o) given a),
          λ s. subst (λ (r : PlainPart). AgreesPart r o) (sym given) (c.in-Ok-of.ensures.agrees o s),
        );
        knows = subst (λ (r : PlainPart). KnowsPart r k) (sym given) c.in-Ok-of.ensures.known;
      };
      counted = record {
        xattrs = if_counted c.args.limits.xattrs.count (HasAllNames (λ d. d.xattrs) p) ((name : List ℕ) → IsTrue (is_held k.xattrs.intervals name)) c.in-Ok-of.ensures.whole_xattrs whole.xattrs;
        keys = if_counted c.args.limits.keys.count (HasAllNames (λ d. d.keys) p) ((name : List ℕ) → IsTrue (is_held k.keys.intervals name)) c.in-Ok-of.ensures.whole_keys whole.keys;
      };
      list = c.in-Ok-of.ensures.list;
      some = (some.0, record { stands = some.2; formed = some.1 });
    }
