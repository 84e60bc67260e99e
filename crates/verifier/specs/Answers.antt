-- The number that a call leaves in register 0, by the kinds before it.
use Rattle.std.specs.Prelude.{ℕ, pos, ◌+◌, ◌^◌, ◌-ℤ◌, List, [], ◌∷◌, Option, Some, None, if◌then◌else◌, min, nat_lt}
use Rattle.std.specs.Prelude.{unwrap_or}
use Rattle.std.specs.Option.{option_map}
use Rattle.bpf_decode.specs.declared.insn.Insn.{Insn}
use Rattle.bpf_decode.specs.declared.rule_set.RuleSet.{RuleSet}
use Rattle.bpf_decode.specs.declared.rule_set.RuleSet.TheVariants.{One, Two, Three}
use Rattle.abstract_num.specs.declared.precision.Precision.{Precision}
use Rattle.abstract_num.specs.Plain.{Plain, any}
use Rattle.abstract_num.specs.Tighten.{tighten}
use Rattle.abstract_num.specs.Transfer.{signed_ranged}
use Rattle.abstract_regs.specs.Kind.{PlainKind, Unset, Num, Ptr}
use Rattle.abstract_regs.specs.Frame.{PlainFrame, kind_at}
use Rattle.helpers.specs.declared.argument.Argument.{Argument}
use Rattle.helpers.specs.declared.argument.Argument.TheVariants.{Number, OutputLength, Readable, Writable}
use Rattle.helpers.specs.declared.answer_ranges.AnswerLimit.{AnswerLimit}
use Rattle.helpers.specs.declared.answer_ranges.AnswerLimit.TheVariants as limit
use Rattle.helpers.specs.declared.answer_ranges.AnswerRange.{AnswerRange}
use Rattle.helpers.specs.Effect.{Takes}
use Rattle.helpers.specs.Table.{signature_of}
use Rattle.helpers.specs.Ranges.{answer_range_of}
use Rattle.verifier.specs.declared.facets.Callee.{Callee}
use Rattle.verifier.specs.declared.facets.Callee.TheVariants as callee
use Rattle.verifier.specs.Facets.{callee_of}
use Rattle.verifier.specs.Frame.{precision_of}
use Rattle.verifier.specs.Rules.{room_in}

-- the greatest number of a kind, if it is a number
abbrev pub greatest_of : PlainKind → Option ℕ
greatest_of Unset = None
greatest_of (Num k) = Some k.high
greatest_of (Ptr r k) = None

-- the greatest length of a range that begins at a register
abbrev pub longest : PlainFrame → Option ℕ → Option ℕ
longest f None = None
longest f (Some k) = greatest_of (kind_at f (k + 1))

-- the first register of the first range that a helper reads
abbrev pub text_in : List Argument → ℕ → Option ℕ
text_in [] k = None
text_in (Number ∷ more) k = text_in more (k + 1)
text_in (OutputLength ∷ more) k = text_in more (k + 1)
text_in (Readable ∷ more) k = Some k
text_in (Writable ∷ more) k = text_in more (k + 2)

-- the greatest answer within a limit, if the greatest lengths of the ranges are known
abbrev pub most_of : PlainFrame → List Argument → AnswerLimit → Option ℕ
most_of f arguments (limit.Number n) = Some n
most_of f arguments limit.Room = longest f (room_in arguments 1)
most_of f arguments (limit.RoomOrNumber n) = option_map (λ most. min most n) (longest f (room_in arguments 1))
most_of f arguments limit.Text = longest f (text_in arguments 1)

-- the numbers from the negative of an errno to the greatest answer; every number, if that isn't
-- known or is no signed number
abbrev pub answers_to : Precision → ℕ → Option ℕ → Plain
answers_to precision errno None = any
answers_to precision errno (Some n) =
    if nat_lt n (2 ^ 63) then unwrap_or (tighten precision (signed_ranged (pos 0 -ℤ pos errno) (pos n))) any else any

-- what a helper that takes such arguments answers in such a range
abbrev pub ranged_answer : Precision → PlainFrame → Option Takes → Option AnswerRange → Plain
ranged_answer precision f None range = any
ranged_answer precision f (Some takes) None = any
ranged_answer precision f (Some takes) (Some range) =
    answers_to precision range.errno (most_of f takes.arguments range.most)

-- in rule sets 1 and 2 every number
abbrev pub helper_answer : RuleSet → PlainFrame → ℕ → Plain
helper_answer One f helper = any
helper_answer Two f helper = any
helper_answer Three f helper = ranged_answer (precision_of Three) f (signature_of helper) (answer_range_of helper)

-- the same by the function that is called: no call and a local one say nothing
abbrev pub callee_answer : RuleSet → PlainFrame → Callee → Plain
callee_answer rules f callee.Nothing = any
callee_answer rules f (callee.Helper helper) = helper_answer rules f helper
callee_answer rules f callee.Local = any

-- the number that an instruction leaves in register 0, if it calls a helper
abbrev pub answer_of : RuleSet → PlainFrame → Insn → Plain
answer_of rules f i = callee_answer rules f (callee_of i)
