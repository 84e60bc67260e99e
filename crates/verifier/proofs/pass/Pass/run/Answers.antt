use Rattle.std.proofs.Common.{◌≡◌, ◌+◌, ◌<◌, Some, None, refl, ap, ◌∙◌, sym, subst, arith, length}
use Rattle.std.specs.Prelude.{slice_get}
use Rattle.std.proofs.lemmas.Option.{none-some, slice_get_read, slice_get_within}
use Rattle.verifier.specs.inner.Pass.{IsSound}
use Rattle.bpf_machine.specs.State.{◌>>=◌}
use Rattle.verifier.proofs.Runs.{inner}
use Rattle.verifier.proofs.Tables.{Brought, refused_at, refused_over, brought_first, brought_more, brought_over, its_frame, sound_more, sound_over}
use Rattle.verifier.proofs.pass.Pass.run.Goals.{in-Some+in_ok-rule+in_default-2, in_default}
use Rattle.verifier.proofs.pass.Pass.run.Goals as goal

pub loop-slot-init : goal.loop-slot-init
loop-slot-init c = record {
  rest = refl;
  sound = λ p i lt. absurd (omega arith);
  brought = brought_first c.args.rules c.args.caps.now c.args.code.now c.args.self.now c.requires.kept c.requires.current c.requires.landing;
}

pub returns-in-Some-2 : goal.returns-in-Some-2
returns-in-Some-2 c =
    let caps = c.args.caps.now in
    let code = c.args.code.now in
    let slot = c.loop-slot.slot in
    let pass = c.loop-slot.self in
    let lt : slot < length code = omega arith in
    let at : slice_get code slot ≡ Some (Some c.in-Some.insn) = slice_get_read code (length code) slot _ refl lt c.index-code-slot.is ∙ ap Some c.in-Some.is in
    let rule = sym c.in_ok-rule.ensures.rule ∙ c.in-Some-2.is in
    let its = its_frame c.args.rules caps code slot pass lt c.loop-slot.invariant.brought in
    let stopped = c.in_ok-rule.ensures.stopped in
    record {
      stopped = (rw c.in-Some-2.is at stopped) ∙ its;
      verdict = sym (refused_at c.args.rules caps code slot c.in-Some.insn pass (Some c.in-Some-2.rule) lt at c.loop-slot.invariant.brought rule) ∙ c.loop-slot.invariant.rest;
      sound = λ none. absurd (none-some _ (sym none));
    }

pub loop-slot-preserved : goal.loop-slot-preserved
loop-slot-preserved c = elim c.match-begun.branch [
  | in-Some+in_ok-rule+in_default-2 w ↦
      let caps = c.args.caps.now in
      let code = c.args.code.now in
      let slot = c.loop-slot.slot in
      let pass = c.loop-slot.self in
      let lt : slot < length code = omega arith in
      let at : slice_get code slot ≡ Some (Some w.in-Some.insn) = slice_get_read code (length code) slot _ refl lt c.index-code-slot.is ∙ ap Some w.in-Some.is in
      let rule = sym w.in_ok-rule.ensures.rule ∙ w.in_default-2.is in
      let fetched = ap (λ o. o >>= λ i. i) at in
      let left = w.in_ok-rule.ensures.left w.in_default-2.is in
      let its = its_frame c.args.rules caps code slot pass lt c.loop-slot.invariant.brought in
      let sound = subst (IsSound c.args.rules w.in-Some.insn slot) its (w.in_ok-rule.ensures.sound w.in_default-2.is) in
      record {
        sound = sound_more c.args.rules caps code slot w.in-Some.insn c.loop-slot.invariant.sound fetched sound;
        rest = sym (refused_at c.args.rules caps code slot w.in-Some.insn pass None lt at c.loop-slot.invariant.brought rule) ∙ c.loop-slot.invariant.rest;
        brought = subst (Brought c.args.rules caps code (slot + 1)) (sym w.self-is) (brought_more c.args.rules caps code slot w.in-Some.insn pass _ c.requires.spaced lt fetched rule left c.loop-slot.invariant.brought);
      }
  | in_default w ↦
      let caps = c.args.caps.now in
      let code = c.args.code.now in
      let slot = c.loop-slot.slot in
      let pass = c.loop-slot.self in
      let lt : slot < length code = omega arith in
      let at : slice_get code slot ≡ Some None = slice_get_read code (length code) slot _ refl lt c.index-code-slot.is ∙ ap Some w.in_default.is in
      record {
        sound = sound_over c.args.rules caps code slot c.loop-slot.invariant.sound (ap (λ o. o >>= λ i. i) at);
        rest = sym (refused_over c.args.rules caps code slot at) ∙ c.loop-slot.invariant.rest;
        brought = subst (Brought c.args.rules caps code (slot + 1)) (sym w.self-is) (brought_over c.args.rules caps code slot pass (ap (λ o. o >>= λ i. i) at) c.loop-slot.invariant.brought);
      }
]

pub returns-clause-sound : goal.returns-clause-sound
returns-clause-sound c = λ none p i at.
    c.loop-slot.invariant.sound p i (omega (arith, slice_get_within c.args.code.now p (Some i) (inner _ _ at))) at
