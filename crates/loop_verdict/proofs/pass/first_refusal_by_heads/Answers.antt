use Rattle.std.proofs.Common.{◌≡◌, ℕ, zero, suc, refl, inl, sym, subst}
use Rattle.std.specs.Prelude.{replicate}
use Rattle.std.proofs.lemmas.Result.{IfOk-weaker}
use Rattle.bpf_decode.specs.declared.rule_set.RuleSet.TheVariants.{Three}
use Rattle.bpf_machine.specs.declared.caps.Caps.{Caps}
use Rattle.abstract_regs.specs.Link.{no_link, link_in, NameBelow}
use Rattle.abstract_regs.specs.Moves.{NamesBelow}
use Rattle.verifier.specs.Frame.{entry}
use Rattle.loop_tables.proofs.Frames.{TableLaws, are_code_frames}
use Rattle.loop_verdict.specs.inner.Pass.{FitsIf}
use Rattle.loop_verdict.proofs.pass.first_refusal_by_heads.Goals as goal

free_at : (n place : ℕ) → link_in (replicate n no_link) place ≡ no_link
free_at zero place = refl
free_at (suc n) zero = refl
free_at (suc n) (suc place) = free_at n place

-- the frame that a method begins with has no links
unnamed : (caps : Caps) (n : ℕ) → NamesBelow n (entry Three caps)
unnamed caps n place = subst (NameBelow n) (sym (free_at 75 place)) (inl refl)

pub returns-clause-sound : goal.returns-clause-sound
returns-clause-sound c =
    let caps = c.args.caps.now in
    let heads = c.args.heads.now in
    let code = c.args.code.now in
    let laws : TableLaws = record {
      slots = c.slots_stay.ensures.flows;
      joined_slots = c.slots_stay.ensures.joins;
      links = c.links_stay.ensures.flows;
      joined_links = c.links_stay.ensures.joins;
      names = c.links_stay.ensures.flow_names;
      joined_names = c.links_stay.ensures.join_names;
      heads = c.loop_laws.ensures.heads;
    } in
    IfOk-weaker c.run.result _ _ (λ r fits none. are_code_frames caps heads code c.requires.begins laws (unnamed caps) (λ p i f at is. subst FitsIf is (fits none p i at))) c.run.ensures.fits
