use Rattle.std.proofs.Common.{◌++◌, take, ap, ◌∙◌, append_assoc, arith}
use Rattle.std.proofs.lemmas.List.{take-append-drop}
use Rattle.object_store.specs.declared.extent.TheConstants.{EXTENT_LIMIT}
use Rattle.object_store.specs.Extents.{flat}
use Rattle.object_store.proofs.Packs.{full-packed}
use Rattle.object_store.proofs.extents.push_cut.Goals as goal

pub loop-rest-preserved : goal.loop-rest-preserved
loop-rest-preserved c =
    let l = flat c.loop-rest.parts.items in
    let r = c.split_at.result.1.now in
    record {
      bytes =
          ap (λ b. b ++ r) c.in_ok-push_copy.ensures.bytes
          ∙ append_assoc l c.split_at.result.0.now r
          ∙ ap (λ b. l ++ b) (ap (λ b. b ++ r) c.split_at.ensures.front ∙ ap (λ b. take EXTENT_LIMIT c.loop-rest.rest.now ++ b) c.split_at.ensures.back ∙ take-append-drop 4096 c.loop-rest.rest.now)
          ∙ c.loop-rest.invariant.bytes;
      full = c.in_ok-push_copy.ensures.full c.split_at.ensures.front_len;
      left = omega (arith, c.split_at.ensures.back_len, c.loop-rest.invariant.left);
    }

pub returns-then-is_empty-clause-packed : goal.returns-then-is_empty-clause-packed
returns-then-is_empty-clause-packed c = full-packed c.loop-rest.parts.items c.loop-rest.invariant.full
