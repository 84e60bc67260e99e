use Rattle.std.proofs.Common.{◌≡◌, ◌+◌, ◌*◌, ◌%◌, ◌≤◌, ◌++◌, length, take, replicate, ap, sym, subst, ◌∙◌, append_assoc, arith}
use Rattle.std.proofs.lemmas.List.{length-replicate, take-replicate}
use Rattle.std.proofs.lemmas.Result.{on_ok_weaker}
use Rattle.object_store.specs.declared.extent.TheConstants.{EXTENT_LIMIT}
use Rattle.object_store.specs.Extents.{flat, AreFull}
use Rattle.object_store.proofs.Flats.{flat-push, zeros_more}
use Rattle.object_store.proofs.Packs.{full-push}
use Rattle.object_store.proofs.extents.push_zeros.Goals as goal

-- turned by a_hole_is_a_byte_short
pub loop-preserved : goal.loop-preserved
loop-preserved c =
    let old = flat c.reserve.new.self.items in
    let zeros = c.in_ok-share.field-0 in
    let i = c.loop.counter in
    let k = c.min.result in
    let is : zeros ≡ replicate k 0 = c.in_ok-share.ensures ∙ c.in_ok-zeros.ensures in
    let full : length zeros ≡ EXTENT_LIMIT = ap length is ∙ length-replicate k 0 ∙ omega (arith, c.min.ensures, c.loop-test.true) in
    let next : i * EXTENT_LIMIT + k ≡ (i + 1) * EXTENT_LIMIT = omega (arith, c.min.ensures, c.loop-test.true) in
    record {
      bytes =
          ap flat c.in_ok-push.ensures.items
          ∙ flat-push c.loop.parts.items zeros
          ∙ ap (λ l. flat c.loop.parts.items ++ l) is
          ∙ ap (λ l. l ++ replicate k 0) c.loop.invariant.bytes
          ∙ append_assoc old (replicate (i * EXTENT_LIMIT) 0) (replicate k 0)
          ∙ ap (λ l. old ++ l) (zeros_more (i * EXTENT_LIMIT) k ((i + 1) * EXTENT_LIMIT) next);
      full = subst AreFull (sym c.in_ok-push.ensures.items) (full-push c.loop.parts.items zeros c.loop.invariant.full full);
    }

pub returns-clause-bytes : goal.returns-clause-bytes
returns-clause-bytes c =
    let old = flat c.args.parts.now.items in
    let i = c.loop.counter in
    let k = c.min.result in
    let rest = c.args.more % EXTENT_LIMIT in
    let fits : rest ≤ k = omega (arith, c.min.ensures) in
    let all : i * EXTENT_LIMIT + rest ≡ c.args.more = omega (arith, c.loop.auto.counter-end, c.loop-test.false) in
    on_ok_weaker c.push_cut.result
    (λ is. is
    ∙ ap (λ l. flat c.loop.parts.items ++ l) (ap (take rest) (c.bytes-bytes.ensures.value ∙ c.in_ok-zeros.ensures) ∙ take-replicate rest k 0 fits)
    ∙ ap (λ l. l ++ replicate rest 0) (c.loop.invariant.bytes ∙ ap (λ l. flat l ++ replicate (i * EXTENT_LIMIT) 0) c.in_ok-reserve.ensures.items)
    ∙ append_assoc old (replicate (i * EXTENT_LIMIT) 0) (replicate rest 0)
    ∙ ap (λ l. old ++ l) (zeros_more (i * EXTENT_LIMIT) rest c.args.more all))
    c.push_cut.ensures.bytes
