use Rattle.std.proofs.Common.{◌≡◌, ◌-◌, ◌*◌, ◌++◌, ◌≤◌, length, replicate, ap, ◌∙◌, arith}
use Rattle.object_store.specs.declared.extent.TheConstants.{EXTENT_LIMIT}
use Rattle.object_store.specs.Extents.{flat}
use Rattle.object_store.specs.Object.{resized}
use Rattle.object_store.proofs.Flats.{length_resized, resized_twice}
use Rattle.object_store.proofs.Packs.{enough, few, filled-full}
use Rattle.object_store.proofs.extents.with_len.Goals as goal
use Rattle.object_store.proofs.extents.with_len.Goals.{then-near-new_len+in_ok-push_zeros, else-near-new_len}

pub overflow_mul-parts : goal.overflow_mul-parts
overflow_mul-parts c = omega (arith, few c.args.parts.now c.requires.packed, c.requires.len)

pub push_zeros-requires-clause-full : goal.push_zeros-requires-clause-full
push_zeros-requires-clause-full c =
    let xs = c.args.parts.now in
    let near : c.min-near.result ≡ length xs * EXTENT_LIMIT = omega (arith, c.min-near.ensures, c.if-near-new_len.true) in
    filled-full c.in_ok-all.all.items (length xs) c.in_ok-all.ensures.packed
    (ap length c.in_ok-all.ensures.bytes ∙ length_resized (flat xs) c.min-near.result ∙ near)

pub returns-clause-bytes : goal.returns-clause-bytes
returns-clause-bytes c =
    let s = flat c.args.parts.now in
    let near = c.min-near.result in
    let len = c.args.new_len in
    elim c.if-near-new_len.branch [
      | then-near-new_len+in_ok-push_zeros w ↦
          let low : length s ≤ near = omega (arith, enough c.args.parts.now c.requires.packed, c.min-near.ensures, w.if-near-new_len.true) in
          let made : c.if-near-new_len.all.items ≡ w.push_zeros.new.parts.items = cc in
          ap flat made
          ∙ w.in_ok-push_zeros.ensures.bytes
          ∙ ap (λ l. l ++ replicate (len - near) 0) c.in_ok-all.ensures.bytes
          ∙ resized_twice s near len low (omega (arith, w.if-near-new_len.true))
      | else-near-new_len w ↦
          let same : near ≡ len = omega (arith, c.min-near.ensures, w.if-near-new_len.false) in
          let made : c.if-near-new_len.all.items ≡ c.in_ok-all.all.items = cc in
          ap flat made ∙ c.in_ok-all.ensures.bytes ∙ ap (resized s) same
    ]
