use Rattle.std.proofs.Common.{◌∙◌, ℕ, List, [], ◌∷◌, ap, refl, sym, subst, unwrap_or, slice_index}
use Rattle.txn.specs.Edits as edit
use Rattle.txn.specs.Edits.{created, creating, write_edits}
use Rattle.helpers.specs.Effect.{gives}
use Rattle.helpers.specs.Table.{stat_answer, getxattr_answer, map_get_answer, map_next_answer, xattr_next_answer, compare_answer, copy_answer, write_effect, truncate_effect, remove_effect, create_effect, setxattr_effect, rmxattr_effect, map_set_effect, map_rm_effect}
use Rattle.helpers.specs.declared.helper.Helper.{Helper}
use Rattle.helpers.specs.declared.helper.Helper.TheVariants.{Stat, Read, Write, Truncate, Remove, GetXattr, SetXattr, RmXattr, MapGet, MapSet, MapRm, MapNext, OutLen, Create, Caller, Compare, Copy, XattrNext}
use Rattle.helpers.specs.View.{bytes_in, filled}
use Rattle.std.specs.Prelude.{Ok, IfOk, OnOk}
use Rattle.part_names.specs.Changes.{has_room, with_entry, without_entry}
use Rattle.parts.specs.Grows.{Learns, no_position, as_before, past_cut}
use Rattle.parts.specs.Needs.{AreRead, IsLookedUp, IsReached, NeedsBlocks, NeedsXattr, NeedsKey, NeedsKeyFrom, NeedsXattrFrom}
use Rattle.interp.specs.inner.Asked.{span_at}
use Rattle.part_calls.specs.inner.PartRun.{PartAnswers, asked_of}
use Rattle.part_calls.proofs.PartHelped.{as_it_was, changes, copied_known, fills, finds, goes_on, lacks, learned_by, looks, misses, reads, stays, still, wants}
use Rattle.part_calls.proofs.ask.answer_part.Goals as goal

pub returns-in-GetXattr-clause-done : goal.returns-in-GetXattr-clause-done
returns-in-GetXattr-clause-done c =
    looks c.args.helper c.args.run.now c.args.memory.now GetXattr c.in-GetXattr.is tt tt (λ t n o. getxattr_answer c.args.run.now.limits o t n) (λ o. refl) refl c.span-first.result c.span-second.result c.span-first.ensures c.span-second.ensures c.bytes_in-in-GetXattr.result.now c.bytes_in-in-GetXattr.ensures
    c.xattr_value.result c.xattr_value.ensures.found c.copy_found.new.memory c.copy_found.result c.copy_found.ensures

pub returns-in-GetXattr-clause-stopped : goal.returns-in-GetXattr-clause-stopped
returns-in-GetXattr-clause-stopped c =
    lacks c.args.helper c.args.run.now.part (λ h. asked_of h c.args.run.now c.args.memory.now) GetXattr c.in-GetXattr.is c.copy_found.result (NeedsXattr c.args.run.now.limits c.args.run.now.part c.bytes_in-in-GetXattr.result.now)
    (λ need p. subst (λ (t : List ℕ). NeedsXattr c.args.run.now.limits c.args.run.now.part t need) (c.bytes_in-in-GetXattr.ensures ∙ ap (bytes_in c.args.memory.now) c.span-first.ensures) p)
    c.xattr_value.result c.xattr_value.ensures.needed c.args.memory.now c.copy_found.new.memory c.span-second.result c.copy_found.ensures

pub returns-in-MapGet-clause-done : goal.returns-in-MapGet-clause-done
returns-in-MapGet-clause-done c =
    looks c.args.helper c.args.run.now c.args.memory.now MapGet c.in-MapGet.is tt tt (λ t n o. map_get_answer c.args.run.now.limits o t n) (λ o. refl) refl c.span-first.result c.span-second.result c.span-first.ensures c.span-second.ensures c.bytes_in-in-MapGet.result.now c.bytes_in-in-MapGet.ensures
    c.map_value.result c.map_value.ensures.found c.copy_found-in-MapGet.new.memory c.copy_found-in-MapGet.result c.copy_found-in-MapGet.ensures

pub returns-in-MapGet-clause-stopped : goal.returns-in-MapGet-clause-stopped
returns-in-MapGet-clause-stopped c =
    lacks c.args.helper c.args.run.now.part (λ h. asked_of h c.args.run.now c.args.memory.now) MapGet c.in-MapGet.is c.copy_found-in-MapGet.result (NeedsKey c.args.run.now.limits c.args.run.now.part c.bytes_in-in-MapGet.result.now)
    (λ need p. subst (λ (t : List ℕ). NeedsKey c.args.run.now.limits c.args.run.now.part t need) (c.bytes_in-in-MapGet.ensures ∙ ap (bytes_in c.args.memory.now) c.span-first.ensures) p)
    c.map_value.result c.map_value.ensures.needed c.args.memory.now c.copy_found-in-MapGet.new.memory c.span-second.result c.copy_found-in-MapGet.ensures

pub returns-in-MapNext-clause-done : goal.returns-in-MapNext-clause-done
returns-in-MapNext-clause-done c =
    looks c.args.helper c.args.run.now c.args.memory.now MapNext c.in-MapNext.is tt tt (λ t n o. map_next_answer c.args.run.now.limits o t n) (λ o. refl) refl c.span-first.result c.span-second.result c.span-first.ensures c.span-second.ensures c.bytes_in-in-MapNext.result.now c.bytes_in-in-MapNext.ensures
    c.key_above.result c.key_above.ensures.found c.copy_found-in-MapNext.new.memory c.copy_found-in-MapNext.result c.copy_found-in-MapNext.ensures

pub returns-in-MapNext-clause-stopped : goal.returns-in-MapNext-clause-stopped
returns-in-MapNext-clause-stopped c =
    lacks c.args.helper c.args.run.now.part (λ h. asked_of h c.args.run.now c.args.memory.now) MapNext c.in-MapNext.is c.copy_found-in-MapNext.result (NeedsKeyFrom c.args.run.now.limits c.args.run.now.part c.bytes_in-in-MapNext.result.now)
    (λ need p. subst (λ (t : List ℕ). NeedsKeyFrom c.args.run.now.limits c.args.run.now.part t need) (c.bytes_in-in-MapNext.ensures ∙ ap (bytes_in c.args.memory.now) c.span-first.ensures) p)
    c.key_above.result c.key_above.ensures.needed c.args.memory.now c.copy_found-in-MapNext.new.memory c.span-second.result c.copy_found-in-MapNext.ensures

pub returns-in-XattrNext-clause-done : goal.returns-in-XattrNext-clause-done
returns-in-XattrNext-clause-done c =
    looks c.args.helper c.args.run.now c.args.memory.now XattrNext c.in-XattrNext.is tt tt (λ t n o. xattr_next_answer c.args.run.now.limits o t n) (λ o. refl) refl c.span-first.result c.span-second.result c.span-first.ensures c.span-second.ensures c.bytes_in-in-XattrNext.result.now c.bytes_in-in-XattrNext.ensures
    c.xattr_above.result c.xattr_above.ensures.found c.copy_found-in-XattrNext.new.memory c.copy_found-in-XattrNext.result c.copy_found-in-XattrNext.ensures

pub returns-in-XattrNext-clause-stopped : goal.returns-in-XattrNext-clause-stopped
returns-in-XattrNext-clause-stopped c =
    lacks c.args.helper c.args.run.now.part (λ h. asked_of h c.args.run.now c.args.memory.now) XattrNext c.in-XattrNext.is c.copy_found-in-XattrNext.result (NeedsXattrFrom c.args.run.now.limits c.args.run.now.part c.bytes_in-in-XattrNext.result.now)
    (λ need p. subst (λ (t : List ℕ). NeedsXattrFrom c.args.run.now.limits c.args.run.now.part t need) (c.bytes_in-in-XattrNext.ensures ∙ ap (bytes_in c.args.memory.now) c.span-first.ensures) p)
    c.xattr_above.result c.xattr_above.ensures.needed c.args.memory.now c.copy_found-in-XattrNext.new.memory c.span-second.result c.copy_found-in-XattrNext.ensures

pub returns-in-SetXattr-clause-done : goal.returns-in-SetXattr-clause-done
returns-in-SetXattr-clause-done c =
    let l = c.args.run.now.limits in
    let m = c.args.memory.now in
    changes c.args.helper c.args.run.now c.args.memory.now SetXattr c.in-SetXattr.is tt c.set_xattr.new.self (λ o. setxattr_effect l o c.bytes_in-in-SetXattr.result.now c.bytes_in-in-SetXattr-2.result.now) (λ o. creating o (edit.SetXattr c.bytes_in-in-SetXattr.result.now c.bytes_in-in-SetXattr-2.result.now)) c.set_xattr.result
    (λ o. ap (λ b. setxattr_effect l o b c.bytes_in-in-SetXattr-2.result.now) (c.bytes_in-in-SetXattr.ensures ∙ ap (bytes_in c.args.memory.now) c.span-first.ensures) ∙ ap (setxattr_effect l o (bytes_in m (span_at c.args.run.now.registers 1))) (c.bytes_in-in-SetXattr-2.ensures ∙ ap (bytes_in c.args.memory.now) c.span-second.ensures))
    (λ o. ap (λ b. creating o (edit.SetXattr b c.bytes_in-in-SetXattr-2.result.now)) (c.bytes_in-in-SetXattr.ensures ∙ ap (bytes_in c.args.memory.now) c.span-first.ensures) ∙ ap (λ b. creating o (edit.SetXattr (bytes_in m (span_at c.args.run.now.registers 1)) b)) (c.bytes_in-in-SetXattr-2.ensures ∙ ap (bytes_in c.args.memory.now) c.span-second.ensures))
    (λ o. refl) c.set_xattr.ensures.done

pub returns-in-SetXattr-clause-stopped : goal.returns-in-SetXattr-clause-stopped
returns-in-SetXattr-clause-stopped c =
    fills c.args.helper c.args.run.now.part (λ h. asked_of h c.args.run.now c.args.memory.now) SetXattr c.in-SetXattr.is c.set_xattr.result c.args.run.now.part.xattrs c.bytes_in-in-SetXattr.result.now
    (λ full. ap (has_room c.args.run.now.part.xattrs) (sym (c.bytes_in-in-SetXattr.ensures ∙ ap (bytes_in c.args.memory.now) c.span-first.ensures)) ∙ full) c.set_xattr.ensures.stopped

pub returns-in-MapSet-clause-done : goal.returns-in-MapSet-clause-done
returns-in-MapSet-clause-done c =
    let l = c.args.run.now.limits in
    let m = c.args.memory.now in
    changes c.args.helper c.args.run.now c.args.memory.now MapSet c.in-MapSet.is tt c.set_key.new.self (λ o. map_set_effect l o c.bytes_in-in-MapSet.result.now c.bytes_in-in-MapSet-2.result.now) (λ o. creating o (edit.SetKey c.bytes_in-in-MapSet.result.now c.bytes_in-in-MapSet-2.result.now)) c.set_key.result
    (λ o. ap (λ b. map_set_effect l o b c.bytes_in-in-MapSet-2.result.now) (c.bytes_in-in-MapSet.ensures ∙ ap (bytes_in c.args.memory.now) c.span-first.ensures) ∙ ap (map_set_effect l o (bytes_in m (span_at c.args.run.now.registers 1))) (c.bytes_in-in-MapSet-2.ensures ∙ ap (bytes_in c.args.memory.now) c.span-second.ensures))
    (λ o. ap (λ b. creating o (edit.SetKey b c.bytes_in-in-MapSet-2.result.now)) (c.bytes_in-in-MapSet.ensures ∙ ap (bytes_in c.args.memory.now) c.span-first.ensures) ∙ ap (λ b. creating o (edit.SetKey (bytes_in m (span_at c.args.run.now.registers 1)) b)) (c.bytes_in-in-MapSet-2.ensures ∙ ap (bytes_in c.args.memory.now) c.span-second.ensures))
    (λ o. refl) c.set_key.ensures.done

pub returns-in-MapSet-clause-stopped : goal.returns-in-MapSet-clause-stopped
returns-in-MapSet-clause-stopped c =
    fills c.args.helper c.args.run.now.part (λ h. asked_of h c.args.run.now c.args.memory.now) MapSet c.in-MapSet.is c.set_key.result c.args.run.now.part.keys c.bytes_in-in-MapSet.result.now
    (λ full. ap (has_room c.args.run.now.part.keys) (sym (c.bytes_in-in-MapSet.ensures ∙ ap (bytes_in c.args.memory.now) c.span-first.ensures)) ∙ full) c.set_key.ensures.stopped

pub returns-in-RmXattr-clause-done : goal.returns-in-RmXattr-clause-done
returns-in-RmXattr-clause-done c =
    changes c.args.helper c.args.run.now c.args.memory.now RmXattr c.in-RmXattr.is tt c.remove_xattr.new.self (λ o. rmxattr_effect c.args.run.now.limits o c.bytes_in-in-RmXattr.result.now) (λ o. edit.RemoveXattr c.bytes_in-in-RmXattr.result.now ∷ []) c.remove_xattr.result
    (λ o. ap (rmxattr_effect c.args.run.now.limits o) (c.bytes_in-in-RmXattr.ensures ∙ ap (bytes_in c.args.memory.now) c.span-first.ensures))
    (λ o. ap (λ b. edit.RemoveXattr b ∷ []) (c.bytes_in-in-RmXattr.ensures ∙ ap (bytes_in c.args.memory.now) c.span-first.ensures))
    (λ o. refl) c.remove_xattr.ensures.done

pub returns-in-RmXattr-clause-stopped : goal.returns-in-RmXattr-clause-stopped
returns-in-RmXattr-clause-stopped c =
    misses c.args.helper c.args.run.now.part (λ h. asked_of h c.args.run.now c.args.memory.now) RmXattr c.in-RmXattr.is c.remove_xattr.result (NeedsXattr c.args.run.now.limits c.args.run.now.part c.bytes_in-in-RmXattr.result.now)
    (λ need p. subst (λ (t : List ℕ). NeedsXattr c.args.run.now.limits c.args.run.now.part t need) (c.bytes_in-in-RmXattr.ensures ∙ ap (bytes_in c.args.memory.now) c.span-first.ensures) p) c.remove_xattr.ensures.stopped

pub returns-in-MapRm-clause-done : goal.returns-in-MapRm-clause-done
returns-in-MapRm-clause-done c =
    changes c.args.helper c.args.run.now c.args.memory.now MapRm c.in-MapRm.is tt c.remove_key.new.self (λ o. map_rm_effect c.args.run.now.limits o c.bytes_in-in-MapRm.result.now) (λ o. edit.RemoveKey c.bytes_in-in-MapRm.result.now ∷ []) c.remove_key.result
    (λ o. ap (map_rm_effect c.args.run.now.limits o) (c.bytes_in-in-MapRm.ensures ∙ ap (bytes_in c.args.memory.now) c.span-first.ensures))
    (λ o. ap (λ b. edit.RemoveKey b ∷ []) (c.bytes_in-in-MapRm.ensures ∙ ap (bytes_in c.args.memory.now) c.span-first.ensures))
    (λ o. refl) c.remove_key.ensures.done

pub returns-in-MapRm-clause-stopped : goal.returns-in-MapRm-clause-stopped
returns-in-MapRm-clause-stopped c =
    misses c.args.helper c.args.run.now.part (λ h. asked_of h c.args.run.now c.args.memory.now) MapRm c.in-MapRm.is c.remove_key.result (NeedsKey c.args.run.now.limits c.args.run.now.part c.bytes_in-in-MapRm.result.now)
    (λ need p. subst (λ (t : List ℕ). NeedsKey c.args.run.now.limits c.args.run.now.part t need) (c.bytes_in-in-MapRm.ensures ∙ ap (bytes_in c.args.memory.now) c.span-first.ensures) p) c.remove_key.ensures.stopped

pub returns-in-Remove-clause-done : goal.returns-in-Remove-clause-done
returns-in-Remove-clause-done c =
    let l = c.args.run.now.limits in
    let m = c.args.memory.now in
    let r = c.args.run.now.registers in
    changes c.args.helper c.args.run.now c.args.memory.now Remove c.in-Remove.is tt c.remove.new.self (λ o. remove_effect o) (λ o. edit.Remove ∷ []) c.remove.result
    (λ o. refl) (λ o. refl) (λ o. refl) c.remove.ensures.done

pub returns-in-Remove-clause-stopped : goal.returns-in-Remove-clause-stopped
returns-in-Remove-clause-stopped c = wants c.args.helper c.args.run.now.part (λ h. asked_of h c.args.run.now c.args.memory.now) Remove c.in-Remove.is c.remove.result c.remove.ensures.stopped

pub returns-in-Create-clause-done : goal.returns-in-Create-clause-done
returns-in-Create-clause-done c =
    let l = c.args.run.now.limits in
    let m = c.args.memory.now in
    let r = c.args.run.now.registers in
    changes c.args.helper c.args.run.now c.args.memory.now Create c.in-Create.is tt c.create.new.self (λ o. create_effect o c.number-number.result) (λ o. created o) c.create.result
    (λ o. ap (create_effect o) c.number-number.ensures) (λ o. refl) (λ o. refl) c.create.ensures.done

pub returns-in-Create-clause-stopped : goal.returns-in-Create-clause-stopped
returns-in-Create-clause-stopped c = wants c.args.helper c.args.run.now.part (λ h. asked_of h c.args.run.now c.args.memory.now) Create c.in-Create.is c.create.result c.create.ensures.stopped

pub returns-in-Truncate-clause-done : goal.returns-in-Truncate-clause-done
returns-in-Truncate-clause-done c =
    let l = c.args.run.now.limits in
    let m = c.args.memory.now in
    let r = c.args.run.now.registers in
    changes c.args.helper c.args.run.now c.args.memory.now Truncate c.in-Truncate.is tt c.truncate.new.self (λ o. truncate_effect l o c.number-number.result) (λ o. edit.SetLength c.number-number.result ∷ []) c.truncate.result
    (λ o. ap (truncate_effect l o) c.number-number.ensures) (λ o. ap (λ n. edit.SetLength n ∷ []) c.number-number.ensures) (λ o. refl) c.truncate.ensures.done

pub returns-in-Truncate-clause-stopped : goal.returns-in-Truncate-clause-stopped
returns-in-Truncate-clause-stopped c = wants c.args.helper c.args.run.now.part (λ h. asked_of h c.args.run.now c.args.memory.now) Truncate c.in-Truncate.is c.truncate.result c.truncate.ensures.stopped

pub returns-in-Write-clause-done : goal.returns-in-Write-clause-done
returns-in-Write-clause-done c =
    let l = c.args.run.now.limits in
    let m = c.args.memory.now in
    let r = c.args.run.now.registers in
    changes c.args.helper c.args.run.now c.args.memory.now Write c.in-Write.is tt c.write.new.self (λ o. write_effect l o c.number-number.result c.bytes_in.result.now) (λ o. write_edits o c.number-number.result c.bytes_in.result.now) c.write.result
    (λ o. ap (λ n. write_effect l o n c.bytes_in.result.now) c.number-number.ensures ∙ ap (write_effect l o (slice_index r 1)) (c.bytes_in.ensures ∙ ap (bytes_in m) c.span-behind.ensures)) (λ o. ap (λ n. write_edits o n c.bytes_in.result.now) c.number-number.ensures ∙ ap (write_edits o (slice_index r 1)) (c.bytes_in.ensures ∙ ap (bytes_in m) c.span-behind.ensures)) (λ o. refl) c.write.ensures.done

pub returns-in-Write-clause-stopped : goal.returns-in-Write-clause-stopped
returns-in-Write-clause-stopped c = wants c.args.helper c.args.run.now.part (λ h. asked_of h c.args.run.now c.args.memory.now) Write c.in-Write.is c.write.result c.write.ensures.stopped

pub returns-in-Stat-clause-done : goal.returns-in-Stat-clause-done
returns-in-Stat-clause-done c =
    finds c.args.helper c.args.run.now c.args.memory.now Stat c.in-Stat.is tt tt (λ o. stat_answer o) (λ o. refl) c.args.memory.now c.stat.result c.stat.ensures (λ o stands. refl)

pub returns-in-Caller-clause-done : goal.returns-in-Caller-clause-done
returns-in-Caller-clause-done c =
    finds c.args.helper c.args.run.now c.args.memory.now Caller c.in-Caller.is tt tt (λ o. gives c.args.run.now.caller) (λ o. refl) c.args.memory.now c.caller.result (λ o stands. c.caller.ensures) (λ o stands. refl)

pub returns-in-Compare-clause-done : goal.returns-in-Compare-clause-done
returns-in-Compare-clause-done c =
    let m = c.args.memory.now in
    let same = ap (λ s. compare_answer (bytes_in m s) (bytes_in m c.span-second.result)) c.span-first.ensures ∙ ap (λ s. compare_answer (bytes_in m (span_at c.args.run.now.registers 1)) (bytes_in m s)) c.span-second.ensures in
    finds c.args.helper c.args.run.now c.args.memory.now Compare c.in-Compare.is tt tt (λ o. compare_answer (bytes_in m (span_at c.args.run.now.registers 1)) (bytes_in m (span_at c.args.run.now.registers 3))) (λ o. refl) m c.compare.result (λ o stands. c.compare.ensures ∙ ap (λ a. a.number) same) (λ o stands. refl)

pub returns-in-Copy-clause-done : goal.returns-in-Copy-clause-done
returns-in-Copy-clause-done c =
    let m = c.args.memory.now in
    let to = span_at c.args.run.now.registers 1 in
    let same = ap (λ s. copy_answer (bytes_in m s) c.span-first.result.len) c.span-second.ensures ∙ ap (λ s. copy_answer (bytes_in m (span_at c.args.run.now.registers 3)) s.len) c.span-first.ensures in
    let ans = copy_answer (bytes_in m (span_at c.args.run.now.registers 3)) to.len in
    finds c.args.helper c.args.run.now c.args.memory.now Copy c.in-Copy.is tt tt (λ o. ans) (λ o. refl) c.copy.new.memory c.copy.result (λ o stands. c.copy.ensures.answer ∙ ap (λ a. a.number) same)
    (λ o stands. c.copy.ensures.bytes ∙ ap (λ a. filled m c.span-first.result a.bytes) same ∙ ap (λ s. filled m s ans.bytes) c.span-first.ensures)

pub returns-in-OutLen-clause-done : goal.returns-in-OutLen-clause-done
returns-in-OutLen-clause-done c =
    subst (λ (h : Helper). PartAnswers h c.args.run.now c.args.memory.now c.args.memory.now c.args.run.now.part c.out_len.new.output_len c.out_len.result) (sym c.in-OutLen.is)
    (record {
      answer = λ o stands. c.out_len.ensures.answer;
      memory = λ o stands. refl;
      object = λ o stands. stands;
      list = λ o stands. still c.args.helper c.args.run.now c.args.memory.now OutLen c.in-OutLen.is tt o;
      out_len = λ o stands. ap (λ o. unwrap_or o 0) c.out_len.ensures.length ∙ c.number-number.ensures;
      counted = λ all. all;
    })

pub returns-in-Read-clause-done : goal.returns-in-Read-clause-done
returns-in-Read-clause-done c = reads c.args.helper c.args.run.now c.args.memory.now c.in-Read.is c.number-number.result c.number-number.ensures c.span-behind.result c.span-behind.ensures c.read_part.new.memory c.read_part.result c.read_part.ensures.answer c.read_part.ensures.bytes

pub returns-in-Read-clause-stopped : goal.returns-in-Read-clause-stopped
returns-in-Read-clause-stopped c =
    misses c.args.helper c.args.run.now.part (λ h. asked_of h c.args.run.now c.args.memory.now) Read c.in-Read.is c.read_part.result (NeedsBlocks c.args.run.now.part c.number-number.result c.span-behind.result.len)
    (λ need p. subst (λ (n : ℕ). NeedsBlocks c.args.run.now.part (slice_index c.args.run.now.registers 1) n need) (ap (λ s. s.len) c.span-behind.ensures) (subst (λ (n : ℕ). NeedsBlocks c.args.run.now.part n c.span-behind.result.len need) c.number-number.ensures p)) c.read_part.ensures.stopped

pub returns-in-Stat-clause-learns : goal.returns-in-Stat-clause-learns
returns-in-Stat-clause-learns c =
    stays c.args.helper c.args.run.now.part (λ h. asked_of h c.args.run.now c.args.memory.now) Stat c.in-Stat.is (as_it_was c.args.run.now.part) (Ok c.stat.result) tt

pub returns-in-Caller-clause-learns : goal.returns-in-Caller-clause-learns
returns-in-Caller-clause-learns c =
    stays c.args.helper c.args.run.now.part (λ h. asked_of h c.args.run.now c.args.memory.now) Caller c.in-Caller.is (as_it_was c.args.run.now.part) (Ok c.caller.result) tt

pub returns-in-Compare-clause-learns : goal.returns-in-Compare-clause-learns
returns-in-Compare-clause-learns c =
    stays c.args.helper c.args.run.now.part (λ h. asked_of h c.args.run.now c.args.memory.now) Compare c.in-Compare.is (as_it_was c.args.run.now.part) (Ok c.compare.result) tt

pub returns-in-Copy-clause-learns : goal.returns-in-Copy-clause-learns
returns-in-Copy-clause-learns c =
    stays c.args.helper c.args.run.now.part (λ h. asked_of h c.args.run.now c.args.memory.now) Copy c.in-Copy.is (as_it_was c.args.run.now.part) (Ok c.copy.result) tt

pub returns-in-OutLen-clause-learns : goal.returns-in-OutLen-clause-learns
returns-in-OutLen-clause-learns c =
    stays c.args.helper c.args.run.now.part (λ h. asked_of h c.args.run.now c.args.memory.now) OutLen c.in-OutLen.is (as_it_was c.args.run.now.part) (Ok c.out_len.result) tt

pub returns-in-GetXattr-clause-learns : goal.returns-in-GetXattr-clause-learns
returns-in-GetXattr-clause-learns c =
    let known = copied_known (IsLookedUp c.args.run.now.part.present c.args.run.now.limits.xattrs.length c.args.run.now.part.xattrs c.bytes_in-in-GetXattr.result.now) c.xattr_value.result c.copy_found.result c.args.memory.now c.copy_found.new.memory c.span-second.result c.xattr_value.ensures.known c.copy_found.ensures in
    stays c.args.helper c.args.run.now.part (λ h. asked_of h c.args.run.now c.args.memory.now) GetXattr c.in-GetXattr.is (as_it_was c.args.run.now.part) c.copy_found.result
    (subst (λ (t : List ℕ). OnOk c.copy_found.result (IsLookedUp c.args.run.now.part.present c.args.run.now.limits.xattrs.length c.args.run.now.part.xattrs t)) (c.bytes_in-in-GetXattr.ensures ∙ ap (bytes_in c.args.memory.now) c.span-first.ensures) known)

pub returns-in-MapGet-clause-learns : goal.returns-in-MapGet-clause-learns
returns-in-MapGet-clause-learns c =
    let known = copied_known (IsLookedUp c.args.run.now.part.present c.args.run.now.limits.keys.length c.args.run.now.part.keys c.bytes_in-in-MapGet.result.now) c.map_value.result c.copy_found-in-MapGet.result c.args.memory.now c.copy_found-in-MapGet.new.memory c.span-second.result c.map_value.ensures.known c.copy_found-in-MapGet.ensures in
    stays c.args.helper c.args.run.now.part (λ h. asked_of h c.args.run.now c.args.memory.now) MapGet c.in-MapGet.is (as_it_was c.args.run.now.part) c.copy_found-in-MapGet.result
    (subst (λ (t : List ℕ). OnOk c.copy_found-in-MapGet.result (IsLookedUp c.args.run.now.part.present c.args.run.now.limits.keys.length c.args.run.now.part.keys t)) (c.bytes_in-in-MapGet.ensures ∙ ap (bytes_in c.args.memory.now) c.span-first.ensures) known)

pub returns-in-MapNext-clause-learns : goal.returns-in-MapNext-clause-learns
returns-in-MapNext-clause-learns c =
    let known = copied_known (IsReached c.args.run.now.part.present c.args.run.now.limits.keys.length c.args.run.now.part.keys c.bytes_in-in-MapNext.result.now) c.key_above.result c.copy_found-in-MapNext.result c.args.memory.now c.copy_found-in-MapNext.new.memory c.span-second.result c.key_above.ensures.known c.copy_found-in-MapNext.ensures in
    stays c.args.helper c.args.run.now.part (λ h. asked_of h c.args.run.now c.args.memory.now) MapNext c.in-MapNext.is (as_it_was c.args.run.now.part) c.copy_found-in-MapNext.result
    (subst (λ (t : List ℕ). OnOk c.copy_found-in-MapNext.result (IsReached c.args.run.now.part.present c.args.run.now.limits.keys.length c.args.run.now.part.keys t)) (c.bytes_in-in-MapNext.ensures ∙ ap (bytes_in c.args.memory.now) c.span-first.ensures) known)

pub returns-in-XattrNext-clause-learns : goal.returns-in-XattrNext-clause-learns
returns-in-XattrNext-clause-learns c =
    let known = copied_known (IsReached c.args.run.now.part.present c.args.run.now.limits.xattrs.length c.args.run.now.part.xattrs c.bytes_in-in-XattrNext.result.now) c.xattr_above.result c.copy_found-in-XattrNext.result c.args.memory.now c.copy_found-in-XattrNext.new.memory c.span-second.result c.xattr_above.ensures.known c.copy_found-in-XattrNext.ensures in
    stays c.args.helper c.args.run.now.part (λ h. asked_of h c.args.run.now c.args.memory.now) XattrNext c.in-XattrNext.is (as_it_was c.args.run.now.part) c.copy_found-in-XattrNext.result
    (subst (λ (t : List ℕ). OnOk c.copy_found-in-XattrNext.result (IsReached c.args.run.now.part.present c.args.run.now.limits.xattrs.length c.args.run.now.part.xattrs t)) (c.bytes_in-in-XattrNext.ensures ∙ ap (bytes_in c.args.memory.now) c.span-first.ensures) known)

pub returns-in-Read-clause-learns : goal.returns-in-Read-clause-learns
returns-in-Read-clause-learns c =
    stays c.args.helper c.args.run.now.part (λ h. asked_of h c.args.run.now c.args.memory.now) Read c.in-Read.is (as_it_was c.args.run.now.part) c.read_part.result
    (subst (λ (n : ℕ). OnOk c.read_part.result (AreRead c.args.run.now.part (slice_index c.args.run.now.registers 1) n)) (ap (λ s. s.len) c.span-behind.ensures) (subst (λ (n : ℕ). OnOk c.read_part.result (AreRead c.args.run.now.part n c.span-behind.result.len)) c.number-number.ensures c.read_part.ensures.known))

pub returns-in-Write-clause-learns : goal.returns-in-Write-clause-learns
returns-in-Write-clause-learns c =
    goes_on c.args.helper c.args.run.now.part (λ h. asked_of h c.args.run.now c.args.memory.now) Write c.in-Write.is tt c.write.new.self c.write.result c.write.ensures.learns

pub returns-in-Remove-clause-learns : goal.returns-in-Remove-clause-learns
returns-in-Remove-clause-learns c =
    goes_on c.args.helper c.args.run.now.part (λ h. asked_of h c.args.run.now c.args.memory.now) Remove c.in-Remove.is tt c.remove.new.self c.remove.result c.remove.ensures.learns

pub returns-in-Create-clause-learns : goal.returns-in-Create-clause-learns
returns-in-Create-clause-learns c =
    goes_on c.args.helper c.args.run.now.part (λ h. asked_of h c.args.run.now c.args.memory.now) Create c.in-Create.is tt c.create.new.self c.create.result c.create.ensures.learns

pub returns-in-Truncate-clause-learns : goal.returns-in-Truncate-clause-learns
returns-in-Truncate-clause-learns c =
    goes_on c.args.helper c.args.run.now.part (λ h. asked_of h c.args.run.now c.args.memory.now) Truncate c.in-Truncate.is tt c.truncate.new.self c.truncate.result
    (subst (λ (n : ℕ). IfOk c.truncate.result (Learns (past_cut c.args.run.now.part.bytes n) as_before as_before c.args.run.now.part c.truncate.new.self)) c.number-number.ensures c.truncate.ensures.learns)

pub returns-in-SetXattr-clause-learns : goal.returns-in-SetXattr-clause-learns
returns-in-SetXattr-clause-learns c =
    goes_on c.args.helper c.args.run.now.part (λ h. asked_of h c.args.run.now c.args.memory.now) SetXattr c.in-SetXattr.is tt c.set_xattr.new.self c.set_xattr.result
    (subst (λ (t : List ℕ). IfOk c.set_xattr.result (Learns no_position (λ n. with_entry n (bytes_in c.args.memory.now (span_at c.args.run.now.registers 1)) t) as_before c.args.run.now.part c.set_xattr.new.self)) (c.bytes_in-in-SetXattr-2.ensures ∙ ap (bytes_in c.args.memory.now) c.span-second.ensures)
    (subst (λ (t : List ℕ). IfOk c.set_xattr.result (Learns no_position (λ n. with_entry n t c.bytes_in-in-SetXattr-2.result.now) as_before c.args.run.now.part c.set_xattr.new.self)) (c.bytes_in-in-SetXattr.ensures ∙ ap (bytes_in c.args.memory.now) c.span-first.ensures) c.set_xattr.ensures.learns))

pub returns-in-MapSet-clause-learns : goal.returns-in-MapSet-clause-learns
returns-in-MapSet-clause-learns c =
    goes_on c.args.helper c.args.run.now.part (λ h. asked_of h c.args.run.now c.args.memory.now) MapSet c.in-MapSet.is tt c.set_key.new.self c.set_key.result
    (subst (λ (t : List ℕ). IfOk c.set_key.result (Learns no_position as_before (λ n. with_entry n (bytes_in c.args.memory.now (span_at c.args.run.now.registers 1)) t) c.args.run.now.part c.set_key.new.self)) (c.bytes_in-in-MapSet-2.ensures ∙ ap (bytes_in c.args.memory.now) c.span-second.ensures)
    (subst (λ (t : List ℕ). IfOk c.set_key.result (Learns no_position as_before (λ n. with_entry n t c.bytes_in-in-MapSet-2.result.now) c.args.run.now.part c.set_key.new.self)) (c.bytes_in-in-MapSet.ensures ∙ ap (bytes_in c.args.memory.now) c.span-first.ensures) c.set_key.ensures.learns))

pub returns-in-RmXattr-clause-learns : goal.returns-in-RmXattr-clause-learns
returns-in-RmXattr-clause-learns c =
    learned_by c.args.helper c.args.run.now.part (λ h. asked_of h c.args.run.now c.args.memory.now) RmXattr c.in-RmXattr.is c.remove_xattr.new.self c.remove_xattr.result
    (subst (λ (t : List ℕ). OnOk c.remove_xattr.result (IsLookedUp c.args.run.now.part.present c.args.run.now.limits.xattrs.length c.args.run.now.part.xattrs t)) (c.bytes_in-in-RmXattr.ensures ∙ ap (bytes_in c.args.memory.now) c.span-first.ensures) c.remove_xattr.ensures.known)
    (subst (λ (t : List ℕ). IfOk c.remove_xattr.result (Learns no_position (λ n. without_entry n t) as_before c.args.run.now.part c.remove_xattr.new.self)) (c.bytes_in-in-RmXattr.ensures ∙ ap (bytes_in c.args.memory.now) c.span-first.ensures) c.remove_xattr.ensures.learns)

pub returns-in-MapRm-clause-learns : goal.returns-in-MapRm-clause-learns
returns-in-MapRm-clause-learns c =
    learned_by c.args.helper c.args.run.now.part (λ h. asked_of h c.args.run.now c.args.memory.now) MapRm c.in-MapRm.is c.remove_key.new.self c.remove_key.result
    (subst (λ (t : List ℕ). OnOk c.remove_key.result (IsLookedUp c.args.run.now.part.present c.args.run.now.limits.keys.length c.args.run.now.part.keys t)) (c.bytes_in-in-MapRm.ensures ∙ ap (bytes_in c.args.memory.now) c.span-first.ensures) c.remove_key.ensures.known)
    (subst (λ (t : List ℕ). IfOk c.remove_key.result (Learns no_position as_before (λ n. without_entry n t) c.args.run.now.part c.remove_key.new.self)) (c.bytes_in-in-MapRm.ensures ∙ ap (bytes_in c.args.memory.now) c.span-first.ensures) c.remove_key.ensures.learns)
