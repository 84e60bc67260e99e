-- `null` writes the null address beside the handle. Such a pointer owns nothing at its address.
use mathlib.Core.Path.{refl}
use mathlib.Core.List.{[], ◌∷◌}
use base.Fml.{ftrue, fsep}
use base.Logic.{id⊢}
use types.ByLocal.{alloc_all, pass_all, free_all, look_at, get, sets}
use types.Kit.{‵, ◌⊛◌, ◌$◌, ◌∵◌, !, qed, drop, use0, use1, split, join, fjoin, suffices, done}
use types.Part.{agg}
use types.Run.{no_more, and_then, lit, returns, enter}
use denote.Exit.{yes}
use denote.RawPtr.{null_ptr}
use denote.Signature.{plain}
use denote.Steps.{nothing}
use denote.Struct.Owning.{shape, to}
use denote.Struct.Struct.{Struct}
use denote.Triple.Walked.{Stays, stay_dropped, Goes-dropped, walk_of, says, ends_at}
use Rattle.std.proofs.raw_atomic.Walks.{proved}
use Rattle.std.specs.Prelude.{None}
use Rattle.std_heap.specs.contracts.Global as Heap
use Rattle.std_heap.proofs.Handle.{heap_val, heap_Tells}
use Rattle.sillarnica.specs.contracts.pointer.ClassPointer as Pointer
use Rattle.sillarnica.specs.contracts.pointer.ClassPointer.null as f
use Rattle.sillarnica.proofs.Words.{word, word_fits, handle_fits, pointer_made}
use Rattle.sillarnica.proofs.pointer.ClassPointer.null.Statement.{statement}
use Rattle.sillarnica.proofs.pointer.ClassPointer.null.Code as code

abbrev stayed : Stays f.ended.signature.params f.ended.kept
stayed = (stay_dropped _ yes, tt)

pub null_spec : {M : Type 1} → statement M
null_spec 𝓤 𝓛 𝓜 𝓡 wired =
    let c = f.clauses 𝓛 𝓜.mem 𝓡.returns in
    proved 𝓛 f.ended stayed c 𝓜 𝓡 (Goes-dropped 𝓛 0 (plain (λ _. Heap.the_row)) yes (λ κs d w. refl), tt) f.Key.name code.function (code.unfolded 𝓤 𝓛.H 𝓜 𝓡 wired)
    (λ κs. ((λ _. heap_val ∷ []), tt)) (λ κs. (heap_Tells, tt)) (λ κs qs bounds a _ are.
    let y : (walk_of 𝓛 f.ended stayed c).Ghost = ((κs, qs, bounds, a, (heap_val ∷ [], tt)), tt) in
    let made : Pointer.the_row.Denot = record { at = null_ptr; alloc = a.0; class = None } in
    -- the handle that is passed is a fact, and is let go
    qed 𝓛 ((‵ ftrue ⊛ ‵ (fsep (Heap.the_row.own_val a.0 (heap_val ∷ [])) ftrue)) ∷ ‵ ftrue ∷ []) ∵ split ! $ drop ! $ drop ! $ drop ! $
    enter ! _ _ _ _ _ $ alloc_all ! (λ l. pass_all ! refl (handle_fits, tt) $
    sets ! (agg ! (and_then ! (lit ! tt) (and_then ! (get ! refl) (no_more !)))) refl (word_fits null_ptr) $
    returns ! (look_at ! 0 refl) $ free_all ! refl $
    -- nothing at the address, and the two fields
    nothing ! $ use0 𝓛 (‵ ((Struct (shape Pointer.the_type)).own_val (to Pointer.the_type made) (word null_ptr ∷ []))) (pointer_made 𝓛 made) $ fjoin ! $
    use1 𝓛 (‵ (Pointer.the_row.own_val made (word null_ptr ∷ []))) (id⊢ 𝓤 _) $
    suffices ! _ (ends_at 𝓛 f.ended stayed c y (word null_ptr) made (tt, tt) (tt, tt)) $ says ! refl $
    nothing ! $ nothing ! $ fjoin ! $ join ! $ nothing ! $ join ! $ done !))
