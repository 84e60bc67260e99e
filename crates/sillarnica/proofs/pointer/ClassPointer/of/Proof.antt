-- `of` takes the box apart by a call, and the pointer owns at the address what the box did.
use mathlib.Core.Path.{◌≡◌, refl, sym, ap}
use mathlib.Core.List.{List, [], ◌∷◌}
use mir.Val.{Val}
use base.Fml.{ftrue, fsep, flft}
use base.Fraction.{full_share}
use base.Logic.{emp, id⊢}
use contract.BorrowLft.{◌⊑◌}
use contract.Monad.{fact, fact_i}
use contract.Running.{tables, tables_of}
use types.ByLocal.{alloc_all, pass_all, free_all, look_at, get, get_in, sets, lands_as}
use types.Kit.{Item, ‵, raw, ◌⊛◌, some, later, ◌$◌, ◌∵◌, !, qed, move, drop, use0, use1, split, join, fjoin, pick, rewrite, suffices, await, done}
use types.Part.{whole, sub, agg}
use types.Run.{stop, fld, no_more, and_then, of_opd, returns, enter}
use denote.Exit.{yes}
use denote.Laws.{Is, shows}
use denote.Param.NoDrop.{glues}
use denote.RawPtr.{Ptr}
use denote.Signature.{plain}
use denote.Steps.{nothing, heard, peeks, only}
use denote.Triple.Call.{calls_at}
use denote.Triple.Clauses.{Lasts, lasts}
use denote.Triple.Spec.{triple_of}
use denote.Triple.Table.{framed}
use denote.Triple.Walked.{Stays, stay_dropped, Goes-dropped, walk_of, says, ends_at}
use Rattle.std.proofs.raw_atomic.Walks.{proved}
use Rattle.std.specs.Global.{Global}
use Rattle.std.specs.Prelude.{Some}
use Rattle.std_alloc.specs.Box.Ownership.{box_owns}
use Rattle.std_alloc.specs.contracts.boxed.Box.into_raw_with_allocator as apart
use Rattle.std_alloc.proofs.boxed.Box.into_raw_with_allocator.Met as comes_apart
use Rattle.std_heap.specs.contracts.Global as Heap
use Rattle.std_heap.specs.contracts.GlobalAllocator.TheImpl.{ghosts, dict}
use Rattle.std_heap.proofs.Global.TheLaws as heap
use Rattle.std_heap.proofs.GlobalAllocator.TheImpl.Met as allocator
use Rattle.class_loops.specs.contracts.held.HeldClass as Class
use Rattle.class_loops.proofs.held.HeldClass.TheLaws as class
use Rattle.sillarnica.specs.contracts.pointer.ClassPointer as Pointer
use Rattle.sillarnica.specs.contracts.pointer.ClassPointer.of as f
use Rattle.sillarnica.proofs.Destruct++none.drop.Code.{code as gone}
use Rattle.sillarnica.proofs.Goes.{drops, goes}
use Rattle.sillarnica.proofs.Words.{AClass, AHandle, class_laws, handle_laws, lets_go, ClassBox, Pair, word, word_fits, address_fits, handle_fits, box_is, pair_is}
use Rattle.sillarnica.proofs.pointer.ClassPointer.of.Statement.{statement}
use Rattle.sillarnica.proofs.pointer.ClassPointer.of.Code as code

abbrev stayed : Stays f.ended.signature.params f.ended.kept
stayed = (stay_dropped _ yes, tt)

pub of_spec : {M : Type 1} → statement M
unfolding gone tables_of
of_spec {M} 𝓤 𝓛 𝓜 𝓡 wired =
    let H = 𝓛.H in let γ = 𝓡.env in
    -- the call, with what it asks: that the heap allocates, and that handle and class may be let go
    let Apart = triple_of 𝓛 (apart.signature AClass AHandle ghosts dict lets_go drops) (apart.spec AClass AHandle ghosts dict lets_go drops 𝓛 𝓜.mem 𝓡.returns) in
    let Its = apart.ended AClass AHandle ghosts dict lets_go drops in
    let allocates = allocator.passed γ (code.calls-std_heap::GlobalAllocator::allocate γ wired) (code.calls-std_heap::GlobalAllocator::deallocate γ wired) (code.calls-std_heap::GlobalAllocator::grow γ wired) (code.calls-std_heap::GlobalAllocator::shrink γ wired) M 𝓤 𝓛 𝓜 𝓡 in
    let handle_goes = glues "sillarnica::Destruct++none::drop" γ (code.calls-sillarnica::Destruct++none::drop γ wired) AHandle handle_laws M 𝓤 𝓛 𝓜 𝓡 in
    let met = comes_apart.met 𝓤 𝓛 𝓜 𝓡 (code.calls-std_alloc::boxed::Box::into_raw_with_allocator γ wired) AClass AHandle class_laws handle_laws ghosts dict lets_go drops
    allocates handle_goes (goes 𝓤 𝓛 𝓜 𝓡 (code.calls-class_loops::held::HeldClass::drop γ wired)) in
    let c = f.clauses 𝓛 𝓜.mem 𝓡.returns in
    proved 𝓛 f.ended stayed c 𝓜 𝓡 (Goes-dropped 𝓛 0 (plain (λ _. ClassBox)) yes (λ κs d w. refl), tt) f.Key.name code.function (code.unfolded 𝓤 H 𝓜 𝓡 wired)
    (λ κs. ((λ d. word d.ptr ∷ []), tt)) (λ κs. (box_is, tt)) (λ κs qs bounds a _ are.
    let held = a.0 in
    let y : (walk_of 𝓛 f.ended stayed c).Ghost = ((κs, qs, bounds, a, (word held.ptr ∷ [], tt)), tt) in
    -- the box borrows nothing, so both lifetimes are the longest, whose token is had for nothing
    let z : Apart.Ghost = ((([], ([], tt)), (full_share, (full_share, tt)), tt, (held, tt), (word held.ptr ∷ [], tt)), tt) in
    let token : Item 𝓤 = ‵ (flft [] full_share) in
    qed 𝓛 ((‵ ftrue ⊛ ‵ (fsep (ClassBox.own_val held (word held.ptr ∷ [])) ftrue)) ∷ ‵ ftrue ∷ []) ∵ split ! $ drop ! $ move ! (1 ∷ []) $ drop ! $
    -- [the box]
    enter ! _ _ _ _ _ $ alloc_all ! (λ l. pass_all ! refl (word_fits held.ptr, tt) $
    sets ! (of_opd ! (get ! refl)) refl (word_fits held.ptr) $
    nothing ! $ use0 𝓛 token (𝓛.lfts.lft-nil full_share) $ join ! $ use0 𝓛 token (𝓛.lfts.lft-nil full_share) $ join ! $ join ! $
    nothing ! $ use0 𝓛 (raw (fact 𝓤 ([] ⊑ Heap.the_row.lives))) (fact_i 𝓤 ([] ⊑ Heap.the_row.lives) (emp 𝓤) (heap.the_within [])) $ join ! $
    use0 𝓛 (raw (fact 𝓤 ([] ⊑ Class.the_row.lives))) (fact_i 𝓤 ([] ⊑ Class.the_row.lives) (emp 𝓤) (class.the_within [])) $ join ! $
    move ! (1 ∷ 0 ∷ []) $ join ! $ use1 𝓛 (raw (Apart.pre z)) (id⊢ 𝓤 _) $
    calls_at ! (framed 𝓤 H 𝓜 (tables 𝓤 H 𝓜 𝓡 γ)) Apart met z (and_then ! (get ! refl) (no_more !)) (λ u.
    use1 𝓛 (later (some (λ (r : Ptr × Global). ((token ⊛ token ⊛ ‵ ftrue) ⊛ ‵ (Pair.own_val r (u ∷ []))) ⊛ some (λ (ws : Lasts Its z.0.0 (held, tt)). ‵ (lasts Its z.0.0 (held, tt) ws) ⊛
    (raw (fact 𝓤 (r.1 ≡ held.alloc)) ⊛ ‵ (box_owns (ghosts.dealloc_token held.alloc) Class.the_row r.0 held.value)))))) (id⊢ 𝓤 _) $
    await ! tt $ pick ! (λ r. split ! $ split ! $ drop ! $ move ! (1 ∷ []) $ pick ! (λ ws. split ! $ drop ! $ split ! $ heard ! (r.1 ≡ held.alloc) (λ same.
    -- [what the box owned at the address; the pair]
    move ! (1 ∷ []) $ peeks ! Pair (Is Pair) (shows 𝓛 Pair) r (u ∷ []) (λ is.
    rewrite ! 0 (λ (us : List Val). ‵ (Pair.own_val r us)) (pair_is r (u ∷ []) is) refl $
    lands_as ! (ap only (pair_is r (u ∷ []) is)) refl (word_fits r.0) $
    sets ! (of_opd ! (get_in ! (fld ! refl (stop !)) (sub ! 0 refl (whole !)))) refl (address_fits r.0) $
    sets ! (of_opd ! (get_in ! (fld ! refl (stop !)) (sub ! 1 refl (whole !)))) refl handle_fits $
    sets ! (agg ! (and_then ! (get ! refl) (and_then ! (get ! refl) (no_more !)))) refl (word_fits r.0) $
    returns ! (look_at ! 0 refl) $ free_all ! refl $
    -- the pair's fields are the pointer's, and with what the box owned they are the pointer
    let made : Pointer.the_row.Denot = record { at = r.0; alloc = r.1; class = Some held.value } in
    move ! (1 ∷ []) $ rewrite ! 0 (λ (g : Global). ‵ (box_owns (ghosts.dealloc_token g) Class.the_row r.0 held.value)) (sym same) refl $
    move ! (1 ∷ 0 ∷ []) $ fjoin ! $ use1 𝓛 (‵ (Pointer.the_row.own_val made (word r.0 ∷ []))) (id⊢ 𝓤 _) $
    suffices ! _ (ends_at 𝓛 f.ended stayed c y (word r.0) made (tt, tt) (tt, tt)) $ says ! refl $
    nothing ! $ nothing ! $ fjoin ! $ join ! $ nothing ! $ join ! $ done !)))))))
