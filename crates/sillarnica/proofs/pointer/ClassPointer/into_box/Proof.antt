-- `into_box` reads the address and the handle out of the pointer, and a call makes the box of them
-- and of what the pointer owned.
use mathlib.Core.Path.{◌≡◌, refl, sym, subst, ap, ◌∙◌}
use mathlib.Core.List.{List, [], ◌∷◌}
use lib.Dec.{T}
use mir.Val.{Val, has_ty, WT}
use base.Fml.{ftrue, fsep, flft}
use base.Fraction.{full_share}
use base.Logic.{emp, id⊢}
use contract.BorrowLft.{◌⊑◌}
use contract.Monad.{fact, fact_i}
use contract.Running.{tables, tables_of}
use types.ByLocal.{alloc_all, pass_all, free_all, look_at, get, get_in, sets, lands_last, is, env}
use types.Kit.{Item, at_ret, ‵, raw, ◌⊛◌, some, later, ◌$◌, ◌∵◌, !, qed, move, drop, use0, use1, split, join, fsplit, fjoin, feq_i, pick, rewrite, suffices, await, done}
use types.Part.{whole, sub}
use types.Run.{stop, fld, no_more, and_then, of_opd, returns, enter, first, blocks, exec}
use denote.Exit.{yes}
use denote.Laws.{Is, shows}
use denote.Param.{layout}
use denote.Param.NoDrop.{glues}
use denote.RawPtr.{ptr_val}
use denote.Signature.{plain}
use denote.Steps.{nothing, heard, peeks, only}
use denote.Triple.Call.{calls_at_last}
use denote.Triple.Clauses.{Lasts, lasts}
use denote.Triple.Spec.{triple_of}
use denote.Triple.Table.{framed}
use denote.Triple.Walked.{Stays, stay_dropped, Goes-dropped, walk_of, says, ends_at}
use Rattle.std.proofs.raw_atomic.Walks.{proved}
use Rattle.std.specs.Prelude.{Option, Some}
use Rattle.std_alloc.specs.contracts.boxed.Box.from_raw as make
use Rattle.std_alloc.proofs.boxed.Box.from_raw.Met as makes
use Rattle.std_heap.specs.contracts.Global as Heap
use Rattle.std_heap.specs.contracts.GlobalAllocator.TheImpl.{ghosts, dict}
use Rattle.std_heap.proofs.Global.TheLaws as heap
use Rattle.std_heap.proofs.GlobalAllocator.TheImpl.Met as allocator
use Rattle.class_loops.specs.contracts.held.HeldClass as Class
use Rattle.class_loops.proofs.held.HeldClass.TheLaws as class
use Rattle.sillarnica.specs.Held.{IsHeld}
use Rattle.sillarnica.specs.inner.Owned.{pointer_owns}
use Rattle.sillarnica.specs.contracts.pointer.ClassPointer as Pointer
use Rattle.sillarnica.specs.contracts.pointer.ClassPointer.into_box as f
use Rattle.sillarnica.proofs.Destruct++none.drop.Code.{code as gone}
use Rattle.sillarnica.proofs.Words.{AClass, AHandle, class_laws, handle_laws, lets_go, ClassBox, word, word_fits, address_fits, handle_fits, box_is, pointer_is, handle_made, some_of}
use Rattle.sillarnica.proofs.pointer.ClassPointer.into_box.Statement.{statement}
use Rattle.sillarnica.proofs.pointer.ClassPointer.into_box.Code as code
use Rattle.std_heap.proofs.Handle.{heap_val}

abbrev stayed : Stays f.ended.signature.params f.ended.kept
stayed = (stay_dropped _ yes, tt)

pub into_box_spec : {M : Type 1} → statement M
unfolding gone tables_of
into_box_spec {M} 𝓤 𝓛 𝓜 𝓡 wired =
    let H = 𝓛.H in let γ = 𝓡.env in let 𝓣 = tables 𝓤 H 𝓜 𝓡 γ in
    -- the call, with what it asks: that the heap allocates, and that a handle may be let go
    let Make = triple_of 𝓛 (make.signature AClass AHandle ghosts dict lets_go) (make.spec AClass AHandle ghosts dict lets_go 𝓛 𝓜.mem 𝓡.returns) in
    let Its = make.ended AClass AHandle ghosts dict lets_go in
    let allocates = allocator.passed γ (code.calls-std_heap::GlobalAllocator::allocate γ wired) (code.calls-std_heap::GlobalAllocator::deallocate γ wired) (code.calls-std_heap::GlobalAllocator::grow γ wired) (code.calls-std_heap::GlobalAllocator::shrink γ wired) M 𝓤 𝓛 𝓜 𝓡 in
    let handle_goes = glues "sillarnica::Destruct++none::drop" γ (code.calls-sillarnica::Destruct++none::drop γ wired) AHandle handle_laws M 𝓤 𝓛 𝓜 𝓡 in
    let met = makes.met 𝓤 𝓛 𝓜 𝓡 (code.calls-std_alloc::boxed::Box::from_raw γ wired) AClass AHandle class_laws handle_laws ghosts dict lets_go allocates handle_goes in
    let c = f.clauses 𝓛 𝓜.mem 𝓡.returns in let W = walk_of 𝓛 f.ended stayed c in
    proved 𝓛 f.ended stayed c 𝓜 𝓡 (Goes-dropped 𝓛 0 (plain (λ _. Pointer.the_row)) yes (λ κs d w. refl), tt) f.Key.name code.function (code.unfolded 𝓤 H 𝓜 𝓡 wired)
    (λ κs. ((λ d. word d.at ∷ []), tt)) (λ κs. (pointer_is, tt)) (λ κs qs bounds a _ are.
    let held = a.0 in let p = held.at in
    let y : W.Ghost = ((κs, qs, bounds, a, (word p ∷ [], tt)), tt) in
    let token : Item 𝓤 = ‵ (flft [] full_share) in
    qed 𝓛 ((‵ ftrue ⊛ ‵ (fsep (Pointer.the_row.own_val held (word p ∷ [])) ftrue)) ∷ raw (fact 𝓤 (IsHeld held.class)) ∷ []) ∵ split ! $ drop ! $ move ! (1 ∷ []) $
    heard ! (IsHeld held.class) (λ holds.
    let x = (some_of held.class holds).0 in let which = (some_of held.class holds).1 in
    -- the two fields are facts, and are let go; what is owned at the address stays
    fsplit ! $ fsplit ! $ drop ! $ move ! (1 ∷ []) $ drop ! $ rewrite ! 0 (λ (o : Option Class.the_row.Denot). ‵ (pointer_owns held.alloc p o)) which refl $
    enter ! _ _ _ _ _ $ alloc_all ! (λ l. pass_all ! refl (word_fits p, tt) $
    sets ! (of_opd ! (get_in ! (fld ! refl (stop !)) (sub ! 0 refl (whole !)))) refl (address_fits p) $
    sets ! (of_opd ! (get_in ! (fld ! refl (stop !)) (sub ! 1 refl (whole !)))) refl handle_fits $
    first ! $ blocks ! $
    let z : Make.Ghost = ((([], ([], tt)), (full_share, (full_share, tt)), tt, (held.alloc, (p, tt)), (heap_val ∷ [], (ptr_val p ∷ [], tt))), x) in
    -- what it requires; then its arguments; then the tokens, as in `of`
    use0 𝓛 (raw (fact 𝓤 ([] ⊑ Heap.the_row.lives))) (fact_i 𝓤 ([] ⊑ Heap.the_row.lives) (emp 𝓤) (heap.the_within [])) $ join ! $
    use0 𝓛 (raw (fact 𝓤 ([] ⊑ Class.the_row.lives))) (fact_i 𝓤 ([] ⊑ Class.the_row.lives) (emp 𝓤) (class.the_within [])) $ join ! $
    nothing ! $ feq_i ! (List Val) (ptr_val p ∷ []) (ptr_val p ∷ []) refl $ fjoin ! $ use0 𝓛 (‵ (Heap.the_row.own_val held.alloc (heap_val ∷ []))) (handle_made 𝓛 held.alloc) $ fjoin ! $
    nothing ! $ use0 𝓛 token (𝓛.lfts.lft-nil full_share) $ join ! $ use0 𝓛 token (𝓛.lfts.lft-nil full_share) $ join ! $ join ! $ join ! $
    use1 𝓛 (raw (Make.pre z)) (id⊢ 𝓤 _) $
    calls_at_last ! (framed 𝓤 H 𝓜 𝓣) Make met z (and_then ! (get ! refl) (and_then ! (get ! refl) (no_more !))) (λ u.
    use1 𝓛 (later (some (λ (r : ClassBox.Denot). ((token ⊛ token ⊛ ‵ ftrue) ⊛ ‵ (ClassBox.own_val r (u ∷ []))) ⊛ some (λ (ws : Lasts Its z.0.0 z.0.3). ‵ (lasts Its z.0.0 z.0.3 ws) ⊛
    (raw (fact 𝓤 (r.value ≡ x)) ⊛ raw (fact 𝓤 (r.alloc ≡ held.alloc))))))) (id⊢ 𝓤 _) $
    await ! tt $ pick ! (λ r. split ! $ split ! $ drop ! $ move ! (1 ∷ []) $ pick ! (λ ws. split ! $ drop ! $ split ! $ heard ! (r.value ≡ x) (λ same. drop ! $
    -- [the box]
    peeks ! ClassBox (Is ClassBox) (shows 𝓛 ClassBox) r (u ∷ []) (λ its.
    let told : u ≡ word r.ptr = ap only (box_is r (u ∷ []) its) in
    rewrite ! 0 (λ (us : List Val). ‵ (ClassBox.own_val r us)) (box_is r (u ∷ []) its) refl $
    lands_last ! refl (subst (λ (v : Val). T (has_ty (layout Pointer.the_row) v) × WT v) (sym told) (word_fits r.ptr)) $
    exec ! 𝓣.C 𝓣.Λ (env code.Mir.locals l) code.Mir.t-4 (at_ret _ (W.post y)) $
    sets ! (is ! (of_opd ! (get ! refl)) told) refl (word_fits r.ptr) $
    returns ! (look_at ! 0 refl) $ free_all ! refl $
    suffices ! _ (ends_at 𝓛 f.ended stayed c y (word r.ptr) r (tt, tt) (tt, tt)) $ says ! (which ∙ ap Some (sym same)) $
    nothing ! $ nothing ! $ fjoin ! $ join ! $ nothing ! $ join ! $ done !))))))))
