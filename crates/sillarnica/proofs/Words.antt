-- A box of the class and C's pointer as the machine has them: one word of two fields, the address
-- and the heap's handle, which is the same for every box.
--     AClass, AHandle, lets_go        the box's two types as a call passes them, and what lets a
--                                     handle go
--     ClassBox, Pair                  the box, and the pair that it comes apart into
--     word, word_fits                 the word, and that it is one: of a box, a pointer, a pair
--     address_fits, handle_fits       its two fields, likewise
--     box_is, pointer_is, pair_is     what is owned tells which word it is. So a walk has its words
--                                     written out, and looks at nothing behind the address
--     handle_made, pointer_made       a handle, and a pointer's two fields, own facts alone, so
--                                     they are had for nothing
--     some_of                         what an option holds that holds something
use mathlib.Core.Path.{◌≡◌, refl}
use mathlib.Core.List.{[], ◌∷◌}
use seplogic.Ra.Ura.{Ura}
use lib.Dec.{T, lit<}
use mir.Raw.{raw}
use mir.Syntax.{Dict, impl, ty_ptr, tcons, tnil, dnil}
use mir.Val.{Val, vunit, vstruct, vcons, vnil, has_ty, WT}
use base.Logic.{ent, emp}
use types.Logic.{Logic, sem}
use types.Kit.{◌$◌, ◌∵◌, !, qed, done}
use denote.Laws.{Is, Tells}
use denote.Exit.{no}
use denote.Param.{layout, param, arg}
use denote.Param.Laws.{Laws, arg_laws}
use denote.RattleType.{RattleType}
use denote.RawPtr.{Ptr, RawPtr, block_ptr, null_ptr, ptr_val, rawptr_pure, rawptr_vals, rawptr_Tells}
use denote.Steps.{owned}
use denote.Struct.Declared as Declared
use denote.Struct.Laws as plain
use denote.Struct.Owning as Owning
use denote.Struct.Struct.{Shape, Struct, Struct-Makes, Struct-Tells}
use denote.Struct.Tuple.{Tuple, tuple_type}
use Rattle.std.specs.Global.{Global}
use Rattle.std.specs.Prelude.{Option, Some, None}
use Rattle.std_alloc.specs.contracts.boxed.Box as Box
use Rattle.std_heap.specs.contracts.Global as Heap
use Rattle.std_heap.specs.contracts.GlobalAllocator.TheImpl.{ghosts}
use Rattle.std_heap.proofs.Global.TheLaws as heap
use Rattle.std_heap.proofs.Handle.{heap_val, heap_Tells}
use Rattle.class_loops.specs.contracts.held.HeldClass as Class
use Rattle.class_loops.proofs.held.HeldClass.TheLaws as class
use Rattle.sillarnica.specs.Held.{IsHeld}
use Rattle.sillarnica.specs.contracts.pointer.ClassPointer as Pointer
use Rattle.sillarnica.proofs.pointer.ClassPointer.TheLaws as pointer

abbrev pub AClass : RattleType
AClass = arg (raw (layout Class.the_row)) no Class.the_row

abbrev pub AHandle : RattleType
AHandle = arg (raw (layout Heap.the_row)) no Heap.the_row

abbrev pub class_laws : Laws AClass
class_laws = arg_laws (raw (layout Class.the_row)) no Class.the_row class.the_row_laws refl

abbrev pub handle_laws : Laws AHandle
handle_laws = arg_laws (raw (layout Heap.the_row)) no Heap.the_row heap.the_row_laws refl

abbrev pub lets_go : Dict
lets_go = impl ("sillarnica::Destruct++none::drop" ∷ []) (tcons (layout AHandle) tnil) dnil

abbrev pub ClassBox : RattleType
ClassBox = Box.the_row Class.the_row Heap.the_row ghosts

abbrev pub Pair : RattleType
Pair = Tuple (RawPtr ∷ param 1 Heap.the_row ∷ [])

abbrev pub word : Ptr → Val
word p = vstruct (vcons (ptr_val p) (vcons heap_val vnil))

pub address_fits : (p : Ptr) → T (has_ty ty_ptr (ptr_val p)) × WT (ptr_val p)
address_fits (block_ptr b o) = (tt, tt)
address_fits null_ptr = (tt, record { fits = lit< tt })

pub handle_fits : T (has_ty (layout Heap.the_row) heap_val) × WT heap_val
handle_fits = (tt, ((tt, tt), tt))

pub word_fits : (p : Ptr) → T (has_ty (layout Pointer.the_row) (word p)) × WT (word p)
word_fits (block_ptr b o) = (tt, (tt, (((tt, tt), tt), tt)))
word_fits null_ptr = (tt, (record { fits = lit< tt }, (((tt, tt), tt), tt)))

-- ---- which word
pub box_is : Tells ClassBox (Is ClassBox) (λ d. word d.ptr ∷ [])
box_is d vs is = Struct-Tells (Owning.shape (Box.the_type Class.the_row Heap.the_row ghosts)) (rawptr_vals, ((λ _. heap_val ∷ []), tt)) (rawptr_Tells, (heap_Tells, tt)) (d.ptr, (d.alloc, tt)) vs is.0

pub pointer_is : Tells Pointer.the_row (Is Pointer.the_row) (λ d. word d.at ∷ [])
pointer_is = pointer.lowers.val_is

pub pair_is : Tells Pair (Is Pair) (λ d. word d.0 ∷ [])
pair_is d vs is = Struct-Tells (Declared.shape (tuple_type (RawPtr ∷ param 1 Heap.the_row ∷ []))) (rawptr_vals, ((λ _. heap_val ∷ []), tt)) (rawptr_Tells, (heap_Tells, tt)) (d.0, (d.1, tt)) vs is

-- ---- what is had for nothing
handle_is : (alloc : Global) → Is Heap.the_row alloc (heap_val ∷ [])
handle_is alloc = ((vstruct (vcons vunit vnil) ∷ [], tt), (refl, (((vunit ∷ [], tt), (refl, (refl, tt))), tt)))

module _ {M : Type 1} {𝓤 : Ura M} (𝓛 : Logic 𝓤) where
  pub handle_made : (alloc : Global) → ent 𝓤 (emp 𝓤) (sem 𝓛 (Heap.the_row.own_val alloc (heap_val ∷ [])))
  handle_made alloc = qed 𝓛 [] ∵ owned ! Heap.the_row (Is Heap.the_row) (plain.makes Heap.the_type heap.the_plain 𝓛) alloc (heap_val ∷ []) (handle_is alloc) $ done !

  abbrev two : Shape
  two = Owning.shape Pointer.the_type

  pub pointer_made : (d : Pointer.the_row.Denot) → ent 𝓤 (emp 𝓤) (sem 𝓛 ((Struct two).own_val (Owning.to Pointer.the_type d) (word d.at ∷ [])))
  pointer_made d = qed 𝓛 [] ∵ owned ! (Struct two) (Is (Struct two)) (Struct-Makes 𝓛 two (rawptr_pure, (plain.field_plain Heap.the_type heap.the_plain, tt))) (Owning.to Pointer.the_type d) (word d.at ∷ [])
      ((ptr_val d.at ∷ [], (heap_val ∷ [], tt)), (refl, (refl, (handle_is d.alloc, tt)))) $ done !

pub some_of : {A : Type 0} (o : Option A) → IsHeld o → (x : A) × (o ≡ Some x)
some_of None h = absurd h
some_of (Some x) h = (x, refl)
