-- The frame at a head: what flows there from lower slots, joined in each declared place with what is declared of it.
use Rattle.std.specs.Prelude.{ℕ, ◌-◌, List, [], ◌∷◌, Option, Some, None, if◌then◌else◌, nat_lt, slice_get, slice_set}
use Rattle.std.specs.Prelude.{length, replicate}
use Rattle.bpf_decode.specs.declared.region.Region.{Region}
use Rattle.bpf_decode.specs.declared.region.Region.TheVariants as region
use Rattle.abstract_num.specs.declared.precision.Precision.{Precision}
use Rattle.abstract_num.specs.Plain.{Plain, any}
use Rattle.abstract_num.specs.Tighten.{tighten}
use Rattle.abstract_num.specs.Transfer.{ranged, signed_ranged}
use Rattle.abstract_regs.specs.Kind.{PlainKind, Num, Ptr, join_kind}
use Rattle.abstract_regs.specs.Kind as kind
use Rattle.abstract_regs.specs.Frame.{PlainFrame, or_unset, kind_at, with_kind, number_kind, with_slots, with_links}
use Rattle.abstract_regs.specs.Link.{no_link}
use Rattle.loop_heads.specs.declared.place.PlaceKind.{PlaceKind}
use Rattle.loop_heads.specs.declared.place.PlaceKind.TheVariants as declared
use Rattle.loop_heads.specs.declared.place.HeadPlace.{HeadPlace}

-- a pointer, if an offset is left
abbrev pub pointer_kind : Region → Option Plain → PlainKind
pointer_kind r None = kind.Unset
pointer_kind r (Some k) = Ptr r k

-- What is declared of a place, as a kind: a number or an offset is tightened from its range alone.
abbrev pub declared_kind : Precision → PlaceKind → PlainKind
declared_kind precision declared.Unset = kind.Unset
declared_kind precision declared.Any = Num any
declared_kind precision (declared.Unsigned a b) = number_kind (tighten precision (ranged a b))
declared_kind precision (declared.Signed a b) = number_kind (tighten precision (signed_ranged a b))
declared_kind precision (declared.Input a b) = pointer_kind region.Input (tighten precision (ranged a b))
declared_kind precision (declared.Output a b) = pointer_kind region.Output (tighten precision (ranged a b))
declared_kind precision (declared.Stack a b) = pointer_kind region.Stack (tighten precision (ranged a b))

-- the kind of a place, a register or from 11 on a slot of the stack, and the frame with another one there
abbrev pub place_kind : PlainFrame → ℕ → PlainKind
place_kind f n = if nat_lt n 11 then kind_at f n else or_unset (slice_get f.slots (n - 11))

abbrev pub with_place : PlainFrame → ℕ → PlainKind → PlainFrame
with_place f n x = if nat_lt n 11 then with_kind f n x else with_slots f (slice_set f.slots (n - 11) x)

-- a declared place, and all of them
abbrev pub with_declared : Precision → PlainFrame → HeadPlace → PlainFrame
with_declared precision f p =
    with_place f p.number (join_kind (place_kind f p.number) (declared_kind precision p.kind))

abbrev pub all_declared : Precision → List HeadPlace → PlainFrame → PlainFrame
all_declared precision [] f = f
all_declared precision (p ∷ ps) f = all_declared precision ps (with_declared precision f p)

-- without links
abbrev pub unlinked_frame : PlainFrame → PlainFrame
unlinked_frame f = with_links f (replicate (length f.links) no_link)

-- the frame at a head, of what flows there
abbrev pub head_frame : Precision → List HeadPlace → PlainFrame → PlainFrame
head_frame precision places f = unlinked_frame (all_declared precision places f)
