-- The order of frames, as a test: what a frame is true of, each greater one is true of.
use lib.Signed.{le_z}
use Rattle.std.specs.Prelude.{ℕ, zero, suc, Bool, true, false, nat_le, ◌==◌, ◌&&◌, ◌||◌, not}
use Rattle.abstract_num.specs.Plain.{Plain}
use Rattle.abstract_num.specs.Masks.{clear}
use Rattle.abstract_regs.specs.Kind.{PlainKind, Unset, Num, Ptr, same_region}
use Rattle.abstract_regs.specs.Frame.{PlainFrame}
use Rattle.abstract_regs.specs.declared.link.Link.{Link}
use Rattle.abstract_regs.specs.Link.{is_linked, same_link, link_in}
use Rattle.loop_frames.specs.declared.place.TheConstants.{PLACES}
use Rattle.loop_frames.specs.Heads.{place_kind}

-- each range and the half lies inside the other's, and each bit that the other knows is known, and the same
abbrev pub is_below : Plain → Plain → Bool
is_below x y =
    ((nat_le y.low x.low && nat_le x.high y.high) && (le_z y.least x.least && le_z x.greatest y.greatest)) &&
    (((clear x.unknown y.unknown == 0) && (clear x.value y.unknown == y.value)) &&
    (le_z y.half_least x.half_least && le_z x.half_greatest y.half_greatest))

-- Unset is above every kind; a number is below a number, and a pointer below one into its region, as the numbers are
abbrev pub is_kind_below : PlainKind → PlainKind → Bool
is_kind_below x Unset = true
is_kind_below Unset (Num l) = false
is_kind_below (Num k) (Num l) = is_below k l
is_kind_below (Ptr r k) (Num l) = false
is_kind_below Unset (Ptr q l) = false
is_kind_below (Num k) (Ptr q l) = false
is_kind_below (Ptr r k) (Ptr q l) = same_region r q && is_below k l

-- the other link is none, or the same
abbrev pub is_link_below : Link → Link → Bool
is_link_below l m = not (is_linked m.form) || same_link l m

-- the kind of a place is below the other's, and so is its link
abbrev pub is_place_below : PlainFrame → PlainFrame → ℕ → Bool
is_place_below f g n =
    is_kind_below (place_kind f n) (place_kind g n) && is_link_below (link_in f.links n) (link_in g.links n)

-- so of each of the first n places
unfoldable pub are_places_below : PlainFrame → PlainFrame → ℕ → Bool
are_places_below f g zero = true
are_places_below f g (suc n) = is_place_below f g n && are_places_below f g n

-- a frame is below another, place by place
abbrev pub is_frame_below : PlainFrame → PlainFrame → Bool
is_frame_below f g = are_places_below f g PLACES
