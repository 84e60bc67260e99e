-- A link says how the number of a place, a register or a slot of the stack, comes from a number
-- that the link names: which part of that number, with a distance added, it is.
use Rattle.std.specs.Prelude.{◌≡◌, ℕ, ◌+◌, ◌-◌, ◌*◌, ◌/◌, ◌%◌, ◌^◌, ◌<◌, ◌⊎◌, ◌==◌, ◌&&◌, List, [], ◌∷◌, Option, Some}
use Rattle.std.specs.Prelude.{None, Bool, true, false, if◌then◌else◌, slice_index_or}
use Rattle.bpf_decode.specs.declared.value.Value.{Value}
use Rattle.bpf_decode.specs.declared.value.Value.TheVariants as values
use Rattle.abstract_num.specs.UnsignedRows.{digits}
use Rattle.abstract_regs.specs.declared.link.Link.{Link}
use Rattle.abstract_regs.specs.declared.link.LinkForm.{LinkForm}
use Rattle.abstract_regs.specs.declared.link.LinkForm.TheVariants.{Unlinked, Whole, Low, Up, Sign}

-- ---- links

-- a place that isn't linked
abbrev pub no_link : Link
no_link = record { distance = 0; name = 0; form = Unlinked }

-- a form that is a link at all, and one of the whole number:
abbrev pub is_linked : LinkForm → Bool
is_linked Unlinked = false
is_linked Whole = true
is_linked Low = true
is_linked Up = true
is_linked Sign = true

abbrev pub is_whole : LinkForm → Bool
is_whole Unlinked = false
is_whole Whole = true
is_whole Low = false
is_whole Up = false
is_whole Sign = false

-- the place's low half is the number's
abbrev pub has_low : LinkForm → Bool
has_low Unlinked = false
has_low Whole = true
has_low Low = true
has_low Up = false
has_low Sign = false

-- the link of a place; past the end of the list there is none
abbrev pub link_in : List Link → ℕ → Link
link_in links place = slice_index_or links place no_link

-- ---- truth

-- a value that is a number of which this holds
abbrev pub NumberIs : Option Value → (ℕ → Type 0) → Type 0
NumberIs None P = ⊥
NumberIs (Some (values.Num n)) P = P n
NumberIs (Some (values.Ptr r at)) P = ⊥

-- what a place of a form has of m: the number, any number with its low half, that half in the upper
-- one, or its bit 31 alone
abbrev pub HoldsForm : LinkForm → ℕ → Option Value → Type 0
HoldsForm Unlinked m c = Unit {0}
HoldsForm Whole m c = NumberIs c (λ n. n ≡ m)
HoldsForm Low m c = NumberIs c (λ n. n % 2 ^ 32 ≡ m % 2 ^ 32)
HoldsForm Up m c = NumberIs c (λ n. n ≡ m * 2 ^ 32 % 2 ^ 64)
HoldsForm Sign m c = NumberIs c (λ n. n ≡ m / 2 ^ 31 % 2 * 2 ^ 31)

-- a link is true of a value, if the names have these numbers
abbrev pub HoldsLink : (ℕ → ℕ) → Link → Option Value → Type 0
HoldsLink numbers l c = HoldsForm l.form ((numbers l.name + l.distance) % 2 ^ 64) c

-- a link, if there is one, has a name below p
abbrev pub NameBelow : ℕ → Link → Type 0
NameBelow p l = (l.form ≡ Unlinked) ⊎ (l.name < p)

-- ---- other links of the same number

-- the same number and distance in another form
abbrev pub shaped : Link → LinkForm → Link
shaped l form = if is_linked form then record { distance = l.distance; name = l.name; form = form } else no_link

-- a form of the low half
abbrev pub low_form : LinkForm → LinkForm
low_form form = if has_low form then Low else Unlinked

-- a form of the low half moved up
abbrev pub up_form : LinkForm → LinkForm
up_form form = if has_low form then Up else Unlinked

-- a form of its sign
abbrev pub sign_form : LinkForm → LinkForm
sign_form form = if has_low form then Sign else Unlinked

-- a form of the half that was moved up, moved down again
abbrev pub down_form : LinkForm → LinkForm
down_form Unlinked = Unlinked
down_form Whole = Unlinked
down_form Low = Unlinked
down_form Up = Low
down_form Sign = Unlinked

-- after d was added to the place's number
abbrev pub moved_link : Link → ℕ → Link
moved_link l d =
    if is_whole l.form then record { distance = (l.distance + d) % 2 ^ 64; name = l.name; form = Whole } else no_link

-- a number whose bits are all set, from the lowest up to the highest set one; also 0
abbrev pub is_ones : ℕ → Bool
is_ones c = c == 2 ^ digits c - 1

-- ---- join

-- the forms, told apart by a number
abbrev pub form_number : LinkForm → ℕ
form_number Unlinked = 0
form_number Whole = 1
form_number Low = 2
form_number Up = 3
form_number Sign = 4

-- whether two links are the same
abbrev pub same_link : Link → Link → Bool
same_link l m = (l.distance == m.distance) && ((l.name == m.name) && (form_number l.form == form_number m.form))

-- the link that both are, or none
abbrev pub join_link : Link → Link → Link
join_link l m = if same_link l m then l else no_link

-- the joins of two lists, place by place
abbrev pub join_links : List Link → List Link → List Link
join_links [] ms = []
join_links (l ∷ ls) [] = []
join_links (l ∷ ls) (m ∷ ms) = join_link l m ∷ join_links ls ms

-- without the links of these places; the first link is that of place `at`
abbrev pub unlinked : (ℕ → Bool) → ℕ → List Link → List Link
unlinked places at [] = []
unlinked places at (l ∷ ls) = (if places at then no_link else l) ∷ unlinked places (at + 1) ls
