-- Books and maps as the cluster keeps them.
use Rattle.std.proofs.Common.{◌≡◌, ℕ, suc, ◌+◌, ◌<◌, List, [], ◌∷◌, length, true, Result, Ok, Err, Some, refl, sym, ap, ◌∙◌, subst, arith, get_or}
use Rattle.std.specs.Prelude.{All, OnOk, OnErr, slice_get, slice_set}
use Rattle.std.proofs.lemmas.Bool.Decides.{nat_tests}
use Rattle.std.proofs.lemmas.List.Elements.{All-weaker}
use Rattle.std.proofs.lemmas.List.{length-set}
use Rattle.std.proofs.lemmas.Option.{slice_get-get_or}
use Rattle.placement.specs.Placement.{is_acting}
use Rattle.group_world.specs.Monitor.{MonitorState, with_activated, no_maps}
use Rattle.map_book.specs.Book.{Book, moved, moved_from, maps_from, new_maps}
use Rattle.map_book.specs.declared.new_map.NewMap.{NewMap}
use Rattle.osd.specs.declared.config.Config.{Config}
use Rattle.osd.specs.Maps.{HasPrimary, IsBookOf}

length_moved : (k r : ℕ) (up : List ℕ) (ms : List MonitorState) → length (moved_from k r up ms) ≡ length ms
length_moved k r up [] = refl
length_moved k r up (m ∷ ms) = ap suc (length_moved (k + 1) r up ms)

length_maps : (k r : ℕ) (up : List ℕ) (ms : List MonitorState) → length (maps_from k r up ms) ≡ length ms
length_maps k r up [] = refl
length_maps k r up (m ∷ ms) = ap suc (length_maps (k + 1) r up ms)

-- a map more of each group leaves the book one of the cluster
pub moved_is_book : (c : Config) (b : Book) (up : List ℕ) → IsBookOf c b → IsBookOf c (moved b up)
moved_is_book c b up h = record { nodes = h.nodes; groups = length_moved 0 b.replicas up b.monitors ∙ h.groups }

-- and gives one for each group
pub maps_are_all : (c : Config) (b : Book) (up : List ℕ) → IsBookOf c b → length (new_maps b up) ≡ c.groups
maps_are_all c b up h = length_maps 0 b.replicas up b.monitors ∙ h.groups

pub has_primary : (m : NewMap) → is_acting m.map.acting ≡ true → HasPrimary m
has_primary m h = grind (arith, nat_tests)

pub have_primaries : (ms : List NewMap) → All (λ (n : NewMap). is_acting n.map.acting ≡ true) ms → All HasPrimary ms
have_primaries ms h = All-weaker (λ (n : NewMap). is_acting n.map.acting ≡ true) HasPrimary has_primary ms h

-- so does an activation, whatever it answers
pub activated_is_book : (c : Config) (old new : Book) (group : ℕ) {E : Type 0} (r : Result (Unit {0}) E) → group < length old.monitors
    → ((m : MonitorState) → slice_get old.monitors group ≡ Some m → OnOk r (new ≡ record old { monitors = slice_set old.monitors group (with_activated m) }))
    → OnErr r (new ≡ old) → IsBookOf c old → IsBookOf c new
activated_is_book c old new group (Ok u) lt ok err h =
    let m = get_or old.monitors group no_maps in
    let e : new ≡ record old { monitors = slice_set old.monitors group (with_activated m) } = ok m (slice_get-get_or old.monitors group no_maps lt) in
    subst (λ (b : Book). IsBookOf c b) (sym e) (record { nodes = h.nodes; groups = length-set old.monitors group (with_activated m) ∙ h.groups })
activated_is_book c old new group (Err e) lt ok err h = subst (λ (b : Book). IsBookOf c b) (sym err) h
