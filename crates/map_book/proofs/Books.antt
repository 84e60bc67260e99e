-- What is true of every book stays so.
use Rattle.std.proofs.Common.{◌≡◌, ℕ, zero, suc, ◌+◌, ◌<◌, List, [], ◌∷◌, length, get_or, set, Bool, true, false, Option, Some, if◌then◌else◌, refl, sym, ap, ◌∙◌, subst, arith}
use Rattle.std.specs.Prelude.{slice_get, slice_index_or, unwrap_or, Result, Ok, Err, OnOk, OnErr}
use Rattle.std.proofs.lemmas.List.{length-set}
use Rattle.std.proofs.lemmas.Option.{slice_get-get_or}
use Rattle.placement.specs.Placement.{is_acting, is_group_count}
use Rattle.group_world.specs.Maps.{GroupMap, is_same_list}
use Rattle.group_world.specs.Monitor.{MonitorState, next_map, with_activated}
use Rattle.map_book.specs.Book.{IsBook, acting_list, moved_from, maps_from}
use Rattle.map_book.specs.declared.new_map.NewMap.{NewMap}

-- AN ACTIVATION

pub newest_stays : {T E : Type 0} (r : Result T E) (old new : MonitorState) → OnOk r (new ≡ with_activated old) → OnErr r (new ≡ old) → new.newest ≡ old.newest
newest_stays (Ok t) old new ok err = ap (λ (m : MonitorState). m.newest) ok
newest_stays (Err e) old new ok err = ap (λ (m : MonitorState). m.newest) err

-- a fact that replaces another, if a call is answered
pub on_ok : {T E : Type 0} (r : Result T E) (P Q : Type 0) → (P → Q) → OnOk r P → OnOk r Q
on_ok (Ok t) P Q f p = f p
on_ok (Err e) P Q f p = p

-- each monitor has a property after one was changed to one that has it
all_have : (P : MonitorState → Type 0) (ms : List MonitorState) (k : ℕ) (x : MonitorState) → P x → ((i : ℕ) (m : MonitorState) → slice_get ms i ≡ Some m → P m)
    → (i : ℕ) (m : MonitorState) → slice_get (set ms k x) i ≡ Some m → P m
all_have P [] k x has each i m at = each i m at
all_have P (y ∷ ms) zero x has each zero m at = subst P (ap (λ (o : Option MonitorState). unwrap_or o m) at) has
all_have P (y ∷ ms) zero x has each (suc i) m at = each (suc i) m at
all_have P (y ∷ ms) (suc k) x has each zero m at = each zero m at
all_have P (y ∷ ms) (suc k) x has each (suc i) m at = all_have P ms k x has (λ j n there. each (suc j) n there) i m at

pub changed_book : (nodes replicas epoch : ℕ) (ms : List MonitorState) (k : ℕ) (x : MonitorState) → IsBook nodes replicas epoch ms → x.newest.epoch ≡ epoch → IsBook nodes replicas epoch (set ms k x)
changed_book nodes replicas epoch ms k x b same = record {
  few_nodes = b.few_nodes;
  some_replicas = b.some_replicas;
  few_replicas = b.few_replicas;
  counted = ap is_group_count (length-set ms k x) ∙ b.counted;
  one_epoch = all_have (λ m. m.newest.epoch ≡ epoch) ms k x same b.one_epoch;
}

-- a place has one monitor
pub is_the_one : (ms : List MonitorState) (k : ℕ) (d m : MonitorState) → k < length ms → d ≡ get_or ms k d → slice_get ms k ≡ Some m → d ≡ m
is_the_one ms k d m low is at = is ∙ ap (λ (o : Option MonitorState). unwrap_or o m) (sym (slice_get-get_or ms k d low) ∙ at)

-- ONE MORE MAP

-- the next map, if it keeps the interval and if it begins one
abbrev kept : MonitorState → List ℕ → GroupMap
kept m acting = record { epoch = suc m.newest.epoch; interval = m.newest.interval; acting = acting; prev = m.newest.prev; prev_acting = m.newest.prev_acting }

abbrev begun : MonitorState → List ℕ → GroupMap
begun m acting = record { epoch = suc m.newest.epoch; interval = suc m.newest.epoch; acting = acting; prev = m.activated.interval; prev_acting = m.activated.acting }

abbrev chosen : MonitorState → List ℕ → Bool → GroupMap
chosen m acting b = if b then kept m acting else begun m acting

epoch-chosen : (m : MonitorState) (acting : List ℕ) (b : Bool) → (chosen m acting b).epoch ≡ suc m.newest.epoch
epoch-chosen m acting true = refl
epoch-chosen m acting false = refl

acting-chosen : (m : MonitorState) (acting : List ℕ) (b : Bool) → (chosen m acting b).acting ≡ acting
acting-chosen m acting true = refl
acting-chosen m acting false = refl

epoch-next_map : (m : MonitorState) (acting : List ℕ) → (next_map m acting).epoch ≡ suc m.newest.epoch
epoch-next_map m acting = epoch-chosen m acting (is_same_list m.newest.acting acting)

acting-next_map : (m : MonitorState) (acting : List ℕ) → (next_map m acting).acting ≡ acting
acting-next_map m acting = acting-chosen m acting (is_same_list m.newest.acting acting)

length-moved_from : (group replicas : ℕ) (up : List ℕ) (ms : List MonitorState) → length (moved_from group replicas up ms) ≡ length ms
length-moved_from group replicas up [] = refl
length-moved_from group replicas up (m ∷ ms) = ap suc (length-moved_from (group + 1) replicas up ms)

moved_epochs : (group replicas : ℕ) (up : List ℕ) (epoch : ℕ) (ms : List MonitorState) → ((i : ℕ) (m : MonitorState) → slice_get ms i ≡ Some m → m.newest.epoch ≡ epoch)
    → (i : ℕ) (m : MonitorState) → slice_get (moved_from group replicas up ms) i ≡ Some m → m.newest.epoch ≡ suc epoch
moved_epochs group replicas up epoch [] each zero m at = absurd (cc)
moved_epochs group replicas up epoch [] each (suc i) m at = absurd (cc)
moved_epochs group replicas up epoch (n ∷ ms) each zero m at =
    ap (λ (o : Option MonitorState). (unwrap_or o m).newest.epoch) (sym at) ∙ epoch-next_map n (acting_list replicas up group) ∙ ap suc (each zero n refl)
moved_epochs group replicas up epoch (n ∷ ms) each (suc i) m at = moved_epochs (group + 1) replicas up epoch ms (λ j l there. each (suc j) l there) i m at

pub moved_book : (nodes replicas epoch : ℕ) (up : List ℕ) (ms : List MonitorState) → IsBook nodes replicas epoch ms → IsBook nodes replicas (suc epoch) (moved_from 0 replicas up ms)
moved_book nodes replicas epoch up ms b = record {
  few_nodes = b.few_nodes;
  some_replicas = b.some_replicas;
  few_replicas = b.few_replicas;
  counted = ap is_group_count (length-moved_from 0 replicas up ms) ∙ b.counted;
  one_epoch = moved_epochs 0 replicas up epoch ms b.one_epoch;
}

-- the lists of the new maps may act, if each acting list may
pub maps_act : (group replicas : ℕ) (up : List ℕ) (ms : List MonitorState) → ((i : ℕ) → i < length ms → is_acting (acting_list replicas up (group + i)) ≡ true)
    → (k : ℕ) (d : NewMap) → k < length (maps_from group replicas up ms) → is_acting (slice_index_or (maps_from group replicas up ms) k d).map.acting ≡ true
maps_act group replicas up [] each k d low = absurd (omega (arith, low))
maps_act group replicas up (m ∷ ms) each zero d low =
    ap is_acting (acting-next_map m (acting_list replicas up group)) ∙ ap (λ j. is_acting (acting_list replicas up j)) (omega arith) ∙ each zero (omega arith)
maps_act group replicas up (m ∷ ms) each (suc k) d low =
    maps_act (group + 1) replicas up ms (λ i h. ap (λ j. is_acting (acting_list replicas up j)) (omega arith) ∙ each (suc i) (omega (arith, h))) k d (omega (arith, low))
