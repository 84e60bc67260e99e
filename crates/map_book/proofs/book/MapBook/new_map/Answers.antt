use Rattle.std.proofs.Common.{◌≡◌, ℕ, ◌<◌, suc, List, length, ap, ◌∙◌, subst, sym, arith, true}
use Rattle.std.specs.Prelude.{slice_index_or}
use Rattle.placement.specs.Placement.{is_acting}
use Rattle.group_world.specs.Monitor.{MonitorState}
use Rattle.map_book.specs.Book.{IsBook, acting_list}
use Rattle.map_book.specs.declared.new_map.NewMap.{NewMap}
use Rattle.map_book.proofs.Books.{moved_book, maps_act}
use Rattle.map_book.proofs.book.MapBook.new_map.Goals as goal

pub invariant_of-self : goal.invariant_of-self
invariant_of-self c =
    let b = c.self.inside in
    let epoch : suc b.epoch ≡ c.new-epoch.result = omega (arith, c.get-2.ensures.value, c.new-epoch.ensures) in
    let before = subst (λ (ms : List MonitorState). IsBook b.nodes b.replicas b.epoch ms) (sym c.deref.ensures.value) c.self.invariant in
    let moved = moved_book b.nodes b.replicas b.epoch c.in_ok-from_slice.field-0.items c.deref.result.now before in
    subst (λ (e : ℕ). IsBook b.nodes b.replicas e c.in_ok-monitors.monitors.items) epoch
    (subst (λ (ms : List MonitorState). IsBook b.nodes b.replicas (suc b.epoch) ms) (sym c.in_ok-monitors.ensures.monitors) moved)

pub returns-clause-acting : goal.returns-clause-acting
returns-clause-acting c k d low =
    let b = c.self.inside in
    let up = c.in_ok-from_slice.field-0.items in
    subst (λ (v : List NewMap). k < length v → is_acting (slice_index_or v k d).map.acting ≡ true) (sym c.in_ok-monitors.ensures.maps)
    (maps_act 0 b.replicas up c.deref.result.now (λ i h. ap (λ j. is_acting (acting_list b.replicas up j)) (omega arith) ∙ c.all_moved.ensures.acting i h) k d) low
