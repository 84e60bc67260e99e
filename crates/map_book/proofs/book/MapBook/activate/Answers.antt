use Rattle.std.proofs.Common.{◌≡◌, ◌<◌, List, length, set, ap, ◌∙◌, subst, sym}
use Rattle.std.specs.Prelude.{MatchResult, Some, None, slice_get}
use Rattle.std.proofs.lemmas.Option.{slice_get-get_or}
use Rattle.group_world.specs.Maps.{GroupMap}
use Rattle.group_world.specs.Monitor.{MonitorState, activation_refusal, with_activated}
use Rattle.map_book.specs.Book.{Book}
use Rattle.map_book.proofs.Books.{newest_stays, changed_book, is_the_one, on_ok}
use Rattle.map_book.proofs.book.MapBook.activate.Goals as goal

pub invariant_of-self : goal.invariant_of-self
invariant_of-self c =
    let b = c.self.inside in
    let old = c.index_mut.result.now in
    let viewed = ap (λ (k : Book). k.monitors) c.self.view_is in
    let low = subst (λ (ms : List MonitorState). c.args.group < length ms) (sym viewed) c.requires in
    let there = slice_get-get_or b.monitors.items c.args.group old low ∙ ap (λ (m : MonitorState). Some m) (sym c.index_mut.ensures.value) in
    changed_book b.nodes b.replicas b.epoch b.monitors.items c.args.group c.activate.new.self c.self.invariant
    (ap (λ (m : GroupMap). m.epoch) (newest_stays c.activate.result old c.activate.new.self c.activate.ensures.ok c.activate.ensures.refused)
    ∙ c.self.invariant.one_epoch c.args.group old there)

pub returns-clause-answer : goal.returns-clause-answer
returns-clause-answer c m at =
    let viewed = ap (λ (k : Book). k.monitors) c.self.view_is in
    let low = subst (λ (ms : List MonitorState). c.args.group < length ms) (sym viewed) c.requires in
    let there = ap (λ (ms : List MonitorState). slice_get ms c.args.group) viewed ∙ at in
    let same = is_the_one c.self.inside.monitors.items c.args.group c.index_mut.result.now m low c.index_mut.ensures.value there in
    subst (λ (n : MonitorState). MatchResult c.activate.result (λ x. activation_refusal n c.args.interval ≡ None) (λ e. activation_refusal n c.args.interval ≡ Some e)) same c.activate.ensures.answer

pub returns-clause-ok : goal.returns-clause-ok
returns-clause-ok c m at =
    let b = c.self.inside in
    let viewed = ap (λ (k : Book). k.monitors) c.self.view_is in
    let low = subst (λ (ms : List MonitorState). c.args.group < length ms) (sym viewed) c.requires in
    let there = ap (λ (ms : List MonitorState). slice_get ms c.args.group) viewed ∙ at in
    let same = is_the_one b.monitors.items c.args.group c.index_mut.result.now m low c.index_mut.ensures.value there in
    let with_ms : List MonitorState → Book = λ ms. record { nodes = b.nodes; replicas = b.replicas; epoch = b.epoch; monitors = ms } in
    let after : Book → Book = λ k. record k { monitors = set k.monitors c.args.group (with_activated m) } in
    on_ok c.activate.result (c.activate.new.self ≡ with_activated c.index_mut.result.now) _
    (λ done. ap (λ (x : MonitorState). with_ms (set b.monitors.items c.args.group x)) (done ∙ ap with_activated same) ∙ ap after c.self.view_is)
    c.activate.ensures.ok
