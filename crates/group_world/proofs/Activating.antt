-- An activated interval that the next map keeps stays activated.
use Rattle.std.proofs.Common.{◌≡◌, ℕ, suc, true, List, sym, ◌∙◌, ap}
use Rattle.std.proofs.lemmas.Bool.{cond-true}
use Rattle.group_world.specs.Maps.{GroupMap, interval_of, is_same_list}
use Rattle.group_world.specs.Monitor.{MonitorState, KeptStaysActivated, next_map, with_activated}
use Rattle.group_world.proofs.Lists.{is_same_list_true}

-- the next map's interval and acting list are those of the newest map
kept_interval_is : (m : MonitorState) (acting : List ℕ) → is_same_list m.newest.acting acting ≡ true → interval_of (next_map m acting) ≡ interval_of m.newest
kept_interval_is m acting same =
    let e : m.newest.acting ≡ acting = is_same_list_true _ _ same in
    let kept : GroupMap = record { epoch = suc m.newest.epoch; interval = m.newest.interval; acting = acting; prev = m.newest.prev; prev_acting = m.newest.prev_acting } in
    ap interval_of (cond-true (is_same_list m.newest.acting acting) kept (record { epoch = suc m.newest.epoch; interval = suc m.newest.epoch; acting = acting; prev = m.activated.interval; prev_acting = m.activated.acting }) same)
    ∙ (λ i. record { interval = m.newest.interval; acting = sym e i })

pub kept_stays : KeptStaysActivated
kept_stays m acting same =
    let n : MonitorState = with_activated m in
    λ i. record { newest = next_map n acting; activated = kept_interval_is n acting same i }
