use Rattle.std.proofs.Common.{◌≡◌, rules, map, Some, ap, subst, sym, ◌∙◌}
use Rattle.cluster_file.specs.declared.cluster_numbers.ClusterNumbers.{ClusterNumbers}
use Rattle.osd.specs.declared.config.Config.{Config}
use Rattle.cluster_tool.specs.Config.{config_of}
use Rattle.cluster_tool.specs.Played.{IsMapRefused, Plays}
use Rattle.cluster_tool.specs.declared.played.Played.{Played}
use Rattle.cluster_tool.specs.declared.played.Played.TheVariants.{Done}
use Rattle.cluster_tool.proofs.Configs.{within_limits}
use Rattle.cluster_tool.proofs.Printed.{all_made, map_refused}
use Rattle.cluster_tool.proofs.tool.settle_plan.Goals as goal

pub groups_if-groups-requires : goal.groups_if-groups-requires
groups_if-groups-requires g c = within_limits c.numbers.result c.in-Some.config (sym c.config_of.ensures ∙ c.in-Some.is)

pub new-requires : goal.new-requires
new-requires g c = within_limits c.numbers.result c.in-Some.config (sym c.config_of.ensures ∙ c.in-Some.is)

pub returns-in-Ok-MapRefused : goal.returns-in-Ok-MapRefused
returns-in-Ok-MapRefused g c =
    let plan = c.args.plan.now in
    let made : config_of c.numbers.result ≡ Some c.in-Some.config = sym c.config_of.ensures ∙ c.in-Some.is in
    let asked : config_of plan.numbers ≡ Some c.in-Some.config = subst (λ (n : ClusterNumbers). config_of n ≡ Some c.in-Some.config) c.numbers.ensures made in
    let same : c.in-Ok.parts.config ≡ c.in-Some.config = c.in-Ok.ensures in
    let is : config_of plan.numbers ≡ Some c.in-Ok.parts.config = asked ∙ ap (λ (x : Config). Some x) (sym same) in
    let played : Plays c.args.table c.in-Ok.parts.config plan.steps c.in-Ok-MapRefused.field-0 = c.in-Ok-MapRefused.ensures in
    let refused : IsMapRefused c.in-Ok.parts.config plan.steps c.in-Ok-MapRefused.line c.in-Ok-MapRefused.why =
    subst (λ (p : Played). Plays c.args.table c.in-Ok.parts.config plan.steps p) c.in-Ok-MapRefused.field-0-is played in
    map_refused c.args.script.now.asked.now c.args.table plan c.in-Ok.parts.config c.in-Ok-MapRefused.line c.in-Ok-MapRefused.why c.refused-in-Ok-MapRefused.result is refused
    c.refused-in-Ok-MapRefused.ensures.ending c.refused-in-Ok-MapRefused.ensures.text

pub returns-in-Ok-Done : goal.returns-in-Ok-Done
returns-in-Ok-Done g c =
    let plan = c.args.plan.now in
    let made : config_of c.numbers.result ≡ Some c.in-Some.config = sym c.config_of.ensures ∙ c.in-Some.is in
    let asked : config_of plan.numbers ≡ Some c.in-Some.config = subst (λ (n : ClusterNumbers). config_of n ≡ Some c.in-Some.config) c.numbers.ensures made in
    let played : Plays c.args.table c.in-Ok.parts.config plan.steps c.in-Ok-Done.field-0 = c.in-Ok-Done.ensures in
    let there : Plays c.args.table c.in-Ok.parts.config plan.steps (Done c.in-Ok-Done.ends) =
    subst (λ (p : Played). Plays c.args.table c.in-Ok.parts.config plan.steps p) c.in-Ok-Done.field-0-is played in
    let done : Plays c.args.table c.in-Some.config plan.steps (Done c.in-Ok-Done.ends) =
    subst (λ (x : Config). Plays c.args.table x plan.steps (Done c.in-Ok-Done.ends)) c.in-Ok.ensures there in
    all_made c.args.script.now.asked.now c.args.table plan c.in-Some.config (map (λ v. v.items) c.in-Ok-Done.ends.items) c.made.result asked
    done (search rules) (rw c.deref.ensures.value at c.made.ensures.ending)
