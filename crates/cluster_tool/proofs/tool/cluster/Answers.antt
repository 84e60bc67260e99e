use Rattle.std.proofs.Common.{◌≡◌, ◌∙◌, ap, subst, List, ℕ, map, string_bytes, Bor}
use Rattle.cluster_file.specs.Plan.{plan_of}
use Rattle.tenant_classes.specs.Classes.{AreClasses, names_of}
use Rattle.tenant_classes.specs.declared.tenant_class.TenantClass.{TenantClass}
use Rattle.cluster_tool.specs.Clustering.{IsPrintoutOf}
use Rattle.cluster_tool.proofs.Printed.{ends_so}
use Rattle.cluster_tool.proofs.tool.cluster.Goals as goal

pub returns-in-Ok-clause-ends : goal.returns-in-Ok-clause-ends
returns-in-Ok-clause-ends g c =
    let disk = g.F.ReadableFiles.disk c.args.files.now in
    let tenants = c.args.asked.now.tenants.items in
    let table = c.in_ok-table.table in
    let asked = c.args.asked.now in
    let o = c.in-Ok.printout in
    let text = string_bytes c.in_ok-text.text in
    let f = λ (n : Bor (List ℕ)). n.now in
    let loaded : AreClasses disk tenants table = subst (λ (ts : List TenantClass). AreClasses disk ts table) c.deref.ensures.value c.in_ok-table.ensures.loaded in
    let names : map f c.deref-3.result.now ≡ names_of tenants = ap (map f) c.deref-3.ensures.value ∙ (c.in_ok-names.ensures ∙ ap names_of c.deref-2.ensures.value) in
    let by_names : IsPrintoutOf asked table (plan_of (names_of tenants) c.as_str.result.now) (string_bytes o.text) o.ending =
    subst (λ (ns : List (List ℕ)). IsPrintoutOf asked table (plan_of ns c.as_str.result.now) (string_bytes o.text) o.ending) names c.in-Ok.ensures in
    let comes : IsPrintoutOf asked table (plan_of (names_of tenants) text) (string_bytes o.text) o.ending =
    subst (λ (t : List ℕ). IsPrintoutOf asked table (plan_of (names_of tenants) t) (string_bytes o.text) o.ending) c.as_str.ensures.value by_names in
    record {
      classes = table;
      loaded = loaded;
      text = text;
      held = c.in_ok-text.ensures.held;
      ends = ends_so asked table (names_of tenants) text (string_bytes o.text) o.ending c.print.result _ _ _ _ comes c.print.ensures;
    }
