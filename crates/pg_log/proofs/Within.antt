-- The objects of a legal list are within the limits.
use Rattle.std.proofs.Common.{◌≡◌, ℕ, zero, suc, ◌≤◌, List, [], ◌∷◌, Option, Some, None, Bool, true, false, cond, length, refl, ap, sym, ◌∙◌, subst}
use Rattle.std.specs.List.{AllByRecursion, slice_get}
use Rattle.std.specs.FinMap as map
use Rattle.std.proofs.lemmas.Option.{none-some, same_Some}
use Rattle.std.specs.Cmp.Lexicographic.{slice_cmp}
use Rattle.std.specs.Ordering.{nat_cmp, eq_by_cmp}
use Rattle.std.proofs.lemmas.Cmp.{nat_list_cmp_total}
use Rattle.bpf_decode.specs.Class.{ClassMethod, IsMethod, IsClass}
use Rattle.object_store.specs.Object.{PlainObject, IsObject}
use Rattle.object_store.specs.Names.{PlainObjects, stored}
use Rattle.bpf_machine.specs.State.{AreCapacities}
use Rattle.bpf_machine.specs.Safe.{caps_of}
use Rattle.bpf_machine.specs.Within.{CallsAreWithinLimits}
use Rattle.pg_log.specs.Requests.{ClientRequest}
use Rattle.pg_log.specs.Log.{Classes, CanRun, method_in, method_of, outcome_of_method, after, fold_from}
use Rattle.pg_log.proofs.Ran.{method_named-is}
use Rattle.pg_log.specs.Within.{IsRequest, AreWithinLimits, FoldsAreWithinLimits}

within_cond : (b : Bool) (x y : PlainObject) → IsObject x → IsObject y → IsObject (cond b x y)
within_cond true x y h k = h
within_cond false x y h k = k

-- storing an object within the limits keeps all objects within them
store_within : (objects : PlainObjects) (name : List ℕ) (o : PlainObject) → AreWithinLimits objects → IsObject o → AreWithinLimits (stored objects name o)
store_within objects name None h k q =
    subst IsObject (sym (map.get-remove nat_list_cmp_total objects name q)) (within_cond (eq_by_cmp (slice_cmp nat_cmp) q name) None (map.get objects q) k (h q))
store_within objects name (Some c) h k q =
    subst IsObject (sym (map.get-insert nat_list_cmp_total objects name c q)) (within_cond (eq_by_cmp (slice_cmp nat_cmp) q name) (Some c) (map.get objects q) k (h q))

-- a method leaves its object within the limits
left_within : CallsAreWithinLimits → (method : Option ClassMethod) (o : PlainObject) (r : ClientRequest) → IsObject o → IsRequest r →
    ((m : ClassMethod) → method ≡ Some m → (length r.input ≤ m.in_cap) × IsMethod m) → IsObject (outcome_of_method method o r).object
unfolding outcome_of_method
left_within calls None o r h q short = h
left_within calls (Some m) o r h q short =
    let is = (short m refl).1 in
    let capacities : AreCapacities (caps_of m) = record { input = is.in_cap; output = is.out_cap } in
    (calls m capacities o r.client r.input (record { within_limits = h; client = q.client; short = (short m refl).0; bytes = q.bytes })).object

-- the method of a request that can run takes its input
same_method : {m n : ClassMethod} → Some m ≡ Some n → m.in_cap ≡ n.in_cap
same_method e = ap (λ o. in_cap_of o) e
  where
    in_cap_of : Option ClassMethod → ℕ
    in_cap_of None = 0
    in_cap_of (Some m) = m.in_cap

loaded_class : (classes : Classes) (id : ℕ) (class : List ClassMethod) → AllByRecursion IsClass classes → slice_get classes id ≡ Some class → IsClass class
loaded_class [] id class all e = absurd (none-some class e)
loaded_class (c ∷ cs) zero class all e =
    let P : List ClassMethod → Type 0 = IsClass in
    subst P (same_Some c class e) all.0
loaded_class (c ∷ cs) (suc id) class all e = loaded_class cs id class all.1 e

pub takes_input : (classes : Classes) (r : ClientRequest) → CanRun classes r → (m : ClassMethod) → method_of classes r ≡ Some m → length r.input ≤ m.in_cap
takes_input classes r can m e =
    subst (λ n. length r.input ≤ n) (same_method (sym can.named ∙ ap (λ c. method_in c r.method) (sym can.loaded) ∙ e)) can.short

-- the method of a request is within its class's limits
pub is_method : (classes : Classes) (r : ClientRequest) → AllByRecursion IsClass classes → CanRun classes r → (m : ClassMethod) → method_of classes r ≡ Some m → IsMethod m
is_method classes r all can m e =
    method_named-is can.class r.method m (loaded_class classes r.class can.class all can.loaded).methods (ap (λ c. method_in c r.method) (sym can.loaded) ∙ e)

after_within : CallsAreWithinLimits → (classes : Classes) → AllByRecursion IsClass classes → (objects : PlainObjects) (r : ClientRequest) → CanRun classes r → IsRequest r → AreWithinLimits objects → AreWithinLimits (after classes objects r)
after_within calls classes all objects r can q h =
    store_within objects r.object (outcome_of_method (method_of classes r) (map.get objects r.object) r).object h
    (left_within calls (method_of classes r) (map.get objects r.object) r (h r.object) q (λ m e. (takes_input classes r can m e, is_method classes r all can m e)))

from_within : CallsAreWithinLimits → (classes : Classes) → AllByRecursion IsClass classes → (objects : PlainObjects) (list : List ClientRequest) →
    ((i : ℕ) (r : ClientRequest) → slice_get list i ≡ Some r → CanRun classes r) → AllByRecursion IsRequest list → AreWithinLimits objects → AreWithinLimits (fold_from classes objects list)
from_within calls classes all objects [] can q h = h
from_within calls classes all objects (r ∷ rs) can q h =
    from_within calls classes all (after classes objects r) rs (λ i s e. can (suc i) s e) q.1 (after_within calls classes all objects r (can zero r refl) q.0 h)

none_within : AreWithinLimits map.empty
none_within q = subst IsObject (sym (map.get-empty (slice_cmp nat_cmp) q)) tt

pub folds_within : CallsAreWithinLimits → FoldsAreWithinLimits
folds_within calls classes list all legal q = from_within calls classes all map.empty list legal.run q none_within
