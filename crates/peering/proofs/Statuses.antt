-- A primary that asks, installs or is active.
use Rattle.std.proofs.Common.{◌≡◌, ◌<◌, ℕ, Bool, true, false, ◌&&◌, cond, eqb, nat_lt, length, arith, List, ap, sym, ◌∙◌, refl}
use denote.Enum.Bare.{sameb}
use Rattle.std.proofs.lemmas.Bool.Decides.{nat_tests}
use Rattle.pg_log.specs.Requests.{ClientRequest}
use Rattle.pg_log.specs.Log.{Classes}
use Rattle.group_world.specs.contracts.status.Status.{the_type}
use Rattle.group_world.specs.declared.status.Status.{Status}
use Rattle.group_world.specs.declared.status.Status.TheVariants.{Out, Waiting, Installed, Asking, Installing, Active}
use Rattle.group_world.specs.Node.{NodeState, Outcome, nothing, is_active, is_asking, is_installed, is_installing}
use Rattle.group_world.specs.Rules.{acknowledge, activate, each_at, is_usable, adopt, adopt_log, commit, raised}
use Rattle.group_world.specs.declared.party.Party.{Party}
use Rattle.group_world.specs.declared.party.Party.TheVariants.{Node as ANode}

pub asking_is : (st : Status) → sameb the_type st Asking ≡ is_asking st
asking_is Out = refl
asking_is Waiting = refl
asking_is Installed = refl
asking_is Asking = refl
asking_is Installing = refl
asking_is Active = refl

pub active_is : (st : Status) → sameb the_type st Active ≡ is_active st
active_is Out = refl
active_is Waiting = refl
active_is Installed = refl
active_is Asking = refl
active_is Installing = refl
active_is Active = refl

pub adopts : (classes : Classes) (n : ℕ) (s : NodeState) (interval : ℕ) (list : List ClientRequest) → eqb interval s.interval ≡ true → is_asking s.status ≡ true → is_usable classes s list ≡ true →
    adopt n s list ≡ adopt_log classes n s interval list
adopts classes n s interval list a b u =
    sym (ap (λ x. cond (x && (is_asking s.status && is_usable classes s list)) (adopt n s list) (nothing s)) a
    ∙ ap (λ x. cond (x && is_usable classes s list) (adopt n s list) (nothing s)) b ∙ ap (λ x. cond x (adopt n s list) (nothing s)) u)

neither : (a b : Bool) → (a && (b && false)) ≡ false
neither true true = refl
neither true false = refl
neither false b = refl

pub adopts_not : (classes : Classes) (n : ℕ) (s : NodeState) (interval : ℕ) (list : List ClientRequest) → is_usable classes s list ≡ false → nothing s ≡ adopt_log classes n s interval list
adopts_not classes n s interval list u =
    sym (ap (λ x. cond (eqb interval s.interval && (is_asking s.status && x)) (adopt n s list) (nothing s)) u
    ∙ ap (λ x. cond x (adopt n s list) (nothing s)) (neither (eqb interval s.interval) (is_asking s.status)))

-- an active primary raises the member's length and then the commit point
pub acknowledges : (classes : Classes) (n m : ℕ) (s : NodeState) (sender : Party) (interval k : ℕ) → sender ≡ ANode m → eqb interval s.interval ≡ true → is_active s.status ≡ true →
    commit classes n (record s { acked = raised m k s.members.acting s.acked }) ≡ acknowledge classes n s sender interval k
acknowledges classes n m s sender interval k e a b =
    let raise : Outcome = commit classes n (record s { acked = raised m k s.members.acting s.acked }) in
    sym (ap (λ p. acknowledge classes n s p interval k) e ∙ ap (λ x. cond (x && is_active s.status) raise (nothing s)) a ∙ ap (λ x. cond x raise (nothing s)) b)

-- an Ack of another interval, or at a node that isn't active, changes nothing
pub acknowledges_not : (classes : Classes) (n m : ℕ) (s : NodeState) (sender : Party) (interval k : ℕ) → sender ≡ ANode m → (eqb interval s.interval && is_active s.status) ≡ false →
    nothing s ≡ acknowledge classes n s sender interval k
acknowledges_not classes n m s sender interval k e a =
    let raise : Outcome = commit classes n (record s { acked = raised m k s.members.acting s.acked }) in
    sym (ap (λ p. acknowledge classes n s p interval k) e ∙ ap (λ x. cond x raise (nothing s)) a)

pub below : (a b : ℕ) → a < b → nat_lt a b ≡ true
below a b h = grind (arith, nat_tests)

pub installed_is : (st : Status) → sameb the_type st Installed ≡ is_installed st
installed_is Out = refl
installed_is Waiting = refl
installed_is Installed = refl
installed_is Asking = refl
installed_is Installing = refl
installed_is Active = refl

pub installing_is : (st : Status) → sameb the_type st Installing ≡ is_installing st
installing_is Out = refl
installing_is Waiting = refl
installing_is Installed = refl
installing_is Asking = refl
installing_is Installing = refl
installing_is Active = refl

-- an installing primary becomes active
pub activates : (s : NodeState) (interval : ℕ) → eqb interval s.interval ≡ true → is_installing s.status ≡ true →
    nothing (record s { status = Active; committed = length s.log; acked = each_at s.members.acting (length s.log) }) ≡ activate s interval
activates s interval a b =
    let active : Outcome = nothing (record s { status = Active; committed = length s.log; acked = each_at s.members.acting (length s.log) }) in
    sym (ap (λ x. cond (x && is_installing s.status) active (nothing s)) a ∙ ap (λ x. cond x active (nothing s)) b)

pub activates_not : (s : NodeState) (interval : ℕ) → (eqb interval s.interval && is_installing s.status) ≡ false → nothing s ≡ activate s interval
activates_not s interval a =
    sym (ap (λ x. cond x (nothing (record s { status = Active; committed = length s.log; acked = each_at s.members.acting (length s.log) })) (nothing s)) a)
