-- Lists of messages.
use Rattle.std.proofs.Common.{◌≡◌, ℕ, List, [], ◌∷◌, Bool, true, false, cond, ◌||◌, eqb, ap, sym, ◌∙◌, refl}
use Rattle.placement.specs.Placement.{has}
use Rattle.group_world.specs.Node.{packet, to_others}
use Rattle.group_world.specs.Unanswered.{to_missing}
use Rattle.group_world.specs.declared.party.Party.TheVariants.{Node as ANode}
use Rattle.group_world.specs.declared.message.MessageKind.{MessageKind}

-- if no node has joined, the message goes to all others
pub to_missing_none : (n : ℕ) (ms : List ℕ) (kind : MessageKind) → to_missing n [] ms kind ≡ to_others n ms kind
to_missing_none n [] kind = refl
to_missing_none n (m ∷ ms) kind =
    ap (λ ps. cond (eqb m n) ps (packet n (ANode m) kind ∷ ps)) (to_missing_none n ms kind)
    ∙ refl

-- the first of these nodes gets the message unless it is the sender
pub others_self : (n m : ℕ) (ms : List ℕ) (kind : MessageKind) → true ≡ eqb m n → to_others n (m ∷ ms) kind ≡ to_others n ms kind
others_self n m ms kind h = ap (λ b. cond b (to_others n ms kind) (packet n (ANode m) kind ∷ to_others n ms kind)) (sym h)

pub others_one : (n m : ℕ) (ms : List ℕ) (kind : MessageKind) → false ≡ eqb m n → to_others n (m ∷ ms) kind ≡ packet n (ANode m) kind ∷ to_others n ms kind
others_one n m ms kind h = ap (λ b. cond b (to_others n ms kind) (packet n (ANode m) kind ∷ to_others n ms kind)) (sym h)

-- and unless it has joined
pub missing_joined : (n m : ℕ) (js ms : List ℕ) (kind : MessageKind) → true ≡ has m js → to_missing n js (m ∷ ms) kind ≡ to_missing n js ms kind
missing_joined n m js ms kind h = ap (λ b. cond (b || eqb m n) (to_missing n js ms kind) (packet n (ANode m) kind ∷ to_missing n js ms kind)) (sym h)

pub missing_not : (n m : ℕ) (js ms : List ℕ) (kind : MessageKind) (self : Bool) → false ≡ has m js → self ≡ eqb m n →
    to_missing n js (m ∷ ms) kind ≡ cond self (to_missing n js ms kind) (packet n (ANode m) kind ∷ to_missing n js ms kind)
missing_not n m js ms kind self h e =
    ap (λ b. cond (b || eqb m n) (to_missing n js ms kind) (packet n (ANode m) kind ∷ to_missing n js ms kind)) (sym h)
    ∙ ap (λ b. cond b (to_missing n js ms kind) (packet n (ANode m) kind ∷ to_missing n js ms kind)) (sym e)
