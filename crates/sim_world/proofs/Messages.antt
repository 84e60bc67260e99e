-- Messages as they are kept, and the messages that were sent.
use Rattle.std.proofs.Common.{◌≡◌, ◌≤◌, ◌-◌, ◌+◌, ◌==◌, ◌&&◌, ℕ, zero, suc, min, Bool, true, false, if◌then◌else◌, List, [], ◌∷◌, ◌++◌, length, map, drop, Option, Some, None, refl, ap, ◌∙◌, arith, slice_get}
use Rattle.std.proofs.lemmas.List.{length-drop}
use Rattle.std.specs.Prelude.{codes}
use Rattle.std.specs.List.{Contains}
use Rattle.carried.specs.Carried.{kind_as}
use Rattle.group_world.specs.Node.{NodeState}
use Rattle.group_world.specs.declared.party.Party.{Party}
use Rattle.group_world.specs.declared.party.Party.TheVariants.{Node as ANode, Monitor as TheMonitor, Client as AClient}
use Rattle.group_world.specs.declared.message.MessageKind.{MessageKind}
use Rattle.group_world.specs.declared.message.MessageKind.TheVariants.{Query, Log as LogOf, Install, Installed as InstalledIn, AskActivate, Activated, Rep, Ack, Reply as ReplyTo}
use Rattle.group_world.specs.declared.message.Packet.{Packet}
use Rattle.peering.specs.Numbered.{NumberedNode}
use Rattle.sim_world.specs.Kept.{carried_text}
use Rattle.sim_world.specs.Lines.{numbered}
use Rattle.sim_world.specs.Texts.{kind_text, word_and_two_numbers, text_between, message_lines, sent_text, last_text, taken_text}
use Rattle.sim_world.specs.declared.taken.Taken.{Taken}
use Rattle.sim_world.specs.declared.taken.Taken.TheVariants.{Bad, Skipped, Stopped, Sent, Refused, MonitorRefused, Made, Shown, Again}
use Rattle.sim_world.specs.Holds.{HasCommitted, IsKept, AreKept, MessageShown, kept_shown, message_shown}
use Rattle.sim_world.specs.Keeping.{kept_as}
use Rattle.sim_world.specs.Same.{is_same_kind, is_same_packet, is_same_party, number_from, number_of}
use Rattle.sim_world.specs.declared.kept.KeptMessage.{KeptMessage}
use Rattle.sim_world.specs.inner.Buckets.{again_number, is_same_carried, is_same_kept, kept_number_from}
use Rattle.sim_world.specs.inner.Parts.{committed_of, kept, kept_lines, kept_taken, kept_text, last_kept}

-- MORE MESSAGES

new_kept : (nodes : ℕ → NodeState) (list : List NumberedNode) (qs : List Packet) → ((q : Packet) → HasCommitted nodes q.receiver (committed_of list q.receiver))
    → AreKept nodes (map (kept list) qs) qs
new_kept nodes list [] h = tt
new_kept nodes list (q ∷ qs) h = (
  record {
    committed = committed_of list q.message.sender;
    reported = committed_of list q.receiver;
    same = refl;
    enough = h q;
  },
  new_kept nodes list qs h,
)

pub more_kept : (nodes : ℕ → NodeState) (list : List NumberedNode) (ks : List KeptMessage) (ps qs : List Packet) → AreKept nodes ks ps
    → ((q : Packet) → HasCommitted nodes q.receiver (committed_of list q.receiver)) → AreKept nodes (ks ++ map (kept list) qs) (ps ++ qs)
more_kept nodes list [] [] qs are h = new_kept nodes list qs h
more_kept nodes list [] (p ∷ ps) qs are h = absurd are
more_kept nodes list (k ∷ ks) [] qs are h = absurd are
more_kept nodes list (k ∷ ks) (p ∷ ps) qs are h = (are.0, more_kept nodes list ks ps qs are.1 h)

-- nodes that have committed more
still_has : (nodes next : ℕ → NodeState) → ((n : ℕ) → (nodes n).committed ≤ (next n).committed) → (receiver : Party) (reported : ℕ)
    → HasCommitted nodes receiver reported → HasCommitted next receiver reported
still_has nodes next grown (ANode n) reported h = omega (arith, h, grown n)
still_has nodes next grown TheMonitor reported h = tt
still_has nodes next grown (AClient client) reported h = tt

pub still_kept : (nodes next : ℕ → NodeState) → ((n : ℕ) → (nodes n).committed ≤ (next n).committed) → (ks : List KeptMessage) (ps : List Packet)
    → AreKept nodes ks ps → AreKept next ks ps
still_kept nodes next grown [] [] are = tt
still_kept nodes next grown [] (p ∷ ps) are = absurd are
still_kept nodes next grown (k ∷ ks) [] are = absurd are
still_kept nodes next grown (k ∷ ks) (p ∷ ps) are = (
  record {
    committed = are.0.committed;
    reported = are.0.reported;
    same = are.0.same;
    enough = still_has nodes next grown p.receiver are.0.reported are.0.enough;
  },
  still_kept nodes next grown ks ps are.1,
)

-- BY NUMBER
abbrev pub Both : (ℕ → NodeState) → Option KeptMessage → Option Packet → Type 0
Both nodes None None = Unit {0}
Both nodes None (Some p) = ⊥
Both nodes (Some k) None = ⊥
Both nodes (Some k) (Some p) = IsKept nodes k p

both_at : (nodes : ℕ → NodeState) (ks : List KeptMessage) (ps : List Packet) (i : ℕ) → AreKept nodes ks ps → Both nodes (slice_get ks i) (slice_get ps i)
both_at nodes [] [] i are = tt
both_at nodes [] (p ∷ ps) i are = absurd are
both_at nodes (k ∷ ks) [] i are = absurd are
both_at nodes (k ∷ ks) (p ∷ ps) zero are = are.0
both_at nodes (k ∷ ks) (p ∷ ps) (suc i) are = both_at nodes ks ps i are.1

both_unless : (nodes : ℕ → NodeState) (b : Bool) (o : Option KeptMessage) (q : Option Packet) → Both nodes o q → Both nodes (if b then None else o) (if b then None else q)
both_unless nodes true o q h = tt
both_unless nodes false o q h = h

pub both_numbered : (nodes : ℕ → NodeState) (ks : List KeptMessage) (ps : List Packet) (number : ℕ) → AreKept nodes ks ps → Both nodes (numbered ks number) (numbered ps number)
both_numbered nodes ks ps number are = both_unless nodes (number == 0) _ _ (both_at nodes ks ps (number - 1) are)

some_unless : {A : Type 0} (b : Bool) (o : Option A) (x : A) → (if b then None else o) ≡ Some x → o ≡ Some x
some_unless true o x e = absurd cc
some_unless false o x e = e

pub numbered_at : {A : Type 0} (xs : List A) (number : ℕ) (x : A) → numbered xs number ≡ Some x → slice_get xs (number - 1) ≡ Some x
numbered_at xs number x e = some_unless (number == 0) (slice_get xs (number - 1)) x e

same_some : {A : Type 0} (x y : A) → Some x ≡ Some y → x ≡ y
same_some x y e = cc

pub contains_at : {A : Type 0} (xs : List A) (i : ℕ) (x : A) → slice_get xs i ≡ Some x → Contains xs x
contains_at [] i x e = absurd cc
contains_at (y ∷ ys) zero x e = (0, omega arith, same_some y x e)
contains_at (y ∷ ys) (suc i) x e = let c = contains_at ys i x e in (suc c.0, omega (arith, c.1), c.2)

-- HOW MANY
pub as_many : (nodes : ℕ → NodeState) (ks : List KeptMessage) (ps : List Packet) → AreKept nodes ks ps → length ks ≡ length ps
as_many nodes [] [] are = refl
as_many nodes [] (p ∷ ps) are = absurd are
as_many nodes (k ∷ ks) [] are = absurd are
as_many nodes (k ∷ ks) (p ∷ ps) are = ap suc (as_many nodes ks ps are.1)

last_of : (nodes : ℕ → NodeState) (i : ℕ) (ks : List KeptMessage) (ps : List Packet) → AreKept nodes ks ps → AreKept nodes (drop i ks) (drop i ps)
last_of nodes zero ks ps are = are
last_of nodes (suc i) [] [] are = tt
last_of nodes (suc i) [] (p ∷ ps) are = absurd are
last_of nodes (suc i) (k ∷ ks) [] are = absurd are
last_of nodes (suc i) (k ∷ ks) (p ∷ ps) are = last_of nodes i ks ps are.1

-- EQUAL MESSAGES
same_carried : (committed reported : ℕ) (kind other : MessageKind) → is_same_carried (kind_as 0 0 kind) (kind_as committed reported other) ≡ is_same_kind kind other
same_carried committed reported (Query m) (Query n) = refl
same_carried committed reported (Query m) _ = refl
same_carried committed reported (Install m xs) (Install n ys) = refl
same_carried committed reported (Install m xs) _ = refl
same_carried committed reported (AskActivate i) (AskActivate j) = refl
same_carried committed reported (AskActivate i) _ = refl
same_carried committed reported (Rep i place r) (Rep j at q) = refl
same_carried committed reported (Rep i place r) _ = refl
same_carried committed reported (LogOf interval list) other = refl
same_carried committed reported (InstalledIn interval) other = refl
same_carried committed reported (Activated interval) other = refl
same_carried committed reported (Ack interval k) other = refl
same_carried committed reported (ReplyTo client number place answer) other = refl

equal_as : (q : Packet) (committed reported : ℕ) (p : Packet) → is_same_kept (kept_as 0 0 q) (kept_as committed reported p) ≡ is_same_packet q p
equal_as q committed reported p =
    ap (λ (b : Bool). is_same_party q.receiver p.receiver && (is_same_party q.message.sender p.message.sender && b))
    (same_carried committed reported q.message.kind p.message.kind)

number_among : (nodes : ℕ → NodeState) (q : Packet) (n : ℕ) (ks : List KeptMessage) (ps : List Packet) → AreKept nodes ks ps → kept_number_from n (kept_as 0 0 q) ks ≡ number_from n q ps
number_among nodes q n [] [] are = refl
number_among nodes q n [] (p ∷ ps) are = absurd are
number_among nodes q n (k ∷ ks) [] are = absurd are
number_among nodes q n (k ∷ ks) (p ∷ ps) are =
    ap (λ (b : Bool). if b then n else kept_number_from (suc n) (kept_as 0 0 q) ks) (ap (is_same_kept (kept_as 0 0 q)) are.0.same ∙ equal_as q are.0.committed are.0.reported p)
    ∙ ap (λ (m : ℕ). if is_same_packet q p then n else m) (number_among nodes q (suc n) ks ps are.1)

pub numbers_among : (nodes : ℕ → NodeState) (ks : List KeptMessage) (ps : List Packet) (qs : List Packet) → AreKept nodes ks ps → map (again_number ks) qs ≡ map (number_of ps) qs
numbers_among nodes ks ps [] are = refl
numbers_among nodes ks ps (q ∷ qs) are =
    ap (λ (n : ℕ). n ∷ map (again_number ks) qs) (number_among nodes q 1 ks ps are)
    ∙ ap (λ (ns : List ℕ). number_of ps q ∷ ns) (numbers_among nodes ks ps qs are)

-- TEXTS
whole_length : (reported n l : ℕ) → n ≡ l - min reported l → min reported l + n ≡ l
whole_length reported n l e = omega (arith, e)

same_text : (committed reported : ℕ) (kind : MessageKind) → carried_text (kind_as committed reported kind) ≡ kind_text kind
same_text committed reported (Query m) = refl
same_text committed reported (LogOf interval list) =
    ap (λ (n : ℕ). word_and_two_numbers (codes "Log") interval n) (whole_length reported _ (length list) (length-drop (min reported (length list)) list))
same_text committed reported (Install m list) = refl
same_text committed reported (InstalledIn interval) = refl
same_text committed reported (AskActivate interval) = refl
same_text committed reported (Activated interval) = refl
same_text committed reported (Rep interval place r) = refl
same_text committed reported (Ack interval k) = refl
same_text committed reported (ReplyTo client number place answer) = refl

same_lines : (nodes : ℕ → NodeState) (n : ℕ) (ks : List KeptMessage) (ps : List Packet) → AreKept nodes ks ps → kept_lines n ks ≡ message_lines n ps
same_lines nodes n [] [] are = refl
same_lines nodes n [] (p ∷ ps) are = absurd are
same_lines nodes n (k ∷ ks) [] are = absurd are
same_lines nodes n (k ∷ ks) (p ∷ ps) are =
    ap (λ (x : KeptMessage). text_between n x.message.sender x.receiver (carried_text x.message.kind) ++ kept_lines (suc n) ks) are.0.same
    ∙ ap (λ (t : List ℕ). text_between n p.message.sender p.receiver t ++ kept_lines (suc n) ks) (same_text are.0.committed are.0.reported p.message.kind)
    ∙ ap (λ (t : List ℕ). text_between n p.message.sender p.receiver (kind_text p.message.kind) ++ t) (same_lines nodes (suc n) ks ps are.1)

same_sent : (nodes : ℕ → NodeState) (n : ℕ) (ks : List KeptMessage) (ps : List Packet) → AreKept nodes ks ps → kept_text n ks ≡ sent_text n ps
same_sent nodes n [] [] are = refl
same_sent nodes n [] (p ∷ ps) are = absurd are
same_sent nodes n (k ∷ ks) [] are = absurd are
same_sent nodes n (k ∷ ks) (p ∷ ps) are = same_lines nodes n (k ∷ ks) (p ∷ ps) are

same_last : (nodes : ℕ → NodeState) (ks : List KeptMessage) (ps : List Packet) (count : ℕ) → AreKept nodes ks ps → last_kept ks count ≡ last_text ps count
same_last nodes ks ps count are =
    ap (λ (l : ℕ). kept_text (suc (l - count)) (drop (l - count) ks)) (as_many nodes ks ps are)
    ∙ same_sent nodes (suc (length ps - count)) (drop (length ps - count) ks) (drop (length ps - count) ps) (last_of nodes (length ps - count) ks ps are)

pub same_taken : (nodes : ℕ → NodeState) (ks : List KeptMessage) (ps : List Packet) (taken : Taken) → AreKept nodes ks ps → kept_taken ks taken ≡ taken_text ps taken
same_taken nodes ks ps Bad are = refl
same_taken nodes ks ps Skipped are = refl
same_taken nodes ks ps Stopped are = refl
same_taken nodes ks ps (Sent count) are = same_last nodes ks ps count are
same_taken nodes ks ps (Refused why) are = refl
same_taken nodes ks ps (MonitorRefused why) are = refl
same_taken nodes ks ps (Made m) are = refl
same_taken nodes ks ps (Shown s) are = refl
same_taken nodes ks ps (Again numbers) are = refl

-- MESSAGES AS THEY ARE SHOWN
pub same_shown : (nodes : ℕ → NodeState) (ks : List KeptMessage) (ps : List Packet) → AreKept nodes ks ps → map kept_shown ks ≡ map message_shown ps
same_shown nodes [] [] are = refl
same_shown nodes [] (p ∷ ps) are = absurd are
same_shown nodes (k ∷ ks) [] are = absurd are
same_shown nodes (k ∷ ks) (p ∷ ps) are =
    ap (λ (x : KeptMessage). kept_shown x ∷ map kept_shown ks) are.0.same
    ∙ ap (λ (t : List ℕ). record { sender = p.message.sender; receiver = p.receiver; text = t } ∷ map kept_shown ks) (same_text are.0.committed are.0.reported p.message.kind)
    ∙ ap (λ (ms : List MessageShown). message_shown p ∷ ms) (same_shown nodes ks ps are.1)
