-- The laws of legal lists, of their objects and of their replies.
use Rattle.std.specs.Prelude.{◌≡◌, ℕ, ◌<◌, ◌≤◌, List, [], ◌∷◌, ◌++◌, ◌↔◌, Some, None, slice_get, take, length}
use Rattle.std.specs.Int.{w64, cast_unsigned}
use Rattle.std.specs.FinMap as map
use Rattle.pg_log.specs.declared.entry.Entry.{Entry}
use Rattle.pg_log.specs.Requests.{ClientRequest}
use Rattle.pg_log.specs.Log.{Classes, Legal, after, fold, fold_from, reply_at, reply_to}
use Rattle.pg_log.specs.Entries.{AreEntries, requests_of, undone}
use Rattle.pg_log.specs.Refusals.{Follows, place_of, refusal, first_refusal, SomeCanRun}
use Rattle.pg_log.specs.Adopting.{IsCommonBeginning, rest_refusal}

-- every beginning of a legal list is legal
abbrev pub BeginningsAreLegal : Type 0
BeginningsAreLegal = (classes : Classes) (xs ys : List ClientRequest) → Legal classes (xs ++ ys) → Legal classes xs

-- so is the empty list
abbrev pub EmptyIsLegal : Type 0
EmptyIsLegal = (classes : Classes) → Legal classes []

-- a list with one more request is legal exactly if the list is and the request may follow it
abbrev pub AppendIsAStep : Type 0
AppendIsAStep = (classes : Classes) (xs : List ClientRequest) (r : ClientRequest) →
    Legal classes (xs ++ r ∷ []) ↔ (Legal classes xs × Follows classes xs r)

-- the objects of a list with one more request are those after the request on the list's objects
abbrev pub FoldIsAStep : Type 0
FoldIsAStep = (classes : Classes) (xs : List ClientRequest) (r : ClientRequest) →
    fold classes (xs ++ r ∷ []) ≡ after classes (fold classes xs) r

-- the objects of a longer list are those of its first part, changed by the requests of the rest
abbrev pub FoldGoesOn : Type 0
FoldGoesOn =
    (classes : Classes) (xs ys : List ClientRequest) → fold classes (xs ++ ys) ≡ fold_from classes (fold classes xs) ys

-- the objects of a beginning don't depend on the requests after it
abbrev pub FoldsStay : Type 0
FoldsStay = (classes : Classes) (xs ys : List ClientRequest) (k : ℕ) → k ≤ length xs →
    fold classes (take k (xs ++ ys)) ≡ fold classes (take k xs)

-- undoing the last entry's change gives the objects of the list before it
abbrev pub UndoingGoesBack : Type 0
UndoingGoesBack =
    (classes : Classes) (es : List Entry) (e : Entry) → AreEntries classes map.empty (es ++ e ∷ []) →
    undone (fold classes (requests_of (es ++ e ∷ []))) e.request.object e.change ≡ fold classes (requests_of es)

-- the replies of a beginning don't depend on the requests after it
abbrev pub RepliesStay : Type 0
RepliesStay = (classes : Classes) (xs ys : List ClientRequest) (k : ℕ) → k < length xs →
    reply_at classes (xs ++ ys) k ≡ reply_at classes xs k

-- the reply of one more request is that of the request on the objects before it
abbrev pub LastReply : Type 0
LastReply = (classes : Classes) (xs : List ClientRequest) (r : ClientRequest) →
    reply_at classes (xs ++ r ∷ []) (length xs) ≡ reply_to classes (fold classes xs) (Some r)

-- each place of a list has a reply, and no other place has one
abbrev pub RepliesAreThere : Type 0
RepliesAreThere =
    (classes : Classes) (xs : List ClientRequest) (k : ℕ) → (reply_at classes xs k ≡ None) ↔ (length xs ≤ k)

-- the reply in an entry is the reply at its place
abbrev pub EntriesHaveReplies : Type 0
EntriesHaveReplies =
    (classes : Classes) (es : List Entry) (k : ℕ) (e : Entry) → AreEntries classes map.empty es →
    slice_get es k ≡ Some e →
    reply_at classes (requests_of es) k ≡ Some (record { code = cast_unsigned w64 e.code; output = e.output.items })

-- each pair of client and number occurs at most once in a legal list
abbrev pub PairsStandOnce : Type 0
PairsStandOnce =
    (classes : Classes) (xs : List ClientRequest) → Legal classes xs → (i j : ℕ) (a b : ClientRequest) →
    slice_get xs i ≡ Some a → slice_get xs j ≡ Some b → a.client ≡ b.client → a.number ≡ b.number → i ≡ j

-- the place of a pair is the one at which it occurs
abbrev pub PlaceIsThePairs : Type 0
PlaceIsThePairs =
    (classes : Classes) (xs : List ClientRequest) → Legal classes xs → (i : ℕ) (a : ClientRequest) →
    slice_get xs i ≡ Some a → place_of a.client a.number xs ≡ Some i

-- the place of a pair is in range, and the request there has that client and number
abbrev pub PlaceHasThePair : Type 0
PlaceHasThePair =
    (xs : List ClientRequest) (client number place : ℕ) → place_of client number xs ≡ Some place →
    (place < length xs) × (a : ClientRequest) × (slice_get xs place ≡ Some a) × (a.client ≡ client) ×
    (a.number ≡ number)

-- With classes added to the table a legal list stays legal, with the same objects and replies.
pub record SameWithMore (classes more : Classes) (xs : List ClientRequest) : Type 0 where
  pub legal : Legal (classes ++ more) xs
  pub same_objects : fold (classes ++ more) xs ≡ fold classes xs
  pub same_replies : (k : ℕ) → reply_at (classes ++ more) xs k ≡ reply_at classes xs k

-- that is so of every legal list
abbrev pub ClassesAdded : Type 0
ClassesAdded = (classes more : Classes) (xs : List ClientRequest) → Legal classes xs → SameWithMore classes more xs

-- a request may follow a list exactly if there is no refusal
abbrev pub RefusalsAreExact : Type 0
RefusalsAreExact = (classes : Classes) (xs : List ClientRequest) (r : ClientRequest) →
    (refusal classes xs r ≡ None) ↔ Follows classes xs r

-- a list is legal exactly if none of its requests is refused after those before it
abbrev pub ListsAreExact : Type 0
ListsAreExact = (classes : Classes) (xs : List ClientRequest) → (first_refusal classes xs ≡ None) ↔ Legal classes xs

-- Adopting a list in place of a legal log is refused as replaying it is: the refusal of the rest is
-- that of the whole list, and if the common beginning isn't empty some request of the list can run.
pub record IsAsReplayed (classes : Classes) (list : List ClientRequest) (k : ℕ) : Type 0 where
  pub same : rest_refusal classes list k ≡ first_refusal classes list
  pub some : 0 < k → SomeCanRun classes list

-- that is so of every legal log and every list
abbrev pub AdoptingIsReplaying : Type 0
AdoptingIsReplaying =
    (classes : Classes) (own list : List ClientRequest) (k : ℕ) → Legal classes own → IsCommonBeginning own list k →
    IsAsReplayed classes list k
