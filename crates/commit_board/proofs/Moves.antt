-- Each step keeps the rule of the board.
use Rattle.std.proofs.Common.{◌≡◌, ◌≢◌, ◌⊎◌, ℕ, zero, suc, ◌+◌, ◌%◌, ◌^◌, ◌<◌, ◌≤◌, List, [], ◌∷◌, ◌++◌, length, set, replicate, eqb, eq-eqb, ne_eqb, Bool, cond, refl, sym, ap, ◌∙◌, subst, ⊎_elim, arith, length-append, length-set}
use Rattle.std.specs.Prelude.{slice_index}
use mathlib.Core.List.{IsPrefix}
use mathlib.Core.Logic.{dite}
use native.Mathlib.Decide.{ℕ_discrete}
use mathlib.Core.Option.{some, none, some-ne-none, some-injective}
use lib.ListN.{get_elem?}
use Rattle.atomic_table.specs.Table.{State, Me, keeps, step, opening, Allows, Splits, Joins}
use Rattle.atomic_table.proofs.Lists.{at_last, at_longer, at_set, set_again, set_else, set_here}
use Rattle.pg_log.specs.declared.group.TheConstants.{LOG_LIMIT}
use Rattle.pg_log.specs.Requests.{ClientRequest}
use Rattle.commit_board.specs.declared.view.View.{View}
use Rattle.commit_board.specs.Lists.{list_at, put_at, longer, merged}
use Rattle.commit_board.specs.Rows.{HasRow, Fits, Kept, Adds, Looks, Merges, Compares, view_of, writes, owner, sees, other_rows, one_row, shared, received_of, new_reader, informed}
use Rattle.commit_board.proofs.Lists.{prefix_self, prefix_none, prefix_trans, longer_left, longer_right, longer_of, longer_either, list_at-put, list_at-put_else, list_at-merged}

-- the function f, but with x at k
swapped : {A : Type 0} → (ℕ → A) → ℕ → A → ℕ → A
swapped f k x i = cond (eqb i k) x (f i)

swapped_here : {A : Type 0} (f : ℕ → A) (k i : ℕ) (x : A) → i ≡ k → swapped f k x i ≡ x
unfolding swapped
swapped_here {A} f k i x e = ap (λ (b : Bool). cond b x (f i)) (eq-eqb i k e)

swapped_else : {A : Type 0} (f : ℕ → A) (k i : ℕ) (x : A) → i ≢ k → swapped f k x i ≡ f i
unfolding swapped
swapped_else {A} f k i x n = ap (λ (b : Bool). cond b x (f i)) (ne_eqb i k n)

no_view : (j : ℕ) (u : View) → get_elem? [] j ≢ some u
no_view j u e = some-ne-none u (sym e)

below_length : (l : List View) (j : ℕ) (u : View) → get_elem? l j ≡ some u → j < length l
below_length [] j u e = absurd (some-ne-none u (sym e))
below_length (x ∷ xs) zero u e = omega arith
below_length (x ∷ xs) (suc j) u e = let h = below_length xs j u e in omega arith

all_set : (F : ℕ → View → Type 0) (views : List View) (by : ℕ) (w : View) → F by w → ((j : ℕ) (u : View) → j ≢ by → get_elem? views j ≡ some u → F j u) → (j : ℕ) (u : View) → get_elem? (set views by w) j ≡ some u → F j u
all_set F views by w mine others j u e =
    ⊎_elim (λ (x : (j ≡ by) × (w ≡ u)). subst (λ (y : ℕ × View). F y.0 y.1) (λ i. (sym x.0 i, x.1 i)) mine)
    (λ (x : (j ≢ by) × (get_elem? views j ≡ some u)). others j u x.0 x.1)
    (at_set views by j w u e)

all_more : (F : ℕ → View → Type 0) (views : List View) (w : View) → F (length views) w → ((j : ℕ) (u : View) → get_elem? views j ≡ some u → F j u) → (j : ℕ) (u : View) → get_elem? (views ++ w ∷ []) j ≡ some u → F j u
all_more F [] w mine others zero u e = subst (F 0) (some-injective w u e) mine
all_more F [] w mine others (suc j) u e = absurd (some-ne-none u (sym e))
all_more F (x ∷ xs) w mine others zero u e = others zero u e
all_more F (x ∷ xs) w mine others (suc j) u e = all_more (λ k. F (suc k)) xs w mine (λ k. others (suc k)) j u e

-- A seat keeps a row also after one seat's view changed, if the new view keeps the row or the old
-- one didn't have it.
has_after : (views : List View) (by : ℕ) (v w : View) → get_elem? views by ≡ some v → (j i : ℕ) → (v.first ≤ i → i < v.end → (w.first ≤ i) × (i < w.end)) → HasRow views j i → HasRow (set views by w) j i
has_after views by v w at j i still h =
    dite (ℕ_discrete j by)
    (λ e.
    let same : h.0 ≡ v = some-injective h.0 v (sym h.1 ∙ ap (get_elem? views) e ∙ at) in
    let kept = still (subst (λ (u : View). u.first ≤ i) same h.2) (subst (λ (u : View). i < u.end) same h.3) in
    (w, ap (get_elem? (set views by w)) e ∙ set_here views by w (below_length views by v at), kept.0, kept.1))
    (λ ne. (h.0, set_else views by j w ne ∙ h.1, h.2, h.3))

-- a change of a view that keeps its rows
has_set : (views : List View) (by : ℕ) (v w : View) → get_elem? views by ≡ some v → w.first ≡ v.first → w.end ≡ v.end → (j i : ℕ) → HasRow views j i → HasRow (set views by w) j i
has_set views by v w at first end j i = has_after views by v w at j i (λ lo hi. (omega (arith, first, lo), omega (arith, end, hi)))

-- a new seat
has_more : (views : List View) (w : View) (j i : ℕ) → HasRow views j i → HasRow (views ++ w ∷ []) j i
has_more views w j i h = (h.0, at_longer views (w ∷ []) j h.0 h.1, h.2, h.3)

-- A view that writes nothing fits if what it knows and what it received are beginnings.
reads : (rows : ℕ) (logs : ℕ → List ClientRequest) (seat : ℕ → ℕ) (by : ℕ) (known received : List (List ClientRequest)) → ((i : ℕ) → IsPrefix (list_at known i) (logs i)) → ((i : ℕ) → IsPrefix (list_at received i) (logs i)) → Fits rows logs seat by (sees known received)
reads rows logs seat by known received k t = record { owns = λ i lo hi. absurd (omega arith); knows = k; received = t }

index_replicate : (n i : ℕ) → slice_index (replicate n 0) i ≡ 0
index_replicate zero i = refl
index_replicate (suc n) zero = refl
index_replicate (suc n) (suc i) = index_replicate n i

length_replicate : (n : ℕ) → length {A = ℕ} (replicate n 0) ≡ n
length_replicate zero = refl
length_replicate (suc n) = ap suc (length_replicate n)

pub begins : (rows : ℕ) (words : List ℕ) → words ≡ replicate rows 0 → Kept rows (opening words [] (owner rows))
begins rows words is = record {
  logs = λ i. [];
  seat = λ i. 0;
  count = ap length is ∙ length_replicate rows;
  words = λ i h. ap (λ (ws : List ℕ). slice_index ws i) is ∙ index_replicate rows i;
  writers = λ i lt. (owner rows, refl, omega arith, lt);
  views = all_more (Fits rows (λ i. []) (λ i. 0)) [] (owner rows) (record { owns = λ i lo hi. (hi, refl, refl); knows = λ i. prefix_none []; received = λ i. prefix_none [] }) (λ j u e. absurd (no_view j u e));
}

index_set : (l : List ℕ) (i a : ℕ) → i < length l → slice_index (set l i a) i ≡ a
index_set [] i a h = absurd (omega arith)
index_set (x ∷ xs) zero a h = refl
index_set (x ∷ xs) (suc i) a h = index_set xs i a (omega arith)

index_set_else : (l : List ℕ) (i j a : ℕ) → j ≢ i → slice_index (set l i a) j ≡ slice_index l j
index_set_else [] i j a n = refl
index_set_else (x ∷ xs) zero zero a n = absurd (n refl)
index_set_else (x ∷ xs) zero (suc j) a n = refl
index_set_else (x ∷ xs) (suc i) zero a n = refl
index_set_else (x ∷ xs) (suc i) (suc j) a n = index_set_else xs i j a (λ e. n (ap suc e))

next : (n : ℕ) → n < LOG_LIMIT → (n + 1) % 2 ^ 64 ≡ n + 1
next n h = omega arith

-- a row's list grows by a request, at the seat that may write it
grown : (rows id row : ℕ) (written : List ClientRequest) (request : ClientRequest) (s : State ℕ View) → row < rows → length written < LOG_LIMIT → Kept rows s → get_elem? s.views id ≡ some (writes row (suc row) written)
    → Kept rows record { words = set s.words row ((slice_index s.words row + 1) % 2 ^ 64); homes = s.homes; views = set s.views id (writes row (suc row) (written ++ request ∷ [])) }
grown rows id row written request s lt room kept at =
    let mine = kept.views id (writes row (suc row) written) at in
    let owned = mine.owns row (omega arith) (omega arith) in
    let more : List ClientRequest = written ++ request ∷ [] in
    let logs' : ℕ → List ClientRequest = swapped kept.logs row more in
    let here : logs' row ≡ more = swapped_here kept.logs row row more refl in
    let grows : (i : ℕ) → IsPrefix (kept.logs i) (logs' i) = λ i.
    dite (ℕ_discrete i row)
    (λ e. subst (λ (l : List ClientRequest). IsPrefix (kept.logs i) l) (sym (swapped_here kept.logs row i more e)) (request ∷ [], ap (λ (l : List ClientRequest). l ++ request ∷ []) (ap kept.logs e ∙ sym owned.2)))
    (λ ne. subst (λ (l : List ClientRequest). IsPrefix (kept.logs i) l) (sym (swapped_else kept.logs row i more ne)) (prefix_self (kept.logs i))) in
    let found : slice_index s.words row ≡ length written = kept.words row lt ∙ ap length (sym owned.2) in
    let n : ℕ = (slice_index s.words row + 1) % 2 ^ 64 in
    let grew : n ≡ length more = ap (λ (k : ℕ). (k + 1) % 2 ^ 64) found ∙ next (length written) room ∙ sym (length-append written (request ∷ [])) in
    let within : row < length s.words = subst (λ (k : ℕ). row < k) (sym kept.count) lt in record {
      logs = logs';
      seat = kept.seat;
      count = length-set s.words row n ∙ kept.count;
      words = λ i h. dite (ℕ_discrete i row)
          (λ e. ap (λ (k : ℕ). slice_index (set s.words row n) k) e ∙ index_set s.words row n within ∙ grew ∙ ap length (sym here ∙ ap logs' (sym e)))
          (λ ne. index_set_else s.words row i n ne ∙ kept.words i h ∙ ap length (sym (swapped_else kept.logs row i more ne)));
      writers = λ i h. has_set s.views id (writes row (suc row) written) (writes row (suc row) more) at refl refl (kept.seat i) i (kept.writers i h);
      views = all_set (Fits rows logs' kept.seat) s.views id (writes row (suc row) more)
          record {
            owns = λ i lo hi. let e : i ≡ row = omega arith in (subst (λ (k : ℕ). k < rows) (sym e) lt, ap kept.seat e ∙ owned.1, sym here ∙ ap logs' (sym e));
            knows = λ i. prefix_none (logs' i);
            received = λ i. prefix_none (logs' i);
          }
          (λ j u apart e. let f = kept.views j u e in record {
            owns = λ i lo hi. let o = f.owns i lo hi in (o.0, o.1, o.2 ∙ sym (swapped_else kept.logs row i more (λ same. apart (sym o.1 ∙ ap kept.seat same ∙ owned.1))));
            knows = λ i. prefix_trans (list_at u.known i) (kept.logs i) (logs' i) (f.knows i) (grows i);
            received = λ i. prefix_trans (list_at u.received i) (kept.logs i) (logs' i) (f.received i) (grows i);
          });
    }

-- one seat's view changes, but for its rows, and nothing else does
abbrev changed : (rows id : ℕ) (s : State ℕ View) (v w : View) (words : List ℕ) → words ≡ s.words → (kept : Kept rows s) → get_elem? s.views id ≡ some v → w.first ≡ v.first → w.end ≡ v.end → Fits rows kept.logs kept.seat id w
    → Kept rows record { words = words; homes = s.homes; views = set s.views id w }
changed rows id s v w words is kept at first end fits = record {
  logs = kept.logs;
  seat = kept.seat;
  count = ap length is ∙ kept.count;
  words = λ i h. ap (λ (ws : List ℕ). slice_index ws i) is ∙ kept.words i h;
  writers = λ i lt. has_set s.views id v w at first end (kept.seat i) i (kept.writers i lt);
  views = all_set (Fits rows kept.logs kept.seat) s.views id w fits (λ j u apart e. kept.views j u e);
}

set_index : (l : List ℕ) (i : ℕ) → set l i (slice_index l i) ≡ l
set_index [] i = refl
set_index (x ∷ xs) zero = refl
set_index (x ∷ xs) (suc i) = ap (λ (l : List ℕ). x ∷ l) (set_index xs i)

module _ (rows slots id : ℕ) where
  pub adds : (row k : ℕ) (me : Me ℕ View) (written : List ClientRequest) (request : ClientRequest) → row < rows → length written < LOG_LIMIT → k ≡ 1 → me ≡ (writes row (suc row) written, [])
      → Allows (Kept rows) slots id me row (λ n. (n + k) % 2 ^ 64) (Adds request (step slots row k 0 none) me)
  adds row k me written request lt room one is =
      let here : Allows (Kept rows) slots id (writes row (suc row) written, []) row (λ n. (n + 1) % 2 ^ 64) (Adds request (step slots row 1 0 none) (writes row (suc row) written, [])) =
      λ s kept homes at small. (writes row (suc row) (written ++ request ∷ []), keeps, tt, grown rows id row written request s lt room kept at, refl) in
      subst (λ (p : ℕ × Me ℕ View). Allows (Kept rows) slots id p.1 row (λ n. (n + p.0) % 2 ^ 64) (Adds request (step slots row p.0 0 none) p.1)) (λ i. (sym one i, sym is i)) here

  pub looks : (row : ℕ) (me : Me ℕ View) (known : List (List ClientRequest)) → row < rows → me ≡ (sees known [], [])
      → Allows (Kept rows) slots id me row (λ n. n) (Looks (step slots row 0 0 none) me)
  looks row me known lt is =
      let here : Allows (Kept rows) slots id (sees known [], []) row (λ n. n) (Looks (step slots row 0 0 none) (sees known [], [])) =
      λ s kept homes at small.
      let mine = kept.views id (sees known []) at in
      let l : List ClientRequest = kept.logs row in
      let put = put_at known row l in
      let fits : (i : ℕ) → IsPrefix (list_at put i) (kept.logs i) = λ i.
      dite (ℕ_discrete i row)
      (λ e. subst (λ (x : List ClientRequest). IsPrefix x (kept.logs i)) (ap kept.logs e ∙ sym (list_at-put known row l) ∙ ap (list_at put) (sym e)) (prefix_self (kept.logs i)))
      (λ ne. subst (λ (x : List ClientRequest). IsPrefix x (kept.logs i)) (sym (list_at-put_else known row i l ne)) (mine.knows i)) in
      (sees put [], keeps, tt, changed rows id s (sees known []) (sees put []) (set s.words row (slice_index s.words row)) (set_index s.words row) kept at refl refl (reads rows kept.logs kept.seat id put [] fits (λ i. prefix_none (kept.logs i))), (l, sym (kept.words row lt), mine.knows row, refl)) in
      subst (λ (m : Me ℕ View). Allows (Kept rows) slots id m row (λ n. n) (Looks (step slots row 0 0 none) m)) (sym is) here

  pub unites : (row : ℕ) (me : Me ℕ View) (known received : List (List ClientRequest)) → me ≡ (sees known received, [])
      → Allows (Kept rows) slots id me row (λ n. n) (Merges (step slots row 0 0 none) me)
  unites row me known received is =
      let here : Allows (Kept rows) slots id (sees known received, []) row (λ n. n) (Merges (step slots row 0 0 none) (sees known received, [])) =
      λ s kept homes at small.
      let mine = kept.views id (sees known received) at in
      let all = merged known received in
      let at_all : (i : ℕ) → longer (list_at known i) (list_at received i) ≡ list_at all i = λ i. sym (list_at-merged known received i) in (
        sees all [],
        keeps,
        tt,
        changed rows id s (sees known received) (sees all []) (set s.words row (slice_index s.words row)) (set_index s.words row) kept at refl refl
            (reads rows kept.logs kept.seat id all [] (λ i. subst (λ (x : List ClientRequest). IsPrefix x (kept.logs i)) (at_all i) (longer_of (list_at known i) (list_at received i) (kept.logs i) (mine.knows i) (mine.received i))) (λ i. prefix_none (kept.logs i))),
        (
          (λ i. (
            subst (λ (x : List ClientRequest). IsPrefix (list_at known i) x) (at_all i) (longer_left (list_at known i) (list_at received i) (kept.logs i) (mine.knows i) (mine.received i)),
            subst (λ (x : List ClientRequest). IsPrefix (list_at received i) x) (at_all i) (longer_right (list_at known i) (list_at received i) (kept.logs i) (mine.knows i) (mine.received i)),
            subst (λ (x : List ClientRequest). (x ≡ list_at known i) ⊎ (x ≡ list_at received i)) (at_all i) (longer_either (list_at known i) (list_at received i) (kept.logs i) (mine.knows i) (mine.received i)),
          )),
          refl,
        ),
      ) in
      subst (λ (m : Me ℕ View). Allows (Kept rows) slots id m row (λ n. n) (Merges (step slots row 0 0 none) m)) (sym is) here

  pub compares : (row : ℕ) (me : Me ℕ View) (written : List ClientRequest) (received : List (List ClientRequest)) → row < rows → me ≡ (view_of row (suc row) written [] received, [])
      → Allows (Kept rows) slots id me row (λ n. n) (Compares (step slots row 0 0 none) me)
  compares row me written received lt is =
      let v : View = view_of row (suc row) written [] received in
      let here : Allows (Kept rows) slots id (v, []) row (λ n. n) (Compares (step slots row 0 0 none) (v, [])) =
      λ s kept homes at small.
      let mine = kept.views id v at in
      let owned = mine.owns row (omega arith) (omega arith) in
      let w : View = writes row (suc row) written in (
        w,
        keeps,
        tt,
        changed rows id s v w (set s.words row (slice_index s.words row)) (set_index s.words row) kept at refl refl
            (record { owns = mine.owns; knows = λ i. prefix_none (kept.logs i); received = λ i. prefix_none (kept.logs i) }),
        (subst (λ (l : List ClientRequest). IsPrefix (list_at received row) l) (sym owned.2) (mine.received row), refl),
      ) in
      subst (λ (m : Me ℕ View). Allows (Kept rows) slots id m row (λ n. n) (Compares (step slots row 0 0 none) m)) (sym is) here

-- a seat gives a new seat some of what it knows
gives : (rows id : ℕ) (v : View) (known : List (List ClientRequest)) → ((logs : ℕ → List ClientRequest) (seat : ℕ → ℕ) → Fits rows logs seat id v → (i : ℕ) → IsPrefix (list_at known i) (logs i)) → Splits (Kept rows) id v v (sees known [])
gives rows id v known part s kept at =
    let same : set s.views id v ≡ s.views = set_again s.views id v at in record {
      logs = kept.logs;
      seat = kept.seat;
      count = kept.count;
      words = kept.words;
      writers = λ i lt. has_more (set s.views id v) (sees known []) (kept.seat i) i (has_set s.views id v v at refl refl (kept.seat i) i (kept.writers i lt));
      views = subst (λ (l : List View). (j : ℕ) (u : View) → get_elem? (l ++ sees known [] ∷ []) j ≡ some u → Fits rows kept.logs kept.seat j u) (sym same)
          (all_more (Fits rows kept.logs kept.seat) s.views (sees known []) (reads rows kept.logs kept.seat (length s.views) known [] (part kept.logs kept.seat (kept.views id v at)) (λ i. prefix_none (kept.logs i))) (λ j u e. kept.views j u e));
    }

pub freshens : (rows id : ℕ) (v : View) → Splits (Kept rows) id v v (new_reader v)
freshens rows id v = gives rows id v [] (λ logs seat f i. prefix_none (logs i))

pub tells : (rows id : ℕ) (v : View) → Splits (Kept rows) id v v (received_of v)
tells rows id v = gives rows id v v.known (λ logs seat f i. f.knows i)

pub shares : (rows id row : ℕ) (v : View) (written : List ClientRequest) → v ≡ writes row (suc row) written → Splits (Kept rows) id v v (shared v)
shares rows id row v written is = subst (λ (x : View). Splits (Kept rows) id x x (shared x)) (sym is)
    (gives rows id (writes row (suc row) written) (put_at [] row written) (λ logs seat f i.
    dite (ℕ_discrete i row)
    (λ e. subst (λ (x : List ClientRequest). IsPrefix x (logs i)) (sym (f.owns i (omega arith) (omega arith)).2 ∙ sym (list_at-put [] row written) ∙ ap (list_at (put_at [] row written)) (sym e)) (prefix_self (logs i)))
    (λ ne. subst (λ (x : List ClientRequest). IsPrefix x (logs i)) (sym (list_at-put_else [] row i written ne)) (prefix_none (logs i)))))

pub informs : (rows id other : ℕ) (v u : View) (received : List (List ClientRequest)) → u ≡ sees received [] → Joins (Kept rows) id v other u (informed v u) (sees [] [])
informs rows id other v u received is = subst (λ (x : View). Joins (Kept rows) id v other x (informed v x) (sees [] [])) (sym is) here
  where
    here : Joins (Kept rows) id v other (sees received []) (view_of v.first v.end v.written v.known received) (sees [] [])
    here s kept at apart there =
        let w : View = view_of v.first v.end v.written v.known received in
        let mine = kept.views id v at in
        let was : get_elem? s.views other ≡ some (sees received []) = ⊎_elim (λ (x : (other ≡ id) × (w ≡ sees received [])). absurd (apart x.0)) (λ (x : (other ≢ id) × (get_elem? s.views other ≡ some (sees received []))). x.1) (at_set s.views id other w (sees received []) there) in
        let theirs = kept.views other (sees received []) was in
        let once = changed rows id s v w s.words refl kept at refl refl (record { owns = mine.owns; knows = mine.knows; received = theirs.knows }) in
        changed rows other record { words = s.words; homes = s.homes; views = set s.views id w } (sees received []) (sees [] []) s.words refl once there refl refl (reads rows kept.logs kept.seat other [] [] (λ i. prefix_none (kept.logs i)) (λ i. prefix_none (kept.logs i)))

pub one_row_splits : (rows id first : ℕ) (v : View) → first < rows → v ≡ writes first rows [] → Splits (Kept rows) id v (other_rows v) (one_row v)
one_row_splits rows id first v lt is = subst (λ (x : View). Splits (Kept rows) id x (other_rows x) (one_row x)) (sym is) here
  where
    here : Splits (Kept rows) id (writes first rows []) (writes (suc first) rows []) (writes first (suc first) [])
    here s kept at =
        let mine = kept.views id (writes first rows []) at in
        let owned = mine.owns first (omega arith) lt in
        let v' : View = writes (suc first) rows [] in
        let new : View = writes first (suc first) [] in
        let views' : List View = set s.views id v' in
        let seat' : ℕ → ℕ = swapped kept.seat first (length views') in record {
          logs = kept.logs;
          seat = seat';
          count = kept.count;
          words = kept.words;
          writers = λ i h. dite (ℕ_discrete i first)
              (λ e. (new, ap (get_elem? (views' ++ new ∷ [])) (swapped_here kept.seat first i (length views') e) ∙ at_last views' new (length views') refl, omega (arith, e), omega (arith, e)))
              (λ ne. subst (λ (j : ℕ). HasRow (views' ++ new ∷ []) j i) (sym (swapped_else kept.seat first i (length views') ne))
              (has_more views' new (kept.seat i) i (has_after s.views id (writes first rows []) v' at (kept.seat i) i (λ lo hi. (omega (arith, lo, ne), hi)) (kept.writers i h))));
          views = all_more (Fits rows kept.logs seat') views' new
              record {
                owns = λ i lo hi. let e : i ≡ first = omega arith in (subst (λ (k : ℕ). k < rows) (sym e) lt, swapped_here kept.seat first i (length views') e, owned.2 ∙ ap kept.logs (sym e));
                knows = λ i. prefix_none (kept.logs i);
                received = λ i. prefix_none (kept.logs i);
              }
              (all_set (Fits rows kept.logs seat') s.views id v'
              record {
                owns = λ i lo hi. let o = mine.owns i (omega arith) hi in (o.0, swapped_else kept.seat first i (length views') (λ e. omega arith) ∙ o.1, o.2);
                knows = λ i. prefix_none (kept.logs i);
                received = λ i. prefix_none (kept.logs i);
              }
              (λ j u apart e. let f = kept.views j u e in record {
                owns = λ i lo hi. let o = f.owns i lo hi in (o.0, swapped_else kept.seat first i (length views') (λ same. apart (sym o.1 ∙ ap kept.seat same ∙ owned.1)) ∙ o.1, o.2);
                knows = f.knows;
                received = f.received;
              }));
        }
