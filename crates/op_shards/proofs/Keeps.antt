-- Each call keeps the rule of a queue.
use Rattle.std.proofs.Common.{◌≡◌, ◌≢◌, inr, ⊎_elim, ℕ, suc, ◌-◌, ◌%◌, ◌<◌, List, [], ◌∷◌, ◌++◌, length, take, set, refl, sym, ap, ◌∙◌, subst, arith, append_assoc}
use Rattle.std.proofs.lemmas.List.{append-nil}
use Rattle.std.proofs.Math.Seq.{take-append_seam}
use mathlib.Core.Logic.{dite}
use native.Mathlib.Decide.{ℕ_discrete}
use mathlib.Core.Option.{some, some-ne-none}
use lib.ListN.{get_elem?}
use Rattle.crossbeam_queue.specs.Fifo.{Pushes, Pops, Forks, Merges, Learns}
use Rattle.crossbeam_queue.proofs.Lists.{at_set}
use Rattle.atomic_table.proofs.Lists.{at_last}
use Rattle.op_shards.specs.declared.rule.QueuePosition.{QueuePosition}
use Rattle.op_shards.specs.declared.rule.Ranked.{Ranked}
use Rattle.op_shards.specs.declared.rule.PassState.{PassState}
use Rattle.op_shards.specs.Order.{pass_state, unopened, spent, sender, taker, free_end, other_senders, one_sender, put_alone, got_alone, together, of, IsRanked, Each, weigh, total, IsHere, HasSender, Fits, Kept, IsUnopened, Rule, KeptWith, Puts, Takes, Accounts}
use Rattle.op_shards.proofs.Operations.{swapped, swapped_here, swapped_else, all_set, all_more, set_here, has_set, has_more, has_rest, has_still, only_one, of_append, of_here, of_else, length_of_more, length_of_sender, ranked_snoc, ranked_at, each_snoc, each_at, each_append, each_so, weigh_append, weigh_ones, total_set, total_add, part_of_total, total_alone, weight_of, weigh_of}

module _ {T : Type 0} (group : T → ℕ) where
  -- a queue is in order if one of its passes knows the position
  opened : (items : List (Ranked T)) (views : List (PassState T)) (by : ℕ) (v : PassState T) → Rule group items views → get_elem? views by ≡ some v → 0 < v.place.shards → Kept group items views
  opened items views by v rule at some_shards =
      ⊎_elim
      (λ (u : IsUnopened items views).
      let one = only_one unopened v by (ap (λ (l : List (PassState T)). get_elem? l by) (sym u.1) ∙ at) in
      let none : v.place.shards ≡ 0 = ap (λ (w : PassState T). w.place.shards) one.1 in
      absurd (omega (arith, none, some_shards)))
      (λ (kept : Kept group items views). kept)
      rule

  -- only the passes change
  changed : (items : List (Ranked T)) (views views' : List (PassState T)) (kept : Kept group items views) (seat' : ℕ → ℕ)
      → ((h : Ranked T → ℕ) → total (λ (v : PassState T). weigh h v.got) views' ≡ total (λ (v : PassState T). weigh h v.got) views)
      → total (λ (v : PassState T). v.parts) views' ≡ total (λ (v : PassState T). v.parts) views
      → ((p : ℕ) → p < kept.place.senders → HasSender views' (seat' p) p)
      → ((by : ℕ) (v : PassState T) → get_elem? views' by ≡ some v → Fits kept.place kept.taken kept.sent seat' by v)
      → Kept group items views'
  changed items views views' kept seat' once parts seats passes = record {
    place = kept.place;
    taken = kept.taken;
    sent = kept.sent;
    seat = seat';
    some_shards = kept.some_shards;
    order = kept.order;
    ranks = kept.ranks;
    here = kept.here;
    once = λ h. kept.once h ∙ sym (once h);
    parts = parts ∙ kept.parts;
    seats = seats;
    passes = passes;
  }

  -- a pass without senders, without parts, and with nothing taken
  fits_idle : (place : QueuePosition) (taken : List (Ranked T)) (sent : ℕ → List (Ranked T)) (seat : ℕ → ℕ) (by : ℕ) (q : QueuePosition) → (0 < q.shard → 0 < q.shards) → (0 < q.shards → q ≡ place) → (k : ℕ) → Fits place taken sent seat by (taker q k [])
  fits_idle place taken sent seat by q known same k = record { opened = known; placed = same; senders = λ p lo hi. absurd (omega arith); past = tt; idle = λ none. refl }

  puts_keeps : (items : List (Ranked T)) (views : List (PassState T)) (by p : ℕ) (v : PassState T) (x : Ranked T) → v.first ≡ p → v.end ≡ suc p → 0 < v.place.shards → group x.op % v.place.shards ≡ v.place.shard → x.sender ≡ p → x.rank ≡ length v.put
      → Kept group items views → get_elem? views by ≡ some v → Kept group (items ++ x ∷ []) (set views by (pass_state v.place v.first v.end v.parts (v.put ++ x ∷ []) v.got))
  puts_keeps items views by p v x first end some_shards lies from rank kept at =
      let fits = kept.passes by v at in
      let mine = fits.senders p (omega (arith, first)) (omega (arith, end)) in
      let put' : List (Ranked T) = v.put ++ x ∷ [] in
      let w : PassState T = pass_state v.place v.first v.end v.parts put' v.got in
      let sent' : ℕ → List (Ranked T) = swapped kept.sent p put' in
      let here : (q : ℕ) → q ≡ p → sent' q ≡ put' = λ q e. swapped_here kept.sent p q put' e in
      record {
        place = kept.place;
        taken = kept.taken;
        sent = sent';
        seat = kept.seat;
        some_shards = kept.some_shards;
        order = λ q.
            let grown = ap (of q) (sym (append_assoc kept.taken items (x ∷ []))) ∙ of_append q (kept.taken ++ items) (x ∷ []) ∙ ap (λ (l : List (Ranked T)). l ++ of q (x ∷ [])) (kept.order q) in
            dite (ℕ_discrete q p)
            (λ e. grown ∙ ap (λ (l : List (Ranked T)). kept.sent q ++ l) (of_here q x [] (from ∙ sym e)) ∙ ap (λ (l : List (Ranked T)). l ++ x ∷ []) (ap kept.sent e ∙ sym mine.2) ∙ sym (here q e))
            (λ ne. grown ∙ ap (λ (l : List (Ranked T)). kept.sent q ++ l) (of_else q x [] (λ e. ne (sym e ∙ from))) ∙ append-nil (kept.sent q) ∙ sym (swapped_else kept.sent p q put' ne));
        ranks = λ q. dite (ℕ_discrete q p)
            (λ e. subst (IsRanked 0) (sym (here q e)) (ranked_snoc 0 v.put x (subst (IsRanked 0) (sym mine.2) (kept.ranks p)) (omega (arith, rank))))
            (λ ne. subst (IsRanked 0) (sym (swapped_else kept.sent p q put' ne)) (kept.ranks q));
        here = subst (Each (IsHere group kept.place)) (append_assoc kept.taken items (x ∷ [])) (each_snoc (IsHere group kept.place) (kept.taken ++ items) x kept.here
            (subst (λ (q : QueuePosition). group x.op % q.shards ≡ q.shard) (fits.placed some_shards) lies, subst (λ (k : ℕ). k < kept.place.senders) (sym from) mine.0));
        once = λ h. let t = total_set (λ (u : PassState T). weigh h u.got) views by v w at in let o = kept.once h in omega (arith, t, o);
        parts = let t = total_set (λ (u : PassState T). u.parts) views by v w at in let o = kept.parts in omega (arith, t, o);
        seats = λ q lt. has_set views by v w at refl refl (kept.seat q) q (kept.seats q lt);
        passes = all_set (Fits kept.place kept.taken sent' kept.seat) views by w
            (record {
              opened = fits.opened;
              placed = fits.placed;
              senders = λ q lo hi. let e : q ≡ p = omega (arith, first, end, lo, hi) in (subst (λ (k : ℕ). k < kept.place.senders) (sym e) mine.0, ap kept.seat e ∙ mine.1, sym (here q e));
              past = fits.past;
              idle = fits.idle;
            })
            (λ j u apart e. let f = kept.passes j u e in record {
              opened = f.opened;
              placed = f.placed;
              senders = λ q lo hi. let o = f.senders q lo hi in (o.0, o.1, o.2 ∙ sym (swapped_else kept.sent p q put' (λ same. apart (sym o.1 ∙ ap kept.seat same ∙ mine.1))));
              past = f.past;
              idle = f.idle;
            });
      }

  pub puts : (n by p : ℕ) (v : PassState T) (x : Ranked T) → v.first ≡ p → v.end ≡ suc p → 0 < v.place.shards → group x.op % v.place.shards ≡ v.place.shard → x.sender ≡ p → x.rank ≡ length v.put → Pushes (Rule group) n by v x (Puts group v x)
  puts n by p v x first end some_shards lies from rank items views room rule at =
      let w : PassState T = pass_state v.place v.first v.end v.parts (v.put ++ x ∷ []) v.got in
      let kept' = puts_keeps items views by p v x first end some_shards lies from rank (opened items views by v rule at some_shards) at in
      (w, inr kept', (refl, (items ++ x ∷ [], record { views = set views by w; by = by; kept = kept'; mine = set_here views by v w at })))

  -- the rank of the next operation
  next_rank : (x : Ranked T) (items : List (Ranked T)) (views : List (PassState T)) (kept : Kept group (x ∷ items) views) → x.rank ≡ length (of x.sender kept.taken)
  next_rank x items views kept =
      let p = x.sender in
      let parts = of_append p kept.taken (x ∷ items) ∙ ap (λ (l : List (Ranked T)). of p kept.taken ++ l) (of_here p x items refl) in
      let r = ranked_at 0 (of p kept.taken) (of p items) x (subst (IsRanked 0) (sym (kept.order p) ∙ parts) (kept.ranks p)) in
      omega (arith, r)

  takes_keeps : (by : ℕ) (v : PassState T) (x : Ranked T) (items : List (Ranked T)) (views : List (PassState T)) → 0 < v.parts → Kept group (x ∷ items) views → get_elem? views by ≡ some v → Kept group items (set views by (pass_state v.place v.first v.end v.parts v.put (v.got ++ x ∷ [])))
  takes_keeps by v x items views part kept at =
      let fits = kept.passes by v at in
      let w : PassState T = pass_state v.place v.first v.end v.parts v.put (v.got ++ x ∷ []) in
      let taken' : List (Ranked T) = kept.taken ++ x ∷ [] in
      let past' : (got : List (Ranked T)) → Each (λ y. y.rank < length (of y.sender kept.taken)) got → Each (λ y. y.rank < length (of y.sender taken')) got =
      λ got. each_so (λ y. y.rank < length (of y.sender kept.taken)) (λ y. y.rank < length (of y.sender taken')) got (λ y lt. let le = length_of_more y.sender kept.taken x in omega (arith, lt, le)) in
      let next = next_rank x items views kept in
      record {
        place = kept.place;
        taken = taken';
        sent = kept.sent;
        seat = kept.seat;
        some_shards = kept.some_shards;
        order = λ p. ap (of p) (append_assoc kept.taken (x ∷ []) items) ∙ kept.order p;
        ranks = kept.ranks;
        here = subst (Each (IsHere group kept.place)) (sym (append_assoc kept.taken (x ∷ []) items)) kept.here;
        once = λ h.
            let t = total_set (λ (u : PassState T). weigh h u.got) views by v w at in
            let a = weigh_append h kept.taken (x ∷ []) in
            let b = weigh_append h v.got (x ∷ []) in
            let o = kept.once h in
            omega (arith, t, a, b, o);
        parts = let t = total_set (λ (u : PassState T). u.parts) views by v w at in let o = kept.parts in omega (arith, t, o);
        seats = λ q lt. has_set views by v w at refl refl (kept.seat q) q (kept.seats q lt);
        passes = all_set (Fits kept.place taken' kept.sent kept.seat) views by w
            (record {
              opened = fits.opened;
              placed = fits.placed;
              senders = fits.senders;
              past = each_snoc (λ y. y.rank < length (of y.sender taken')) v.got x (past' v.got fits.past) (let same_sender = length_of_sender x.sender kept.taken x refl in omega (arith, same_sender, next));
              idle = λ none. absurd (omega (arith, none, part));
            })
            (λ j u apart e. let f = kept.passes j u e in record { opened = f.opened; placed = f.placed; senders = f.senders; past = past' u.got f.past; idle = f.idle });
      }

  pub takes : (by : ℕ) (v : PassState T) → 0 < v.parts → 0 < v.place.shards → Pops (Rule group) by v (Takes group v)
  takes by v part some_shards x items views rule at =
      let kept = opened (x ∷ items) views by v rule at some_shards in
      let fits = kept.passes by v at in
      let w : PassState T = pass_state v.place v.first v.end v.parts v.put (v.got ++ x ∷ []) in
      let kept' = takes_keeps by v x items views part kept at in
      let next = next_rank x items views kept in (
        w,
        inr kept',
        (
          refl,
          subst (λ (q : QueuePosition). IsHere group q x) (sym (fits.placed some_shards)) (each_at (IsHere group kept.place) kept.taken items x kept.here),
          each_so (λ y. y.rank < length (of y.sender kept.taken)) (λ y. y.sender ≡ x.sender → y.rank < x.rank) v.got
              (λ y lt same. let e : length (of y.sender kept.taken) ≡ length (of x.sender kept.taken) = ap (λ (p : ℕ). length (of p kept.taken)) same in omega (arith, lt, e, next))
              fits.past,
          (items, record { views = set views by w; by = by; kept = kept'; mine = set_here views by v w at }),
        ),
      )

  pub learns : (by : ℕ) (v : PassState T) → 0 < v.place.shards → Learns (Rule group) by v (KeptWith group v)
  learns by v some_shards items views rule at = record { views = views; by = by; kept = opened items views by v rule at some_shards; mine = at }

  opens_kept : (p : QueuePosition) → 0 < p.shards → Kept group [] (free_end {T = T} p 0 p.takers ∷ taker p 0 [] ∷ [])
  opens_kept p some_shards = record {
    place = p;
    taken = [];
    sent = λ q. [];
    seat = λ q. 0;
    some_shards = some_shards;
    order = λ q. refl;
    ranks = λ q. tt;
    here = tt;
    once = λ h. omega arith;
    parts = omega arith;
    seats = λ q lt. (free_end p 0 p.takers, refl, omega arith, lt);
    passes = all_more (Fits p [] (λ q. []) (λ q. 0)) (free_end p 0 p.takers ∷ []) (taker p 0 [])
        (fits_idle p [] (λ q. []) (λ q. 0) 1 p (λ z. some_shards) (λ z. refl) 0)
        (all_more (Fits p [] (λ q. []) (λ q. 0)) [] (free_end p 0 p.takers)
        (record { opened = λ z. some_shards; placed = λ z. refl; senders = λ q lo hi. (hi, refl, refl); past = tt; idle = λ z. refl })
        (λ j u e. absurd (some-ne-none u (sym e))));
  }

  pub opens : (by : ℕ) (p : QueuePosition) → 0 < p.shards → Forks (Rule group) by unopened (free_end p 0 p.takers) (taker p 0 [])
  opens by p some_shards items views rule at =
      ⊎_elim
      (λ (u : IsUnopened items views).
      let one = only_one unopened unopened by (ap (λ (l : List (PassState T)). get_elem? l by) (sym u.1) ∙ at) in
      subst (λ (q : List (Ranked T) × List (PassState T) × ℕ). Rule group q.0 (set q.1 q.2 (free_end p 0 p.takers) ++ taker p 0 [] ∷ [])) (λ i. (sym u.0 i, sym u.1 i, sym one.0 i)) (inr (opens_kept p some_shards)))
      (λ (kept : Kept group items views). let f = (kept.passes by unopened at).opened (omega arith) in absurd (omega (arith, f)))
      rule

  pub next_taker_forks : (by : ℕ) (v : PassState T) → 0 < v.parts → v.got ≡ [] → 0 < v.place.shards → Forks (Rule group) by v (pass_state v.place v.first v.end (v.parts - 1) v.put v.got) (taker v.place 1 [])
  next_taker_forks by v part none some_shards items views rule at =
      let kept = opened items views by v rule at some_shards in
      let fits = kept.passes by v at in
      let l : PassState T = pass_state v.place v.first v.end (v.parts - 1) v.put v.got in
      let r : PassState T = taker v.place 1 [] in
      let views' : List (PassState T) = set views by l in
      inr (changed items views (views' ++ r ∷ []) kept kept.seat
      (λ h. let t = total_set (λ (u : PassState T). weigh h u.got) views by v l at in let m = total_add (λ (u : PassState T). weigh h u.got) views' r in omega (arith, t, m))
      (let t = total_set (λ (u : PassState T). u.parts) views by v l at in let m = total_add (λ (u : PassState T). u.parts) views' r in omega (arith, t, m, part))
      (λ p lt. has_more views' r (kept.seat p) p (has_set views by v l at refl refl (kept.seat p) p (kept.seats p lt)))
      (all_more (Fits kept.place kept.taken kept.sent kept.seat) views' r
      (fits_idle kept.place kept.taken kept.sent kept.seat (length views') v.place fits.opened fits.placed 1)
      (all_set (Fits kept.place kept.taken kept.sent kept.seat) views by l
      (record { opened = fits.opened; placed = fits.placed; senders = fits.senders; past = fits.past; idle = λ z. none })
      (λ j u apart e. kept.passes j u e))))

  pub next_sender_forks : (by first end parts : ℕ) (place : QueuePosition) (v : PassState T) → first < end → 0 < place.shards → v ≡ pass_state place first end parts [] [] → Forks (Rule group) by v (other_senders v) (one_sender v)
  next_sender_forks by first end parts place v lt some_shards is = subst (λ (x : PassState T). Forks (Rule group) by x (other_senders x) (one_sender x)) (sym is) here
    where
      here : Forks (Rule group) by (pass_state place first end parts [] []) (pass_state place (suc first) end parts [] []) (sender place first [])
      here items views rule at =
          let v0 : PassState T = pass_state place first end parts [] [] in
          let kept = opened items views by v0 rule at some_shards in
          let fits = kept.passes by v0 at in
          let l : PassState T = pass_state place (suc first) end parts [] [] in
          let r : PassState T = sender place first [] in
          let owned = fits.senders first (omega arith) lt in
          let views' : List (PassState T) = set views by l in
          let seat' : ℕ → ℕ = swapped kept.seat first (length views') in
          inr (changed items views (views' ++ r ∷ []) kept seat'
          (λ h. let t = total_set (λ (u : PassState T). weigh h u.got) views by v0 l at in let m = total_add (λ (u : PassState T). weigh h u.got) views' r in omega (arith, t, m))
          (let t = total_set (λ (u : PassState T). u.parts) views by v0 l at in let m = total_add (λ (u : PassState T). u.parts) views' r in omega (arith, t, m))
          (λ p lt. dite (ℕ_discrete p first)
          (λ e. (r, ap (get_elem? (views' ++ r ∷ [])) (swapped_here kept.seat first p (length views') e) ∙ at_last views' r (length views') refl, omega (arith, e), omega (arith, e)))
          (λ ne. subst (λ (j : ℕ). HasSender (views' ++ r ∷ []) j p) (sym (swapped_else kept.seat first p (length views') ne)) (has_more views' r (kept.seat p) p (has_rest views by v0 l at (kept.seat p) p (λ lo. omega (arith, lo, ne)) refl (kept.seats p lt)))))
          (all_more (Fits kept.place kept.taken kept.sent seat') views' r
          (record {
            opened = fits.opened;
            placed = fits.placed;
            senders = λ q lo hi. let e : q ≡ first = omega (arith, lo, hi) in (subst (λ (k : ℕ). k < kept.place.senders) (sym e) owned.0, swapped_here kept.seat first q (length views') e, owned.2 ∙ ap kept.sent (sym e));
            past = tt;
            idle = λ z. refl;
          })
          (all_set (Fits kept.place kept.taken kept.sent seat') views by l
          (record {
            opened = fits.opened;
            placed = fits.placed;
            senders = λ q lo hi. let o = fits.senders q (omega (arith, lo)) hi in (o.0, swapped_else kept.seat first q (length views') (λ e. omega (arith, lo, e)) ∙ o.1, o.2);
            past = tt;
            idle = λ z. refl;
          })
          (λ j u apart e. let f = kept.passes j u e in record {
            opened = f.opened;
            placed = f.placed;
            senders = λ q lo hi. let o = f.senders q lo hi in (o.0, swapped_else kept.seat first q (length views') (λ same. apart (sym o.1 ∙ ap kept.seat same ∙ owned.1)) ∙ o.1, o.2);
            past = f.past;
            idle = f.idle;
          }))))

  pub parts : (by : ℕ) (v : PassState T) → 0 < v.place.shards → Forks (Rule group) by v (put_alone v) (got_alone v)
  parts by v some_shards items views rule at =
      let kept = opened items views by v rule at some_shards in
      let fits = kept.passes by v at in
      let l : PassState T = put_alone v in
      let r : PassState T = got_alone v in
      let views' : List (PassState T) = set views by l in
      inr (changed items views (views' ++ r ∷ []) kept kept.seat
      (λ h. let t = total_set (λ (u : PassState T). weigh h u.got) views by v l at in let m = total_add (λ (u : PassState T). weigh h u.got) views' r in omega (arith, t, m))
      (let t = total_set (λ (u : PassState T). u.parts) views by v l at in let m = total_add (λ (u : PassState T). u.parts) views' r in omega (arith, t, m))
      (λ p lt. has_more views' r (kept.seat p) p (has_set views by v l at refl refl (kept.seat p) p (kept.seats p lt)))
      (all_more (Fits kept.place kept.taken kept.sent kept.seat) views' r
      (record { opened = fits.opened; placed = fits.placed; senders = λ p lo hi. absurd (omega (arith, hi)); past = fits.past; idle = fits.idle })
      (all_set (Fits kept.place kept.taken kept.sent kept.seat) views by l
      (record { opened = fits.opened; placed = fits.placed; senders = fits.senders; past = tt; idle = λ z. refl })
      (λ j u apart e. kept.passes j u e))))

  pub meets : (by : ℕ) (v : PassState T) (other : ℕ) (w : PassState T) → 0 < v.place.shards → w.end ≡ 0 → Merges (Rule group) by v other w (together v w) spent
  meets by v other w some_shards none items views rule at apart at' =
      let kept = opened items views by v rule at some_shards in
      let fits = kept.passes by v at in
      let both : PassState T = together v w in
      let views' : List (PassState T) = set views by both in
      let was : get_elem? views other ≡ some w =
      ⊎_elim (λ (x : (other ≡ by) × (both ≡ w)). absurd (apart x.0)) (λ (x : (other ≢ by) × (get_elem? views other ≡ some w)). x.1) (at_set views by other both w at') in
      let theirs = kept.passes other w was in
      inr (changed items views (set views' other spent) kept kept.seat
      (λ h.
      let t = total_set (λ (u : PassState T). weigh h u.got) views by v both at in
      let u = total_set (λ (u : PassState T). weigh h u.got) views' other w spent at' in
      let a = weigh_append h v.got w.got in
      omega (arith, t, u, a))
      (let t = total_set (λ (u : PassState T). u.parts) views by v both at in let u = total_set (λ (u : PassState T). u.parts) views' other w spent at' in omega (arith, t, u))
      (λ p lt. has_still views' other w spent at' none (kept.seat p) p (has_set views by v both at refl refl (kept.seat p) p (kept.seats p lt)))
      (all_set (Fits kept.place kept.taken kept.sent kept.seat) views' other spent
      (fits_idle kept.place kept.taken kept.sent kept.seat other (spent {T = T}).place (λ z. absurd (omega (arith, z))) (λ z. absurd (omega (arith, z))) 0)
      (λ j u apart' e. all_set (Fits kept.place kept.taken kept.sent kept.seat) views by both
      (record {
        opened = fits.opened;
        placed = fits.placed;
        senders = fits.senders;
        past = each_append (λ y. y.rank < length (of y.sender kept.taken)) v.got w.got fits.past theirs.past;
        idle = λ no_part. (λ i. fits.idle (omega (arith, no_part)) i ++ theirs.idle (omega (arith, no_part)) i);
      })
      (λ j u apart'' e. kept.passes j u e) j u e)))

  pub accepts : (by : ℕ) (v : PassState T) → v.end ≡ suc v.first → 0 < v.place.shards → Learns (Rule group) by v (Accounts v)
  accepts by v end some_shards items views rule at =
      let kept = opened items views by v rule at some_shards in
      let fits = kept.passes by v at in
      let p = v.first in
      let put : of p kept.taken ++ of p items ≡ v.put = sym (of_append p kept.taken items) ∙ (kept.order p ∙ sym (fits.senders p (omega arith) (omega (arith, end))).2) in (
        (λ h.
            let mine = weigh_of p h v.got in
            let part = part_of_total (λ (u : PassState T). weigh (weight_of p h) u.got) views by v at in
            let all = kept.once (weight_of p h) in
            let took = weigh_of p h kept.taken in
            let both = weigh_append h (of p kept.taken) (of p items) in
            let is = ap (weigh h) put in
            omega (arith, mine, part, all, took, both, is)),
        (λ whole h.
            let same : (g : Ranked T → ℕ) → weigh g (of p v.got) ≡ weigh g (of p kept.taken) = λ g.
            let mine = weigh_of p g v.got in
            let alone = total_alone (λ (u : PassState T). weigh (weight_of p g) u.got) views by v at
            (kept.parts ∙ sym (whole ∙ ap (λ (q : QueuePosition). q.takers) (fits.placed some_shards)))
            (λ j u e none. ap (weigh (weight_of p g)) ((kept.passes j u e).idle none)) in
            let all = kept.once (weight_of p g) in
            let took = weigh_of p g kept.taken in
            omega (arith, mine, alone, all, took) in
            let n : length (of p v.got) ≡ length (of p kept.taken) = sym (weigh_ones (of p v.got)) ∙ same (λ _. 1) ∙ weigh_ones (of p kept.taken) in
            let cut : take (length (of p kept.taken)) v.put ≡ of p kept.taken = ap (take (length (of p kept.taken))) (sym put) ∙ take-append_seam (of p kept.taken) (of p items) in
            same h ∙ ap (weigh h) (sym (ap (λ (k : ℕ). take k v.put) n ∙ cut))),
      )
