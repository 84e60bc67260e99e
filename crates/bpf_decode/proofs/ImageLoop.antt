-- Reading one method after the other, as a loop does.
use Rattle.std.proofs.Common.{◌≡◌, Bool, true, false, length, ℕ, suc, ◌+◌, ◌-◌, ◌<◌, ◌≤◌, List, [], ◌∷◌, ◌++◌, Result, Ok, Err, refl, sym, ap, ◌∙◌, append_assoc, arith}
use Rattle.std.proofs.lemmas.List.{append-nil}
use Rattle.bpf_decode.specs.declared.decode_error.DecodeError.{DecodeError}
use Rattle.bpf_decode.specs.declared.decode_error.DecodeError.TheVariants.{Trailing}
use Rattle.bpf_decode.specs.declared.image_error.ImageError.{ImageError}
use Rattle.bpf_decode.specs.declared.image.Header.{Header}
use Rattle.bpf_decode.specs.declared.rule_set.RuleSet.{RuleSet}
use Rattle.bpf_decode.specs.Class.{ClassMethod, Class}
use Rattle.std.specs.Prelude.{◌==◌}
use Rattle.bpf_decode.specs.Reading.{◌>>=◌, checked}
use Rattle.bpf_decode.specs.ImageReading.{after, method_at, methods_at, header_at, image_of, ReadsSoFar}

abbrev pub Methods : Type 0
Methods = Result (List ClassMethod × List ℕ) ImageError

-- what was read before, and what is still read
abbrev pub with_front : List ClassMethod → Methods → Methods
with_front front read = read >>= λ x. Ok (front ++ x.0, x.1)

-- the methods so far, the name of the last one and the bytes after it
pub record Progress (rules : RuleSet) (count : ℕ) (bytes : List ℕ) (front : List ClassMethod) (done : ℕ) (before rest : List ℕ) : Type 0 where
  pub so_far : with_front front (methods_at rules (count - done) done before rest) ≡ methods_at rules count 0 [] bytes

regroup : (front : List ClassMethod) (m : ClassMethod) (read : Methods) → with_front front (read >>= λ x. Ok (m ∷ x.0, x.1)) ≡ with_front (front ++ m ∷ []) read
regroup front m (Ok x) = let same : front ++ (m ∷ x.0) ≡ (front ++ m ∷ []) ++ x.0 = sym (append_assoc front (m ∷ []) x.0) in ap (λ (ms : List ClassMethod). Ok (ms, x.1)) same
regroup front m (Err e) = refl

-- what the first of the methods left gives
abbrev first_read : RuleSet → ℕ → ℕ → Result (ClassMethod × List ℕ) DecodeError → Methods
first_read rules n done read = after done read >>= λ first. methods_at rules n (done + 1) first.0.name first.1 >>= λ others. Ok (first.0 ∷ others.0, others.1)

one_more : (rules : RuleSet) (n done : ℕ) (before rest : List ℕ) (read : Result (ClassMethod × List ℕ) DecodeError) → method_at rules before rest ≡ read → methods_at rules (suc n) done before rest ≡ first_read rules n done read
unfolding methods_at
one_more rules n done before rest read h = ap (first_read rules n done) h

-- the same for each count of methods that is reached
pub record Along (rules : RuleSet) (bytes : List ℕ) (front : List ClassMethod) (done : ℕ) (before rest : List ℕ) : Type 0 where
  pub at : (count : ℕ) → done ≤ count → Progress rules count bytes front done before rest

pub goes_on : (rules : RuleSet) (count : ℕ) (bytes : List ℕ) (front : List ClassMethod) (done : ℕ) (before rest : List ℕ) (m : ClassMethod) (behind : List ℕ) → done < count → method_at rules before rest ≡ Ok (m, behind)
    → Progress rules count bytes front done before rest → Progress rules count bytes (front ++ m ∷ []) (done + 1) m.name behind
goes_on rules count bytes front done before rest m behind lt h p =
    let n = count - (done + 1) in
    let more : count - done ≡ suc n = omega arith in
    let one : with_front front (methods_at rules (count - done) done before rest) ≡ with_front (front ++ m ∷ []) (methods_at rules n (done + 1) m.name behind) =
    ap (λ (k : ℕ). with_front front (methods_at rules k done before rest)) more ∙ ap (with_front front) (one_more rules n done before rest (Ok (m, behind)) h) ∙ regroup front m (methods_at rules n (done + 1) m.name behind) in
    record { so_far = sym one ∙ p.so_far }

pub goes_along : (rules : RuleSet) (bytes : List ℕ) (front : List ClassMethod) (done : ℕ) (before rest : List ℕ) (m : ClassMethod) (behind : List ℕ) → method_at rules before rest ≡ Ok (m, behind)
    → Along rules bytes front done before rest → Along rules bytes (front ++ m ∷ []) (done + 1) m.name behind
goes_along rules bytes front done before rest m behind h a = record { at = λ count le. goes_on rules count bytes front done before rest m behind (omega arith) h (a.at count (omega arith)) }

pub ends : (rules : RuleSet) (count : ℕ) (bytes : List ℕ) (front : List ClassMethod) (done : ℕ) (before rest : List ℕ) (e : DecodeError) → done < count → method_at rules before rest ≡ Err e
    → Progress rules count bytes front done before rest → methods_at rules count 0 [] bytes ≡ Err (record { methods = done; error = e })
ends rules count bytes front done before rest e lt h p =
    let n = count - (done + 1) in
    let more : count - done ≡ suc n = omega arith in
    sym p.so_far ∙ ap (λ (k : ℕ). with_front front (methods_at rules k done before rest)) more ∙ ap (with_front front) (one_more rules n done before rest (Err e) h)

pub is_done : (rules : RuleSet) (count : ℕ) (bytes : List ℕ) (front : List ClassMethod) (done : ℕ) (before rest : List ℕ) → count ≤ done → Progress rules count bytes front done before rest → methods_at rules count 0 [] bytes ≡ Ok (front, rest)
unfolding methods_at
is_done rules count bytes front done before rest le p =
    let none : count - done ≡ 0 = omega arith in
    sym p.so_far ∙ ap (λ (k : ℕ). with_front front (methods_at rules k done before rest)) none ∙ ap (λ (ms : List ClassMethod). Ok (ms, rest)) (append-nil front)

pub so_far : (rules : RuleSet) (count : ℕ) (bytes : List ℕ) (front : List ClassMethod) (done : ℕ) (before rest : List ℕ) → done < count → Along rules bytes front done before rest → ReadsSoFar rules count bytes done
so_far rules count bytes front done before rest lt a =
    record { methods = front; behind = rest; more = lt; read = is_done rules done bytes front done before rest (omega arith) (a.at done (omega arith)) }

-- ---- the whole image

abbrev class_with : RuleSet → List ClassMethod → Class
class_with rules ms = record { rules = rules; methods = ms }

abbrev by_header : Result (Header × List ℕ) DecodeError → Result Class ImageError
by_header read = after 0 read >>= λ h. methods_at h.0.rules h.0.count 0 [] h.1 >>= λ ms. after h.0.count (checked (length ms.1 == 0) Trailing (class_with h.0.rules ms.0))

abbrev by_methods : Header → Methods → Result Class ImageError
by_methods h read = read >>= λ ms. after h.count (checked (length ms.1 == 0) Trailing (class_with h.rules ms.0))

pub header_refused : (bytes : List ℕ) (e : DecodeError) → header_at bytes ≡ Err e → image_of bytes ≡ Err (record { methods = 0; error = e })
unfolding image_of
header_refused bytes e h = ap by_header h

pub methods_refused : (bytes : List ℕ) (h : Header) (rest : List ℕ) (e : ImageError) → header_at bytes ≡ Ok (h, rest) → methods_at h.rules h.count 0 [] rest ≡ Err e → image_of bytes ≡ Err e
unfolding image_of
methods_refused bytes h rest e read k = ap by_header read ∙ ap (by_methods h) k

abbrev by_end : Header → List ClassMethod → Bool → Result Class ImageError
by_end h ms b = after h.count (checked b Trailing (class_with h.rules ms))

pub trailing : (bytes : List ℕ) (h : Header) (rest : List ℕ) (ms : List ClassMethod) (behind : List ℕ) → header_at bytes ≡ Ok (h, rest) → methods_at h.rules h.count 0 [] rest ≡ Ok (ms, behind) → (length behind == 0) ≡ false
    → image_of bytes ≡ Err (record { methods = h.count; error = Trailing })
unfolding image_of
trailing bytes h rest ms behind read k some = ap by_header read ∙ ap (by_methods h) k ∙ ap (by_end h ms) some

pub all_read : (bytes : List ℕ) (h : Header) (rest : List ℕ) (ms : List ClassMethod) (behind : List ℕ) → header_at bytes ≡ Ok (h, rest) → methods_at h.rules h.count 0 [] rest ≡ Ok (ms, behind) → (length behind == 0) ≡ true
    → image_of bytes ≡ Ok (class_with h.rules ms)
unfolding image_of
all_read bytes h rest ms behind read k none = ap by_header read ∙ ap (by_methods h) k ∙ ap (by_end h ms) none
