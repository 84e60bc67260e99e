-- A field of an image that is read is the field that was written, and what was written is read
-- again.
use Rattle.std.proofs.Common.{◌≡◌, ℕ, suc, ◌+◌, ◌*◌, ◌/◌, ◌%◌, ◌^◌, ◌<◌, ◌≤◌, Bool, true, false, List, [], ◌∷◌, ◌++◌, length, take, drop, Option, None, Result, Ok, Err, refl, sym, ap, subst, ◌∙◌, append_assoc, arith, length-append, inl, inr}
use Rattle.std.specs.Prelude.{◌⊎◌, ◌||◌, ◌==◌, nat_le}
use Rattle.std.specs.List.{AllByRecursion}
use Rattle.std.specs.Cmp.Lexicographic.{slice_cmp}
use Rattle.std.specs.Ordering.{nat_cmp, is_lt}
use Rattle.std.specs.declared.cmp.Ordering.{Ordering}
use Rattle.std.specs.declared.cmp.Ordering.TheVariants.{Less, Equal, Greater}
use Rattle.byteorder.specs.Endian.{little_number, little_bytes}
use Rattle.std.proofs.lemmas.Bool.{eqb-true, leb-true, le-leb}
use Rattle.std.proofs.Common.{eq-eqb}
use Rattle.std.proofs.lemmas.List.{take_at, drop_at, take-append-drop, length-take-le}
use Rattle.std.specs.Str.{IsAscii, IsUtf8}
use Rattle.std.proofs.lemmas.Str.{IsUtf8-from_ascii}
use Rattle.std.proofs.lemmas.Str.Ascii.{IsAscii-nil, IsAscii-cons}
use Rattle.bpf_decode.specs.declared.decode_error.DecodeError.{DecodeError}
use Rattle.bpf_decode.specs.declared.decode_error.DecodeError.TheVariants.{Truncated, Name, Order, Flags, Limit}
use Rattle.bpf_decode.specs.declared.insn.Insn.{Insn}
use Rattle.bpf_decode.specs.Instruction.{AllFit, spelling, slot_total}
use Rattle.loop_heads.specs.Loops.{PlainLoops}
use Rattle.loop_bytes.specs.declared.heads_error.HeadsError.{HeadsError}
use Rattle.loop_bytes.specs.HeadBytes.{loops_bytes, AreLoopsOf}
use Rattle.loop_bytes.specs.Reading.{loops_from}
use Rattle.loop_bytes.proofs.Exact.{are_bytes, each_is, are_left}
use Rattle.loop_bytes.proofs.ExactLoops.{loops_exact}
use Rattle.bpf_decode.specs.Class.{IsNameByte, starts, MayLoop, heads_bytes}
use Rattle.bpf_decode.specs.Reading.{◌>>=◌, checked, code_of}
use Rattle.bpf_decode.specs.Limits.{between, is_name_byte, are_name_bytes, capacity_limit}
use Rattle.bpf_decode.specs.ImageReading.{is_above, byte_at, number_at, bytes_at, name_at, flags_at, capacity_at, code_at, loops_read, heads_at}
use Rattle.bpf_decode.proofs.Bytes.{IsBytes, IsBytes-drop, IsBytes-take, IsBytes-rest, bind_ok, checked_ok, both_true}
use Rattle.bpf_decode.proofs.CodeLaws.{length-spelling, code_takes, code_again}
use Rattle.bpf_decode.specs.declared.limits.TheConstants.{NAME_LIMIT, CAPACITY_LIMIT, SLOT_LIMIT}
use Rattle.bpf_decode.specs.declared.rule_set.RuleSet.{RuleSet}
use Rattle.bpf_decode.specs.declared.rule_set.RuleSet.TheVariants.{One, Two, Three}

-- what a reader took from the front
pub record Takes (bytes text rest : List ℕ) : Type 0 where
  pub parts : bytes ≡ text ++ rest
  pub rest_fits : IsBytes rest

pub Takes-then : (a x b y c : List ℕ) → Takes a x b → Takes b y c → Takes a (x ++ y) c
Takes-then a x b y c p q = record { parts = p.parts ∙ ap (λ (t : List ℕ). x ++ t) q.parts ∙ sym (append_assoc x y c); rest_fits = q.rest_fits }

-- a value and the bytes after it, as read
abbrev pub read_to : {A : Type 0} → A → List ℕ → Result (A × List ℕ) DecodeError
read_to x rest = Ok (x, rest)

abbrev done : {A E : Type 0} → A → Result A E
done x = Ok x

pub ok_is : {A E : Type 0} (x y : A) → done {A = A} {E = E} x ≡ done {A = A} {E = E} y → x ≡ y
ok_is x y e = cc

pub same_value : {A : Type 0} (x y : A) (r s : List ℕ) → read_to x r ≡ read_to y s → (x ≡ y) × (r ≡ s)
same_value x y r s e = let p = ok_is (x, r) (y, s) e in (ap (λ q. q.0) p, ap (λ q. q.1) p)

-- a value that was tested
pub tested : {A : Type 0} (b : Bool) (d : DecodeError) (x y : A) (r s : List ℕ) → checked b d (x, r) ≡ read_to y s → (b ≡ true) × (x ≡ y) × (r ≡ s)
tested true d x y r s e = (refl, (same_value x y r s e).0, (same_value x y r s e).1)
tested false d x y r s e = absurd cc

pub between-true : (low high n : ℕ) → between low high n ≡ true → (low ≤ n) × (n ≤ high)
between-true low high n e = let b = both_true _ _ e in (leb-true low n b.0, leb-true n high b.1)

pub between-is : (low high n : ℕ) → low ≤ n → n ≤ high → between low high n ≡ true
between-is low high n h k = rw (le-leb low n h, le-leb n high k) refl

-- ---- one byte, a number, bytes

pub byte_takes : (bytes : List ℕ) (b : ℕ) (rest : List ℕ) → IsBytes bytes → byte_at bytes ≡ Ok (b, rest) → Takes bytes (b ∷ []) rest × (b < 256)
byte_takes [] b rest fits e = absurd cc
byte_takes (c ∷ bytes) b rest fits e =
    let s = same_value c b bytes rest e in
    let first : c < 256 = fits 0 in
    let front : c ∷ bytes ≡ b ∷ rest = cc in
    (record { parts = front; rest_fits = rw (← s.1) (IsBytes-rest c bytes fits) }, omega (arith, first, s.0))

two_cells : (a b : ℕ) → a < 256 → b < 256 → (a ∷ b ∷ []) ≡ little_bytes 2 (a + 256 * (b + 256 * 0))
two_cells a b h k =
    let e1 : a ≡ (a + 256 * (b + 256 * 0)) % 256 = omega arith in
    let e2 : b ≡ (a + 256 * (b + 256 * 0)) / 256 ^ 1 % 256 = omega arith in
    cc

pub number_takes : (bytes : List ℕ) (n : ℕ) (rest : List ℕ) → IsBytes bytes → number_at bytes ≡ Ok (n, rest) → Takes bytes (little_bytes 2 n) rest × (n < 2 ^ 16)
number_takes [] n rest fits e = absurd cc
number_takes (a ∷ []) n rest fits e = absurd cc
number_takes (a ∷ b ∷ bytes) n rest fits e =
    let t = tested (nat_le 2 (length (a ∷ b ∷ bytes))) Truncated (little_number 2 (a ∷ b ∷ bytes)) n bytes rest e in
    let h : a < 256 = fits 0 in
    let k : b < 256 = fits 1 in
    let cells = two_cells a b h k ∙ ap (little_bytes 2) t.1 in
    (record { parts = ap (λ (x : List ℕ). x ++ bytes) cells ∙ ap (λ (x : List ℕ). little_bytes 2 n ++ x) t.2; rest_fits = rw (← t.2) (IsBytes-rest b bytes (IsBytes-rest a (b ∷ bytes) fits)) }, omega (arith, h, k, t.1))

number_back : (n : ℕ) (rest : List ℕ) → n < 2 ^ 16 → little_number 2 (little_bytes 2 n ++ rest) ≡ n
number_back n rest h = omega arith

pub number_again : (n : ℕ) (rest : List ℕ) → n < 2 ^ 16 → number_at (little_bytes 2 n ++ rest) ≡ Ok (n, rest)
number_again n rest h =
    let long : nat_le 2 (length (little_bytes 2 n ++ rest)) ≡ true = le-leb 2 (suc (suc (length rest))) (omega arith) in
    ap (λ (b : Bool). checked b Truncated (little_number 2 (little_bytes 2 n ++ rest), rest)) long ∙ ap (λ (m : ℕ). read_to m rest) (number_back n rest h)

pub bytes_take : (n : ℕ) (bytes x rest : List ℕ) → IsBytes bytes → bytes_at n bytes ≡ Ok (x, rest) → Takes bytes x rest × (length x ≡ n) × IsBytes x
bytes_take n bytes x rest fits e =
    let t = tested (nat_le n (length bytes)) Truncated (take n bytes) x (drop n bytes) rest e in
    let long : n ≤ length bytes = leb-true n (length bytes) t.0 in
    let parts : bytes ≡ x ++ rest = sym (take-append-drop n bytes) ∙ ap (λ (y : List ℕ). y ++ drop n bytes) t.1 ∙ ap (λ (y : List ℕ). x ++ y) t.2 in
    (record { parts = parts; rest_fits = rw (← t.2) (IsBytes-drop n bytes fits) }, sym (ap length t.1) ∙ length-take-le n bytes long, rw (← t.1) (IsBytes-take n bytes fits))

pub bytes_again : (n : ℕ) (x rest : List ℕ) → length x ≡ n → bytes_at n (x ++ rest) ≡ Ok (x, rest)
bytes_again n x rest len =
    let long : nat_le n (length (x ++ rest)) ≡ true = le-leb n (length (x ++ rest)) (omega (arith, length-append x rest)) in
    rw (long, take_at x rest n len, drop_at x rest n len) refl

-- ---- names

either : (a b : Bool) → (a || b) ≡ true → (a ≡ true) ⊎ (b ≡ true)
either true b e = inl refl
either false b e = inr e

name_byte_is : (b : ℕ) → is_name_byte b ≡ true → IsNameByte b
name_byte_is b e =
    elim (either _ _ e) [
      | inl f ↦ elim (either _ _ f) [ inl g ↦ inl (between-true 97 122 b g) | inr g ↦ inr (inl (between-true 48 57 b g)) ]
      | inr f ↦ inr (inr (eqb-true b 95 f))
    ]

or_left : (a b : Bool) → a ≡ true → (a || b) ≡ true
or_left true b e = refl
or_left false b e = absurd cc

or_right : (a b : Bool) → b ≡ true → (a || b) ≡ true
or_right true b e = refl
or_right false b e = e

name_byte_again : (b : ℕ) → IsNameByte b → is_name_byte b ≡ true
name_byte_again b (inl h) = or_left _ (b == 95) (or_left (between 97 122 b) (between 48 57 b) (between-is 97 122 b h.0 h.1))
name_byte_again b (inr (inl h)) = or_left _ (b == 95) (or_right (between 97 122 b) (between 48 57 b) (between-is 48 57 b h.0 h.1))
name_byte_again b (inr (inr h)) = or_right (between 97 122 b || between 48 57 b) (b == 95) (eq-eqb b 95 h)

pub letters_are : (name : List ℕ) → are_name_bytes name ≡ true → AllByRecursion IsNameByte name
letters_are [] e = tt
letters_are (b ∷ bs) e = let a = both_true _ _ e in (name_byte_is b a.0, letters_are bs a.1)

pub letters_again : (name : List ℕ) → AllByRecursion IsNameByte name → are_name_bytes name ≡ true
letters_again [] h = refl
letters_again (b ∷ bs) h = rw (name_byte_again b h.0, letters_again bs h.1) refl

less_is : (o : Ordering) → is_lt o ≡ true → o ≡ Less
less_is Less e = refl
less_is Equal e = absurd cc
less_is Greater e = absurd cc

pub above_is : (before name : List ℕ) → is_above before name ≡ true → slice_cmp nat_cmp before name ≡ Less
above_is before name e = less_is (slice_cmp nat_cmp before name) e

pub above_again : (before name : List ℕ) → slice_cmp nat_cmp before name ≡ Less → is_above before name ≡ true
above_again before name e = ap is_lt e

-- a name within the limits, above the one before it
pub record IsNameAfter (before name : List ℕ) : Type 0 where
  pub named : 1 ≤ length name
  pub short : length name ≤ NAME_LIMIT
  pub letters : AllByRecursion IsNameByte name
  pub above : slice_cmp nat_cmp before name ≡ Less

pub name_takes : (before bytes name rest : List ℕ) → IsBytes bytes → name_at before bytes ≡ Ok (name, rest) → Takes bytes (length name ∷ name) rest × IsNameAfter before name
unfolding name_at
name_takes before bytes name rest fits e =
    let a = bind_ok (byte_at bytes) (λ n. checked (between 1 NAME_LIMIT n.0) Name n >>= λ sized. bytes_at n.0 n.1 >>= λ x. checked (are_name_bytes x.0) Name x >>= λ lettered. checked (is_above before x.0) Order x) (name, rest) e in
    let n = a.0.0 in
    let t = byte_takes bytes n a.0.1 fits a.1 in
    let b = bind_ok (checked (between 1 NAME_LIMIT n) Name a.0) (λ sized. bytes_at n a.0.1 >>= λ x. checked (are_name_bytes x.0) Name x >>= λ lettered. checked (is_above before x.0) Order x) (name, rest) a.2 in
    let sized = between-true 1 NAME_LIMIT n (checked_ok (between 1 NAME_LIMIT n) Name a.0 b.0 b.1).0 in
    let c = bind_ok (bytes_at n a.0.1) (λ x. checked (are_name_bytes x.0) Name x >>= λ lettered. checked (is_above before x.0) Order x) (name, rest) b.2 in
    let x = c.0.0 in
    let u = bytes_take n a.0.1 x c.0.1 t.0.rest_fits c.1 in
    let d = bind_ok (checked (are_name_bytes x) Name c.0) (λ lettered. checked (is_above before x) Order c.0) (name, rest) c.2 in
    let letters = letters_are x (checked_ok (are_name_bytes x) Name c.0 d.0 d.1).0 in
    let last = tested (is_above before x) Order x name c.0.1 rest d.2 in
    let both : Takes bytes (n ∷ x) c.0.1 = Takes-then bytes (n ∷ []) a.0.1 x c.0.1 t.0 u.0 in
    let whole : Takes bytes (length x ∷ x) c.0.1 = subst (λ (k : ℕ). Takes bytes (k ∷ x) c.0.1) (sym u.1) both in
    let known : IsNameAfter before x = record { named = omega (arith, u.1, sized.0); short = omega (arith, u.1, sized.1); letters = letters; above = above_is before x last.0 } in
    subst (λ (y : List ℕ). Takes bytes (length y ∷ y) rest × IsNameAfter before y) last.1 (subst (λ (r : List ℕ). Takes bytes (length x ∷ x) r) last.2 whole, known)

pub name_again : (before name rest : List ℕ) → IsNameAfter before name → name_at before (length name ∷ (name ++ rest)) ≡ Ok (name, rest)
unfolding name_at
name_again before name rest h =
    let first : ℕ × List ℕ = (length name, name ++ rest) in
    let second : List ℕ × List ℕ = (name, rest) in
    ap (λ (b : Bool). checked b Name first >>= λ sized. bytes_at (length name) (name ++ rest) >>= λ x. checked (are_name_bytes x.0) Name x >>= λ lettered. checked (is_above before x.0) Order x) (between-is 1 NAME_LIMIT (length name) h.named h.short)
    ∙ ap (λ (r : Result (List ℕ × List ℕ) DecodeError). r >>= λ x. checked (are_name_bytes x.0) Name x >>= λ lettered. checked (is_above before x.0) Order x) (bytes_again (length name) name rest refl)
    ∙ ap (λ (b : Bool). checked b Name second >>= λ lettered. checked (is_above before name) Order second) (letters_again name h.letters)
    ∙ ap (λ (b : Bool). checked b Order second) (above_again before name h.above)

-- ---- flags, capacities and code

pub flags_take : (bytes : List ℕ) (flags : ℕ) (rest : List ℕ) → IsBytes bytes → flags_at bytes ≡ Ok (flags, rest) → Takes bytes (flags ∷ []) rest × (1 ≤ flags) × (flags ≤ 3)
unfolding flags_at
flags_take bytes flags rest fits e =
    let a = bind_ok (byte_at bytes) (λ n. checked (between 1 3 n.0) Flags n) (flags, rest) e in
    let t = byte_takes bytes a.0.0 a.0.1 fits a.1 in
    let last = tested (between 1 3 a.0.0) Flags a.0.0 flags a.0.1 rest a.2 in
    let known = between-true 1 3 a.0.0 last.0 in
    let here : Takes bytes (a.0.0 ∷ []) rest = subst (λ (r : List ℕ). Takes bytes (a.0.0 ∷ []) r) last.2 t.0 in
    (subst (λ (n : ℕ). Takes bytes (n ∷ []) rest) last.1 here, omega (arith, known.0, last.1), omega (arith, known.1, last.1))

pub flags_again : (flags : ℕ) (rest : List ℕ) → 1 ≤ flags → flags ≤ 3 → flags_at (flags ∷ rest) ≡ Ok (flags, rest)
unfolding flags_at
flags_again flags rest h k = ap (λ (b : Bool). checked b Flags (flags, rest)) (between-is 1 3 flags h k)

-- no rule set's capacities are above the limit of all
pub limit_wide : (rules : RuleSet) → capacity_limit rules ≤ CAPACITY_LIMIT
limit_wide One = omega arith
limit_wide Two = omega arith
limit_wide Three = omega arith

pub capacity_takes : (rules : RuleSet) (bytes : List ℕ) (n : ℕ) (rest : List ℕ) → IsBytes bytes → capacity_at rules bytes ≡ Ok (n, rest) → Takes bytes (little_bytes 2 n) rest × (n ≤ capacity_limit rules)
unfolding capacity_at
capacity_takes rules bytes n rest fits e =
    let a = bind_ok (number_at bytes) (λ n. checked (between 0 (capacity_limit rules) n.0) Limit n) (n, rest) e in
    let t = number_takes bytes a.0.0 a.0.1 fits a.1 in
    let last = tested (between 0 (capacity_limit rules) a.0.0) Limit a.0.0 n a.0.1 rest a.2 in
    let known = between-true 0 (capacity_limit rules) a.0.0 last.0 in
    let here : Takes bytes (little_bytes 2 a.0.0) rest = subst (λ (r : List ℕ). Takes bytes (little_bytes 2 a.0.0) r) last.2 t.0 in
    (subst (λ (m : ℕ). Takes bytes (little_bytes 2 m) rest) last.1 here, omega (arith, known.1, last.1))

pub capacity_again : (rules : RuleSet) (n : ℕ) (rest : List ℕ) → n ≤ capacity_limit rules → capacity_at rules (little_bytes 2 n ++ rest) ≡ Ok (n, rest)
unfolding capacity_at
capacity_again rules n rest h =
    ap (λ (r : Result (ℕ × List ℕ) DecodeError). r >>= λ n. checked (between 0 (capacity_limit rules) n.0) Limit n) (number_again n rest (omega (arith, h, limit_wide rules)))
    ∙ ap (λ (b : Bool). checked b Limit (n, rest)) (between-is 0 (capacity_limit rules) n (omega arith) h)

-- code after its number of slots
pub record IsCodeField (is : List Insn) : Type 0 where
  pub some : 1 ≤ slot_total is
  pub few : slot_total is ≤ SLOT_LIMIT
  pub fit : AllFit is

abbrev pub code_field : List Insn → List ℕ
code_field is = little_bytes 2 (slot_total is) ++ spelling is

pub code_field_takes : (bytes : List ℕ) (is : List Insn) (rest : List ℕ) → IsBytes bytes → code_at bytes ≡ Ok (is, rest) → Takes bytes (code_field is) rest × IsCodeField is
unfolding code_at
code_field_takes bytes is rest fits e =
    let a = bind_ok (number_at bytes) (λ n. checked (between 1 SLOT_LIMIT n.0) Limit n >>= λ some. bytes_at (8 * n.0) n.1 >>= λ code. code_of code.0 >>= λ js. Ok (js, code.1)) (is, rest) e in
    let n = a.0.0 in
    let t = number_takes bytes n a.0.1 fits a.1 in
    let b = bind_ok (checked (between 1 SLOT_LIMIT n) Limit a.0) (λ some. bytes_at (8 * n) a.0.1 >>= λ code. code_of code.0 >>= λ js. Ok (js, code.1)) (is, rest) a.2 in
    let known = between-true 1 SLOT_LIMIT n (checked_ok (between 1 SLOT_LIMIT n) Limit a.0 b.0 b.1).0 in
    let c = bind_ok (bytes_at (8 * n) a.0.1) (λ code. code_of code.0 >>= λ js. Ok (js, code.1)) (is, rest) b.2 in
    let code = c.0.0 in
    let u = bytes_take (8 * n) a.0.1 code c.0.1 t.0.rest_fits c.1 in
    let d = bind_ok (code_of code) (λ js. Ok (js, c.0.1)) (is, rest) c.2 in
    let s = code_takes code d.0 u.2 d.1 in
    let last = same_value d.0 is c.0.1 rest d.2 in
    let total : n ≡ slot_total d.0 = omega (arith, u.1, ap length s.spelled, length-spelling d.0) in
    let second : Takes a.0.1 (spelling d.0) c.0.1 = subst (λ (x : List ℕ). Takes a.0.1 x c.0.1) s.spelled u.0 in
    let both : Takes bytes (little_bytes 2 n ++ spelling d.0) c.0.1 = Takes-then bytes (little_bytes 2 n) a.0.1 (spelling d.0) c.0.1 t.0 second in
    let whole : Takes bytes (code_field d.0) c.0.1 = subst (λ (k : ℕ). Takes bytes (little_bytes 2 k ++ spelling d.0) c.0.1) total both in
    let here : Takes bytes (code_field d.0) rest = subst (λ (r : List ℕ). Takes bytes (code_field d.0) r) last.1 whole in
    let field : IsCodeField d.0 = record { some = omega (arith, total, known.0); few = omega (arith, total, known.1); fit = s.fit } in
    subst (λ (js : List Insn). Takes bytes (code_field js) rest × IsCodeField js) last.0 (here, field)

pub code_field_again : (is : List Insn) (rest : List ℕ) → IsCodeField is → code_at (little_bytes 2 (slot_total is) ++ (spelling is ++ rest)) ≡ Ok (is, rest)
unfolding code_at
code_field_again is rest h =
    let n = slot_total is in
    let first : ℕ × List ℕ = (n, spelling is ++ rest) in
    ap (λ (r : Result (ℕ × List ℕ) DecodeError). r >>= λ n. checked (between 1 SLOT_LIMIT n.0) Limit n >>= λ some. bytes_at (8 * n.0) n.1 >>= λ code. code_of code.0 >>= λ js. Ok (js, code.1)) (number_again n (spelling is ++ rest) (omega (arith, h.few)))
    ∙ ap (λ (b : Bool). checked b Limit first >>= λ some. bytes_at (8 * n) (spelling is ++ rest) >>= λ code. code_of code.0 >>= λ js. Ok (js, code.1)) (between-is 1 SLOT_LIMIT n h.some h.few)
    ∙ ap (λ (r : Result (List ℕ × List ℕ) DecodeError). r >>= λ code. code_of code.0 >>= λ js. Ok (js, code.1)) (bytes_again (8 * n) (spelling is) rest (length-spelling is))
    ∙ ap (λ (r : Result (List Insn) DecodeError). r >>= λ js. Ok (js, rest)) (code_again is h.fit)

-- ---- loops

loops_were_read : (r : Result (Option PlainLoops × List ℕ) HeadsError) (x : Option PlainLoops × List ℕ) → loops_read r ≡ Ok x → r ≡ Ok x
loops_were_read (Ok y) x e = ap (λ (z : Option PlainLoops × List ℕ). Ok z) (ok_is y x e)
loops_were_read (Err d) x e = absurd cc

pub heads_take : (rules : RuleSet) (is : List Insn) (bytes : List ℕ) (loops : Option PlainLoops) (rest : List ℕ) → IsBytes bytes → heads_at rules is bytes ≡ Ok (loops, rest)
    → Takes bytes (heads_bytes rules loops) rest × AreLoopsOf (starts is) loops × MayLoop rules loops
unfolding heads_at
heads_take One is bytes loops rest fits e =
    let s = same_value None loops bytes rest e in
    subst (λ (l : Option PlainLoops). Takes bytes [] rest × AreLoopsOf (starts is) l × (l ≡ None)) s.0 (record { parts = s.1; rest_fits = subst (λ (r : List ℕ). IsBytes r) s.1 fits }, tt, refl)
heads_take Two is bytes loops rest fits e =
    let s = same_value None loops bytes rest e in
    subst (λ (l : Option PlainLoops). Takes bytes [] rest × AreLoopsOf (starts is) l × (l ≡ None)) s.0 (record { parts = s.1; rest_fits = subst (λ (r : List ℕ). IsBytes r) s.1 fits }, tt, refl)
heads_take Three is bytes loops rest fits e =
    let are = are_bytes bytes fits in
    let x = (loops_exact (starts is)).exact bytes loops rest are (loops_were_read (loops_from (starts is) bytes) (loops, rest) e) in
    (record { parts = x.0; rest_fits = each_is rest (are_left bytes (loops_bytes loops) rest are x.0) }, x.1, tt)

pub heads_again : (rules : RuleSet) (is : List Insn) (loops : Option PlainLoops) (rest : List ℕ) → AreLoopsOf (starts is) loops → MayLoop rules loops → heads_at rules is (heads_bytes rules loops ++ rest) ≡ Ok (loops, rest)
unfolding heads_at
heads_again One is loops rest are may = ap (λ (l : Option PlainLoops). read_to l rest) (sym may)
heads_again Two is loops rest are may = ap (λ (l : Option PlainLoops). read_to l rest) (sym may)
heads_again Three is loops rest are may = ap (λ (r : Result (Option PlainLoops × List ℕ) HeadsError). loops_read r) ((loops_exact (starts is)).again loops rest are)

-- ---- a name is text

name_byte_small : (b : ℕ) → IsNameByte b → b < 128
name_byte_small b (inl h) = omega arith
name_byte_small b (inr (inl h)) = omega arith
name_byte_small b (inr (inr h)) = omega arith

names_ascii : (name : List ℕ) → AllByRecursion IsNameByte name → IsAscii name
names_ascii [] h = IsAscii-nil
names_ascii (b ∷ bs) h = IsAscii-cons b bs (name_byte_small b h.0) (names_ascii bs h.1)

pub names_text : (name : List ℕ) → are_name_bytes name ≡ true → IsUtf8 name
names_text name e = IsUtf8-from_ascii name (names_ascii name (letters_are name e))
