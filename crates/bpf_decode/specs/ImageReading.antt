-- Reading a class image from left to right, with the first refusal that is met.
use Rattle.std.specs.Prelude.{◌≡◌, ◌<◌, ℕ, zero, suc, ◌+◌, ◌*◌, ◌==◌, ◌⊎◌, nat_le, nat_eq, Bool, false, List, [], ◌∷◌}
use Rattle.std.specs.Prelude.{length, take, drop, get_or, codes, Option, Some, None, Result, Ok, Err, if◌then◌else◌}
use Rattle.std.specs.Cmp.Lexicographic.{slice_cmp, pointwise}
use Rattle.std.specs.Ordering.{nat_cmp, is_lt}
use Rattle.byteorder.specs.Endian.{little_number}
use Rattle.bpf_decode.specs.declared.decode_error.DecodeError.{DecodeError}
use Rattle.bpf_decode.specs.declared.decode_error.DecodeError.TheVariants.{Truncated, Magic, Name, Order, Flags, Limit}
use Rattle.bpf_decode.specs.declared.decode_error.DecodeError.TheVariants.{Trailing, NoMemory, Head}
use Rattle.bpf_decode.specs.declared.image_error.ImageError.{ImageError}
use Rattle.bpf_decode.specs.declared.insn.Insn.{Insn}
use Rattle.bpf_decode.specs.Instruction.{slot_total}
use Rattle.bpf_decode.specs.declared.image.Header.{Header}
use Rattle.bpf_decode.specs.declared.rule_set.RuleSet.{RuleSet}
use Rattle.bpf_decode.specs.declared.rule_set.RuleSet.TheVariants.{One, Two, Three}
use Rattle.bpf_decode.specs.Class.{ClassMethod, Class, starts}
use Rattle.loop_heads.specs.Loops.{PlainHead, PlainLoops}
use Rattle.loop_bytes.specs.declared.heads_error.HeadsError.{HeadsError}
use Rattle.loop_bytes.specs.declared.heads_error.HeadsError.TheVariants as heads
use Rattle.loop_bytes.specs.Reading.{loops_from}
use Rattle.bpf_decode.specs.Limits.{is_method_count, is_name_length, are_name_bytes, are_flags, is_capacity}
use Rattle.bpf_decode.specs.Limits.{is_slot_count}
use Rattle.bpf_decode.specs.Reading.{◌>>=◌, checked, code_of}

-- the name is above the one before it, by bytes; every name is above the empty one
abbrev pub is_above : List ℕ → List ℕ → Bool
is_above before name = is_lt (slice_cmp nat_cmp before name)

-- ---- fields: each is read whole and then tested, and what is read is a value and the bytes after
-- it

-- a byte, a little-endian number of two bytes, and that many bytes, each with what stands after it:
abbrev pub byte_at : List ℕ → Result (ℕ × List ℕ) DecodeError
byte_at [] = Err Truncated
byte_at (b ∷ rest) = Ok (b, rest)

abbrev pub number_at : List ℕ → Result (ℕ × List ℕ) DecodeError
number_at bytes = checked (nat_le 2 (length bytes)) Truncated (little_number 2 bytes, drop 2 bytes)

abbrev pub bytes_at : ℕ → List ℕ → Result (List ℕ × List ℕ) DecodeError
bytes_at n bytes = checked (nat_le n (length bytes)) Truncated (take n bytes, drop n bytes)

-- a name after its length
unfoldable pub name_at : List ℕ → List ℕ → Result (List ℕ × List ℕ) DecodeError
name_at before bytes = do
  n ← byte_at bytes
  sized ← checked (is_name_length n.0) Name n
  name ← bytes_at n.0 n.1
  lettered ← checked (are_name_bytes name.0) Name name
  checked (is_above before name.0) Order name

-- a method's flags
unfoldable pub flags_at : List ℕ → Result (ℕ × List ℕ) DecodeError
flags_at bytes = do
  flags ← byte_at bytes
  checked (are_flags flags.0) Flags flags

-- a capacity that the rule set allows
unfoldable pub capacity_at : RuleSet → List ℕ → Result (ℕ × List ℕ) DecodeError
capacity_at rules bytes = do
  n ← number_at bytes
  checked (is_capacity rules n.0) Limit n

-- code after its number of slots
unfoldable pub code_at : List ℕ → Result (List Insn × List ℕ) DecodeError
code_at bytes = do
  n ← number_at bytes
  some ← checked (is_slot_count n.0) Limit n
  code ← bytes_at (8 * n.0) n.1
  is ← code_of code.0
  Ok (is, code.1)

-- a refusal of loops, as one of an image
abbrev pub refusal_of : HeadsError → DecodeError
refusal_of heads.NoMemory = NoMemory
refusal_of heads.Truncated = Truncated
refusal_of heads.Limit = Limit
refusal_of (heads.Head slot) = Head slot

abbrev pub loops_read : {A : Type 0} → Result A HeadsError → Result A DecodeError
loops_read (Ok x) = Ok x
loops_read (Err e) = Err (refusal_of e)

-- the loops of a method with that code, which rule set 3 alone has
unfoldable pub heads_at : RuleSet → List Insn → List ℕ → Result (Option PlainLoops × List ℕ) DecodeError
heads_at One is bytes = Ok (None, bytes)
heads_at Two is bytes = Ok (None, bytes)
heads_at Three is bytes = loops_read (loops_from (starts is) bytes)

-- a method of those fields
abbrev pub made : List ℕ → ℕ → ℕ → ℕ → List Insn → Option PlainLoops → ClassMethod
made name flags in_cap out_cap is loops =
    record { name = name; flags = flags; in_cap = in_cap; out_cap = out_cap; instructions = is; loops = loops }

-- a method after the name of the one before it
unfoldable pub method_at : RuleSet → List ℕ → List ℕ → Result (ClassMethod × List ℕ) DecodeError
method_at rules before bytes = do
  name ← name_at before bytes
  flags ← flags_at name.1
  in_cap ← capacity_at rules flags.1
  out_cap ← capacity_at rules in_cap.1
  code ← code_at out_cap.1
  loops ← heads_at rules code.0 code.1
  Ok (made name.0 flags.0 in_cap.0 out_cap.0 code.0 loops.0, loops.1)

-- the rule set that four bytes name
abbrev pub rules_of : List ℕ → Result RuleSet DecodeError
rules_of magic =
    if pointwise nat_eq magic (codes "RCL1") then Ok One
    else (if pointwise nat_eq magic (codes "RCL2") then Ok Two
    else (if pointwise nat_eq magic (codes "RCL3") then Ok Three
    else Err Magic))

-- the rule set, by the first four bytes
unfoldable pub rules_at : List ℕ → Result (RuleSet × List ℕ) DecodeError
rules_at bytes = do
  magic ← bytes_at 4 bytes
  rules ← rules_of magic.0
  Ok (rules, magic.1)

-- the rule set, the number of methods, and a zero number
unfoldable pub header_at : List ℕ → Result (Header × List ℕ) DecodeError
header_at bytes = do
  rules ← rules_at bytes
  count ← number_at rules.1
  some ← checked (is_method_count count.0) Limit count
  none ← number_at count.1
  nothing ← checked (none.0 == 0) Magic none
  Ok (record { rules = rules.0; count = count.0 }, none.1)

-- ---- the image

-- what is read when that many methods were read whole before
abbrev pub after : {A : Type 0} → ℕ → Result A DecodeError → Result A ImageError
after methods (Ok x) = Ok x
after methods (Err e) = Err (record { methods = methods; error = e })

-- n methods, when that many were read before, the last of that name
unfoldable pub methods_at : RuleSet → ℕ → ℕ → List ℕ → List ℕ → Result (List ClassMethod × List ℕ) ImageError
methods_at rules zero done before bytes = Ok ([], bytes)
methods_at rules (suc n) done before bytes =
    after done (method_at rules before bytes) >>= λ first. methods_at rules n (done + 1) first.0.name first.1 >>=
    λ others. Ok (first.0 ∷ others.0, others.1)

-- all of the bytes
unfoldable pub image_of : List ℕ → Result Class ImageError
image_of bytes = after 0 (header_at bytes) >>= λ h. methods_at h.0.rules h.0.count 0 [] h.1 >>=
    λ ms. after h.0.count (checked (length ms.1 == 0) Trailing (record { rules = h.0.rules; methods = ms.0 }))

-- What reading an image returned is what the definition gives, unless memory ran out.
abbrev pub GivesImage : {X Y : Type 0} → (X → Y) → Result X ImageError → Result Y ImageError → Type 0
GivesImage view (Ok x) read = read ≡ Ok (view x)
GivesImage view (Err e) read = (e.error ≡ NoMemory) ⊎ (read ≡ Err e)

-- n methods are read whole, of bytes that are to have more
pub record ReadsSoFar (rules : RuleSet) (count : ℕ) (bytes : List ℕ) (n : ℕ) : Type 0 where
  pub methods : List ClassMethod
  pub behind : List ℕ
  pub more : n < count
  pub read : methods_at rules n 0 [] bytes ≡ Ok (methods, behind)

-- a refusal is the one that reading the methods gives, or want of memory at one of them
abbrev pub RefusesMethods : RuleSet → ℕ → List ℕ → ImageError → Type 0
RefusesMethods rules count bytes e =
    ((e.error ≡ NoMemory) × ReadsSoFar rules count bytes e.methods) ⊎ (methods_at rules count 0 [] bytes ≡ Err e)

-- n methods of an image are read whole, and it is to have more
pub record ReadsMethods (bytes : List ℕ) (n : ℕ) : Type 0 where
  pub header : Header
  pub rest : List ℕ
  pub read : header_at bytes ≡ Ok (header, rest)
  pub so_far : ReadsSoFar header.rules header.count rest n

-- A refusal is the one that reading gives, or want of memory after as many methods as it says.
abbrev pub RefusesImage : List ℕ → ImageError → Type 0
RefusesImage bytes e = ((e.error ≡ NoMemory) × ReadsMethods bytes e.methods) ⊎ (image_of bytes ≡ Err e)

-- ---- methods that are given

-- x, unless there is a refusal
abbrev pub unless : {A : Type 0} → Option DecodeError → A → Result A DecodeError
unless None x = Ok x
unless (Some e) x = Err e

-- the first head at which no instruction begins
abbrev pub heads_refusal : List Bool → List PlainHead → Option DecodeError
heads_refusal starts [] = None
heads_refusal starts (h ∷ hs) = if get_or starts h.slot false then heads_refusal starts hs else Some (Head h.slot)

-- loops of a method with that code: in sets 1 and 2 there are none
abbrev pub loops_refusal : RuleSet → List Insn → Option PlainLoops → Option DecodeError
loops_refusal rules is None = None
loops_refusal One is (Some l) = Some Limit
loops_refusal Two is (Some l) = Some Limit
loops_refusal Three is (Some l) = heads_refusal (starts is) l.heads

-- a method after the name of the one before it
abbrev pub method_after : RuleSet → List ℕ → ClassMethod → Result ClassMethod DecodeError
method_after rules before m = do
  sized ← checked (is_name_length (length m.name)) Name m
  lettered ← checked (are_name_bytes m.name) Name m
  above ← checked (is_above before m.name) Order m
  flagged ← checked (are_flags m.flags) Flags m
  read ← checked (is_capacity rules m.in_cap) Limit m
  written ← checked (is_capacity rules m.out_cap) Limit m
  filled ← checked (is_slot_count (slot_total m.instructions)) Limit m
  unless (loops_refusal rules m.instructions m.loops) m

-- the same of methods: `done` stand before them, the last of which has the name `before`
unfoldable pub methods_after : RuleSet → ℕ → List ℕ → List ClassMethod → Result (List ClassMethod) ImageError
methods_after rules done before [] = Ok []
methods_after rules done before (m ∷ ms) =
    after done (method_after rules before m) >>= λ first. methods_after rules (done + 1) m.name ms >>=
    λ others. Ok (first ∷ others)

-- methods that are a class's, or the first refusal in the order of an image's fields
unfoldable pub methods_of : RuleSet → List ClassMethod → Result (List ClassMethod) ImageError
methods_of rules ms = after 0 (checked (is_method_count (length ms)) Limit ms) >>= λ some. methods_after rules 0 [] ms

-- a class of that rule set and those methods, or the first refusal
abbrev pub class_of : RuleSet → List ClassMethod → Result Class ImageError
class_of rules ms = methods_of rules ms >>= λ passed. Ok (record { rules = rules; methods = passed })
