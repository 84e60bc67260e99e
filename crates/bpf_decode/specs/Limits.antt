-- What a class's numbers and names may be, as tests. The numbers are the constants of
-- src/limits.rt.
use Rattle.std.specs.Prelude.{ℕ, ◌==◌, ◌&&◌, ◌||◌, nat_le, Bool, true, List, [], ◌∷◌, length}
use Rattle.bpf_decode.specs.declared.limits.TheConstants.{METHOD_LIMIT, NAME_LIMIT, NARROW_CAPACITY_LIMIT}
use Rattle.bpf_decode.specs.declared.limits.TheConstants.{CAPACITY_LIMIT, SLOT_LIMIT}
use Rattle.bpf_decode.specs.declared.rule_set.RuleSet.{RuleSet}
use Rattle.bpf_decode.specs.declared.rule_set.RuleSet.TheVariants.{One, Two, Three}

-- from low to high
abbrev pub between : ℕ → ℕ → ℕ → Bool
between low high n = nat_le low n && nat_le n high

-- how many methods a class may have
abbrev pub is_method_count : ℕ → Bool
is_method_count n = between 1 METHOD_LIMIT n

-- how many bytes a method's name may have
abbrev pub is_name_length : ℕ → Bool
is_name_length n = between 1 NAME_LIMIT n

-- a to z, 0 to 9, or _
abbrev pub is_name_byte : ℕ → Bool
is_name_byte b = between 97 122 b || between 48 57 b || (b == 95)

-- each byte is one of a name
abbrev pub are_name_bytes : List ℕ → Bool
are_name_bytes [] = true
are_name_bytes (b ∷ bs) = is_name_byte b && are_name_bytes bs

-- a method's name
abbrev pub is_method_name : List ℕ → Bool
is_method_name name = is_name_length (length name) && are_name_bytes name

-- 1 reads, 2 writes, 3 both
abbrev pub are_flags : ℕ → Bool
are_flags n = between 1 3 n

-- the greatest capacity of a rule set's methods
abbrev pub capacity_limit : RuleSet → ℕ
capacity_limit One = NARROW_CAPACITY_LIMIT
capacity_limit Two = NARROW_CAPACITY_LIMIT
capacity_limit Three = CAPACITY_LIMIT

-- how many bytes input and output may have by a rule set
abbrev pub is_capacity : RuleSet → ℕ → Bool
is_capacity rules n = between 0 (capacity_limit rules) n

-- how many slots a method may have
abbrev pub is_slot_count : ℕ → Bool
is_slot_count n = between 1 SLOT_LIMIT n
