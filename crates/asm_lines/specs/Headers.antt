-- What a `.method` line says of its method.
use Rattle.std.specs.Prelude.{ℕ, List, Bool, ◌&&◌}
use Rattle.bpf_decode.specs.Limits.{between, is_method_name, are_flags}
use Rattle.bpf_decode.specs.declared.limits.TheConstants.{CAPACITY_LIMIT}

-- a method's name, flags, and capacities of input and output
pub record MethodHeader : Type 0 where
  pub name : List ℕ
  pub flags : ℕ
  pub in_cap : ℕ
  pub out_cap : ℕ

-- a name and numbers within the limits that all rule sets have
abbrev pub is_header : MethodHeader → Bool
is_header h = is_method_name h.name && are_flags h.flags && between 0 CAPACITY_LIMIT h.in_cap &&
    between 0 CAPACITY_LIMIT h.out_cap
