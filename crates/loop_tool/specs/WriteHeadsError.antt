-- Why one method gets no heads.
use Rattle.std.specs.Prelude.{◌≡◌, string_bytes}
use Rattle.bpf_decode.specs.Class.{ClassMethod}
use Rattle.program_files.specs.declared.failure.Failure.TheVariants.{NoMemory}
use Rattle.loop_tool.specs.declared.write_heads_error.WriteHeadsError.{WriteHeadsError}
use Rattle.loop_tool.specs.declared.write_heads_error.WriteHeadsError.TheVariants.{Failed, NotFound}

-- memory was refused
abbrev pub IsMemory : WriteHeadsError → Type 0
IsMemory (Failed failed) = failed.failure ≡ NoMemory
IsMemory (NotFound lacking) = ⊥

-- memory was refused, or none are found for that method
abbrev pub IsUnheadedOf : ClassMethod → WriteHeadsError → Type 0
IsUnheadedOf m (Failed failed) = failed.failure ≡ NoMemory
IsUnheadedOf m (NotFound lacking) = string_bytes lacking.method ≡ m.name
