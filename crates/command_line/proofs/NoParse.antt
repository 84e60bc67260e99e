-- What a parse gives.
use Rattle.std.proofs.Common.{◌≡◌, inl, inr, subst, List}
use Rattle.clap.specs.Words.{HasKind, IsAmong, Kinds, Text, fault_of, kind_of}
use Rattle.clap.specs.declared.error.Error.{Error}
use Rattle.clap.specs.declared.error.kind.ErrorKind.TheVariants.{OutOfMemory}
use Rattle.command_line.specs.CommandLine.{command_line}
use Rattle.command_line.specs.Parsed.{IsNoParse}

-- words with a fault have none
pub no_parse : (words : List Text) (e : Error) → HasKind (fault_of command_line words) e → (kind_of e ≡ OutOfMemory → ⊥) → IsNoParse words
no_parse words e (inl memory) known p is = known memory
no_parse words e (inr among) known p is = subst (λ (ks : Kinds). IsAmong (kind_of e) ks) is.faultless among
