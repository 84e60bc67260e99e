-- What a run of the program may change.
use Rattle.std.specs.Prelude.{◌≡◌}
use Rattle.program_files.specs.Files.{Storage}
use Rattle.radoscls_program.specs.Streams.{Stream}

-- The files before and after it, and standard output, old and new.
pub record Change : Type 0 where
  pub before : Storage
  pub after : Storage
  pub old : Stream
  pub new : Stream

-- by what is known of files and of an output
abbrev pub changed : {F O : Type 0} → (F → Storage) → F → F → (O → Stream) → O → O → Change
changed files before after out old new =
    record { before = files before; after = files after; old = out old; new = out new }

-- no file changed
abbrev pub KeepsFiles : Change → Type 0
KeepsFiles change = change.after ≡ change.before

-- no file changed, and nothing was printed
abbrev pub IsSilent : Change → Type 0
IsSilent change = KeepsFiles change × (change.new ≡ change.old)
