-- The end of `test`.
use Rattle.std.proofs.Common.{inl, Bool, List, ℕ, Option}
use Rattle.class_tests.specs.declared.tests.TestEnd.{TestEnd}
use Rattle.program_files.specs.Files.{Disk}
use Rattle.radoscls_program.specs.Streams.{Stream}
use Rattle.radoscls_program.specs.Tested.{EndIsShown, IsTested, TestEnds}
use Rattle.radoscls_program.specs.declared.status.ExitStatus.{ExitStatus}
use Rattle.radoscls_program.specs.declared.status.ExitStatus.TheVariants.{Done, Refused, Usage}
use Rattle.radoscls_program.specs.declared.task.Testing.{Testing}

module _ (disk : Option Disk) (old new : Stream) (asked : Testing) (is_explained : Bool) where
  -- by an end that is shown
  pub shown : (end : TestEnd) (lines : List ℕ) (status : ExitStatus) → IsTested disk asked end lines → EndIsShown old new end lines status
      → TestEnds disk old new asked is_explained status
  shown end lines Done tested shows = record { end = end; lines = lines; tested = tested; shown = shows }
  shown end lines Refused tested shows = inl (record { end = end; lines = lines; tested = tested; shown = shows })
  shown end lines Usage tested none = absurd none
