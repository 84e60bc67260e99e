-- What the values that `flat_run` takes and gives are to the definitions.
use Rattle.flat_machine.specs.declared.layout.Layout as code_layout
use Rattle.flat_machine.specs.declared.run.Ending as code_ending
use Rattle.flat_machine.specs.declared.run.Ending.TheVariants as code_endings
use Rattle.bpf_machine.specs.State.{Ending, Ended, Stuck, Unfinished}
use Rattle.bpf_machine.specs.Flat.{Layout}

-- the code's layout
abbrev pub layout_of : code_layout.Layout → Layout
layout_of lay = record { input = lay.input; output = lay.output; stack = lay.stack }

-- the code's ending
abbrev pub ending_of : code_ending.Ending → Ending
ending_of (code_endings.Ended code output object steps) =
    Ended (record { code = code; output = output.items; object = object }) steps
ending_of code_endings.Stuck = Stuck
ending_of code_endings.Unfinished = Unfinished
