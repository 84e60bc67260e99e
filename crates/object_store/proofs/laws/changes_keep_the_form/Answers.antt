use Rattle.object_store.proofs.Bytes.{are_part, are_spliced, spliced_short, are_resized}
use Rattle.object_store.proofs.Flats.{length_resized}
use Rattle.object_store.proofs.Within.{any_of, none_named, inserted_named, removed_named}
use Rattle.object_store.proofs.laws.changes_keep_the_form.Goals as goal

pub returns-clause-any : goal.returns-clause-any
returns-clause-any c = any_of

pub returns-clause-part : goal.returns-clause-part
returns-clause-part c = are_part

pub returns-clause-spliced : goal.returns-clause-spliced
returns-clause-spliced c = are_spliced

pub returns-clause-spliced_short : goal.returns-clause-spliced_short
returns-clause-spliced_short c = spliced_short

pub returns-clause-resized : goal.returns-clause-resized
returns-clause-resized c = are_resized

pub returns-clause-resized_short : goal.returns-clause-resized_short
returns-clause-resized_short c = length_resized

pub returns-clause-none : goal.returns-clause-none
returns-clause-none c = none_named

pub returns-clause-inserted : goal.returns-clause-inserted
returns-clause-inserted c = inserted_named

pub returns-clause-removed : goal.returns-clause-removed
returns-clause-removed c = removed_named
