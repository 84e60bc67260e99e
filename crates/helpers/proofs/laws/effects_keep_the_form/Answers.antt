use Rattle.helpers.proofs.Formed.{forms_are_kept}
use Rattle.helpers.proofs.laws.effects_keep_the_form.Goals as goal

pub returns : goal.returns
returns c =
    let keeps = c.changes_keep_the_form.ensures in
    forms_are_kept (record {
      are_part = keeps.part;
      are_spliced = keeps.spliced;
      splice_fits = keeps.spliced_short;
      are_resized = keeps.resized;
      resized_length = keeps.resized_short;
      none = keeps.none;
      inserted = keeps.inserted;
      removed = keeps.removed;
    })
