use Rattle.helpers.proofs.Limits.{effects_are}
use Rattle.helpers.proofs.laws.effects_are_within_limits.Goals as goal

pub returns : goal.returns
returns c =
    let keeps = c.changes_keep_the_limits.ensures in
    effects_are (record {
      write = keeps.write;
      truncate = keeps.truncate;
      set_xattr = keeps.set_xattr;
      set_key = keeps.set_key;
      remove_xattr = keeps.remove_xattr;
      remove_key = keeps.remove_key;
      create = keeps.create;
      read = c.reads_are_within.ensures.read;
    })
