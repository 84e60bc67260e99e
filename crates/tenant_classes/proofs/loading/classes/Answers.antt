use Rattle.std.proofs.Common.{rules}
use Rattle.tenant_classes.proofs.loading.classes.Goals as goal

-- turned by refused_image_is_passed_over
pub returns-clause-loaded : goal.returns-clause-loaded
returns-clause-loaded g c = search rules
