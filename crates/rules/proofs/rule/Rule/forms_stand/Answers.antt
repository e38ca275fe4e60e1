use Rattle.rules.proofs.Forms.{forms_stand}
use Rattle.rules.proofs.rule.Rule.forms_stand.Goals as goal

pub returns : goal.returns
returns c = forms_stand
