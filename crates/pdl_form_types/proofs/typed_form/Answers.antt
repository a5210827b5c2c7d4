use Rattle.pdl_form_types.proofs.FormTyping.{typed_whole}
use Rattle.pdl_form_types.proofs.typed_form.Goals as goal

pub returns : goal.returns
returns c = typed_whole
