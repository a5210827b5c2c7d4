-- The flat form of an accepted pipe is that of its tree.
use Rattle.std.proofs.Common.{◌≡◌}
use Rattle.pdl_syntax_tree.specs.View.{pipe_view}
use Rattle.pdl_form.specs.Form.{form_of}
use Rattle.pdl_form.specs.FormView.{form}
use Rattle.pdl_form_types.proofs.SameForms.{same_forms}
use Rattle.pdl_check.specs.declared.accepted.Accepted.{Accepted}

-- the form of an accepted pipe is that of its tree
pub form_is : (a : Accepted) → form a.flat ≡ form_of (pipe_view a.typed.pipe)
form_is a = same_forms _ _ a.lowered
