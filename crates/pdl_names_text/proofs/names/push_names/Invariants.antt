use Rattle.std.proofs.Common.{◌≡◌, ◌++◌, drop}
use Rattle.pdl_names_text.specs.Texts.{names_text}
use Rattle.pdl_names_text.proofs.names.push_names.Given as goal

-- the names that are left stand behind what is written
abbrev pub invariant-loop-x : goal.invariant-loop-x
invariant-loop-x l = l.text.items ++ names_text (drop l.x-index l.names) ≡ l.fn.text.items ++ names_text l.names
