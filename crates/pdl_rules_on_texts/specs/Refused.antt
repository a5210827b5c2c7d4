-- The refusal that a broken rule stands for.
use Rattle.pdl_rules.specs.Refusal.{Refused}
use Rattle.pdl_rules_on_texts.specs.declared.broken.Broken.{Broken}

-- the refusal by a broken rule, at its line
abbrev pub refused_of : Broken → Refused
refused_of b = record { rule = b.rule; line = b.line }
