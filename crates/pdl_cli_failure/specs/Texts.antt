-- What the program says where it does not do what it was asked.
use Rattle.std.specs.Prelude.{◌≡◌, ℕ, ◌≤◌, List, ◌++◌, Option, codes, decimal}
use Rattle.pdl_kit.specs.declared.rule.Rule.{Rule}
use Rattle.pdl_kit.specs.Rules.{text_of}
use Rattle.pdl_kit.specs.Counts.{Rose}
use Rattle.pdl_kit.specs.Sinks.{TakesPrefix, with_bytes}

-- a rule that a file breaks, and the line
abbrev pub refusal_text : Rule → ℕ → List ℕ
refusal_text rule line =
    codes "refused " ++ text_of rule ++ codes " line " ++ decimal line ++ codes "\n"

-- a rule that a table breaks, and the instruction
abbrev pub refused_insn_text : Rule → ℕ → List ℕ
refused_insn_text rule insn =
    codes "refused " ++ text_of rule ++ codes " insn " ++ decimal insn ++ codes "\n"

-- a text was written, whole where the sink's count of faults did not rise, else a prefix of it
pub record Says (before now : Option (List ℕ)) (faults faults_now : ℕ) (text : List ℕ)
    : Type 0 where
  pub later : faults ≤ faults_now
  pub part : TakesPrefix before now text
  pub whole : (Rose faults faults_now → ⊥) → now ≡ with_bytes text before
