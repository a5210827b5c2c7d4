-- A text that is read rule by rule, from a part of a file on.
use Rattle.std.proofs.Common.{◌≡◌, ℕ, List, [], ◌∷◌, ◌++◌, Some, sym, subst}
use Rattle.pdl_vread_text.specs.declared.part.Part.{Part}
use Rattle.pdl_vread_text.specs.declared.rule.VerilogRule.{VerilogRule}
use Rattle.pdl_vread_text.specs.declared.file.File.{File}
use Rattle.pdl_vread_text.specs.declared.draft.Draft.{Draft}
use Rattle.pdl_vread_text.specs.Tokens.{Token, tokens_from}
use Rattle.pdl_vread_text.specs.Grammar.{Row, Taken, AllFit, Derives, goes, fields, next, chosen}
use Rattle.pdl_vread_text.specs.Drafts.{taken, all_taken}

-- the text, from a line on, is what comes at a part up to the end of a file, and with it a draft becomes that of the file
pub record Completes (part : Part) (line : ℕ) (text : List ℕ) (d : Draft) (f : File) : Type 0 where
  pub rules : List Taken
  pub derives : Derives part (tokens_from 0 line text) rules
  pub same : (all_taken d rules).file ≡ f

-- the text completes each draft that has this file and no writes
abbrev pub CompletesFile : Part → ℕ → List ℕ → File → File → Type 0
CompletesFile part line text before f = (d : Draft) → d.file ≡ before → d.writes ≡ [] → Completes part line text d f

-- one rule more before a text
pub one_rule : (part : Part) (rule : VerilogRule) (line after : ℕ) (text rest : List ℕ) (t : Token) (ts : Row) (d : Draft) (f : File)
    → chosen part t.text ≡ Some rule → AllFit (fields rule) (t ∷ ts)
    → tokens_from 0 line text ≡ t ∷ ts ++ tokens_from 0 after rest
    → Completes (next rule) after rest (taken d rule (t ∷ ts)) f → Completes part line text d f
unfolding all_taken
one_rule part rule line after text rest t ts d f c a e r =
    let took : Taken = record { rule = rule; found = t ∷ ts } in
    record { rules = took ∷ r.rules; derives = subst (λ z. Derives part z (took ∷ r.rules)) (sym e) (goes c a r.derives); same = r.same }
