use Rattle.std.proofs.Common.{◌≡◌, ◌++◌, take, map}
use Rattle.pdl_vread_text.specs.Cursor.{token_view}
use Rattle.pdl_vread_text.specs.Grammar.{AllFit}
use Rattle.pdl_vread_text.proofs.read.sentence.Given as goal

-- the tokens taken so far are what is asked first
abbrev pub invariant-loop-field : goal.invariant-loop-field
invariant-loop-field l = record {
  fit : AllFit (take l.field-index l.fields) (map token_view l.found.items);
  split : l.fn.tokens ≡ map token_view l.found.items ++ l.tokens;
}
