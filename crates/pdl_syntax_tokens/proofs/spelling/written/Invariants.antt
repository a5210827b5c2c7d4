use Rattle.std.proofs.Common.{◌≡◌, drop}
use Rattle.pdl_syntax_tokens.specs.Tokens.{spelling_of}
use Rattle.pdl_syntax_tokens.specs.Spelt.{spellings_view}
use Rattle.pdl_syntax_tokens.proofs.spelling.written.Given as goal

-- the text is none of the spellings so far
abbrev pub invariant-loop-spelling : goal.invariant-loop-spelling
invariant-loop-spelling l = spelling_of (spellings_view (drop l.spelling-index l.all)) l.text ≡ spelling_of (spellings_view l.all) l.text
