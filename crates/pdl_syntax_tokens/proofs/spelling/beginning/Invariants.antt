use Rattle.std.proofs.Common.{◌≡◌, drop}
use Rattle.pdl_syntax_tokens.specs.Tokens.{spelling_at}
use Rattle.pdl_syntax_tokens.specs.Spelt.{spellings_view}
use Rattle.pdl_syntax_tokens.proofs.spelling.beginning.Given as goal

-- the bytes begin with none of the spellings so far
abbrev pub invariant-loop-spelling : goal.invariant-loop-spelling
invariant-loop-spelling l = spelling_at (spellings_view (drop l.spelling-index l.all)) l.bytes ≡ spelling_at (spellings_view l.all) l.bytes
