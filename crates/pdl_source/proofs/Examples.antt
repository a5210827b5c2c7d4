-- A written text that keeps the rules, with two `if`s on one expression; so the theorems on texts speak of it.
use Rattle.std.proofs.Common.{◌≡◌, refl, ℕ, Bool, true, false, ◌&&◌, codes, List, [], ◌∷◌}
use Rattle.std.proofs.lemmas.Bool.{and_parts}
use Rattle.pdl_semantics.specs.Tree.{Expr, Pipe}
use Rattle.pdl_syntax_tokens.specs.Tokens.{Row, piece_at, tokens}
use Rattle.pdl_syntax_cursor.specs.declared.limits.LimitCounts.{LimitCounts}
use Rattle.pdl_syntax_cursor.specs.Limits.{counts_after, is_within, AreWithin, at_start}
use Rattle.pdl_syntax_grammar.specs.Grammar.{last, Level, Full, whole, tighter, inverted, variable, branching, calling, none, more, parameter, unlocked, memory, given, starting, text}
use Rattle.pdl_syntax_grammar.specs.Text.{IsText}
use Rattle.pdl_rules.specs.Refusal.{KeepsRules}
use Rattle.pdl_rules.proofs.Unbroken.{keeps_unbroken}
use Rattle.pdl_source_paths.specs.Source.{is_source, is_named}
use Rattle.pdl_source.proofs.Texts.{source_of, named_of}

abbrev two_alike : List ℕ
two_alike = codes "pipe p(n: uint<1>)[m: uint<1>[2] comb]{if(~n){}if(~n){}call(n);}start p(1'd0);"

-- an operand alone
alone : {e : Expr} {a r : Row} → Level 0 e a r → Full e a r
alone l = whole (tighter (tighter (tighter (tighter (tighter (tighter (tighter (tighter l))))))))

-- whether the counts stay within the limits
abbrev stays : LimitCounts → Row → Bool
stays c [] = true
stays c (t ∷ ts) = is_within (counts_after c t.kind) && stays (counts_after c t.kind) ts

within_of : (c : LimitCounts) (ts : Row) → stays c ts ≡ true → AreWithin c ts
within_of c [] e = tt
within_of c (t ∷ ts) e = let h = and_parts (is_within (counts_after c t.kind)) (stays (counts_after c t.kind) ts) e in
    (h.0, within_of (counts_after c t.kind) ts h.1)

abbrev its_tree : (p : Pipe) × IsText two_alike p
unfolding piece_at
its_tree = (
  _,
  record {
    text = text (last parameter) (last (memory false unlocked))
        (more (branching (alone (inverted variable)) none) (more (branching (alone (inverted variable)) none) (more (calling (last (alone variable))) none)))
        (starting (last given));
    within = within_of at_start (tokens two_alike) refl;
  },
)

its_rules : KeepsRules its_tree.0
unfolding its_tree
its_rules = keeps_unbroken its_tree.0 refl

its_shape : (is_source its_tree.0 ≡ true) × (is_named its_tree.0 ≡ true)
its_shape = (source_of two_alike its_tree.0 its_tree.1, named_of two_alike its_tree.0 its_tree.1)
