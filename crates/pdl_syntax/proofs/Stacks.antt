-- The stack as the list of its symbols, the last one first.
use Rattle.std.proofs.Common.{◌≡◌, ℕ, ◌<◌, List, [], ◌∷◌, ◌++◌, map, reverse, length, Option, Some, None, is_some, IsSome, ◌↔◌, refl, sym, ap, subst, ◌∙◌, append-nil, arith}
use Rattle.std.specs.Prelude.{option_to_list}
use Rattle.std.proofs.lemmas.List.{map-append, reverse-append}
use Rattle.pdl_syntax_grammar.specs.Automaton.{Stack}
use Rattle.pdl_syntax.specs.declared.symbol.Symbol as r
use Rattle.pdl_syntax.specs.View.{symbol_view, maybe_symbol_view, top, below_top}

abbrev stack_of : List r.Symbol → Stack
stack_of xs = reverse (map symbol_view xs)

both : (old symbols : List r.Symbol) → stack_of (old ++ symbols) ≡ stack_of symbols ++ stack_of old
both old symbols = ap reverse (map-append symbol_view old symbols) ∙ reverse-append (map symbol_view old) (map symbol_view symbols)

-- symbols that are put at the end of the list stand on top of the stack
pub pushed : (old symbols now : List r.Symbol)
    → now ≡ old ++ symbols
    → reverse (map symbol_view now) ≡ reverse (map symbol_view symbols) ++ reverse (map symbol_view old)
pushed old symbols now e = ap stack_of e ∙ both old symbols

-- a symbol is taken off, or there was none
some_off : (old now : List r.Symbol) (s : r.Symbol) → old ≡ now ++ s ∷ [] → stack_of old ≡ symbol_view s ∷ stack_of now
some_off old now s e = ap stack_of e ∙ both now (s ∷ [])

none_there : (old : List r.Symbol) → length old ≡ 0 → old ≡ []
none_there [] e = refl
none_there (x ∷ xs) e = absurd (omega arith)

-- the symbol that is taken off the list is the top one of the stack, if there is one
pub popped : (old now : List r.Symbol) (x : Option r.Symbol)
    → old ≡ now ++ option_to_list x → (IsSome x ↔ (0 < length old))
    → maybe_symbol_view x ≡ top (reverse (map symbol_view old))
popped old now (Some s) e h = sym (ap top (some_off old now s e))
popped old now None e h = let k : length old ≡ 0 = grind (arith, h) in sym (ap (λ xs. top (stack_of xs)) (none_there old k))

-- what stays in the list when a symbol is taken off is the stack below the top
pub popped_below : (old now : List r.Symbol) (x : Option r.Symbol)
    → old ≡ now ++ option_to_list x → (IsSome x ↔ (0 < length old))
    → reverse (map symbol_view now) ≡ below_top (reverse (map symbol_view old))
popped_below old now (Some s) e h = sym (ap below_top (some_off old now s e))
popped_below old now None e h =
    let k : length old ≡ 0 = grind (arith, h) in
    let i : old ≡ [] = none_there old k in
    let j : now ≡ [] = sym (append-nil now) ∙ (sym e ∙ i) in
    ap stack_of j ∙ sym (ap (λ xs. below_top (stack_of xs)) i)

-- the stack is empty where the list is
pub empty_so : (xs : List r.Symbol) → xs ≡ [] → reverse (map symbol_view xs) ≡ []
empty_so xs e = ap stack_of e

-- the list is empty where the stack is
pub so_empty : (xs : List r.Symbol) → reverse (map symbol_view xs) ≡ [] → xs ≡ []
so_empty [] e = refl
so_empty (x ∷ xs) e = let k : stack_of (x ∷ xs) ≡ stack_of xs ++ symbol_view x ∷ [] = both (x ∷ []) xs in none (stack_of xs) (sym k ∙ e)
  where
    none : (ys : Stack) → ys ++ symbol_view x ∷ [] ≡ [] → x ∷ xs ≡ []
    none [] e = cc
    none (y ∷ ys) e = cc
