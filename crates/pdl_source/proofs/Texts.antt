-- The tree of a text is as the theorems on accepted pipes take it: its `if`s on expressions begin at different bytes, and no variable has the empty name.
use Rattle.std.proofs.Common.{◌≡◌, refl, sym, ap, ap₂, subst, ◌∙◌, ℕ, suc, true, false, not, ◌||◌, List, [], ◌∷◌, ◌++◌, map, Option, Some, None, append_assoc}
use Rattle.std.specs.List.{list_any}
use Rattle.pdl_semantics.specs.Tree.{Param, LockDecl, Mem, Pipe}
use Rattle.pdl_syntax_tokens.specs.declared.token.Mark.{Mark}
use Rattle.pdl_syntax_tokens.specs.Tokens.{Row, tokens}
use Rattle.pdl_syntax_grammar.specs.Grammar.{Listed, last, further, Lock, unlocked, locked, Memory, memory, advisory, Parameter, parameter, Text, text}
use Rattle.pdl_syntax_grammar.specs.Text.{IsText}
use Rattle.pdl_rules.specs.Places.{Place, statements, places}
use Rattle.pdl_rules.specs.Places as place
use Rattle.pdl_rules.specs.Names.{OfVariable, defines_use}
use Rattle.pdl_source_paths.specs.Source.{own_start, is_source, is_named}
use Rattle.pdl_source_paths.proofs.IfBytes.{Next, Ascends, apart_ascending}
use Rattle.pdl_source.proofs.Words.{Stand, letters, later, tokens_stand}
use Rattle.pdl_source.proofs.Statements.{Ordered, Follows, items_ordered}
use Rattle.pdl_rules.proofs.EachPlace.{closing}

-- ---- before the body

parameters_ordered : (close : Mark) (ps : List Param) (a r : Row) → Listed Parameter close ps a r → (xs : List Place)
    → Follows r xs → Follows a (map place.Parameter ps ++ xs)
parameters_ordered close ps a r (last parameter) xs f n h = (letters h refl, f n (later 7 h))
parameters_ordered close ps a r (further parameter l) xs f n h = (letters h refl, parameters_ordered _ _ _ _ l xs f n (later 7 h))

after_lock : (lock : Option LockDecl) (a r : Row) → Lock lock a r → (n : ℕ) → Stand n a → Stand n r
after_lock lock a r unlocked n h = h
after_lock lock a r locked n h = later 5 h

memories_ordered : (close : Mark) (ms : List Mem) (a r : Row) → Listed Memory close ms a r → (xs : List Place)
    → Follows r xs → Follows a (map place.Memory ms ++ xs)
memories_ordered close ms a r (last (memory d l)) xs f n h = (refl, f n (later 1 (after_lock _ _ _ l n (later 10 h))))
memories_ordered close ms a r (last advisory) xs f n h = (refl, f n (later 11 h))
memories_ordered close ms a r (further (memory d l) ls) xs f n h = (refl, memories_ordered _ _ _ _ ls xs f n (later 1 (after_lock _ _ _ l n (later 10 h))))
memories_ordered close ms a r (further advisory ls) xs f n h = (refl, memories_ordered _ _ _ _ ls xs f n (later 11 h))

-- ---- texts

closing_ordered : (p : Pipe) (r : Row) → Follows r (closing p)
closing_ordered p r n h = (refl, (refl, tt))

text_ordered : (p : Pipe) (a r : Row) → Text p a r → (n : ℕ) → Stand n a
    → Ordered n (map place.Parameter p.params ++ (map place.Memory p.mems ++ (statements [] p.body ++ closing p)))
text_ordered p a r (text params mems body start) n h =
    let body_ordered = items_ordered _ _ _ body [] _ (closing_ordered p _) in
    let mems_ordered = memories_ordered _ _ _ _ mems _ (λ k g. body_ordered k (later 1 g)) in
    parameters_ordered _ _ _ _ params _ (λ k g. mems_ordered k (later 1 g)) n (later 3 h)

in_text_order : (p : Pipe) → map place.Parameter p.params ++ (map place.Memory p.mems ++ (statements [] p.body ++ closing p)) ≡ places p
in_text_order p =
    sym (append_assoc (map place.Parameter p.params) (map place.Memory p.mems) (statements [] p.body ++ closing p))
    ∙ sym (append_assoc (map place.Parameter p.params ++ map place.Memory p.mems) (statements [] p.body) (closing p))

places_ordered : (bytes : List ℕ) (p : Pipe) → IsText bytes p → Ordered 0 (places p)
places_ordered bytes p t = subst (Ordered 0) (in_text_order p) (text_ordered p (tokens bytes) [] t.text 0 (tokens_stand 0 0 1 bytes))

-- ---- what the theorems take

ascends : (n : ℕ) (xs : List Place) → Ordered n xs → Ascends n xs
ascends n [] h = tt
ascends n (x ∷ xs) h = at (own_start x) h.1 (λ m i. ascends m xs i)
  where
    at : (o : Option ℕ) → Next n o (λ m. Ordered m xs) → ((m : ℕ) → Ordered m xs → Ascends m xs) → Next n o (λ m. Ascends m xs)
    at None i go = go n i
    at (Some k) i go = (i.0, go (suc k) i.1)

lettered : (n : ℕ) (xs : List Place) → Ordered n xs → list_any (defines_use (OfVariable [])) xs ≡ false
lettered n [] h = refl
lettered n (x ∷ xs) h = ap₂ (λ b c. b || c) h.0 (at (own_start x) h.1 (λ m i. lettered m xs i))
  where
    at : (o : Option ℕ) → Next n o (λ m. Ordered m xs)
        → ((m : ℕ) → Ordered m xs → list_any (defines_use (OfVariable [])) xs ≡ false)
        → list_any (defines_use (OfVariable [])) xs ≡ false
    at None i go = go n i
    at (Some k) i go = go (suc k) i.1

-- in the tree of a text no two `if`s on expressions begin at one byte
pub source_of : (bytes : List ℕ) (p : Pipe) → IsText bytes p → is_source p ≡ true
source_of bytes p t = apart_ascending 0 (places p) (ascends 0 (places p) (places_ordered bytes p t))

-- in the tree of a text no variable has the empty name
pub named_of : (bytes : List ℕ) (p : Pipe) → IsText bytes p → is_named p ≡ true
named_of bytes p t = ap not (lettered 0 (places p) (places_ordered bytes p t))
