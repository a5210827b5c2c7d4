-- The netlist of a source has names of PDL, and what is written of it reads as it.
use Rattle.std.proofs.Common.{◌≡◌, ℕ, Bool, true, false, List, [], ◌∷◌, ◌++◌, map, Option, refl, sym, ap, ◌∙◌, subst}
use Rattle.std.specs.Prelude.{⊤, if◌then◌else◌, filter}
use Rattle.std.specs.List.{AllByRecursion}
use Rattle.std.proofs.lemmas.List.Elements.{All-from_recursion}
use Rattle.pdl_kit.specs.declared.mem_info.MemInfo.{MemInfo}
use Rattle.pdl_semantics.specs.Tree.{LockDecl, Mem, Param, Pipe}
use Rattle.pdl_syntax_tokens.specs.declared.token.Mark.{Mark}
use Rattle.pdl_syntax_tokens.specs.Tokens.{Row, tokens}
use Rattle.pdl_syntax_grammar.specs.Grammar.{Listed, last, further, Memory, memory, advisory, Parameter, parameter, Lock, unlocked, locked, Text, text}
use Rattle.pdl_syntax_grammar.specs.Text.{IsText}
use Rattle.pdl_net.specs.declared.Netlist.{Netlist}
use Rattle.pdl_rules.specs.Refusal.{answers_at_once}
use Rattle.pdl_law_follows.specs.Memories.{answers_late}
use Rattle.pdl_law_follows.specs.Follows.{Follows}
use Rattle.pdl_vread_text.specs.Words.{is_name}
use Rattle.pdl_vlog.specs.Layout.{verilog}
use Rattle.pdl_vread.specs.Reads.{Reads}
use Rattle.pdl_verilog.specs.Names.{HasNames, IsCounted}
use Rattle.pdl_verilog.proofs.RoundTrip.{round_trip}
use Rattle.pdl_source_written.proofs.Words.{AreNamed, tokens_named}
use Rattle.pdl_rules.specs.Memories.{info_of}

-- the memories have names of PDL
abbrev HaveNames : List Mem → Type 0
HaveNames [] = ⊤
HaveNames (m ∷ ms) = (is_name m.name.name ≡ true) × HaveNames ms

lock_rest : (l : Option LockDecl) (a r : Row) → Lock l a r → AreNamed a → AreNamed r
lock_rest l a r unlocked t = t
lock_rest l a r locked t = t.1.1.1.1.1

memory_named : (m : Mem) (a r : Row) → Memory m a r → AreNamed a → (is_name m.name.name ≡ true) × AreNamed r
memory_named m a r (memory d k) t = (t.0 refl, lock_rest _ _ _ k t.1.1.1.1.1.1.1.1.1.1)
memory_named m a r advisory t = (t.0 refl, t.1.1.1.1.1.1.1.1.1.1)

memories_named : (c : Mark) (ms : List Mem) (a r : Row) → Listed Memory c ms a r → AreNamed a → HaveNames ms
memories_named c ms a r (last k) t = ((memory_named _ _ _ k t).0, tt)
memories_named c ms a r (further k l) t = let h = memory_named _ _ _ k t in (h.0, memories_named c _ _ r l h.1.1)

parameter_rest : (x : Param) (a r : Row) → Parameter x a r → AreNamed a → AreNamed r
parameter_rest x a r parameter t = t.1.1.1.1.1.1

parameters_rest : (c : Mark) (xs : List Param) (a r : Row) → Listed Parameter c xs a r → AreNamed a → AreNamed r
parameters_rest c xs a r (last k) t = (parameter_rest _ _ _ k t).1
parameters_rest c xs a r (further k l) t = parameters_rest c _ _ r l (parameter_rest _ _ _ k t).1

whole_named : (p : Pipe) (a r : Row) → Text p a r → AreNamed a → (is_name p.name.name ≡ true) × HaveNames p.mems
whole_named p a r (text params mems body start) t = (t.1.0 refl, memories_named _ _ _ _ mems (parameters_rest _ _ _ _ params t.1.1.1).1)

-- a told memory has a name of PDL
abbrev IsTold : MemInfo → Type 0
IsTold m = is_name m.name ≡ true

some_named : (test : Mem → Bool) (ms : List Mem) → HaveNames ms → AllByRecursion IsTold (map info_of (filter test ms))
some_named test [] h = tt
some_named test (m ∷ ms) h = at (test m) (some_named test ms h.1)
  where
    at : (b : Bool) → AllByRecursion IsTold (map info_of (filter test ms))
        → AllByRecursion IsTold (map info_of (if b then m ∷ filter test ms else filter test ms))
    at true g = (h.0, g)
    at false g = g

both_named : (xs ys : List MemInfo) → AllByRecursion IsTold xs → AllByRecursion IsTold ys → AllByRecursion IsTold (xs ++ ys)
both_named [] ys h g = g
both_named (x ∷ xs) ys h g = (h.0, both_named xs ys h.1 g)

-- a netlist that follows a source's pipe has names of PDL
pub names : (source : List ℕ) (p : Pipe) (n : Netlist) → IsText source p → Follows p n → HasNames n
names source p n t f =
    let h = whole_named p (tokens source) [] t.text (tokens_named 0 0 1 source) in
    record {
      netlist = ap is_name f.name ∙ h.0;
      mems =
          All-from_recursion IsTold n.mems
          (subst (AllByRecursion IsTold) (sym f.mems) (both_named _ _ (some_named answers_late p.mems h.1) (some_named answers_at_once p.mems h.1)));
    }

-- what is written of a netlist that follows a source's pipe reads as it
pub reads : (source : List ℕ) (p : Pipe) (n : Netlist) → IsText source p → Follows p n → IsCounted n → Reads (verilog n) n
reads source p n t f few = round_trip n f.well_formed (names source p n t f) few
