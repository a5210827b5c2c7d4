-- What the rules give of one statement where it stands: of its expressions, its arguments, its location and its lock.
use Rattle.std.proofs.Common.{◌≡◌, sym, ap, ◌∙◌, ℕ, ◌^◌, Bool, true, false, not, ◌||◌, List, [], ◌∷◌, ◌++◌, map, Some, nat_eq}
use Rattle.std.specs.Prelude.{IsTrue}
use Rattle.std.specs.List.{list_any, list_all}
use Rattle.std.specs.Cmp.Lexicographic.{pointwise}
use Rattle.std.proofs.lemmas.Bool.{or_parts, eqb-true, not-false}
use Rattle.pdl_kit.specs.declared.rule.Rule.TheVariants.{Z7, N1, N3, W1, W2, W3, W4}
use Rattle.pdl_semantics.specs.Tree.{Expr, Location, Stmt, Param, Pipe}
use Rattle.pdl_semantics.specs.Flat.{has_lock}
use Rattle.pdl_semantics.specs.Flatten.{Var, var_of, var_width, mem_of, width_of, flat}
use Rattle.pdl_semantics.specs.Stages.{mem_at}
use Rattle.pdl_rules.specs.Places.{Place, Parameter, Statement, Branch, statements, places}
use Rattle.pdl_rules.specs.Parts.{location_of, is_some_and, some_part, some_expr_of}
use Rattle.pdl_rules.specs.Names.{Use, OfMemory, reads_some, in_location, in_verify, some_use, is_undefined, names_another_pipe, is_too_early}
use Rattle.pdl_rules.specs.Widths.{variables, mem_depth, address_bits, is_wrong_address}
use Rattle.pdl_rules.specs.Locks.{is_locked}
use Rattle.pdl_rules.specs.Refusal.{KeepsRules}
use Rattle.pdl_rules.specs.Typed.{is_memory}
use Rattle.pdl_rules.specs.Typed as tree
use Rattle.pdl_rules.proofs.EachPlace.{closing}
use Rattle.pdl_rules.proofs.TypedExpressions.{Fits, of_one, typed, arguments}
use Rattle.pdl_rules.proofs.KnownVariables.{Stays, known_stay}
use Rattle.pdl_rules.proofs.Memories.{has_depth, bits_reach, deep}
use Rattle.pdl_form_types.specs.Stmts.{IsLocation}
use Rattle.pdl_form_types.proofs.VariableNames.{Found}
use Rattle.pdl_form_types.proofs.Memories.{memory_there, mem_low, found_depth, found_lock}
use Rattle.pdl_form_types.proofs.Memories as memories
use Rattle.pdl_form_types.proofs.VariableFacts.{After, knows, by_params}

module _ (p : Pipe) (rules : KeepsRules p) (before : List Place) (s : Stmt) (bs : List Branch) (later : List Place)
    (e : places p ≡ before ++ Statement s bs ∷ later) where
  -- what the rules ask of the expressions
  pub fits : Fits (is_too_early p before (Statement s bs)) (variables p) (λ test. some_expr_of test s)
  fits = record {
    uses = (or_parts _ _ (or_parts _ _ (rules N3 before (Statement s bs) later e)).1).1;
    widths = rules W1 before (Statement s bs) later e;
    ranges = (or_parts _ _ (rules W2 before (Statement s bs) later e)).1;
    values = (or_parts _ _ (rules W2 before (Statement s bs) later e)).0;
    literals = rules Z7 before (Statement s bs) later e;
    choices = (or_parts _ _ (rules W3 before (Statement s bs) later e)).1;
  }

  module _ (vs : List Var) (b : After p before vs) where
    -- the variables so far keep their widths
    keeps : Stays b.us (variables p)
    keeps = known_stay p b.us before (Statement s bs ∷ later) e b.known

    -- an expression of the statement is typed by the variables so far, and as wide by them as by all variables
    pub tree_typed : (v : Expr) → Fits (is_too_early p before (Statement s bs)) (variables p) (of_one v)
        → tree.IsTyped b.us v × (width_of (variables p) v ≡ width_of b.us v)
    tree_typed v f = typed b.us (variables p) (is_too_early p before (Statement s bs)) (knows p before vs b (Statement s bs)) (λ x t. (keeps x t).1) v f

    -- expressions that have the widths of the parameters are arguments by the variables so far
    pub tree_arguments : (es : List Expr) → Fits (is_too_early p before (Statement s bs)) (variables p) (λ test. list_any test es)
        → pointwise nat_eq (map (width_of (variables p)) es) (map (λ (a : Param). a.width.value) p.params) ≡ true → tree.AreArguments b.us p.params es
    tree_arguments es f h =
        arguments b.us (variables p) (is_too_early p before (Statement s bs)) (knows p before vs b (Statement s bs)) (λ x t. (keeps x t).1) p.params es f h

    module _ (at : Location) (is : location_of s ≡ Some at) where
      -- the uses of its names
      uses : (test : Use → Bool) → some_use test (Statement s bs) ≡ false → in_location test at ≡ false
      uses test h =
          sym (ap (is_some_and (in_location test)) is)
          ∙ (or_parts (is_some_and (in_location test) (location_of s)) (in_verify test s || some_expr_of (some_part (reads_some test)) s) h).0

      -- the memory of the statement's location is one of the pipe's
      pub memory : IsTrue (is_memory p.mems at.mem.name)
      memory =
          let undefined = is_undefined (places p) in
          let named = (or_parts (names_another_pipe p (Statement s bs)) (some_use undefined (Statement s bs)) (rules N1 before (Statement s bs) later e)).1 in
          memory_there p at.mem.name (or_parts (undefined (OfMemory at.mem.name)) _ (uses undefined named)).0

      -- the variable of its address is one of those so far
      pub address : IsTrue (tree.is_named b.us at.address.name)
      address =
          let early = is_too_early p before (Statement s bs) in
          knows p before vs b (Statement s bs) at.address.name
          (or_parts (early (OfMemory at.mem.name)) _ (uses early (rules N3 before (Statement s bs) later e))).1

      depths : list_all has_depth p.mems ≡ true
      depths = memories.all_deep p rules p.mems (map Parameter p.params) (statements [] p.body ++ closing p) (by_params p rules)

      reach : 2 ^ var_width b.us at.address.name ≡ mem_depth p.mems at.mem.name
      reach =
          let h = sym (ap (is_some_and (is_wrong_address p)) is) ∙ rules W4 before (Statement s bs) later e in
          let bits = eqb-true (var_width (variables p) at.address.name) (address_bits (mem_depth p.mems at.mem.name)) (not-false _ h) in
          ap (λ n. 2 ^ n) (sym (keeps at.address.name address).1 ∙ bits) ∙ bits_reach _ (deep p.mems at.mem.name depths memory)

      -- the statement's location is one of the flat form: its memory is there, and its address reaches each word
      pub located : (ws : List ℕ) → Found b.us vs ws → IsLocation (flat p) ws (mem_of p.mems at.mem.name) (var_of vs at.address.name)
      located ws f = record {
        memory = mem_low p.mems at.mem.name memory;
        var = f.number at.address.name address;
        reach = ap (λ n. 2 ^ n) (f.width at.address.name address) ∙ reach ∙ sym (found_depth p.mems at.mem.name);
      }

-- a memory that has a lock has it in the flat form
pub locked : (p : Pipe) (m : List ℕ) → not (is_locked p.mems m) ≡ false → has_lock (mem_at (flat p) (mem_of p.mems m)).lock ≡ true
locked p m h = found_lock p.mems m ∙ not-false _ h
